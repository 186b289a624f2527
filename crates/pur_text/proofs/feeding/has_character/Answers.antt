use Rattle.std.proofs.Common.{◌≡◌, ◌<◌, sym, ap, subst, ◌++◌, ◌∙◌, IsUtf8, length, arith, length-append}
use Rattle.std.specs.Str.{chars}
use Rattle.std.specs.Str.Chunks.{utf8_chunks_rest, utf8_chunk_valid, utf8_chunk_invalid}
use Rattle.std.proofs.lemmas.Bool.Decides.{nat_tests}
use Rattle.std.proofs.lemmas.List.{nil_from_length}
use Rattle.pur_laws.proofs.Texts.{no_chars}
use Rattle.pur_text.specs.Cleaning.{chars_of, chars_behind}
use Rattle.pur_text.proofs.CleaningLemmas.{chunk_read}
use Rattle.pur_text.proofs.FeedingLemmas.{some_characters}
use Rattle.pur_text.proofs.feeding.has_character.Goals as goal

pub returns-then-not-is_empty-clause-yes : goal.returns-then-not-is_empty-clause-yes
returns-then-not-is_empty-clause-yes c is none =
    let valid = utf8_chunk_valid c.in-Some.chunk in
    let step = c.in-Some.ensures.steps in
    let is_text : IsUtf8 valid = subst IsUtf8 c.valid.ensures c.valid.utf8 in
    let rest = chunk_read (utf8_chunks_rest c.loop-chunk.chunk-iterator) valid (utf8_chunk_invalid c.in-Some.chunk) _ is_text step.0 step.3.0 step.3.1 in
    let is_some = sym c.if-not-is_empty.ensures in
    let longer : 0 < length c.valid.result.now = grind (arith, nat_tests) in
    let some = some_characters valid is_text (subst (λ t. 0 < length t) c.valid.ensures longer) in
    absurd (omega (arith, some, length-append (chars valid) (chars_of (utf8_chunks_rest c.next.new.self)), ap length (sym rest ∙ c.loop-chunk.invariant ∙ none)))

pub loop-chunk-preserved : goal.loop-chunk-preserved
loop-chunk-preserved c =
    let valid = utf8_chunk_valid c.in-Some.chunk in
    let step = c.in-Some.ensures.steps in
    let is_text : IsUtf8 valid = subst IsUtf8 c.valid.ensures c.valid.utf8 in
    let rest = chunk_read (utf8_chunks_rest c.loop-chunk.chunk-iterator) valid (utf8_chunk_invalid c.in-Some.chunk) _ is_text step.0 step.3.0 step.3.1 in
    let is_none = sym c.if-not-is_empty.ensures in
    let none : length c.valid.result.now ≡ 0 = grind (arith, nat_tests) in
    ap (λ t. t ++ chars_of (utf8_chunks_rest c.next.new.self)) (sym (no_chars valid (subst (λ t. length t ≡ 0) c.valid.ensures none))) ∙ sym rest ∙ c.loop-chunk.invariant

pub returns-clause-no : goal.returns-clause-no
unfolding chars_behind
returns-clause-no c is = sym c.loop-chunk.invariant ∙ ap chars_of (nil_from_length _ c.in-None.ensures.steps.0)
