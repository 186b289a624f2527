use Rattle.std.proofs.Common.{sym, ap, subst, ◌≡◌, ◌++◌, ◌∙◌, IsUtf8, string_bytes, append_assoc}
use Rattle.std.specs.Str.{chars}
use Rattle.std.specs.Str.Chunks.{utf8_chunks_rest, utf8_chunk_valid, utf8_chunk_invalid}
use Rattle.std.proofs.lemmas.List.{nil_from_length}
use Rattle.pur_text.specs.Cleaning.{chars_of, chars_behind}
use Rattle.pur_text.specs.Private.Feeding.{written_with}
use Rattle.pur_text.proofs.CleaningLemmas.{chars_of-IsUtf8, chunk_read}
use Rattle.pur_text.proofs.FeedingLemmas.{begins_itself, begins_on}
use Rattle.pur_text.proofs.feeding.put_bytes.Goals as goal

pub returns-in-Ok-clause-text : goal.returns-in-Ok-clause-text
returns-in-Ok-clause-text c cs =
    c.in_ok-put_text.ensures.text cs
    ∙ ap (λ t. written_with c.args.written.now (t ++ cs)) (ap chars c.in-Ok.ensures.0 ∙ sym (chars_of-IsUtf8 c.args.bytes.now c.in-Ok.ensures.1))

pub loop-chunk-init : goal.loop-chunk-init
loop-chunk-init c =
    let rest : utf8_chunks_rest c.into_iter-chunk-iterator.result ≡ c.args.bytes.now =
    ap utf8_chunks_rest c.into_iter-chunk-iterator.ensures.into_iter_gives ∙ c.utf8_chunks-chunk-items.ensures.rest in
    (λ cs. ap (λ t. written_with c.args.written.now (chars_of t ++ cs)) rest, begins_itself (string_bytes c.args.written.now.text))

pub loop-chunk-preserved : goal.loop-chunk-preserved
loop-chunk-preserved c =
    let valid = utf8_chunk_valid c.in-Some.chunk in
    let step = c.in-Some.ensures.steps in
    let is_text : IsUtf8 valid = subst IsUtf8 c.valid.ensures c.valid.utf8 in
    let behind = utf8_chunks_rest c.next.new.self in
    let rest = chunk_read (utf8_chunks_rest c.loop-chunk.chunk-iterator) valid (utf8_chunk_invalid c.in-Some.chunk) behind is_text step.0 step.3.0 step.3.1 in (
      λ cs. c.in_ok-put_text-2.ensures.text (chars_of behind ++ cs)
          ∙ ap (λ t. written_with c.loop-chunk.written (chars t ++ (chars_of behind ++ cs))) c.valid.ensures
          ∙ ap (written_with c.loop-chunk.written) (sym (append_assoc (chars valid) (chars_of behind) cs) ∙ ap (λ t. t ++ cs) (sym rest))
          ∙ c.loop-chunk.invariant.0 cs,
      begins_on _ _ _ c.loop-chunk.invariant.1 c.in_ok-put_text-2.ensures.begins,
    )

pub returns-clause-text : goal.returns-clause-text
unfolding chars_behind
returns-clause-text c cs =
    ap (λ t. written_with c.loop-chunk.written (chars_of t ++ cs)) (sym (nil_from_length _ c.in-None.ensures.steps.0)) ∙ c.loop-chunk.invariant.0 cs

pub returns-in_err-put_text-2-clause-begins : goal.returns-in_err-put_text-2-clause-begins
returns-in_err-put_text-2-clause-begins c = begins_on _ _ _ c.loop-chunk.invariant.1 c.in_err-put_text-2.ensures.begins
