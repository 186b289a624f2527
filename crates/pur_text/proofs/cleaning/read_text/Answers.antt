use Rattle.std.proofs.Common.{◌≡◌, ◌++◌, ◌∙◌, ap, subst, string_bytes, IsUtf8}
use Rattle.std.proofs.lemmas.List.{nil_from_length}
use Rattle.std.proofs.lemmas.Str.{IsUtf8-string_bytes}
use Rattle.std.specs.Str.Chunks.{utf8_chunks_rest, utf8_chunk_valid, utf8_chunk_invalid}
use Rattle.pur_text.proofs.CleaningLemmas.{chunk_read, chunk_joined, nothing_read, all_read}
use Rattle.pur_text.proofs.cleaning.read_text.Goals as goal

pub loop-chunk-init : goal.loop-chunk-init
loop-chunk-init c =
    let rest : utf8_chunks_rest c.into_iter-chunk-iterator.result ≡ c.args.bytes.now =
    ap utf8_chunks_rest c.into_iter-chunk-iterator.ensures.into_iter_gives ∙ c.utf8_chunks-chunk-items.ensures.rest in
    nothing_read _ _ _ c.new-text.ensures.bytes rest

pub loop-chunk-preserved : goal.loop-chunk-preserved
loop-chunk-preserved c =
    let chunk = c.in-Some.chunk in
    let step = c.in-Some.ensures.steps in
    let bytes = utf8_chunks_rest c.loop-chunk.chunk-iterator in
    let valid = utf8_chunk_valid chunk in
    let is_text : IsUtf8 valid = subst IsUtf8 c.valid.ensures c.valid.utf8 in
    let text = c.loop-chunk.text in
    let joined : string_bytes c.push_str.new.self ≡ string_bytes text ++ valid =
    c.in_ok-push_str.ensures.bytes ∙ ap (λ t. string_bytes text ++ t) c.valid.ensures in
    chunk_joined (string_bytes text) valid _ bytes _ _ (IsUtf8-string_bytes text) joined
    (chunk_read bytes valid (utf8_chunk_invalid chunk) _ is_text step.0 step.3.0 step.3.1) c.loop-chunk.invariant

pub returns : goal.returns
returns c = all_read _ _ _ (nil_from_length _ c.in-None.ensures.steps.0) c.loop-chunk.invariant
