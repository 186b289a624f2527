use Rattle.std.proofs.Common.{◌≡◌, ◌++◌, ℕ, List, string_bytes}
use Rattle.std.specs.Str.Chunks.{utf8_chunks_rest}
use Rattle.pur_text.specs.Cleaning.{chars_of}
use Rattle.pur_text.specs.Private.Feeding.{BeginsWith, written_with}
use Rattle.pur_text.proofs.feeding.put_bytes.Given as goal

abbrev pub invariant-loop-chunk : goal.invariant-loop-chunk
invariant-loop-chunk l =
    ((cs : List ℕ) → written_with l.written (chars_of (utf8_chunks_rest l.chunk-iterator) ++ cs) ≡ written_with l.fn.written (chars_of l.fn.bytes ++ cs))
    × BeginsWith (string_bytes l.fn.written.text) (string_bytes l.written.text)
