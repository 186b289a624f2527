use Rattle.std.proofs.Common.{◌≡◌}
use Rattle.std.specs.Str.Chunks.{utf8_chunks_rest}
use Rattle.pur_text.specs.Cleaning.{chars_of}
use Rattle.pur_text.proofs.feeding.has_character.Given as goal

abbrev pub invariant-loop-chunk : goal.invariant-loop-chunk
invariant-loop-chunk l = chars_of (utf8_chunks_rest l.chunk-iterator) ≡ chars_of l.fn.bytes
