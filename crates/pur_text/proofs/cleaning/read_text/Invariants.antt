use Rattle.std.proofs.Common.{◌≡◌, ◌++◌, string_bytes}
use Rattle.std.specs.Str.{chars}
use Rattle.std.specs.Str.Chunks.{utf8_chunks_rest}
use Rattle.pur_text.specs.Cleaning.{chars_of}
use Rattle.pur_text.proofs.cleaning.read_text.Given as goal

abbrev pub invariant-loop-chunk : goal.invariant-loop-chunk
invariant-loop-chunk l = chars (string_bytes l.text) ++ chars_of (utf8_chunks_rest l.chunk-iterator) ≡ chars_of l.fn.bytes
