-- Plain texts, of ASCII characters alone: their bytes are their characters.
use Rattle.std.proofs.Common.{◌≡◌, ℕ, List, true, String, string_bytes, Result, Ok, Err, ap, ◌∙◌}
use Rattle.std.specs.List.{list_all}
use Rattle.std.specs.Str.{chars}
use Rattle.std.specs.Prelude.{IfOk}
use Rattle.std.specs.declared.alloc.AllocError.{AllocError}
use Rattle.std.specs.declared.alloc.Global.{Global}
use Rattle.pur_laws.proofs.Texts.{chars_ascii, is_ascii}
use Rattle.pur_attrlist.specs.Texts.{text_of}

-- a text that is made of a plain one
pub made-plain : (r : Result (String Global) AllocError) (text : List ℕ) → list_all is_ascii text ≡ true → IfOk r (λ s. string_bytes s ≡ text) → IfOk r (λ s. text_of s ≡ text)
made-plain (Ok s) text plain same = ap chars same ∙ chars_ascii text plain
made-plain (Err e) text plain same = tt
