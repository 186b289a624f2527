-- Texts of ASCII characters.
use Rattle.std.specs.Prelude.{ℕ, Bool, nat_lt}

-- an ASCII character
abbrev pub is_ascii : ℕ → Bool
is_ascii c = nat_lt c 128
