-- Runs of characters that cleaning leaves as they are.
use Rattle.std.specs.Prelude.{ℕ, Bool, ◌==◌, ◌||◌, ◌&&◌, nat_lt, not}

-- the byte begins a CR or a character that isn't allowed, or may begin one
abbrev pub needs_care : ℕ → Bool
needs_care b = (nat_lt b 0x20 && not (b == 0x9) && not (b == 0xA)) || b == 0x7F || b == 0xC2 || b == 0xEF
