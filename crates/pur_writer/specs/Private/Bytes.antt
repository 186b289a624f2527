use Rattle.std.specs.Prelude.{ℕ, Bool, ◌==◌, ◌||◌, not}

-- a byte of a text that is written as a reference: `&`, `<` or `>`
abbrev pub is_special : ℕ → Bool
is_special b = b == 0x26 || b == 0x3C || b == 0x3E

-- a byte that stands for itself
abbrev pub is_plain : ℕ → Bool
is_plain b = not (is_special b)

-- a byte that is no quotation mark
abbrev pub is_no_quote : ℕ → Bool
is_no_quote b = not (b == 0x22)
