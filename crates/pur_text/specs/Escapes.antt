-- How characters are written in a text so that no reference and no tag begins or ends with them.
use Rattle.std.specs.Prelude.{ℕ, ◌==◌, if◌then◌else◌, List, [], ◌∷◌, codes}
use Rattle.std.specs.List.{flat_map}

-- a character as it is written in a text (XML 1.0, section 2.4)
abbrev pub escape : ℕ → List ℕ
escape c =
    if c == 0x26 then codes "&amp;" else (if c == 0x3C then codes "&lt;" else (if c == 0x3E then codes "&gt;" else c ∷ []))

-- a text written so
unfoldable pub escaped : List ℕ → List ℕ
escaped text = flat_map escape text
