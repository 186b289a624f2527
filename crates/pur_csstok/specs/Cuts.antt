-- Texts cut at the characters that stand outside quotes and parentheses (CSS 2.1, sections 4.1.1, 4.1.7 and 4.1.8).
use Rattle.std.specs.Prelude.{ℕ, ◌+◌, ◌-◌, not, ◌==◌, ◌&&◌, ◌||◌, Bool, true, false, if◌then◌else◌, List, [], ◌∷◌, Option, Some, None, is_none}
use Rattle.std.specs.List.{onto_first}
use Rattle.pur_text.specs.Characters.{is_space}
use Rattle.pur_csstok.specs.declared.cuts.Nesting.{Nesting}
use Rattle.pur_csstok.specs.declared.cuts.Separator.{Separator}
use Rattle.pur_csstok.specs.declared.cuts.Separator.TheVariants.{Semicolon, Space, Comma}

-- the characters that separate declarations, words and families
abbrev pub separates : Separator → ℕ → Bool
separates Semicolon c = c == 0x3B
separates Space c = is_space c
separates Comma c = c == 0x2C

-- families are cut inside parentheses too
abbrev pub heeds_parentheses : Separator → Bool
heeds_parentheses Semicolon = true
heeds_parentheses Space = true
heeds_parentheses Comma = false

-- nothing is open: no quote, and no parenthesis
abbrev pub nothing_open : Nesting
nothing_open = record { quote = None; depth = 0 }

abbrev pub is_outside : Nesting → Bool
is_outside nesting = is_none nesting.quote && nesting.depth == 0

abbrev pub is_quote : ℕ → Bool
is_quote c = c == 0x22 || c == 0x27

-- what is open behind a character: a quote runs to the next one like it
abbrev pub quote_after : Option ℕ → ℕ → Option ℕ
quote_after None c = if is_quote c then Some c else None
quote_after (Some quote) c = if c == quote then None else Some quote

-- how many parentheses are open behind it; a `)` without a `(` closes nothing
abbrev pub depth_after : ℕ → ℕ → ℕ
depth_after depth c = if c == 0x28 then depth + 1 else (if c == 0x29 then depth - 1 else depth)

-- parentheses count outside quotes, where they are heeded
abbrev pub open_after : Bool → Nesting → ℕ → Nesting
open_after heeds before c = record {
  quote = quote_after before.quote c;
  depth = if heeds && is_none before.quote then depth_after before.depth c else before.depth;
}

-- a text is cut at this character, where this is open before it
abbrev pub is_cut : Separator → Nesting → ℕ → Bool
is_cut separator before c = is_outside before && separates separator c

-- the pieces of a text between the separators that stand outside, where this is open before it
unfoldable pub pieces_from : Separator → Nesting → List ℕ → List (List ℕ)
pieces_from separator before [] = [] ∷ []
pieces_from separator before (c ∷ text) =
    if is_cut separator before c then [] ∷ pieces_from separator nothing_open text
    else onto_first c (pieces_from separator (open_after (heeds_parentheses separator) before c) text)

-- the pieces of a text
abbrev pub pieces : Separator → List ℕ → List (List ℕ)
pieces separator text = pieces_from separator nothing_open text

-- ---- texts that stay whole

-- the text isn't cut, and nothing is open behind it, where this is open before it
unfoldable pub stays_whole : Separator → Nesting → List ℕ → Bool
stays_whole separator before [] = is_outside before
stays_whole separator before (c ∷ text) =
    not (is_cut separator before c) && stays_whole separator (open_after (heeds_parentheses separator) before c) text

abbrev pub is_whole : Separator → List ℕ → Bool
is_whole separator text = stays_whole separator nothing_open text

-- a character that neither separates nor opens nor closes anything
abbrev pub is_plain : Separator → ℕ → Bool
is_plain separator c = not (separates separator c || is_quote c || c == 0x28 || c == 0x29)
