-- URLs (CSS 2.1, section 4.3.4).
use Rattle.std.specs.Prelude.{ℕ, ◌==◌, ◌||◌, Bool, if◌then◌else◌, List, ◌++◌, codes, Option, Some, None}
use Rattle.std.specs.List.{list_any}
use Rattle.std.specs.Option.{option_and_then, option_map_or}
use Rattle.pur_text.specs.Characters.{is_space}
use Rattle.pur_text.specs.Trimming.{trimmed}
use Rattle.pur_csstok.specs.Cuts.{is_quote}
use Rattle.pur_csstok.specs.Ends.{between, argument_of, in_quotes}

-- what a text in these quotes doesn't have: the quote, a tab or a line feed
abbrev pub breaks_quotes : ℕ → ℕ → Bool
breaks_quotes quote c = c == quote || c == 0x9 || c == 0xA

-- what a text without quotes doesn't have: quotes, parentheses and white space
abbrev pub breaks_bare : ℕ → Bool
breaks_bare c = is_quote c || c == 0x28 || c == 0x29 || is_space c

-- a text without such characters
abbrev pub without : (ℕ → Bool) → List ℕ → Option (List ℕ)
without breaks text = if list_any breaks text then None else Some text

-- the text that stands in the parentheses, in quotes of one kind or the other, or in none
unfoldable pub argument_read : List ℕ → Option (List ℕ)
argument_read text =
    option_map_or (without (breaks_quotes 0x22)) (between 0x22 text)
    (option_map_or (without (breaks_quotes 0x27)) (between 0x27 text) (without breaks_bare text))

-- the text inside `url()`, with the letters in either case
unfoldable pub url_read : List ℕ → Option (List ℕ)
url_read text = option_and_then (λ argument. argument_read (trimmed argument)) (argument_of (codes "url(") text)

-- a text in `url()`, in double quotes
abbrev pub url_text : List ℕ → List ℕ
url_text text = codes "url(" ++ (in_quotes 0x22 text ++ codes ")")
