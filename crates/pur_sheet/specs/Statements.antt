-- The statements of a sheet (CSS 2.1, sections 4.1.1, 4.1.5 to 4.1.8 and 4.2). Which character ends a statement is told by the quotes and
-- brackets that stand in it before that character.
use Rattle.std.specs.Prelude.{ℕ, ◌+◌, ◌-◌, ◌==◌, ◌&&◌, ◌||◌, Bool, true, false, if◌then◌else◌, List, [], ◌∷◌, ◌++◌, length, Option, Some, None, option_map}
use Rattle.std.specs.Option.{option_map_or}
use Rattle.pur_text.specs.Characters.{is_space}
use Rattle.pur_csstok.specs.Cuts.{nothing_open, is_outside, open_after}
use Rattle.pur_csstok.specs.declared.cuts.Nesting.{Nesting}
use Rattle.pur_sheet.specs.declared.statements.Brackets.{Brackets}

-- nothing is open: no quote, no parenthesis and no brace
abbrev pub no_brackets : Brackets
no_brackets = record { nesting = nothing_open; braces = 0 }

-- braces count outside quotes and parentheses; a `}` without a `{` closes nothing
abbrev pub braces_after : ℕ → ℕ → ℕ
braces_after braces c = if c == 0x7B then braces + 1 else (if c == 0x7D then braces - 1 else braces)

-- what is open behind one more character
abbrev pub brackets_after : Brackets → ℕ → Brackets
brackets_after before c = record {
  nesting = open_after true before.nesting c;
  braces = if is_outside before.nesting then braces_after before.braces c else before.braces;
}

-- what is open behind a text, where this is open before it
abbrev pub brackets_from : Brackets → List ℕ → Brackets
brackets_from before [] = before
brackets_from before (c ∷ text) = brackets_from (brackets_after before c) text

abbrev pub brackets_behind : List ℕ → Brackets
brackets_behind text = brackets_from no_brackets text

-- a text's first character is this one
abbrev pub begins_with : ℕ → List ℕ → Bool
begins_with first [] = false
begins_with first (c ∷ text) = c == first

-- a rule: what stands before the first `{` outside quotes, and what stands behind that
pub record Rule : Type 0 where
  pub prelude : List ℕ
  pub block : List ℕ

-- a rule with one more character in front of its prelude
abbrev pub in_prelude : ℕ → Rule → Rule
in_prelude c rule = record { prelude = c ∷ rule.prelude; block = rule.block }

-- the rule that a text writes, where this quote is open before it; none where no `{` stands outside quotes
unfoldable pub rule_from : Nesting → List ℕ → Option Rule
rule_from before [] = None
rule_from before (c ∷ text) =
    if is_outside before && c == 0x7B then Some (record { prelude = []; block = text })
    else option_map (in_prelude c) (rule_from (open_after false before c) text)

abbrev pub rule_of : List ℕ → Option Rule
rule_of text = rule_from nothing_open text

-- this character ends a block whose text before it is this: it is the `}` that matches the `{` before the block
abbrev pub ends_block : Brackets → ℕ → Bool
ends_block open_before c = is_outside open_before.nesting && (open_before.braces == 0 && c == 0x7D)

-- this character ends a statement that begins with `@`: it is a `;` outside all brackets, or the `}` that matches its first `{`
abbrev pub ends_at_rule : Brackets → ℕ → Bool
ends_at_rule open_before c =
    is_outside open_before.nesting && ((open_before.braces == 0 && c == 0x3B) || (open_before.braces == 1 && c == 0x7D))

-- this character ends the statement that this text begins
unfoldable pub ends_statement : List ℕ → ℕ → Bool
ends_statement front c =
    if begins_with 0x40 front then ends_at_rule (brackets_behind front) c
    else option_map_or (λ rule. ends_block (brackets_behind rule.block) c) (rule_of front) false

-- the statements of a text, each without its last character, where this text stands in one before it; white space before one is skipped,
-- and one that meets the end is dropped
unfoldable pub statements_behind : List ℕ → List ℕ → List (List ℕ)
statements_behind front [] = []
statements_behind front (c ∷ text) =
    if length front == 0 && is_space c then statements_behind [] text
    else (if ends_statement front c then front ∷ statements_behind [] text else statements_behind (front ++ c ∷ []) text)

abbrev pub statements_of : List ℕ → List (List ℕ)
statements_of text = statements_behind [] text
