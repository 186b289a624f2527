-- What the reader of statements keeps of the text behind it.
use Rattle.std.specs.Prelude.{ℕ, Bool, false, ◌&&◌, ◌==◌, if◌then◌else◌, List, [], ◌∷◌, Option, Some, None}
use Rattle.pur_csstok.specs.Cuts.{nothing_open, is_outside, open_after}
use Rattle.pur_csstok.specs.declared.cuts.Nesting.{Nesting}
use Rattle.pur_sheet.specs.Statements.{Rule, no_brackets, brackets_after, brackets_behind, begins_with, rule_of, ends_block, ends_at_rule}
use Rattle.pur_sheet.specs.declared.statements.Reading.{Reading}
use Rattle.pur_sheet.specs.declared.statements.Reading.TheVariants.{Prelude, Block, AtRule}

-- what is open behind a text, quotes alone
abbrev pub quotes_from : Nesting → List ℕ → Nesting
quotes_from before [] = before
quotes_from before (c ∷ text) = quotes_from (open_after false before c) text

-- where a rule's reader stands
abbrev pub in_rule : List ℕ → Option Rule → Reading
in_rule front None = Prelude (quotes_from nothing_open front)
in_rule front (Some rule) = Block (brackets_behind rule.block)

-- what is kept of the text that a statement begins
abbrev pub reading_of : List ℕ → Reading
reading_of front = if begins_with 0x40 front then AtRule (brackets_behind front) else in_rule front (rule_of front)

abbrev pub reading_after : Reading → ℕ → Reading
reading_after (Prelude nesting) c = if is_outside nesting && c == 0x7B then Block no_brackets else Prelude (open_after false nesting c)
reading_after (Block brackets) c = Block (brackets_after brackets c)
reading_after (AtRule brackets) c = AtRule (brackets_after brackets c)

abbrev pub reading_ends : Reading → ℕ → Bool
reading_ends (Prelude nesting) c = false
reading_ends (Block brackets) c = ends_block brackets c
reading_ends (AtRule brackets) c = ends_at_rule brackets c

-- what is kept of the first character of a statement
abbrev pub reading_from : ℕ → Reading
reading_from c = if c == 0x40 then AtRule no_brackets else reading_after (Prelude nothing_open) c
