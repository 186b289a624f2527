use Rattle.std.proofs.Common.{◌∙◌, sym, ap, length, arith}
use Rattle.pur_sheet.specs.Statements.{statements_of}
use Rattle.pur_sheet.proofs.StatementLemmas.{space_skipped, no_statement}
use Rattle.pur_sheet.proofs.statements.next_statement.Goals as goal

pub skipping-preserved : goal.skipping-preserved
skipping-preserved c = (
  sym (space_skipped c.in-Some.c c.in-Some.behind.now (sym c.is_space.ensures ∙ c.if-not-is_space.false)) ∙ ap statements_of (sym c.in-Some.ensures.cut)
      ∙ c.skipping.invariant.0,
  omega (arith, ap length c.in-Some.ensures.cut, c.skipping.invariant.1),
)

pub returns-clause-last : goal.returns-clause-last
returns-clause-last c = sym c.skipping.invariant.0 ∙ ap statements_of c.in_default.ensures.empty ∙ no_statement
