use Rattle.std.proofs.Common.{◌∙◌, sym, ap}
use Rattle.pur_sheet.proofs.StatementLemmas.{prelude_passes, prelude_ends, prelude_out}
use Rattle.pur_sheet.proofs.statements.cut_rule.Goals as goal

pub returns-then-opens_block-clause-rule : goal.returns-then-opens_block-clause-rule
returns-then-opens_block-clause-rule c =
    prelude_ends c.args.text.now c.reading.rest.now c.in-Some.behind.now c.reading.nesting c.in-Some.c c.reading.invariant.prelude c.in-Some.ensures.cut
    c.split_at.result.0.now (sym c.opens_block.ensures ∙ c.if-opens_block.true) c.split_at.ensures.front

pub reading-preserved : goal.reading-preserved
reading-preserved c = record {
  prelude =
      prelude_passes c.args.text.now c.reading.rest.now c.in-Some.behind.now c.reading.nesting c.in-Some.c c.reading.invariant.prelude c.in-Some.ensures.cut
      c.after-nesting.result (sym c.opens_block.ensures ∙ c.if-opens_block.false) c.after-nesting.ensures.nesting;
  depth = ap (λ n. n.depth) c.after-nesting.ensures.nesting ∙ c.reading.invariant.depth;
}

pub returns-clause-none : goal.returns-clause-none
returns-clause-none c = prelude_out c.args.text.now c.reading.rest.now c.reading.nesting c.reading.invariant.prelude c.in_default.ensures.empty
