use Rattle.std.proofs.Common.{◌∙◌, sym, ap, length, arith}
use Rattle.pur_sheet.proofs.StatementLemmas.{read_starts, read_passes, read_ends, read_out}
use Rattle.pur_sheet.proofs.statements.cut_statement.Goals as goal

pub reading-init : goal.reading-init
reading-init c = record {
  read = read_starts c.args.text.now c.args.behind.now c.args.first c.start-reading.result c.requires.text c.requires.first c.start-reading.ensures.reading;
  small = omega (arith, c.start-reading.ensures.small, ap length c.requires.text);
}

pub returns-then-ends-clause-cut : goal.returns-then-ends-clause-cut
returns-then-ends-clause-cut c =
    read_ends c.args.text.now c.reading.rest.now c.in-Some.after.now c.reading.reading c.in-Some.c c.reading.invariant.read c.in-Some.ensures.cut
    c.split_at.result.0.now (sym c.ends.ensures ∙ c.if-ends.true) c.split_at.ensures.front

pub reading-preserved : goal.reading-preserved
reading-preserved c = record {
  read =
      read_passes c.args.text.now c.reading.rest.now c.in-Some.after.now c.reading.reading c.in-Some.c c.reading.invariant.read c.in-Some.ensures.cut
      c.after-reading.result (sym c.ends.ensures ∙ c.if-ends.false) c.after-reading.ensures.reading;
  small = omega (arith, c.after-reading.ensures.small, c.reading.invariant.small, ap length c.in-Some.ensures.cut);
}

pub returns-clause-last : goal.returns-clause-last
returns-clause-last c = read_out c.args.text.now c.reading.rest.now c.reading.reading c.reading.invariant.read c.in_default.ensures.empty
