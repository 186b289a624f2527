use Rattle.std.proofs.Common.{◌∙◌, arith, length-drop}
use Rattle.std.proofs.lemmas.List.{take_rest}
use Rattle.pur_commands.proofs.StreamLemmas.{taken_step}
use Rattle.pur_commands.proofs.output.write_all.Goals as goal

pub writing-preserved : goal.writing-preserved
writing-preserved g c = record {
  within = let most = rw take_rest at c.in_ok-at.ensures.most in omega (arith, most, length-drop c.writing.at c.args.text.now);
  taken = taken_step _ _ _ c.args.text.now c.writing.at c.in_ok-at.field-0 c.writing.invariant.taken c.in_ok-at.ensures.ok;
  kept = c.in_ok-at.ensures.cause.kept ∙ c.writing.invariant.kept;
}
