use Rattle.std.proofs.Common.{arith}
use Rattle.pur_commands.proofs.WordLemmas.{value_step}
use Rattle.pur_commands.proofs.words.value_of.Goals as goal

pub loop-digit-preserved : goal.loop-digit-preserved
loop-digit-preserved c = value_step c.args.digits.now c.loop-digit.digit-index c.loop-digit.value c.next_value-value.result (omega arith) c.loop-digit.invariant c.next_value-value.ensures
