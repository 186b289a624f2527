use Rattle.pur_wellform.proofs.machine.+carry_out.Given as goal

abbrev pub decreases-carry_out : goal.decreases-carry_out
decreases-carry_out l = l.count
