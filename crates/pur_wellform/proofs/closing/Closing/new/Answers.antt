use Rattle.pur_wellform.proofs.closing.Closing.new.Goals as goal

pub invariant_of-result : goal.invariant_of-result
invariant_of-result c = (c.first_machine.ensures c.args.settings.now).closing

pub returns : goal.returns
returns c = (c.first_machine.ensures c.args.settings.now).progress
