use Rattle.pur_wellform.proofs.TurnFacts.{first_pendable}
use Rattle.pur_wellform.proofs.reopening.take_turn.Goals as goal

pub give_turn-requires-clause-pendable : goal.give_turn-requires-clause-pendable
give_turn-requires-clause-pendable c =
    first_pendable c.args.settings.now c.args.machine.now c.in-Some.first c.pop_front.new.self.items c.requires.kept c.in-Some.ensures.items
