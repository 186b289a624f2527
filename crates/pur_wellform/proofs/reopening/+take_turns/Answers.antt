use Rattle.std.proofs.Common.{◌-◌, arith}
use Rattle.pur_wellform.proofs.TurnFacts.{did-turns, kept_turn}
use Rattle.pur_wellform.proofs.reopening.+take_turns.Goals as goal

pub take_turns-requires : goal.take_turns-requires
take_turns-requires t c =
    let n = c.if-count-eq0.false in
    let below = c.decreases in (
      omega (arith, n, below),
      (c.in_ok-take_turn.ensures.machine, (kept_turn c.args.settings.now c.args.machine.now c.take_turn.new.machine c.args.limit c.requires.limit c.requires.kept c.in_ok-take_turn.ensures, c.requires.limit)),
    )

pub returns : goal.returns
returns t c =
    did-turns c.args.settings.now c.args.machine.now c.take_turn.new.machine c.take_turns.new.machine c.args.limit c.args.count (c.args.count - 1)
    (let n = c.if-count-eq0.false in omega (arith, n)) c.in_ok-take_turn.ensures c.in_ok-take_turns.ensures
