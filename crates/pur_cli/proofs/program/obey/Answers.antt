use Rattle.std.proofs.Common.{refl}
use Rattle.pur_commands.specs.Commands.{plain_command}
use Rattle.pur_cli.proofs.EndsLemmas.{stopped}
use Rattle.pur_cli.proofs.program.obey.Goals as goal

pub returns : goal.returns
returns g c =
    stopped g.H.Shelf g.O.Sink (plain_command c.args.command) c.args.shelf.now c.answer_to.new.shelf c.args.out.now c.args.out.now c.in-Err.status
    c.in-Err.ensures.stopped c.answer_to.ensures.unasked refl
