use Rattle.std.proofs.Common.{refl}
use Rattle.pur_attrlist.specs.Texts.{text_of}
use Rattle.pur_wellform.proofs.MachineFacts.{holds, did-text}
use Rattle.pur_wellform.proofs.machine.write_text.Goals as goal

pub move_text-requires-clause-holds : goal.move_text-requires-clause-holds
move_text-requires-clause-holds c = holds c.args._settings.now c.args.machine.now c.requires.machine

pub returns : goal.returns
returns c =
    did-text c.args._settings.now c.args.machine.now _ (text_of c.args.text) c.requires.machine refl refl refl c.in_ok-move_text.ensures.opened c.in_ok-move_text.ensures.written
