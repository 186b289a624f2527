use Rattle.std.proofs.Common.{◌∙◌, sym}
use Rattle.pur_tree.specs.Building.{opened_of}
use Rattle.pur_tree.specs.Nodes.{plain_elem}
use Rattle.pur_tree.specs.Places.{fragment}
use Rattle.pur_reader.proofs.OpenLemmas.{open_holds}
use Rattle.pur_reader.proofs.StepLemmas.{empty_read}
use Rattle.pur_reader.proofs.reading.put_empty.Goals as goal

pub enter-requires-clause-holds : goal.enter-requires-clause-holds
enter-requires-clause-holds c = open_holds fragment c.args._opened.now (opened_of c.args.builder.now) c.requires.ready.are

pub returns-clause-read : goal.returns-clause-read
returns-clause-read c = λ u rest.
    empty_read c.args.builder.now c.enter.new.self c.leave.new.self (plain_elem c.args.name c.args.attrs) rest
    (sym c.is_declared_empty.ensures.value ∙ c.if-not-is_declared_empty.false) c.requires.good c.in_ok-enter.ensures.opened c.in_ok-enter.ensures.written
    c.in_ok-leave.ensures.opened c.in_ok-leave.ensures.written
