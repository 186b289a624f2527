use Rattle.std.proofs.Common.{◌∙◌, ◌++◌, ◌∷◌, [], refl, sym, subst}
use Rattle.pur_tree.specs.Building.{opened_of}
use Rattle.pur_tree.specs.Nodes.{plain_elem}
use Rattle.pur_tree.specs.Places.{fragment}
use Rattle.pur_reader.specs.declared.reading.Open.{Open}
use Rattle.pur_reader.specs.Private.Reading.{AreOpen}
use Rattle.pur_reader.proofs.OpenLemmas.{open_more, open_holds}
use Rattle.pur_reader.proofs.StepLemmas.{start_read}
use Rattle.pur_reader.proofs.reading.enter.Goals as goal

pub enter-requires-clause-holds : goal.enter-requires-clause-holds
enter-requires-clause-holds c = open_holds fragment c.args.opened.now.items (opened_of c.args.builder.now) c.requires.ready.are

pub returns-clause-ready : goal.returns-clause-ready
returns-clause-ready c = λ u.
    let o : Open = record { name = c.args.name; level = c.args.level } in
    record {
      are = subst (λ os. AreOpen fragment os (opened_of c.enter.new.self)) (sym c.in_ok-push.ensures.items)
          (subst (λ es. AreOpen fragment (c.args.opened.now.items ++ o ∷ []) es) (sym c.in_ok-enter.ensures.opened)
          (open_more fragment c.args.opened.now.items o (opened_of c.args.builder.now) c.args.name c.requires.ready.are refl c.requires.level
          (sym c.is_declared_empty.ensures.value ∙ c.if-is_declared_empty.false) c.requires.low));
    }

pub returns-clause-read : goal.returns-clause-read
returns-clause-read c = λ u rest.
    start_read c.args.builder.now c.enter.new.self (plain_elem c.args.name c.args.attrs) rest (sym c.is_declared_empty.ensures.value ∙ c.if-is_declared_empty.false)
    c.requires.good c.in_ok-enter.ensures.opened c.in_ok-enter.ensures.written
