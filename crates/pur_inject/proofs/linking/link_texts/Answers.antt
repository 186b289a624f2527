use Rattle.std.proofs.Common.{◌≡◌, ◌∙◌, true, ap, sym}
use Rattle.pur_tree.specs.Image.{nodes_of}
use Rattle.pur_inject.specs.Links.{may_be_linked}
use Rattle.pur_inject.specs.Private.Cutting.{are_colonless}
use Rattle.pur_inject.proofs.ColonLemmas.{texts-at-colonless}
use Rattle.pur_inject.proofs.linking.link_texts.Goals as goal

pub returns-then-are_colonless : goal.returns-then-are_colonless
returns-then-are_colonless g c =
    let nodes = nodes_of c.args.nodes.now.items in
    let none : are_colonless nodes ≡ true = ap (λ items. are_colonless (nodes_of items)) (sym c.deref.ensures.value) ∙ c.are_colonless.ensures c.if-are_colonless.true in
    texts-at-colonless (may_be_linked c.args.settings.now c.args.gate.now) c.args.settings.now.doctype c.args.place nodes none
