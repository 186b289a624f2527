use Rattle.std.proofs.Common.{◌≡◌, false, sym}
use Rattle.pur_tree.specs.Image.{nodes_of}
use Rattle.pur_nesting.specs.Private.Handing.{has_head_or_foot}
use Rattle.pur_nesting.proofs.HandingLemmas.{same_bodies}
use Rattle.pur_nesting.proofs.bodies.as_bodies.Goals as goal

pub returns : goal.returns
returns c =
    let none : has_head_or_foot (nodes_of c.args.nodes.items) ≡ false = rw (← c.deref.ensures.value) (sym c.if-has_head_or_foot.ensures) in
    same_bodies c.args.tbody (nodes_of c.args.nodes.items) none
