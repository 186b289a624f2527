use Rattle.std.proofs.Common.{◌≡◌, drop, arith}
use Rattle.pur_attrlist.specs.Attributes.{weight_of}
use Rattle.pur_attrlist.specs.Private.Storage.{stored_of}
use Rattle.pur_attrlist.proofs.AttributeLaws.{weight-next, weight_of-past}
use Rattle.pur_attrlist.proofs.attribute_list.AttrList.weight.Goals as goal

pub loop-at-preserved : goal.loop-at-preserved
loop-at-preserved c = record {
  fits = omega arith;
  sum = weight-next (stored_of c.self.inside.pairs) c.loop-at.at c.name_at.result.now c.value_at.result.now c.loop-at.weight
      c.saturating_add.result c.saturating_add-weight.result _ c.name_at.utf8 c.value_at.utf8 c.name_at.ensures c.value_at.ensures
      c.saturating_add.ensures c.saturating_add-weight.ensures c.loop-at.invariant.sum;
}

pub returns : goal.returns
returns c =
    let none_left : weight_of (drop c.loop-at.at (stored_of c.self.inside.pairs)) ≡ 0 =
    weight_of-past (stored_of c.self.inside.pairs) c.loop-at.at (omega arith) in
    rw (← c.self.view_is) (omega arith)
