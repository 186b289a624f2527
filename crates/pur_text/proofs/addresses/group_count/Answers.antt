use Rattle.std.proofs.Common.{sym, arith}
use Rattle.pur_text.proofs.HostLemmas.{group_counted, no_group, last_group, last_address, last_neither}
use Rattle.pur_text.proofs.addresses.group_count.Goals as goal

pub returns-then-not-is_group-clause-count : goal.returns-then-not-is_group-clause-count
returns-then-not-is_group-clause-count c =
    no_group c.counting.count c.counting.rest.now _ c.in-Some.piece.now c.in-Some.behind.now c.in-Some.ensures.cut
    (sym c.if-not-is_group.ensures) c.counting.invariant.same

pub counting-preserved : goal.counting-preserved
counting-preserved c = record {
  within = omega (arith, c.in-Some.ensures.shorter);
  same = group_counted c.counting.count c.counting.rest.now _ c.in-Some.piece.now c.in-Some.behind.now c.in-Some.ensures.cut
      (sym c.if-not-is_group.ensures) c.counting.invariant.same;
}

pub returns-then-is_group-clause-count : goal.returns-then-is_group-clause-count
returns-then-is_group-clause-count c =
    last_group c.counting.count c.counting.rest.now _ c.in_default.ensures.whole (sym c.if-is_group.ensures) c.counting.invariant.same

pub returns-then-is_ip4_address-clause-count : goal.returns-then-is_ip4_address-clause-count
returns-then-is_ip4_address-clause-count c =
    last_address c.counting.count c.counting.rest.now _ c.in_default.ensures.whole (sym c.if-is_group.ensures)
    (sym c.if-is_ip4_address.ensures) c.counting.invariant.same

pub returns-clause-count : goal.returns-clause-count
returns-clause-count c =
    last_neither c.counting.count c.counting.rest.now _ c.in_default.ensures.whole (sym c.if-is_group.ensures)
    (sym c.if-is_ip4_address.ensures) c.counting.invariant.same
