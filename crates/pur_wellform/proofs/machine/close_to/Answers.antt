use Rattle.std.proofs.Common.{arith, refl, take, ap, ◌∙◌, ℕ, add-one}
use Rattle.std.specs.List.{list_any}
use Rattle.pur_tree.specs.Nodes.{PlainElem}
use Rattle.pur_wellform.specs.Search.{is_shut}
use Rattle.pur_wellform.specs.Private.Opens.{tags_of}
use Rattle.pur_wellform.specs.Private.Machines.{carrying_out, state_of}
use Rattle.pur_wellform.proofs.MachineFacts.{asked, did-close_to, left_open}
use Rattle.pur_wellform.proofs.machine.close_to.Goals as goal

pub leave-requires-clause-some : goal.leave-requires-clause-some
leave-requires-clause-some c =
    let some = c.requires.closed in
    let left = left_open c.args.settings.now c.args.machine.now c.carry_out.new.machine (carrying_out c.args.inner (state_of c.args.machine.now)) c.args.inner c.in_ok-carry_out.ensures refl in
    omega (arith, some, left)

pub returns : goal.returns
returns c =
    did-close_to c.args.settings.now c.args.machine.now c.carry_out.new.machine c.leave.new.machine c.settle.new.machine c.args.inner c.has_shut-shut.result
    (asked c.args.machine.now.opened.items c.deref.result.now c.innermost.result.now _ c.has_shut-shut.result
    (let some = c.requires.closed in omega (arith, some)) c.deref.ensures.value c.innermost.ensures c.has_shut-shut.ensures
    ∙ ap (λ (n : ℕ). list_any (λ (tag : PlainElem). is_shut tag.name) (take n (tags_of c.args.machine.now.opened.items))) (add-one c.args.inner))
    c.in_ok-carry_out.ensures c.in_ok-leave.ensures.did c.settle.ensures
