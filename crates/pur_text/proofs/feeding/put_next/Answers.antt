use Rattle.std.proofs.Common.{◌≢◌, ◌⊎◌, ◌<◌, ◌≤◌, [], inl, inr, sym, ap, subst, ◌++◌, ◌∙◌, length, take, drop, arith}
use Rattle.std.proofs.lemmas.Bool.Decides.{nat_tests}
use Rattle.pur_text.specs.Cleaning.{chars_of}
use Rattle.pur_text.specs.Private.Feeding.{IsTail, written_with}
use Rattle.pur_text.proofs.CutLemmas.{held_apart, joint_is_tail}
use Rattle.pur_text.proofs.feeding.put_next.Goals.{else-is_empty-2-via-then-is_empty-2+else-may_go_on, else-is_empty-2-via-else-is_empty-2}
use Rattle.pur_text.proofs.feeding.put_next.Goals as goal

pub may_go_on-requires : goal.may_go_on-requires
may_go_on-requires c =
    let held = c.args.held.now in
    let is = sym c.if-is_empty.ensures in
    let some : 0 < length held = grind (arith, nat_tests) in
    let joint = c.as_slice.ensures.value ∙ c.joined-joint.ensures ∙ ap (λ t. held ++ t) c.split_at.ensures.front in
    subst IsTail (sym joint) (joint_is_tail held c.args.piece.now c.continuing.result some c.requires.tail c.continuing.ensures.all)

pub returns-clause-text : goal.returns-clause-text
returns-clause-text c bytes =
    let held = c.args.held.now in
    let piece = c.args.piece.now in
    let n = c.continuing.result in
    let is = sym c.if-is_empty.ensures in
    let some : 0 < length held = grind (arith, nat_tests) in
    let joint = c.joined-joint.ensures ∙ ap (λ t. held ++ t) c.split_at.ensures.front in
    let end : (0 < length (drop n piece)) ⊎ ((4 ≤ length (held ++ take n piece)) ⊎ (chars_of (held ++ take n piece) ≢ [])) =
    elim c.else-is_empty-2.branch [
      | else-is_empty-2-via-then-is_empty-2+else-may_go_on w ↦
          inr (subst (λ t. (4 ≤ length t) ⊎ (chars_of t ≢ [])) (w.as_slice.ensures.value ∙ joint) (w.may_go_on.ensures.no w.if-may_go_on.false))
      | else-is_empty-2-via-else-is_empty-2 w ↦
          let longer = sym w.if-is_empty-2.ensures in
          let goes_on : 0 < length c.split_at.result.1.now = grind (arith, nat_tests) in
          inl (subst (λ t. 0 < length t) c.split_at.ensures.back goes_on)
    ] in
    let apart = held_apart held piece bytes n some c.requires.tail c.continuing.ensures.within c.continuing.ensures.all c.continuing.ensures.clean end in
    c.in_ok-left.ensures.text bytes
    ∙ c.in_ok-put_bytes.ensures.text (chars_of (c.split_at.result.1.now ++ bytes))
    ∙ ap (λ t. written_with c.args.written.now (chars_of t ++ chars_of (c.split_at.result.1.now ++ bytes))) (c.as_slice-2.ensures.value ∙ joint)
    ∙ ap (λ t. written_with c.args.written.now (chars_of (held ++ take n piece) ++ chars_of (t ++ bytes))) c.split_at.ensures.back
    ∙ ap (written_with c.args.written.now) (sym apart)
