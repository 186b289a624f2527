-- Each way is tried in turn.
use Rattle.std.proofs.Common.{◌≡◌, refl, sym, ◌∙◌, ap, subst, map, List, get_or, arith}
use Rattle.pur_models.specs.declared.expressions.Step.{Step}
use Rattle.pur_models.specs.Images.{step_of, way_of}
use Rattle.pur_models.specs.Languages.{IsInWay, has_disjoint_steps}
use Rattle.pur_models.proofs.MatchingLemmas.{IsInLanguage-at, disjoint_at, later_at, no_way}
use Rattle.pur_models.proofs.matching.matches.Goals as goal

pub is_in_way-requires : goal.is_in_way-requires
is_in_way-requires c =
    let is : c.way-item.result ≡ get_or c.args.model.now.ways.items c.loop-way.way-index c.way-item.result =
    c.way-item.is ∙ ap (λ ways. get_or ways c.loop-way.way-index c.way-item.result) c.deref-way-items.ensures.value in
    ap (λ steps. has_disjoint_steps (map step_of steps)) c.deref.ensures.value
    ∙ disjoint_at c.args.model.now.ways.items c.loop-way.way-index c.way-item.result (omega arith) is c.requires

pub returns-then-is_in_way : goal.returns-then-is_in_way
returns-then-is_in_way c =
    let is : c.way-item.result ≡ get_or c.args.model.now.ways.items c.loop-way.way-index c.way-item.result =
    c.way-item.is ∙ ap (λ ways. get_or ways c.loop-way.way-index c.way-item.result) c.deref-way-items.ensures.value in
    let P : List Step → Type 0 = λ steps. IsInWay (map step_of steps) c.args.word.now in
    let w : IsInWay (way_of c.way-item.result) c.args.word.now =
    subst P c.deref.ensures.value (c.is_in_way.ensures.0 c.if-is_in_way.true) in (
      λ yes. IsInLanguage-at c.args.model.now.ways.items c.loop-way.way-index c.way-item.result c.args.word.now (omega arith) is w,
      λ v. refl,
    )

pub loop-way-preserved : goal.loop-way-preserved
loop-way-preserved c =
    let is : c.way-item.result ≡ get_or c.args.model.now.ways.items c.loop-way.way-index c.way-item.result =
    c.way-item.is ∙ ap (λ ways. get_or ways c.loop-way.way-index c.way-item.result) c.deref-way-items.ensures.value in
    let P : List Step → Type 0 = λ steps. IsInWay (map step_of steps) c.args.word.now in
    λ v. later_at c.args.model.now.ways.items c.loop-way.way-index c.way-item.result c.args.word.now (omega arith) is
    (λ w. let yes = c.is_in_way.ensures.1 (subst P (sym c.deref.ensures.value) w) in absurd (let n = c.if-is_in_way.false in cc))
    (c.loop-way.invariant v)

pub returns : goal.returns
returns c = (
  λ never. absurd (cc),
  λ w. absurd (no_way c.args.model.now.ways.items c.loop-way.way-index c.args.word.now (omega arith) (c.loop-way.invariant w)),
)
