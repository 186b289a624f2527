-- Each name becomes an id where there is none, and no name comes twice.
use Rattle.std.proofs.Common.{◌≡◌, ◌∙◌, [], true, false, map, ap, sym, refl, codes}
use Rattle.std.specs.Vec.Iter.{into_iter_items}
use Rattle.std.proofs.lemmas.Bool.{cond-true, cond-false}
use Rattle.pur_laws.proofs.Texts.{chars_ascii}
use Rattle.pur_attrlist.specs.Attributes.{has_name, without}
use Rattle.pur_attrlist.specs.Pairs.{attribute_of}
use Rattle.pur_attrs.specs.Steps.{name_as_id}
use Rattle.pur_attrs.proofs.KeepingLemmas.{put_all, put-distinct, no-name, distinct-as_id, found-named, none-left}
use Rattle.pur_attrs.proofs.names.named_by_id.Goals as goal

pub returns-then-is_some : goal.returns-then-is_some
returns-then-is_some c =
    let attrs = c.args.attrs in
    let get = rw (chars_ascii (codes "id") refl) at c.get.ensures in
    let has : has_name attrs (codes "id") ≡ true = sym (found-named attrs (codes "id") c.get.result get) ∙ sym c.is_some.ensures ∙ c.if-is_some.true in
    (rw (chars_ascii (codes "name") refl) at c.remove.ensures.rest) ∙ sym (cond-true (has_name attrs (codes "id")) (without attrs (codes "name")) (map name_as_id attrs) has)

pub returns-then-is_none : goal.returns-then-is_none
returns-then-is_none c =
    let attrs = c.args.attrs in
    let get = rw (chars_ascii (codes "id") refl) at c.get.ensures in
    let other = rw (chars_ascii (codes "name") refl) at c.get-2.ensures in
    let none : has_name attrs (codes "id") ≡ false = sym (found-named attrs (codes "id") c.get.result get) ∙ sym c.is_some.ensures ∙ c.if-is_some.false in
    let nameless : has_name attrs (codes "name") ≡ false =
    sym (found-named attrs (codes "name") c.get-2.result other) ∙ c.if-is_none.ensures in
    sym (no-name attrs nameless) ∙ sym (cond-false (has_name attrs (codes "id")) (without attrs (codes "name")) (map name_as_id attrs) none)

pub loop-pair-init : goal.loop-pair-init
loop-pair-init c =
    let attrs = c.args.attrs in
    let get = rw (chars_ascii (codes "id") refl) at c.get.ensures in
    let none : has_name attrs (codes "id") ≡ false = sym (found-named attrs (codes "id") c.get.result get) ∙ sym c.is_some.ensures ∙ c.if-is_some.false in
    let items : into_iter_items c.into_iter-pair-iterator.result ≡ c.in_ok-pair-items.pair-items.items = c.into_iter-pair-iterator.ensures.into_iter_gives.0 in
    ap (λ kept. put_all kept (map name_as_id (map attribute_of (into_iter_items c.into_iter-pair-iterator.result)))) c.new-changed.ensures
    ∙ ap (λ l. put_all [] (map name_as_id l)) (ap (map attribute_of) items ∙ c.in_ok-pair-items.ensures.pairs)
    ∙ put-distinct [] (map name_as_id attrs) (distinct-as_id attrs none c.in_ok-pair-items.ensures.distinct)

pub returns : goal.returns
returns c =
    let attrs = c.args.attrs in
    let get = rw (chars_ascii (codes "id") refl) at c.get.ensures in
    let none : has_name attrs (codes "id") ≡ false = sym (found-named attrs (codes "id") c.get.result get) ∙ sym c.is_some.ensures ∙ c.if-is_some.false in
    sym (ap (λ l. put_all c.loop-pair.changed (map name_as_id (map attribute_of l))) (none-left c.loop-pair.pair-iterator c.in-None.ensures.steps.0))
    ∙ c.loop-pair.invariant ∙ sym (cond-false (has_name attrs (codes "id")) (without attrs (codes "name")) (map name_as_id attrs) none)
