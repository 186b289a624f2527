-- Tokens each of which stands where it may: they may be put behind one another, their texts may be joined, and so stand
-- the nodes of their tree.
use Rattle.std.proofs.Common.{◌≡◌, ℕ, List, [], ◌∷◌, ◌++◌, ap, Bool, true, false, ◌||◌}
use Rattle.pur_text.specs.Characters.{is_space, is_blank}
use Rattle.pur_names.specs.declared.elements.Element.{Element}
use Rattle.pur_modules.specs.declared.kinds.Child.TheVariants.{Text}
use Rattle.pur_settings.specs.Rules.{Rules}
use Rattle.pur_tree.specs.Nodes.{Nodes}
use Rattle.pur_tree.specs.Tokens.{Token, text_token, Levels, levels_of, first_level, other_levels, join_token, joined, tree_of}
use Rattle.pur_wellform.specs.Search.{allows}
use Rattle.pur_wellform.specs.Standing.{MayHold, Stands, nothing_stands, text_stands, element_stands}
use Rattle.pur_wellform.specs.Invariants.{Writes, writes_nothing, writes_text, writes_empty, writes_start, writes_end}
use Rattle.pur_laws.proofs.Truth.{or_true}
use Rattle.pur_laws.proofs.Lists.{all-append}

pub writes-append : {rules : Rules} {es fs gs : List Element} {ts us : List Token}
    → Writes rules es ts fs → Writes rules fs us gs → Writes rules es (ts ++ us) gs
writes-append writes_nothing w = w
writes-append (writes_text m p) w = writes_text m (writes-append p w)
writes-append (writes_empty e m p) w = writes_empty e m (writes-append p w)
writes-append (writes_start e m p) w = writes_start e m (writes-append p w)
writes-append (writes_end p) w = writes_end (writes-append p w)

-- two texts that may stand at a place may stand there as one
pub holds-append : (rules : Rules) (es : List Element) (s t : List ℕ) → MayHold rules es s → MayHold rules es t → MayHold rules es (s ++ t)
holds-append rules es s t p q = record { holds = go (allows rules es Text) p.holds q.holds }
  where
    blank : (b : Bool) → (b || false) ≡ true → b ≡ true
    blank true h = h
    blank false h = h

    go : (b : Bool) → (is_blank s || b) ≡ true → (is_blank t || b) ≡ true → (is_blank (s ++ t) || b) ≡ true
    go true h k = or_true (is_blank (s ++ t))
    go false h k = ap (λ x. x || false) (all-append is_space s t (blank (is_blank s) h) (blank (is_blank t) k))

writes-join_text : {rules : Rules} {es after : List Element} {ts : List Token} (s : List ℕ) → MayHold rules es s → Writes rules es ts after
    → Writes rules es (join_token (text_token s) ts) after
writes-join_text s m writes_nothing = writes_text m writes_nothing
writes-join_text {rules} {es} s m (writes_text {text = t} n p) = writes_text (holds-append rules es s t m n) p
writes-join_text s m (writes_empty e n p) = writes_text m (writes_empty e n p)
writes-join_text s m (writes_start e n p) = writes_text m (writes_start e n p)
writes-join_text s m (writes_end p) = writes_text m (writes_end p)

pub writes-joined : {rules : Rules} {es after : List Element} {ts : List Token} → Writes rules es ts after → Writes rules es (joined ts) after
writes-joined writes_nothing = writes_nothing
writes-joined (writes_text {text} m p) = writes-join_text text m (writes-joined p)
writes-joined (writes_empty e m p) = writes_empty e m (writes-joined p)
writes-joined (writes_start e m p) = writes_start e m (writes-joined p)
writes-joined (writes_end p) = writes_end (writes-joined p)

-- the nodes after each open element that ends stand where they may
abbrev OuterStand : Rules → List Element → List Nodes → Type 0
OuterStand rules [] outer = Unit {0}
OuterStand rules (e ∷ es) outer = Stands rules es (first_level outer) × OuterStand rules es (other_levels outer)

record LevelsStand (rules : Rules) (es : List Element) (levels : Levels) : Type 0 where
  here : Stands rules es levels.here
  outer : OuterStand rules es levels.outer

none_outside : (rules : Rules) (es : List Element) → OuterStand rules es []
none_outside rules [] = tt
none_outside rules (e ∷ es) = (nothing_stands, none_outside rules es)

writes-levels : {rules : Rules} {es after : List Element} {ts : List Token} → Writes rules es ts after → LevelsStand rules es (levels_of ts)
writes-levels {rules} {es} writes_nothing = record { here = nothing_stands; outer = none_outside rules es }
writes-levels (writes_text m p) = let r = writes-levels p in record { here = text_stands m r.here; outer = r.outer }
writes-levels (writes_empty e m p) = let r = writes-levels p in record { here = element_stands m nothing_stands r.here; outer = r.outer }
writes-levels (writes_start e m p) = let r = writes-levels p in record { here = element_stands m r.here r.outer.0; outer = r.outer.1 }
writes-levels (writes_end p) = let r = writes-levels p in record { here = nothing_stands; outer = (r.here, r.outer) }

-- the nodes of the tree stand where they may
pub writes-tree : {rules : Rules} {ts : List Token} → Writes rules [] ts [] → Stands rules [] (tree_of ts)
writes-tree w = (writes-levels w).here
