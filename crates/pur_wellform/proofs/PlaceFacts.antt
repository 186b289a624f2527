-- What a search finds: a place with a way in.
use Rattle.std.proofs.Common.{◌≡◌, List, [], ◌∷◌, drop, refl, Bool, true, false, if◌then◌else◌, Option, Some, None}
use Rattle.pur_names.specs.declared.elements.Element.{Element}
use Rattle.pur_modules.specs.declared.kinds.Child.{Child}
use Rattle.pur_modules.specs.declared.kinds.Child.TheVariants.{Elem}
use Rattle.pur_modules.specs.Wrappers.{wrapper_of}
use Rattle.pur_settings.specs.Rules.{Rules, permits_element}
use Rattle.pur_wellform.specs.Search.{content_in, allows, Entry, barred, direct, inside, by_wrapper, entry, ends_search, Place, no_place, at_place, one_further, or_further, place_of}
use Rattle.pur_wellform.proofs.TableFacts.{Wraps, wrapper_wraps}

-- a wrapper that is permitted and fits
pub record GoodWrapper (rules : Rules) (es : List Element) (child : Child) (wrapper : Element) : Type 0 where
  pub permitted : permits_element rules wrapper ≡ true
  pub wraps : Wraps rules.doctype (content_in rules es) child wrapper

-- a way into a place
abbrev pub IsWay : Rules → List Element → Child → Entry → Type 0
IsWay rules es child barred = ⊥
IsWay rules es child direct = allows rules es child ≡ true
IsWay rules es child (inside wrapper) = GoodWrapper rules es child wrapper

-- a way into a place, if there is one
abbrev pub IsEntry : Rules → List Element → Child → Entry → Type 0
IsEntry rules es child barred = Unit {0}
IsEntry rules es child direct = allows rules es child ≡ true
IsEntry rules es child (inside wrapper) = GoodWrapper rules es child wrapper

pub entry_is : (rules : Rules) (es : List Element) (child : Child) → IsEntry rules es child (entry rules es child)
entry_is rules es child = go (allows rules es child) refl
  where
    permit : (w : Element) (b : Bool) → wrapper_of rules.doctype (content_in rules es) child ≡ Some w → permits_element rules w ≡ b
        → IsEntry rules es child (if b then inside w else barred)
    permit w true q p = record { permitted = p; wraps = wrapper_wraps rules.doctype (content_in rules es) child w q }
    permit w false q p = tt

    wrap : (found : Option Element) → wrapper_of rules.doctype (content_in rules es) child ≡ found → IsEntry rules es child (by_wrapper rules found)
    wrap None q = tt
    wrap (Some w) q = permit w (permits_element rules w) q refl

    go : (b : Bool) → allows rules es child ≡ b
        → IsEntry rules es child (if b then direct else by_wrapper rules (wrapper_of rules.doctype (content_in rules es) child))
    go true q = q
    go false q = wrap (wrapper_of rules.doctype (content_in rules es) child) refl

-- a place with a way in, if there is one
abbrev pub IsPlace : Rules → Element → List Element → Place → Type 0
IsPlace rules sought es no_place = Unit {0}
IsPlace rules sought es (at_place inner way) = IsWay rules (drop inner es) (Elem sought) way

place_here : (rules : Rules) (sought : Element) (es : List Element) (way : Entry) (further : Place) → IsEntry rules es (Elem sought) way
    → IsPlace rules sought es further → IsPlace rules sought es (or_further way further)
place_here rules sought es barred further p q = q
place_here rules sought es direct further p q = p
place_here rules sought es (inside wrapper) further p q = p

place_further : (rules : Rules) (sought e : Element) (es : List Element) (further : Place) → IsPlace rules sought es further
    → IsPlace rules sought (e ∷ es) (one_further further)
place_further rules sought e es no_place p = tt
place_further rules sought e es (at_place inner way) p = p

pub place_is : (rules : Rules) (sought : Element) (es : List Element) → IsPlace rules sought es (place_of rules sought es)
place_is rules sought [] = place_here rules sought [] (entry rules [] (Elem sought)) no_place (entry_is rules [] (Elem sought)) tt
place_is rules sought (e ∷ es) =
    place_here rules sought (e ∷ es) (entry rules (e ∷ es) (Elem sought))
    (if ends_search sought e then no_place else one_further (place_of rules sought es))
    (entry_is rules (e ∷ es) (Elem sought))
    (go (ends_search sought e) (place_further rules sought e es (place_of rules sought es) (place_is rules sought es)))
  where
    go : (b : Bool) → IsPlace rules sought (e ∷ es) (one_further (place_of rules sought es))
        → IsPlace rules sought (e ∷ es) (if b then no_place else one_further (place_of rules sought es))
    go true p = tt
    go false p = p
