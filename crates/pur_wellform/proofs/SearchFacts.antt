-- The steps of a search.
use Rattle.std.proofs.Common.{◌≡◌, List, [], ◌∷◌, refl, sym, ◌∙◌, true, false, if◌then◌else◌, Some, None}
use Rattle.pur_names.specs.Elements.{same_element}
use Rattle.pur_names.specs.declared.elements.Element.{Element}
use Rattle.pur_modules.specs.declared.kinds.Child.TheVariants.{Elem}
use Rattle.pur_settings.specs.Rules.{Rules}
use Rattle.pur_wellform.specs.Search.{Entry, barred, direct, inside, entry, ends_search, Place, no_place, at_place, one_further, or_further, place_of, count_further, open_place}
use Rattle.pur_wellform.specs.Private.Opens.{is_open_way}

here : (way : Entry) (further : Place) → is_open_way way ≡ true → or_further way further ≡ at_place 0 way
here barred further h = absurd (cc)
here direct further h = refl
here (inside w) further h = refl

beyond : (way : Entry) (further : Place) → is_open_way way ≡ false → or_further way further ≡ further
beyond barred further h = refl
beyond direct further h = absurd (cc)
beyond (inside w) further h = absurd (cc)

pub found_here : (rules : Rules) (sought : Element) (es : List Element) (way : Entry) → way ≡ entry rules es (Elem sought)
    → is_open_way way ≡ true → at_place 0 way ≡ place_of rules sought es
found_here rules sought [] way e h = sym (rw (← e) (here way no_place h))
found_here rules sought (x ∷ es) way e h =
    sym (rw (← e) (here way (if ends_search sought x then no_place else one_further (place_of rules sought es)) h))

pub found_nowhere : (rules : Rules) (sought : Element) (way : Entry) → way ≡ entry rules [] (Elem sought)
    → is_open_way way ≡ false → no_place ≡ place_of rules sought []
found_nowhere rules sought way e h = sym (rw (← e) (beyond way no_place h))

pub stopped_here : (rules : Rules) (sought x : Element) (es : List Element) (way : Entry) → way ≡ entry rules (x ∷ es) (Elem sought)
    → is_open_way way ≡ false → ends_search sought x ≡ true → no_place ≡ place_of rules sought (x ∷ es)
stopped_here rules sought x es way e h s =
    sym (rw (← e) (beyond way (if ends_search sought x then no_place else one_further (place_of rules sought es)) h ∙ rw s refl))

pub found_further : (rules : Rules) (sought x : Element) (es : List Element) (way : Entry) → way ≡ entry rules (x ∷ es) (Elem sought)
    → is_open_way way ≡ false → ends_search sought x ≡ false → one_further (place_of rules sought es) ≡ place_of rules sought (x ∷ es)
found_further rules sought x es way e h s =
    sym (rw (← e) (beyond way (if ends_search sought x then no_place else one_further (place_of rules sought es)) h ∙ rw s refl))

pub open_here : (sought x : Element) (es : List Element) → same_element sought x ≡ true → Some 0 ≡ open_place sought (x ∷ es)
open_here sought x es s = rw s refl

pub open_stopped : (sought x : Element) (es : List Element) → same_element sought x ≡ false → ends_search sought x ≡ true
    → None ≡ open_place sought (x ∷ es)
open_stopped sought x es s t = rw (s, t) refl

pub open_further : (sought x : Element) (es : List Element) → same_element sought x ≡ false → ends_search sought x ≡ false
    → count_further (open_place sought es) ≡ open_place sought (x ∷ es)
open_further sought x es s t = rw (s, t) refl
