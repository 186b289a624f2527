use Rattle.std.proofs.Common.{arith, ◌≡◌, ap, sym, ◌∙◌, ℕ, add-one, List, [], ◌∷◌, true, false}
use Rattle.std.proofs.lemmas.List.{nil_from_length}
use Rattle.pur_names.specs.declared.elements.Element.{Element}
use Rattle.pur_modules.specs.declared.kinds.Child.TheVariants.{Elem}
use Rattle.pur_settings.specs.Rules.{Rules}
use Rattle.pur_wellform.specs.Private.Opens.{names_of, entry_of, is_open_way}
use Rattle.pur_wellform.specs.Search.{Entry, entry, at_place, no_place, place_of, one_further, ends_search}
use Rattle.pur_wellform.proofs.OpenFacts.{innermost}
use Rattle.pur_wellform.proofs.SearchFacts.{found_here, found_nowhere, stopped_here, found_further}
use Rattle.pur_wellform.proofs.search.+find_place.Goals as goal

-- the same where the names are only known to be these
stopped : (rules : Rules) (sought x : Element) (es fs : List Element) (way : Entry) → fs ≡ x ∷ es → way ≡ entry rules fs (Elem sought)
    → is_open_way way ≡ false → ends_search sought x ≡ true → no_place ≡ place_of rules sought fs
stopped rules sought x es fs way f e h s =
    stopped_here rules sought x es way (e ∙ ap (λ gs. entry rules gs (Elem sought)) f) h s ∙ ap (place_of rules sought) (sym f)

further : (rules : Rules) (sought x : Element) (es fs : List Element) (way : Entry) → fs ≡ x ∷ es → way ≡ entry rules fs (Elem sought)
    → is_open_way way ≡ false → ends_search sought x ≡ false → one_further (place_of rules sought es) ≡ place_of rules sought fs
further rules sought x es fs way f e h s =
    found_further rules sought x es way (e ∙ ap (λ gs. entry rules gs (Elem sought)) f) h s ∙ ap (place_of rules sought) (sym f)

pub returns-then-is_open_way-clause-place : goal.returns-then-is_open_way-clause-place
returns-then-is_open_way-clause-place t c =
    found_here c.args.settings.now c.args.sought (names_of c.args.opened.now) (entry_of c.way_at-way.result) c.way_at-way.ensures (sym c.is_open_way.ensures ∙ c.if-is_open_way.true)

pub returns-then-ends_search-clause-place : goal.returns-then-ends_search-clause-place
returns-then-ends_search-clause-place t c =
    let i = innermost c.args.settings.now c.args.opened.now c.in-Some.outer.now c.in-Some.last.now c.requires c.in-Some.ensures.cases.0 in
    stopped c.args.settings.now c.args.sought c.in-Some.last.now.name (names_of c.in-Some.outer.now) (names_of c.args.opened.now) (entry_of c.way_at-way.result) i.names
    c.way_at-way.ensures (sym c.is_open_way.ensures ∙ c.if-is_open_way.false) (sym c.ends_search.ensures ∙ c.if-ends_search.true)

pub find_place-requires : goal.find_place-requires
find_place-requires t c =
    let shorter = c.in-Some.ensures.cases.1 in
    let below = c.decreases in (
      omega (arith, shorter, below),
      (innermost c.args.settings.now c.args.opened.now c.in-Some.outer.now c.in-Some.last.now c.requires c.in-Some.ensures.cases.0).rest,
    )

pub returns-in-Some-find_place-clause-place : goal.returns-in-Some-find_place-clause-place
returns-in-Some-find_place-clause-place t c =
    let i = innermost c.args.settings.now c.args.opened.now c.in-Some.outer.now c.in-Some.last.now c.requires c.in-Some.ensures.cases.0 in
    ap (λ (n : ℕ). at_place n (entry_of c.in-Some-find_place.found.way)) (add-one c.in-Some-find_place.found.inner)
    ∙ ap one_further c.in-Some-find_place.ensures.place
    ∙ further c.args.settings.now c.args.sought c.in-Some.last.now.name (names_of c.in-Some.outer.now) (names_of c.args.opened.now) (entry_of c.way_at-way.result) i.names
    c.way_at-way.ensures (sym c.is_open_way.ensures ∙ c.if-is_open_way.false) (sym c.ends_search.ensures ∙ c.if-ends_search.false)

pub returns-in-None-find_place-clause-place : goal.returns-in-None-find_place-clause-place
returns-in-None-find_place-clause-place t c =
    let i = innermost c.args.settings.now c.args.opened.now c.in-Some.outer.now c.in-Some.last.now c.requires c.in-Some.ensures.cases.0 in
    ap one_further c.in-None-find_place.ensures.place
    ∙ further c.args.settings.now c.args.sought c.in-Some.last.now.name (names_of c.in-Some.outer.now) (names_of c.args.opened.now) (entry_of c.way_at-way.result) i.names
    c.way_at-way.ensures (sym c.is_open_way.ensures ∙ c.if-is_open_way.false) (sym c.ends_search.ensures ∙ c.if-ends_search.false)

nowhere : (rules : Rules) (sought : Element) (es : List Element) (way : Entry) → es ≡ [] → way ≡ entry rules es (Elem sought)
    → is_open_way way ≡ false → no_place ≡ place_of rules sought es
nowhere rules sought es way f e h =
    found_nowhere rules sought way (e ∙ ap (λ gs. entry rules gs (Elem sought)) f) h ∙ ap (place_of rules sought) (sym f)

pub returns-in-None-clause-place : goal.returns-in-None-clause-place
returns-in-None-clause-place t c =
    nowhere c.args.settings.now c.args.sought (names_of c.args.opened.now) (entry_of c.way_at-way.result)
    (ap names_of (nil_from_length c.args.opened.now c.in-None.ensures.cases)) c.way_at-way.ensures (sym c.is_open_way.ensures ∙ c.if-is_open_way.false)
