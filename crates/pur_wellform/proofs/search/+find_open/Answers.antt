use Rattle.std.proofs.Common.{ap, sym, ◌∙◌, Some, ℕ, add-one}
use Rattle.pur_wellform.specs.Private.Opens.{names_of}
use Rattle.pur_wellform.specs.Search.{open_place, count_further}
use Rattle.pur_wellform.proofs.OpenFacts.{names_of-more}
use Rattle.pur_wellform.proofs.SearchFacts.{open_here, open_stopped, open_further}
use Rattle.pur_wellform.proofs.search.+find_open.Goals as goal

pub returns-then-is_same-clause-place : goal.returns-then-is_same-clause-place
returns-then-is_same-clause-place t c =
    let es = ap names_of c.in-Some.ensures.cases.0 ∙ names_of-more c.in-Some.outer.now c.in-Some.last.now in
    open_here c.args.sought c.in-Some.last.now.name (names_of c.in-Some.outer.now) (sym c.is_same.ensures ∙ c.if-is_same.true) ∙ ap (open_place c.args.sought) (sym es)

pub returns-then-ends_search-clause-place : goal.returns-then-ends_search-clause-place
returns-then-ends_search-clause-place t c =
    let es = ap names_of c.in-Some.ensures.cases.0 ∙ names_of-more c.in-Some.outer.now c.in-Some.last.now in
    open_stopped c.args.sought c.in-Some.last.now.name (names_of c.in-Some.outer.now) (sym c.is_same.ensures ∙ c.if-is_same.false) (sym c.ends_search.ensures ∙ c.if-ends_search.true)
    ∙ ap (open_place c.args.sought) (sym es)

pub returns-in-Some-find_open-clause-place : goal.returns-in-Some-find_open-clause-place
returns-in-Some-find_open-clause-place t c =
    let es = ap names_of c.in-Some.ensures.cases.0 ∙ names_of-more c.in-Some.outer.now c.in-Some.last.now in
    ap (λ (n : ℕ). Some n) (add-one c.in-Some-find_open.inner) ∙ ap count_further c.in-Some-find_open.ensures.place
    ∙ open_further c.args.sought c.in-Some.last.now.name (names_of c.in-Some.outer.now) (sym c.is_same.ensures ∙ c.if-is_same.false) (sym c.ends_search.ensures ∙ c.if-ends_search.false)
    ∙ ap (open_place c.args.sought) (sym es)

pub returns-in-None-find_open-clause-place : goal.returns-in-None-find_open-clause-place
returns-in-None-find_open-clause-place t c =
    let es = ap names_of c.in-Some.ensures.cases.0 ∙ names_of-more c.in-Some.outer.now c.in-Some.last.now in
    ap count_further c.in-None-find_open.ensures.place
    ∙ open_further c.args.sought c.in-Some.last.now.name (names_of c.in-Some.outer.now) (sym c.is_same.ensures ∙ c.if-is_same.false) (sym c.ends_search.ensures ∙ c.if-ends_search.false)
    ∙ ap (open_place c.args.sought) (sym es)
