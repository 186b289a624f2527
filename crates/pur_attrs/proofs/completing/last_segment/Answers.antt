-- What stands behind the last slash.
use Rattle.std.proofs.Common.{◌≡◌, ◌∙◌, ◌++◌, ◌∷◌, take, drop, sym, ap, arith}
use Rattle.std.proofs.lemmas.List.{take-append-drop}
use Rattle.std.proofs.lemmas.Str.Pattern.{drop_at_char}
use Rattle.pur_attrs.specs.Steps.{last_segment}
use Rattle.pur_attrs.proofs.SegmentLemmas.{no_slash, segment-whole, segment-behind}
use Rattle.pur_attrs.proofs.completing.last_segment.Goals as goal

pub returns-in-Some : goal.returns-in-Some
returns-in-Some c =
    let path = c.args.path.now in
    let cut = c.in-Some.ensures.cases in
    let i = cut.0 in
    let j = cut.1 in
    let found = cut.2 in
    let back = cut.4 in
    let whole : path ≡ take i path ++ 0x2F ∷ drop j path =
    sym (take-append-drop i path) ∙ ap (λ l. take i path ++ l) (drop_at_char 0x2F path i j found.1 (omega arith)) in
    back ∙ sym (segment-behind (take i path) (drop j path) (no_slash (drop j path) found.0)) ∙ ap last_segment (sym whole)

pub returns-in-None : goal.returns-in-None
returns-in-None c = sym (segment-whole c.args.path.now (no_slash c.args.path.now c.in-None.ensures.cases))
