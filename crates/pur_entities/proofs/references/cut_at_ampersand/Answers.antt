use Rattle.std.proofs.Common.{◌≡◌, ◌∙◌, true, take, drop, suc, ap, sym, subst, None, lit<}
use Rattle.memchr.specs.Find.{is_byte}
use Rattle.std.specs.List.{list_all}
use Rattle.std.proofs.lemmas.Str.Pattern.{strip_prefix_char}
use Rattle.pur_entities.specs.Private.Cuts.{is_plain}
use Rattle.pur_laws.proofs.Options.{if_none}
use Rattle.pur_laws.proofs.Places.{begins_at, none_at_all, none_before}
use Rattle.pur_entities.proofs.references.cut_at_ampersand.Goals as goal

pub returns-in_err-place-clause-none : goal.returns-in_err-place-clause-none
returns-in_err-place-clause-none c =
    let all = none_at_all (is_byte 38) c.as_bytes.result.now c.in_err-place.ensures in
    if_none _ _ (subst (λ t. list_all is_plain t ≡ true) c.as_bytes.ensures.value all)

pub returns-in_err-strip_prefix-clause-none : goal.returns-in_err-strip_prefix-clause-none
returns-in_err-strip_prefix-clause-none c =
    let place = c.in_ok-place.place in
    let bytes = c.as_bytes.result.now in
    let other = strip_prefix_char 38 c.split_at.result.1.now None c.in_err-strip_prefix.ensures.cases (lit< tt) in
    let here = begins_at bytes place 38 c.in_ok-place.ensures.0.high c.in_ok-place.ensures.1 in
    absurd (other (drop (suc place) bytes) (c.split_at.ensures.back ∙ ap (drop place) (sym c.as_bytes.ensures.value) ∙ here))

pub returns-clause-run : goal.returns-clause-run
returns-clause-run c =
    let place = c.in_ok-place.place in
    let before = none_before (is_byte 38) c.as_bytes.result.now place c.in_ok-place.ensures.0.before in
    subst (λ t. list_all is_plain t ≡ true) (ap (take place) c.as_bytes.ensures.value ∙ sym c.split_at.ensures.front) before
