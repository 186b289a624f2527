use Rattle.std.proofs.Common.{get_or, ◌<◌, ◌+◌, add-one, ◌≡◌, ◌∙◌, true, take, drop, suc, ap, sym, subst, None, lit<, inl, inr, ⊎_elim}
use Rattle.std.specs.Prelude.{◌==◌}
use Rattle.memchr.specs.Find.{is_byte2}
use Rattle.std.specs.List.{list_all}
use Rattle.std.proofs.lemmas.Bool.{or_cases, eqb-true}
use Rattle.std.proofs.lemmas.Str.{IsUtf8-take, IsUtf8-drop, IsCharBoundary-before_ascii, IsCharBoundary-after_ascii}
use Rattle.std.specs.Str.{IsUtf8, IsCharBoundary}
use Rattle.std.proofs.lemmas.Str.Pattern.{strip_prefix_char}
use Rattle.pur_entities.specs.Private.Cuts.{is_inside, IsCutOff}
use Rattle.pur_laws.proofs.Options.{if_none}
use Rattle.pur_laws.proofs.Places.{begins_at, cut_at, none_at_all, none_before}
use Rattle.pur_entities.proofs.references.cut_body.Goals as goal

pub returns-in_err-end-clause-none : goal.returns-in_err-end-clause-none
returns-in_err-end-clause-none c =
    let all = none_at_all (is_byte2 38 59) c.as_bytes.result.now c.in_err-end.ensures in
    if_none _ _ (inr (subst (λ t. list_all is_inside t ≡ true) c.as_bytes.ensures.value all))

pub returns-in_err-strip_prefix-clause-none : goal.returns-in_err-strip_prefix-clause-none
returns-in_err-strip_prefix-clause-none c =
    let end = c.in_ok-end.end in
    let bytes = c.as_bytes.result.now in
    let other = strip_prefix_char 59 c.split_at.result.1.now None c.in_err-strip_prefix.ensures.cases (lit< tt) in
    let within = c.in_ok-end.ensures.0.high in
    let is_text : IsUtf8 bytes = c.as_bytes.ensures.utf8 in
    let cut_off : IsCutOff bytes = ⊎_elim
    (λ (ampersand : (get_or bytes end 0 == 38) ≡ true).
    let low : get_or bytes end 0 < 128 = subst (λ b. b < 128) (sym (eqb-true _ 38 ampersand)) (lit< tt) in
    let up : end + 1 ≡ suc end = add-one end in
    record {
      before = take end bytes;
      behind = drop (suc end) bytes;
      text_is = cut_at bytes end 38 within ampersand;
      inside = none_before (is_byte2 38 59) bytes end c.in_ok-end.ensures.0.before;
      before_is_text = IsUtf8-take bytes end is_text (IsCharBoundary-before_ascii bytes end within low);
      behind_is_text = IsUtf8-drop bytes (suc end) is_text (subst (IsCharBoundary bytes) up (IsCharBoundary-after_ascii bytes end is_text within low));
    })
    (λ (semicolon : (get_or bytes end 0 == 59) ≡ true).
    absurd (other (drop (suc end) bytes) (c.split_at.ensures.back ∙ ap (drop end) (sym c.as_bytes.ensures.value) ∙ begins_at bytes end 59 within semicolon)))
    (or_cases _ _ c.in_ok-end.ensures.1) in
    if_none _ _ (inl (subst IsCutOff c.as_bytes.ensures.value cut_off))

pub returns-clause-body : goal.returns-clause-body
returns-clause-body c =
    let end = c.in_ok-end.end in
    let before = none_before (is_byte2 38 59) c.as_bytes.result.now end c.in_ok-end.ensures.0.before in
    subst (λ t. list_all is_inside t ≡ true) (ap (take end) c.as_bytes.ensures.value ∙ sym c.split_at.ensures.front) before
