use Rattle.std.proofs.Common.{◌++◌, ◌∙◌, refl, ap, sym, take, take-append-drop, string_bytes, IsUtf8}
use Rattle.std.specs.List.{position}
use Rattle.std.proofs.lemmas.Str.{IsUtf8-take, IsUtf8-string_bytes}
use Rattle.pur_text.specs.Private.Runs.{needs_care}
use Rattle.pur_text.proofs.CleaningLemmas.{run_copied, all_copied}
use Rattle.pur_text.proofs.FeedingLemmas.{begins_itself, begins_same, begins_on}
use Rattle.pur_text.proofs.RunLemmas.{run_ended, run_whole, run_allowed}
use Rattle.pur_text.proofs.cleaning.clean_onto.Goals as goal

pub cleaning-init : goal.cleaning-init
cleaning-init c = (c.utf8.text, begins_itself (string_bytes c.args.clean.now), refl)

pub split_at-requires : goal.split_at-requires
split_at-requires c =
    let ended = run_ended c.cleaning.rest.now c.in-Some.end (c.in-Some.ensures ∙ ap (position needs_care) c.as_bytes.ensures.value) in
    ended.boundary

pub cleaning-preserved : goal.cleaning-preserved
cleaning-preserved c =
    let rest = c.cleaning.rest.now in
    let end = c.in-Some.end in
    let clean = string_bytes c.cleaning.clean in
    let ended = run_ended rest end (c.in-Some.ensures ∙ ap (position needs_care) c.as_bytes.ensures.value) in
    let run = take end rest in
    let is_run : IsUtf8 run = IsUtf8-take rest end c.cleaning.invariant.0 ended.boundary in (
      c.in_ok-rest.ensures.text,
      begins_on _ _ _ c.cleaning.invariant.1 (begins_on _ _ _ (_, c.in_ok-push_str.ensures.bytes) c.in_ok-rest.ensures.begins),
      c.in_ok-rest.ensures.step
          ∙ run_copied clean run _ _ rest _ (IsUtf8-string_bytes c.cleaning.clean) is_run
          (c.in_ok-push_str.ensures.bytes ∙ ap (λ t. clean ++ t) c.split_at.ensures.front)
          (sym (take-append-drop end rest) ∙ ap (λ t. run ++ t) (sym c.split_at.ensures.back))
          (run_allowed run is_run ended.quiet) c.cleaning.invariant.2,
    )

pub returns-clause-text : goal.returns-clause-text
returns-clause-text c =
    let rest = c.cleaning.rest.now in
    let quiet = run_whole rest (c.in_default.ensures ∙ ap (position needs_care) c.as_bytes.ensures.value) in
    all_copied (string_bytes c.cleaning.clean) rest _ _ (IsUtf8-string_bytes c.cleaning.clean) c.cleaning.invariant.0
    c.in_ok-push_str-2.ensures.bytes (run_allowed rest c.cleaning.invariant.0 quiet) c.cleaning.invariant.2

pub returns-clause-begins : goal.returns-clause-begins
returns-clause-begins c = begins_on _ _ _ c.cleaning.invariant.1 (_, c.in_ok-push_str-2.ensures.bytes)

pub returns-in_err-push_str-clause-begins : goal.returns-in_err-push_str-clause-begins
returns-in_err-push_str-clause-begins c = begins_on _ _ _ c.cleaning.invariant.1 (begins_same _ _ c.in_err-push_str.ensures.bytes)

pub returns-in_err-rest-clause-begins : goal.returns-in_err-rest-clause-begins
returns-in_err-rest-clause-begins c =
    begins_on _ _ _ c.cleaning.invariant.1 (begins_on _ _ _ (_, c.in_ok-push_str.ensures.bytes) c.in_err-rest.ensures.begins)

pub returns-in_err-push_str-2-clause-begins : goal.returns-in_err-push_str-2-clause-begins
returns-in_err-push_str-2-clause-begins c = begins_on _ _ _ c.cleaning.invariant.1 (begins_same _ _ c.in_err-push_str-2.ensures.bytes)
