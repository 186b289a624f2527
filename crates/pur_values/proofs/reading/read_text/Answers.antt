use Rattle.std.proofs.Common.{◌∙◌, Some, ap, sym, subst, map, IsUtf8, List, ℕ}
use Rattle.pur_laws.proofs.Cases.{changed-chars, changed-text}
use Rattle.pur_values.specs.Values.{spaced}
use Rattle.pur_values.proofs.TextLemmas.{spaced_changes}
use Rattle.pur_values.proofs.reading.read_text.Goals as goal

pub text_of_bytes-requires : goal.text_of_bytes-requires
text_of_bytes-requires c =
    subst IsUtf8 (sym (c.in_ok-bytes.ensures ∙ ap (map spaced) c.as_bytes.ensures.value)) (changed-text spaced spaced_changes c.args.text.now c.utf8.text)

pub returns : goal.returns
returns c =
    let bytes = c.in_ok-bytes.bytes.items in
    let same = c.in_ok-bytes.ensures ∙ ap (map spaced) c.as_bytes.ensures.value in
    let text = subst IsUtf8 (sym same) (changed-text spaced spaced_changes c.args.text.now c.utf8.text) in
    c.text_of_bytes.ensures ∙ ap (λ (t : List ℕ). Some t) (changed-chars spaced spaced_changes c.args.text.now bytes c.utf8.text text same)
