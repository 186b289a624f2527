use Rattle.std.proofs.Common.{◌≡◌, ◌∙◌, ap, ap₂, sym, true, false, List, ℕ}
use Rattle.std.specs.Prelude.{◌&&◌}
use Rattle.std.specs.List.{list_any}
use Rattle.std.specs.Str.{chars}
use Rattle.pur_laws.proofs.Texts.{chars_ascii}
use Rattle.pur_modules.specs.Excluders.{no_excluders}
use Rattle.pur_attrlist.specs.Attributes.{is_same_text}
use Rattle.pur_text.specs.Texts.{text_of}
use Rattle.pur_tree.specs.Image.{nodes_of}
use Rattle.pur_validity.specs.Attributes.{ids_of}
use Rattle.pur_validity.specs.Deciding.{are_word, are_valid, have_valid_ids}
use Rattle.pur_reader.specs.Private.Judging.{right_within, ids_right, seen_in}
use Rattle.pur_reader.proofs.PrefixLemmas.{prefix-plain}
use Rattle.pur_reader.proofs.SeenLemmas.{ids_whole}
use Rattle.pur_reader.proofs.WithinLemmas.{judged}
use Rattle.pur_reader.proofs.validity.valid.Goals as goal

pub returns-then-not-is_right : goal.returns-then-not-is_right
returns-then-not-is_right g c =
    let rules = c.args.settings.now in
    let rule = c.args.gate.now in
    let n = nodes_of c.args.forest.now in
    let word : are_word rules.doctype rules.parent n ≡ true =
    ap₂ (λ d p. are_word d p n) (sym c.doctype.ensures) (sym c.parent-parent.ensures.value) ∙ ap (are_word c.doctype.result c.parent-parent.result) (sym c.nodes-nodes.ensures.nodes)
    ∙ sym c.in_ok-is_word.ensures ∙ c.if-not-is_word.false in
    let right : right_within rules rule rules.parent no_excluders n ≡ false =
    ap₂ (λ p r. right_within rules rule p r n) (sym c.parent-parent.ensures.value) (sym c.none.ensures) ∙ ap (right_within rules rule c.parent-parent.result c.none.result) (sym c.nodes-nodes.ensures.nodes)
    ∙ sym c.in_ok-is_right.ensures ∙ c.if-not-is_right.true in
    let valid : are_valid rules rule n ≡ false =
    sym (judged rules rule n c.nodes-nodes.ensures.forest.low) ∙ ap (λ b. b && (right_within rules rule rules.parent no_excluders n && have_valid_ids rules n)) word
    ∙ ap (λ b. b && have_valid_ids rules n) right in
    let decided = c.validity_is_decided.ensures rules rule n in
    (λ h. decided.0 (valid ∙ h), λ v. sym valid ∙ decided.1 v)

pub returns : goal.returns
returns g c =
    let rules = c.args.settings.now in
    let rule = c.args.gate.now in
    let n = nodes_of c.args.forest.now in
    let word : are_word rules.doctype rules.parent n ≡ true =
    ap₂ (λ d p. are_word d p n) (sym c.doctype.ensures) (sym c.parent-parent.ensures.value) ∙ ap (are_word c.doctype.result c.parent-parent.result) (sym c.nodes-nodes.ensures.nodes)
    ∙ sym c.in_ok-is_word.ensures ∙ c.if-not-is_word.false in
    let right : right_within rules rule rules.parent no_excluders n ≡ true =
    ap₂ (λ p r. right_within rules rule p r n) (sym c.parent-parent.ensures.value) (sym c.none.ensures) ∙ ap (right_within rules rule c.parent-parent.result c.none.result) (sym c.nodes-nodes.ensures.nodes)
    ∙ sym c.in_ok-is_right.ensures ∙ c.if-not-is_right.false in
    let prefix : chars c.id_prefix.result.now ≡ rules.id_prefix = ap chars c.id_prefix.ensures.value ∙ chars_ascii rules.id_prefix (prefix-plain rules.id_prefix c.id_prefix.ensures.form) in
    let unseen : (text : List ℕ) → seen_in c.new-seen.result text ≡ false = λ text. ap (list_any (λ key. is_same_text text (text_of key))) c.new-seen.ensures.empty in
    let ids : c.in_ok-has_ids.has_ids ≡ have_valid_ids rules n =
    c.in_ok-has_ids.ensures.right ∙ ap (λ p. ids_right p (seen_in c.new-seen.result) (ids_of (nodes_of c.nodes-nodes.result.now))) prefix
    ∙ ap (λ m. ids_right rules.id_prefix (seen_in c.new-seen.result) (ids_of m)) c.nodes-nodes.ensures.nodes
    ∙ ids_whole rules.id_prefix (seen_in c.new-seen.result) (ids_of n) unseen in
    let valid : c.in_ok-has_ids.has_ids ≡ are_valid rules rule n =
    ids ∙ sym (ap (λ b. b && (right_within rules rule rules.parent no_excluders n && have_valid_ids rules n)) word ∙ ap (λ b. b && have_valid_ids rules n) right)
    ∙ judged rules rule n c.nodes-nodes.ensures.forest.low in
    let decided = c.validity_is_decided.ensures rules rule n in
    (λ h. decided.0 (sym valid ∙ h), λ v. valid ∙ decided.1 v)
