use Rattle.std.proofs.Common.{◌≡◌, ◌∙◌, ap, subst, sym, true}
use Rattle.std.specs.Prelude.{List, ℕ, encode_utf8_all}
use Rattle.pur_text.specs.Cleaning.{cleaned}
use Rattle.pur_settings.specs.Prefixes.{begins_an_id}
use Rattle.pur_tree.specs.Image.{nodes_of}
use Rattle.pur_tree.specs.Nodes.{Nodes}
use Rattle.pur_tree.specs.Spelling.{spelling_of}
use Rattle.pur_tree.specs.Tokens.{IsTreeOf}
use Rattle.pur_nesting.specs.Nesting.{nested, permits_of}
use Rattle.pur_inject.specs.Links.{with_links}
use Rattle.pur_inject.specs.Paragraphs.{with_paragraphs}
use Rattle.pur_attrs.specs.Attributes.{with_valid_attributes}
use Rattle.pur_validity.specs.Goodness.{IsGood}
use Rattle.pur_engine.specs.Ledger.{AddsNoText, KeepsLedger}
use Rattle.pur_engine.specs.Purified.{closed_tags, closed_tree, purified, purified_text, purified_nodes}
use Rattle.pur_engine.proofs.FragmentLemmas.{prefix_begins, sound-tree_of}
use Rattle.pur_engine.proofs.passes.finished.Goals as goal

pub returns-clause-text : goal.returns-clause-text
returns-clause-text g c text built =
    let rules = c.args.settings.now in
    let rule = c.args.gate.now in
    let before : Nodes = nodes_of c.args.forest in
    let after : Nodes = nodes_of c.validate.new.forest in
    let tree : before ≡ closed_tree rules rule text = sound-tree_of before (closed_tags rules rule text) c.requires.sound built in
    let is : after ≡ purified_nodes rules rule text =
    c.in_ok-validate.ensures.ok
    ∙ ap (with_valid_attributes rules rule) (c.in_ok-auto_paragraph.ensures.ok ∙ ap (with_paragraphs rules) (c.in_ok-linkify.ensures.ok
    ∙ ap (with_links rules rule) (c.in_ok-fix_nesting.ensures.nested ∙ ap (nested (permits_of rules)) tree))) in
    c.in_ok-output.ensures.text ∙ ap (λ n. encode_utf8_all (spelling_of n)) is

pub returns-clause-inputs : goal.returns-clause-inputs
unfolding purified
returns-clause-inputs g c input built =
    let rules = c.args.settings.now in
    let rule = c.args.gate.now in
    let begins : begins_an_id rules.id_prefix ≡ true = prefix_begins rules.id_prefix c.id_prefix.ensures.form in
    let kind = c.parent.ensures.kind in
    let no_forms = c.forms.ensures.none in
    let out = c.in_ok-output.output.items in
    let whole : out ≡ purified rules rule input = returns-clause-text g c (cleaned input) built in
    let told : (P : List ℕ → Type 0) → P (purified rules rule input) → P out = λ P it. subst P (sym whole) it in
    let good : IsGood rules rule out = told (IsGood rules rule) (c.purified_is_good.ensures rules kind begins no_forms rule input) in
    record {
      purified_is = whole;
      spelled = record { nodes = good.nodes; spelled = good.spelled };
      good = good;
      adds_no_text = told (AddsNoText rules rule input) (c.purified_adds_no_text.ensures rules kind begins no_forms rule input);
      ledger = told (KeepsLedger rules rule input) (c.purified_keeps_ledger.ensures rules kind begins no_forms rule input);
      unchanged = λ off was_good. whole ∙ c.good_is_kept.ensures rules rule input off was_good;
      twice = ap (purified rules rule) whole ∙ c.purified_once.ensures rules kind begins no_forms rule input ∙ sym whole;
    }
