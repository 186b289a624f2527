-- What was purified reaches the injectors as its nodes; these make nothing more of it, and the pass on attributes leaves it.
use Rattle.std.proofs.Common.{◌≡◌, ap, ◌∙◌}
use Rattle.std.specs.Prelude.{encode_utf8_all}
use Rattle.pur_text.specs.Cleaning.{cleaned}
use Rattle.pur_tree.specs.Spelling.{spelling_of}
use Rattle.pur_inject.specs.Injected.{injected}
use Rattle.pur_attrs.specs.Attributes.{with_valid_attributes}
use Rattle.pur_engine.specs.Purified.{injected_tree, nested_tree, purified, purified_nodes}
use Rattle.pur_engine.proofs.SpelledLemmas.{sound}
use Rattle.pur_engine.proofs.laws.purified_once.Goals as goal

pub returns : goal.returns
unfolding purified
returns c rules kind begins no_forms rule input =
    let text = cleaned input in
    let all = c.cleaned_is_allowed.ensures input in
    let good = c.fragments_are_good.ensures rules rule text kind begins no_forms all in
    let nodes = purified_nodes rules rule text in
    let out = spelling_of nodes in
    let clean : cleaned (encode_utf8_all out) ≡ out = c.spelled_is_cleaned.ensures nodes out good.spells in
    let reaches : nested_tree rules rule out ≡ nodes = c.good_reaches_injectors.ensures rules rule nodes out good.spells good.valid in
    let once : injected rules rule nodes ≡ nodes =
    c.injects_once.ensures rules rule (nested_tree rules rule text) nodes (c.nested_is_ready.ensures rules rule text kind no_forms all).joined
    (c.keeps_nodes.ensures rules rule (injected_tree rules rule text)) (sound good.spells) in
    let stays : purified_nodes rules rule out ≡ nodes =
    ap (λ n. with_valid_attributes rules rule (injected rules rule n)) reaches
    ∙ ap (with_valid_attributes rules rule) once ∙ c.attributes_leave_good.ensures rules rule nodes out good.spells good.valid in
    ap (λ t. encode_utf8_all (spelling_of (purified_nodes rules rule t))) clean ∙ ap (λ n. encode_utf8_all (spelling_of n)) stays
