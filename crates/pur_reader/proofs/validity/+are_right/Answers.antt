use Rattle.std.proofs.Common.{◌≡◌, ◌∙◌, ap, ap₂, sym, false, true}
use Rattle.std.specs.Prelude.{◌&&◌}
use Rattle.pur_modules.specs.Contents.{content_held}
use Rattle.pur_modules.specs.Excluders.{with_excluder}
use Rattle.pur_tree.specs.Image.{nodes_of, node_before}
use Rattle.pur_tree.specs.Nodes.{plain_elem}
use Rattle.pur_tree.proofs.NodeLemmas.{before_text, before_elem}
use Rattle.pur_reader.specs.Private.Judging.{is_right_here, has_right_attributes, right_within}
use Rattle.pur_reader.proofs.WithinLemmas.{not_here, no_attrs, all_here}
use Rattle.pur_reader.proofs.validity.+are_right.Goals as goal

pub is_right_node-returns-in-Text : goal.is_right_node-returns-in-Text
is_right_node-returns-in-Text g t c = λ rest.
    ap (right_within c.args.settings.now c.args.gate.now c.args.content c.args.round) (ap (λ n. node_before n rest) c.in-Text.is ∙ before_text c.in-Text.field-0 rest)

pub is_right_node-returns-then-not-is_here : goal.is_right_node-returns-then-not-is_here
is_right_node-returns-then-not-is_here g t c = λ rest.
    let elem = c.in-Elem.elem in
    let e = plain_elem elem.name elem.attrs in
    let kids = nodes_of elem.children.items in
    let rules = c.args.settings.now in
    let here : is_right_here rules c.args.content c.args.round elem.name kids ≡ false =
    sym (rw c.as_slice-kids.ensures.value at c.in_ok-is_here-in-Elem.ensures) ∙ c.if-not-is_here.true in
    ap (right_within rules c.args.gate.now c.args.content c.args.round) (ap (λ n. node_before n rest) c.in-Elem.is ∙ before_elem elem.name elem.attrs elem.children rest)
    ∙ not_here rules c.args.gate.now c.args.content c.args.round e kids rest here

pub is_right_node-returns-then-not-has_attrs : goal.is_right_node-returns-then-not-has_attrs
is_right_node-returns-then-not-has_attrs g t c = λ rest.
    let elem = c.in-Elem.elem in
    let e = plain_elem elem.name elem.attrs in
    let kids = nodes_of elem.children.items in
    let rules = c.args.settings.now in
    let here : is_right_here rules c.args.content c.args.round elem.name kids ≡ true =
    sym (rw c.as_slice-kids.ensures.value at c.in_ok-is_here-in-Elem.ensures) ∙ c.if-not-is_here.false in
    let attrs : has_right_attributes rules c.args.gate.now e ≡ false = sym c.in_ok-has_attrs-in-Elem.ensures ∙ c.if-not-has_attrs.true in
    ap (right_within rules c.args.gate.now c.args.content c.args.round) (ap (λ n. node_before n rest) c.in-Elem.is ∙ before_elem elem.name elem.attrs elem.children rest)
    ∙ no_attrs rules c.args.gate.now c.args.content c.args.round e kids rest here attrs

pub is_right_node-returns-in_ok-inside-in-Elem : goal.is_right_node-returns-in_ok-inside-in-Elem
is_right_node-returns-in_ok-inside-in-Elem g t c = λ rest.
    let elem = c.in-Elem.elem in
    let e = plain_elem elem.name elem.attrs in
    let kids = nodes_of elem.children.items in
    let rules = c.args.settings.now in
    let rule = c.args.gate.now in
    let here : is_right_here rules c.args.content c.args.round elem.name kids ≡ true =
    sym (rw c.as_slice-kids.ensures.value at c.in_ok-is_here-in-Elem.ensures) ∙ c.if-not-is_here.false in
    let attrs : has_right_attributes rules rule e ≡ true = sym c.in_ok-has_attrs-in-Elem.ensures ∙ c.if-not-has_attrs.false in
    let held : c.content_of-held.result ≡ content_held rules.doctype elem.name c.args.content =
    c.content_of-held.ensures.value ∙ ap (λ d. content_held d elem.name c.args.content) c.doctype.ensures in
    let inside : c.in_ok-inside-in-Elem.inside ≡ right_within rules rule (content_held rules.doctype elem.name c.args.content) (with_excluder elem.name c.args.round) kids =
    (rw c.as_slice-kids.ensures.value at c.in_ok-inside-in-Elem.ensures)
    ∙ ap₂ (λ h r. right_within rules rule h r kids) held c.inside-within.ensures in
    ap (right_within rules rule c.args.content c.args.round) (ap (λ n. node_before n rest) c.in-Elem.is ∙ before_elem elem.name elem.attrs elem.children rest)
    ∙ all_here rules rule c.args.content c.args.round e kids rest here attrs
    ∙ ap (λ b. b && right_within rules rule c.args.content c.args.round rest) (sym inside)
