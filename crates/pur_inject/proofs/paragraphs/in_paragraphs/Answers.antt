use Rattle.std.proofs.Common.{◌≡◌, ◌∙◌, ◌++◌, true, [], ap, sym, append-nil, string_bytes}
use Rattle.std.specs.Str.{chars}
use Rattle.std.proofs.lemmas.Str.{chars-nil}
use Rattle.pur_tree.specs.Image.{nodes_of, node_before}
use Rattle.pur_tree.specs.Nodes.{no_nodes}
use Rattle.pur_tree.proofs.NodeLemmas.{before_text, before_elem}
use Rattle.pur_inject.specs.Paragraphs.{stands_in_paragraphs, with_blank_lines, wrapped_run}
use Rattle.pur_inject.specs.Private.Remaining.{remaining}
use Rattle.pur_inject.specs.Private.Standing.{ahead, are_apart, going_on, standing}
use Rattle.pur_inject.specs.Runs.{with_runs}
use Rattle.pur_inject.specs.Signs.{letters, nodes_from, signs_of}
use Rattle.pur_inject.proofs.ApartLemmas.{apart-stay}
use Rattle.pur_inject.proofs.GrowingLemmas.{grown-new, starts}
use Rattle.pur_inject.proofs.paragraphs.in_paragraphs.Goals as goal

pub taking-init : goal.taking-init
taking-init c =
    let d = c.args.doctype in
    let done = c.in_ok-done.done in
    let piece = c.new.result in
    let signs = signs_of (nodes_of c.args.nodes.items) in
    ap (λ f. ahead d done piece (with_blank_lines (letters (chars (string_bytes c.new-2.result)) ++ signs_of f))) c.of-remaining.ensures
    ∙ ap (λ b. ahead d done piece (with_blank_lines (letters (chars b) ++ signs))) c.new-2.ensures.bytes
    ∙ ap (λ s. ahead d done piece (with_blank_lines (letters s ++ signs))) chars-nil
    ∙ starts d done piece (with_blank_lines signs) (λ after. grown-new piece after c.new.ensures.nodes c.new.ensures.text)
    ∙ grown-new done (nodes_from (with_runs (stands_in_paragraphs d) wrapped_run (with_blank_lines signs))) c.in_ok-done.ensures.nodes c.in_ok-done.ensures.text

pub taking-preserved-in-Continue-branch-2 : goal.taking-preserved-in-Continue-branch-2
taking-preserved-in-Continue-branch-2 c =
    let d = c.args.doctype in
    let p = c.taking.paragraphs in
    let rest = remaining c.take_first.new.self in
    c.in_ok-put_text-in-Text.ensures d (signs_of rest)
    ∙ ap (λ f. standing d p (signs_of f)) (sym (ap (λ n. node_before n rest) c.in-Text.is ∙ before_text c.in-Text.text rest))
    ∙ ap (λ f. standing d p (signs_of f)) (sym c.in-Some.ensures.some)
    ∙ c.taking.invariant

pub taking-preserved : goal.taking-preserved
taking-preserved c =
    let d = c.args.doctype in
    let p = c.taking.paragraphs in
    let rest = remaining c.take_first.new.self in
    let elem = c.in-Elem.elem in
    c.in_ok-put_elem-in-Elem.ensures (signs_of rest)
    ∙ ap (λ f. standing d p (signs_of f)) (sym (ap (λ n. node_before n rest) c.in-Elem.is ∙ before_elem elem.name elem.attrs elem.children rest))
    ∙ ap (λ f. standing d p (signs_of f)) (sym c.in-Some.ensures.some)
    ∙ c.taking.invariant

pub returns : goal.returns
returns c =
    let d = c.args.doctype in
    let p = c.taking.paragraphs in
    let text = letters (chars (string_bytes p.text)) in
    c.in_ok-nodes.ensures
    ∙ c.in_ok-end_piece.ensures.done no_nodes
    ∙ c.in_ok-end_text.ensures.same []
    ∙ ap (going_on d p) (append-nil (with_blank_lines text) ∙ ap with_blank_lines (sym (append-nil text)))
    ∙ ap (λ f. standing d p (signs_of f)) (sym c.in_default.ensures.none)
    ∙ c.taking.invariant

pub returns-then-are_apart : goal.returns-then-are_apart
returns-then-are_apart c =
    let nodes = c.args.nodes.items in
    let apart : are_apart c.args.doctype (nodes_of nodes) ≡ true =
    ap (λ items. are_apart c.args.doctype (nodes_of items)) (sym c.deref.ensures.value) ∙ sym c.are_apart.ensures ∙ c.if-are_apart.true in
    sym (apart-stay c.args.doctype (nodes_of nodes) apart)
