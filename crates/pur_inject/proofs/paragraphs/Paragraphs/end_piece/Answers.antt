use Rattle.std.proofs.Common.{◌≡◌, ◌∙◌, [], Bool, true, false, ap, sym, rules, string_bytes}
use Rattle.std.specs.Prelude.{if◌then◌else◌}
use Rattle.pur_names.specs.declared.elements.Element.TheVariants.{P}
use Rattle.pur_tree.specs.Image.{nodes_of}
use Rattle.pur_tree.specs.Nodes.{bare, no_nodes, elem_first}
use Rattle.pur_inject.specs.Paragraphs.{is_paragraph}
use Rattle.pur_inject.specs.Private.Growing.{grown}
use Rattle.pur_inject.specs.Signs.{signs_before, signs_of}
use Rattle.pur_inject.proofs.GrowingLemmas.{grown-new}
use Rattle.pur_inject.proofs.paragraphs.Paragraphs.end_piece.Goals as goal

pub returns-then-is_paragraph-clause-piece : goal.returns-then-is_paragraph-clause-piece
returns-then-is_paragraph-clause-piece c = λ more.
    let none : c.replace-piece.new.dest.nodes.items ≡ [] = search rules in
    let over : string_bytes c.replace-piece.new.dest.text ≡ [] = search rules in
    grown-new c.replace-piece.new.dest more none over

pub returns-clause-piece : goal.returns-clause-piece
returns-clause-piece c = λ more.
    let none : c.replace-piece.new.dest.nodes.items ≡ [] = search rules in
    let over : string_bytes c.replace-piece.new.dest.text ≡ [] = search rules in
    grown-new c.replace-piece.new.dest more none over

pub returns-then-is_paragraph-clause-done : goal.returns-then-is_paragraph-clause-done
returns-then-is_paragraph-clause-done c = λ more.
    let piece = grown c.args.self.now.piece no_nodes in
    let old = c.args.self.now.done in
    let nodes = c.in_ok-nodes.nodes.items in
    let same : nodes_of nodes ≡ piece = c.in_ok-nodes.ensures ∙ ap (λ g. grown g no_nodes) c.replace-piece.ensures.value in
    let is : is_paragraph piece ≡ true =
    ap is_paragraph (sym same) ∙ ap (λ items. is_paragraph (nodes_of items)) (sym c.deref.ensures.value) ∙ sym c.is_paragraph.ensures ∙ c.if-is_paragraph.true in
    c.in_ok-put_elem.ensures.same more
    ∙ ap (λ e. grown old (elem_first e (nodes_of c.paragraph.result.children.items) more)) c.paragraph.ensures.itself
    ∙ ap (λ k. grown old (elem_first (bare P) k more)) (c.paragraph.ensures.children ∙ same)
    ∙ ap (λ (b : Bool). grown old (if b then elem_first (bare P) piece more else signs_before (signs_of piece) more)) (sym is)

pub returns-clause-done : goal.returns-clause-done
returns-clause-done c = λ more.
    let piece = grown c.args.self.now.piece no_nodes in
    let old = c.args.self.now.done in
    let nodes = c.in_ok-nodes.nodes.items in
    let same : nodes_of nodes ≡ piece = c.in_ok-nodes.ensures ∙ ap (λ g. grown g no_nodes) c.replace-piece.ensures.value in
    let isnt : is_paragraph piece ≡ false =
    ap is_paragraph (sym same) ∙ ap (λ items. is_paragraph (nodes_of items)) (sym c.deref.ensures.value) ∙ sym c.is_paragraph.ensures ∙ c.if-is_paragraph.false in
    c.in_ok-put_nodes.ensures more
    ∙ ap (λ f. grown old (signs_before (signs_of f) more)) same
    ∙ ap (λ (b : Bool). grown old (if b then elem_first (bare P) piece more else signs_before (signs_of piece) more)) (sym isnt)
