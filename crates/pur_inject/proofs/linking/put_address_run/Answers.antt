-- A run of address characters is linked where it has an address that may be.
use Rattle.std.proofs.Common.{◌≡◌, ◌∙◌, ◌∷◌, ◌++◌, Bool, ℕ, List, true, false, ap, sym}
use Rattle.std.specs.Prelude.{◌&&◌, if◌then◌else◌}
use Rattle.std.specs.Str.{chars}
use Rattle.pur_tree.specs.Image.{nodes_of}
use Rattle.pur_tree.specs.Nodes.{elem_first, text_first, no_nodes}
use Rattle.pur_inject.specs.Addresses.{before_address, end_marks_of, from_address, is_address, without_end_marks}
use Rattle.pur_inject.specs.Links.{has_link, link_sign, link_to, linked_run, may_be_linked}
use Rattle.pur_inject.specs.Private.Growing.{grown}
use Rattle.pur_inject.specs.Signs.{Sign, letters, signs_before}
use Rattle.pur_inject.proofs.LinkLemmas.{text-letters}
use Rattle.pur_inject.proofs.SignLemmas.{before-append}
use Rattle.pur_inject.proofs.linking.put_address_run.Goals as goal

-- what is made of a run of letters, where it is known whether that has a link
abbrev made : (List ℕ → Bool) → List ℕ → Bool → List Sign
made admits run b =
    if b then letters (before_address run) ++ (link_sign (without_end_marks (from_address run)) ∷ letters (end_marks_of (from_address run))) else letters run

made-is : (admits : List ℕ → Bool) (run : List ℕ) (b : Bool) → has_link admits run ≡ b → linked_run admits (letters run) ≡ made admits run b
made-is admits run b is =
    ap (λ (text : List ℕ). if has_link admits text then letters (before_address text) ++ (link_sign (without_end_marks (from_address text)) ∷ letters (end_marks_of (from_address text))) else letters run) (text-letters run)
    ∙ ap (made admits run) is

-- the test of the address is that of the run
tested : (admits : List ℕ → Bool) (run bytes : List ℕ) (may : Bool) → bytes ≡ without_end_marks (from_address run) → chars bytes ≡ without_end_marks (from_address run)
    → may ≡ (is_address bytes && admits (chars bytes)) → has_link admits run ≡ may
tested admits run bytes may one two is = sym (is ∙ ap (λ t. is_address t && admits (chars bytes)) one ∙ ap (λ t. is_address (without_end_marks (from_address run)) && admits t) two)

pub returns-then-not-may : goal.returns-then-not-may
returns-then-not-may g c = λ more.
    let admits = may_be_linked c.args.settings.now c.args.gate.now in
    let run = c.args.run.now in
    let has : has_link admits run ≡ false =
    tested admits run c.address_in.result.1.now c.in_ok-may.may c.address_in.ensures.bytes c.address_in.ensures.address c.in_ok-may.ensures ∙ c.if-not-may.true in
    c.in_ok-put_text.ensures more
    ∙ ap (λ r. grown c.args.out.now (signs_before (letters r) more)) c.requires.ascii
    ∙ ap (λ l. grown c.args.out.now (signs_before l more)) (sym (made-is admits run false has))
    ∙ ap (λ r. grown c.args.out.now (signs_before (linked_run admits (letters r)) more)) (sym c.requires.ascii)

pub returns : goal.returns
returns g c = λ more.
    let admits = may_be_linked c.args.settings.now c.args.gate.now in
    let run = c.args.run.now in
    let address = without_end_marks (from_address run) in
    let out = c.args.out.now in
    let has : has_link admits run ≡ true =
    tested admits run c.address_in.result.1.now c.in_ok-may.may c.address_in.ensures.bytes c.address_in.ensures.address c.in_ok-may.ensures ∙ c.if-not-may.false in
    let link = c.in_ok-link.field-0 in
    let same = c.address_in.ensures.address in
    c.in_ok-put_text-3.ensures more
    ∙ ap (λ s. grown c.put_elem.new.self (signs_before (letters s) more)) c.address_in.ensures.marks
    ∙ c.in_ok-put_elem.ensures.same (signs_before (letters (end_marks_of (from_address run))) more)
    ∙ ap (λ e. grown c.put_text-2.new.self (elem_first e (nodes_of link.children.items) (signs_before (letters (end_marks_of (from_address run))) more))) (c.in_ok-link.ensures.itself ∙ ap link_to same)
    ∙ ap (λ k. grown c.put_text-2.new.self (elem_first (link_to address) k (signs_before (letters (end_marks_of (from_address run))) more))) (c.in_ok-link.ensures.children ∙ ap (λ s. text_first s no_nodes) same)
    ∙ c.in_ok-put_text-2.ensures (signs_before (link_sign address ∷ letters (end_marks_of (from_address run))) more)
    ∙ ap (λ s. grown out (signs_before (letters s) (signs_before (link_sign address ∷ letters (end_marks_of (from_address run))) more))) c.address_in.ensures.before
    ∙ ap (grown out) (sym (before-append (letters (before_address run)) (link_sign address ∷ letters (end_marks_of (from_address run))) more))
    ∙ ap (λ l. grown out (signs_before l more)) (sym (made-is admits run true has))
    ∙ ap (λ r. grown out (signs_before (linked_run admits (letters r)) more)) (sym c.requires.ascii)
