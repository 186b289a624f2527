use Rattle.std.proofs.Common.{◌≡◌, ◌∙◌, ◌∷◌, ◌++◌, [], List, ℕ, ap, sym, refl, string_bytes}
use Rattle.std.specs.Str.{chars}
use Rattle.std.proofs.lemmas.Bool.{and_from}
use Rattle.std.proofs.lemmas.Str.{chars-nil}
use Rattle.pur_tree.specs.Image.{nodes_of}
use Rattle.pur_tree.specs.Nodes.{elem_first, plain_elem}
use Rattle.pur_modules.specs.declared.kinds.Doctype.{Doctype}
use Rattle.pur_inject.specs.Paragraphs.{is_line_feed_sign, marked_run, with_blank_lines}
use Rattle.pur_inject.specs.Private.Standing.{ahead}
use Rattle.pur_inject.specs.Signs.{Sign, element, letters}
use Rattle.pur_inject.specs.declared.growing.Growing.{Growing}
use Rattle.pur_inject.proofs.GrowingLemmas.{ends, goes-on}
use Rattle.pur_inject.proofs.RunLemmas.{with-split}
use Rattle.pur_inject.proofs.paragraphs.Paragraphs.put_elem.Goals as goal

no-text : (d : Doctype) (done piece : Growing) (bytes : List ℕ) (more : List Sign) → bytes ≡ []
    → ahead d done piece (with_blank_lines (letters (chars bytes) ++ more)) ≡ ahead d done piece (with_blank_lines more)
no-text d done piece bytes more none =
    ap (λ b. ahead d done piece (with_blank_lines (letters (chars b) ++ more))) none
    ∙ ap (λ s. ahead d done piece (with_blank_lines (letters s ++ more))) chars-nil

pub returns-then-is_in_paragraphs : goal.returns-then-is_in_paragraphs
returns-then-is_in_paragraphs c = λ more.
    let d = c.args.doctype in
    let old = c.args.self.now in
    let mid = c.end_text.new.self in
    let x = element (plain_elem c.args.elem.name c.args.elem.attrs) (nodes_of c.args.elem.children.items) in
    no-text d mid.done c.put_elem.new.self (string_bytes mid.text) more c.in_ok-end_text.ensures.over
    ∙ goes-on d mid.done mid.piece c.put_elem.new.self (x ∷ []) (with_blank_lines more) (and_from _ _ (sym c.is_in_paragraphs.ensures ∙ c.if-is_in_paragraphs.true) refl) c.in_ok-put_elem.ensures.same
    ∙ c.in_ok-end_text.ensures.same (x ∷ with_blank_lines more)
    ∙ ap (ahead d old.done old.piece) (sym (with-split is_line_feed_sign marked_run refl (letters (chars (string_bytes old.text))) more x refl))

pub returns : goal.returns
returns c = λ more.
    let d = c.args.doctype in
    let old = c.args.self.now in
    let mid = c.end_text.new.self in
    let ended = c.end_piece.new.self in
    let e = plain_elem c.args.elem.name c.args.elem.attrs in
    let kids = nodes_of c.args.elem.children.items in
    let x = element e kids in
    no-text d c.put_elem-2.new.self ended.piece (string_bytes ended.text) more (c.in_ok-end_piece.ensures.text ∙ c.in_ok-end_text.ensures.over)
    ∙ ends d mid.done mid.piece c.put_elem-2.new.self ended.piece x (with_blank_lines more) (sym c.is_in_paragraphs.ensures ∙ c.if-is_in_paragraphs.false) c.in_ok-end_piece.ensures.piece
    (λ after. c.in_ok-put_elem-2.ensures.same after ∙ c.in_ok-end_piece.ensures.done (elem_first e kids after))
    ∙ c.in_ok-end_text.ensures.same (x ∷ with_blank_lines more)
    ∙ ap (ahead d old.done old.piece) (sym (with-split is_line_feed_sign marked_run refl (letters (chars (string_bytes old.text))) more x refl))
