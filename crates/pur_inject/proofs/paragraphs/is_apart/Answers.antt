use Rattle.std.proofs.Common.{◌≡◌, true, false, not, Bool, refl}
use Rattle.std.specs.Prelude.{◌&&◌, if◌then◌else◌}
use Rattle.pur_tree.proofs.NodeLemmas.{before_text, before_elem}
use Rattle.pur_inject.specs.Paragraphs.{is_in_paragraphs}
use Rattle.pur_inject.specs.Private.Standing.{are_apart}
use Rattle.pur_inject.proofs.paragraphs.is_apart.Goals as goal

if_and : (a b : Bool) → (a && b) ≡ (if a then b else false)
if_and true b = refl
if_and false b = refl

pub returns-in-Text : goal.returns-in-Text
returns-in-Text c = λ more. rw (c.in-Text.is, before_text c.in-Text.field-0 more) refl

pub returns-in-Elem : goal.returns-in-Elem
returns-in-Elem c = λ more.
    let elem = c.in-Elem.elem in
    rw (c.in-Elem.is, before_elem elem.name elem.attrs elem.children more, c.is_in_paragraphs.ensures) (if_and (not (is_in_paragraphs c.args.doctype elem.name)) (are_apart c.args.doctype more))
