use Rattle.std.proofs.Common.{◌≡◌, true, false, sym, string_bytes}
use Rattle.std.specs.Str.{chars}
use Rattle.pur_tree.specs.Image.{nodes_of}
use Rattle.pur_tree.specs.Nodes.{plain_elem, is_joined}
use Rattle.pur_tree.proofs.NodeLemmas.{before_text, before_elem}
use Rattle.pur_tree.proofs.JoiningLemmas.{text_apart, text_beside, elem_apart, elem_unjoined}
use Rattle.pur_tree.proofs.joining.+are_joined.Goals as goal

pub ends_with_text-returns-then-after_text-clause-beside : goal.ends_with_text-returns-then-after_text-clause-beside
ends_with_text-returns-then-after_text-clause-beside t c rest =
    rw (c.in-Text.is, before_text c.in-Text.field-0 rest) (text_beside c.args.after_text (chars (string_bytes c.in-Text.field-0)) rest c.if-after_text.true)

pub ends_with_text-returns-else-after_text-clause-apart : goal.ends_with_text-returns-else-after_text-clause-apart
ends_with_text-returns-else-after_text-clause-apart t c rest =
    rw (c.in-Text.is, before_text c.in-Text.field-0 rest) (text_apart c.args.after_text (chars (string_bytes c.in-Text.field-0)) rest c.if-after_text.false)

pub ends_with_text-returns-then-not-are_joined-clause-beside : goal.ends_with_text-returns-then-not-are_joined-clause-beside
ends_with_text-returns-then-not-are_joined-clause-beside t c rest =
    let elem = c.in-Elem.elem in
    let kids : is_joined (nodes_of elem.children.items) ≡ false = rw (← c.as_slice.ensures.value) (sym c.if-not-are_joined.ensures) in
    rw (c.in-Elem.is, before_elem elem.name elem.attrs elem.children rest)
    (elem_unjoined c.args.after_text (plain_elem elem.name elem.attrs) (nodes_of elem.children.items) rest kids)

pub ends_with_text-returns-else-not-are_joined-clause-apart : goal.ends_with_text-returns-else-not-are_joined-clause-apart
ends_with_text-returns-else-not-are_joined-clause-apart t c rest =
    let elem = c.in-Elem.elem in
    let kids : is_joined (nodes_of elem.children.items) ≡ true = rw (← c.as_slice.ensures.value) (sym c.if-not-are_joined.ensures) in
    rw (c.in-Elem.is, before_elem elem.name elem.attrs elem.children rest)
    (elem_apart c.args.after_text (plain_elem elem.name elem.attrs) (nodes_of elem.children.items) rest kids)
