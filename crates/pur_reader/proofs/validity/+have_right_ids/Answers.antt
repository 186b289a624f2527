use Rattle.std.proofs.Common.{◌≡◌, ◌∙◌, ap, sym}
use Rattle.std.specs.Prelude.{◌&&◌}
use Rattle.std.specs.Str.{chars}
use Rattle.pur_tree.specs.Image.{nodes_of, node_before}
use Rattle.pur_tree.specs.Nodes.{plain_elem}
use Rattle.pur_tree.proofs.NodeLemmas.{before_text, before_elem}
use Rattle.pur_validity.specs.Attributes.{ids_in, ids_of}
use Rattle.pur_reader.specs.Private.Judging.{seen_in, seen_behind, ids_right}
use Rattle.pur_reader.proofs.JudgingLemmas.{elem_ids, elem_seen, elem_right}
use Rattle.pur_reader.proofs.validity.+have_right_ids.Goals as goal

pub has_right_ids-returns-in-Text-clause-right : goal.has_right_ids-returns-in-Text-clause-right
has_right_ids-returns-in-Text-clause-right t c = λ rest.
    ap (λ n. ids_right (chars c.args.prefix.now) (seen_in c.args.seen.now) (ids_of n)) (ap (λ n. node_before n rest) c.in-Text.is ∙ before_text c.in-Text.field-0 rest)

pub has_right_ids-returns-in-Text-clause-seen : goal.has_right_ids-returns-in-Text-clause-seen
has_right_ids-returns-in-Text-clause-seen t c = λ u rest id.
    ap (λ n. seen_behind (seen_in c.args.seen.now) (ids_of n) id) (ap (λ n. node_before n rest) c.in-Text.is ∙ before_text c.in-Text.field-0 rest)

pub has_right_ids-returns-then-not-is_new-clause-right : goal.has_right_ids-returns-then-not-is_new-clause-right
has_right_ids-returns-then-not-is_new-clause-right t c = λ rest.
    let elem = c.in-Elem.elem in
    let e = plain_elem elem.name elem.attrs in
    let kids = nodes_of elem.children.items in
    let prefix = chars c.args.prefix.now in
    let seen = seen_in c.args.seen.now in
    ap (λ n. ids_right prefix seen (ids_of n)) (ap (λ n. node_before n rest) c.in-Elem.is ∙ before_elem elem.name elem.attrs elem.children rest)
    ∙ elem_ids prefix seen e kids rest
    ∙ ap (λ b. b && (ids_right prefix (seen_behind seen (ids_in elem.attrs)) (ids_of kids) && ids_right prefix (seen_behind (seen_behind seen (ids_in elem.attrs)) (ids_of kids)) (ids_of rest)))
    (sym c.in_ok-is_new-in-Elem.ensures.right ∙ c.if-not-is_new.true)

pub has_right_ids-returns-in_ok-inside-in-Elem-clause-right : goal.has_right_ids-returns-in_ok-inside-in-Elem-clause-right
has_right_ids-returns-in_ok-inside-in-Elem-clause-right t c = λ rest.
    let elem = c.in-Elem.elem in
    let e = plain_elem elem.name elem.attrs in
    let kids = nodes_of elem.children.items in
    let prefix = chars c.args.prefix.now in
    let seen = seen_in c.args.seen.now in
    let inner = rw c.as_slice.ensures.value at c.in_ok-inside-in-Elem.ensures.right in
    let behind = rw c.as_slice.ensures.value at c.in_ok-inside-in-Elem.ensures.seen in
    ap (λ n. ids_right prefix seen (ids_of n)) (ap (λ n. node_before n rest) c.in-Elem.is ∙ before_elem elem.name elem.attrs elem.children rest)
    ∙ elem_right prefix seen (seen_in c.has_new_id.new.seen) (seen_in c.have_right_ids.new.seen) e kids rest c.in_ok-inside-in-Elem.inside
    (sym c.in_ok-is_new-in-Elem.ensures.right ∙ c.if-not-is_new.false) (λ i id. c.in_ok-is_new-in-Elem.ensures.seen c.if-not-is_new.false id i)
    inner (λ is i id. behind is id i)

pub has_right_ids-returns-in_ok-inside-in-Elem-clause-seen : goal.has_right_ids-returns-in_ok-inside-in-Elem-clause-seen
has_right_ids-returns-in_ok-inside-in-Elem-clause-seen t c = λ is rest id.
    let elem = c.in-Elem.elem in
    let e = plain_elem elem.name elem.attrs in
    let kids = nodes_of elem.children.items in
    let seen = seen_in c.args.seen.now in
    let behind = rw c.as_slice.ensures.value at c.in_ok-inside-in-Elem.ensures.seen in
    let one : seen_in c.has_new_id.new.seen ≡ seen_behind seen (ids_in elem.attrs) = λ i id. c.in_ok-is_new-in-Elem.ensures.seen c.if-not-is_new.false id i in
    let two : seen_in c.have_right_ids.new.seen ≡ seen_behind (seen_in c.has_new_id.new.seen) (ids_of kids) = λ i id. behind is id i in
    ap (λ n. seen_behind seen (ids_of n) id) (ap (λ n. node_before n rest) c.in-Elem.is ∙ before_elem elem.name elem.attrs elem.children rest)
    ∙ (λ i. elem_seen seen e kids rest i id)
    ∙ ap (λ s. seen_behind (seen_behind s (ids_of kids)) (ids_of rest) id) (sym one)
    ∙ ap (λ s. seen_behind s (ids_of rest) id) (sym two)
