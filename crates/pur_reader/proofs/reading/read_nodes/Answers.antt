use Rattle.std.proofs.Common.{◌≡◌, ◌∙◌, ◌++◌, [], sym, ap, subst, append-nil, length, refl, rules}
use Rattle.std.specs.Str.{chars}
use Rattle.std.proofs.lemmas.List.{nil_from_length}
use Rattle.pur_tree.specs.Building.{written_of, opened_of, closings_of}
use Rattle.pur_tree.specs.Image.{nodes_of}
use Rattle.pur_tree.specs.Places.{fragment}
use Rattle.pur_reader.specs.Private.Reading.{Left, AreOpen, tokens_text}
use Rattle.pur_reader.proofs.LeftLemmas.{nothing_left}
use Rattle.pur_reader.proofs.OpenLemmas.{none_open, none_noted}
use Rattle.pur_reader.proofs.WrittenLemmas.{nodes_read}
use Rattle.pur_reader.proofs.reading.read_nodes.Goals as goal

pub returns-then-not-is_text-2-clause-none : goal.returns-then-not-is_text-2-clause-none
returns-then-not-is_text-2-clause-none c = λ w.
    c.in_ok-is_text-2.ensures.none c.if-not-is_text-2.true [] refl
    (subst (λ t. Left (opened_of c.reading.builder) t) (sym (append-nil (chars c.reading.rest.now))) (c.reading.invariant.left w))

pub returns-then-not-is_empty-clause-none : goal.returns-then-not-is_empty-clause-none
returns-then-not-is_empty-clause-none c = λ w.
    let read = c.in_ok-is_text-2.ensures.read c.if-not-is_text-2.false [] refl in
    let left = read.left (subst (λ t. Left (opened_of c.reading.builder) t) (sym (append-nil (chars c.reading.rest.now))) (c.reading.invariant.left w)) in
    let es = opened_of c.put_text-2.new.builder in
    let are : AreOpen fragment c.reading.opened.items es = subst (λ os. AreOpen fragment os es) c.deref-2.ensures.value c.in_ok-is_text-2.ensures.ready.are in
    let empty : length c.reading.opened.items ≡ 0 = ap length (none_noted fragment c.reading.opened.items es are (nothing_left left refl)) in
    search rules

pub returns-clause-spelled : goal.returns-clause-spelled
returns-clause-spelled c =
    let b = c.put_text-2.new.builder in
    let es = opened_of b in
    let nodes = nodes_of c.in_ok-forest.forest in
    let empty : length c.reading.opened.items ≡ 0 = search rules in
    let are : AreOpen fragment c.reading.opened.items es = subst (λ os. AreOpen fragment os es) c.deref-2.ensures.value c.in_ok-is_text-2.ensures.ready.are in
    let none = none_open fragment es (subst (λ os. AreOpen fragment os es) (nil_from_length c.reading.opened.items empty) are) in
    let read = c.in_ok-is_text-2.ensures.read c.if-not-is_text-2.false [] refl in
    nodes_read nodes (written_of b) (chars c.args.text.now) c.in_ok-forest.ensures.forest.sound c.in_ok-forest.ensures.joined
    (c.in_ok-forest.ensures.tree ∙ ap (λ x. written_of b ++ closings_of x) none ∙ append-nil (written_of b)) (read.good c.reading.invariant.good)
    (sym (append-nil (tokens_text (written_of b))) ∙ sym read.is ∙ ap (λ r. tokens_text (written_of c.reading.builder) ++ r) (append-nil (chars c.reading.rest.now)) ∙ c.reading.invariant.is)
