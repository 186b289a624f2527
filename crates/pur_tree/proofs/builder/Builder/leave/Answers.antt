use Rattle.std.proofs.Common.{◌≡◌, [], string_bytes, ap, ◌∙◌, refl}
use Rattle.std.specs.Str.{chars}
use Rattle.pur_tree.specs.Image.{nodes_of}
use Rattle.pur_tree.specs.Building.{elem_of, opened_by, text_nodes}
use Rattle.pur_tree.specs.Nodes.{no_nodes, elem_first, nodes_append}
use Rattle.pur_tree.proofs.NodeLemmas.{nodes_of_append, before_elem}
use Rattle.pur_tree.proofs.TextLemmas.{chars_of_none}
use Rattle.pur_tree.proofs.BuildingLemmas.{IsBuilding-leave, IsBuilding-popped, IsBuilding-untold, written-leave, opened_by-more, last_of-more}
use Rattle.pur_tree.proofs.builder.Builder.leave.Goals as goal

pub invariant_of-self : goal.invariant_of-self
invariant_of-self c =
    let none : string_bytes c.replace-text.new.dest ≡ [] = rw c.replace-text.ensures.after c.new.ensures.bytes in
    rw (chars_of_none _ none, c.in_err-push_text.ensures.err)
    (IsBuilding-untold c.self.inside.outer.items c.self.inside.children.items (chars (string_bytes c.self.inside.text)) c.self.invariant)

pub invariant_of-self-in_err-push-in-Some : goal.invariant_of-self-in_err-push-in-Some
invariant_of-self-in_err-push-in-Some c =
    let none : string_bytes c.replace-text.new.dest ≡ [] = rw c.replace-text.ensures.after c.new.ensures.bytes in
    let gone : c.replace-kept.new.dest.items ≡ [] = rw c.replace-kept.ensures.after c.new-in-Some.ensures.items in
    rw (gone, chars_of_none _ none)
    (IsBuilding-popped c.pop.new.self.items c.in-Some.field-0 c.self.inside.children.items (chars (string_bytes c.self.inside.text))
    (rw c.in-Some.ensures.items at c.self.invariant))

pub invariant_of-self-in-Some : goal.invariant_of-self-in-Some
invariant_of-self-in-Some c =
    let none : string_bytes c.replace-text.new.dest ≡ [] = rw c.replace-text.ensures.after c.new.ensures.bytes in
    let kids : nodes_of c.without_slack-children.result.items ≡ nodes_append (nodes_of c.self.inside.children.items) (text_nodes (chars (string_bytes c.self.inside.text))) =
    rw (c.without_slack-children.ensures, c.replace-kept.ensures.value, ← c.replace-text.ensures.value) c.in_ok-push_text.ensures.ok in
    let same : nodes_of c.push.new.self.items ≡ nodes_append (nodes_of c.in-Some.field-0.before.items) (elem_first (elem_of c.in-Some.field-0) (nodes_of c.without_slack-children.result.items) no_nodes) =
    ap nodes_of c.in_ok-push-in-Some.ensures.items ∙ nodes_of_append c.in-Some.field-0.before.items _
    ∙ ap (nodes_append (nodes_of c.in-Some.field-0.before.items)) (before_elem c.in-Some.field-0.name c.in-Some.field-0.attrs c.without_slack-children.result no_nodes) in
    rw (chars_of_none _ none)
    (IsBuilding-leave c.pop.new.self.items c.in-Some.field-0 c.self.inside.children.items c.push.new.self.items (chars (string_bytes c.self.inside.text))
    (rw c.in-Some.ensures.items at c.self.invariant) (rw (← kids) same))

pub returns-in_ok-push-in-Some-clause-opened : goal.returns-in_ok-push-in-Some-clause-opened
returns-in_ok-push-in-Some-clause-opened c =
    rw (← c.self.view_is, c.in-Some.ensures.items, opened_by-more c.pop.new.self.items c.in-Some.field-0, last_of-more (opened_by c.pop.new.self.items) c.in-Some.field-0.name) refl

pub returns-in_ok-push-in-Some-clause-written : goal.returns-in_ok-push-in-Some-clause-written
returns-in_ok-push-in-Some-clause-written c =
    let none : string_bytes c.replace-text.new.dest ≡ [] = rw c.replace-text.ensures.after c.new.ensures.bytes in
    let kids : nodes_of c.without_slack-children.result.items ≡ nodes_append (nodes_of c.self.inside.children.items) (text_nodes (chars (string_bytes c.self.inside.text))) =
    rw (c.without_slack-children.ensures, c.replace-kept.ensures.value, ← c.replace-text.ensures.value) c.in_ok-push_text.ensures.ok in
    let same : nodes_of c.push.new.self.items ≡ nodes_append (nodes_of c.in-Some.field-0.before.items) (elem_first (elem_of c.in-Some.field-0) (nodes_of c.without_slack-children.result.items) no_nodes) =
    ap nodes_of c.in_ok-push-in-Some.ensures.items ∙ nodes_of_append c.in-Some.field-0.before.items _
    ∙ ap (nodes_append (nodes_of c.in-Some.field-0.before.items)) (before_elem c.in-Some.field-0.name c.in-Some.field-0.attrs c.without_slack-children.result no_nodes) in
    rw (← c.self.view_is, chars_of_none _ none, c.in-Some.ensures.items, opened_by-more c.pop.new.self.items c.in-Some.field-0, last_of-more (opened_by c.pop.new.self.items) c.in-Some.field-0.name)
    (written-leave c.pop.new.self.items c.in-Some.field-0 (nodes_of c.push.new.self.items) (nodes_append (nodes_of c.self.inside.children.items) (text_nodes (chars (string_bytes c.self.inside.text))))
    (rw (← kids) same))
