use Rattle.std.proofs.Common.{◌≡◌, [], string_bytes}
use Rattle.std.specs.Str.{chars}
use Rattle.pur_tree.specs.Image.{nodes_of}
use Rattle.pur_tree.specs.Building.{text_nodes}
use Rattle.pur_tree.specs.Nodes.{nodes_append}
use Rattle.pur_tree.proofs.TextLemmas.{chars_of_none}
use Rattle.pur_tree.proofs.BuildingLemmas.{IsBuilding-enter, IsBuilding-lost, written-enter, opened_by-more}
use Rattle.pur_tree.proofs.builder.Builder.enter.Goals as goal

pub invariant_of-self : goal.invariant_of-self
invariant_of-self c =
    let none : string_bytes c.replace-text.new.dest ≡ [] = rw c.replace-text.ensures.after c.new.ensures.bytes in
    let gone : c.replace-before.new.dest.items ≡ [] = rw c.replace-before.ensures.after c.new-2.ensures.items in
    rw (gone, chars_of_none _ none)
    (IsBuilding-lost c.self.inside.outer.items c.self.inside.children.items (chars (string_bytes c.self.inside.text)) c.self.invariant)

pub invariant_of-self-in_err-push : goal.invariant_of-self-in_err-push
invariant_of-self-in_err-push c =
    let none : string_bytes c.replace-text.new.dest ≡ [] = rw c.replace-text.ensures.after c.new.ensures.bytes in
    let gone : c.replace-before.new.dest.items ≡ [] = rw c.replace-before.ensures.after c.new-2.ensures.items in
    rw (gone, chars_of_none _ none, c.in_err-push.ensures.items)
    (IsBuilding-lost c.self.inside.outer.items c.self.inside.children.items (chars (string_bytes c.self.inside.text)) c.self.invariant)

pub invariant_of-self-2 : goal.invariant_of-self-2
invariant_of-self-2 c =
    let none : string_bytes c.replace-text.new.dest ≡ [] = rw c.replace-text.ensures.after c.new.ensures.bytes in
    let gone : c.replace-before.new.dest.items ≡ [] = rw c.replace-before.ensures.after c.new-2.ensures.items in
    let same : nodes_of c.push_text.new.nodes.items ≡ nodes_append (nodes_of c.self.inside.children.items) (text_nodes (chars (string_bytes c.self.inside.text))) =
    rw (← c.replace-before.ensures.value, ← c.replace-text.ensures.value) c.in_ok-push_text.ensures.ok in
    rw (gone, chars_of_none _ none, c.in_ok-push.ensures.items)
    (IsBuilding-enter c.self.inside.outer.items _ c.self.inside.children.items (chars (string_bytes c.self.inside.text)) c.self.invariant
    (rw (← c.self.view_is) at c.requires.level) (rw (← c.self.view_is) at c.requires.holds) same)

pub returns-clause-written : goal.returns-clause-written
returns-clause-written c =
    let none : string_bytes c.replace-text.new.dest ≡ [] = rw c.replace-text.ensures.after c.new.ensures.bytes in
    let gone : c.replace-before.new.dest.items ≡ [] = rw c.replace-before.ensures.after c.new-2.ensures.items in
    let same : nodes_of c.push_text.new.nodes.items ≡ nodes_append (nodes_of c.self.inside.children.items) (text_nodes (chars (string_bytes c.self.inside.text))) =
    rw (← c.replace-before.ensures.value, ← c.replace-text.ensures.value) c.in_ok-push_text.ensures.ok in
    rw (← c.self.view_is, gone, chars_of_none _ none, c.in_ok-push.ensures.items)
    (written-enter c.self.inside.outer.items _ (nodes_append (nodes_of c.self.inside.children.items) (text_nodes (chars (string_bytes c.self.inside.text)))) same)

pub returns-clause-opened : goal.returns-clause-opened
returns-clause-opened c =
    rw (← c.self.view_is, c.in_ok-push.ensures.items) (opened_by-more c.self.inside.outer.items _)
