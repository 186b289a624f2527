-- The text at hand stands as a node, in front of which comes no text.
use Rattle.std.proofs.Common.{◌≡◌, ◌<◌, [], length, sym, ap, ◌∙◌, arith, rules, string_bytes}
use Rattle.std.specs.Str.{chars}
use Rattle.std.proofs.lemmas.Grind.{common_steps}
use Rattle.std.proofs.lemmas.Str.{IsUtf8-string_bytes}
use Rattle.pur_laws.proofs.Texts.{some_chars}
use Rattle.pur_tree.specs.Image.{nodes_of}
use Rattle.pur_tree.specs.Nodes.{no_nodes, elem_first, text_first, nodes_append}
use Rattle.pur_tree.proofs.NodesLemmas.{nodes_append-none}
use Rattle.pur_inject.proofs.GrowingLemmas.{grown-ended}
use Rattle.pur_inject.proofs.SignLemmas.{letters-elem, letters-none}
use Rattle.pur_inject.proofs.growing.Growing.end_text.Goals as goal

pub returns-then-is_empty-clause-all : goal.returns-then-is_empty-clause-all
returns-then-is_empty-clause-all c =
    let none : string_bytes c.args.self.now.text ≡ [] = grind (arith, common_steps) in
    sym (grown-ended c.args.self.now no_nodes none ∙ nodes_append-none (nodes_of c.args.self.now.nodes.items))

pub returns-clause-elem : goal.returns-clause-elem
returns-clause-elem c = λ e kids more.
    let text = c.args.self.now.text in
    let old = nodes_of c.args.self.now.nodes.items in
    let now = elem_first e kids more in
    let over : string_bytes c.replace-text.new.dest ≡ [] = search rules in
    let has : 0 < length (string_bytes text) = search rules in
    let some : 0 < length (chars (string_bytes text)) = some_chars (string_bytes text) (IsUtf8-string_bytes text) has in
    grown-ended (record { nodes = c.push_text_node.new.out; text = c.replace-text.new.dest }) now over
    ∙ c.in_ok-push_text_node.ensures now
    ∙ ap (λ t. nodes_append old (text_first (chars (string_bytes t)) now)) c.replace-text.ensures.value
    ∙ ap (nodes_append old) (sym (letters-elem (chars (string_bytes text)) e kids more some))

pub returns-clause-all : goal.returns-clause-all
returns-clause-all c =
    let text = c.args.self.now.text in
    let old = nodes_of c.args.self.now.nodes.items in
    let has : 0 < length (string_bytes text) = search rules in
    let some : 0 < length (chars (string_bytes text)) = some_chars (string_bytes text) (IsUtf8-string_bytes text) has in
    sym (nodes_append-none (nodes_of c.push_text_node.new.out.items))
    ∙ c.in_ok-push_text_node.ensures no_nodes
    ∙ ap (λ t. nodes_append old (text_first (chars (string_bytes t)) no_nodes)) c.replace-text.ensures.value
    ∙ ap (nodes_append old) (sym (letters-none (chars (string_bytes text)) some))
