use Rattle.std.proofs.Common.{◌≡◌, ◌<◌, ◌∙◌, ◌∷◌, [], List, ℕ, length, true, ap, sym, refl, arith, rules, string_bytes}
use Rattle.std.specs.Str.{chars}
use Rattle.std.proofs.lemmas.Str.{IsUtf8-string_bytes}
use Rattle.pur_laws.proofs.Texts.{some_chars}
use Rattle.pur_tree.specs.Image.{nodes_of}
use Rattle.pur_tree.specs.Nodes.{nodes_append}
use Rattle.pur_tree.proofs.NodesLemmas.{nodes_append-assoc}
use Rattle.pur_inject.specs.Links.{is_address_sign, linked_run, linked_text, may_be_linked}
use Rattle.pur_inject.specs.Private.Cutting.{is_colonless}
use Rattle.pur_inject.specs.Private.Growing.{grown}
use Rattle.pur_inject.specs.Runs.{with_runs}
use Rattle.pur_inject.specs.Signs.{letters, nodes_from}
use Rattle.pur_inject.proofs.ColonLemmas.{text-colonless}
use Rattle.pur_inject.proofs.GrowingLemmas.{grown-ended}
use Rattle.pur_inject.proofs.linking.put_text_node.Goals as goal

-- a text that has a character
linked-some : (admits : List ℕ → _) (s : List ℕ) → 0 < length s → nodes_from (with_runs is_address_sign (linked_run admits) (letters s)) ≡ linked_text admits s
linked-some admits [] some = absurd (omega arith)
linked-some admits (c ∷ s) some = refl

pub returns-then-is_colonless-clause-nodes : goal.returns-then-is_colonless-clause-nodes
returns-then-is_colonless-clause-nodes g c = λ more.
    let text = chars (string_bytes c.args.text) in
    let none : is_colonless text ≡ true = ap (λ t. is_colonless (chars t)) (sym c.as_str.ensures.value) ∙ c.is_colonless.ensures.colonless c.if-is_colonless.true in
    c.in_ok-push_text_node.ensures more
    ∙ ap (λ f. nodes_append (nodes_of c.args.out.now.nodes.items) (nodes_append f more)) (sym (text-colonless (may_be_linked c.args.settings.now c.args.gate.now) text none))

pub returns-clause-nodes : goal.returns-clause-nodes
returns-clause-nodes g c = λ more.
    let admits = may_be_linked c.args.settings.now c.args.gate.now in
    let bytes = string_bytes c.args.text in
    let old = c.args.out.now in
    let made = linked_text admits (chars bytes) in
    let has : 0 < length bytes = omega (arith, c.is_colonless.ensures.some c.if-is_colonless.false, ap length c.as_str.ensures.value) in
    let some = some_chars bytes (IsUtf8-string_bytes c.args.text) has in
    let over : string_bytes old.text ≡ [] = search rules in
    let all : nodes_of c.end_text.new.self.nodes.items ≡ nodes_append (nodes_of old.nodes.items) made =
    c.in_ok-end_text.ensures.all ∙ c.in_ok-put_linked_text.ensures
    ∙ ap (λ t. grown old (nodes_from (with_runs is_address_sign (linked_run admits) (letters (chars t))))) c.as_str-2.ensures.value
    ∙ ap (grown old) (linked-some admits (chars bytes) some)
    ∙ grown-ended old made over in
    ap (λ f. nodes_append f more) all ∙ nodes_append-assoc (nodes_of old.nodes.items) made more
