use Rattle.std.proofs.Common.{◌≡◌, [], ◌∷◌, ◌++◌, ◌<◌, length, string_bytes, ap, sym, ◌∙◌, refl, arith}
use Rattle.std.specs.Str.{chars}
use Rattle.pur_laws.proofs.Texts.{some_chars}
use Rattle.pur_tree.specs.Nodes.{no_nodes, nodes_append}
use Rattle.pur_tree.specs.declared.node.Node.TheVariants.{Text}
use Rattle.pur_tree.specs.Image.{nodes_of}
use Rattle.pur_tree.proofs.NodeLemmas.{nodes_of_append, before_text}
use Rattle.pur_tree.proofs.NodesLemmas.{nodes_append-none}
use Rattle.pur_tree.proofs.TextLemmas.{chars_of_none, text_nodes_some}
use Rattle.std.proofs.lemmas.Str.{IsUtf8-string_bytes}
use Rattle.std.proofs.lemmas.List.{nil_from_length}
use Rattle.std.proofs.lemmas.Bool.Decides.{nat_tests}
use Rattle.pur_tree.proofs.builder.push_text.Goals as goal

pub returns-then-is_empty-clause-ok : goal.returns-then-is_empty-clause-ok
returns-then-is_empty-clause-ok c =
    let len : length (string_bytes c.args.text) ≡ 0 = grind (arith, nat_tests, c.args.text.bytes.ok.0, c.if-is_empty.ensures) in
    let none : string_bytes c.args.text ≡ [] = nil_from_length _ len in
    rw (chars_of_none _ none, nodes_append-none) refl

pub returns-clause-ok : goal.returns-clause-ok
returns-clause-ok c =
    let some : 0 < length (chars (string_bytes c.args.text)) = some_chars _ (IsUtf8-string_bytes c.args.text) (grind (arith, nat_tests, c.args.text.bytes.ok.0, c.if-is_empty.ensures)) in
    ap nodes_of (c.in_ok-push.ensures.items ∙ ap (λ l. l ++ Text c.args.text ∷ []) c.make_room.ensures)
    ∙ nodes_of_append c.args.nodes.now.items _
    ∙ ap (nodes_append (nodes_of c.args.nodes.now.items)) (before_text c.args.text no_nodes ∙ sym (text_nodes_some _ some))
