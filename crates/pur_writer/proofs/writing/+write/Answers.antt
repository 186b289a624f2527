use Rattle.std.proofs.Common.{◌≡◌, ◌∙◌, ◌++◌, ap, sym, string_bytes}
use Rattle.std.proofs.lemmas.Str.{IsUtf8-string_bytes}
use Rattle.pur_text.specs.Escapes.{escaped}
use Rattle.pur_tree.specs.Image.{nodes_of}
use Rattle.pur_tree.specs.Nodes.{plain_elem}
use Rattle.pur_tree.proofs.NodeLemmas.{before_text, before_elem}
use Rattle.pur_writer.proofs.WrittenLemmas.{element_written, empty_written, text_written}
use Rattle.pur_writer.proofs.writing.+write.Goals as goal

pub push_elem-returns : goal.push_elem-returns
push_elem-returns t c =
    element_written (plain_elem c.args.elem.now.name c.args.elem.now.attrs) (nodes_of c.args.elem.now.children.items) c.args.out.now.items c.push_tag-2.new.out.items c.push_nodes.new.out.items c.push_end_tag.new.out.items
    (sym c.if-is_declared_empty.ensures.value) c.in_ok-push_tag-2.ensures (let w = rw c.as_slice.ensures.value at c.in_ok-push_nodes.ensures in w) c.in_ok-push_end_tag.ensures

pub push_elem-returns-then-is_declared_empty : goal.push_elem-returns-then-is_declared_empty
push_elem-returns-then-is_declared_empty t c =
    empty_written (plain_elem c.args.elem.now.name c.args.elem.now.attrs) (nodes_of c.args.elem.now.children.items) c.args.out.now.items c.push_tag.new.out.items
    (sym c.if-is_declared_empty.ensures.value) c.in_ok-push_tag.ensures

pub push_node-returns-in_ok-push_escaped-in-Text : goal.push_node-returns-in_ok-push_escaped-in-Text
push_node-returns-in_ok-push_escaped-in-Text t c rest =
    let bytes : c.push_escaped.new.out.items ≡ c.args.out.now.items ++ escaped (string_bytes c.in-Text.text) =
    c.in_ok-push_escaped-in-Text.ensures ∙ ap (λ x. c.args.out.now.items ++ escaped x) (c.as_bytes.ensures.value ∙ c.as_str.ensures.value) in
    rw (c.in-Text.is, before_text c.in-Text.text rest)
    (text_written (string_bytes c.in-Text.text) c.args.out.now.items c.push_escaped.new.out.items (IsUtf8-string_bytes c.in-Text.text) bytes rest)

pub push_node-returns-in_ok-push_elem-in-Elem : goal.push_node-returns-in_ok-push_elem-in-Elem
push_node-returns-in_ok-push_elem-in-Elem t c rest =
    rw (c.in-Elem.is, before_elem c.in-Elem.elem.name c.in-Elem.elem.attrs c.in-Elem.elem.children rest) (c.in_ok-push_elem-in-Elem.ensures rest)
