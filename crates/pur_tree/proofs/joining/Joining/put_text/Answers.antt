use Rattle.std.proofs.Common.{ap, string_bytes}
use Rattle.std.specs.Str.{chars}
use Rattle.std.proofs.lemmas.Str.{chars-append, IsUtf8-string_bytes}
use Rattle.pur_tree.specs.Image.{nodes_of}
use Rattle.pur_tree.specs.Nodes.{nodes_append}
use Rattle.pur_tree.proofs.WalkLemmas.{text_joined-append}
use Rattle.pur_tree.proofs.joining.Joining.put_text.Goals as goal

pub returns-then-self : goal.returns-then-self
returns-then-self c = λ more.
    let run = string_bytes c.args.self.now.run in
    let text = string_bytes c.args.text in
    rw (c.if-self.true, c.in_ok-push_str.ensures.bytes, c.as_str.ensures.value, chars-append run text (IsUtf8-string_bytes c.args.self.now.run))
    (ap (nodes_append (nodes_of c.args.self.now.done.items)) (text_joined-append (chars run) (chars text) more))
