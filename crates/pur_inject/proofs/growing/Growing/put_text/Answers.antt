use Rattle.std.proofs.Common.{◌≡◌, ◌++◌, List, ℕ, ap, ◌∙◌, rules, string_bytes}
use Rattle.std.specs.Str.{chars}
use Rattle.std.proofs.lemmas.List.{map-append}
use Rattle.std.proofs.lemmas.Str.{IsUtf8-string_bytes, chars-append}
use Rattle.pur_tree.specs.Image.{nodes_of}
use Rattle.pur_tree.specs.Nodes.{nodes_append}
use Rattle.pur_inject.specs.Signs.{letter, letters, signs_before}
use Rattle.pur_inject.proofs.SignLemmas.{before-append}
use Rattle.pur_inject.proofs.growing.Growing.put_text.Goals as goal

pub returns : goal.returns
returns c = λ more.
    let nodes = nodes_of c.args.self.now.nodes.items in
    let old = string_bytes c.args.self.now.text in
    let new = c.args.text.now in
    let put : string_bytes c.push_str.new.self ≡ old ++ new = search rules in
    let both = chars-append old new (IsUtf8-string_bytes c.args.self.now.text) in
    ap (λ (b : List ℕ). nodes_append nodes (signs_before (letters (chars b)) more)) put
    ∙ ap (λ (s : List ℕ). nodes_append nodes (signs_before (letters s) more)) both
    ∙ ap (λ l. nodes_append nodes (signs_before l more)) (map-append letter (chars old) (chars new))
    ∙ ap (nodes_append nodes) (before-append (letters (chars old)) (letters (chars new)) more)
