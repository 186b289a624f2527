-- Where the name is there, all stays.
use Rattle.std.proofs.Common.{◌≡◌, ◌∙◌, ◌++◌, ◌∷◌, [], true, sym}
use Rattle.std.specs.Str.{chars}
use Rattle.std.proofs.lemmas.Bool.{cond-true}
use Rattle.pur_attrlist.specs.Attributes.{has_name}
use Rattle.pur_attrs.proofs.KeepingLemmas.{found-named}
use Rattle.pur_attrs.proofs.completing.put_new.Goals as goal

pub returns-then-is_some : goal.returns-then-is_some
returns-then-is_some c =
    let attrs = c.args.attrs.now in
    let name = chars c.args.name.now in
    let has : has_name attrs name ≡ true = sym (found-named attrs name c.get.result c.get.ensures) ∙ sym c.is_some.ensures ∙ c.if-is_some.true in
    sym (cond-true (has_name attrs name) attrs (attrs ++ (name, chars c.args.value.now) ∷ []) has)
