-- A name is plain, so its bytes are its characters.
use Rattle.std.proofs.Common.{◌≡◌, ◌∙◌, ap, sym, List, ℕ, Option, Some, None, IfSome}
use Rattle.std.specs.Prelude.{IfNone}
use Rattle.std.specs.Str.{chars}
use Rattle.pur_modules.proofs.NameLaws.{chars-element_name, element_named-chars}
use Rattle.pur_names.specs.Elements.{element_name, element_named}
use Rattle.pur_names.specs.declared.elements.Element.{Element}
use Rattle.pur_wellform.proofs.reading.named.Goals as goal

plain : (found : Option Element) (name : List ℕ) → IfSome found (λ e. element_name e ≡ name) → IfSome found (λ e. element_name e ≡ chars name)
plain None name is = tt
plain (Some e) name is = sym (chars-element_name e) ∙ ap chars is

unnamed : (found named : Option Element) → found ≡ named → IfNone found (named ≡ None)
unnamed None named is = sym is
unnamed (Some e) named is = tt

pub returns-clause-some : goal.returns-clause-some
returns-clause-some c = plain c.from_name.result c.args.name.now c.from_name.ensures.some

pub returns-clause-none : goal.returns-clause-none
returns-clause-none c =
    unnamed c.from_name.result (element_named (chars c.args.name.now))
    (c.from_name.ensures.value ∙ sym (element_named-chars c.args.name.now c.utf8.name))
