use Rattle.std.proofs.Common.{◌∙◌, ap, rules}
use Rattle.std.specs.List.{list_any}
use Rattle.std.specs.Str.{bytes_eq}
use Rattle.std.proofs.lemmas.Iterator.{YieldsList-from_slice}
use Rattle.std.proofs.lemmas.Iterator.Search.{any_from_yields_List}
use borrow.Author.Tests.{tests}
use Rattle.pur_names.specs.Attributes.{attr_name}
use Rattle.pur_names.specs.declared.attributes.Attr.{Attr}
use Rattle.pur_absolute.proofs.TextLemmas.{required-chars}
use Rattle.pur_absolute.proofs.attributes.is_required.Goals as goal

pub returns : goal.returns
returns c =
    any_from_yields_List (λ (attr : Attr). bytes_eq c.args.name.now (attr_name attr)) _ _ c.any.result c.any.ensures.ran (YieldsList-from_slice c.required.result.now cc)
    (λ x b q k. search (rules, tests))
    ∙ ap (list_any (λ attr. bytes_eq c.args.name.now (attr_name attr))) c.required.ensures
    ∙ required-chars c.args.element c.args.name.now c.utf8.name
