use Rattle.std.proofs.Common.{rules}
use Rattle.std.proofs.lemmas.Iterator.{YieldsList-from_slice}
use Rattle.std.proofs.lemmas.Iterator.Search.{any_from_yields_List}
use Rattle.pur_names.specs.Attributes.{same_attr}
use Rattle.pur_settings.proofs.ItemLemmas.{same_attrs}
use Rattle.pur_settings.proofs.sorts.has_attr.Goals as goal

pub returns : goal.returns
returns c =
    any_from_yields_List (same_attr c.args.attr) _ _ c.any.result c.any.ensures.ran (YieldsList-from_slice c.args.attrs.now cc)
    (λ x b q k. search (rules, same_attrs))
