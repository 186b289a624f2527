use Rattle.std.proofs.Common.{◌∙◌, ap, sym}
use Rattle.pur_names.specs.Attributes.{attr_name}
use Rattle.pur_attrlist.specs.Attributes.{value_of}
use Rattle.pur_reader.proofs.ValueLemmas.{told, untold, attr_text}
use Rattle.pur_reader.proofs.values.has_name.Goals as goal

pub returns-in-Some : goal.returns-in-Some
returns-in-Some c =
    sym (told c.args.attrs.now (attr_name c.args.attr) _ (c.in-Some.ensures ∙ ap (value_of c.args.attrs.now) (attr_text c.name.result.now c.args.attr c.name.ensures)))

pub returns-in-None : goal.returns-in-None
returns-in-None c =
    sym (untold c.args.attrs.now (attr_name c.args.attr) (c.in-None.ensures ∙ ap (value_of c.args.attrs.now) (attr_text c.name.result.now c.args.attr c.name.ensures)))
