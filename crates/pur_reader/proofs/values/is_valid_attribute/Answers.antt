use Rattle.std.proofs.Common.{◌∙◌, ap, false}
use Rattle.std.specs.Option.{option_map_or}
use Rattle.std.specs.Str.{chars}
use Rattle.pur_attrlist.specs.Attributes.{is_same_text}
use Rattle.pur_reader.proofs.ValueLemmas.{valid-read}
use Rattle.pur_reader.proofs.values.is_valid_attribute.Goals as goal

pub returns : goal.returns
returns g c =
    let value = chars c.args.value.now in
    c.is_read_as.ensures
    ∙ ap (λ read. option_map_or (is_same_text value) read false) c.in_ok-read.ensures.value
    ∙ valid-read c.args.settings.now c.args.gate.now c.args.element (chars c.args.name.now) value
