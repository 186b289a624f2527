use Rattle.std.proofs.Common.{◌∙◌, ap, min}
use Rattle.std.specs.List.{list_all}
use Rattle.std.specs.Str.{chars}
use Rattle.std.specs.Str.Parse.{digits_value}
use Rattle.std.proofs.lemmas.Bool.{and_parts}
use Rattle.pur_text.specs.Trimming.{trimmed}
use Rattle.pur_csstok.specs.Numbers.{is_digit}
use Rattle.pur_csstok.proofs.ColorLemmas.{part_same}
use Rattle.pur_csstok.proofs.colors.part_value.Goals as goal

pub value_of-requires : goal.value_of-requires
value_of-requires c =
    ap (list_all is_digit) (c.as_bytes.ensures.value ∙ part_same c.trim.result.now (trimmed (chars c.args.text.now)) c.trim.utf8 c.trim.ensures c.requires)
    ∙ (and_parts _ _ c.requires).1

pub returns : goal.returns
returns c =
    c.value_of.ensures
    ∙ ap (λ t. min (digits_value 10 t) 255) (c.as_bytes.ensures.value ∙ part_same c.trim.result.now (trimmed (chars c.args.text.now)) c.trim.utf8 c.trim.ensures c.requires)
