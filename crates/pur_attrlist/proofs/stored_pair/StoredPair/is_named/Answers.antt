use Rattle.std.proofs.Common.{◌∙◌, ap}
use Rattle.std.specs.Str.{chars}
use Rattle.pur_laws.proofs.Texts.{bytes_eq-chars}
use Rattle.pur_attrlist.specs.Attributes.{is_same_text}
use Rattle.pur_attrlist.proofs.stored_pair.StoredPair.is_named.Goals as goal

pub returns : goal.returns
returns c =
    c.eq.ensures
    ∙ bytes_eq-chars c.args.name.now c.as_str.result.now c.utf8.name c.as_str.utf8
    ∙ ap (is_same_text (chars c.args.name.now)) c.as_str.ensures
