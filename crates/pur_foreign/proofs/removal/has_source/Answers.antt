-- The source of a picture is the value of its `src`.
use Rattle.std.proofs.Common.{◌∙◌, ap, sym, refl, codes}
use Rattle.std.specs.Prelude.{is_some}
use Rattle.std.specs.Option.{option_and_then, option_map}
use Rattle.std.specs.Str.{chars}
use Rattle.pur_laws.proofs.Texts.{chars_ascii}
use Rattle.pur_attrlist.specs.Attributes.{value_of}
use Rattle.pur_uripolicy.specs.Admissible.{uri_under}
use Rattle.pur_uripolicy.specs.declared.uses.UriUse.TheVariants.{Embed}
use Rattle.pur_foreign.proofs.removal.has_source.Goals as goal

pub returns-in_ok-uri-in-Some : goal.returns-in_ok-uri-in-Some
returns-in_ok-uri-in-Some g c =
    c.is_some.ensures
    ∙ ap is_some c.in_ok-uri-in-Some.ensures
    ∙ ap (λ value. is_some (option_and_then (uri_under c.args.settings.now c.args.gate.now Embed) value))
    (ap (option_map (λ value. chars value.now)) (sym c.in-Some.is) ∙ c.get.ensures ∙ ap (value_of c.args.attrs.now) (chars_ascii (codes "src") refl))

pub returns-in-None : goal.returns-in-None
returns-in-None g c =
    ap (λ value. is_some (option_and_then (uri_under c.args.settings.now c.args.gate.now Embed) value))
    (ap (option_map (λ value. chars value.now)) (sym c.in-None.is) ∙ c.get.ensures ∙ ap (value_of c.args.attrs.now) (chars_ascii (codes "src") refl))
