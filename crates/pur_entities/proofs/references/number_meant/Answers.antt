use Rattle.std.proofs.Common.{◌≡◌, ◌∙◌, ap, lit<, Some, None, option_map, arith}
use Rattle.std.proofs.lemmas.Str.Pattern.{strip_prefix_char}
use Rattle.pur_entities.specs.References.{number_written}
use Rattle.pur_entities.proofs.NumeralLemmas.{cut_off}
use Rattle.pur_entities.proofs.BodyLemmas.{number_behind, name_meant}
use Rattle.pur_entities.proofs.references.number_meant.Goals as goal

pub returns-in-Some : goal.returns-in-Some
returns-in-Some c =
    let number = c.in-Some.number in
    let stripped = strip_prefix_char 35 c.args.body.now (Some number) c.in-Some.ensures.cases (lit< tt) in
    number_behind c.args.body.now number.now _ c.utf8.body stripped
    (c.number_written.ensures ∙ ap (λ t. option_map cut_off (number_written t)) c.as_bytes.ensures.value)

pub returns-in_err-lookup-in-None : goal.returns-in_err-lookup-in-None
returns-in_err-lookup-in-None c =
    let other = strip_prefix_char 35 c.args.body.now None c.in-None.ensures.cases (lit< tt) in
    name_meant c.args.body.now _ c.utf8.body other (c.from_residual.ensures ∙ ap (option_map cut_off) c.in_err-lookup-in-None.ensures)

pub returns-in_ok-lookup-in-None : goal.returns-in_ok-lookup-in-None
returns-in_ok-lookup-in-None c =
    let other = strip_prefix_char 35 c.args.body.now None c.in-None.ensures.cases (lit< tt) in
    let found = c.in_ok-lookup-in-None.field-0 in
    let same : c.from.result ≡ cut_off found = omega arith in
    name_meant c.args.body.now _ c.utf8.body other (ap Some same ∙ ap (option_map cut_off) c.in_ok-lookup-in-None.ensures)
