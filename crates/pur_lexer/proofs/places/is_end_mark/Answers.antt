use Rattle.std.proofs.Common.{◌∙◌, sym, ap}
use Rattle.pur_lexer.specs.Constructs.{begins_with_name}
use Rattle.pur_lexer.proofs.PlaceLemmas.{no_end_mark, end_mark_begun, whole_rest}
use Rattle.pur_lexer.proofs.places.is_end_mark.Goals as goal

pub returns-then-not-starts_with : goal.returns-then-not-starts_with
returns-then-not-starts_with c = no_end_mark c.args.name.now c.args.bytes.now (sym c.starts_with.ensures.value ∙ c.if-not-starts_with.true)

pub returns : goal.returns
returns c =
    c.begins_with_name.ensures ∙ ap (begins_with_name c.args.name.now) (whole_rest 2 c.args.bytes.now)
    ∙ end_mark_begun c.args.name.now c.args.bytes.now (sym c.starts_with.ensures.value ∙ c.if-not-starts_with.false)
