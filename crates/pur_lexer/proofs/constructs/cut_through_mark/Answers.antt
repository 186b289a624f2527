use Rattle.std.proofs.Common.{◌∙◌, sym, ap, Some, None}
use Rattle.std.specs.Str.{chars}
use Rattle.pur_laws.proofs.Options.{if_none}
use Rattle.pur_laws.proofs.Texts.{chars_past}
use Rattle.pur_lexer.proofs.CutLemmas.{prefix_parts}
use Rattle.pur_lexer.proofs.ConstructLemmas.{no_mark}
use Rattle.pur_lexer.proofs.constructs.cut_through_mark.Goals as goal

pub returns-in_err-strip_prefix-clause-none : goal.returns-in_err-strip_prefix-clause-none
returns-in_err-strip_prefix-clause-none c =
    let mark = c.args.mark.now in
    let end = c.cut_at_mark.result.1.now in
    if_none _ _ (no_mark mark end (chars c.args.text.now) c.requires c.cut_at_mark.ensures.text.1 c.cut_at_mark.ensures.rest
    (prefix_parts mark end None c.in_err-strip_prefix.ensures.cases))

pub returns-clause-behind : goal.returns-clause-behind
returns-clause-behind c =
    let mark = c.args.mark.now in
    let end = c.cut_at_mark.result.1.now in
    let behind = c.in_ok-strip_prefix.field-0 in
    let parts = prefix_parts mark end (Some behind) c.in_ok-strip_prefix.ensures.cases in
    sym (ap chars parts ∙ chars_past mark behind.now c.requires.ascii) ∙ c.cut_at_mark.ensures.rest
