use Rattle.std.proofs.Common.{sym}
use Rattle.pur_laws.proofs.Options.{if_none}
use Rattle.pur_entities.proofs.ReadingLemmas.{no_body, reference_refused, reference_read}
use Rattle.pur_entities.proofs.references.cut_reference.Goals as goal

pub returns-in_err-body-clause-none : goal.returns-in_err-body-clause-none
returns-in_err-body-clause-none c = if_none _ _ (sym (no_body c.args.text.now c.in_err-body.ensures.none c.utf8.text))

pub returns-in_err-number_meant-clause-none : goal.returns-in_err-number_meant-clause-none
returns-in_err-number_meant-clause-none c =
    let parts = c.in_ok-body.ensures in
    if_none _ _ (sym (reference_refused c.args.text.now c.in_ok-body.body.now c.in_ok-body.behind.now parts.text.0 parts.text.1 parts.some parts.body
    c.in_err-number_meant.ensures))

pub returns-clause-some : goal.returns-clause-some
returns-clause-some c =
    let parts = c.in_ok-body.ensures in
    reference_read c.args.text.now c.in_ok-body.body.now c.in_ok-body.behind.now parts.text.0 parts.text.1 parts.some parts.body
    c.in_ok-number_meant.field-0 c.in_ok-number_meant.ensures
