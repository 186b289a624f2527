use Rattle.std.proofs.Common.{List, ℕ, subst, string_bytes}
use Rattle.pur_settings.specs.Rules.{Rules}
use Rattle.pur_cli.specs.Private.Answering.{Gives}
use Rattle.pur_cli.specs.Answers.{Answer, filtered, sheeted}
use Rattle.pur_cli.proofs.AnswerLemmas.{worked_on}
use Rattle.pur_cli.proofs.answer.answer_to.Goals as goal

pub returns-in_ok-filter-in-Filter-clause-answered : goal.returns-in_ok-filter-in-Filter-clause-answered
returns-in_ok-filter-in-Filter-clause-answered g c =
    let read = c.in_ok-source-in-Filter.ensures.read in
    let gives = c.in_ok-filter-in-Filter.ensures read.input read.took_them in
    rw c.in-Filter.is
    (record {
      settled = gives.settled;
      gives = worked_on filtered _ _ _ read.input _ _ read.settings read.input_is read.small gives;
      sampled_is = tt;
      kept = read.kept;
      place = read.place;
      told = read.told;
    })

pub returns-in_ok-clean_sheet-in-Sheet-clause-answered : goal.returns-in_ok-clean_sheet-in-Sheet-clause-answered
returns-in_ok-clean_sheet-in-Sheet-clause-answered g c =
    let read = c.in_ok-source-in-Sheet.ensures.read in
    let work : Rules → List ℕ → Answer = λ rules input. sheeted rules (string_bytes c.in-Sheet.scope) input in
    let gives : Gives (work c.in_ok-source-in-Sheet.source.settings read.input) c.in_ok-clean_sheet-in-Sheet.field-0.status
    c.in_ok-clean_sheet-in-Sheet.field-0.text.items =
    subst (λ scope. Gives (sheeted c.in_ok-source-in-Sheet.source.settings scope read.input) c.in_ok-clean_sheet-in-Sheet.field-0.status
    c.in_ok-clean_sheet-in-Sheet.field-0.text.items) c.as_str.ensures.value (c.in_ok-clean_sheet-in-Sheet.ensures read.input read.took_them) in
    rw c.in-Sheet.is
    (record {
      settled = gives.settled;
      gives = worked_on work _ _ _ read.input _ _ read.settings read.input_is read.small gives;
      sampled_is = tt;
      kept = read.kept;
      place = read.place;
      told = read.told;
    })
