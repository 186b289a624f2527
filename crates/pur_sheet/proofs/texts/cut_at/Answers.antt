use Rattle.pur_sheet.specs.Private.Words.{is_character}
use Rattle.pur_sheet.proofs.SelectorLemmas.{cut_first, cut_none}
use Rattle.pur_sheet.proofs.texts.cut_at.Goals as goal

pub returns-in-Some-clause-cut : goal.returns-in-Some-clause-cut
returns-in-Some-clause-cut c =
    cut_first (is_character c.args.separator) c.args.text.now c.in-Some.place c.split_at.result.0.now c.split_at.result.1.now c.split_at-in-Some.result.1.now
    c.in-Some.ensures c.split_at.ensures.front c.split_at.ensures.back c.split_at-in-Some.ensures.back

pub returns-in-None-clause-whole : goal.returns-in-None-clause-whole
returns-in-None-clause-whole c = cut_none (is_character c.args.separator) c.args.text.now c.in-None.ensures
