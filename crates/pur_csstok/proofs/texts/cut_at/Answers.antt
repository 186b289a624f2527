use Rattle.std.proofs.Common.{rules, IsUtf8}
use Rattle.pur_csstok.proofs.TextLemmas.{split_cut, split_first, split_none}
use Rattle.pur_csstok.proofs.texts.cut_at.Goals as goal

pub returns-in-Some-clause-cut : goal.returns-in-Some-clause-cut
returns-in-Some-clause-cut c =
    let is : IsUtf8 c.in-Some.front.now = search rules in
    split_cut c.args.c c.args.text.now c.in-Some.front.now c.in-Some.behind.now c.ranges.c.0 is c.in-Some.ensures.cases

pub returns-in-Some-clause-first : goal.returns-in-Some-clause-first
returns-in-Some-clause-first c =
    let is : IsUtf8 c.in-Some.front.now = search rules in
    split_first c.args.c c.args.text.now c.in-Some.front.now c.in-Some.behind.now is c.in-Some.ensures.cases

pub returns-in-None-clause-whole : goal.returns-in-None-clause-whole
returns-in-None-clause-whole c = split_none c.args.c c.args.text.now c.utf8.text c.in-None.ensures.cases
