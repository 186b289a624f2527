use Rattle.std.proofs.Common.{rules, IsUtf8}
use Rattle.pur_reader.proofs.CharacterLemmas.{split_cut, split_first, split_none}
use Rattle.pur_reader.proofs.cuts.cut_at.Goals as goal

pub returns-in-Some-clause-parts : goal.returns-in-Some-clause-parts
returns-in-Some-clause-parts c =
    let is : IsUtf8 c.in-Some.front.now = search rules in
    split_cut c.args.mark c.args.text.now c.in-Some.front.now c.in-Some.rest.now c.requires is c.in-Some.ensures.cases

pub returns-in-Some-clause-first : goal.returns-in-Some-clause-first
returns-in-Some-clause-first c =
    let is : IsUtf8 c.in-Some.front.now = search rules in
    split_first c.args.mark c.args.text.now c.in-Some.front.now c.in-Some.rest.now is c.in-Some.ensures.cases

pub returns-in-None-clause-none : goal.returns-in-None-clause-none
returns-in-None-clause-none c = split_none c.args.mark c.args.text.now c.utf8.text c.in-None.ensures.cases
