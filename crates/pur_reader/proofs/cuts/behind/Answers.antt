use Rattle.std.proofs.Common.{Some, None}
use Rattle.pur_reader.proofs.CharacterLemmas.{mark_behind, no_mark, prefix_parts}
use Rattle.pur_reader.proofs.cuts.behind.Goals as goal

pub returns-in-Some-clause-some : goal.returns-in-Some-clause-some
returns-in-Some-clause-some c =
    let parts = prefix_parts c.args.mark.now c.args.text.now (Some c.in-Some.rest) c.in-Some.ensures.cases in
    mark_behind c.args.mark.now c.args.text.now c.in-Some.rest.now c.requires parts

pub returns-in-None-clause-none : goal.returns-in-None-clause-none
returns-in-None-clause-none c =
    no_mark c.args.mark.now c.args.text.now c.utf8.text c.requires (prefix_parts c.args.mark.now c.args.text.now None c.in-None.ensures.cases)
