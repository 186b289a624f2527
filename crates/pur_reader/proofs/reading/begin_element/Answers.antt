use Rattle.std.proofs.Common.{◌≤◌, ◌∙◌, sym, subst}
use Rattle.std.proofs.lemmas.Bool.{both_ways}
use Rattle.pur_modules.specs.Contents.{is_empty_element}
use Rattle.pur_tree.specs.Building.{opened_of}
use Rattle.pur_tree.specs.Nodes.{plain_elem}
use Rattle.pur_reader.proofs.LeftLemmas.{fitting}
use Rattle.pur_reader.proofs.StepLemmas.{if_ok}
use Rattle.pur_reader.proofs.reading.begin_element.Goals as goal

pub returns-then-not-level_fits-clause-none : goal.returns-then-not-level_fits-clause-none
returns-then-not-level_fits-clause-none c = λ u rest w.
    let fit = fitting (opened_of c.args.builder.now) (plain_elem c.args.tag.name c.args.tag.attrs) c.args.tag.is_empty rest c.requires.good w in
    both_ways c.level_fits.result c.if-not-level_fits.true (c.level_fits.ensures.1 (subst (λ n. n ≤ 128) (sym c.level_inside-level.ensures) fit.low))

pub returns-then-is_empty-clause-none : goal.returns-then-is_empty-clause-none
returns-then-is_empty-clause-none c =
    if_ok _ _ c.put_empty.result (λ is none u rest w.
    let fit = fitting (opened_of c.args.builder.now) (plain_elem c.args.tag.name c.args.tag.attrs) c.args.tag.is_empty rest c.requires.good w in
    both_ways (is_empty_element c.args.tag.name) (none u) (fit.kind ∙ c.if-is_empty.true)) c.put_empty.ensures.none

pub returns-else-is_empty-clause-none : goal.returns-else-is_empty-clause-none
returns-else-is_empty-clause-none c =
    if_ok _ _ c.enter.result (λ is none u rest w.
    let fit = fitting (opened_of c.args.builder.now) (plain_elem c.args.tag.name c.args.tag.attrs) c.args.tag.is_empty rest c.requires.good w in
    both_ways (is_empty_element c.args.tag.name) (fit.kind ∙ c.if-is_empty.false) (none u)) c.enter.ensures.none
