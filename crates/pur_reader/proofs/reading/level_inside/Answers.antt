use Rattle.std.proofs.Common.{◌∙◌, ◌+◌, ap, ap₂, subst, arith, ℕ}
use Rattle.pur_tree.specs.Building.{opened_of}
use Rattle.pur_tree.specs.Places.{fragment, rise}
use Rattle.pur_reader.specs.Private.Reading.{AreOpen}
use Rattle.pur_reader.proofs.OpenLemmas.{open_last, at_most_two}
use Rattle.pur_reader.proofs.reading.level_inside.Goals as goal

pub overflow_add-result : goal.overflow_add-result
overflow_add-result c =
    let es = opened_of c.args._builder.now in
    let i = open_last fragment c.in-Some.field-0-1.now c.in-Some.last.now es (subst (λ os. AreOpen fragment os es) c.in-Some.ensures.cases.0 c.requires.are) in
    let few = at_most_two c.is_table.result c.args.name c.level_rise.result c.level_rise.ensures in
    let l = i.low in omega (arith, few)

pub returns-in-Some : goal.returns-in-Some
returns-in-Some c =
    let es = opened_of c.args._builder.now in
    let i = open_last fragment c.in-Some.field-0-1.now c.in-Some.last.now es (subst (λ os. AreOpen fragment os es) c.in-Some.ensures.cases.0 c.requires.are) in
    ap₂ (λ (n m : ℕ). n + m) i.level (c.level_rise.ensures ∙ ap (λ b. rise b c.args.name) (c.is_table.ensures ∙ i.table))
