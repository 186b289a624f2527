-- An element holds nothing exactly where it is declared EMPTY.
use Rattle.std.proofs.Common.{rules, ◌≡◌, true, false, sym, ◌∙◌}
use Rattle.pur_modules.proofs.EmptyElements.{holds_nothing}
use Rattle.pur_modules.specs.Contents.{is_empty_element}
use Rattle.pur_modules.proofs.kinds.is_declared_empty.Goals as goal

pub returns-in-Br-clause-nothing : goal.returns-in-Br-clause-nothing
returns-in-Br-clause-nothing c =
    let empty : true ≡ is_empty_element c.args.element = search rules in
    λ doctype parent. holds_nothing doctype c.args.element parent ∙ sym empty

pub returns-in_default-clause-nothing : goal.returns-in_default-clause-nothing
returns-in_default-clause-nothing c =
    let holding : false ≡ is_empty_element c.args.element = search rules in
    λ doctype parent. holds_nothing doctype c.args.element parent ∙ sym holding
