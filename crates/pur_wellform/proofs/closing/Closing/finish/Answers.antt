use Rattle.std.proofs.Common.{◌≡◌, ◌++◌, [], ap, sym, subst, ◌∙◌}
use Rattle.pur_tree.specs.Building.{written_of, opened_of, closings_of}
use Rattle.pur_tree.specs.Tokens.{joined}
use Rattle.pur_wellform.specs.declared.machine.Machine.{Machine}
use Rattle.pur_wellform.specs.Progress.{Progress, closed_behind}
use Rattle.pur_wellform.specs.Private.Machines.{progress_of}
use Rattle.pur_wellform.proofs.ClosingFacts.{ends}
use Rattle.pur_wellform.proofs.closing.Closing.finish.Goals as goal

pub returns-clause-tree : goal.returns-clause-tree
returns-clause-tree c =
    c.in_ok-forest.ensures.tree ∙ sym c.in_ok-forest.ensures.settled
    ∙ subst (λ (m : Machine). joined (written_of m.builder ++ closings_of (opened_of m.builder)) ≡ closed_behind (progress_of c.self.inside.settings.now c.self.inside.machine) [])
    (sym c.replace-machine.ensures.value) (ends c.self.inside.settings.now c.self.inside.machine c.self.invariant.known)
    ∙ ap (λ (p : Progress). closed_behind p []) c.self.view_is
