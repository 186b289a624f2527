use Rattle.std.proofs.Common.{sym, ◌∙◌}
use Rattle.pur_tree.specs.Nodes.{plain_elem}
use Rattle.pur_wellform.proofs.StartFacts.{did-excluded}
use Rattle.pur_wellform.proofs.steps.put_start.Goals as goal

pub returns-then-is_excluded_at : goal.returns-then-is_excluded_at
returns-then-is_excluded_at c =
    did-excluded c.args.settings.now c.args.machine.now (plain_elem c.args.name c.args.attrs) c.args.at_once c.requires.machine
    (sym (rw c.deref.ensures.value at c.is_excluded_at.ensures) ∙ c.if-is_excluded_at.true)
