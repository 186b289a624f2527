use Rattle.std.proofs.Common.{ap, ◌∙◌}
use Rattle.pur_tokens.specs.Shown.{plain_shown}
use Rattle.pur_wellform.specs.Standing.{can_be_closed}
use Rattle.pur_wellform.specs.Progress.{Progress}
use Rattle.pur_wellform.proofs.ClosingFacts.{closing_after}
use Rattle.pur_wellform.proofs.ShownFacts.{may-close}
use Rattle.pur_wellform.proofs.closing.Closing.put.Goals as goal

pub invariant_of-self : goal.invariant_of-self
invariant_of-self c =
    closing_after c.self.inside.settings.now c.self.inside.machine c.put_shown.new.machine (plain_shown c.args.shown) c.self.invariant
    (ap (λ (p : Progress). can_be_closed p.rules (plain_shown c.args.shown)) c.self.view_is ∙ may-close c.args.self.now.rules c.args.shown ∙ c.requires) c.in-Ok.ensures

pub returns-in-Ok-clause-few : goal.returns-in-Ok-clause-few
returns-in-Ok-clause-few c =
    (closing_after c.self.inside.settings.now c.self.inside.machine c.put_shown.new.machine (plain_shown c.args.shown) c.self.invariant
    (ap (λ (p : Progress). can_be_closed p.rules (plain_shown c.args.shown)) c.self.view_is ∙ may-close c.args.self.now.rules c.args.shown ∙ c.requires) c.in-Ok.ensures).kept.few
