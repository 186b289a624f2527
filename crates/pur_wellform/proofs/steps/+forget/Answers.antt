use Rattle.std.proofs.Common.{sym, ◌∙◌}
use Rattle.pur_wellform.proofs.TextFacts.{forgets_last, forgets_earlier}
use Rattle.pur_wellform.proofs.steps.+forget.Goals as goal

pub returns-then-is_same : goal.returns-then-is_same
returns-then-is_same t c =
    forgets_last c.args.name c.in-Some.last c.args.pending.now.items c.pop_back.new.self.items c.in-Some.ensures.items (sym c.is_same.ensures ∙ c.if-is_same.true)

pub returns-in_ok-push_back-in-Some : goal.returns-in_ok-push_back-in-Some
returns-in_ok-push_back-in-Some t c =
    forgets_earlier c.args.name c.in-Some.last c.args.pending.now.items c.pop_back.new.self.items c.forget.new.pending.items c.push_back.new.self.items c.in-Some.ensures.items
    (sym c.is_same.ensures ∙ c.if-is_same.false) c.in_ok-forget-in-Some.ensures c.in_ok-push_back-in-Some.ensures.items
