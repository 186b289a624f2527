use Rattle.pur_nesting.proofs.PartLemmas.{push-Lead, push-Captions, push-Columns, push-Heads, push-Feet, push-Bodies, push-Surplus}
use Rattle.pur_nesting.proofs.parts.Parts.push.Goals as goal

pub returns-in_ok-push-in-Lead : goal.returns-in_ok-push-in-Lead
returns-in_ok-push-in-Lead c = rw c.in-Lead.is (push-Lead c.args.self.now c.push.new.self c.args.node c.in_ok-push-in-Lead.ensures.items)

pub returns-in_ok-push-in-Captions : goal.returns-in_ok-push-in-Captions
returns-in_ok-push-in-Captions c = rw c.in-Captions.is (push-Captions c.args.self.now c.push-in-Captions.new.self c.args.node c.in_ok-push-in-Captions.ensures.items)

pub returns-in_ok-push-in-Columns : goal.returns-in_ok-push-in-Columns
returns-in_ok-push-in-Columns c = rw c.in-Columns.is (push-Columns c.args.self.now c.push-in-Columns.new.self c.args.node c.in_ok-push-in-Columns.ensures.items)

pub returns-in_ok-push-in-Heads : goal.returns-in_ok-push-in-Heads
returns-in_ok-push-in-Heads c = rw c.in-Heads.is (push-Heads c.args.self.now c.push-in-Heads.new.self c.args.node c.in_ok-push-in-Heads.ensures.items)

pub returns-in_ok-push-in-Feet : goal.returns-in_ok-push-in-Feet
returns-in_ok-push-in-Feet c = rw c.in-Feet.is (push-Feet c.args.self.now c.push-in-Feet.new.self c.args.node c.in_ok-push-in-Feet.ensures.items)

pub returns-in_ok-push-in-Bodies : goal.returns-in_ok-push-in-Bodies
returns-in_ok-push-in-Bodies c = rw c.in-Bodies.is (push-Bodies c.args.self.now c.push-in-Bodies.new.self c.args.node c.in_ok-push-in-Bodies.ensures.items)

pub returns-in_ok-push-in-Surplus : goal.returns-in_ok-push-in-Surplus
returns-in_ok-push-in-Surplus c = rw c.in-Surplus.is (push-Surplus c.args.self.now c.push-in-Surplus.new.self c.args.node c.in_ok-push-in-Surplus.ensures.items)
