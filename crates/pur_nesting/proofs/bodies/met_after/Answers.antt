use Rattle.pur_nesting.proofs.bodies.met_after.Goals as goal

pub returns : goal.returns
returns c = λ more. rw c.if-met.false (c.is_element.ensures more)
