-- Expressions of the code as plain ones.
use Rattle.std.specs.Prelude.{List, map}
use Rattle.std.specs.declared.vec.Vec.{Vec}
use Rattle.std.specs.declared.alloc.Global.{Global}
use Rattle.pur_modules.specs.Expressions as plain
use Rattle.pur_models.specs.declared.expressions.Expr.{Expr}
use Rattle.pur_models.specs.declared.expressions.Step.{Step}

-- a step as a plain one
abbrev pub step_of : Step → plain.Step
step_of step = record { letters = step.letters.items; least = step.least; many = step.many }

-- a way as a list of plain steps
abbrev pub way_of : Vec Step Global → List plain.Step
way_of way = map step_of way.items

-- the ways of an expression
abbrev pub ways_of : Expr → List (List plain.Step)
ways_of model = map way_of model.ways.items
