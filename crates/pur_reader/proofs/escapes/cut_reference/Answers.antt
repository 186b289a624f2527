use Rattle.std.specs.Str.{chars}
use Rattle.std.proofs.lemmas.Bool.{both_ways}
use Rattle.pur_reader.proofs.ReferenceLemmas.{reference, behind_amp, behind_lt, behind_gt, behind_quot, no_reference}
use Rattle.pur_reader.proofs.escapes.cut_reference.Goals as goal

pub returns-in-Some-clause-left : goal.returns-in-Some-clause-left
returns-in-Some-clause-left c = λ w. behind_amp _ _ _ c.in-Some.ensures.some (reference _ _ w)

pub returns-in-Some-behind-clause-left : goal.returns-in-Some-behind-clause-left
returns-in-Some-behind-clause-left c = λ w. behind_lt _ _ _ c.in-Some-behind.ensures.some (reference _ _ w)

pub returns-in-Some-behind-2-clause-left : goal.returns-in-Some-behind-2-clause-left
returns-in-Some-behind-2-clause-left c = λ w. behind_gt _ _ _ c.in-Some-behind-2.ensures.some (reference _ _ w)

pub returns-in-Some-behind-3-clause-left : goal.returns-in-Some-behind-3-clause-left
returns-in-Some-behind-3-clause-left c = λ w. behind_quot _ _ _ c.in-Some-behind-3.ensures.some (reference _ _ w)

pub returns-then-not-in_value-clause-none : goal.returns-then-not-in_value-clause-none
returns-then-not-in_value-clause-none c = λ w.
    no_reference c.args.in_value (chars c.args.text.now) c.in_default.ensures.none c.in_default-behind.ensures.none c.in_default-behind-2.ensures.none
    (λ is r e. absurd (both_ways c.args.in_value c.if-not-in_value.true is)) (reference c.args.in_value (chars c.args.text.now) w)

pub returns-in-None-clause-none : goal.returns-in-None-clause-none
returns-in-None-clause-none c = λ w.
    no_reference c.args.in_value (chars c.args.text.now) c.in_default.ensures.none c.in_default-behind.ensures.none c.in_default-behind-2.ensures.none
    (λ is. c.in-None.ensures.none) (reference c.args.in_value (chars c.args.text.now) w)
