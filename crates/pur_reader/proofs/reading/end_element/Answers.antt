use Rattle.std.proofs.Common.{◌≡◌, ◌∙◌, sym, subst, length, rules}
use Rattle.std.proofs.lemmas.List.{nil_from_length}
use Rattle.std.specs.Str.{chars}
use Rattle.pur_tree.specs.Building.{opened_of}
use Rattle.pur_tree.specs.Places.{fragment}
use Rattle.pur_reader.specs.Private.Reading.{AreOpen}
use Rattle.pur_reader.proofs.OpenLemmas.{none_open, no_last}
use Rattle.pur_reader.proofs.StepLemmas.{cut_end, end_ready, end_read, other_end}
use Rattle.pur_reader.proofs.reading.end_element.Goals as goal

pub returns-then-not-is_same-clause-none : goal.returns-then-not-is_same-clause-none
returns-then-not-is_same-clause-none c = λ u rest w.
    other_end c.args.opened.now.items c.pop.new.self.items c.in-Some-pop.open (opened_of c.args.builder.now) c.in-Some-pop.ensures.items c.requires.ready.are
    c.in-Some.element (chars c.args.name.now) rest c.in-Some.ensures.some (sym c.is_same.ensures ∙ c.if-not-is_same.true) c.requires.name w

pub returns-in_ok-leave-in-Some-pop-clause-ready : goal.returns-in_ok-leave-in-Some-pop-clause-ready
returns-in_ok-leave-in-Some-pop-clause-ready c = λ u. record {
  are = end_ready c.args.opened.now.items c.pop.new.self.items c.in-Some-pop.open c.args.builder.now c.leave.new.self c.in-Some-pop.ensures.items c.requires.ready.are
      c.in_ok-leave-in-Some-pop.ensures.opened;
}

pub returns-in_ok-leave-in-Some-pop-clause-read : goal.returns-in_ok-leave-in-Some-pop-clause-read
returns-in_ok-leave-in-Some-pop-clause-read c = λ u rest.
    end_read c.args.opened.now.items c.pop.new.self.items c.in-Some-pop.open c.args.builder.now c.leave.new.self c.in-Some-pop.ensures.items c.requires.ready.are
    c.in_ok-leave-in-Some-pop.ensures.opened c.in-Some.element (chars c.args.name.now) rest c.in_ok-leave-in-Some-pop.ensures.written c.in-Some.ensures.some
    (sym c.is_same.ensures ∙ c.if-not-is_same.false) c.requires.name

pub returns-in-None-pop-clause-none : goal.returns-in-None-pop-clause-none
returns-in-None-pop-clause-none c = λ u rest w.
    let es = opened_of c.args.builder.now in
    let x = cut_end es (chars c.args.name.now) rest c.requires.name w in
    let empty : length c.args.opened.now.items ≡ 0 = search rules in
    let none = none_open fragment es (subst (λ os. AreOpen fragment os es) (nil_from_length c.args.opened.now.items empty) c.requires.ready.are) in
    no_last x.outer x.elem (sym none ∙ x.same)

pub returns-in-None-clause-none : goal.returns-in-None-clause-none
returns-in-None-clause-none c = λ u rest w.
    let x = cut_end (opened_of c.args.builder.now) (chars c.args.name.now) rest c.requires.name w in
    c.in-None.ensures.none x.elem x.is
