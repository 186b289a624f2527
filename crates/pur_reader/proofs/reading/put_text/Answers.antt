use Rattle.std.proofs.Common.{◌≡◌, ◌<◌, ◌∙◌, sym, subst, length, arith, false}
use Rattle.std.specs.Prelude.{◌==◌}
use Rattle.std.specs.Str.{chars}
use Rattle.std.proofs.lemmas.Bool.{eqb-true}
use Rattle.std.proofs.lemmas.Bool.Decides.{nat_tests}
use Rattle.pur_laws.proofs.Texts.{no_chars, some_chars}
use Rattle.pur_text.specs.Texts.{text_of}
use Rattle.pur_tree.specs.Building.{opened_of}
use Rattle.pur_tree.specs.Places.{fragment}
use Rattle.pur_reader.specs.Private.Reading.{Left}
use Rattle.pur_reader.proofs.OptionLemmas.{from_some, from_none}
use Rattle.pur_reader.proofs.OpenLemmas.{open_holds}
use Rattle.pur_reader.proofs.WrittenLemmas.{text_read, nothing_read}
use Rattle.pur_reader.proofs.StepLemmas.{run_left, some_text}
use Rattle.pur_reader.proofs.reading.put_text.Goals as goal

pub returns-then-is_empty-clause-read : goal.returns-then-is_empty-clause-read
returns-then-is_empty-clause-read c = λ u behind front.
    nothing_read c.args.builder.now (chars c.args.run.now) behind (no_chars c.args.run.now (eqb-true (length c.args.run.now) 0 (sym c.is_empty.ensures ∙ c.if-is_empty.true)))

pub move_text-requires-clause-some : goal.move_text-requires-clause-some
move_text-requires-clause-some c =
    let some : (length c.args.run.now == 0) ≡ false = sym c.is_empty.ensures ∙ c.if-is_empty.false in
    some_text c.in-Some.text c.args.run.now c.utf8.run (grind (arith, nat_tests)) (from_some _ c.in_ok-read.read c.in-Some.text c.in-Some.is c.in_ok-read.ensures.some)

pub move_text-requires-clause-holds : goal.move_text-requires-clause-holds
move_text-requires-clause-holds c = open_holds fragment c.args._opened.now (opened_of c.args.builder.now) c.requires.ready.are

pub returns-in_ok-move_text-in-Some-clause-read : goal.returns-in_ok-move_text-in-Some-clause-read
returns-in_ok-move_text-in-Some-clause-read c = λ u behind front.
    let some : (length c.args.run.now == 0) ≡ false = sym c.is_empty.ensures ∙ c.if-is_empty.false in
    let more : 0 < length (chars c.args.run.now) = some_chars c.args.run.now c.utf8.run (grind (arith, nat_tests)) in
    text_read c.args.builder.now c.move_text.new.self (text_of c.in-Some.text) (chars c.args.run.now) behind c.in_ok-move_text-in-Some.ensures.written
    (from_some _ c.in_ok-read.read c.in-Some.text c.in-Some.is c.in_ok-read.ensures.allowed) (from_some _ c.in_ok-read.read c.in-Some.text c.in-Some.is c.in_ok-read.ensures.some)
    (λ w. subst (λ es. Left es behind) (sym c.in_ok-move_text-in-Some.ensures.opened)
    (run_left (opened_of c.args.builder.now) (chars c.args.run.now) behind more w c.requires.run front).left)

pub returns-in-None-clause-none : goal.returns-in-None-clause-none
returns-in-None-clause-none c = λ u behind front w.
    let some : (length c.args.run.now == 0) ≡ false = sym c.is_empty.ensures ∙ c.if-is_empty.false in
    let more : 0 < length (chars c.args.run.now) = some_chars c.args.run.now c.utf8.run (grind (arith, nat_tests)) in
    from_none _ c.in_ok-read.read c.in-None.is c.in_ok-read.ensures.none (run_left (opened_of c.args.builder.now) (chars c.args.run.now) behind more w c.requires.run front).written
