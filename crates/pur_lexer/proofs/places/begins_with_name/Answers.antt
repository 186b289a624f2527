-- The letters are compared one by one.
use Rattle.std.proofs.Common.{◌≡◌, ◌∙◌, true, false, get_or, sym, arith}
use Rattle.std.specs.Prelude.{◌==◌}
use Rattle.std.specs.Char.{to_ascii_lowercase}
use Rattle.std.proofs.lemmas.Bool.Decides.{nat_tests}
use Rattle.pur_lexer.proofs.PlaceLemmas.{name_too_long, letter_differs, letter_is, name_end_at}
use Rattle.pur_lexer.proofs.places.begins_with_name.Goals as goal

pub returns-then-bytes-name : goal.returns-then-bytes-name
returns-then-bytes-name c = sym (name_too_long c.args.name.now c.args.bytes.now c.if-bytes-name.true)

pub returns-then-to_ascii_lowercase-name : goal.returns-then-to_ascii_lowercase-name
returns-then-to_ascii_lowercase-name c =
    let k = c.loop-place.place in
    let differs : (to_ascii_lowercase (get_or c.args.bytes.now k 0) == get_or c.args.name.now k 0) ≡ false = grind (arith, nat_tests) in
    letter_differs c.args.name.now c.args.bytes.now _ _ k (omega arith) (omega arith) differs c.loop-place.invariant

pub loop-place-preserved : goal.loop-place-preserved
loop-place-preserved c =
    let k = c.loop-place.place in
    let same : (to_ascii_lowercase (get_or c.args.bytes.now k 0) == get_or c.args.name.now k 0) ≡ true = grind (arith, nat_tests) in
    letter_is c.args.name.now c.args.bytes.now _ _ k (omega arith) (omega arith) same c.loop-place.invariant

pub returns : goal.returns
returns c = c.is_at.ensures ∙ name_end_at c.args.name.now c.args.bytes.now _ c.loop-place.place (omega arith) (omega arith) c.loop-place.invariant
