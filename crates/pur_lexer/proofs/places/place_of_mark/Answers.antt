-- memmem finds the first mark.
use Rattle.std.proofs.Common.{arith}
use Rattle.pur_lexer.proofs.PlaceLemmas.{first_mark}
use Rattle.pur_lexer.proofs.places.place_of_mark.Goals as goal

pub returns-in-Some : goal.returns-in-Some
returns-in-Some c =
    let found = c.in-Some.ensures in
    let high = found.0.high in
    first_mark c.args.mark.now c.args.bytes.now c.in-Some.place c.requires (omega arith) found.0.before (λ l. found.1)

pub returns-in-None : goal.returns-in-None
returns-in-None c =
    first_mark c.args.mark.now c.args.bytes.now _ c.requires (omega arith) (λ k low high. c.in-None.ensures k low (omega arith)) (λ l. absurd (omega arith))
