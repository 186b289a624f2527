-- memchr finds the first byte.
use Rattle.std.proofs.Common.{arith}
use Rattle.pur_lexer.specs.Places.{is_character}
use Rattle.pur_lexer.proofs.PlaceLemmas.{first_byte}
use Rattle.pur_lexer.proofs.places.place_of_byte.Goals as goal

pub returns-in-Some : goal.returns-in-Some
returns-in-Some c =
    let found = c.in-Some.ensures in
    let high = found.0.high in
    first_byte (is_character c.args.byte) c.args.bytes.now c.in-Some.place (omega arith) found.0.before (λ l. found.1)

pub returns-in-None : goal.returns-in-None
returns-in-None c = first_byte (is_character c.args.byte) c.args.bytes.now _ (omega arith) c.in-None.ensures (λ l. absurd (omega arith))
