use Rattle.std.proofs.Common.{◌∙◌, sym, arith}
use Rattle.pur_lexer.specs.Private.Cutting.{stops_at}
use Rattle.pur_lexer.proofs.PlaceLemmas.{first_byte}
use Rattle.pur_lexer.proofs.places.place_of_stop.Goals as goal

pub returns-then-is_at : goal.returns-then-is_at
returns-then-is_at c =
    first_byte (stops_at c.args.stop) c.args.bytes.now c.loop-place.place (omega arith) (λ k low high. c.loop-place.invariant k high)
    (λ l. sym c.is_at.ensures ∙ c.if-is_at.true)

pub returns : goal.returns
returns c =
    first_byte (stops_at c.args.stop) c.args.bytes.now _ (omega arith) (λ k low high. c.loop-place.invariant k (omega arith)) (λ l. absurd (omega arith))
