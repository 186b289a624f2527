use Rattle.pur_entities.proofs.ReferenceLemmas.{decoded-escaped, decoded-escaped-append}
use Rattle.pur_entities.proofs.laws.escaped_is_decoded.Goals as goal

pub returns : goal.returns
returns c = record { front = decoded-escaped-append; whole = decoded-escaped }
