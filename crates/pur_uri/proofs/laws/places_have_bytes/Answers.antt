use Rattle.pur_uri.proofs.ByteLemmas.{text_bytes, tidied_bytes}
use Rattle.pur_uri.proofs.PlaceLemmas.{place_bytes}
use Rattle.pur_uri.proofs.laws.places_have_bytes.Goals as goal

pub returns-clause-tidied : goal.returns-clause-tidied
returns-clause-tidied c = λ raw is. tidied_bytes raw (text_bytes raw is)

pub returns-clause-places : goal.returns-clause-places
returns-clause-places c = place_bytes
