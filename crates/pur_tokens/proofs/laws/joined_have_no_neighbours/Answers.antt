use Rattle.pur_tokens.proofs.JoiningLaws.{neighbours-joined, some-joined}
use Rattle.pur_tokens.proofs.laws.joined_have_no_neighbours.Goals as goal

pub returns : goal.returns
returns c = record { neighbours = neighbours-joined; texts = some-joined }
