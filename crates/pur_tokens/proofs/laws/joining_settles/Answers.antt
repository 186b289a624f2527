use Rattle.pur_tokens.proofs.JoiningLaws.{joined-joined, joined-twice, joined-same}
use Rattle.pur_tokens.proofs.laws.joining_settles.Goals as goal

pub returns : goal.returns
returns c = record { front = joined-joined; twice = joined-twice; same = joined-same }
