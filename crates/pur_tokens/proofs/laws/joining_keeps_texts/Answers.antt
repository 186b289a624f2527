use Rattle.pur_tokens.proofs.JoiningLaws.{count-joined}
use Rattle.pur_tokens.proofs.laws.joining_keeps_texts.Goals as goal

pub returns : goal.returns
returns c = count-joined
