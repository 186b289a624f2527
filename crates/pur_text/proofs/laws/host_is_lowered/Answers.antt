use Rattle.pur_text.proofs.HostLaws.{host_lowered}
use Rattle.pur_text.proofs.laws.host_is_lowered.Goals as goal

pub returns : goal.returns
returns c = host_lowered
