use Rattle.pur_text.proofs.HostLaws.{host_plain}
use Rattle.pur_text.proofs.laws.host_is_plain.Goals as goal

pub returns : goal.returns
returns c = host_plain
