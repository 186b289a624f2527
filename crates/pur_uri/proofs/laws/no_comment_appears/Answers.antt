use Rattle.pur_uri.proofs.CommentLemmas.{free_tidied, free_raw}
use Rattle.pur_uri.proofs.laws.no_comment_appears.Goals as goal

pub returns-clause-tidied : goal.returns-clause-tidied
returns-clause-tidied c = free_tidied c.host_is_plain.ensures

pub returns-clause-raw : goal.returns-clause-raw
returns-clause-raw c = free_raw c.host_is_plain.ensures
