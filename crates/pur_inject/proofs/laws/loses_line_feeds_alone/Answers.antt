use Rattle.pur_inject.proofs.ParagraphKeepLemmas.{loses-feeds}
use Rattle.pur_inject.proofs.laws.loses_line_feeds_alone.Goals as goal

pub returns : goal.returns
returns c = λ rules c n isnt. loses-feeds c isnt rules n
