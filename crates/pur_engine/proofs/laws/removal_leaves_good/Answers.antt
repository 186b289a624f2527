use Rattle.pur_wellform.specs.Laws.{as_read}
use Rattle.pur_engine.specs.Laws.{tokens_read_of}
use Rattle.pur_engine.proofs.GoodLemmas.{shown, pictured}
use Rattle.pur_engine.proofs.ReadingLemmas.{is_text_read}
use Rattle.pur_engine.proofs.TextLemmas.{apart}
use Rattle.pur_engine.proofs.laws.removal_leaves_good.Goals as goal

pub returns : goal.returns
returns c rules rule nodes text spells valid =
    c.permitted_stays.ensures rules rule (tokens_read_of nodes) (shown rules spells valid.permitted)
    (pictured rules rule spells valid.attributes.values valid.attributes.required) (apart as_read is_text_read spells)
