use Rattle.std.proofs.Common.{refl, sym}
use Rattle.pur_tree.specs.Tokens.{tokens_of_nodes}
use Rattle.pur_engine.proofs.SpelledLemmas.{sound, joined}
use Rattle.pur_engine.proofs.laws.closing_leaves_good.Goals as goal

pub returns : goal.returns
returns c rules rule nodes text spells valid =
    let stand = c.is_closed_stands.ensures rules nodes (record {
      permitted = valid.permitted;
      letters = c.words_are_letters.ensures rules.doctype rules.parent nodes valid.word valid.words;
      free = valid.free;
      low = valid.low;
    }) in (
      c.closed_as_itself.ensures rules nodes stand (sound spells) (joined spells),
      sym (c.has_one_tree.ensures nodes (tokens_of_nodes nodes) (sound spells) refl),
    )
