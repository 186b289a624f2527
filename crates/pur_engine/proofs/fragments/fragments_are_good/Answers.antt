use Rattle.std.proofs.Common.{[], ◌∙◌}
use Rattle.pur_settings.specs.Rules.{permits_element}
use Rattle.pur_engine.specs.Purified.{injected_tree, purified_nodes}
use Rattle.pur_engine.proofs.fragments.fragments_are_good.Goals as goal

pub returns : goal.returns
returns c rules rule text kind begins no_forms all =
    let ready = c.injected_is_ready.ensures rules rule text kind no_forms all in
    let nodes = injected_tree rules rule text in
    let words = c.keeps_words.ensures rules.doctype rules.parent rules rule nodes in
    let keeps = c.keeps_forests.ensures rules rule nodes in
    let forest = keeps.forest ready.forest in
    record {
      valid = record {
        word = words.word ready.word;
        words = words.words ready.words;
        free = c.keeps_free.ensures rules rule [] nodes ready.free;
        low = forest.low;
        permitted = c.keeps_permitted.ensures (permits_element rules) rules rule nodes ready.permitted;
        attributes = c.gives_valid_attributes.ensures rules rule nodes begins ready.allowed ready.sources;
      };
      spells = c.has_spelling.ensures (purified_nodes rules rule text) forest.sound (keeps.joined ∙ ready.joined)
          (c.gives_spellable.ensures rules rule nodes begins ready.allowed (c.keeps_distinct.ensures rules rule nodes ready.distinct));
    }
