use Rattle.std.proofs.Common.{◌≡◌, true, []}
use Rattle.std.specs.List.{list_all}
use Rattle.pur_text.specs.Characters.{is_allowed}
use Rattle.pur_settings.specs.Rules.{permits_element}
use Rattle.pur_lexer.specs.Lexing.{tokens_of}
use Rattle.pur_tokens.specs.Characters.{token_has_only}
use Rattle.pur_tokens.specs.Distinct.{shows_distinct}
use Rattle.pur_uripolicy.specs.Admissible.{has_source}
use Rattle.pur_nesting.specs.Nesting.{permits_of}
use Rattle.pur_engine.specs.Purified.{closed_tree, kept_tokens}
use Rattle.pur_engine.proofs.FragmentLemmas.{takes_any}
use Rattle.pur_engine.proofs.fragments.nested_is_ready.Goals as goal

pub returns : goal.returns
returns c rules rule text kind no_forms all =
    let read = tokens_of text in
    let kept = kept_tokens rules rule text in
    let tree = closed_tree rules rule text in
    let p = permits_of rules in
    let test = has_source rules rule in
    let before = c.trees_are_closed.ensures rules rule text in
    let closed = before.closed in
    let built = before.tree in
    let allowed : list_all (token_has_only is_allowed) kept ≡ true = c.removal_keeps_allowed.ensures rules rule read (c.tokens_are_allowed.ensures text all) in
    let distinct : list_all shows_distinct kept ≡ true = c.removal_keeps_distinct.ensures rules rule read (c.tokens_are_distinct.ensures text) in
    record {
      word = c.gives_a_word.ensures rules.doctype p rules.parent tree closed.letters (takes_any rules.parent kind);
      words = c.gives_all_words.ensures rules rules.parent tree no_forms closed.letters closed.permitted;
      free = c.keeps_free.ensures p [] tree closed.free;
      permitted = c.keeps_permitted.ensures (permits_element rules) tree closed.permitted;
      forest = c.keeps_forests.ensures p tree before.forest;
      joined = c.joins_texts.ensures p tree;
      allowed = c.keeps_allowed.ensures p tree (c.closed_is_allowed.ensures rules kept tree allowed built);
      distinct = c.keeps_distinct.ensures p tree (c.closed_keeps_distinct.ensures rules kept tree distinct built);
      sources = c.keeps_pictures.ensures test p tree (c.closed_keeps_pictures.ensures test rules kept tree (c.kept_pictures_have_sources.ensures rules rule read) built);
    }
