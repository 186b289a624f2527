use Rattle.std.proofs.Common.{◌≡◌, ◌+◌, ◌∙◌, ap, sym}
use Rattle.pur_lexer.specs.Lexing.{tokens_of}
use Rattle.pur_tree.specs.Tokens.{count_in_written}
use Rattle.pur_tree.specs.Walks.{count_in_text}
use Rattle.pur_nesting.specs.Nesting.{permits_of}
use Rattle.pur_inject.specs.Injected.{lost_in_injecting}
use Rattle.pur_inject.specs.Links.{with_links}
use Rattle.pur_engine.specs.Purified.{closed_tree, injected_tree, kept_tokens, nested_tree}
use Rattle.pur_engine.proofs.FragmentLemmas.{at_most, balanced}
use Rattle.pur_engine.proofs.fragments.fragments_are_counted.Goals as goal

pub returns : goal.returns
returns c rules rule text ch =
    let read = tokens_of text in
    let kept = kept_tokens rules rule text in
    let tree = closed_tree rules rule text in
    let repaired = nested_tree rules rule text in
    let nodes = injected_tree rules rule text in
    let p = permits_of rules in
    let before = c.trees_are_closed.ensures rules rule text in
    let same = c.keeps_counts-2.ensures rules rule ch nodes in
    let making : count_in_text ch nodes + lost_in_injecting ch rules rule repaired ≡ count_in_text ch repaired =
    c.paragraphs_keep_counts.ensures rules ch (with_links rules rule repaired) ∙ c.links_keep_counts.ensures rules rule ch repaired in
    let written = sym (c.counts_alike.ensures ch tree) ∙ ap (count_in_written ch) before.tree in
    let closing = c.closed_ledger.ensures rules kept ch ∙ c.removal_keeps_texts.ensures rules rule ch read in
    record {
      no_more = at_most _ _ _ _ _ _ _ _ same making (c.never_more.ensures p ch tree) written closing;
      balance = λ seen. balanced _ _ _ _ _ _ _ _ _ same making (c.keeps_counts.ensures rules.doctype p rules.parent ch tree before.closed.letters seen) written closing;
    }
