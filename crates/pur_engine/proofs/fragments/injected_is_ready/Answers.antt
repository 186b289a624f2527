use Rattle.pur_uripolicy.specs.Admissible.{has_source}
use Rattle.pur_inject.specs.Links.{with_links}
use Rattle.pur_engine.specs.Purified.{nested_tree}
use Rattle.pur_engine.proofs.fragments.injected_is_ready.Goals as goal

pub returns : goal.returns
returns c rules rule text kind no_forms all =
    let ready = c.nested_is_ready.ensures rules rule text kind no_forms all in
    let nodes = nested_tree rules rule text in
    let links = with_links rules rule nodes in
    let first = c.links_keep.ensures rules rule nodes in
    let then = c.paragraphs_keep.ensures rules links in
    let linked = c.links_keep_words.ensures rules rule nodes in
    let word = linked.word ready.word ready.words in
    let words = linked.words ready.word ready.words in
    let made = c.paragraphs_keep_words.ensures rules links in
    let test = has_source rules rule in
    record {
      word = made.word word words;
      words = made.words word words;
      free = then.free (first.free ready.free);
      permitted = then.permitted (first.permitted ready.permitted);
      forest = then.forest (first.forest ready.forest);
      joined = then.joined (first.joined ready.joined);
      allowed = then.allowed (first.allowed ready.allowed);
      distinct = then.distinct (first.distinct ready.distinct);
      sources = then.pictures test (first.pictures test ready.sources);
    }
