-- Each part of validity stays.
use Rattle.std.proofs.Common.{◌≡◌, true, [], arith}
use Rattle.pur_settings.specs.Rules.{permits_element}
use Rattle.pur_tree.specs.Places.{fragment}
use Rattle.pur_tree.specs.Walks.{joined_nodes, walk}
use Rattle.pur_tree.proofs.WalkLemmas.{level-joined_nodes}
use Rattle.pur_validity.specs.Attributes.{has_one_language, has_prefix, has_required}
use Rattle.pur_absolute.specs.Absolute.{absolute_element}
use Rattle.pur_absolute.proofs.EachLemmas.{each-absolute, each-from, each-joined, from-each}
use Rattle.pur_absolute.proofs.FewerLemmas.{all-fewer, different-fewer}
use Rattle.pur_absolute.proofs.IdLemmas.{any_text, ids-absolute}
use Rattle.pur_absolute.proofs.LeftLemmas.{low-left, walk-left}
use Rattle.pur_absolute.proofs.StayingLemmas.{keeps-attributes}
use Rattle.pur_absolute.proofs.WordLemmas.{word-absolute, words-absolute}
use Rattle.pur_absolute.proofs.laws.valid_stays.Goals as goal

pub returns : goal.returns
returns c = λ rules rule allows base nodes fit_base valid.
    let after = walk (absolute_element allows base) nodes in
    let keeps = c.keeps_nodes.ensures allows base nodes in
    let had = valid.attributes in
    let low = low-left (walk-left allows base nodes) valid.low in
    let ids = ids-absolute allows base nodes in
    record {
      word = word-absolute rules.doctype allows base rules.parent nodes valid.word;
      words = words-absolute rules.doctype allows base rules.parent nodes valid.words;
      free = keeps.excluded [] valid.free;
      low = omega (arith, level-joined_nodes fragment after, low);
      permitted = keeps.allowed (permits_element rules) valid.permitted;
      attributes = record {
        values = (c.absolute_stays.ensures rules rule allows base nodes fit_base had.values).valid;
        required = from-each (λ e. has_required e ≡ true) has_required (λ e is. is) (joined_nodes after)
            (each-joined (λ e. has_required e ≡ true) after
            (each-absolute allows base (λ e. has_required e ≡ true) (λ e. has_required e ≡ true)
            (λ e attrs has is. (keeps-attributes allows base e attrs is).required has) nodes (each-from has_required nodes had.required)));
        languages = from-each (λ e. has_one_language e ≡ true) has_one_language (λ e is. is) (joined_nodes after)
            (each-joined (λ e. has_one_language e ≡ true) after
            (each-absolute allows base (λ e. has_one_language e ≡ true) (λ e. has_one_language e ≡ true)
            (λ e attrs has is. (keeps-attributes allows base e attrs is).languages has) nodes (each-from has_one_language nodes had.languages)));
        prefixed = all-fewer any_text (has_prefix rules.id_prefix) ids had.prefixed;
        distinct = different-fewer any_text ids had.distinct;
      };
    }
