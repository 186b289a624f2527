-- The test of validity decides it.
use Rattle.std.proofs.Common.{◌≡◌, List, [], ◌∷◌, refl, Bool, true, false, ◌&&◌, not}
use Rattle.std.proofs.lemmas.Bool.{and_from, and_parts, le-leb, leb-true, not-true}
use Rattle.pur_names.specs.declared.elements.Element.{Element}
use Rattle.pur_modules.specs.declared.kinds.Content.{Content}
use Rattle.pur_modules.specs.Contents.{content_held, is_excluded_in}
use Rattle.pur_modules.specs.Expressions.{has_text_letter}
use Rattle.pur_models.specs.Laws.{WordsAreDecided}
use Rattle.pur_settings.specs.Rules.{Rules, permits_element}
use Rattle.pur_tree.specs.Nodes.{Nodes, no_nodes, text_first, elem_first, level_of}
use Rattle.pur_tree.specs.Places.{level_limit}
use Rattle.pur_tree.specs.Properties.{Holds, free, permitted}
use Rattle.pur_tree.specs.Words.{word_of, HaveWords}
use Rattle.pur_uripolicy.specs.HostRules.{PlainHostRule}
use Rattle.pur_validity.specs.Deciding.{are_word, are_right, have_valid_structure, have_valid_attributes, are_valid}
use Rattle.pur_validity.specs.Validity.{IsValid}
use Rattle.pur_validity.proofs.AttributeLemmas.{attributes-if, if-attributes}

false_not : (b : Bool) → b ≡ false → not b ≡ true
false_not b h = rw h refl

-- what the test asks of nodes in some content, inside of some elements
record AreRight (rules : Rules) (content : Content) (outer : List Element) (nodes : Nodes) : Type 0 where
  words : HaveWords rules.doctype content nodes
  free : Holds free outer nodes
  permitted : Holds (permitted (permits_element rules)) tt nodes

module _ (decided : WordsAreDecided) (rules : Rules) where
  right-if : (content : Content) (outer : List Element) (nodes : Nodes) → are_right rules content outer nodes ≡ true
      → AreRight rules content outer nodes
  right-if content outer no_nodes h = record { words = tt; free = tt; permitted = tt }
  right-if content outer (text_first s rest) h =
      let more = right-if content outer rest h in
      record { words = more.words; free = (tt, more.free); permitted = (tt, more.permitted) }
  right-if content outer (elem_first e kids rest) h =
      let held : Content = content_held rules.doctype e.name content in
      let all = and_parts (are_word rules.doctype held kids && (permits_element rules e.name && not (is_excluded_in outer e.name))) _ h in
      let here = and_parts (are_word rules.doctype held kids) (permits_element rules e.name && not (is_excluded_in outer e.name)) all.0 in
      let may = and_parts (permits_element rules e.name) (not (is_excluded_in outer e.name)) here.1 in
      let below = and_parts (are_right rules held (e.name ∷ outer) kids) (are_right rules content outer rest) all.1 in
      let inner = right-if held (e.name ∷ outer) kids below.0 in
      let more = right-if content outer rest below.1 in
      record {
        words = ((decided rules.doctype held (word_of (has_text_letter rules.doctype held) kids)).0 here.0, inner.words, more.words);
        free = (not-true (is_excluded_in outer e.name) may.1, inner.free, more.free);
        permitted = (may.0, inner.permitted, more.permitted);
      }

  if-right : (content : Content) (outer : List Element) (nodes : Nodes) → AreRight rules content outer nodes
      → are_right rules content outer nodes ≡ true
  if-right content outer no_nodes r = refl
  if-right content outer (text_first s rest) r =
      if-right content outer rest (record { words = r.words; free = r.free.1; permitted = r.permitted.1 })
  if-right content outer (elem_first e kids rest) r =
      let held : Content = content_held rules.doctype e.name content in
      let word = (decided rules.doctype held (word_of (has_text_letter rules.doctype held) kids)).1 r.words.0 in
      let inner = if-right held (e.name ∷ outer) kids (record { words = r.words.1; free = r.free.1; permitted = r.permitted.1 }) in
      let more = if-right content outer rest (record { words = r.words.2; free = r.free.2; permitted = r.permitted.2 }) in
      and_from _ _ (and_from _ _ word (and_from _ _ r.permitted.0 (false_not (is_excluded_in outer e.name) r.free.0))) (and_from _ _ inner more)

  pub valid-if : (rule : PlainHostRule) (nodes : Nodes) → are_valid rules rule nodes ≡ true → IsValid rules rule nodes
  valid-if rule nodes h =
      let both = and_parts (have_valid_structure rules nodes) (have_valid_attributes rules rule nodes) h in
      let all = and_parts (are_word rules.doctype rules.parent nodes && are_right rules rules.parent [] nodes) _ both.0 in
      let here = and_parts (are_word rules.doctype rules.parent nodes) (are_right rules rules.parent [] nodes) all.0 in
      let right = right-if rules.parent [] nodes here.1 in
      record {
        word = (decided rules.doctype rules.parent (word_of (has_text_letter rules.doctype rules.parent) nodes)).0 here.0;
        words = right.words;
        free = right.free;
        low = leb-true (level_of nodes) level_limit all.1;
        permitted = right.permitted;
        attributes = attributes-if rules rule nodes both.1;
      }

  pub if-valid : (rule : PlainHostRule) (nodes : Nodes) → IsValid rules rule nodes → are_valid rules rule nodes ≡ true
  if-valid rule nodes v =
      let word = (decided rules.doctype rules.parent (word_of (has_text_letter rules.doctype rules.parent) nodes)).1 v.word in
      let right = if-right rules.parent [] nodes (record { words = v.words; free = v.free; permitted = v.permitted }) in
      and_from _ _ (and_from _ _ (and_from _ _ word right) (le-leb (level_of nodes) level_limit v.low)) (if-attributes rules rule nodes v.attributes)
