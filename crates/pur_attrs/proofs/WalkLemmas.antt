-- What is known along the walk: the prefix is plain, and names stay distinct.
use Rattle.std.proofs.Common.{◌≡◌, ℕ, true, ◌&&◌, List, [], ◌∷◌, length, Result, Ok, Err, OnOk, refl, arith}
use Rattle.std.specs.Prelude.{nat_le}
use Rattle.std.specs.List.{list_all}
use Rattle.std.proofs.lemmas.Bool.{and_from, and_parts}
use Rattle.std.proofs.lemmas.Bool.Decides.{nat_tests}
use Rattle.pur_laws.proofs.Lists.{all-weaker}
use Rattle.pur_laws.proofs.Texts.{is_ascii}
use Rattle.pur_settings.specs.Prefixes.{is_letter, is_id_byte, begins_an_id, is_id_prefix}
use Rattle.pur_attrlist.specs.Attributes.{is_distinct}
use Rattle.pur_tree.specs.Nodes.{Nodes, no_nodes, text_first, elem_first, nodes_append}
use Rattle.pur_tree.specs.Spelling.{has_distinct_names}

letter-plain : (b : ℕ) → is_letter b ≡ true → is_ascii b ≡ true
letter-plain b is = grind (arith, nat_tests)

id_byte-plain : (b : ℕ) → is_id_byte b ≡ true → is_ascii b ≡ true
id_byte-plain b is = grind (arith, nat_tests)

pub prefix-plain : (prefix : List ℕ) → is_id_prefix prefix ≡ true → list_all is_ascii prefix ≡ true
prefix-plain prefix is = go prefix (and_parts (nat_le (length prefix) 64) (begins_an_id prefix) is).1
  where
    go : (text : List ℕ) → begins_an_id text ≡ true → list_all is_ascii text ≡ true
    go [] is = refl
    go (first ∷ behind) is =
        let parts = and_parts (is_letter first) (list_all is_id_byte behind) is in
        and_from _ _ (letter-plain first parts.0) (all-weaker is_id_byte is_ascii id_byte-plain behind parts.1)

pub distinct-append : (f g : Nodes) → has_distinct_names f ≡ true → has_distinct_names g ≡ true → has_distinct_names (nodes_append f g) ≡ true
distinct-append no_nodes g one two = two
distinct-append (text_first s f) g one two = distinct-append f g one two
distinct-append (elem_first e kids f) g one two =
    let here = and_parts (is_distinct e.attrs) (has_distinct_names kids && has_distinct_names f) one in
    let below = and_parts (has_distinct_names kids) (has_distinct_names f) here.1 in
    and_from _ _ here.0 (and_from _ _ below.0 (distinct-append f g below.1 two))

-- what follows from three facts of what succeeds
pub on_ok_three : {T E P Q R S : Type 0} (r : Result T E) → (P → Q → R → S) → OnOk r P → OnOk r Q → OnOk r R → OnOk r S
on_ok_three (Ok x) gives one two three = gives one two three
on_ok_three (Err e) gives one two three = one
