-- What canonical hosts are made of.
use Rattle.std.proofs.Common.{◌≡◌, ◌⊎◌, ℕ, zero, suc, ◌+◌, ◌-◌, Bool, true, false, List, [], ◌∷◌, ◌++◌, length, take, drop, slice_index, Option, Some, None, option_map, refl, sym, ap, subst, ◌∙◌, arith, inl, inr, ⊎_elim, take-append-drop, drop-drop}
use Rattle.std.specs.Prelude.{◌==◌, ◌&&◌, ◌||◌, codes}
use Rattle.std.specs.Option.{option_map_or}
use Rattle.std.specs.Char.{to_ascii_lowercase}
use Rattle.std.specs.List.{list_all, slice_split, onto_first}
use Rattle.std.specs.Str.{str_to_ascii_lowercase}
use Rattle.std.proofs.lemmas.Bool.{cases_Bool, cond-true, cond-false, and_parts, and_from, or_right, eqb-true}
use Rattle.std.proofs.lemmas.Bool.Decides.{nat_tests}
use Rattle.std.proofs.lemmas.List.{nil_from_length, drop_more, drop_all}
use Rattle.std.proofs.lemmas.List.Folds.{list_all-append}
use Rattle.std.proofs.lemmas.Slice.Eq.{bytes_eq-Decides}
use Rattle.bstr.specs.Find.{first_of}
use Rattle.bstr.specs.Find.{matches_from, match_len, occurs_at}
use Rattle.pur_laws.proofs.Lists.{all-weaker}
use Rattle.pur_text.specs.Hosts.{is_digit, is_hex_digit, is_label_byte, is_label, is_octet, is_group, is_ip4_address, is_host_name, is_ip6_address, is_ip6_literal, is_whole_ip6_address, is_gapped_ip6_address, between_dots, between_colons, side_pieces, group_count, gap_place, is_host, is_name_byte, is_ip6_byte, is_bracketed}

module _ (p q r : ℕ → Bool) where
  -- the pieces of a text with one more in front of the first
  onto_all : (x : ℕ) (pieces : List (List ℕ)) → list_all (list_all q) (onto_first x pieces) ≡ true → (q x ≡ true) × (list_all (list_all q) pieces ≡ true)
  onto_all x [] all = ((and_parts _ _ (and_parts _ _ all).0).0, refl)
  onto_all x (part ∷ parts) all =
      let both = and_parts _ _ all in
      let front = and_parts _ _ both.0 in
      let first : list_all q part ≡ true = front.1 in
      (front.0, rw first both.1)

  -- what holds of the separators and of the pieces' elements holds of each element
  split_all : ((x : ℕ) → p x ≡ true → r x ≡ true) → ((x : ℕ) → q x ≡ true → r x ≡ true)
      → (xs : List ℕ) → list_all (list_all q) (slice_split p xs) ≡ true → list_all r xs ≡ true
  split_all separates belongs [] all = refl
  split_all separates belongs (x ∷ xs) all = ⊎_elim
      (λ (yes : p x ≡ true).
      let cut : slice_split p (x ∷ xs) ≡ [] ∷ slice_split p xs = cond-true _ _ _ yes in
      let first : r x ≡ true = separates x yes in
      rw first (split_all separates belongs xs (subst (λ l. list_all (list_all q) l ≡ true) cut all)))
      (λ (no : p x ≡ false).
      let cut : slice_split p (x ∷ xs) ≡ onto_first x (slice_split p xs) = cond-false _ _ _ no in
      let both = onto_all x (slice_split p xs) (subst (λ l. list_all (list_all q) l ≡ true) cut all) in
      let first : r x ≡ true = belongs x both.0 in
      rw first (split_all separates belongs xs both.1))
      (cases_Bool (p x))

dot_in_name : (b : ℕ) → (b == 0x2E) ≡ true → is_name_byte b ≡ true
dot_in_name b is = grind (arith, nat_tests)

label_in_name : (b : ℕ) → is_label_byte b ≡ true → is_name_byte b ≡ true
label_in_name b is = rw is refl

pub name_bytes : (text : List ℕ) → is_host_name text ≡ true → list_all is_name_byte text ≡ true
name_bytes text is = split_all (λ b. b == 0x2E) is_label_byte is_name_byte dot_in_name label_in_name text
    (all-weaker is_label (list_all is_label_byte) (λ label e. (and_parts _ _ e).1) (between_dots text) is)

dot_in_address : (b : ℕ) → (b == 0x2E) ≡ true → is_ip6_byte b ≡ true
dot_in_address b is = grind (arith, nat_tests)

colon_in_address : (b : ℕ) → (b == 0x3A) ≡ true → is_ip6_byte b ≡ true
colon_in_address b is = grind (arith, nat_tests)

digit_in_address : (b : ℕ) → is_digit b ≡ true → is_ip6_byte b ≡ true
digit_in_address b is = grind (arith, nat_tests)

hex_in_address : (b : ℕ) → is_hex_digit b ≡ true → is_ip6_byte b ≡ true
hex_in_address b is = grind (arith, nat_tests)

octet_digits : (piece : List ℕ) → is_octet piece ≡ true → list_all is_digit piece ≡ true
octet_digits piece is = (and_parts _ _ (and_parts _ _ (and_parts _ _ is).0).0).0

ip4_bytes : (text : List ℕ) → is_ip4_address text ≡ true → list_all is_ip6_byte text ≡ true
ip4_bytes text is = split_all (λ b. b == 0x2E) is_digit is_ip6_byte dot_in_address digit_in_address text
    (all-weaker is_octet (list_all is_digit) octet_digits (between_dots text) (and_parts _ _ is).1)

group_bytes : (piece : List ℕ) → is_group piece ≡ true → list_all is_ip6_byte piece ≡ true
group_bytes piece is = all-weaker is_hex_digit is_ip6_byte hex_in_address piece (and_parts _ _ is).1

groups_bytes : (text : List ℕ) → list_all (list_all is_ip6_byte) (between_colons text) ≡ true → list_all is_ip6_byte text ≡ true
groups_bytes text all = split_all (λ b. b == 0x3A) is_ip6_byte is_ip6_byte colon_in_address (λ b is. is) text all

some_of_map : (o : Option ℕ) (n : ℕ) → option_map suc o ≡ Some n → (m : ℕ) × (o ≡ Some m)
some_of_map None n e = cc
some_of_map (Some m) n e = (m, refl)

-- pieces that count have such bytes alone
counted_bytes : (pieces : List (List ℕ)) (n : ℕ) → group_count pieces ≡ Some n → list_all (list_all is_ip6_byte) pieces ≡ true
unfolding group_count
counted_bytes [] n e = refl
counted_bytes (piece ∷ []) n e = ⊎_elim
    (λ (yes : is_group piece ≡ true). rw (group_bytes piece yes) refl)
    (λ (other : is_group piece ≡ false). ⊎_elim
    (λ (yes : is_ip4_address piece ≡ true). rw (ip4_bytes piece yes) refl)
    (λ (neither : is_ip4_address piece ≡ false).
    let none : group_count (piece ∷ []) ≡ None = cond-false _ _ _ other ∙ cond-false _ _ _ neither in
    cc)
    (cases_Bool (is_ip4_address piece)))
    (cases_Bool (is_group piece))
counted_bytes (piece ∷ next ∷ pieces) n e = ⊎_elim
    (λ (yes : is_group piece ≡ true).
    let more : group_count (piece ∷ next ∷ pieces) ≡ option_map suc (group_count (next ∷ pieces)) = cond-true _ _ _ yes in
    let counted = some_of_map _ n (sym more ∙ e) in
    rw (group_bytes piece yes) (counted_bytes (next ∷ pieces) counted.0 counted.1))
    (λ (other : is_group piece ≡ false).
    let none : group_count (piece ∷ next ∷ pieces) ≡ None = cond-false _ _ _ other in
    cc)
    (cases_Bool (is_group piece))

-- the value of a test on an optional number
tested : (f : ℕ → Bool) (o : Option ℕ) (d : Bool) → option_map_or f o d ≡ true → ((n : ℕ) × (o ≡ Some n) × (f n ≡ true)) ⊎ (d ≡ true)
tested f None d e = inr e
tested f (Some n) d e = inl (n, refl, e)

tested_some : (f : ℕ → Bool) (o : Option ℕ) → option_map_or f o false ≡ true → (n : ℕ) × (o ≡ Some n)
tested_some f None e = cc
tested_some f (Some n) e = (n, refl)

whole_bytes : (text : List ℕ) → is_whole_ip6_address text ≡ true → list_all is_ip6_byte text ≡ true
whole_bytes text is =
    let counted = tested_some _ (group_count (between_colons text)) is in
    groups_bytes text (counted_bytes (between_colons text) counted.0 counted.1)

-- the side of a `::`
side_bytes : (text : List ℕ) → list_all (list_all is_ip6_byte) (side_pieces text) ≡ true → list_all is_ip6_byte text ≡ true
side_bytes text all = ⊎_elim
    (λ (yes : length text == 0 ≡ true). subst (λ l. list_all is_ip6_byte l ≡ true) (sym (nil_from_length text (eqb-true _ _ yes))) refl)
    (λ (no : length text == 0 ≡ false).
    let pieces : side_pieces text ≡ between_colons text = cond-false _ _ _ no in
    groups_bytes text (subst (λ l. list_all (list_all is_ip6_byte) l ≡ true) pieces all))
    (cases_Bool (length text == 0))

-- the first match is one
first_occurs : (hay needle : List ℕ) (skip i n k : ℕ) → first_of (matches_from hay needle skip i n) ≡ Some k → occurs_at hay needle k ≡ true
unfolding first_of matches_from
first_occurs hay needle skip i zero k e = cc
first_occurs hay needle (suc skip) i (suc n) k e = first_occurs hay needle skip (i + 1) n k e
first_occurs hay needle zero i (suc n) k e = ⊎_elim
    (λ (yes : occurs_at hay needle i ≡ true).
    let found : matches_from hay needle 0 i (suc n) ≡ i ∷ matches_from hay needle (match_len needle - 1) (i + 1) n = cond-true _ _ _ yes in
    let same : Some i ≡ Some k = sym (ap first_of found) ∙ e in
    let here : i ≡ k = cc in
    subst (λ m. occurs_at hay needle m ≡ true) here yes)
    (λ (no : occurs_at hay needle i ≡ false).
    let later : matches_from hay needle 0 i (suc n) ≡ matches_from hay needle 0 (i + 1) n = cond-false _ _ _ no in
    first_occurs hay needle zero (i + 1) n k (sym (ap first_of later) ∙ e))
    (cases_Bool (occurs_at hay needle i))

-- a text around its `::`
gap_found : (text : List ℕ) (k : ℕ) → gap_place text ≡ Some k → text ≡ take k text ++ (codes "::" ++ drop (k + 2) text)
gap_found text k e =
    let occurs = (and_parts _ _ (first_occurs text (codes "::") 0 0 _ k e)).1 in
    let here : take 2 (drop k text) ≡ codes "::" = (bytes_eq-Decides _ _).0 occurs in
    sym (take-append-drop k text) ∙ ap (λ t. take k text ++ t)
    (sym (take-append-drop 2 (drop k text)) ∙ ap (λ t. t ++ drop 2 (drop k text)) here ∙ ap (λ t. codes "::" ++ t) (drop-drop 2 k text))

gapped_bytes : (text : List ℕ) (k : ℕ) → gap_place text ≡ Some k → is_gapped_ip6_address (take k text) (drop (k + 2) text) ≡ true → list_all is_ip6_byte text ≡ true
gapped_bytes text k found is =
    let sides = and_parts _ _ is in
    let behind = tested_some _ (group_count (side_pieces (drop (k + 2) text))) sides.1 in
    let front : list_all is_ip6_byte (take k text) ≡ true =
    side_bytes (take k text) (all-weaker is_group (list_all is_ip6_byte) group_bytes (side_pieces (take k text)) sides.0) in
    let back : list_all is_ip6_byte (drop (k + 2) text) ≡ true = side_bytes (drop (k + 2) text) (counted_bytes _ behind.0 behind.1) in
    ap (list_all is_ip6_byte) (gap_found text k found) ∙ list_all-append is_ip6_byte (take k text) (codes "::" ++ drop (k + 2) text)
    ∙ ap (λ b. b && list_all is_ip6_byte (drop (k + 2) text)) front ∙ back

ip6_bytes : (text : List ℕ) → is_ip6_address text ≡ true → list_all is_ip6_byte text ≡ true
ip6_bytes text is = ⊎_elim
    (λ gapped. gapped_bytes text gapped.0 gapped.1 gapped.2)
    (λ whole. whole_bytes text whole)
    (tested _ (gap_place text) _ is)

pub literal_bracketed : (text : List ℕ) → is_ip6_literal text ≡ true → is_bracketed text ≡ true
literal_bracketed text is =
    let parts = and_parts _ _ is in
    and_from _ _ parts.0 (ip6_bytes _ parts.1)

-- a name or a literal
host_cases : (text : List ℕ) → is_host text ≡ true → (list_all is_name_byte text ≡ true) ⊎ (is_bracketed text ≡ true)
unfolding is_host
host_cases text is =
    let either = (and_parts _ _ is).1 in
    ⊎_elim
    (λ (yes : is_host_name text ≡ true). inl (name_bytes text yes))
    (λ (no : is_host_name text ≡ false). inr (literal_bracketed text (ap (λ b. b || is_ip6_literal text) (sym no) ∙ either)))
    (cases_Bool (is_host_name text))

pub host_plain : (text : List ℕ) → is_host text ≡ true → (list_all is_name_byte text || is_bracketed text) ≡ true
host_plain text is = ⊎_elim
    (λ (name : list_all is_name_byte text ≡ true). ap (λ b. b || is_bracketed text) name)
    (λ (literal : is_bracketed text ≡ true). or_right _ _ literal)
    (host_cases text is)

-- ---- lower case

abbrev is_lowered : ℕ → Bool
is_lowered b = to_ascii_lowercase b == b

name_lowered : (b : ℕ) → is_name_byte b ≡ true → is_lowered b ≡ true
name_lowered b is = grind (arith, nat_tests)

address_lowered : (b : ℕ) → is_ip6_byte b ≡ true → is_lowered b ≡ true
address_lowered b is = grind (arith, nat_tests)

-- what holds of the brackets and of what stands between them holds of each byte
bracketed_all : (r : ℕ → Bool) (text : List ℕ) → slice_index text 0 ≡ 0x5B → slice_index text (length text - 1) ≡ 0x5D → r 0x5B ≡ true → r 0x5D ≡ true
    → list_all r (take (length text - 2) (drop 1 text)) ≡ true → list_all r text ≡ true
bracketed_all r [] first last before behind inner = absurd (omega arith)
bracketed_all r (x ∷ []) first last before behind inner = absurd (omega arith)
bracketed_all r (x ∷ y ∷ rest) first last before behind inner =
    let text = y ∷ rest in
    let n = length rest in
    let inside : length (x ∷ y ∷ rest) - 2 ≡ n = omega arith in
    let to_end : length (x ∷ y ∷ rest) - 1 ≡ suc n = omega arith in
    let end : slice_index text n ≡ 0x5D = subst (λ m. slice_index (x ∷ y ∷ rest) m ≡ 0x5D) to_end last in
    let front : list_all r (take n text) ≡ true = subst (λ m. list_all r (take m text) ≡ true) inside inner in
    let tail : drop n text ≡ 0x5D ∷ [] = drop_more text n 0 (omega arith) ∙ ap (λ b. b ∷ drop (n + 1) text) end
    ∙ ap (λ t. 0x5D ∷ t) (drop_all (n + 1) text (omega arith)) in
    let back : list_all r (drop n text) ≡ true = subst (λ l. list_all r l ≡ true) (sym tail) (and_from _ _ behind refl) in
    let all : list_all r text ≡ true = ap (list_all r) (sym (take-append-drop n text)) ∙ list_all-append r (take n text) (drop n text)
    ∙ ap (λ b. b && list_all r (drop n text)) front ∙ back in
    and_from _ _ (subst (λ b. r b ≡ true) (sym first) before) all

lowered_all : (text : List ℕ) → list_all is_lowered text ≡ true → str_to_ascii_lowercase text ≡ text
lowered_all [] all = refl
lowered_all (b ∷ text) all =
    let both = and_parts _ _ all in
    let first : to_ascii_lowercase b ≡ b = eqb-true _ _ both.0 in
    let later : str_to_ascii_lowercase text ≡ text = lowered_all text both.1 in
    ap (λ c. c ∷ str_to_ascii_lowercase text) first ∙ ap (λ t. b ∷ t) later

pub host_lowered : (text : List ℕ) → is_host text ≡ true → str_to_ascii_lowercase text ≡ text
host_lowered text is = ⊎_elim
    (λ (name : list_all is_name_byte text ≡ true). lowered_all text (all-weaker is_name_byte is_lowered name_lowered text name))
    (λ (literal : is_bracketed text ≡ true).
    let parts = and_parts _ _ literal in
    let ends = and_parts _ _ parts.0 in
    lowered_all text (bracketed_all is_lowered text (eqb-true _ _ ends.0) (eqb-true _ _ ends.1) refl refl
    (all-weaker is_ip6_byte is_lowered address_lowered (take (length text - 2) (drop 1 text)) parts.1)))
    (host_cases text is)
