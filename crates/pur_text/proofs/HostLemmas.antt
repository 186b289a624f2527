-- Texts cut at a byte, and what their pieces count.
use Rattle.std.proofs.Common.{◌≡◌, ℕ, suc, ◌+◌, Bool, true, false, cond, List, [], ◌∷◌, length, take, drop, Option, Some, None, refl, sym, ap, subst, ◌∙◌, arith, option_map}
use Rattle.std.specs.Prelude.{◌==◌, ◌&&◌, count_by, if◌then◌else◌}
use Rattle.std.specs.List.{list_all, position, slice_split, onto_first}
use Rattle.std.proofs.lemmas.Bool.{cond-true, cond-false, eq-eqb, ne_eqb}
use Rattle.std.proofs.lemmas.List.Splits.{slice_split_first, slice_split_none, length-slice_split}
use Rattle.std.proofs.lemmas.List.Sums.{fails_before_first}
use Rattle.pur_laws.proofs.Places.{position-found, position-missed}
use Rattle.pur_text.specs.Hosts.{is_group, is_octet, is_ip4_address, group_count, between_dots, between_colons, side_pieces}

-- the pieces of a text that is cut at its first separator, and of one that has none
pub split_found : (p : ℕ → Bool) (xs : List ℕ) (n : ℕ) → Some n ≡ position p xs → slice_split p xs ≡ take n xs ∷ slice_split p (drop (n + 1) xs)
split_found p xs n is =
    let found = position-found p xs n is in
    subst (λ m. slice_split p xs ≡ take m xs ∷ slice_split p (drop (m + 1) xs)) found.0 (slice_split_first p xs 0 (omega arith))

pub split_whole : (p : ℕ → Bool) (xs : List ℕ) → None ≡ position p xs → slice_split p xs ≡ xs ∷ []
split_whole p xs is =
    let whole = position-missed p xs is in
    slice_split_none p xs (λ i d lt. fails_before_first p xs i d (omega arith))

-- what groups count to with one more in front
abbrev pub counted_before : Bool → Option ℕ → Option ℕ
counted_before one more = if one then option_map suc more else None

-- a piece in front of the pieces of a text, of which there is one at least
front_of_longer : (piece : List ℕ) (x : ℕ) (pieces : List (List ℕ))
    → group_count (piece ∷ onto_first x pieces) ≡ counted_before (is_group piece) (group_count (onto_first x pieces))
unfolding group_count
front_of_longer piece x [] = refl
front_of_longer piece x (part ∷ parts) = refl

pub group_count-front : (piece : List ℕ) (p : ℕ → Bool) (xs : List ℕ)
    → group_count (piece ∷ slice_split p xs) ≡ counted_before (is_group piece) (group_count (slice_split p xs))
unfolding group_count
group_count-front piece p [] = refl
group_count-front piece p (x ∷ xs) =
    let short = [] ∷ slice_split p xs in
    let long = onto_first x (slice_split p xs) in
    elim (p x) as (λ b. group_count (piece ∷ cond b short long) ≡ counted_before (is_group piece) (group_count (cond b short long)))
    [ true ↦ refl | false ↦ front_of_longer piece x (slice_split p xs) ]

-- what stands before the pieces of a text counts
front_counted : (rest piece behind : List ℕ) → between_colons rest ≡ piece ∷ between_colons behind
    → group_count (between_colons rest) ≡ counted_before (is_group piece) (group_count (between_colons behind))
front_counted rest piece behind cut = ap group_count cut ∙ group_count-front piece (λ b. b == 0x3A) behind

one_more : (count : ℕ) (groups : Option ℕ) → option_map (λ g. count + 1 + g) groups ≡ option_map (λ g. count + g) (option_map suc groups)
one_more count None = refl
one_more count (Some g) = let same : count + 1 + g ≡ count + suc g = omega arith in ap Some same

-- a loop that has counted so far, and goes on with what is left
module _ (count : ℕ) (rest : List ℕ) (whole : Option ℕ) where
  abbrev pub Counted : Type 0
  Counted = option_map (λ g. count + g) (group_count (between_colons rest)) ≡ whole

  pub group_counted : (piece behind : List ℕ) → between_colons rest ≡ piece ∷ between_colons behind → is_group piece ≡ true → Counted
      → option_map (λ g. count + 1 + g) (group_count (between_colons behind)) ≡ whole
  group_counted piece behind cut is so_far =
      let front = front_counted rest piece behind cut ∙ cond-true _ _ _ is in
      one_more count (group_count (between_colons behind)) ∙ ap (λ o. option_map (λ g. count + g) o) (sym front) ∙ so_far

  pub no_group : (piece behind : List ℕ) → between_colons rest ≡ piece ∷ between_colons behind → is_group piece ≡ false → Counted → None ≡ whole
  no_group piece behind cut is so_far =
      let front = front_counted rest piece behind cut ∙ cond-false _ _ _ is in
      ap (λ o. option_map (λ g. count + g) o) (sym front) ∙ so_far

  pub last_group : between_colons rest ≡ rest ∷ [] → is_group rest ≡ true → Counted → Some (count + 1) ≡ whole
  unfolding group_count
  last_group cut is so_far =
      let last : group_count (between_colons rest) ≡ Some 1 = ap group_count cut ∙ cond-true _ _ _ is in
      ap (λ o. option_map (λ g. count + g) o) (sym last) ∙ so_far

  pub last_address : between_colons rest ≡ rest ∷ [] → is_group rest ≡ false → is_ip4_address rest ≡ true → Counted → Some (count + 2) ≡ whole
  unfolding group_count
  last_address cut other is so_far =
      let last : group_count (between_colons rest) ≡ Some 2 = ap group_count cut ∙ cond-false _ _ _ other ∙ cond-true _ _ _ is in
      ap (λ o. option_map (λ g. count + g) o) (sym last) ∙ so_far

  pub last_neither : between_colons rest ≡ rest ∷ [] → is_group rest ≡ false → is_ip4_address rest ≡ false → Counted → None ≡ whole
  unfolding group_count
  last_neither cut other neither so_far =
      let last : group_count (between_colons rest) ≡ None = ap group_count cut ∙ cond-false _ _ _ other ∙ cond-false _ _ _ neither in
      ap (λ o. option_map (λ g. count + g) o) (sym last) ∙ so_far

-- four octets, by the number of dots
pub ip4_counted : (text : List ℕ) → count_by (λ b. b == 0x2E) text ≡ 3 → is_ip4_address text ≡ list_all is_octet (between_dots text)
ip4_counted text three =
    let four : length (between_dots text) ≡ 4 = length-slice_split (λ b. b == 0x2E) text ∙ ap (λ n. n + 1) three in
    ap (λ b. b && list_all is_octet (between_dots text)) (eq-eqb _ _ four)

pub ip4_miscounted : (text : List ℕ) → (count_by (λ b. b == 0x2E) text ≡ 3 → ⊥) → is_ip4_address text ≡ false
ip4_miscounted text other =
    let pieces = length-slice_split (λ b. b == 0x2E) text in
    ap (λ b. b && list_all is_octet (between_dots text)) (ne_eqb (length (between_dots text)) 4 (λ four. other (omega arith)))

-- the pieces of a side
pub side_pieces_some : (text : List ℕ) → false ≡ (length text == 0) → side_pieces text ≡ between_colons text
side_pieces_some text some = cond-false _ _ _ (sym some)

pub side_pieces_counted : (text : List ℕ) → false ≡ (length text == 0) → count_by (λ b. b == 0x3A) text + 1 ≡ length (side_pieces text)
side_pieces_counted text some = sym (length-slice_split (λ b. b == 0x3A) text) ∙ ap (λ (l : List (List ℕ)). length l) (sym (side_pieces_some text some))

pub side_empty : (text : List ℕ) → true ≡ (length text == 0) → Some 0 ≡ group_count (side_pieces text)
unfolding group_count
side_empty text none = ap group_count (sym (cond-true _ _ _ (sym none)))
