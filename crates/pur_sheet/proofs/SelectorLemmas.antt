-- Texts cut at a character, and the words of a text.
use Rattle.std.proofs.Common.{◌≡◌, ℕ, ◌+◌, ◌<◌, ◌≤◌, Bool, true, false, List, [], ◌∷◌, ◌++◌, length, take, drop, filter, Some, None, refl, sym, ap, subst, ◌∙◌, arith, ⊎_elim, append-nil, append_assoc, take-append-drop}
use Rattle.std.specs.Prelude.{not, ◌==◌, map, codes}
use Rattle.std.specs.List.{flat_map, join_by, list_all, position, position_or_len, prefix_len, slice_split}
use Rattle.std.proofs.lemmas.Bool.{false≢true, cases_Bool, cond-true, and_parts}
use Rattle.std.proofs.lemmas.Bool.Decides.{nat_tests}
use Rattle.std.proofs.lemmas.List.{drop-drop, length-append, length-drop, length-take-le, take_all}
use Rattle.std.proofs.lemmas.List.Splits.{slice_split_first, length-slice_split}
use Rattle.std.proofs.lemmas.List.Sums.{prefix_len-le-length}
use Rattle.pur_laws.proofs.Ends.{front_gone}
use Rattle.pur_laws.proofs.Firsts.{split-at, split-none}
use Rattle.pur_laws.proofs.Lists.{all-prefix}
use Rattle.pur_laws.proofs.Tests.{not_empty}
use Rattle.pur_laws.proofs.Places.{position-found, position-missed}
use Rattle.pur_text.specs.Characters.{is_space}
use Rattle.pur_sheet.specs.Selectors.{chain_text, chains_of, chains_text, compound_text, is_child, is_word, words_of}
use Rattle.pur_sheet.specs.Private.Words.{is_no_space}

-- ---- cutting at a character

pub cut_first : (test : ℕ → Bool) (text : List ℕ) (place : ℕ) (front tail behind : List ℕ) → Some place ≡ position test text → front ≡ take place text → tail ≡ drop place text → behind ≡ drop 1 tail
    → slice_split test text ≡ front ∷ slice_split test behind
cut_first test text place front tail behind found front_is tail_is behind_is =
    let at = position-found test text place found in
    let within : position_or_len test text < length text = omega (arith, at.0, at.1) in
    let rest : drop (position_or_len test text + 1) text ≡ behind =
    ap (λ n. drop (n + 1) text) at.0 ∙ sym (drop-drop 1 place text) ∙ ap (drop 1) (sym tail_is) ∙ sym behind_is in
    slice_split_first test text 0 within ∙ ap (λ t. t ∷ slice_split test (drop (position_or_len test text + 1) text)) (ap (λ n. take n text) at.0 ∙ sym front_is)
    ∙ ap (λ t. front ∷ slice_split test t) rest

pub cut_none : (test : ℕ → Bool) (text : List ℕ) → None ≡ position test text → slice_split test text ≡ text ∷ []
cut_none test text none = split-none test text (whole (λ c. not (test c)) text (position-missed test text none)) where
  whole : (passes : ℕ → Bool) (xs : List ℕ) → length xs ≤ prefix_len passes xs → list_all passes xs ≡ true
  whole passes xs all = subst (λ t. list_all passes t ≡ true) (take_all (prefix_len passes xs) xs all) (all-prefix passes xs)

-- ---- words

word_or_not : (word : List ℕ) (words : List (List ℕ)) → 0 < length word → filter is_word (word ∷ words) ≡ word ∷ filter is_word words
word_or_not [] words some = absurd (omega (arith, some))
word_or_not (c ∷ word) words some = cond-true _ _ _ (ap not (not_empty c word))

pub space_gone : (c : ℕ) (text : List ℕ) → is_space c ≡ true → words_of (c ∷ text) ≡ words_of text
space_gone c text is = ap (filter is_word) (cond-true _ _ _ is)

pub spaces_gone : (spaces text : List ℕ) → list_all is_space spaces ≡ true → words_of (spaces ++ text) ≡ words_of text
spaces_gone [] text all = refl
spaces_gone (c ∷ spaces) text all =
    let both = and_parts (is_space c) (list_all is_space spaces) all in
    space_gone c (spaces ++ text) both.0 ∙ spaces_gone spaces text both.1

pub word_taken : (word text : List ℕ) → list_all is_no_space word ≡ true → 0 < length word → prefix_len is_no_space text ≡ 0 → words_of (word ++ text) ≡ word ∷ words_of text
word_taken word [] all some ends =
    ap words_of (append-nil word) ∙ ap (filter is_word) (split-none is_space word all) ∙ word_or_not word [] some
word_taken word (c ∷ text) all some ends = ⊎_elim
    (λ (is : is_space c ≡ true).
    ap (filter is_word) (split-at is_space c is word text all) ∙ word_or_not word (slice_split is_space text) some ∙ ap (λ t. word ∷ t) (sym (space_gone c text is)))
    (λ (no : is_space c ≡ false).
    let more : prefix_len is_no_space (c ∷ text) ≡ 1 + prefix_len is_no_space text = cond-true _ _ _ (ap not no) in
    absurd (omega arith))
    (cases_Bool (is_space c))

some_word : (text : List ℕ) → prefix_len is_space text ≡ 0 → 0 < length text → 0 < prefix_len is_no_space text
some_word [] none some = absurd (omega (arith, some))
some_word (c ∷ text) none some = ⊎_elim
    (λ (is : is_space c ≡ true).
    let more : prefix_len is_space (c ∷ text) ≡ 1 + prefix_len is_space text = cond-true _ _ _ is in
    absurd (omega arith))
    (λ (no : is_space c ≡ false).
    let more : prefix_len is_no_space (c ∷ text) ≡ 1 + prefix_len is_no_space text = cond-true _ _ _ (ap not no) in
    omega arith)
    (cases_Bool (is_space c))

pub no_words : (text : List ℕ) → (length text == 0) ≡ true → words_of text ≡ []
no_words [] none = refl
no_words (c ∷ text) none = absurd (false≢true (sym (not_empty c text) ∙ none))

some_length : (text : List ℕ) → (length text == 0) ≡ false → 0 < length text
some_length text some = grind (arith, nat_tests)

module _ (text tail : List ℕ) (n : ℕ) (skips : n ≡ prefix_len is_space text) (tail_is : tail ≡ drop n text) where
  pub tail_words : words_of text ≡ words_of tail
  tail_words =
      let cut : take n text ++ tail ≡ text = ap (λ t. take n text ++ t) tail_is ∙ take-append-drop n text in
      ap words_of (sym cut) ∙ spaces_gone (take n text) tail (subst (λ k. list_all is_space (take k text) ≡ true) (sym skips) (all-prefix is_space text))

  pub word_read : (m : ℕ) (word behind : List ℕ) → m ≡ prefix_len is_no_space tail → (length tail == 0) ≡ false → word ≡ take m tail → behind ≡ drop m tail
      → (words_of text ≡ word ∷ words_of behind) × (length behind < length text)
  word_read m word behind takes some word_is behind_is =
      let settled : prefix_len is_space tail ≡ 0 = ap (prefix_len is_space) (tail_is ∙ ap (λ k. drop k text) skips) ∙ front_gone is_space text in
      let letters : 0 < m = subst (λ k. 0 < k) (sym takes) (some_word tail settled (some_length tail some)) in
      let within : m ≤ length tail = subst (λ k. k ≤ length tail) (sym takes) (prefix_len-le-length is_no_space tail) in
      let sizes : length (take m tail) ≡ m = length-take-le m tail within in
      let all : list_all is_no_space word ≡ true = ap (list_all is_no_space) (word_is ∙ ap (λ k. take k tail) takes) ∙ all-prefix is_no_space tail in
      let ends : prefix_len is_no_space behind ≡ 0 = ap (prefix_len is_no_space) (behind_is ∙ ap (λ k. drop k tail) takes) ∙ front_gone is_no_space tail in
      let cut : word ++ behind ≡ tail = ap (λ t. t ++ behind) word_is ∙ ap (λ t. take m tail ++ t) behind_is ∙ take-append-drop m tail in
      let big : 0 < length word = subst (λ t. 0 < length t) (sym word_is) (omega arith) in
      let shorter : length behind < length text = omega (arith, ap length cut, length-append word behind, ap length tail_is, length-drop n text) in
      (tail_words ∙ ap words_of (sym cut) ∙ word_taken word behind all big ends, shorter)

-- ---- what is written of them

pub some_parts : (test : ℕ → Bool) (text : List ℕ) → 0 < length (slice_split test text)
some_parts test text = omega (arith, length-slice_split test text)

-- a list that is joined, by its first item
pub join_more : {X : Type 0} (f : X → List ℕ) (mark : List ℕ) (x : X) (xs : List X) → 0 < length xs → join_by f mark (x ∷ xs) ≡ f x ++ (mark ++ join_by f mark xs)
join_more f mark x [] some = absurd (omega (arith, some))
join_more f mark x (y ∷ xs) some = ap (λ t. f x ++ t) (append_assoc mark (f y) (flat_map (λ z. mark ++ f z) xs))

-- what was written, and what is still to be written, are the whole
module _ (test : ℕ → Bool) (one : List ℕ → List ℕ) (mark : List ℕ) where
  pub joined_first : (old text first behind : List ℕ) → slice_split test text ≡ first ∷ slice_split test behind
      → ((old ++ one first) ++ mark) ++ join_by one mark (slice_split test behind) ≡ old ++ join_by one mark (slice_split test text)
  joined_first old text first behind cut =
      let rest = join_by one mark (slice_split test behind) in
      append_assoc (old ++ one first) mark rest ∙ append_assoc old (one first) (mark ++ rest)
      ∙ ap (λ t. old ++ t) (sym (join_more one mark first (slice_split test behind) (some_parts test behind)) ∙ ap (join_by one mark) (sym cut))

  pub joined_last : (old text : List ℕ) → slice_split test text ≡ text ∷ [] → old ++ join_by one mark (slice_split test text) ≡ old ++ one text
  joined_last old text whole = ap (λ t. old ++ t) (ap (join_by one mark) whole ∙ append-nil (one text))

chains_joined : (texts : List (List ℕ)) → chains_text (map words_of texts) ≡ join_by (λ text. chain_text (words_of text)) (codes " > ") texts
chains_joined [] = refl
chains_joined (text ∷ texts) = ap (λ t. chain_text (words_of text) ++ t) (go texts) where
  go : (texts : List (List ℕ)) → flat_map (λ chain. codes " > " ++ chain_text chain) (map words_of texts) ≡ flat_map (λ text. codes " > " ++ chain_text (words_of text)) texts
  go [] = refl
  go (text ∷ texts) = ap (λ t. (codes " > " ++ chain_text (words_of text)) ++ t) (go texts)

pub chains_written : (text : List ℕ) → chains_text (chains_of text) ≡ join_by (λ chain. chain_text (words_of chain)) (codes " > ") (slice_split is_child text)
chains_written text = chains_joined (slice_split is_child text)

-- a chain by its first word
pub chain_first : (word : List ℕ) (words : List (List ℕ)) → chain_text (word ∷ words) ≡ compound_text word ++ flat_map (λ next. 0x20 ∷ compound_text next) words
chain_first word [] = sym (append-nil (compound_text word))
chain_first word (next ∷ words) = ap (λ t. compound_text word ++ 0x20 ∷ t) (chain_first next words)
