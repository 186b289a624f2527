-- Texts that stay whole, joined and cut again.
use Rattle.std.proofs.Common.{◌≡◌, ℕ, Bool, true, false, cond, List, [], ◌∷◌, ◌++◌, append-nil, Some, None, refl, sym, ap, ◌∙◌}
use Rattle.std.specs.Prelude.{◌==◌, ◌&&◌, ◌||◌, not, Option}
use Rattle.std.specs.List.{list_all, onto_first, join_with_byte}
use Rattle.std.proofs.lemmas.Bool.{cond-true, cond-false, and_parts, and_from, not-true}
use Rattle.pur_csstok.specs.Cuts.{separates, heeds_parentheses, nothing_open, is_outside, open_after, is_quote, quote_after, depth_after, is_cut, pieces_from, pieces, stays_whole, is_whole, is_plain}
use Rattle.pur_csstok.specs.declared.cuts.Nesting.{Nesting}
use Rattle.pur_csstok.specs.declared.cuts.Separator.{Separator}
use Rattle.pur_laws.proofs.Tests.{same_number}

-- ---- a whole text, alone and before a separator

module _ (separator : Separator) where
  after : Nesting → ℕ → Nesting
  after before c = open_after (heeds_parentheses separator) before c

  cut_behind : (before : Nesting) (text : List ℕ) (c : ℕ) (rest : List ℕ) → separates separator c ≡ true → stays_whole separator before text ≡ true
      → pieces_from separator before (text ++ c ∷ rest) ≡ text ∷ pieces separator rest
  unfolding pieces_from stays_whole after
  cut_behind before [] c rest is whole = cond-true _ _ _ (and_from (is_outside before) (separates separator c) whole is)
  cut_behind before (d ∷ text) c rest is whole =
      let both = and_parts (not (is_cut separator before d)) (stays_whole separator (after before d) text) whole in
      cond-false _ _ _ (not-true _ both.0) ∙ ap (onto_first d) (cut_behind (after before d) text c rest is both.1)

  whole_alone : (before : Nesting) (text : List ℕ) → stays_whole separator before text ≡ true → pieces_from separator before text ≡ text ∷ []
  unfolding pieces_from stays_whole after
  whole_alone before [] whole = refl
  whole_alone before (d ∷ text) whole =
      let both = and_parts (not (is_cut separator before d)) (stays_whole separator (after before d) text) whole in
      cond-false _ _ _ (not-true _ both.0) ∙ ap (onto_first d) (whole_alone (after before d) text both.1)

pub whole_cut : (separator : Separator) (text : List ℕ) (c : ℕ) (rest : List ℕ) → separates separator c ≡ true → is_whole separator text ≡ true
    → pieces separator (text ++ c ∷ rest) ≡ text ∷ pieces separator rest
whole_cut separator text c rest is whole = cut_behind separator nothing_open text c rest is whole

-- whole texts joined by a separator are cut into these texts
pub joined_pieces : (separator : Separator) (c : ℕ) → separates separator c ≡ true → (text : List ℕ) (texts : List (List ℕ))
    → list_all (is_whole separator) (text ∷ texts) ≡ true → pieces separator (join_with_byte c (text ∷ texts)) ≡ text ∷ texts
joined_pieces separator c is text [] all = whole_alone separator nothing_open text (and_parts (is_whole separator text) true all).0
joined_pieces separator c is text (next ∷ texts) all =
    let both = and_parts (is_whole separator text) (list_all (is_whole separator) (next ∷ texts)) all in
    whole_cut separator text c (join_with_byte c (next ∷ texts)) is both.0 ∙ ap (λ t. text ∷ t) (joined_pieces separator c is next texts both.1)

-- ---- plain texts

plain_parts : (separator : Separator) (c : ℕ) → is_plain separator c ≡ true
    → (separates separator c ≡ false) × (is_quote c ≡ false) × ((c == 0x28) ≡ false) × ((c == 0x29) ≡ false)
plain_parts separator c is = go (separates separator c) (is_quote c) (c == 0x28) (c == 0x29) is where
  go : (s q o e : Bool) → not (s || q || o || e) ≡ true → (s ≡ false) × (q ≡ false) × (o ≡ false) × (e ≡ false)
  go false false false false is = (refl, refl, refl, refl)
  go true q o e is = absurd cc
  go false true o e is = absurd cc
  go false false true e is = absurd cc
  go false false false true is = absurd cc

pub plain_after : (separator : Separator) (c : ℕ) → is_plain separator c ≡ true → open_after (heeds_parentheses separator) nothing_open c ≡ nothing_open
plain_after separator c is =
    let parts = plain_parts separator c is in
    let depth : depth_after 0 c ≡ 0 = cond-false _ _ _ parts.2 ∙ cond-false _ _ _ parts.3 in
    go (heeds_parentheses separator) (quote_after None c) (depth_after 0 c) (cond-false _ _ _ parts.1) depth where
      go : (heeds : Bool) (quote : Option ℕ) (depth : ℕ) → quote ≡ None → depth ≡ 0
          → (let n : Nesting = record { quote = quote; depth = cond (heeds && true) depth 0 } in n) ≡ nothing_open
      go true quote depth q d = rw (q, d) refl
      go false quote depth q d = rw q refl

-- a text that opens and separates nothing, in front of another
pub plain_front : (separator : Separator) (text rest : List ℕ) → list_all (is_plain separator) text ≡ true → is_whole separator (text ++ rest) ≡ is_whole separator rest
unfolding stays_whole
plain_front separator [] rest all = refl
plain_front separator (c ∷ text) rest all =
    let both = and_parts (is_plain separator c) (list_all (is_plain separator) text) all in
    ap (λ b. not b && stays_whole separator (open_after (heeds_parentheses separator) nothing_open c) (text ++ rest)) (plain_parts separator c both.0).0
    ∙ ap (λ n. stays_whole separator n (text ++ rest)) (plain_after separator c both.0) ∙ plain_front separator text rest both.1

pub plain_whole : (separator : Separator) (text : List ℕ) → list_all (is_plain separator) text ≡ true → is_whole separator text ≡ true
unfolding stays_whole
plain_whole separator text all = ap (is_whole separator) (sym (append-nil text)) ∙ plain_front separator text [] all

-- ---- texts in quotes, within so many parentheses

abbrev pub outside_quotes : ℕ → Nesting
outside_quotes depth = record { quote = None; depth = depth }

abbrev pub in_quote : ℕ → ℕ → Nesting
in_quote quote depth = record { quote = Some quote; depth = depth }

after_in : (heeds : Bool) (quote depth c : ℕ) (b : Bool) → (c == quote) ≡ b → open_after heeds (in_quote quote depth) c ≡ cond b (outside_quotes depth) (in_quote quote depth)
after_in true quote depth c true is = rw is refl
after_in true quote depth c false is = rw is refl
after_in false quote depth c true is = rw is refl
after_in false quote depth c false is = rw is refl

pub quote_closes : (separator : Separator) (quote depth : ℕ) (text rest : List ℕ) → list_all (λ c. not (c == quote)) text ≡ true
    → stays_whole separator (in_quote quote depth) (text ++ quote ∷ rest) ≡ stays_whole separator (outside_quotes depth) rest
unfolding stays_whole
quote_closes separator quote depth [] rest all =
    ap (λ n. stays_whole separator n rest) (after_in (heeds_parentheses separator) quote depth quote true (same_number quote))
quote_closes separator quote depth (c ∷ text) rest all =
    let both = and_parts (not (c == quote)) (list_all (λ c. not (c == quote)) text) all in
    ap (λ n. stays_whole separator n (text ++ quote ∷ rest)) (after_in (heeds_parentheses separator) quote depth c false (not-true _ both.0))
    ∙ quote_closes separator quote depth text rest both.1
