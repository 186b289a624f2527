-- Texts that have no white space at their ends.
use Rattle.std.proofs.Common.{◌≡◌, ℕ, ◌+◌, Bool, true, false, not, cond, List, [], ◌∷◌, ◌++◌, length, refl, ap, ◌∙◌, arith}
use Rattle.std.specs.Prelude.{reverse, ◌==◌}
use Rattle.std.specs.List.{list_all, prefix_len, suffix_len}
use Rattle.std.proofs.lemmas.Bool.{and_parts, cond-false, not-true}
use Rattle.std.proofs.lemmas.List.{reverse-append, length-reverse}
use Rattle.pur_laws.proofs.Ends.{front_settled, end_settled}
use Rattle.pur_laws.proofs.Lists.{all-reverse}
use Rattle.pur_text.specs.Characters.{is_space}
use Rattle.pur_text.specs.Trimming.{trimmed, without_trailing_space}
use Rattle.pur_values.proofs.SolidLemmas.{is_other, is_solid, solid-other}

trimmed_same : (text : List ℕ) → prefix_len is_space text ≡ 0 → suffix_len is_space text ≡ 0 → trimmed text ≡ text
unfolding trimmed
trimmed_same text front end = ap without_trailing_space (front_settled is_space text front) ∙ end_settled is_space text end

no_front : (text : List ℕ) → list_all is_other text ≡ true → prefix_len is_space text ≡ 0
no_front [] all = refl
no_front (c ∷ text) all = cond-false _ _ _ (not-true _ (and_parts (is_other c) (list_all is_other text) all).0)

longer_front : (text rest : List ℕ) → not (length text == 0) ≡ true → prefix_len is_space text ≡ 0 → prefix_len is_space (text ++ rest) ≡ 0
longer_front [] rest some front = absurd cc
longer_front (c ∷ text) rest some front = go (is_space c) front where
  go : (b : Bool) → cond b (1 + prefix_len is_space text) 0 ≡ 0 → cond b (1 + prefix_len is_space (text ++ rest)) 0 ≡ 0
  go true front = absurd (omega arith)
  go false front = refl

pub solid-tight : (text : List ℕ) → list_all is_solid text ≡ true → trimmed text ≡ text
solid-tight text all =
    let other = solid-other text all in
    trimmed_same text (no_front text other) (no_front (reverse text) (all-reverse is_other text other))

-- a text whose first and whose last part have no white space
pub parts-tight : (text front behind before last : List ℕ) → text ≡ front ++ behind → text ≡ before ++ last
    → not (length front == 0) ≡ true → list_all is_solid front ≡ true → not (length last == 0) ≡ true → list_all is_solid last ≡ true → trimmed text ≡ text
parts-tight text front behind before last one two some all some_last all_last =
    trimmed_same text
    (ap (prefix_len is_space) one ∙ longer_front front behind some (no_front front (solid-other front all)))
    (ap (suffix_len is_space) two ∙ ap (prefix_len is_space) (reverse-append before last)
    ∙ longer_front (reverse last) (reverse before) (ap (λ n. not (n == 0)) (length-reverse last) ∙ some_last)
    (no_front (reverse last) (all-reverse is_other last (solid-other last all_last))))
