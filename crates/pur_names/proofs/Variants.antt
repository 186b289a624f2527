-- Enums without fields: what holds of each variant in the list of all holds of every variant. So a table is proved by
-- computing over the list, and never row by row.
use Rattle.std.proofs.Common.{◌≡◌, ℕ, zero, suc, ◌+◌, ◌<◌, Bool, true, false, List, [], ◌∷◌, map, length, Option, Some, None, slice_get, sym, ap, ◌∙◌, arith, inl, inr}
use Rattle.std.specs.List.{list_all}
use Rattle.std.specs.Option.{option_map, option_map_or}
use Rattle.std.proofs.lemmas.Bool.{and_parts}
use Rattle.std.proofs.lemmas.Option.{same_Some, slice_get-map}
use denote.RattleType.{RattleType}
use denote.Enum.Bare.{Bare, tag_one, sameb, same_true}
use denote.Enum.Declared.{Declared, rowss, tag_of}
use denote.Enum.Enum.{Sum, tag}

-- so many numbers from k on
abbrev pub numbers : ℕ → ℕ → List ℕ
numbers k zero = []
numbers k (suc n) = k ∷ numbers (suc k) n

numbers-at : (k n i : ℕ) → i < n → slice_get (numbers k n) i ≡ Some (k + i)
numbers-at k zero i within = absurd (omega arith)
numbers-at k (suc n) zero within = ap Some (omega arith)
numbers-at k (suc n) (suc i) within = numbers-at (suc k) n i (omega arith) ∙ ap Some (omega arith)

-- the number of a variant is below how many there are
tag_within : (Tss : List (List RattleType)) (a : Sum Tss) → tag Tss a < length Tss
tag_within [] a = absurd a
tag_within (Ts ∷ Tss) (inl x) = omega arith
tag_within (Ts ∷ Tss) (inr y) = omega (arith, tag_within Tss y)

-- what holds of each of a list holds of the one at a place
all_at : {X : Type 0} (test : X → Bool) (xs : List X) (k : ℕ) (x : X) → list_all test xs ≡ true → slice_get xs k ≡ Some x → test x ≡ true
all_at test [] k x all at = absurd (cc)
all_at test (y ∷ xs) zero x all at = let same : y ≡ x = same_Some y x at in ap test (sym same) ∙ (and_parts (test y) (list_all test xs) all).0
all_at test (y ∷ xs) (suc k) x all at = all_at test xs k x (and_parts (test y) (list_all test xs) all).1 at

-- an enum, and a list that has each variant at its number
module _ (D : Declared) (bare : Bare D.parts) (xs : List D.D) (all : map (tag_of D) xs ≡ numbers 0 (length (rowss D.parts))) where
  pub each-at : (a : D.D) → slice_get xs (tag_of D a) ≡ Some a
  each-at a = go (slice_get xs (tag_of D a)) (sym (slice_get-map (tag_of D) xs (tag_of D a)) ∙ ap (λ ns. slice_get ns (tag_of D a)) all ∙ numbers-at 0 _ (tag_of D a) (tag_within (rowss D.parts) (D.to a)))
    where
      go : (found : Option D.D) → option_map (tag_of D) found ≡ Some (0 + tag_of D a) → found ≡ Some a
      go None is = absurd (cc)
      go (Some b) is = ap Some (tag_one D bare b a (same_Some _ _ is ∙ omega arith))

  -- what each in the list passes every variant passes
  pub each : (test : D.D → Bool) → list_all test xs ≡ true → (a : D.D) → test a ≡ true
  each test passes a = all_at test xs (tag_of D a) a passes (each-at a)

  -- a look-up that finds each in the list finds every variant
  pub each-found : {K : Type 0} (look_up : K → Option D.D) (key : D.D → K)
      → list_all (λ a. option_map_or (sameb D a) (look_up (key a)) false) xs ≡ true → (a : D.D) → look_up (key a) ≡ Some a
  each-found look_up key passes a = go (look_up (key a)) (each (λ b. option_map_or (sameb D b) (look_up (key b)) false) passes a)
    where
      go : (found : Option D.D) → option_map_or (sameb D a) found false ≡ true → found ≡ Some a
      go None is = absurd (cc)
      go (Some b) is = ap Some (sym (same_true D bare a b is))
