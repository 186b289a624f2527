-- What a look-up by a name finds.
use Rattle.std.proofs.Common.{◌≡◌, ℕ, Bool, true, false, List, [], ◌∷◌, Option, Some, None, IfSome, IfNone, cond, refl, sym, ap, ◌∙◌}
use Rattle.std.specs.List.{find}
use Rattle.std.specs.Str.{bytes_eq}
use Rattle.std.proofs.lemmas.Option.{same_Some}
use Rattle.std.proofs.lemmas.Slice.Eq.{bytes_eq-Decides}

skipped : {Y : Type 0} (b : Bool) (y z : Option Y) → (b ≡ true → ⊥) → z ≡ None → cond b y z ≡ None
skipped true y z none rest = absurd (none refl)
skipped false y z none rest = rest

-- where no element passes the test, none is found
find_none : {X : Type 0} (test : X → Bool) (xs : List X) → ((x : X) → test x ≡ true → ⊥) → find test xs ≡ None
find_none test [] none = refl
find_none test (x ∷ xs) none = skipped (test x) (Some x) _ (none x) (find_none test xs none)

module _ {X : Type 0} (name_of : X → List ℕ) (xs : List X) where
  abbrev pub named : List ℕ → Option X
  named name = find (λ x. bytes_eq (name_of x) name) xs

  -- where none has the name, none is found
  pub named-none : (name : List ℕ) → ((x : X) → name_of x ≡ name → ⊥) → named name ≡ None
  named-none name none = find_none (λ x. bytes_eq (name_of x) name) xs (λ x same. none x ((bytes_eq-Decides (name_of x) name).0 same))

  module _ (inverse : (x : X) → named (name_of x) ≡ Some x) where
    -- where each is found by its name, names are distinct
    pub name-distinct : (x y : X) → name_of x ≡ name_of y → x ≡ y
    name-distinct x y same = same_Some _ _ (sym (inverse x) ∙ ap named same ∙ inverse y)

    -- and an answer that has the name, or that is none where nothing has it, is the look-up's
    pub named-only : (found : Option X) (name : List ℕ) → IfSome found (λ x. name_of x ≡ name)
        → IfNone found ((x : X) → name_of x ≡ name → ⊥) → found ≡ named name
    named-only (Some x) name some none = sym (sym (ap named some) ∙ inverse x)
    named-only None name some none = sym (named-none name none)
