-- Names in a table by places, where no two have one place: only the one at a text's place can have it as its name.
use Rattle.std.proofs.Common.{◌≡◌, ℕ, Bool, false, List, map, nat_eq, sym, ap, ◌∙◌}
use Rattle.std.specs.List.{find}
use Rattle.std.specs.Option.{unwrap_or}
use Rattle.std.specs.Str.{bytes_eq}
use Rattle.std.proofs.lemmas.Bool.{true≢false}
use Rattle.std.proofs.lemmas.Slice.Eq.{bytes_eq-Decides}
use Rattle.pur_names.proofs.Variants.{numbers}
use lib.ListN.{get_or}

module _ {X : Type 0} (name_of : X → List ℕ) (place_of : List ℕ → ℕ) (size : ℕ) where
  -- the table: at each place the one whose name has it, or else this other one
  abbrev pub placed : List X → X → List X
  placed all other = map (λ k. unwrap_or (find (λ x. nat_eq (place_of (name_of x)) k) all) other) (numbers 0 size)

  -- where each stands at its name's place, and the one at a text's place has another name, none has the text as its name
  pub absent : (table : List X) (other : X) → ((x : X) → get_or table (place_of (name_of x)) other ≡ x)
      → (text : List ℕ) (place : ℕ) (name bytes : List ℕ) (same : Bool)
      → place ≡ place_of text → name ≡ name_of (get_or table place other) → bytes ≡ name → same ≡ bytes_eq bytes text → same ≡ false
      → (x : X) → name_of x ≡ text → ⊥
  absent table other each text place name bytes same at is read test differs x has =
      true≢false (sym ((bytes_eq-Decides bytes text).1 (read ∙ is ∙ ap (λ k. name_of (get_or table k other)) (at ∙ ap place_of (sym has)) ∙ ap name_of (each x) ∙ has)) ∙ sym test ∙ differs)
