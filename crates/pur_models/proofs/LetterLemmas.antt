-- Letters, and lists of them.
use Rattle.std.proofs.Common.{◌≡◌, List, [], ◌∷◌, ◌++◌, refl, ap, ◌∙◌, Bool, true, false, ◌||◌}
use Rattle.std.specs.Bool.{Decides}
use Rattle.std.specs.List.{list_any}
use Rattle.std.proofs.lemmas.List.Folds.{list_any-append}
use Rattle.std.proofs.lemmas.Bool.{and_from, and_parts, or_left, or_parts, or_right}
use Rattle.pur_names.proofs.ElementLaws.{same_element-Decides}
use Rattle.pur_modules.specs.declared.kinds.Child.{Child}
use Rattle.pur_modules.specs.declared.kinds.Child.TheVariants.{Text, Elem}
use Rattle.pur_models.specs.Languages.{all_among, has_letter, same_child}

-- the test for the same letter decides that
pub same_child-Decides : (a b : Child) → Decides (same_child a b) (a ≡ b)
same_child-Decides Text Text = (λ yes. refl, λ same. refl)
same_child-Decides Text (Elem b) = (λ yes. absurd (cc), λ same. absurd (cc))
same_child-Decides (Elem a) Text = (λ yes. absurd (cc), λ same. absurd (cc))
same_child-Decides (Elem a) (Elem b) = (
  λ yes. ap Elem ((same_element-Decides a b).0 yes),
  λ same. (same_element-Decides a b).1 (cc),
)

pub same_child-refl : (a : Child) → same_child a a ≡ true
same_child-refl a = (same_child-Decides a a).1 refl

-- a letter of one of two lists is one of both joined
pub has_letter-left : (a b : List Child) (c : Child) → has_letter a c ≡ true → has_letter (a ++ b) c ≡ true
has_letter-left a b c h = list_any-append (same_child c) a b ∙ or_left (has_letter a c) (has_letter b c) h

pub has_letter-right : (a b : List Child) (c : Child) → has_letter b c ≡ true → has_letter (a ++ b) c ≡ true
has_letter-right a b c h = list_any-append (same_child c) a b ∙ or_right (has_letter a c) (has_letter b c) h

pub all_among-left : (a b word : List Child) → all_among a word ≡ true → all_among (a ++ b) word ≡ true
all_among-left a b [] h = refl
all_among-left a b (c ∷ word) h =
    and_from _ _ (has_letter-left a b c (and_parts (has_letter a c) (all_among a word) h).0) (all_among-left a b word (and_parts (has_letter a c) (all_among a word) h).1)

pub all_among-right : (a b word : List Child) → all_among b word ≡ true → all_among (a ++ b) word ≡ true
all_among-right a b [] h = refl
all_among-right a b (c ∷ word) h =
    and_from _ _ (has_letter-right a b c (and_parts (has_letter b c) (all_among b word) h).0) (all_among-right a b word (and_parts (has_letter b c) (all_among b word) h).1)

-- a letter is in at most one of two lists that have none in common
pub apart : (letters others : List Child) (c : Child) → list_any (has_letter others) letters ≡ false
    → has_letter letters c ≡ true → has_letter others c ≡ false
apart [] others c none here = absurd (cc)
apart (d ∷ letters) others c none here =
    go (same_child c d) refl (apart letters others c (or_parts (has_letter others d) _ none).1)
  where
    go : (b : Bool) → same_child c d ≡ b → (has_letter letters c ≡ true → has_letter others c ≡ false)
        → has_letter others c ≡ false
    go true same more =
        let e : c ≡ d = (same_child-Decides c d).0 same in
        ap (has_letter others) e ∙ (or_parts (has_letter others d) (list_any (has_letter others) letters) none).0
    go false other more =
        let there : (false || has_letter letters c) ≡ true = rw other at here in
        more there
