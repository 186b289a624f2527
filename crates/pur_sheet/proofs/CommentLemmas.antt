-- How a text is walked for what it loses.
use Rattle.std.proofs.Common.{◌≡◌, ℕ, zero, suc, Bool, true, false, List, [], ◌∷◌, drop, refl, ap, ◌∙◌}
use Rattle.std.specs.Prelude.{codes}
use Rattle.std.proofs.lemmas.Bool.{cond-true, cond-false}
use Rattle.pur_sheet.specs.Comments.{begins, unmarked, unmarked_behind, uncommented, uncommented_behind}

-- ---- marks

unmarked_skips : (n : ℕ) (text : List ℕ) → unmarked_behind n text ≡ unmarked (drop n text)
unfolding unmarked_behind
unmarked_skips zero text = refl
unmarked_skips (suc n) [] = refl
unmarked_skips (suc n) (c ∷ text) = unmarked_skips n text

pub unmarked_none : unmarked [] ≡ []
unfolding unmarked_behind
unmarked_none = refl

pub front_mark : (text : List ℕ) → begins (codes "<!--") text ≡ true → unmarked text ≡ unmarked (drop 4 text)
unfolding unmarked_behind
front_mark [] is = refl
front_mark (c ∷ text) is = cond-true _ _ _ is ∙ unmarked_skips 3 text

pub back_mark : (text : List ℕ) → begins (codes "<!--") text ≡ false → begins (codes "-->") text ≡ true → unmarked text ≡ unmarked (drop 3 text)
unfolding unmarked_behind
back_mark [] isnt is = refl
back_mark (c ∷ text) isnt is = cond-false _ _ _ isnt ∙ cond-true _ _ _ is ∙ unmarked_skips 2 text

pub no_mark : (text : List ℕ) → begins (codes "<!--") text ≡ false → begins (codes "-->") text ≡ false
    → (c : ℕ) (behind : List ℕ) → text ≡ c ∷ behind → unmarked text ≡ c ∷ unmarked behind
unfolding unmarked_behind
no_mark [] front back c behind split = absurd cc
no_mark (d ∷ text) front back c behind split = cond-false _ _ _ front ∙ cond-false _ _ _ back ∙ cc

-- ---- comments

uncommented_skips : (inside : Bool) (n : ℕ) (text : List ℕ) → uncommented_behind inside n text ≡ uncommented_behind inside 0 (drop n text)
unfolding uncommented_behind
uncommented_skips inside zero text = refl
uncommented_skips inside (suc n) [] = refl
uncommented_skips inside (suc n) (c ∷ text) = uncommented_skips inside n text

pub uncommented_none : (inside : Bool) → uncommented_behind inside 0 [] ≡ []
unfolding uncommented_behind
uncommented_none inside = refl

pub comment_opens : (text : List ℕ) → begins (codes "/*") text ≡ true → uncommented text ≡ uncommented_behind true 0 (drop 2 text)
unfolding uncommented_behind
comment_opens [] is = refl
comment_opens (c ∷ text) is = cond-true _ _ _ is ∙ uncommented_skips true 1 text

pub no_comment : (c : ℕ) (text : List ℕ) → begins (codes "/*") (c ∷ text) ≡ false → uncommented (c ∷ text) ≡ c ∷ uncommented text
unfolding uncommented_behind
no_comment c text isnt = cond-false _ _ _ isnt

pub comment_closes : (text : List ℕ) → begins (codes "*/") text ≡ true → uncommented_behind true 0 text ≡ 0x20 ∷ uncommented (drop 2 text)
unfolding uncommented_behind
comment_closes [] is = absurd cc
comment_closes (c ∷ text) is = cond-true _ _ _ is ∙ ap (λ t. 0x20 ∷ t) (uncommented_skips false 1 text)

pub comment_goes : (c : ℕ) (text : List ℕ) → begins (codes "*/") (c ∷ text) ≡ false → uncommented_behind true 0 (c ∷ text) ≡ uncommented_behind true 0 text
unfolding uncommented_behind
comment_goes c text isnt = cond-false _ _ _ isnt
