-- How a text is cut from the front.
use Rattle.std.proofs.Common.{◌≡◌, ℕ, true, false, List, [], ◌∷◌, ◌++◌, refl, sym, ap, ◌∙◌, append_assoc, append-nil}
use Rattle.std.specs.List.{onto_first}
use Rattle.std.proofs.lemmas.Bool.{cond-true, cond-false}
use Rattle.std.proofs.lemmas.List.{append_cancel_right}
use Rattle.pur_csstok.specs.Cuts.{heeds_parentheses, nothing_open, open_after, is_cut, pieces_from, pieces}
use Rattle.pur_csstok.specs.declared.cuts.Nesting.{Nesting}
use Rattle.pur_csstok.specs.declared.cuts.Separator.{Separator}

-- a text in front of the first of these
abbrev onto_front : List ℕ → List (List ℕ) → List (List ℕ)
onto_front [] texts = texts
onto_front (c ∷ front) texts = onto_first c (onto_front front texts)

front_longer : (front : List ℕ) (c : ℕ) (texts : List (List ℕ)) → onto_front (front ++ c ∷ []) texts ≡ onto_front front (onto_first c texts)
front_longer [] c texts = refl
front_longer (d ∷ front) c texts = ap (onto_first d) (front_longer front c texts)

front_alone : (front : List ℕ) (texts : List (List ℕ)) → onto_front front ([] ∷ texts) ≡ front ∷ texts
front_alone [] texts = refl
front_alone (c ∷ front) texts = ap (onto_first c) (front_alone front texts)

-- no cut was found so far, and this is left of the text, with this open before it
pub record IsScanned (separator : Separator) (text : List ℕ) (before : Nesting) (rest : List ℕ) : Type 0 where
  pub front : List ℕ
  pub split : text ≡ front ++ rest
  pub so_far : pieces separator text ≡ onto_front front (pieces_from separator before rest)

pub scan_starts : (separator : Separator) (text : List ℕ) → IsScanned separator text nothing_open text
scan_starts separator text = record { front = []; split = refl; so_far = refl }

-- one character was passed over
pub scan_passes : (separator : Separator) (text : List ℕ) (before after : Nesting) (c : ℕ) (now rest : List ℕ) → IsScanned separator text before now → now ≡ c ∷ rest
    → is_cut separator before c ≡ false → after ≡ open_after (heeds_parentheses separator) before c → IsScanned separator text after rest
unfolding pieces_from
scan_passes separator text before after c now rest scanned is miss after_is = record {
  front = scanned.front ++ c ∷ [];
  split = scanned.split ∙ ap (λ t. scanned.front ++ t) is ∙ sym (append_assoc scanned.front (c ∷ []) rest);
  so_far = scanned.so_far ∙ ap (λ t. onto_front scanned.front (pieces_from separator before t)) is
      ∙ ap (onto_front scanned.front) (cond-false _ _ _ miss ∙ ap (λ n. onto_first c (pieces_from separator n rest)) (sym after_is))
      ∙ sym (front_longer scanned.front c (pieces_from separator after rest));
}

-- a separator was found
pub scan_cuts : (separator : Separator) (text : List ℕ) (before : Nesting) (c : ℕ) (now rest front : List ℕ) → IsScanned separator text before now → now ≡ c ∷ rest
    → is_cut separator before c ≡ true → text ≡ front ++ now → pieces separator text ≡ front ∷ pieces separator rest
unfolding pieces_from
scan_cuts separator text before c now rest front scanned is hit split =
    scanned.so_far ∙ ap (λ t. onto_front scanned.front (pieces_from separator before t)) is
    ∙ ap (onto_front scanned.front) (cond-true _ _ _ hit) ∙ front_alone scanned.front (pieces separator rest)
    ∙ ap (λ t. t ∷ pieces separator rest) (append_cancel_right scanned.front front now (sym scanned.split ∙ split))

-- there was none
pub scan_ends : (separator : Separator) (text : List ℕ) (before : Nesting) (now : List ℕ) → IsScanned separator text before now → now ≡ [] → pieces separator text ≡ text ∷ []
unfolding pieces_from
scan_ends separator text before now scanned is =
    scanned.so_far ∙ ap (λ t. onto_front scanned.front (pieces_from separator before t)) is ∙ front_alone scanned.front []
    ∙ ap (λ t. t ∷ []) (sym (append-nil scanned.front) ∙ ap (λ t. scanned.front ++ t) (sym is) ∙ sym scanned.split)
