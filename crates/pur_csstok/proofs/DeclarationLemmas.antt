-- How a declaration is read from a piece.
use Rattle.std.proofs.Common.{◌≡◌, ℕ, true, false, cond, List, [], ◌∷◌, ◌++◌, Some, None, refl, ap, ◌∙◌}
use Rattle.std.specs.Prelude.{◌==◌, ◌&&◌, ◌||◌, not, slice_index}
use Rattle.std.specs.List.{list_all, list_any, before_first, after_first}
use Rattle.pur_csstok.specs.Declarations.{has_escape_or_comment, is_colon, clean_pair, declaration_of}
use Rattle.pur_laws.proofs.Firsts.{none_any, any-at, before_first-at, after_first-at}

pub escape_none : has_escape_or_comment [] ≡ false
unfolding has_escape_or_comment
escape_none = refl

pub escape_first : (c : ℕ) (text : List ℕ) → has_escape_or_comment (c ∷ text) ≡ (c == 0x5C || (c == 0x2F && slice_index text 0 == 0x2A) || has_escape_or_comment text)
unfolding has_escape_or_comment
escape_first c text = refl

pub piece_read : (piece property value : List ℕ) → has_escape_or_comment piece ≡ false → piece ≡ property ++ 0x3A ∷ value → list_all (λ c. not (is_colon c)) property ≡ true
    → declaration_of piece ≡ Some (clean_pair property value)
unfolding declaration_of
piece_read piece property value plain split none =
    ap (λ b. cond (b || not (list_any is_colon piece)) None (Some (clean_pair (before_first is_colon piece) (after_first is_colon piece)))) plain
    ∙ ap (λ t. cond (not (list_any is_colon t)) None (Some (clean_pair (before_first is_colon t) (after_first is_colon t)))) split
    ∙ ap (λ b. cond (not b) None (Some (clean_pair (before_first is_colon (property ++ 0x3A ∷ value)) (after_first is_colon (property ++ 0x3A ∷ value))))) (any-at is_colon 0x3A refl property value)
    ∙ ap (λ t. Some (clean_pair t (after_first is_colon (property ++ 0x3A ∷ value)))) (before_first-at is_colon 0x3A refl property value none)
    ∙ ap (λ t. Some (clean_pair property t)) (after_first-at is_colon 0x3A refl property value none)

pub piece_none : (piece : List ℕ) → has_escape_or_comment piece ≡ false → list_all (λ c. not (is_colon c)) piece ≡ true → declaration_of piece ≡ None
unfolding declaration_of
piece_none piece plain none =
    ap (λ b. cond (b || not (list_any is_colon piece)) None (Some (clean_pair (before_first is_colon piece) (after_first is_colon piece)))) plain
    ∙ ap (λ b. cond (not b) None (Some (clean_pair (before_first is_colon piece) (after_first is_colon piece)))) (none_any is_colon piece none)
