-- What holds of a text, and of each front and each end of what it holds of, holds of path, query and fragment.
use Rattle.std.proofs.Common.{◌≡◌, ℕ, Bool, true, false, List, take, drop, Some, None, subst}
use Rattle.std.specs.Prelude.{if◌then◌else◌}
use Rattle.std.specs.List.{prefix_len}
use Rattle.pur_uri.specs.Splitting.{Parts, is_in_path, is_in_authority, is_in_scheme, is_in_query, has_scheme, behind_scheme, has_authority, authority_part, behind_authority, behind_path, behind, begins_with, query_part, behind_query, fragment_part, parts_of}

-- path, query and fragment, where they are there
pub record EachPart (P : List ℕ → Type 0) (parts : Parts) : Type 0 where
  pub path : P parts.path
  pub query : (q : List ℕ) → parts.query ≡ Some q → P q
  pub fragment : (f : List ℕ) → parts.fragment ≡ Some f → P f

module _ (P : List ℕ → Type 0) (fronts : (n : ℕ) (text : List ℕ) → P text → P (take n text)) (ends : (n : ℕ) (text : List ℕ) → P text → P (drop n text)) where
  either : (test : Bool) (x y : List ℕ) → P x → P y → P (if test then x else y)
  either true x y one other = one
  either false x y one other = other

  maybe : (test : Bool) (x y : List ℕ) → P x → (if test then Some x else None) ≡ Some y → P y
  maybe true x y holds e =
      let same : x ≡ y = cc in
      subst P same holds
  maybe false x y holds e = absurd (cc)

  -- what is behind the scheme, and what is behind the authority
  pub located_piece : (text : List ℕ) → P text → P (behind_scheme text)
  unfolding behind_scheme
  located_piece text holds =
      either (has_scheme text) (drop 1 (behind is_in_scheme text)) text (ends 1 (behind is_in_scheme text) (ends (prefix_len is_in_scheme text) text holds)) holds

  pub placed_piece : (text : List ℕ) → P text → P (behind_authority text)
  unfolding behind_authority
  placed_piece text holds =
      either (has_authority text) (behind is_in_authority (drop 2 text)) text
      (ends (prefix_len is_in_authority (drop 2 text)) (drop 2 text) (ends 2 text holds)) holds

  pub authority_piece : (text : List ℕ) → P text → (a : List ℕ) → authority_part text ≡ Some a → P a
  unfolding authority_part
  authority_piece text holds a e =
      maybe (has_authority text) (take (prefix_len is_in_authority (drop 2 text)) (drop 2 text)) a
      (fronts (prefix_len is_in_authority (drop 2 text)) (drop 2 text) (ends 2 text holds)) e

  pub each_part : (text : List ℕ) → P text → EachPart P (parts_of text)
  unfolding parts_of query_part behind_query fragment_part
  each_part text holds =
      let placed = behind_authority (behind_scheme text) in
      let of_placed = placed_piece (behind_scheme text) (located_piece text holds) in
      let asked = behind_path placed in
      let of_asked = ends (prefix_len is_in_path placed) placed of_placed in
      let inside = ends 1 asked of_asked in
      let of_query = fronts (prefix_len is_in_query (drop 1 asked)) (drop 1 asked) inside in
      let of_ending = either (begins_with 0x3F asked) (behind is_in_query (drop 1 asked)) asked (ends (prefix_len is_in_query (drop 1 asked)) (drop 1 asked) inside) of_asked in
      record {
        path = fronts (prefix_len is_in_path placed) placed of_placed;
        query = λ q e. maybe (begins_with 0x3F asked) (take (prefix_len is_in_query (drop 1 asked)) (drop 1 asked)) q of_query e;
        fragment = λ f e. maybe (begins_with 0x23 (behind_query asked)) (drop 1 (behind_query asked)) f (ends 1 (behind_query asked) of_ending) e;
      }
