-- A host and what is behind it are no longer than the text that they stand in.
use Rattle.std.proofs.Common.{◌≡◌, ◌≤◌, ℕ, ◌+◌, true, false, List, length, drop, Some, sym, subst, arith, ⊎_elim}
use Rattle.std.specs.List.{prefix_len}
use Rattle.std.proofs.lemmas.Bool.{cases_Bool, cond-true, cond-false}
use Rattle.std.proofs.lemmas.List.{length-drop, length-take}
use Rattle.pur_uri.specs.Authorities.{without_user, host_len}
use Rattle.pur_uri.specs.Splitting.{are_bytes, is_in_authority, is_in_scheme, behind, front, has_scheme, behind_scheme, has_authority, authority_part, behind_authority}
use Rattle.pur_uri.specs.Places.{HostPlace, place_in, host_place}
use Rattle.pur_uri.specs.Laws.{HasBytes}
use Rattle.pur_uri.proofs.AgainLemmas.{mapped_some}
use Rattle.pur_uri.proofs.ByteLemmas.{bytes_take, bytes_drop}
use Rattle.pur_uri.proofs.PartLemmas.{some_test}
use Rattle.pur_uri.proofs.PieceLemmas.{authority_piece, located_piece, placed_piece}

drop_shorter : (n : ℕ) (text : List ℕ) → length (drop n text) ≤ length text
drop_shorter n text = let len = length-drop n text in omega (arith, len)

located_shorter : (text : List ℕ) → length (behind_scheme text) ≤ length text
unfolding behind_scheme
located_shorter text = ⊎_elim
    (λ (yes : has_scheme text ≡ true).
    let one = drop_shorter 1 (behind is_in_scheme text) in
    let two = drop_shorter (prefix_len is_in_scheme text) text in
    let less : length (drop 1 (behind is_in_scheme text)) ≤ length text = omega (arith, one, two) in
    subst (λ (t : List ℕ). length t ≤ length text) (sym (cond-true _ _ _ yes)) less)
    (λ (bare : has_scheme text ≡ false).
    let same : length text ≤ length text = omega arith in
    subst (λ (t : List ℕ). length t ≤ length text) (sym (cond-false _ _ _ bare)) same)
    (cases_Bool (has_scheme text))

parted : (located a : List ℕ) → authority_part located ≡ Some a → length a + length (behind_authority located) ≤ length located
unfolding authority_part behind_authority
parted located a e =
    let is = some_test (has_authority located) _ a e in
    let there : authority_part located ≡ Some (front is_in_authority (drop 2 located)) = cond-true _ _ _ is in
    let same : front is_in_authority (drop 2 located) ≡ a = cc in
    let rest : behind_authority located ≡ behind is_in_authority (drop 2 located) = cond-true _ _ _ is in
    let one = length-take (prefix_len is_in_authority (drop 2 located)) (drop 2 located) in
    let two = length-drop (prefix_len is_in_authority (drop 2 located)) (drop 2 located) in
    let three = drop_shorter 2 located in
    let less : length (front is_in_authority (drop 2 located)) + length (behind is_in_authority (drop 2 located)) ≤ length located =
    omega (arith, one, two, three) in
    subst (λ (t : List ℕ). length t + length (behind_authority located) ≤ length located) same
    (subst (λ (t : List ℕ). length (front is_in_authority (drop 2 located)) + length t ≤ length located) (sym rest) less)

pub place_fits : (text a : List ℕ) → authority_part (behind_scheme text) ≡ Some a
    → length (without_user a) + length (behind_authority (behind_scheme text)) ≤ length text
place_fits text a e =
    let one = parted (behind_scheme text) a e in
    let two = located_shorter text in
    let three : length (without_user a) ≤ length a = drop_shorter _ a in
    omega (arith, one, two, three)

-- what a text is cut into at its host
place_bytes_in : (text behind a : List ℕ) → are_bytes text ≡ true → are_bytes behind ≡ true → are_bytes a ≡ true → HasBytes (place_in text behind a)
place_bytes_in text behind a all rest own =
    let named = bytes_drop _ a own in record {
      before = bytes_take _ text all;
      host = bytes_take (host_len (without_user a)) (without_user a) named;
      port = bytes_drop (host_len (without_user a)) (without_user a) named;
      behind = rest;
    }

pub place_bytes : (text : List ℕ) (place : HostPlace) → are_bytes text ≡ true → host_place text ≡ Some place → HasBytes place
unfolding host_place
place_bytes text place all e =
    let located = behind_scheme text in
    let found = mapped_some (place_in text (behind_authority located)) (authority_part located) place e in
    let inside = located_piece (λ t. are_bytes t ≡ true) bytes_take bytes_drop text all in
    subst HasBytes found.1.1
    (place_bytes_in text (behind_authority located) found.0 all
    (placed_piece (λ t. are_bytes t ≡ true) bytes_take bytes_drop located inside)
    (authority_piece (λ t. are_bytes t ≡ true) bytes_take bytes_drop located inside found.0 found.1.0))
