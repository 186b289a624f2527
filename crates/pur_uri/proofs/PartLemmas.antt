-- What holds of the parts that a text is cut into.
use Rattle.std.proofs.Common.{◌≡◌, ℕ, zero, suc, ◌+◌, Bool, true, false, List, [], ◌∷◌, ◌++◌, take, drop, Option, Some, None, refl, sym, ap, ◌∙◌, arith, ⊎_elim, take-append-drop}
use Rattle.std.specs.Prelude.{◌==◌, ◌&&◌, not, if◌then◌else◌}
use Rattle.std.specs.List.{list_all, prefix_len}
use Rattle.std.proofs.lemmas.Bool.{cases_Bool, cond-true, cond-false}
use Rattle.pur_laws.proofs.Ends.{front_gone}
use Rattle.pur_laws.proofs.Lists.{all-prefix}
use Rattle.pur_uri.specs.Splitting.{is_in_path, is_in_authority, is_in_scheme, begins_with, has_scheme, scheme_part, behind_scheme, has_authority, authority_part, behind_authority, path_part, behind_path, parts_of}
use Rattle.pur_uri.proofs.CuttingLemmas.{is_not, colon_ahead, has_scheme_as, ahead_more, ahead_stop, tail_ahead}

-- a text that begins with none of a class
pub first_fails : (q : ℕ → Bool) (b : ℕ) (text : List ℕ) → prefix_len q (b ∷ text) ≡ 0 → q b ≡ false
first_fails q b text stop = ⊎_elim
    (λ (yes : q b ≡ true).
    let n : prefix_len q (b ∷ text) ≡ 1 + prefix_len q text = cond-true _ _ _ yes in
    absurd (omega arith))
    (λ (other : q b ≡ false). other)
    (cases_Bool (q b))

stop_take : (q : ℕ → Bool) (n : ℕ) (text : List ℕ) → prefix_len q text ≡ 0 → prefix_len q (take n text) ≡ 0
stop_take q zero text stop = refl
stop_take q (suc n) [] stop = refl
stop_take q (suc n) (b ∷ text) stop = cond-false _ _ _ (first_fails q b text stop)

-- ---- what a path begins with doesn't depend on what is behind it

tail_first : (d : ℕ) → is_in_path d ≡ true → (0 == d) ≡ false → (tail : List ℕ) → prefix_len is_in_path tail ≡ 0 → begins_with d tail ≡ false
tail_first d is nothing [] stop = nothing
tail_first d is nothing (b ∷ tail) stop = is_not is_in_path d is b (first_fails is_in_path b tail stop)

seam_first : (d : ℕ) → is_in_path d ≡ true → (0 == d) ≡ false → (path tail : List ℕ) → prefix_len is_in_path tail ≡ 0 → begins_with d (path ++ tail) ≡ begins_with d path
seam_first d is nothing [] tail stop = tail_first d is nothing tail stop ∙ sym nothing
seam_first d is nothing (b ∷ path) tail stop = refl

pub seam_authority : (path tail : List ℕ) → prefix_len is_in_path tail ≡ 0 → has_authority (path ++ tail) ≡ has_authority path
unfolding has_authority
seam_authority [] tail stop = ap (λ t. t && begins_with 0x2F (drop 1 tail)) (tail_first 0x2F refl refl tail stop)
seam_authority (b ∷ path) tail stop = ap (λ t. b == 0x2F && t) (seam_first 0x2F refl refl path tail stop)

seam_ahead : (path tail : List ℕ) → prefix_len is_in_path tail ≡ 0 → colon_ahead (path ++ tail) ≡ colon_ahead path
seam_ahead [] tail stop = tail_ahead tail stop
seam_ahead (b ∷ path) tail stop = ⊎_elim
    (λ (yes : is_in_scheme b ≡ true). ahead_more b (path ++ tail) yes ∙ seam_ahead path tail stop ∙ sym (ahead_more b path yes))
    (λ (other : is_in_scheme b ≡ false). ahead_stop b (path ++ tail) other ∙ sym (ahead_stop b path other))
    (cases_Bool (is_in_scheme b))

pub seam_scheme : (path tail : List ℕ) → prefix_len is_in_path tail ≡ 0 → has_scheme (path ++ tail) ≡ has_scheme path
seam_scheme path tail stop =
    has_scheme_as (path ++ tail) ∙ ap (λ t. not t && colon_ahead (path ++ tail)) (seam_first 0x3A refl refl path tail stop)
    ∙ ap (λ t. not (begins_with 0x3A path) && t) (seam_ahead path tail stop) ∙ sym (has_scheme_as path)

-- ---- the parts of a text

-- a path fits what is in front of it: behind an authority it is empty or begins with `/`, without one it doesn't begin
-- with `//`, and without a scheme either no scheme stands in it
pub record IsPlaced (scheme authority : Option (List ℕ)) (path : List ℕ) : Type 0 where
  pub inside : list_all is_in_path path ≡ true
  pub located : (a : List ℕ) → authority ≡ Some a → prefix_len is_in_authority path ≡ 0
  pub local : authority ≡ None → has_authority path ≡ false
  pub relative : scheme ≡ None → authority ≡ None → has_scheme path ≡ false

pub some_test : {X : Type 0} (test : Bool) (x y : X) → (if test then Some x else None) ≡ Some y → test ≡ true
some_test true x y e = refl
some_test false x y e = absurd (cc)

none_test : {X : Type 0} (test : Bool) (x : X) → (if test then Some x else None) ≡ None → test ≡ false
none_test true x e = absurd (cc)
none_test false x e = refl

module _ (text : List ℕ) where
  no_scheme : scheme_part text ≡ None → (has_scheme text ≡ false) × (behind_scheme text ≡ text)
  unfolding scheme_part behind_scheme
  no_scheme e =
      let none = none_test (has_scheme text) _ e in
      (none, cond-false _ _ _ none)

  no_authority : authority_part text ≡ None → (has_authority text ≡ false) × (behind_authority text ≡ text)
  unfolding authority_part behind_authority
  no_authority e =
      let none = none_test (has_authority text) _ e in
      (none, cond-false _ _ _ none)

  some_authority : (a : List ℕ) → authority_part text ≡ Some a → prefix_len is_in_authority (behind_authority text) ≡ 0
  unfolding authority_part behind_authority
  some_authority a e =
      let is = some_test (has_authority text) _ a e in
      ap (prefix_len is_in_authority) (cond-true _ _ _ is) ∙ front_gone is_in_authority (drop 2 text)

  -- a text and the path in its front
  path_seam : path_part text ++ behind_path text ≡ text
  path_seam = take-append-drop (prefix_len is_in_path text) text

  path_stop : prefix_len is_in_path (behind_path text) ≡ 0
  path_stop = front_gone is_in_path text

  path_authority : has_authority (path_part text) ≡ has_authority text
  path_authority = sym (seam_authority (path_part text) (behind_path text) path_stop) ∙ ap has_authority path_seam

  path_scheme : has_scheme (path_part text) ≡ has_scheme text
  path_scheme = sym (seam_scheme (path_part text) (behind_path text) path_stop) ∙ ap has_scheme path_seam

pub parts_placed : (text : List ℕ) → (let p = parts_of text in IsPlaced p.scheme p.authority p.path)
unfolding parts_of
parts_placed text =
    let located = behind_scheme text in
    let placed = behind_authority located in
    record {
      inside = all-prefix is_in_path placed;
      located = λ a e. stop_take is_in_authority (prefix_len is_in_path placed) placed (some_authority located a e);
      local = λ e.
          let none = no_authority located e in
          path_authority placed ∙ ap has_authority none.1 ∙ none.0;
      relative = λ bare e.
          let free = no_scheme text bare in
          let none = no_authority located e in
          path_scheme placed ∙ ap has_scheme (none.1 ∙ free.1) ∙ free.0;
    }
