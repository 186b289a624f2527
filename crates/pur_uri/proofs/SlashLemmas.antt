-- No escape reaches over a slash.
use Rattle.std.proofs.Common.{◌≡◌, ℕ, ◌+◌, Bool, true, false, List, [], ◌∷◌, ◌++◌, refl, sym, ap, ◌∙◌, arith, ⊎_elim, append_assoc}
use Rattle.std.specs.Prelude.{◌==◌, ◌&&◌, not, if◌then◌else◌}
use Rattle.std.specs.Char.{is_digit}
use Rattle.std.specs.List.{list_all}
use Rattle.std.proofs.lemmas.Bool.{cases_Bool, cond-true, cond-false, and_parts, eqb-true}
use Rattle.percent_encoding.specs.Percent.{is_escape}
use Rattle.pur_laws.proofs.Truth.{and_false}
use Rattle.pur_uri.specs.Escapes.{is_unreserved, stays_in_path, written, value_of_escape, normalised}
use Rattle.pur_uri.specs.Laws.{IsNormalPath}
use Rattle.pur_uri.proofs.CuttingLemmas.{unlike, is_not}
use Rattle.pur_uri.proofs.EscapeLemmas.{is_escape_byte, normalised_kept, written_all}

slash_stays : (stays_in_path 0x2F ≡ true) × (stays_in_path 37 ≡ false)
unfolding stays_in_path
slash_stays = (refl, refl)

-- ---- normalising goes on behind a slash

behind_slash : (ys : List ℕ) → normalised stays_in_path (0x2F ∷ ys) ≡ 0x2F ∷ normalised stays_in_path ys
behind_slash ys = normalised_kept stays_in_path slash_stays.1 0x2F ys slash_stays.0

-- a slash is no digit of an escape
no_low : (b high : ℕ) → is_escape b high 0x2F ≡ false
no_low b high = and_false ((b == 37) && is_digit high 16)

no_high : (b low : ℕ) → is_escape b 0x2F low ≡ false
no_high b low = ap (λ t. t && is_digit low 16) (and_false (b == 37))

one_byte : (b : ℕ) (ys : List ℕ) → normalised stays_in_path (b ∷ 0x2F ∷ ys) ≡ written stays_in_path b ++ (0x2F ∷ normalised stays_in_path ys)
unfolding normalised
one_byte b [] = ap (λ t. written stays_in_path b ++ t) (cond-true _ _ _ slash_stays.0)
one_byte b (y ∷ ys) = cond-false _ _ _ (no_high b y) ∙ ap (λ t. written stays_in_path b ++ t) (behind_slash (y ∷ ys))

pub over_slash : (xs ys : List ℕ) → normalised stays_in_path (xs ++ (0x2F ∷ ys)) ≡ normalised stays_in_path xs ++ (0x2F ∷ normalised stays_in_path ys)
unfolding normalised
over_slash [] ys = behind_slash ys
over_slash (b ∷ []) ys = one_byte b ys
over_slash (b ∷ c ∷ []) ys =
    cond-false _ _ _ (no_low b c) ∙ ap (λ t. written stays_in_path b ++ t) (one_byte c ys)
    ∙ sym (append_assoc (written stays_in_path b) (written stays_in_path c) (0x2F ∷ normalised stays_in_path ys))
over_slash (b ∷ high ∷ low ∷ xs) ys = ⊎_elim
    (λ (yes : is_escape b high low ≡ true).
    let w = written is_unreserved (value_of_escape high low) in
    cond-true _ _ _ yes ∙ ap (λ t. w ++ t) (over_slash xs ys)
    ∙ sym (append_assoc w (normalised stays_in_path xs) (0x2F ∷ normalised stays_in_path ys))
    ∙ ap (λ t. t ++ (0x2F ∷ normalised stays_in_path ys)) (sym (cond-true _ _ _ yes)))
    (λ (fails : is_escape b high low ≡ false).
    let w = written stays_in_path b in
    cond-false _ _ _ fails ∙ ap (λ t. w ++ t) (over_slash (high ∷ low ∷ xs) ys)
    ∙ sym (append_assoc w (normalised stays_in_path (high ∷ low ∷ xs)) (0x2F ∷ normalised stays_in_path ys))
    ∙ ap (λ t. t ++ (0x2F ∷ normalised stays_in_path ys)) (sym (cond-false _ _ _ fails)))
    (cases_Bool (is_escape b high low))

pub joined : (front behind : List ℕ) → IsNormalPath front → IsNormalPath behind → IsNormalPath (front ++ (0x2F ∷ behind))
joined front behind one other = over_slash front behind ∙ ap (λ t. t ++ (0x2F ∷ normalised stays_in_path behind)) one ∙ ap (λ t. front ++ (0x2F ∷ t)) other

-- ---- normalising makes no slash and takes none

abbrev one_slash : ℕ → ℕ
one_slash b = if b == 0x2F then 1 else 0

slashes : List ℕ → ℕ
slashes [] = 0
slashes (b ∷ text) = one_slash b + slashes text

slashes-append : (xs ys : List ℕ) → slashes (xs ++ ys) ≡ slashes xs + slashes ys
unfolding slashes
slashes-append [] ys = omega arith
slashes-append (b ∷ xs) ys = let more = slashes-append xs ys in omega (arith, more)

none : (text : List ℕ) → list_all (λ b. not (b == 0x2F)) text ≡ true → slashes text ≡ 0
unfolding slashes
none [] all = refl
none (b ∷ text) all =
    let both = and_parts (not (b == 0x2F)) (list_all (λ b. not (b == 0x2F)) text) all in
    let other : (b == 0x2F) ≡ false = is_false (b == 0x2F) both.0 in
    let no_slash : one_slash b ≡ 0 = cond-false (b == 0x2F) 1 0 other in
    let rest = none text both.1 in
    omega (arith, no_slash, rest)
  where
    is_false : (t : Bool) → not t ≡ true → t ≡ false
    is_false true bad = absurd (cc)
    is_false false good = refl

open_written : (test : ℕ → Bool) → ((b : ℕ) → test b ≡ true → not (b == 0x2F) ≡ true) → (b : ℕ) → slashes (written test b) ≡ 0
open_written test follows b = none (written test b)
    (written_all is_unreserved (λ c. not (c == 0x2F)) (λ c is. unlike is_unreserved 0x2F c refl is)
    (λ c is. unlike is_unreserved 0x2F c refl is) (λ c is. unlike is_escape_byte 0x2F c refl is) test follows b)

slashes_written : (b : ℕ) → slashes (written stays_in_path b) ≡ one_slash b
unfolding slashes
slashes_written b = ⊎_elim
    (λ (stays : stays_in_path b ≡ true).
    let one : slashes (b ∷ []) ≡ one_slash b = omega arith in
    ap slashes (cond-true _ _ _ stays) ∙ one)
    (λ (goes : stays_in_path b ≡ false).
    let other : (b == 0x2F) ≡ false = is_not stays_in_path 0x2F slash_stays.0 b goes in
    let same : written stays_in_path b ≡ written (λ _. false) b = cond-false _ _ _ goes in
    ap slashes same ∙ open_written (λ _. false) (λ c bad. absurd (cc)) b ∙ sym (cond-false (b == 0x2F) 1 0 other))
    (cases_Bool (stays_in_path b))

digit_other : (b : ℕ) → is_digit b 16 ≡ true → one_slash b ≡ 0
digit_other b is = cond-false (b == 0x2F) 1 0 (no (b == 0x2F) (unlike (λ n. is_digit n 16) 0x2F b refl is))
  where
    no : (t : Bool) → not t ≡ true → t ≡ false
    no true bad = absurd (cc)
    no false good = refl

slashes_kept : (text : List ℕ) → slashes (normalised stays_in_path text) ≡ slashes text
unfolding normalised slashes
slashes_kept [] = refl
slashes_kept (b ∷ []) = let one = slashes_written b in omega (arith, one)
slashes_kept (b ∷ c ∷ []) =
    let one = slashes_written b in
    let two = slashes_written c in
    slashes-append (written stays_in_path b) (written stays_in_path c) ∙ omega (arith, one, two)
slashes_kept (b ∷ high ∷ low ∷ rest) = ⊎_elim
    (λ (yes : is_escape b high low ≡ true).
    let digits = and_parts _ _ yes in
    let first = and_parts _ _ digits.0 in
    let more = slashes_kept rest in
    let zero : one_slash b ≡ 0 = ap (λ (n : ℕ). one_slash n) (eqb-true b 37 first.0) in
    let h = digit_other high first.1 in
    let l = digit_other low digits.1 in
    let own : slashes (written is_unreserved (value_of_escape high low)) ≡ 0 =
    open_written is_unreserved (λ c is. unlike is_unreserved 0x2F c refl is) (value_of_escape high low) in
    let all : slashes (b ∷ high ∷ low ∷ rest) ≡ slashes rest = omega (arith, zero, h, l) in
    let sum : slashes (written is_unreserved (value_of_escape high low)) + slashes (normalised stays_in_path rest) ≡ slashes rest = omega (arith, own, more) in
    ap slashes (cond-true _ _ _ yes) ∙ slashes-append (written is_unreserved (value_of_escape high low)) (normalised stays_in_path rest) ∙ sum ∙ sym all)
    (λ (fails : is_escape b high low ≡ false).
    let more = slashes_kept (high ∷ low ∷ rest) in
    ap slashes (cond-false _ _ _ fails) ∙ slashes-append (written stays_in_path b) (normalised stays_in_path (high ∷ low ∷ rest))
    ∙ ap (λ (n : ℕ). n + slashes (normalised stays_in_path (high ∷ low ∷ rest))) (slashes_written b)
    ∙ ap (λ (n : ℕ). one_slash b + n) more)
    (cases_Bool (is_escape b high low))

-- ---- a text is cut at its slash by how many slashes are in front

cut_alike : (xs xs' ys ys' : List ℕ) → slashes xs ≡ slashes xs' → xs ++ (0x2F ∷ ys) ≡ xs' ++ (0x2F ∷ ys') → (xs ≡ xs') × (ys ≡ ys')
unfolding slashes
cut_alike [] [] ys ys' count same = (refl, cc)
cut_alike [] (b ∷ xs') ys ys' count same =
    let first : 0x2F ≡ b = cc in
    let bad : 0 ≡ 1 + slashes xs' = count ∙ ap (λ (n : ℕ). one_slash n + slashes xs') (sym first) in
    absurd (omega (arith, bad))
cut_alike (b ∷ xs) [] ys ys' count same =
    let first : b ≡ 0x2F = cc in
    let bad : 1 + slashes xs ≡ 0 = sym (ap (λ (n : ℕ). one_slash n + slashes xs) first) ∙ count in
    absurd (omega (arith, bad))
cut_alike (b ∷ xs) (b' ∷ xs') ys ys' count same =
    let first : b ≡ b' = cc in
    let rest : xs ++ (0x2F ∷ ys) ≡ xs' ++ (0x2F ∷ ys') = cc in
    let even : one_slash b ≡ one_slash b' = ap (λ (n : ℕ). one_slash n) first in
    let fewer : slashes xs ≡ slashes xs' = omega (arith, count, even) in
    let more = cut_alike xs xs' ys ys' fewer rest in
    (ap (λ (n : ℕ). n ∷ xs) first ∙ ap (λ t. b' ∷ t) more.0, more.1)

pub parted : (front behind : List ℕ) → IsNormalPath (front ++ (0x2F ∷ behind)) → IsNormalPath front × IsNormalPath behind
parted front behind same =
    cut_alike (normalised stays_in_path front) front (normalised stays_in_path behind) behind (slashes_kept front) (sym (over_slash front behind) ∙ same)
