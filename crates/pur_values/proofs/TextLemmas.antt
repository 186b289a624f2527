-- Texts that are changed and put together, as characters.
use Rattle.std.proofs.Common.{◌≡◌, ℕ, ◌<◌, ◌≤◌, List, [], ◌∷◌, ◌++◌, refl, sym, ap, ◌∙◌, arith, true, false, append_assoc, IsUtf8}
use Rattle.std.specs.Str.{chars}
use Rattle.std.proofs.lemmas.Bool.Decides.{nat_tests}
use Rattle.std.proofs.lemmas.Bool.{cond-true, cond-false, eqb-true}
use Rattle.std.proofs.lemmas.List.{nil_from_length}
use Rattle.std.proofs.lemmas.Str.{chars-append}
use Rattle.pur_laws.proofs.Cases.{ChangesAscii}
use Rattle.pur_laws.proofs.Texts.{chars_past}
use Rattle.pur_values.specs.Numbers.{is_empty}
use Rattle.pur_values.specs.Private.Seen.{put}
use Rattle.pur_values.specs.Values.{spaced}

spaced_ascii : (c : ℕ) → c < 128 → spaced c < 128
spaced_ascii c low = grind (arith, nat_tests)

spaced_other : (c : ℕ) → 128 ≤ c → spaced c ≡ c
spaced_other c high = grind (arith, nat_tests)

pub spaced_changes : ChangesAscii spaced
spaced_changes = record { ascii = spaced_ascii; other = spaced_other }

-- ---- tokens that are written

-- the first
pub first_written : (written token now : List ℕ) → IsUtf8 written → is_empty (chars written) ≡ true → now ≡ written ++ token → chars now ≡ put (chars written) (chars token)
first_written written token now utf8 empty is =
    ap chars is ∙ chars-append written token utf8 ∙ ap (λ t. t ++ chars token) (nil_from_length (chars written) (eqb-true _ _ empty)) ∙ sym (cond-true _ _ _ empty)

-- and each behind it
pub next_written : (written token now : List ℕ) → IsUtf8 written → is_empty (chars written) ≡ false → now ≡ (written ++ 0x20 ∷ []) ++ token
    → chars now ≡ put (chars written) (chars token)
next_written written token now utf8 some is =
    ap chars (is ∙ append_assoc written (0x20 ∷ []) token) ∙ chars-append written (0x20 ∷ token) utf8
    ∙ ap (λ t. chars written ++ t) (chars_past (0x20 ∷ []) token refl) ∙ sym (cond-false _ _ _ some)
