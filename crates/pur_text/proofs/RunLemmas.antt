-- A run of bytes that need no care is text of allowed characters.
use Rattle.std.proofs.Common.{◌≡◌, ◌⊎◌, ℕ, ◌+◌, ◌/◌, ◌<◌, ◌≤◌, Bool, true, List, [], ◌∷◌, length, take, Some, None, IsUtf8, encode_utf8_all, refl, sym, ap, subst, ◌∙◌, arith, ⊎_elim, inl, inr, take_all}
use Rattle.std.specs.Prelude.{not}
use Rattle.std.specs.Char.{encode_utf8}
use Rattle.std.specs.List.{list_all, position, position_or_len}
use Rattle.std.specs.Str.{chars, IsCharBoundary}
use Rattle.std.proofs.lemmas.Bool.{and_parts}
use Rattle.std.proofs.lemmas.Bool.Decides.{nat_tests}
use Rattle.std.proofs.lemmas.List.Sums.{passes_at_first}
use Rattle.std.proofs.lemmas.Str.{chars-encodes}
use lib.Utf8.{scalar, scalars, scalar_cases}
use Rattle.pur_laws.proofs.Lists.{all-parts, all-prefix}
use Rattle.pur_laws.proofs.Places.{position-found, position-missed}
use Rattle.pur_laws.proofs.Sequences.{by_length}
use Rattle.pur_text.specs.Characters.{is_allowed}
use Rattle.pur_text.specs.Private.Runs.{needs_care}

abbrev is_quiet : ℕ → Bool
is_quiet b = not (needs_care b)

one_byte : (c : ℕ) → c < 128 → is_quiet c ≡ true → is_allowed c ≡ true
one_byte c low is = grind (arith, nat_tests)

two_bytes : (c : ℕ) → 128 ≤ c → c < 2048 → is_quiet (192 + c / 64) ≡ true → is_allowed c ≡ true
two_bytes c low high is =
    let other : 160 ≤ c = grind (arith, nat_tests) in
    grind (arith, nat_tests)

three_bytes : (c : ℕ) → 2048 ≤ c → c < 65536 → (c < 55296) ⊎ (57344 ≤ c) → is_quiet (224 + c / 4096) ≡ true → is_allowed c ≡ true
three_bytes c low high apart is =
    let other : c < 61440 = grind (arith, nat_tests) in
    grind (arith, nat_tests)

four_bytes : (c : ℕ) → 65536 ≤ c → c < 1114112 → is_allowed c ≡ true
four_bytes c low high = grind (arith, nat_tests)

-- a character none of whose bytes needs care
quiet_allowed : (c : ℕ) → scalar c ≡ true → list_all is_quiet (encode_utf8 c) ≡ true → is_allowed c ≡ true
quiet_allowed c is =
    let range = scalar_cases c is in
    by_length (λ bytes. list_all is_quiet bytes ≡ true → is_allowed c ≡ true) c
    (λ low all. one_byte c low (and_parts _ _ all).0)
    (λ from low all. two_bytes c from low (and_parts _ _ all).0)
    (λ from low all. three_bytes c from low (⊎_elim (λ below. inl below) (λ above. inr above.0) range) (and_parts _ _ all).0)
    (λ from all. four_bytes c from (⊎_elim (λ below. omega arith) (λ above. above.1) range))

quiet_allowed_all : (cs : List ℕ) → scalars cs ≡ true → list_all is_quiet (encode_utf8_all cs) ≡ true → list_all is_allowed cs ≡ true
quiet_allowed_all [] is all = refl
quiet_allowed_all (c ∷ cs) is all =
    let both = and_parts _ _ is in
    let parts = all-parts is_quiet (encode_utf8 c) (encode_utf8_all cs) all in
    let first : is_allowed c ≡ true = quiet_allowed c both.0 parts.0 in
    let later : list_all is_allowed cs ≡ true = quiet_allowed_all cs both.1 parts.1 in
    rw first later

-- the characters of a run
pub run_allowed : (run : List ℕ) → IsUtf8 run → list_all is_quiet run ≡ true → list_all is_allowed (chars run) ≡ true
run_allowed run h all =
    let cs = h.0 in
    let here : cs ≡ chars run = sym (chars-encodes cs h.1.0) ∙ ap chars h.1.1 in
    subst (λ l. list_all is_allowed l ≡ true) here (quiet_allowed_all cs h.1.0 (ap (list_all is_quiet) h.1.1 ∙ all))

-- a byte that needs care begins a character
care_begins : (b : ℕ) → needs_care b ≡ true → 128 ≤ b → 192 ≤ b
care_begins b is high = grind (arith, nat_tests)

pub record EndsRun (text : List ℕ) (end : ℕ) : Type 0 where
  pub within : end < length text
  pub quiet : list_all is_quiet (take end text) ≡ true
  pub boundary : IsCharBoundary text end

run_ended_at : (text : List ℕ) → position_or_len needs_care text < length text → EndsRun text (position_or_len needs_care text)
run_ended_at text within = record {
  within = within;
  quiet = all-prefix is_quiet text;
  boundary = (omega arith, λ lt high. care_begins _ (passes_at_first needs_care text 0 within) high);
}

pub run_ended : (text : List ℕ) (end : ℕ) → Some end ≡ position needs_care text → EndsRun text end
run_ended text end is =
    let found = position-found needs_care text end is in
    subst (EndsRun text) found.0 (run_ended_at text (omega arith))

pub run_whole : (text : List ℕ) → None ≡ position needs_care text → list_all is_quiet text ≡ true
run_whole text is =
    subst (λ l. list_all is_quiet l ≡ true) (take_all (position_or_len needs_care text) text (position-missed needs_care text is)) (all-prefix is_quiet text)
