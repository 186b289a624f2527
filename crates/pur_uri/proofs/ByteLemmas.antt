-- The bytes of a text are numbers below 256.
use Rattle.std.proofs.Common.{◌≡◌, ℕ, ◌+◌, ◌-◌, ◌<◌, ◌≤◌, true, List, [], ◌∷◌, length, take, drop, filter, IsUtf8, encode_utf8, encode_utf8_all, refl, subst, arith, ⊎_elim}
use lib.Utf8.{scalar, scalars, scalar_cases}
use Rattle.std.specs.Prelude.{◌/◌, ◌%◌}
use Rattle.std.specs.List.{prefix_len, suffix_len}
use Rattle.std.proofs.lemmas.Bool.{and_parts, and_from, lt-ltb}
use Rattle.pur_laws.proofs.Lists.{all-append, all-take, all-drop, all-filter}
use Rattle.pur_laws.proofs.Sequences.{by_length}
use Rattle.pur_uri.specs.Splitting.{is_byte, are_bytes, is_kept, is_outer_space, without_leading_spaces, tidied}

below : (c : ℕ) → scalar c ≡ true → c < 1114112
below c is = ⊎_elim (λ (low : c < 55296). omega arith) (λ (high : (57344 ≤ c) × (c < 1114112)). high.1) (scalar_cases c is)

character_bytes : (c : ℕ) → scalar c ≡ true → are_bytes (encode_utf8 c) ≡ true
character_bytes c is =
    let most = below c is in
    by_length (λ bytes. are_bytes bytes ≡ true) c
    (λ (low : c < 128). and_from _ _ (lt-ltb c 256 (omega arith)) refl)
    (λ (from : 128 ≤ c) (low : c < 2048).
    and_from _ _ (lt-ltb (192 + c / 64) 256 (omega arith)) (and_from _ _ (lt-ltb (128 + c % 64) 256 (omega arith)) refl))
    (λ (from : 2048 ≤ c) (low : c < 65536).
    and_from _ _ (lt-ltb (224 + c / 4096) 256 (omega arith)) (and_from _ _ (lt-ltb (128 + (c / 64) % 64) 256 (omega arith))
    (and_from _ _ (lt-ltb (128 + c % 64) 256 (omega arith)) refl)))
    (λ (from : 65536 ≤ c).
    and_from _ _ (lt-ltb (240 + c / 262144) 256 (omega arith)) (and_from _ _ (lt-ltb (128 + (c / 4096) % 64) 256 (omega arith))
    (and_from _ _ (lt-ltb (128 + (c / 64) % 64) 256 (omega arith)) (and_from _ _ (lt-ltb (128 + c % 64) 256 (omega arith)) refl))))

characters_bytes : (cs : List ℕ) → scalars cs ≡ true → are_bytes (encode_utf8_all cs) ≡ true
characters_bytes [] all = refl
characters_bytes (c ∷ cs) all =
    let both = and_parts (scalar c) (scalars cs) all in
    all-append is_byte (encode_utf8 c) (encode_utf8_all cs) (character_bytes c both.0) (characters_bytes cs both.1)

pub text_bytes : (text : List ℕ) → IsUtf8 text → are_bytes text ≡ true
text_bytes text is = subst (λ t. are_bytes t ≡ true) is.1.1 (characters_bytes is.0 is.1.0)

pub bytes_take : (n : ℕ) (text : List ℕ) → are_bytes text ≡ true → are_bytes (take n text) ≡ true
bytes_take = all-take is_byte

pub bytes_drop : (n : ℕ) (text : List ℕ) → are_bytes text ≡ true → are_bytes (drop n text) ≡ true
bytes_drop = all-drop is_byte

pub tidied_bytes : (raw : List ℕ) → are_bytes raw ≡ true → are_bytes (tidied raw) ≡ true
unfolding tidied
tidied_bytes raw all =
    let front = without_leading_spaces (filter is_kept raw) in
    all-take is_byte (length front - suffix_len is_outer_space front) front
    (all-drop is_byte (prefix_len is_outer_space (filter is_kept raw)) (filter is_kept raw) (all-filter is_byte is_kept raw all))
