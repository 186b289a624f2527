-- White space at the ends of a text is the same as bytes and as characters.
use Rattle.std.proofs.Common.{◌≡◌, ℕ, zero, suc, ◌+◌, ◌-◌, ◌/◌, ◌%◌, ◌≤◌, true, false, List, [], ◌∷◌, ◌++◌, length, take, drop, IsUtf8, encode_utf8_all, refl, sym, ap, subst, ◌∙◌, arith, ⊎_elim, length-append, take_all, append-nil}
use Rattle.std.specs.Prelude.{reverse}
use Rattle.std.specs.Char.{encode_utf8}
use Rattle.std.specs.List.{prefix_len, suffix_len}
use Rattle.std.specs.Str.{chars, IsCharBoundary}
use Rattle.std.proofs.lemmas.Bool.{cases_Bool, cond-true, cond-false, and_parts, and_from}
use Rattle.std.proofs.lemmas.Bool.Decides.{nat_tests}
use Rattle.std.proofs.lemmas.List.{append_assoc, reverse-append, reverse-reverse, take-append-le}
use Rattle.std.proofs.lemmas.List.Sums.{prefix_len-le-length}
use Rattle.std.proofs.lemmas.Str.{chars-encodes, encodes-chars, scalars-chars, encodes-append, encode_ascii, IsCharBoundary-from_drop, IsCharBoundary-from_take}
use lib.Utf8.{scalars}
use Rattle.pur_laws.proofs.Sequences.{by_length}
use Rattle.pur_text.specs.Characters.{is_space}
use Rattle.pur_text.specs.Trimming.{without_leading_space, without_trailing_space}

-- ---- the first and the last byte of a character that isn't white space

record OtherBytes (bytes : List ℕ) : Type 0 where
  pub first : ℕ
  pub behind : List ℕ
  pub begins : bytes ≡ first ∷ behind
  pub first_other : is_space first ≡ false
  pub front : List ℕ
  pub last : ℕ
  pub ends : bytes ≡ front ++ last ∷ []
  pub last_other : is_space last ≡ false

wide_other : (b : ℕ) → 128 ≤ b → is_space b ≡ false
wide_other b wide = grind (arith, nat_tests)

other_bytes : (c : ℕ) → is_space c ≡ false → OtherBytes (encode_utf8 c)
other_bytes c other = by_length OtherBytes c
    (λ low. record { first = c; behind = []; begins = refl; first_other = other; front = []; last = c; ends = refl; last_other = other })
    (λ from low. record {
      first = 192 + c / 64;
      behind = (128 + c % 64) ∷ [];
      begins = refl;
      first_other = wide_other (192 + c / 64) (omega arith);
      front = (192 + c / 64) ∷ [];
      last = 128 + c % 64;
      ends = refl;
      last_other = wide_other (128 + c % 64) (omega arith);
    })
    (λ from low. record {
      first = 224 + c / 4096;
      behind = (128 + (c / 64) % 64) ∷ (128 + c % 64) ∷ [];
      begins = refl;
      first_other = wide_other (224 + c / 4096) (omega arith);
      front = (224 + c / 4096) ∷ (128 + (c / 64) % 64) ∷ [];
      last = 128 + c % 64;
      ends = refl;
      last_other = wide_other (128 + c % 64) (omega arith);
    })
    (λ from. record {
      first = 240 + c / 262144;
      behind = (128 + (c / 4096) % 64) ∷ (128 + (c / 64) % 64) ∷ (128 + c % 64) ∷ [];
      begins = refl;
      first_other = wide_other (240 + c / 262144) (omega arith);
      front = (240 + c / 262144) ∷ (128 + (c / 4096) % 64) ∷ (128 + (c / 64) % 64) ∷ [];
      last = 128 + c % 64;
      ends = refl;
      last_other = wide_other (128 + c % 64) (omega arith);
    })

space_byte : (c : ℕ) → is_space c ≡ true → encode_utf8 c ≡ c ∷ []
space_byte c space = encode_ascii c (grind (arith, nat_tests))

-- ---- one character at the front

leading_space_goes : (c : ℕ) (text : List ℕ) → is_space c ≡ true → without_leading_space (c ∷ text) ≡ without_leading_space text
leading_space_goes c text space =
    let n : prefix_len is_space (c ∷ text) ≡ suc (prefix_len is_space text) = cond-true _ _ _ space ∙ omega arith in
    ap (λ n. drop n (c ∷ text)) n

leading_other_stays : (c : ℕ) (text : List ℕ) → is_space c ≡ false → without_leading_space (c ∷ text) ≡ c ∷ text
leading_other_stays c text other =
    let n : prefix_len is_space (c ∷ text) ≡ 0 = cond-false _ _ _ other in
    ap (λ n. drop n (c ∷ text)) n

leading_same : (cs : List ℕ) → without_leading_space (encode_utf8_all cs) ≡ encode_utf8_all (without_leading_space cs)
leading_same [] = refl
leading_same (c ∷ cs) = ⊎_elim
    (λ (space : is_space c ≡ true).
    ap (λ l. without_leading_space (l ++ encode_utf8_all cs)) (space_byte c space)
    ∙ leading_space_goes c (encode_utf8_all cs) space ∙ leading_same cs
    ∙ ap encode_utf8_all (sym (leading_space_goes c cs space)))
    (λ (other : is_space c ≡ false).
    let bytes = other_bytes c other in
    let e = ap (λ l. l ++ encode_utf8_all cs) bytes.begins in
    ap without_leading_space e ∙ leading_other_stays bytes.first _ bytes.first_other ∙ sym e
    ∙ ap encode_utf8_all (sym (leading_other_stays c cs other)))
    (cases_Bool (is_space c))

-- ---- one character at the end

trailing_count : (text : List ℕ) (c : ℕ) → suffix_len is_space (text ++ c ∷ []) ≡ prefix_len is_space (c ∷ reverse text)
trailing_count text c = ap (prefix_len is_space) (reverse-append text (c ∷ []))

trailing_space_goes : (text : List ℕ) (c : ℕ) → is_space c ≡ true → without_trailing_space (text ++ c ∷ []) ≡ without_trailing_space text
trailing_space_goes text c space =
    let n : suffix_len is_space (text ++ c ∷ []) ≡ 1 + suffix_len is_space text = trailing_count text c ∙ cond-true _ _ _ space in
    let kept : length (text ++ c ∷ []) - suffix_len is_space (text ++ c ∷ []) ≡ length text - suffix_len is_space text =
    omega (arith, n, length-append text (c ∷ [])) in
    ap (λ n. take n (text ++ c ∷ [])) kept ∙ take-append-le _ text (c ∷ []) (omega arith)

trailing_other_stays : (text : List ℕ) (c : ℕ) → is_space c ≡ false → without_trailing_space (text ++ c ∷ []) ≡ text ++ c ∷ []
trailing_other_stays text c other =
    let n : suffix_len is_space (text ++ c ∷ []) ≡ 0 = trailing_count text c ∙ cond-false _ _ _ other in
    take_all _ (text ++ c ∷ []) (omega (arith, n))

trailing_same_behind : (cs : List ℕ) → without_trailing_space (encode_utf8_all (reverse cs)) ≡ encode_utf8_all (without_trailing_space (reverse cs))
trailing_same_behind [] = refl
trailing_same_behind (c ∷ cs) =
    let before = reverse cs in
    let here : reverse (c ∷ cs) ≡ before ++ c ∷ [] = reverse-append (c ∷ []) cs in
    let bytes : encode_utf8_all (before ++ c ∷ []) ≡ encode_utf8_all before ++ encode_utf8 c =
    encodes-append before (c ∷ []) ∙ ap (λ l. encode_utf8_all before ++ l) (append-nil (encode_utf8 c)) in
    subst (λ l. without_trailing_space (encode_utf8_all l) ≡ encode_utf8_all (without_trailing_space l)) (sym here)
    (⊎_elim
    (λ (space : is_space c ≡ true).
    ap without_trailing_space (bytes ∙ ap (λ l. encode_utf8_all before ++ l) (space_byte c space))
    ∙ trailing_space_goes (encode_utf8_all before) c space ∙ trailing_same_behind cs
    ∙ ap encode_utf8_all (sym (trailing_space_goes before c space)))
    (λ (other : is_space c ≡ false).
    let byte = other_bytes c other in
    let e = bytes ∙ ap (λ l. encode_utf8_all before ++ l) byte.ends ∙ sym (append_assoc (encode_utf8_all before) byte.front (byte.last ∷ [])) in
    ap without_trailing_space e ∙ trailing_other_stays _ byte.last byte.last_other ∙ sym e
    ∙ ap encode_utf8_all (sym (trailing_other_stays before c other)))
    (cases_Bool (is_space c)))

trailing_same : (cs : List ℕ) → without_trailing_space (encode_utf8_all cs) ≡ encode_utf8_all (without_trailing_space cs)
trailing_same cs = subst (λ l. without_trailing_space (encode_utf8_all l) ≡ encode_utf8_all (without_trailing_space l)) (reverse-reverse cs) (trailing_same_behind (reverse cs))

-- ---- a part of a text's characters

scalars_drop : (n : ℕ) (cs : List ℕ) → scalars cs ≡ true → scalars (drop n cs) ≡ true
scalars_drop zero [] is = refl
scalars_drop (suc n) [] is = refl
scalars_drop zero (c ∷ cs) is = is
scalars_drop (suc n) (c ∷ cs) is = scalars_drop n cs (and_parts _ _ is).1

scalars_take : (n : ℕ) (cs : List ℕ) → scalars cs ≡ true → scalars (take n cs) ≡ true
scalars_take zero [] is = refl
scalars_take (suc n) [] is = refl
scalars_take zero (c ∷ cs) is = refl
scalars_take (suc n) (c ∷ cs) is = and_from _ _ (and_parts _ _ is).0 (scalars_take n cs (and_parts _ _ is).1)

-- a part of a text, as bytes and as characters
pub record IsPart (bytes cs : List ℕ) : Type 0 where
  pub text : IsUtf8 bytes
  pub characters : chars bytes ≡ cs

part : (bytes cs : List ℕ) → bytes ≡ encode_utf8_all cs → scalars cs ≡ true → IsPart bytes cs
part bytes cs e is = record {
  text = (cs, (is, sym e));
  characters = ap chars e ∙ chars-encodes cs is;
}

-- ---- the text without white space at one end

pub leading_part : (text : List ℕ) → IsUtf8 text → IsPart (without_leading_space text) (without_leading_space (chars text))
leading_part text is =
    let cs = chars text in
    part _ _ (ap without_leading_space (sym (encodes-chars text is)) ∙ leading_same cs) (scalars_drop _ cs (scalars-chars text is))

pub leading_boundary : (text : List ℕ) → IsUtf8 text → IsCharBoundary text (prefix_len is_space text)
leading_boundary text is = IsCharBoundary-from_drop text _ (prefix_len-le-length is_space text) (leading_part text is).text

pub trailing_part : (text : List ℕ) → IsUtf8 text → IsPart (without_trailing_space text) (without_trailing_space (chars text))
trailing_part text is =
    let cs = chars text in
    part _ _ (ap without_trailing_space (sym (encodes-chars text is)) ∙ trailing_same cs) (scalars_take _ cs (scalars-chars text is))

pub trailing_boundary : (text : List ℕ) → IsUtf8 text → IsCharBoundary text (length text - suffix_len is_space text)
trailing_boundary text is = IsCharBoundary-from_take text _ is (omega arith) (trailing_part text is).text
