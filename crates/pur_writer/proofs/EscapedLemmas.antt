-- The escapes of a text, byte by byte and character by character.
use Rattle.std.proofs.Common.{◌≡◌, ℕ, ◌<◌, Bool, true, false, List, [], ◌∷◌, ◌++◌, get_or, codes, encode_utf8, encode_utf8_all, refl, sym, ap, subst, ◌∙◌, arith, append-nil, append_assoc}
use Rattle.std.specs.Prelude.{◌==◌, ◌||◌, not, if◌then◌else◌}
use Rattle.std.specs.List.{list_all}
use Rattle.std.proofs.lemmas.Bool.{and_parts, eqb-true}
use Rattle.std.proofs.lemmas.Bool.Decides.{nat_tests}
use Rattle.std.proofs.Math.Utf8.{encode}
use Rattle.std.proofs.lemmas.Grind.{flat_map-append}
use Rattle.std.proofs.lemmas.Str.{encodes-append, inside_one}
use Rattle.pur_laws.proofs.Places.{none_at_all}
use Rattle.pur_text.specs.Escapes.{escape, escaped}
use Rattle.pur_writer.specs.Private.Bytes.{is_special, is_plain}

pub escaped-append : (xs ys : List ℕ) → escaped (xs ++ ys) ≡ escaped xs ++ escaped ys
unfolding escaped
escaped-append xs ys = flat_map-append escape xs ys

-- a plain byte stands for itself
escape_plain : (b : ℕ) → is_plain b ≡ true → escape b ≡ b ∷ []
escape_plain b = go (b == 0x26) (b == 0x3C) (b == 0x3E)
  where
    go : (a l g : Bool) → not (a || l || g) ≡ true → (if a then codes "&amp;" else (if l then codes "&lt;" else (if g then codes "&gt;" else b ∷ []))) ≡ b ∷ []
    go true l g h = absurd (cc)
    go false true g h = absurd (cc)
    go false false true h = absurd (cc)
    go false false false h = refl

-- so does a run of them
pub escaped_run : (run : List ℕ) → list_all is_plain run ≡ true → escaped run ≡ run
unfolding escaped
escaped_run [] all = refl
escaped_run (b ∷ run) all =
    let parts = and_parts (is_plain b) (list_all is_plain run) all in
    rw (escape_plain b parts.0) (ap (λ l. b ∷ l) (escaped_run run parts.1))

-- a run, a special byte, and what stands behind them
pub escaped_cut : (run behind : List ℕ) (special : ℕ) → list_all is_plain run ≡ true → escaped (run ++ special ∷ behind) ≡ run ++ (escape special ++ escaped behind)
unfolding escaped
escaped_cut run behind special all =
    escaped-append run (special ∷ behind) ∙ ap (λ l. l ++ (escape special ++ escaped behind)) (escaped_run run all)

-- the bytes of a character that is written as itself
plain_bytes : (c : ℕ) → is_special c ≡ false → list_all is_plain (encode_utf8 c) ≡ true
plain_bytes c other =
    none_at_all is_special (encode_utf8 c) (λ k low high yes.
    let same = inside_one c [] (encode_utf8 c) k (sym (append-nil (encode_utf8 c))) high (is_low (get_or (encode_utf8 c) k 0) yes) in
    let special : is_special c ≡ true = ap is_special same ∙ yes in
    absurd (cc))
  where
    is_low : (b : ℕ) → is_special b ≡ true → b < 128
    is_low b special = grind (arith, nat_tests)

-- each special character is one byte
encode-ampersand : encode_utf8_all (escape 0x26) ≡ escaped (encode_utf8 0x26)
unfolding encode escaped
encode-ampersand = refl

encode-less : encode_utf8_all (escape 0x3C) ≡ escaped (encode_utf8 0x3C)
unfolding encode escaped
encode-less = refl

encode-greater : encode_utf8_all (escape 0x3E) ≡ escaped (encode_utf8 0x3E)
unfolding encode escaped
encode-greater = refl

-- the UTF-8 of an escape
pub encode-escape : (c : ℕ) → encode_utf8_all (escape c) ≡ escaped (encode_utf8 c)
encode-escape c = go (c == 0x26) refl (c == 0x3C) refl (c == 0x3E) refl
  where
    go : (a : Bool) → (c == 0x26) ≡ a → (l : Bool) → (c == 0x3C) ≡ l → (g : Bool) → (c == 0x3E) ≡ g → encode_utf8_all (escape c) ≡ escaped (encode_utf8 c)
    go true p l q g r = subst (λ x. encode_utf8_all (escape x) ≡ escaped (encode_utf8 x)) (sym (eqb-true c 0x26 p)) encode-ampersand
    go false p true q g r = subst (λ x. encode_utf8_all (escape x) ≡ escaped (encode_utf8 x)) (sym (eqb-true c 0x3C q)) encode-less
    go false p false q true r = subst (λ x. encode_utf8_all (escape x) ≡ escaped (encode_utf8 x)) (sym (eqb-true c 0x3E r)) encode-greater
    go false p false q false r =
        let other : is_special c ≡ false = rw (p, q, r) refl in
        ap encode_utf8_all (escape_plain c (ap not other))
        ∙ append-nil (encode_utf8 c)
        ∙ sym (escaped_run (encode_utf8 c) (plain_bytes c other))

-- the UTF-8 of a text with escapes is its UTF-8 with escapes
pub encode-escaped : (text : List ℕ) → encode_utf8_all (escaped text) ≡ escaped (encode_utf8_all text)
unfolding escaped
encode-escaped [] = refl
encode-escaped (c ∷ text) =
    encodes-append (escape c) (escaped text)
    ∙ ap (λ l. l ++ encode_utf8_all (escaped text)) (encode-escape c)
    ∙ ap (λ l. escaped (encode_utf8 c) ++ l) (encode-escaped text)
    ∙ sym (escaped-append (encode_utf8 c) (encode_utf8_all text))

-- a run and the reference behind it are written where their bytes are
pub run_written : (o a b run reference behind rest whole : List ℕ) (special : ℕ) → a ≡ o ++ run → b ≡ a ++ reference → reference ≡ escape special
    → rest ≡ run ++ special ∷ behind → list_all is_plain run ≡ true → o ++ escaped rest ≡ whole → b ++ escaped behind ≡ whole
run_written o a b run reference behind rest whole special p q r s all before =
    ap (λ x. x ++ escaped behind) (q ∙ ap (λ x. x ++ reference) p ∙ ap (λ x. (o ++ run) ++ x) r)
    ∙ regroup o run (escape special) (escaped behind)
    ∙ ap (λ x. o ++ x) (sym (ap escaped s ∙ escaped_cut run behind special all))
    ∙ before
  where
    regroup : (o u e v : List ℕ) → ((o ++ u) ++ e) ++ v ≡ o ++ (u ++ (e ++ v))
    regroup o u e v = simp append_assoc
