-- A text cut behind its first run, as bytes and as characters.
use Rattle.std.proofs.Common.{◌≡◌, ℕ, ◌+◌, ◌<◌, ◌≤◌, Bool, true, false, not, List, [], ◌∷◌, ◌++◌, length, get_or, take, drop, refl, sym, ap, subst, ◌∙◌, arith, ⊎_elim, IsUtf8, encode_utf8_all, take-append-drop}
use Rattle.std.specs.Char.{encode_utf8}
use Rattle.std.specs.List.{list_all, prefix_len}
use Rattle.std.specs.Str.{chars, IsCharBoundary}
use Rattle.std.proofs.lemmas.Bool.{cases_lt, cond-true}
use Rattle.std.proofs.lemmas.Bool.Decides.{nat_tests}
use Rattle.std.proofs.lemmas.List.Sums.{prefix_len-le-length, prefix_len_stops}
use Rattle.std.proofs.lemmas.Str.{chars-nil, chars-append, encodes-chars, encode_ascii}
use Rattle.pur_laws.proofs.Ends.{front_boundary, front_gone}
use Rattle.pur_laws.proofs.Lists.{all-prefix, all-weaker}
use Rattle.pur_laws.proofs.Sequences.{high_bytes, some_bytes}
use Rattle.pur_laws.proofs.Texts.{is_ascii, chars_ascii, text_passes}
use Rattle.pur_inject.specs.Private.Cutting.{is_over, says}

own-says : (test : ℕ → Bool) (c : ℕ) → says test (test c) c ≡ true
own-says test c = go (test c) refl where
  go : (b : Bool) → test c ≡ b → says test b c ≡ true
  go true e = e
  go false e = ap not e

not_ascii : (c : ℕ) → is_ascii c ≡ true → 128 ≤ c → ⊥
not_ascii c low high = grind (arith, nat_tests)

-- a test that only ASCII characters pass
module _ (test : ℕ → Bool) (low : (c : ℕ) → test c ≡ true → is_ascii c ≡ true) where
  wide : (c : ℕ) → 128 ≤ c → test c ≡ false
  wide c high = go (test c) refl where
    go : (b : Bool) → test c ≡ b → test c ≡ false
    go true e = absurd (not_ascii c (low c e) high)
    go false e = e

  wide_not : (c : ℕ) → 128 ≤ c → not (test c) ≡ true
  wide_not c high = ap not (wide c high)

  -- a text may be cut behind its first run
  pub run-boundary : (is : Bool) (text : List ℕ) → IsUtf8 text → IsCharBoundary text (prefix_len (says test is) text)
  run-boundary true text utf8 = front_boundary test low text utf8
  run-boundary false text utf8 =
      let n = prefix_len (λ c. not (test c)) text in (
        prefix_len-le-length (λ c. not (test c)) text,
        λ (within : n < length text) (high : 128 ≤ get_or text n 0).
            let stops : not (test (get_or text n 0)) ≡ false = prefix_len_stops (λ c. not (test c)) text 0 within in
            let quiet : not (test (get_or text n 0)) ≡ true = wide_not (get_or text n 0) high in
            absurd (cc),
      )

  -- the first byte of a text is told what its first character is
  record First (b : ℕ) (cs : List ℕ) : Type 0 where
    char : ℕ
    behind : List ℕ
    is : cs ≡ char ∷ behind
    same : test char ≡ test b

  first-char : (b : ℕ) (bytes : List ℕ) → IsUtf8 (b ∷ bytes) → First b (chars (b ∷ bytes))
  first-char b bytes utf8 = go (chars (b ∷ bytes)) (encodes-chars (b ∷ bytes) utf8) where
    go : (cs : List ℕ) → encode_utf8_all cs ≡ b ∷ bytes → First b cs
    go [] e = absurd (cc)
    go (d ∷ cs) e = record {
      char = d;
      behind = cs;
      is = refl;
      same = ⊎_elim
          (λ (small : d < 128).
          let front : d ∷ encode_utf8_all cs ≡ b ∷ bytes = ap (λ t. t ++ encode_utf8_all cs) (sym (encode_ascii d small)) ∙ e in
          let same : d ≡ b = cc in
          ap test same)
          (λ (high : 128 ≤ d).
          let first : 128 ≤ b = high-first (encode_utf8 d) (some_bytes d) (high_bytes d high 0 (some_bytes d)) e in
          wide d high ∙ sym (wide b first))
          (cases_lt d 128);
    }
      where
        high-first : (bs : List ℕ) → 0 < length bs → 128 ≤ get_or bs 0 0 → bs ++ encode_utf8_all cs ≡ b ∷ bytes → 128 ≤ b
        high-first [] some high e = absurd (omega arith)
        high-first (x ∷ bs) some high e = let same : x ≡ b = cc in subst (λ y. 128 ≤ y) same high

  stops-first : (is : Bool) (behind : List ℕ) → IsUtf8 behind → prefix_len (says test is) behind ≡ 0 → is_over test is (chars behind) ≡ true
  stops-first is [] utf8 none = ap (is_over test is) chars-nil
  stops-first is (b ∷ behind) utf8 none =
      let first = first-char b behind utf8 in
      let fails : says test is b ≡ false = go (says test is b) refl none in
      ap (is_over test is) first.is ∙ ap not (says-same is first.char b first.same fails)
    where
      go : (p : Bool) → says test is b ≡ p → prefix_len (says test is) (b ∷ behind) ≡ 0 → says test is b ≡ false
      go false e none = e
      go true e none = absurd (omega (arith, cond-true (says test is b) (1 + prefix_len (says test is) behind) 0 e, none))

      says-same : (is : Bool) (c d : ℕ) → test c ≡ test d → says test is d ≡ false → says test is c ≡ false
      says-same true c d same h = same ∙ h
      says-same false c d same h = ap not same ∙ h

  pub record IsCut (is : Bool) (text run behind : List ℕ) : Type 0 where
    pub whole : chars text ≡ chars run ++ chars behind
    pub said : list_all (says test is) (chars run) ≡ true
    pub over : is_over test is (chars behind) ≡ true
    pub ascii : is ≡ true → chars run ≡ run

  said-chars : (is : Bool) (run : List ℕ) → IsUtf8 run → list_all (says test is) run ≡ true → list_all (says test is) (chars run) ≡ true
  said-chars true run utf8 all = ap (list_all test) (chars_ascii run (all-weaker test is_ascii low run all)) ∙ all
  said-chars false run utf8 all = text_passes (λ c. not (test c)) wide_not run utf8 all

  ascii-chars : (is : Bool) (run : List ℕ) → list_all (says test is) run ≡ true → is ≡ true → chars run ≡ run
  ascii-chars true run all e = chars_ascii run (all-weaker test is_ascii low run all)
  ascii-chars false run all e = absurd (cc)

  pub first-counts : (text : List ℕ) (first : ℕ) (is : Bool) → 0 < length text → get_or text 0 first ≡ first → is ≡ test first → 0 < prefix_len (says test is) text
  first-counts [] first is some at e = absurd (omega arith)
  first-counts (b ∷ text) first is some at e =
      let own : says test is b ≡ true = ap (λ c. says test is c) at ∙ ap (λ i. says test i first) e ∙ own-says test first in
      omega (arith, cond-true (says test is b) (1 + prefix_len (says test is) text) 0 own)

  pub cut-is : (text run behind : List ℕ) (is : Bool) → IsUtf8 run → IsUtf8 behind
      → run ≡ take (prefix_len (says test is) text) text → behind ≡ drop (prefix_len (says test is) text) text → IsCut is text run behind
  cut-is text run behind is utf8_run utf8_behind run_is behind_is =
      let n = prefix_len (says test is) text in
      let all : list_all (says test is) run ≡ true = ap (list_all (says test is)) run_is ∙ all-prefix (says test is) text in
      let whole : text ≡ run ++ behind = sym (take-append-drop n text) ∙ ap (λ t. t ++ drop n text) (sym run_is) ∙ ap (λ t. run ++ t) (sym behind_is) in
      record {
        whole = ap chars whole ∙ chars-append run behind utf8_run;
        said = said-chars is run utf8_run all;
        over = stops-first is behind utf8_behind (ap (prefix_len (says test is)) behind_is ∙ front_gone (says test is) text);
        ascii = ascii-chars is run all;
      }
