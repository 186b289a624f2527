-- A host, and what is behind its dots.
use Rattle.std.proofs.Common.{◌≡◌, ℕ, suc, ◌-◌, ◌<◌, ◌≤◌, Bool, true, false, List, [], ◌∷◌, length, get_or, take, drop, refl, sym, ap, ◌∙◌, arith, ⊎_elim}
use Rattle.std.specs.Prelude.{◌==◌, ◌&&◌, ◌||◌, nat_eq}
use Rattle.std.specs.Cmp.Lexicographic.{pointwise, nat_list_eq_equiv, unequal}
use Rattle.std.specs.List.{list_any, ends_with}
use Rattle.std.specs.Str.{bytes_eq}
use Rattle.std.proofs.lemmas.Bool.{cases_lt}
use Rattle.std.proofs.lemmas.List.{drop_all, take_all}
use Rattle.pur_laws.proofs.Truth.{and_false, or_false}
use Rattle.pur_uripolicy.specs.HostRules.{is_under}

-- what is behind one of the dots passes the test
abbrev pub any_behind_dot : (List ℕ → Bool) → List ℕ → Bool
any_behind_dot test [] = false
any_behind_dot test (b ∷ text) = (b == 0x2E && test text) || any_behind_dot test text

-- ---- truth values

four : (a b c d : Bool) → ((a || b) || (c || d)) ≡ ((a || c) || (b || d))
four true b c d = refl
four false true true d = refl
four false true false d = refl
four false false c d = refl

any-or : {X : Type 0} (one two : X → Bool) (xs : List X) → list_any (λ x. one x || two x) xs ≡ (list_any one xs || list_any two xs)
any-or one two [] = refl
any-or one two (x ∷ xs) = ap (λ b. (one x || two x) || b) (any-or one two xs) ∙ four (one x) (two x) (list_any one xs) (list_any two xs)

any-never : {X : Type 0} (xs : List X) → list_any (λ x. false) xs ≡ false
any-never [] = refl
any-never (x ∷ xs) = any-never xs

any-and : {X : Type 0} (b : Bool) (test : X → Bool) (xs : List X) → list_any (λ x. b && test x) xs ≡ (b && list_any test xs)
any-and true test xs = refl
any-and false test xs = any-never xs

-- ---- one domain

too_short : (text domain : List ℕ) → length text < length domain → bytes_eq text domain ≡ false
too_short text domain less = unequal nat_eq text domain (λ same. omega (arith, less, same))

-- no end of a text is longer than the text
none_behind : (text domain : List ℕ) → length text ≤ length domain → any_behind_dot (λ t. bytes_eq t domain) text ≡ false
none_behind [] domain short = refl
none_behind (b ∷ text) domain short =
    ap (λ x. (b == 0x2E && x) || any_behind_dot (λ t. bytes_eq t domain) text) (too_short text domain (omega arith))
    ∙ ap (λ x. x || any_behind_dot (λ t. bytes_eq t domain) text) (and_false (b == 0x2E)) ∙ none_behind text domain (omega arith)

-- to end in a dot and a domain is to have the domain behind a dot
ends_behind : (host domain : List ℕ) → ends_with nat_eq host (0x2E ∷ domain) ≡ any_behind_dot (λ t. bytes_eq t domain) host
ends_behind [] domain = ap (pointwise nat_eq (0x2E ∷ domain)) (drop_all (0 - length (0x2E ∷ domain)) [] (omega arith))
ends_behind (b ∷ text) domain =
    ⊎_elim
    (λ (longer : length domain < length text).
    let further : length (b ∷ text) - length (0x2E ∷ domain) ≡ suc (length text - length (0x2E ∷ domain)) = omega (arith, longer) in
    ap (λ n. pointwise nat_eq (0x2E ∷ domain) (drop n (b ∷ text))) further ∙ ends_behind text domain
    ∙ sym (ap (λ x. (b == 0x2E && x) || any_behind_dot (λ t. bytes_eq t domain) text) (differs longer)
    ∙ ap (λ x. x || any_behind_dot (λ t. bytes_eq t domain) text) (and_false (b == 0x2E))))
    (λ (short : length text ≤ length domain).
    let whole : length (b ∷ text) - length (0x2E ∷ domain) ≡ 0 = omega (arith, short) in
    ap (λ n. pointwise nat_eq (0x2E ∷ domain) (drop n (b ∷ text))) whole
    ∙ (λ i. nat_list_eq_equiv.symm (0x2E ∷ domain) (b ∷ text) i)
    ∙ sym (ap (λ x. (b == 0x2E && bytes_eq text domain) || x) (none_behind text domain short) ∙ or_false (b == 0x2E && bytes_eq text domain)))
    (cases_lt (length domain) (length text))
  where
    differs : length domain < length text → bytes_eq text domain ≡ false
    differs longer = unequal nat_eq text domain (λ same. omega (arith, longer, same))

-- ---- some domains

any_behind : (text : List ℕ) (domains : List (List ℕ)) → list_any (λ d. any_behind_dot (λ t. bytes_eq t d) text) domains
    ≡ any_behind_dot (λ t. list_any (bytes_eq t) domains) text
any_behind [] domains = any-never domains
any_behind (b ∷ text) domains =
    any-or (λ d. b == 0x2E && bytes_eq text d) (λ d. any_behind_dot (λ t. bytes_eq t d) text) domains
    ∙ (λ i. any-and (b == 0x2E) (bytes_eq text) domains i || any_behind text domains i)

-- a host is under a domain where it is one, or one is behind one of its dots
pub under_any : (host : List ℕ) (domains : List (List ℕ)) → list_any (is_under host) domains
    ≡ (list_any (bytes_eq host) domains || any_behind_dot (λ t. list_any (bytes_eq t) domains) host)
unfolding is_under
under_any host domains =
    (λ i. list_any (λ d. bytes_eq host d || ends_behind host d i) domains)
    ∙ any-or (bytes_eq host) (λ d. any_behind_dot (λ t. bytes_eq t d) host) domains
    ∙ ap (λ b. list_any (bytes_eq host) domains || b) (any_behind host domains)

-- ---- the walk over the dots

module _ (host : List ℕ) (domains : List (List ℕ)) where
  pub is_one : list_any (bytes_eq host) domains ≡ true → list_any (is_under host) domains ≡ true
  is_one one = under_any host domains ∙ ap (λ b. b || any_behind_dot (λ t. list_any (bytes_eq t) domains) host) one

  pub by_what_is_behind : list_any (bytes_eq host) domains ≡ false
      → list_any (is_under host) domains ≡ any_behind_dot (λ t. list_any (bytes_eq t) domains) host
  by_what_is_behind none = under_any host domains ∙ ap (λ b. b || any_behind_dot (λ t. list_any (bytes_eq t) domains) host) none

-- the rest of a text, behind its first byte
abbrev pub behind_first : List ℕ → List ℕ
behind_first text = take (length text - 1) (drop 1 text)

-- a first dot with what passes behind it
pub dot_first : (test : List ℕ → Bool) (text : List ℕ) → 1 ≤ length text → get_or text 0 0 ≡ 0x2E → test (behind_first text) ≡ true
    → any_behind_dot test text ≡ true
dot_first test [] some dot passes = absurd (omega (arith, some))
dot_first test (b ∷ text) some dot passes =
    let whole : behind_first (b ∷ text) ≡ text = take_all (length (b ∷ text) - 1) text (omega arith) in
    (λ i. (dot i == 0x2E && test (sym whole i)) || any_behind_dot test text) ∙ ap (λ x. x || any_behind_dot test text) passes

pub nothing_left : (test : List ℕ → Bool) (text : List ℕ) → length text < 1 → any_behind_dot test text ≡ false
nothing_left test [] short = refl
nothing_left test (b ∷ text) short = absurd (omega (arith, short))
