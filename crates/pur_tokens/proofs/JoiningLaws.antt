-- Laws of tokens in which neighbouring texts are one.
use Rattle.std.proofs.Common.{◌≡◌, ℕ, ◌+◌, true, false, ◌&&◌, not, List, [], ◌∷◌, ◌++◌, Option, refl, sym, ap, ◌∙◌, arith, append_assoc, append-nil, length-append}
use Rattle.std.proofs.lemmas.Bool.{and_from, and_parts, not-true, ltb-true, lt-ltb}
use Rattle.pur_tokens.specs.Joining.{join_token, joined, held_before, is_text, is_some_token, has_no_empty_text, begins_with_text, has_no_neighbours, count_in_token, count_in_text}
use Rattle.pur_attrlist.specs.Texts.{times}
use Rattle.pur_attrlist.proofs.TextLaws.{times-append}
use Rattle.pur_tokens.specs.Characters.{token_has_only}
use Rattle.pur_tokens.specs.Tokens.{PlainToken, shows_only, text_token, start_token, end_token, empty_token, hidden_token, comment_token}
use Rattle.pur_laws.proofs.Lists.{all-append}
use Rattle.std.specs.List.{list_all}
use Rattle.std.specs.Prelude.{Bool, length, nat_lt}

-- ---- a token that is no text stands alone

pub alone : (token : PlainToken) (tokens : List PlainToken) → is_text token ≡ false → join_token token tokens ≡ token ∷ tokens
alone (text_token s) tokens other = absurd (cc)
alone (start_token n a) tokens other = refl
alone (end_token n) tokens other = refl
alone (empty_token n a) tokens other = refl
alone (hidden_token n b) tokens other = refl
alone (comment_token t) tokens other = refl

-- and so does a text in front of tokens that don't begin with one
text_ends : (s : List ℕ) (tokens : List PlainToken) → begins_with_text tokens ≡ false → join_token (text_token s) tokens ≡ text_token s ∷ tokens
text_ends s [] other = refl
text_ends s (text_token t ∷ tokens) other = absurd (cc)
text_ends s (start_token n a ∷ tokens) other = refl
text_ends s (end_token n ∷ tokens) other = refl
text_ends s (empty_token n a ∷ tokens) other = refl
text_ends s (hidden_token n b ∷ tokens) other = refl
text_ends s (comment_token t ∷ tokens) other = refl

-- a token is a text, or none
by_text : (P : PlainToken → Type 0) → ((s : List ℕ) → P (text_token s)) → ((token : PlainToken) → is_text token ≡ false → P token) → (token : PlainToken) → P token
by_text P text other (text_token s) = text s
by_text P text other (start_token n a) = other (start_token n a) refl
by_text P text other (end_token n) = other (end_token n) refl
by_text P text other (empty_token n a) = other (empty_token n a) refl
by_text P text other (hidden_token n b) = other (hidden_token n b) refl
by_text P text other (comment_token t) = other (comment_token t) refl

pub ends : (before : PlainToken) (tokens : List PlainToken) → begins_with_text tokens ≡ false → join_token before tokens ≡ before ∷ tokens
ends before tokens other = by_text (λ b. join_token b tokens ≡ b ∷ tokens) (λ s. text_ends s tokens other) (λ b is. alone b tokens is) before

-- ---- joining one after the other

pub join_token-twice : (s t : List ℕ) (tokens : List PlainToken) → join_token (text_token (s ++ t)) tokens ≡ join_token (text_token s) (join_token (text_token t) tokens)
join_token-twice s t [] = refl
join_token-twice s t (text_token more ∷ tokens) = ap (λ (l : List ℕ). text_token l ∷ tokens) (append_assoc s t more)
join_token-twice s t (start_token n a ∷ tokens) = refl
join_token-twice s t (end_token n ∷ tokens) = refl
join_token-twice s t (empty_token n a ∷ tokens) = refl
join_token-twice s t (hidden_token n b ∷ tokens) = refl
join_token-twice s t (comment_token c ∷ tokens) = refl

-- a token that is joined and then others, and all of them
joined-join_token : (token : PlainToken) (x more : List PlainToken) → joined (join_token token x ++ more) ≡ join_token token (joined (x ++ more))
unfolding joined
joined-join_token token [] more = go token
  where
    go : (token : PlainToken) → joined (join_token token [] ++ more) ≡ join_token token (joined more)
    go (text_token s) = refl
    go (start_token n a) = refl
    go (end_token n) = refl
    go (empty_token n a) = refl
    go (hidden_token n b) = refl
    go (comment_token t) = refl
joined-join_token token (first ∷ x) more =
    by_text (λ t. joined (join_token t (first ∷ x) ++ more) ≡ join_token t (joined ((first ∷ x) ++ more)))
    (λ s. by_text (λ f. joined (join_token (text_token s) (f ∷ x) ++ more) ≡ join_token (text_token s) (join_token f (joined (x ++ more))))
    (λ t. join_token-twice s t (joined (x ++ more)))
    (λ f other. ap (λ (l : List PlainToken). joined (l ++ more)) (ends (text_token s) (f ∷ x) other)) first)
    (λ t other. ap (λ (l : List PlainToken). joined (l ++ more)) (alone t (first ∷ x) other)) token

pub joined-joined : (a b : List PlainToken) → joined (joined a ++ b) ≡ joined (a ++ b)
unfolding joined
joined-joined [] b = refl
joined-joined (token ∷ a) b = joined-join_token token (joined a) b ∙ ap (join_token token) (joined-joined a b)

pub joined-twice : (a : List PlainToken) → joined (joined a) ≡ joined a
joined-twice a = ap joined (sym (append-nil (joined a))) ∙ joined-joined a [] ∙ ap joined (append-nil a)

-- ---- what joining leaves

neighbours-join_token : (token : PlainToken) (tokens : List PlainToken) → has_no_neighbours tokens ≡ true → has_no_neighbours (join_token token tokens) ≡ true
neighbours-join_token token tokens none =
    by_text (λ t. has_no_neighbours (join_token t tokens) ≡ true) (λ s. text s tokens none)
    (λ t other. ap has_no_neighbours (alone t tokens other) ∙ ap (λ b. not (b && begins_with_text tokens) && has_no_neighbours tokens) other ∙ none) token
  where
    text : (s : List ℕ) (tokens : List PlainToken) → has_no_neighbours tokens ≡ true → has_no_neighbours (join_token (text_token s) tokens) ≡ true
    text s [] none = refl
    text s (text_token t ∷ tokens) none = none
    text s (start_token n a ∷ tokens) none = none
    text s (end_token n ∷ tokens) none = none
    text s (empty_token n a ∷ tokens) none = none
    text s (hidden_token n b ∷ tokens) none = none
    text s (comment_token t ∷ tokens) none = none

-- no texts are neighbours
pub neighbours-joined : (tokens : List PlainToken) → has_no_neighbours (joined tokens) ≡ true
unfolding joined
neighbours-joined [] = refl
neighbours-joined (token ∷ tokens) = neighbours-join_token token (joined tokens) (neighbours-joined tokens)

-- what all tokens pass, where one text of two that pass passes too
module _ (test : PlainToken → Bool)
    (joins : (s t : List ℕ) → test (text_token s) ≡ true → test (text_token t) ≡ true → test (text_token (s ++ t)) ≡ true) where
  all-join_token : (token : PlainToken) (tokens : List PlainToken) → test token ≡ true → list_all test tokens ≡ true → list_all test (join_token token tokens) ≡ true
  all-join_token token tokens first all =
      by_text (λ t. test t ≡ true → list_all test (join_token t tokens) ≡ true) (λ s is. text s tokens is all)
      (λ t other is. ap (list_all test) (alone t tokens other) ∙ and_from _ _ is all) token first
    where
      text : (s : List ℕ) (tokens : List PlainToken) → test (text_token s) ≡ true → list_all test tokens ≡ true → list_all test (join_token (text_token s) tokens) ≡ true
      text s [] is all = and_from _ _ is refl
      text s (text_token t ∷ tokens) is all =
          let parts = and_parts (test (text_token t)) (list_all test tokens) all in
          and_from _ _ (joins s t is parts.0) parts.1
      text s (token ∷ tokens) is all = and_from _ _ is all

  pub all-joined : (tokens : List PlainToken) → list_all test tokens ≡ true → list_all test (joined tokens) ≡ true
  unfolding joined
  all-joined [] all = refl
  all-joined (token ∷ tokens) all =
      let parts = and_parts (test token) (list_all test tokens) all in
      all-join_token token (joined tokens) parts.0 (all-joined tokens parts.1)

longer : (s t : List ℕ) → nat_lt 0 (length s) ≡ true → nat_lt 0 (length (s ++ t)) ≡ true
longer s t some = lt-ltb _ _ (omega (arith, ltb-true _ _ some, length-append s t))

-- no text is empty where none was
pub some-joined : (tokens : List PlainToken) → has_no_empty_text tokens ≡ true → has_no_empty_text (joined tokens) ≡ true
some-joined = all-joined is_some_token (λ s t some _. longer s t some)

-- only texts and tags are there where only they were
pub shown-joined : (test : List ℕ → Bool) (tokens : List PlainToken) → list_all (shows_only test) tokens ≡ true → list_all (shows_only test) (joined tokens) ≡ true
shown-joined test = all-joined (shows_only test) (λ s t some _. longer s t some)

-- and there are no other characters than before
pub only-joined : (test : ℕ → Bool) (tokens : List PlainToken) → list_all (token_has_only test) tokens ≡ true
    → list_all (token_has_only test) (joined tokens) ≡ true
only-joined test = all-joined (token_has_only test) (all-append test)

-- what is joined stays as it is
pub joined-same : (tokens : List PlainToken) → has_no_neighbours tokens ≡ true → joined tokens ≡ tokens
unfolding joined
joined-same [] none = refl
joined-same (token ∷ tokens) none =
    let parts = and_parts (not (is_text token && begins_with_text tokens)) (has_no_neighbours tokens) none in
    ap (join_token token) (joined-same tokens parts.1)
    ∙ by_text (λ t. not (is_text t && begins_with_text tokens) ≡ true → join_token t tokens ≡ t ∷ tokens)
    (λ s apart. text_ends s tokens (not-true _ apart)) (λ t other apart. alone t tokens other) token parts.0

count-join_token : (c : ℕ) (token : PlainToken) (tokens : List PlainToken) → count_in_text c (join_token token tokens) ≡ count_in_token c token + count_in_text c tokens
count-join_token c token tokens =
    by_text (λ t. count_in_text c (join_token t tokens) ≡ count_in_token c t + count_in_text c tokens) (λ s. text s tokens)
    (λ t other. ap (count_in_text c) (alone t tokens other)) token
  where
    text : (s : List ℕ) (tokens : List PlainToken) → count_in_text c (join_token (text_token s) tokens) ≡ times c s + count_in_text c tokens
    text s [] = refl
    text s (text_token t ∷ tokens) = omega (arith, times-append c s t)
    text s (start_token n a ∷ tokens) = refl
    text s (end_token n ∷ tokens) = refl
    text s (empty_token n a ∷ tokens) = refl
    text s (hidden_token n b ∷ tokens) = refl
    text s (comment_token t ∷ tokens) = refl

pub count-append : (c : ℕ) (a b : List PlainToken) → count_in_text c (a ++ b) ≡ count_in_text c a + count_in_text c b
count-append c [] b = omega arith
count-append c (token ∷ a) b = omega (arith, count-append c a b)

-- each character stands in the texts as often as before
pub count-joined : (c : ℕ) (tokens : List PlainToken) → count_in_text c (joined tokens) ≡ count_in_text c tokens
unfolding joined
count-joined c [] = refl
count-joined c (token ∷ tokens) = count-join_token c token (joined tokens) ∙ omega (arith, count-joined c tokens)

-- ---- one token more

first : (a b : PlainToken) (x y : List PlainToken) → a ∷ x ≡ b ∷ y → a ≡ b
first a b x y is = cc

rest : (a b : PlainToken) (x y : List PlainToken) → a ∷ x ≡ b ∷ y → x ≡ y
rest a b x y is = cc

not_one : (a b c : PlainToken) → a ∷ b ∷ [] ≡ c ∷ [] → ⊥
not_one a b c is = cc

-- a token that takes the next one in is joined in its place
pub taken_in : (held token both : PlainToken) → join_token held (token ∷ []) ≡ both ∷ []
    → (more : List PlainToken) → join_token held (join_token token more) ≡ join_token both more
taken_in held token both joins more =
    by_text (λ h. join_token h (token ∷ []) ≡ both ∷ [] → join_token h (join_token token more) ≡ join_token both more)
    (λ s. by_text (λ t. join_token (text_token s) (t ∷ []) ≡ both ∷ [] → join_token (text_token s) (join_token t more) ≡ join_token both more)
    (λ t is. sym (join_token-twice s t more) ∙ ap (λ (b : PlainToken). join_token b more) (first (text_token (s ++ t)) both [] [] is))
    (λ t other is. absurd (not_one (text_token s) t both (sym (ends (text_token s) (t ∷ []) other) ∙ is))) token)
    (λ h other is. absurd (not_one h token both (sym (alone h (token ∷ []) other) ∙ is))) held joins

-- a token that doesn't stays apart from it
pub kept_apart : (held token front behind : PlainToken) → join_token held (token ∷ []) ≡ front ∷ behind ∷ []
    → (more : List PlainToken) → join_token held (join_token token more) ≡ front ∷ join_token behind more
kept_apart held token front behind joins more =
    by_text (λ h. join_token h (token ∷ []) ≡ front ∷ behind ∷ [] → join_token h (join_token token more) ≡ front ∷ join_token behind more)
    (λ s. by_text (λ t. join_token (text_token s) (t ∷ []) ≡ front ∷ behind ∷ [] → join_token (text_token s) (join_token t more) ≡ front ∷ join_token behind more)
    (λ t is. absurd (not_one front behind (text_token (s ++ t)) (sym is)))
    (λ t other is. both (text_token s) t (sym (ends (text_token s) (t ∷ []) other) ∙ is)
    (ap (join_token (text_token s)) (alone t more other) ∙ ends (text_token s) (t ∷ more) other ∙ ap (λ (l : List PlainToken). text_token s ∷ l) (sym (alone t more other)))) token)
    (λ h other is. both h token (sym (alone h (token ∷ []) other) ∙ is) (alone h (join_token token more) other)) held joins
  where
    both : (h t : PlainToken) → h ∷ t ∷ [] ≡ front ∷ behind ∷ [] → join_token h (join_token t more) ≡ h ∷ join_token t more
        → join_token h (join_token t more) ≡ front ∷ join_token behind more
    both h t is apart = apart ∙ (λ i. first h front (t ∷ []) (behind ∷ []) is i ∷ join_token (first t behind [] [] (rest h front (t ∷ []) (behind ∷ []) is) i) more)

-- what is held joins what comes next
pub held-next : (before after : Option PlainToken) (token : PlainToken) (given : List PlainToken)
    → ((more : List PlainToken) → held_before before (join_token token more) ≡ given ++ held_before after more)
    → (more : List PlainToken) → held_before before (joined (token ∷ more)) ≡ given ++ held_before after (joined more)
unfolding joined
held-next before after token given step more = step (joined more)
