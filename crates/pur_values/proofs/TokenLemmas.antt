-- What a walk over tokens has written is the list of the definition.
use Rattle.std.proofs.Common.{◌≡◌, ℕ, Bool, true, false, not, ◌&&◌, cond, List, [], ◌∷◌, ◌++◌, Option, Some, None, filter, refl, sym, ap, ◌∙◌, ⊎_elim, append-nil, append_assoc}
use Rattle.std.specs.Prelude.{if◌then◌else◌}
use Rattle.std.specs.List.{list_all, flat_map}
use Rattle.std.specs.Str.{bytes_eq}
use Rattle.std.proofs.lemmas.Bool.{cases_Bool, cond-true, cond-false, and_parts, and_from, not-true}
use Rattle.std.proofs.lemmas.Slice.Eq.{bytes_eq-Decides}
use Rattle.pur_values.specs.Numbers.{is_empty}
use Rattle.pur_values.specs.Private.Seen.{fresh, passes, put, put_all}
use Rattle.pur_values.specs.Tokens.{distinct, joined, relations}
use Rattle.pur_values.specs.declared.tokens.TokenKind.{TokenKind}
use Rattle.pur_values.specs.declared.tokens.TokenKind.TheVariants.{Class, Relation}
use Rattle.pur_laws.proofs.Lists.{all-filter, all-kept, all-weaker}
use Rattle.pur_laws.proofs.Tests.{not_empty, all-named}

abbrev pub is_some_text : List ℕ → Bool
is_some_text token = not (is_empty token)

-- ---- what a token is

pub token_some : (kind : TokenKind) (token : List ℕ) → passes kind token ≡ true → is_some_text token ≡ true
token_some Class [] is = absurd (cc)
token_some Class (c ∷ token) is = ap not (not_empty c token)
token_some Relation token is = all-named is_some_text relations token refl is

-- ---- filters

-- a filter that all pass leaves all
pub filter_all : {X : Type 0} (p : X → Bool) (xs : List X) → list_all p xs ≡ true → filter p xs ≡ xs
filter_all p [] all = refl
filter_all p (x ∷ xs) all = cond-true (p x) _ _ (and_parts (p x) (list_all p xs) all).0 ∙ ap (λ l. x ∷ l) (filter_all p xs (and_parts (p x) (list_all p xs) all).1)

-- two filters, one after the other
pub filter_filter : {X : Type 0} (p q r : X → Bool) (xs : List X) → ((x : X) → r x ≡ (q x && p x)) → filter p (filter q xs) ≡ filter r xs
filter_filter p q r [] both = refl
filter_filter p q r (x ∷ xs) both = ⊎_elim
    (λ (first : q x ≡ true).
    let same : r x ≡ p x = both x ∙ ap (λ b. b && p x) first in
    ap (filter p) (cond-true _ _ _ first) ∙ ap (cond (p x) (x ∷ filter p (filter q xs))) (filter_filter p q r xs both)
    ∙ ap (λ l. cond (p x) (x ∷ l) (filter r xs)) (filter_filter p q r xs both)
    ∙ ap (λ b. cond b (x ∷ filter r xs) (filter r xs)) (sym same))
    (λ (first : q x ≡ false).
    let out : r x ≡ false = both x ∙ ap (λ b. b && p x) first in
    ap (filter p) (cond-false _ _ _ first) ∙ filter_filter p q r xs both ∙ sym (cond-false _ _ _ out))
    (cases_Bool (q x))

-- ---- what is left of the tokens

pub all_distinct : (p : List ℕ → Bool) (tokens : List (List ℕ)) → list_all p tokens ≡ true → list_all p (distinct tokens) ≡ true
unfolding distinct
all_distinct p [] all = refl
all_distinct p (token ∷ tokens) all =
    and_from _ _ (and_parts _ _ all).0
    (all-filter p (λ other. not (bytes_eq token other)) (distinct tokens) (all_distinct p tokens (and_parts _ _ all).1))

-- those that weren't met
pub fresh_is : (met : List ℕ → Bool) (tokens : List (List ℕ)) → fresh met tokens ≡ filter (λ token. not (met token)) (distinct tokens)
unfolding fresh distinct
fresh_is met [] = refl
fresh_is met (token ∷ tokens) = ⊎_elim
    (λ (known : met token ≡ true).
    let gone : not (met token) ≡ false = ap not known in
    cond-true _ _ _ known ∙ fresh_is met tokens
    ∙ sym (filter_filter (λ other. not (met other)) (λ other. not (bytes_eq token other)) (λ other. not (met other)) (distinct tokens) (with_known known))
    ∙ sym (cond-false _ _ _ gone))
    (λ (new : met token ≡ false).
    let kept : not (met token) ≡ true = ap not new in
    cond-false _ _ _ new
    ∙ ap (λ l. token ∷ l)
    (fresh_is (λ other. if bytes_eq token other then true else met other) tokens
    ∙ sym (filter_filter (λ other. not (met other)) (λ other. not (bytes_eq token other)) (λ other. not (if bytes_eq token other then true else met other)) (distinct tokens) (λ other. neither (bytes_eq token other) (met other))))
    ∙ sym (cond-true _ _ _ kept))
    (cases_Bool (met token))
  where
    neither : (a b : Bool) → not (if a then true else b) ≡ (not a && not b)
    neither true b = refl
    neither false b = refl

    with_known : met token ≡ true → (other : List ℕ) → not (met other) ≡ (not (bytes_eq token other) && not (met other))
    with_known known other = ⊎_elim
        (λ (same : bytes_eq token other ≡ true).
        let other_known : met other ≡ true = ap met (sym ((bytes_eq-Decides token other).0 same)) ∙ known in
        ap not other_known ∙ sym (ap (λ b. not b && not (met other)) same))
        (λ (apart : bytes_eq token other ≡ false). sym (ap (λ b. not b && not (met other)) apart))
        (cases_Bool (bytes_eq token other))

filter_true : (tokens : List (List ℕ)) → filter (λ token. true) tokens ≡ tokens
filter_true [] = refl
filter_true (token ∷ tokens) = ap (λ l. token ∷ l) (filter_true tokens)

pub fresh_of_none : (tokens : List (List ℕ)) → fresh (λ token. false) tokens ≡ distinct tokens
fresh_of_none tokens = fresh_is (λ token. false) tokens ∙ filter_true (distinct tokens)

-- ---- what is written

abbrev pub behind_space : List ℕ → List ℕ
behind_space token = 0x20 ∷ token

empty_append : (text : List ℕ) (more : List ℕ) → is_empty text ≡ false → is_empty (text ++ more) ≡ false
empty_append [] more is = absurd cc
empty_append (c ∷ text) more is = not_empty c (text ++ more)

empty_behind : (text : List ℕ) (token : List ℕ) → is_empty (text ++ 0x20 ∷ token) ≡ false
empty_behind [] token = not_empty 0x20 token
empty_behind (c ∷ text) token = not_empty c (text ++ 0x20 ∷ token)

pub put_all_is : (written : List ℕ) (tokens : List (List ℕ)) → is_empty written ≡ false → put_all written tokens ≡ written ++ flat_map behind_space tokens
unfolding put_all
put_all_is written [] some = sym (append-nil written)
put_all_is written (token ∷ tokens) some =
    let one : put written token ≡ written ++ 0x20 ∷ token = cond-false _ _ _ some in
    ap (λ l. put_all l tokens) one ∙ put_all_is (written ++ 0x20 ∷ token) tokens (empty_behind written token)
    ∙ append_assoc written (0x20 ∷ token) (flat_map behind_space tokens)

abbrev pub some_text : List ℕ → Option (List ℕ)
some_text written = if is_empty written then None else Some written

some_not_empty : (text : List ℕ) → is_some_text text ≡ true → is_empty text ≡ false
some_not_empty text is = not-true (is_empty text) is

pub joined_is : (tokens : List (List ℕ)) → list_all is_some_text tokens ≡ true → some_text (put_all [] (distinct tokens)) ≡ joined (distinct tokens)
unfolding put_all distinct
joined_is [] all = refl
joined_is (token ∷ tokens) all =
    let others = filter (λ other. not (bytes_eq token other)) (distinct tokens) in
    let some : is_empty token ≡ false = some_not_empty token (and_parts _ _ all).0 in
    let text : put_all token others ≡ token ++ flat_map behind_space others = put_all_is token others some in
    ap some_text text ∙ cond-false _ _ _ (empty_append token (flat_map behind_space others) some)

-- ---- the whole walk

abbrev pub walked : TokenKind → List (List ℕ) → List ℕ
walked kind tokens = put_all [] (fresh (λ token. false) (filter (passes kind) tokens))

pub walk_is : (kind : TokenKind) (tokens : List (List ℕ)) → some_text (walked kind tokens) ≡ joined (distinct (filter (passes kind) tokens))
walk_is kind tokens =
    ap (λ l. some_text (put_all [] l)) (fresh_of_none (filter (passes kind) tokens))
    ∙ joined_is (filter (passes kind) tokens)
    (all-weaker (passes kind) is_some_text (token_some kind) (filter (passes kind) tokens) (all-kept (passes kind) tokens))

-- the walk has come to its end
pub walk_ends : (test : List ℕ → Bool) (met : List ℕ → Bool) (written whole : List ℕ) → put_all written (fresh met (filter test [])) ≡ whole → written ≡ whole
unfolding put_all fresh
walk_ends test met written whole is = is
