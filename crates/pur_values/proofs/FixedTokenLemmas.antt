-- Lists of tokens are read as themselves.
use Rattle.std.proofs.Common.{◌≡◌, ℕ, ◌<◌, Bool, true, false, not, ◌&&◌, cond, List, [], ◌∷◌, ◌++◌, length, Some, filter, refl, sym, ap, subst, ◌∙◌, arith, ⊎_elim, append-nil, append_assoc, lit<}
use Rattle.std.specs.Prelude.{◌==◌}
use Rattle.std.specs.Char.{to_ascii_lowercase}
use Rattle.std.specs.List.{list_all, flat_map, onto_first}
use Rattle.std.specs.Str.{bytes_eq, str_to_ascii_lowercase}
use Rattle.std.proofs.lemmas.Bool.{cases_Bool, cond-true, cond-false, and_parts, and_from, not-true, eqb-true}
use Rattle.pur_text.specs.Characters.{is_space}
use Rattle.pur_values.specs.Private.Seen.{passes}
use Rattle.pur_values.specs.Tokens.{pieces, distinct, joined, tokens_of, classes_of, relations_of, is_relation, relations}
use Rattle.pur_values.specs.declared.tokens.TokenKind.{TokenKind}
use Rattle.pur_values.specs.declared.tokens.TokenKind.TheVariants.{Class, Relation}
use Rattle.pur_laws.proofs.Cases.{lowered-same}
use Rattle.pur_laws.proofs.Lists.{all-append, all-filter, all-kept, all-weaker}
use Rattle.pur_laws.proofs.Tests.{all-named}
use Rattle.pur_values.proofs.FixedLemmas.{Fixed}
use Rattle.pur_values.proofs.SolidLemmas.{is_other, is_solid, solid-other, token-solid}
use Rattle.pur_values.proofs.TightLemmas.{parts-tight}
use Rattle.pur_values.proofs.TokenLemmas.{is_some_text, behind_space, token_some, all_distinct, filter_all}

-- ---- the pieces of tokens that are joined

-- a piece that goes on in front of the first one
abbrev onto_front : List ℕ → List (List ℕ) → List (List ℕ)
onto_front front [] = front ∷ []
onto_front front (piece ∷ pieces) = (front ++ piece) ∷ pieces

onto_more : (c : ℕ) (front : List ℕ) (pieces : List (List ℕ)) → onto_first c (onto_front front pieces) ≡ onto_front (c ∷ front) pieces
onto_more c front [] = refl
onto_more c front (piece ∷ pieces) = refl

pieces_front : (front text : List ℕ) → list_all is_other front ≡ true → 0 < length (pieces text) → pieces (front ++ text) ≡ onto_front front (pieces text)
pieces_front [] text all some = nothing (pieces text) some
  where
    nothing : (pieces : List (List ℕ)) → 0 < length pieces → pieces ≡ onto_front [] pieces
    nothing [] some = absurd (omega arith)
    nothing (piece ∷ pieces) some = refl
pieces_front (c ∷ front) text all some =
    let isnt : is_space c ≡ false = not-true (is_space c) (and_parts (is_other c) (list_all is_other front) all).0 in
    cond-false (is_space c) _ _ isnt ∙ ap (onto_first c) (pieces_front front text (and_parts (is_other c) (list_all is_other front) all).1 some)
    ∙ onto_more c front (pieces text)

pieces_some : (text : List ℕ) → 0 < length (pieces text)
pieces_some [] = lit< tt
pieces_some (c ∷ text) = elim (is_space c) as (λ b. 0 < length (cond b ([] ∷ pieces text) (onto_first c (pieces text))))
    [ true ↦ omega arith | false ↦ onto_some (pieces text) ]
  where
    onto_some : (pieces : List (List ℕ)) → 0 < length (onto_first c pieces)
    onto_some [] = omega arith
    onto_some (piece ∷ pieces) = omega arith

pub pieces_joined : (token : List ℕ) (tokens : List (List ℕ)) → list_all is_other token ≡ true → list_all (list_all is_other) tokens ≡ true
    → pieces (token ++ flat_map behind_space tokens) ≡ token ∷ tokens
pieces_joined token [] one all =
    pieces_front token [] one (lit< tt) ∙ ap (λ l. l ∷ []) (append-nil token)
pieces_joined token (next ∷ tokens) one all =
    let behind = flat_map behind_space tokens in
    let rest : pieces (next ++ behind) ≡ next ∷ tokens =
    pieces_joined next tokens (and_parts (list_all is_other next) (list_all (list_all is_other) tokens) all).0 (and_parts (list_all is_other next) (list_all (list_all is_other) tokens) all).1 in
    pieces_front token (0x20 ∷ (next ++ behind)) one (pieces_some (0x20 ∷ (next ++ behind)))
    ∙ ap (λ l. (token ++ []) ∷ l) rest ∙ ap (λ l. l ∷ (next ∷ tokens)) (append-nil token)

-- ---- tokens that are distinct already

abbrev are_apart : List (List ℕ) → Bool
are_apart [] = true
are_apart (token ∷ tokens) = list_all (λ other. not (bytes_eq token other)) tokens && are_apart tokens

apart_filter : (test : List ℕ → Bool) (tokens : List (List ℕ)) → are_apart tokens ≡ true → are_apart (filter test tokens) ≡ true
apart_filter test [] apart = refl
apart_filter test (token ∷ tokens) apart =
    let parts = and_parts (list_all (λ other. not (bytes_eq token other)) tokens) (are_apart tokens) apart in
    ⊎_elim
    (λ (keeps : test token ≡ true).
    subst (λ l. are_apart l ≡ true) (sym (cond-true (test token) (token ∷ filter test tokens) (filter test tokens) keeps))
    (and_from _ _ (all-filter (λ other. not (bytes_eq token other)) test tokens parts.0) (apart_filter test tokens parts.1)))
    (λ (drops : test token ≡ false).
    subst (λ l. are_apart l ≡ true) (sym (cond-false (test token) (token ∷ filter test tokens) (filter test tokens) drops)) (apart_filter test tokens parts.1))
    (cases_Bool (test token))

pub apart_distinct : (tokens : List (List ℕ)) → are_apart (distinct tokens) ≡ true
unfolding distinct
apart_distinct [] = refl
apart_distinct (token ∷ tokens) =
    and_from _ _ (all-kept (λ other. not (bytes_eq token other)) (distinct tokens))
    (apart_filter (λ other. not (bytes_eq token other)) (distinct tokens) (apart_distinct tokens))

distinct_same : (tokens : List (List ℕ)) → are_apart tokens ≡ true → distinct tokens ≡ tokens
unfolding distinct
distinct_same [] apart = refl
distinct_same (token ∷ tokens) apart =
    let parts = and_parts (list_all (λ other. not (bytes_eq token other)) tokens) (are_apart tokens) apart in
    ap (λ l. token ∷ l)
    (ap (filter (λ other. not (bytes_eq token other))) (distinct_same tokens parts.1)
    ∙ filter_all (λ other. not (bytes_eq token other)) tokens parts.0)

-- ---- the text of the tokens

-- its last part
record LastPart (text : List ℕ) : Type 0 where
  pub before : List ℕ
  pub last : List ℕ
  pub text_is : text ≡ before ++ last
  pub some : is_some_text last ≡ true
  pub solid : list_all is_solid last ≡ true

last_part : (token : List ℕ) (tokens : List (List ℕ)) → is_some_text token ≡ true → list_all is_solid token ≡ true
    → list_all is_some_text tokens ≡ true → list_all (list_all is_solid) tokens ≡ true → LastPart (token ++ flat_map behind_space tokens)
last_part token [] some other all_some all_other = record { before = []; last = token; text_is = append-nil token; some = some; solid = other }
last_part token (next ∷ tokens) some other all_some all_other =
    let somes = and_parts (is_some_text next) (list_all is_some_text tokens) all_some in
    let others = and_parts (list_all is_solid next) (list_all (list_all is_solid) tokens) all_other in
    let part = last_part next tokens somes.0 others.0 somes.1 others.1 in
    record {
      before = token ++ 0x20 ∷ part.before;
      last = part.last;
      text_is = ap (λ l. token ++ 0x20 ∷ l) part.text_is ∙ sym (append_assoc token (0x20 ∷ part.before) part.last);
      some = part.some;
      solid = part.solid;
    }

pub all_joined : (p : ℕ → Bool) (token : List ℕ) (tokens : List (List ℕ)) → p 0x20 ≡ true → list_all p token ≡ true → list_all (list_all p) tokens ≡ true
    → list_all p (token ++ flat_map behind_space tokens) ≡ true
all_joined p token [] space one all = subst (λ l. list_all p l ≡ true) (sym (append-nil token)) one
all_joined p token (next ∷ tokens) space one all =
    let parts = and_parts (list_all p next) (list_all (list_all p) tokens) all in
    all-append p token (0x20 ∷ (next ++ flat_map behind_space tokens)) one (and_from _ _ space (all_joined p next tokens space parts.0 parts.1))

-- the tokens are read from their text as they are
fixed_joined : (kind : TokenKind) (tokens : List (List ℕ)) (value : List ℕ) → list_all (passes kind) tokens ≡ true → are_apart tokens ≡ true
    → joined tokens ≡ Some value → Fixed (tokens_of (passes kind)) value
fixed_joined kind [] value all apart is = absurd (cc)
fixed_joined kind (token ∷ tokens) value all apart is =
    let text = token ++ flat_map behind_space tokens in
    let same : text ≡ value = cc in
    let first = and_parts (passes kind token) (list_all (passes kind) tokens) all in
    let solid : list_all is_solid token ≡ true = token-solid kind token first.0 in
    let solids : list_all (list_all is_solid) tokens ≡ true = all-weaker (passes kind) (list_all is_solid) (token-solid kind) tokens first.1 in
    let other : list_all is_other token ≡ true = solid-other token solid in
    let others : list_all (list_all is_other) tokens ≡ true = all-weaker (list_all is_solid) (list_all is_other) solid-other tokens solids in
    let some : is_some_text token ≡ true = token_some kind token first.0 in
    let somes : list_all is_some_text tokens ≡ true = all-weaker (passes kind) is_some_text (token_some kind) tokens first.1 in
    let last = last_part token tokens some solid somes solids in
    subst (Fixed (tokens_of (passes kind))) same
    (record {
      again = ap (λ l. joined (distinct (filter (passes kind) l))) (pieces_joined token tokens other others)
          ∙ ap (λ l. joined (distinct l)) (filter_all (passes kind) (token ∷ tokens) all)
          ∙ ap joined (distinct_same (token ∷ tokens) apart);
      tight = parts-tight text token (flat_map behind_space tokens) last.before last.last refl last.text_is some solid last.some last.solid;
    })

fixed_tokens : (kind : TokenKind) (text value : List ℕ) → tokens_of (passes kind) text ≡ Some value → Fixed (tokens_of (passes kind)) value
fixed_tokens kind text value is =
    let tokens = filter (passes kind) (pieces text) in
    fixed_joined kind (distinct tokens) value (all_distinct (passes kind) tokens (all-kept (passes kind) (pieces text))) (apart_distinct tokens) is

pub fixed_classes : (text value : List ℕ) → classes_of text ≡ Some value → Fixed classes_of value
fixed_classes text value is = fixed_tokens Class text value is

-- ---- relations are in lower case

abbrev is_low : ℕ → Bool
is_low c = to_ascii_lowercase c == c

low_text : (text : List ℕ) → list_all is_low text ≡ true → str_to_ascii_lowercase text ≡ text
low_text = lowered-same is_low (λ c is. eqb-true _ _ is)

low_joined : (tokens : List (List ℕ)) (value : List ℕ) → list_all is_relation tokens ≡ true → joined tokens ≡ Some value → str_to_ascii_lowercase value ≡ value
low_joined [] value all is = absurd (cc)
low_joined (token ∷ tokens) value all is =
    let text = token ++ flat_map behind_space tokens in
    let same : text ≡ value = cc in
    let first = and_parts (is_relation token) (list_all is_relation tokens) all in
    subst (λ l. str_to_ascii_lowercase l ≡ l) same
    (low_text text
    (all_joined is_low token tokens refl (low_relation token first.0) (all-weaker is_relation (list_all is_low) low_relation tokens first.1)))
  where
    low_relation : (token : List ℕ) → is_relation token ≡ true → list_all is_low token ≡ true
    low_relation token is = all-named (list_all is_low) relations token refl is

pub fixed_relations : (text value : List ℕ) → relations_of text ≡ Some value → Fixed relations_of value
fixed_relations text value is =
    let lowered = str_to_ascii_lowercase text in
    let tokens = filter is_relation (pieces lowered) in
    let fixed = fixed_tokens Relation lowered value is in
    let low = low_joined (distinct tokens) value (all_distinct is_relation tokens (all-kept is_relation (pieces lowered))) is in
    record { again = ap (tokens_of is_relation) low ∙ fixed.again; tight = fixed.tight }
