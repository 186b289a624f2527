-- Texts without white space at their ends, joined; texts in quotes; and texts without escapes and comments.
use Rattle.std.proofs.Common.{◌≡◌, ℕ, ◌+◌, Bool, true, false, cond, List, [], ◌∷◌, ◌++◌, length, reverse, slice_index, Some, refl, sym, ap, ◌∙◌, arith, append_assoc, append-nil}
use Rattle.std.specs.Prelude.{◌==◌, ◌&&◌, ◌||◌, not}
use Rattle.std.specs.Char.{to_ascii_lowercase}
use Rattle.std.specs.List.{list_all, prefix_len, suffix_len, join_with_byte}
use Rattle.std.specs.Option.{option_and_then}
use Rattle.std.proofs.lemmas.Bool.{cond-true, cond-false, and_parts, and_from, or_parts, or_from, eqb-true}
use Rattle.std.proofs.lemmas.Bool.Decides.{nat_tests}
use Rattle.std.proofs.lemmas.List.{reverse-append, length-reverse}
use Rattle.pur_text.specs.Characters.{is_space}
use Rattle.pur_text.specs.Trimming.{trimmed, without_trailing_space}
use Rattle.pur_csstok.specs.Declarations.{has_escape_or_comment}
use Rattle.pur_csstok.specs.Ends.{before, between, in_quotes}
use Rattle.pur_laws.proofs.Lists.{all-append, all-reverse}
use Rattle.pur_laws.proofs.Ends.{front_settled, end_settled}
use Rattle.pur_laws.proofs.Tests.{not_empty, same_number}
use Rattle.pur_csstok.proofs.TextLemmas.{before-last}

-- ---- white space at the ends

-- a text that isn't empty and has no white space at its ends
abbrev pub is_tight : List ℕ → Bool
is_tight text = not (length text == 0) && (prefix_len is_space text == 0 && suffix_len is_space text == 0)

-- trimming leaves a text without white space at its ends
pub trimmed_same : (text : List ℕ) → prefix_len is_space text ≡ 0 → suffix_len is_space text ≡ 0 → trimmed text ≡ text
unfolding trimmed
trimmed_same text front end = ap without_trailing_space (front_settled is_space text front) ∙ end_settled is_space text end

front_tight : (text rest : List ℕ) → not (length text == 0) ≡ true → prefix_len is_space text ≡ 0 → prefix_len is_space (text ++ rest) ≡ 0
front_tight [] rest some front = absurd cc
front_tight (c ∷ text) rest some front = go (is_space c) front where
  go : (b : Bool) → cond b (1 + prefix_len is_space text) 0 ≡ 0 → cond b (1 + prefix_len is_space (text ++ rest)) 0 ≡ 0
  go true front = absurd (omega arith)
  go false front = refl

end_tight : (front text : List ℕ) → not (length text == 0) ≡ true → suffix_len is_space text ≡ 0 → suffix_len is_space (front ++ text) ≡ 0
end_tight front text some end =
    ap (prefix_len is_space) (reverse-append front text)
    ∙ front_tight (reverse text) (reverse front) (ap (λ n. not (n == 0)) (length-reverse text) ∙ some) end

joined_front : (c : ℕ) (word : List ℕ) (words : List (List ℕ)) → is_tight word ≡ true → prefix_len is_space (join_with_byte c (word ∷ words)) ≡ 0
joined_front c word [] is = eqb-true _ _ (and_parts (prefix_len is_space word == 0) (suffix_len is_space word == 0) (and_parts (not (length word == 0)) _ is).1).0
joined_front c word (next ∷ words) is =
    let both = and_parts (not (length word == 0)) (prefix_len is_space word == 0 && suffix_len is_space word == 0) is in
    front_tight word (c ∷ join_with_byte c (next ∷ words)) both.0 (eqb-true _ _ (and_parts (prefix_len is_space word == 0) (suffix_len is_space word == 0) both.1).0)

joined_end : (c : ℕ) (front word : List ℕ) (words : List (List ℕ)) → list_all is_tight (word ∷ words) ≡ true → suffix_len is_space (front ++ join_with_byte c (word ∷ words)) ≡ 0
joined_end c front word [] all =
    let both = and_parts (not (length word == 0)) (prefix_len is_space word == 0 && suffix_len is_space word == 0) (and_parts (is_tight word) true all).0 in
    end_tight front word both.0 (eqb-true _ _ (and_parts (prefix_len is_space word == 0) (suffix_len is_space word == 0) both.1).1)
joined_end c front word (next ∷ words) all =
    let joined = join_with_byte c (next ∷ words) in
    let before = front ++ (word ++ c ∷ []) in
    let same : before ++ joined ≡ front ++ (word ++ c ∷ joined) =
    append_assoc front (word ++ c ∷ []) joined ∙ ap (λ t. front ++ t) (append_assoc word (c ∷ []) joined) in
    ap (suffix_len is_space) (sym same) ∙ joined_end c before next words (and_parts (is_tight word) (list_all is_tight (next ∷ words)) all).1

-- such texts joined
pub joined-trimmed : (c : ℕ) (word : List ℕ) (words : List (List ℕ)) → list_all is_tight (word ∷ words) ≡ true
    → trimmed (join_with_byte c (word ∷ words)) ≡ join_with_byte c (word ∷ words)
joined-trimmed c word words all =
    trimmed_same (join_with_byte c (word ∷ words)) (joined_front c word words (and_parts (is_tight word) (list_all is_tight words) all).0) (joined_end c [] word words all)

-- a text without white space
no_front : (test : ℕ → Bool) → ((c : ℕ) → test c ≡ true → is_space c ≡ false) → (text : List ℕ) → list_all test text ≡ true → prefix_len is_space text ≡ 0
no_front test other [] all = refl
no_front test other (c ∷ text) all = cond-false _ _ _ (other c (and_parts (test c) (list_all test text) all).0)

pub spaceless-trimmed : (test : ℕ → Bool) → ((c : ℕ) → test c ≡ true → is_space c ≡ false) → (text : List ℕ) → list_all test text ≡ true → trimmed text ≡ text
spaceless-trimmed test other text all = trimmed_same text (no_front test other text all) (no_front test other (reverse text) (all-reverse test text all))

zero_same : (n : ℕ) → n ≡ 0 → (n == 0) ≡ true
zero_same n is = grind (arith, nat_tests)

pub spaceless-tight : (test : ℕ → Bool) → ((c : ℕ) → test c ≡ true → is_space c ≡ false) → (text : List ℕ) → not (length text == 0) ≡ true → list_all test text ≡ true → is_tight text ≡ true
spaceless-tight test other text some all =
    and_from _ _ some (and_from _ _ (zero_same _ (no_front test other text all)) (zero_same _ (no_front test other (reverse text) (all-reverse test text all))))

-- what passes a test in joined texts
pub all-joined : (test : ℕ → Bool) (c : ℕ) → test c ≡ true → (texts : List (List ℕ)) → list_all (list_all test) texts ≡ true → list_all test (join_with_byte c texts) ≡ true
all-joined test c is [] all = refl
all-joined test c is (text ∷ []) all = (and_parts (list_all test text) true all).0
all-joined test c is (text ∷ next ∷ texts) all =
    let both = and_parts (list_all test text) (list_all (list_all test) (next ∷ texts)) all in
    all-append test text (c ∷ join_with_byte c (next ∷ texts)) both.0 (and_from _ _ is (all-joined test c is (next ∷ texts) both.1))

-- ---- texts in quotes

pub quotes-end : (quote : ℕ) (text : List ℕ) → is_space quote ≡ false → suffix_len is_space (in_quotes quote text) ≡ 0
quotes-end quote text other = ap (prefix_len is_space) (reverse-append (quote ∷ text) (quote ∷ [])) ∙ cond-false _ _ _ other

pub quotes-trimmed : (quote : ℕ) (text : List ℕ) → is_space quote ≡ false → trimmed (in_quotes quote text) ≡ in_quotes quote text
quotes-trimmed quote text other = trimmed_same (in_quotes quote text) (cond-false _ _ _ other) (quotes-end quote text other)

pub quotes-tight : (text : List ℕ) → is_tight (in_quotes 0x27 text) ≡ true
quotes-tight text = and_from _ _ (ap not (not_empty 0x27 (text ++ 0x27 ∷ []))) (zero_same _ (quotes-end 0x27 text refl))

pub quotes-between : (quote : ℕ) (text : List ℕ) → to_ascii_lowercase quote ≡ quote → between quote (in_quotes quote text) ≡ Some text
quotes-between quote text low =
    ap (option_and_then (before quote)) (cond-true _ _ _ (ap (λ c. c == quote) low ∙ same_number quote)) ∙ before-last quote text

-- ---- texts without escapes and comments

abbrev pub is_harmless : ℕ → Bool
is_harmless c = not (c == 0x5C || c == 0x2F)

harmless_parts : (c : ℕ) → is_harmless c ≡ true → ((c == 0x5C) ≡ false) × ((c == 0x2F) ≡ false)
harmless_parts c is = go (c == 0x5C) (c == 0x2F) is where
  go : (a b : Bool) → not (a || b) ≡ true → (a ≡ false) × (b ≡ false)
  go false false is = (refl, refl)
  go true b is = absurd cc
  go false true is = absurd cc

-- in front of another
pub harmless_front : (text rest : List ℕ) → list_all is_harmless text ≡ true → has_escape_or_comment (text ++ rest) ≡ has_escape_or_comment rest
unfolding has_escape_or_comment
harmless_front [] rest all = refl
harmless_front (c ∷ text) rest all =
    let both = and_parts (is_harmless c) (list_all is_harmless text) all in
    let parts = harmless_parts c both.0 in
    ap (λ b. b || (c == 0x2F && slice_index (text ++ rest) 0 == 0x2A) || has_escape_or_comment (text ++ rest)) parts.0
    ∙ ap (λ b. (b && slice_index (text ++ rest) 0 == 0x2A) || has_escape_or_comment (text ++ rest)) parts.1 ∙ harmless_front text rest both.1

pub harmless : (text : List ℕ) → list_all is_harmless text ≡ true → has_escape_or_comment text ≡ false
unfolding has_escape_or_comment
harmless text all = ap has_escape_or_comment (sym (append-nil text)) ∙ harmless_front text [] all

-- before a text that doesn't begin with `*`
pub harmless_before : (text rest : List ℕ) → (slice_index rest 0 == 0x2A) ≡ false → has_escape_or_comment text ≡ false → has_escape_or_comment rest ≡ false
    → has_escape_or_comment (text ++ rest) ≡ false
unfolding has_escape_or_comment
harmless_before [] rest next plain more = more
harmless_before (c ∷ []) rest next plain more =
    let first = or_parts (c == 0x5C || (c == 0x2F && false)) false plain in
    or_from (c == 0x5C || (c == 0x2F && slice_index rest 0 == 0x2A)) (has_escape_or_comment rest) (ap (λ b. c == 0x5C || (c == 0x2F && b)) next ∙ first.0) more
harmless_before (c ∷ d ∷ text) rest next plain more =
    let first = or_parts (c == 0x5C || (c == 0x2F && d == 0x2A)) (has_escape_or_comment (d ∷ text)) plain in
    or_from (c == 0x5C || (c == 0x2F && d == 0x2A)) (has_escape_or_comment (d ∷ (text ++ rest))) first.0 (harmless_before (d ∷ text) rest next first.1 more)
