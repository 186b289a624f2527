-- A list of families in its one form is read as itself, and is a value that a style can hold.
use Rattle.std.proofs.Common.{◌≡◌, ℕ, Bool, true, false, List, [], ◌∷◌, ◌++◌, length, codes, Some, None, refl, sym, ap, subst, ◌∙◌, arith, append_assoc, append-nil, ⊎_elim}
use Rattle.std.specs.Prelude.{◌==◌, ◌&&◌, ◌||◌, not, Option}
use Rattle.pur_laws.proofs.Texts.{is_ascii}
use Rattle.std.specs.List.{list_all, filter_map, cons_option, join_with_byte, onto_first}
use Rattle.std.specs.Option.{option_map_or}
use Rattle.std.specs.Str.{str_to_ascii_lowercase}
use Rattle.std.proofs.lemmas.Bool.{cases_Bool, cond-true, cond-false, and_parts, and_from}
use Rattle.std.proofs.lemmas.Bool.Decides.{nat_tests}
use Rattle.pur_text.specs.Characters.{is_space}
use Rattle.pur_text.specs.Trimming.{trimmed}
use Rattle.pur_csstok.specs.Cuts.{pieces, pieces_from, stays_whole, is_whole, is_plain}
use Rattle.pur_csstok.specs.Declarations.{is_word, is_plain_word, words_of, IsCleanValue}
use Rattle.pur_csstok.specs.Ends.{in_quotes}
use Rattle.pur_csstok.specs.Families.{is_name_character, quoted, name_read, generics, bare_read, unquoted, family_read, families_kept, families_joined, families_read}
use Rattle.pur_csstok.specs.Names.{is_one_of}
use Rattle.pur_csstok.specs.declared.cuts.Separator.{Separator}
use Rattle.pur_csstok.specs.declared.cuts.Separator.TheVariants.{Semicolon, Space, Comma}
use Rattle.pur_csstok.proofs.CutLaws.{plain_front, plain_whole, plain_after, joined_pieces, quote_closes}
use Rattle.pur_csstok.proofs.EndLaws.{is_tight, joined-trimmed, all-joined, quotes-trimmed, quotes-tight, quotes-between, is_harmless, harmless}
use Rattle.pur_laws.proofs.Lists.{all-append, all-weaker, all-filter, all-kept}
use Rattle.std.proofs.lemmas.Option.{same_Some}
use Rattle.pur_laws.proofs.Tests.{kept, not_empty, all-and, all-named, Each, each-test, each-named}
use Rattle.pur_csstok.proofs.WordLaws.{words-again}

pub generic-ascii : (text : List ℕ) → is_one_of generics text ≡ true → list_all is_ascii text ≡ true
generic-ascii text is = all-named (list_all is_ascii) generics text refl is

-- ---- the words of a name

-- what a word of a name is made of
abbrev is_word_character : ℕ → Bool
is_word_character c = is_name_character c && not (is_space c)

word-plain : (c : ℕ) → is_word_character c ≡ true → is_plain Space c ≡ true
word-plain c is = grind (arith, nat_tests)

word-name : (c : ℕ) → is_word_character c ≡ true → is_name_character c ≡ true
word-name c is = (and_parts (is_name_character c) (not (is_space c)) is).0

name-unquoted : (c : ℕ) → is_name_character c ≡ true → not (c == 0x27) ≡ true
name-unquoted c is = grind (arith, nat_tests)

onto-all : (c : ℕ) (parts : List (List ℕ)) → is_word_character c ≡ true → list_all (list_all is_word_character) parts ≡ true
    → list_all (list_all is_word_character) (onto_first c parts) ≡ true
onto-all c [] is all = and_from _ _ (and_from _ _ is refl) refl
onto-all c (part ∷ parts) is all =
    let both = and_parts (list_all is_word_character part) (list_all (list_all is_word_character) parts) all in
    and_from _ _ (and_from _ _ is both.0) both.1

name_pieces : (name : List ℕ) → list_all is_name_character name ≡ true → list_all (list_all is_word_character) (pieces Space name) ≡ true
unfolding pieces_from
name_pieces [] all = refl
name_pieces (c ∷ name) all =
    let both = and_parts (is_name_character c) (list_all is_name_character name) all in
    let more = name_pieces name both.1 in
    ⊎_elim
    (λ (space : is_space c ≡ true). ap (list_all (list_all is_word_character)) (cond-true _ _ _ space) ∙ more)
    (λ (other : is_space c ≡ false).
    let word : is_word_character c ≡ true = and_from _ _ both.0 (ap not other) in
    ap (list_all (list_all is_word_character)) (cond-false _ _ _ other ∙ ap (λ n. onto_first c (pieces_from Space n name)) (plain_after Space c (word-plain c word)))
    ∙ onto-all c (pieces Space name) word more)
    (cases_Bool (is_space c))

name_words : (name : List ℕ) → list_all is_name_character name ≡ true → list_all (list_all is_word_character) (words_of name) ≡ true
name_words name all = all-filter (list_all is_word_character) is_word (pieces Space name) (name_pieces name all)

plain_words : (name : List ℕ) → list_all is_name_character name ≡ true → list_all is_plain_word (words_of name) ≡ true
plain_words name all =
    all-and is_word (list_all (is_plain Space)) (words_of name) (all-kept is_word (pieces Space name))
    (all-weaker (list_all is_word_character) (list_all (is_plain Space)) (λ word is. all-weaker is_word_character (is_plain Space) word-plain word is) (words_of name) (name_words name all))

joined_name : (name : List ℕ) → list_all is_name_character name ≡ true → list_all is_name_character (join_with_byte 0x20 (words_of name)) ≡ true
joined_name name all =
    all-joined is_name_character 0x20 refl (words_of name)
    (all-weaker (list_all is_word_character) (list_all is_name_character) (λ word is. all-weaker is_word_character is_name_character word-name word is) (words_of name) (name_words name all))

-- ---- one family

-- what a list of families has: names' characters, quotes and commas
abbrev is_list_character : ℕ → Bool
is_list_character c = is_name_character c || c == 0x27 || c == 0x2C

name-list : (c : ℕ) → is_name_character c ≡ true → is_list_character c ≡ true
name-list c is = grind (arith, nat_tests)

list-harmless : (c : ℕ) → is_list_character c ≡ true → is_harmless c ≡ true
list-harmless c is = grind (arith, nat_tests)

-- a family in its one form: it stays whole in a list, is read as itself, and opens nothing in a value
record IsFamily (family : List ℕ) : Type 0 where
  whole : is_whole Comma family ≡ true
  again : family_read family ≡ Some family
  through : (rest : List ℕ) → is_whole Semicolon (family ++ rest) ≡ is_whole Semicolon rest
  characters : list_all is_list_character family ≡ true
  tight : is_tight family ≡ true

quote_through : (separator : Separator) (name rest : List ℕ) → list_all is_name_character name ≡ true
    → is_whole separator (in_quotes 0x27 name ++ rest) ≡ is_whole separator rest
unfolding stays_whole
quote_through Semicolon name rest all =
    ap (λ t. is_whole Semicolon (0x27 ∷ t)) (append_assoc name (0x27 ∷ []) rest)
    ∙ quote_closes Semicolon 0x27 0 name rest (all-weaker is_name_character (λ c. not (c == 0x27)) name-unquoted name all)
quote_through Space name rest all =
    ap (λ t. is_whole Space (0x27 ∷ t)) (append_assoc name (0x27 ∷ []) rest)
    ∙ quote_closes Space 0x27 0 name rest (all-weaker is_name_character (λ c. not (c == 0x27)) name-unquoted name all)
quote_through Comma name rest all =
    ap (λ t. is_whole Comma (0x27 ∷ t)) (append_assoc name (0x27 ∷ []) rest)
    ∙ quote_closes Comma 0x27 0 name rest (all-weaker is_name_character (λ c. not (c == 0x27)) name-unquoted name all)

name_again : (name : List ℕ) → list_all is_name_character name ≡ true → not (length (words_of name) == 0) ≡ true
    → name_read (join_with_byte 0x20 (words_of name)) ≡ Some (quoted (words_of name))
unfolding name_read
name_again name all some =
    let back = words-again (words_of name) (plain_words name all) in
    cond-true _ _ _ (and_from _ _ (joined_name name all) (ap (λ w. not (length w == 0)) back ∙ some)) ∙ ap (λ w. Some (quoted w)) back

quoted_family : (name : List ℕ) → list_all is_name_character name ≡ true → not (length (words_of name) == 0) ≡ true → IsFamily (quoted (words_of name))
unfolding family_read stays_whole
quoted_family name all some =
    let joined = join_with_byte 0x20 (words_of name) in
    let is = joined_name name all in
    record {
      whole = ap (is_whole Comma) (sym (append-nil (in_quotes 0x27 joined))) ∙ quote_through Comma joined [] is;
      again = ap (λ t. option_map_or name_read (unquoted t) (bare_read t)) (quotes-trimmed 0x27 joined refl)
          ∙ ap (λ o. option_map_or name_read o (bare_read (in_quotes 0x27 joined))) (quotes-between 0x27 joined refl)
          ∙ name_again name all some;
      through = λ rest. quote_through Semicolon joined rest is;
      characters = all-append is_list_character joined (0x27 ∷ []) (all-weaker is_name_character is_list_character name-list joined is) refl;
      tight = quotes-tight joined;
    }

name_family : (name out : List ℕ) → name_read name ≡ Some out → IsFamily out
unfolding name_read
name_family name out e =
    let is = kept (list_all is_name_character name && not (length (words_of name) == 0)) (quoted (words_of name)) out e in
    let both = and_parts _ _ is.0 in
    subst IsFamily is.1 (quoted_family name both.0 both.1)

plain_family : (family : List ℕ) → list_all (is_plain Semicolon) family ≡ true → list_all (is_plain Comma) family ≡ true → family_read family ≡ Some family
    → list_all is_list_character family ≡ true → is_tight family ≡ true → IsFamily family
plain_family family plain whole again characters tight = record {
  whole = plain_whole Comma family whole;
  again = again;
  through = λ rest. plain_front Semicolon family rest plain;
  characters = characters;
  tight = tight;
}

generic_families : Each IsFamily generics
unfolding family_read bare_read trimmed
generic_families = (
  plain_family (codes "serif") refl refl refl refl refl,
  (
    plain_family (codes "sans-serif") refl refl refl refl refl,
    (
      plain_family (codes "cursive") refl refl refl refl refl,
      (
        plain_family (codes "fantasy") refl refl refl refl refl,
        (plain_family (codes "monospace") refl refl refl refl refl, tt),
      ),
    ),
  ),
)

bare_family : (text out : List ℕ) → bare_read text ≡ Some out → IsFamily out
unfolding bare_read
bare_family text out e =
    let low = str_to_ascii_lowercase text in
    ⊎_elim
    (λ (hit : is_one_of generics low ≡ true). subst IsFamily (same_Some low out (sym (cond-true _ _ _ hit) ∙ e)) (each-named IsFamily generics low generic_families hit))
    (λ (miss : is_one_of generics low ≡ false). name_family text out (sym (cond-false _ _ _ miss) ∙ e))
    (cases_Bool (is_one_of generics low))

part_family : (part out : List ℕ) → family_read part ≡ Some out → IsFamily out
unfolding family_read
part_family part out e = go (unquoted (trimmed part)) e where
  go : (inner : Option (List ℕ)) → option_map_or name_read inner (bare_read (trimmed part)) ≡ Some out → IsFamily out
  go None e = bare_family (trimmed part) out e
  go (Some name) e = name_family name out e

-- ---- all of them

kept_families : (parts : List (List ℕ)) → Each IsFamily (filter_map family_read parts)
kept_families [] = tt
kept_families (part ∷ parts) = go (family_read part) refl (kept_families parts) where
  go : (found : Option (List ℕ)) → family_read part ≡ found → Each IsFamily (filter_map family_read parts) → Each IsFamily (cons_option found (filter_map family_read parts))
  go None is more = more
  go (Some family) is more = (part_family part family is, more)

families_again : (families : List (List ℕ)) → Each IsFamily families → filter_map family_read families ≡ families
families_again [] all = refl
families_again (family ∷ families) all =
    ap (λ o. cons_option o (filter_map family_read families)) all.0.again ∙ ap (λ t. family ∷ t) (families_again families all.1)

families_whole : (family : List ℕ) (families : List (List ℕ)) → Each IsFamily (family ∷ families) → is_whole Semicolon (join_with_byte 0x2C (family ∷ families)) ≡ true
unfolding stays_whole
families_whole family [] all = ap (is_whole Semicolon) (sym (append-nil family)) ∙ all.0.through []
families_whole family (next ∷ families) all =
    let joined = join_with_byte 0x2C (next ∷ families) in
    all.0.through (0x2C ∷ joined) ∙ plain_front Semicolon (0x2C ∷ []) joined refl ∙ families_whole next families all.1

-- what is read is such families joined
families_is : (P : List ℕ → Type 0) → ((family : List ℕ) (families : List (List ℕ)) → Each IsFamily (family ∷ families) → P (join_with_byte 0x2C (family ∷ families)))
    → (families : List (List ℕ)) (out : List ℕ) → Each IsFamily families → families_joined families ≡ Some out → P out
families_is P holds [] out all e = absurd cc
families_is P holds (family ∷ families) out all e =
    subst P (same_Some (join_with_byte 0x2C (family ∷ families)) out (sym (cond-false _ _ _ (not_empty family families)) ∙ e)) (holds family families all)

joined_again : (family : List ℕ) (families : List (List ℕ)) → Each IsFamily (family ∷ families)
    → families_read (join_with_byte 0x2C (family ∷ families)) ≡ Some (join_with_byte 0x2C (family ∷ families))
joined_again family families all =
    let back : families_kept (join_with_byte 0x2C (family ∷ families)) ≡ family ∷ families =
    ap (filter_map family_read) (joined_pieces Comma 0x2C refl family families (each-test IsFamily (is_whole Comma) (λ text is. is.whole) (family ∷ families) all))
    ∙ families_again (family ∷ families) all in
    ap families_joined back ∙ cond-false _ _ _ (not_empty family families)

joined_clean : (family : List ℕ) (families : List (List ℕ)) → Each IsFamily (family ∷ families) → IsCleanValue (join_with_byte 0x2C (family ∷ families))
joined_clean family families all =
    let value = join_with_byte 0x2C (family ∷ families) in
    let characters = all-joined is_list_character 0x2C refl (family ∷ families) (each-test IsFamily (list_all is_list_character) (λ text is. is.characters) (family ∷ families) all) in
    record {
      whole = families_whole family families all;
      trim = joined-trimmed 0x2C family families (each-test IsFamily is_tight (λ text is. is.tight) (family ∷ families) all);
      plain = harmless value (all-weaker is_list_character is_harmless list-harmless value characters);
    }

pub families-again : (text out : List ℕ) → families_read text ≡ Some out → families_read out ≡ Some out
families-again text out e = families_is (λ t. families_read t ≡ Some t) joined_again (families_kept text) out (kept_families (pieces Comma text)) e

pub families-clean : (text out : List ℕ) → families_read text ≡ Some out → IsCleanValue out
families-clean text out e = families_is IsCleanValue joined_clean (families_kept text) out (kept_families (pieces Comma text)) e
