-- What a form of several words reads is read as itself.
use Rattle.std.proofs.Common.{◌≡◌, ℕ, Bool, true, cond, List, [], ◌∷◌, ◌++◌, length, Some, None, refl, sym, ap, subst, ◌∙◌, arith, append-nil}
use Rattle.std.specs.Prelude.{Option, ◌==◌, ◌&&◌, ◌||◌, not}
use Rattle.std.specs.Char.{to_ascii_lowercase}
use Rattle.std.specs.List.{list_all, cons_option}
use Rattle.std.specs.Str.{str_to_ascii_lowercase}
use Rattle.std.proofs.lemmas.Bool.{cond-true, and_parts, and_from, eqb-true}
use Rattle.std.proofs.lemmas.Bool.Decides.{nat_tests}
use Rattle.std.proofs.lemmas.List.Elements.{filter_map-append}
use Rattle.pur_laws.proofs.Cases.{lowered-same}
use Rattle.pur_laws.proofs.Lists.{all-weaker, all-append}
use Rattle.pur_laws.proofs.Tests.{kept, same_number}
use Rattle.pur_text.specs.Characters.{is_between}
use Rattle.pur_csstok.specs.Atoms.{is_atom_character, is_atom}
use Rattle.pur_csstok.specs.Declarations.{is_plain_word, words_of}
use Rattle.pur_cssprops.specs.Forms.{word_read, readings, spaced, words_read, are_each_once, ordered, ordered_read}
use Rattle.pur_cssprops.specs.declared.forms.WordForm.{WordForm}
use Rattle.pur_cssprops.proofs.WordLaws.{AtomLaws, word-fixed}

-- what one form reads the other doesn't read again
pub record Apart (one other : WordForm) : Type 0 where
  pub first : (text out : List ℕ) → word_read one text ≡ Some out → word_read other out ≡ None
  pub second : (text out : List ℕ) → word_read other text ≡ Some out → word_read one out ≡ None

-- what one form reads, the other reads nothing of
none_read : (one other : WordForm) → ((text out : List ℕ) → word_read one text ≡ Some out → word_read other out ≡ None) → (words : List (List ℕ))
    → readings other (readings one words) ≡ []
none_read one other apart [] = refl
none_read one other apart (word ∷ words) = go (word_read one word) refl (none_read one other apart words) where
  go : (found : Option (List ℕ)) → word_read one word ≡ found → readings other (readings one words) ≡ [] → readings other (cons_option found (readings one words)) ≡ []
  go None is more = more
  go (Some out) is more = ap (λ o. cons_option o (readings other (readings one words))) (apart word out is) ∙ more

-- ---- atoms and spaces are in lower case

abbrev pub is_value_character : ℕ → Bool
is_value_character c = is_atom_character c || c == 0x20

character-value : (c : ℕ) → is_atom_character c ≡ true → is_value_character c ≡ true
character-value c is = grind (arith, nat_tests)

value-lowered : (c : ℕ) → is_value_character c ≡ true → to_ascii_lowercase c ≡ c
value-lowered c is = grind (arith, nat_tests)

atom-value : (word : List ℕ) → is_atom word ≡ true → list_all is_value_character word ≡ true
atom-value word is = all-weaker is_atom_character is_value_character character-value word (and_parts _ (list_all is_atom_character word) is).1

pub spaced_value : (words : List (List ℕ)) → list_all is_atom words ≡ true → list_all is_value_character (spaced words) ≡ true
spaced_value [] all = refl
spaced_value (word ∷ []) all = atom-value word (and_parts (is_atom word) true all).0
spaced_value (word ∷ next ∷ words) all =
    let both = and_parts (is_atom word) (list_all is_atom (next ∷ words)) all in
    all-append is_value_character word (0x20 ∷ spaced (next ∷ words)) (atom-value word both.0) (spaced_value (next ∷ words) both.1)

spaced-lowered : (words : List (List ℕ)) → list_all is_atom words ≡ true → str_to_ascii_lowercase (spaced words) ≡ spaced words
spaced-lowered words all = lowered-same is_value_character value-lowered (spaced words) (spaced_value words all)

module _ (laws : AtomLaws) where
  pub readings-atoms : (form : WordForm) (words : List (List ℕ)) → list_all is_atom (readings form words) ≡ true
  readings-atoms form [] = refl
  readings-atoms form (word ∷ words) = go (word_read form word) refl (readings-atoms form words) where
    go : (found : Option (List ℕ)) → word_read form word ≡ found → list_all is_atom (readings form words) ≡ true → list_all is_atom (cons_option found (readings form words)) ≡ true
    go None is more = more
    go (Some out) is more = and_from _ _ (word-fixed laws form word out is).atom more

  readings-again : (form : WordForm) (words : List (List ℕ)) → readings form (readings form words) ≡ readings form words
  readings-again form [] = refl
  readings-again form (word ∷ words) = go (word_read form word) refl (readings-again form words) where
    go : (found : Option (List ℕ)) → word_read form word ≡ found → readings form (readings form words) ≡ readings form words
        → readings form (cons_option found (readings form words)) ≡ cons_option found (readings form words)
    go None is more = more
    go (Some out) is more =
        ap (λ o. cons_option o (readings form (readings form words))) (word-fixed laws form word out is).again ∙ ap (λ t. out ∷ t) more

  -- atoms with spaces between them are cut into these atoms
  cut_again : (words : List (List ℕ)) → list_all is_atom words ≡ true → words_of (spaced words) ≡ words
  cut_again words all = laws.words words (all-weaker is_atom is_plain_word laws.plain words all)

  pub words-again : (form : WordForm) (text out : List ℕ) → words_read form text ≡ Some out → words_read form out ≡ Some out
  unfolding words_read
  words-again form text out e =
      let words = words_of text in
      let values = readings form words in
      let is = kept (is_between 1 4 (length words) && length values == length words) (spaced values) out e in
      let both = and_parts (is_between 1 4 (length words)) (length values == length words) is.0 in
      let same : length values ≡ length words = eqb-true _ _ both.1 in
      let cut : words_of out ≡ values = ap words_of (sym is.1) ∙ cut_again values (readings-atoms form words) in
      ap (λ ws. cond (is_between 1 4 (length ws) && length (readings form ws) == length ws) (Some (spaced (readings form ws))) None) cut
      ∙ ap (λ vs. cond (is_between 1 4 (length values) && length vs == length values) (Some (spaced vs)) None) (readings-again form words)
      ∙ cond-true _ _ _ (and_from _ _ (ap (is_between 1 4) same ∙ both.0) (same_number (length values)))
      ∙ ap Some is.1

  pub words-lowered : (form : WordForm) (text out : List ℕ) → words_read form text ≡ Some out → str_to_ascii_lowercase out ≡ out
  unfolding words_read
  words-lowered form text out e =
      let words = words_of text in
      let values = readings form words in
      let is = kept (is_between 1 4 (length words) && length values == length words) (spaced values) out e in
      subst (λ t. str_to_ascii_lowercase t ≡ t) is.1 (spaced-lowered values (readings-atoms form words))

  pub all_atoms : (first second third : WordForm) (words : List (List ℕ)) → list_all is_atom (readings first words ++ (readings second words ++ readings third words)) ≡ true
  all_atoms first second third words =
      let b = readings second words in
      let c = readings third words in
      all-append is_atom (readings first words) (b ++ c) (readings-atoms first words) (all-append is_atom b c (readings-atoms second words) (readings-atoms third words))

  pub ordered-lowered : (first second third : WordForm) (text out : List ℕ) → ordered_read first second third text ≡ Some out → str_to_ascii_lowercase out ≡ out
  unfolding ordered_read
  ordered-lowered first second third text out e =
      let words = words_of text in
      let a = readings first words in
      let b = readings second words in
      let c = readings third words in
      let is = kept (not (length words == 0) && are_each_once (length words) a b c) (spaced (a ++ (b ++ c))) out e in
      subst (λ t. str_to_ascii_lowercase t ≡ t) is.1 (spaced-lowered (a ++ (b ++ c)) (all_atoms first second third words))

  pub ordered-again : (first second third : WordForm) → Apart first second → Apart first third → Apart second third → (text out : List ℕ)
      → ordered_read first second third text ≡ Some out → ordered_read first second third out ≡ Some out
  unfolding ordered_read
  ordered-again first second third one two three text out e =
      let words = words_of text in
      let a = readings first words in
      let b = readings second words in
      let c = readings third words in
      let values = a ++ (b ++ c) in
      let is = kept (not (length words == 0) && are_each_once (length words) a b c) (spaced values) out e in
      let once = (and_parts (not (length words == 0)) (are_each_once (length words) a b c) is.0).1 in
      let same : length values ≡ length words = eqb-true _ _ (and_parts _ (length values == length words) once).1 in
      let cut : words_of out ≡ values = ap words_of (sym is.1) ∙ cut_again values (all_atoms first second third words) in
      let split : (form : WordForm) → readings form values ≡ readings form a ++ (readings form b ++ readings form c)
      = λ form. filter_map-append (word_read form) a (b ++ c) ∙ ap (λ t. readings form a ++ t) (filter_map-append (word_read form) b c) in
      let firsts : readings first values ≡ a
      = split first ∙ ap (λ t. t ++ (readings first b ++ readings first c)) (readings-again first words)
      ∙ ap (λ t. a ++ (t ++ readings first c)) (none_read second first one.second words) ∙ ap (λ t. a ++ t) (none_read third first two.second words) ∙ append-nil a in
      let seconds : readings second values ≡ b
      = split second ∙ ap (λ t. t ++ (readings second b ++ readings second c)) (none_read first second one.first words)
      ∙ ap (λ t. t ++ readings second c) (readings-again second words) ∙ ap (λ t. b ++ t) (none_read third second three.second words) ∙ append-nil b in
      let thirds : readings third values ≡ c
      = split third ∙ ap (λ t. t ++ (readings third b ++ readings third c)) (none_read first third two.first words)
      ∙ ap (λ t. t ++ readings third c) (none_read second third three.first words) ∙ readings-again third words in
      ap (λ ws. ordered (length ws) (readings first ws) (readings second ws) (readings third ws)) cut
      ∙ ap (λ n. ordered n (readings first values) (readings second values) (readings third values)) same
      ∙ ap (λ t. ordered (length words) t (readings second values) (readings third values)) firsts
      ∙ ap (λ t. ordered (length words) a t (readings third values)) seconds
      ∙ ap (λ t. ordered (length words) a b t) thirds
      ∙ e
