-- What a form of one word reads is an atom, and is read as itself.
use Rattle.std.proofs.Common.{◌≡◌, ℕ, Bool, true, false, cond, List, [], length, take, codes, Some, None, refl, sym, ap, ◌∙◌, arith, append-nil, ⊎_elim}
use Rattle.std.specs.Prelude.{Option}
use Rattle.std.specs.List.{list_all, join_with_byte}
use Rattle.std.specs.Option.{option_or, option_map_or}
use Rattle.std.specs.Str.{str_to_ascii_lowercase}
use Rattle.std.proofs.lemmas.Bool.{cases_Bool, cond-true, cond-false}
use Rattle.std.proofs.lemmas.List.{drop_all}
use Rattle.pur_laws.proofs.Ends.{front_len}
use Rattle.pur_laws.proofs.Tests.{kept}
use Rattle.pur_csstok.specs.Atoms.{is_atom, is_color}
use Rattle.pur_csstok.specs.Colors.{color_read}
use Rattle.pur_csstok.specs.Declarations.{is_plain_word, words_of}
use Rattle.pur_csstok.specs.Lengths.{is_number_character, number_len, length_with, length_lowered, length_read}
use Rattle.pur_csstok.specs.Names.{is_one_of}
use Rattle.pur_csstok.specs.Numbers.{Number, is_nought, number_of, number_text, number_read}
use Rattle.pur_cssprops.specs.Forms.{word_read}
use Rattle.pur_cssprops.specs.Keywords.{words_in, keyword_read}
use Rattle.pur_cssprops.specs.declared.forms.WordForm.{WordForm}
use Rattle.pur_cssprops.specs.declared.forms.WordForm.TheVariants.{Color, Keyword, Length, LineHeight}
use Rattle.pur_cssprops.specs.declared.keywords.Keywords.{Keywords}
use Rattle.pur_cssprops.specs.declared.keywords.Keywords.TheVariants.{Normal}
use Rattle.pur_cssprops.proofs.KeywordLemmas.{keyword-atom, atom-lowered}

-- the laws of numbers, lengths, colours and words that the forms stand on
pub record AtomLaws : Type 0 where
  pub number : (signed : Bool) (text output : List ℕ) → number_read signed text ≡ Some output → number_read signed output ≡ Some output
  pub length : (signed percent : Bool) (text output : List ℕ) → length_read signed percent text ≡ Some output → length_read signed percent output ≡ Some output
  pub color : (transparent : Bool) (text output : List ℕ) → color_read transparent text ≡ Some output → color_read transparent output ≡ Some output
  pub color_digits : (text output : List ℕ) → color_read false text ≡ Some output → is_color output ≡ true
  pub number_atom : (signed : Bool) (text output : List ℕ) → number_read signed text ≡ Some output → is_atom output ≡ true
  pub length_atom : (signed percent : Bool) (text output : List ℕ) → length_read signed percent text ≡ Some output → is_atom output ≡ true
  pub color_atom : (transparent : Bool) (text output : List ℕ) → color_read transparent text ≡ Some output → is_atom output ≡ true
  pub unitless : (signed : Bool) (text output : List ℕ) → number_read signed text ≡ Some output → list_all is_number_character text ≡ true
  pub plain : (text : List ℕ) → is_atom text ≡ true → is_plain_word text ≡ true
  pub words : (words : List (List ℕ)) → list_all is_plain_word words ≡ true → words_of (join_with_byte 0x20 words) ≡ words

-- ---- words of a set

pub keyword-out : (keywords : Keywords) (text out : List ℕ) → keyword_read keywords text ≡ Some out → is_one_of (words_in keywords) out ≡ true
unfolding keyword_read
keyword-out keywords text out e =
    let low = str_to_ascii_lowercase text in
    let is = kept (is_one_of (words_in keywords) low) low out e in
    ap (is_one_of (words_in keywords)) (sym is.1) ∙ is.0

pub keyword-again : (keywords : Keywords) (out : List ℕ) → is_one_of (words_in keywords) out ≡ true → keyword_read keywords out ≡ Some out
unfolding keyword_read
keyword-again keywords out is =
    ap (λ low. cond (is_one_of (words_in keywords) low) (Some low) None) (atom-lowered out (keyword-atom keywords out is)) ∙ cond-true _ _ _ is

-- what is read as itself stays so behind a set of words
pub keyword-or : (keywords : Keywords) (read : Option (List ℕ)) (out : List ℕ) → str_to_ascii_lowercase out ≡ out → read ≡ Some out → option_or (keyword_read keywords out) read ≡ Some out
unfolding keyword_read
keyword-or keywords read out low e =
    let test = is_one_of (words_in keywords) (str_to_ascii_lowercase out) in
    ⊎_elim
    (λ (one : test ≡ true). ap (λ o. option_or o read) (cond-true _ _ _ one) ∙ ap Some low)
    (λ (other : test ≡ false). ap (λ o. option_or o read) (cond-false _ _ _ other) ∙ e)
    (cases_Bool test)

pub or_either : {P : Type 0} (one two : Option (List ℕ)) (out : List ℕ) → option_or one two ≡ Some out → (one ≡ Some out → P) → (two ≡ Some out → P) → P
or_either None two out e first second = second e
or_either (Some x) two out e first second = first e

-- ---- a length that is a number is zero

only_zero : (nought : Bool) (out : List ℕ) → cond nought (Some (codes "0")) None ≡ Some out → codes "0" ≡ out
only_zero true out e = cc
only_zero false out e = absurd cc

unitless_zero : (number : Number) (out : List ℕ) → length_with true number [] ≡ Some out → codes "0" ≡ out
unfolding length_with
unitless_zero number out e = only_zero (is_nought number.whole number.fraction) out e

all_front : (text : List ℕ) → list_all is_number_character text ≡ true → number_len text ≡ length text
all_front text all = ap number_len (sym (append-nil text)) ∙ front_len is_number_character text [] all refl

zero_read : (found : Option Number) (out : List ℕ) → option_map_or (λ number. length_with true number []) found None ≡ Some out → codes "0" ≡ out
zero_read None out e = absurd cc
zero_read (Some number) out e = unitless_zero number out e

length_zero : (out : List ℕ) → list_all is_number_character out ≡ true → length_lowered false true out ≡ Some out → codes "0" ≡ out
unfolding length_lowered
length_zero out all e =
    let len = all_front out all in
    zero_read (number_of false (take (number_len out) out)) out
    (ap (λ unit. option_map_or (λ number. length_with true number unit) (number_of false (take (number_len out) out)) None)
    (sym (drop_all (number_len out) out (omega (arith, len)))) ∙ e)

zero_number : number_read false (codes "0") ≡ Some (codes "0")
unfolding number_of number_text
zero_number = refl

-- ---- all forms of one word

-- what is read as itself, and is an atom
pub record IsFixed (form : WordForm) (out : List ℕ) : Type 0 where
  pub again : word_read form out ≡ Some out
  pub atom : is_atom out ≡ true

module _ (laws : AtomLaws) where
  number_or_length : (out : List ℕ) → is_atom out ≡ true → length_read false true out ≡ Some out → option_or (number_read false out) (length_read false true out) ≡ Some out
  number_or_length out atom e = go (number_read false out) refl where
    go : (found : Option (List ℕ)) → number_read false out ≡ found → option_or found (length_read false true out) ≡ Some out
    go None is = e
    go (Some other) is =
        let zero = length_zero out (laws.unitless false out other is) (ap (length_lowered false true) (sym (atom-lowered out atom)) ∙ e) in
        sym is ∙ ap (number_read false) (sym zero) ∙ zero_number ∙ ap Some zero

  pub word-fixed : (form : WordForm) (text out : List ℕ) → word_read form text ≡ Some out → IsFixed form out
  unfolding word_read
  word-fixed (Color transparent) text out e = record { again = laws.color transparent text out e; atom = laws.color_atom transparent text out e }
  word-fixed (Keyword keywords) text out e =
      let is = keyword-out keywords text out e in
      record { again = keyword-again keywords out is; atom = keyword-atom keywords out is }
  word-fixed (Length signed percent keywords) text out e =
      or_either (keyword_read keywords text) (length_read signed percent text) out e
      (λ here. let is = keyword-out keywords text out here in
      record { again = ap (λ o. option_or o (length_read signed percent out)) (keyword-again keywords out is); atom = keyword-atom keywords out is })
      (λ behind. let atom = laws.length_atom signed percent text out behind in
      record { again = keyword-or keywords (length_read signed percent out) out (atom-lowered out atom) (laws.length signed percent text out behind); atom = atom })
  word-fixed LineHeight text out e =
      let later = option_or (number_read false out) (length_read false true out) in
      or_either (keyword_read Normal text) (option_or (number_read false text) (length_read false true text)) out e
      (λ here. let is = keyword-out Normal text out here in
      record { again = ap (λ o. option_or o later) (keyword-again Normal out is); atom = keyword-atom Normal out is })
      (λ behind. or_either (number_read false text) (length_read false true text) out behind
      (λ number. let atom = laws.number_atom false text out number in
      record { again = keyword-or Normal later out (atom-lowered out atom) (ap (λ o. option_or o (length_read false true out)) (laws.number false text out number)); atom = atom })
      (λ length. let atom = laws.length_atom false true text out length in
      record { again = keyword-or Normal later out (atom-lowered out atom) (number_or_length out atom (laws.length false true text out length)); atom = atom }))
