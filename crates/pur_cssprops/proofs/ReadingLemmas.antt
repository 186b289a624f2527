-- What a form reads of words, one after another.
use Rattle.std.proofs.Common.{◌≡◌, ℕ, ◌+◌, ◌<◌, List, [], ◌∷◌, ◌++◌, length, drop, get_or, map, String, Some, None, sym, ap, ◌∙◌, append-nil, append_assoc}
use Rattle.std.specs.Prelude.{Option}
use Rattle.std.specs.declared.alloc.Global.{Global}
use Rattle.std.specs.List.{cons_option}
use Rattle.std.proofs.lemmas.List.{drop_more}
use Rattle.pur_text.specs.Texts.{text_of}
use Rattle.pur_cssprops.specs.Forms.{readings, word_read}
use Rattle.pur_cssprops.specs.declared.forms.WordForm.{WordForm}

one_more : (reading : Option (List ℕ)) (before behind : List (List ℕ)) → (before ++ cons_option reading []) ++ behind ≡ before ++ cons_option reading behind
one_more None before behind = ap (λ t. t ++ behind) (append-nil before)
one_more (Some value) before behind = append_assoc before (value ∷ []) behind

-- the first of the words that are left
pub next_reading : (form : WordForm) (words : List (String Global)) (i : ℕ) (word : String Global) (before : List (List ℕ)) → i < length words → get_or words i word ≡ word
    → (before ++ cons_option (word_read form (text_of word)) []) ++ readings form (map text_of (drop (i + 1) words)) ≡ before ++ readings form (map text_of (drop i words))
next_reading form words i word before within is =
    one_more (word_read form (text_of word)) before (readings form (map text_of (drop (i + 1) words)))
    ∙ ap (λ t. before ++ readings form (map text_of t)) (sym (drop_more words i word within ∙ ap (λ w. w ∷ drop (i + 1) words) is))

pub all_read : (form : WordForm) (words : List (String Global)) (i : ℕ) (before : List (List ℕ)) → drop i words ≡ [] → before ≡ before ++ readings form (map text_of (drop i words))
all_read form words i before none = sym (append-nil before) ∙ ap (λ t. before ++ readings form (map text_of t)) (sym none)
