-- Words joined by spaces are read as these words.
use Rattle.std.proofs.Common.{◌≡◌, ℕ, true, List, [], ◌∷◌, filter, refl, ap, ◌∙◌}
use Rattle.std.specs.List.{list_all, join_with_byte}
use Rattle.std.proofs.lemmas.Bool.{and_parts, and_from, cond-true}
use Rattle.pur_csstok.specs.Cuts.{pieces_from, is_whole, is_plain}
use Rattle.pur_csstok.specs.Declarations.{is_word, is_plain_word, words_of}
use Rattle.pur_csstok.specs.declared.cuts.Separator.TheVariants.{Space}
use Rattle.pur_csstok.proofs.CutLaws.{plain_whole, joined_pieces}

words_whole : (words : List (List ℕ)) → list_all is_plain_word words ≡ true → list_all (is_whole Space) words ≡ true
words_whole [] all = refl
words_whole (word ∷ words) all =
    let both = and_parts (is_plain_word word) (list_all is_plain_word words) all in
    and_from _ _ (plain_whole Space word (and_parts (is_word word) (list_all (is_plain Space) word) both.0).1) (words_whole words both.1)

words_kept : (words : List (List ℕ)) → list_all is_plain_word words ≡ true → filter is_word words ≡ words
words_kept [] all = refl
words_kept (word ∷ words) all =
    let both = and_parts (is_plain_word word) (list_all is_plain_word words) all in
    cond-true _ _ _ (and_parts (is_word word) (list_all (is_plain Space) word) both.0).0 ∙ ap (λ t. word ∷ t) (words_kept words both.1)

pub words-again : (words : List (List ℕ)) → list_all is_plain_word words ≡ true → words_of (join_with_byte 0x20 words) ≡ words
unfolding pieces_from
words-again [] all = refl
words-again (word ∷ words) all =
    ap (filter is_word) (joined_pieces Space 0x20 refl word words (words_whole (word ∷ words) all)) ∙ words_kept (word ∷ words) all
