-- How a text with references is read from its front, and what that gives.
use Rattle.std.proofs.Common.{◌≡◌, ℕ, zero, suc, ◌+◌, true, false, List, [], ◌∷◌, ◌++◌, length, drop, filter, Some, None, codes, refl, sym, ap, subst, ◌∙◌, arith, ⊎_elim, append_assoc, append-nil}
use Rattle.std.specs.Prelude.{◌==◌, not, Option, option_map}
use Rattle.std.proofs.lemmas.Option.{none-some, same_Some}
use Rattle.std.specs.List.{list_all}
use Rattle.std.specs.Option.{option_map_or}
use Rattle.std.specs.Str.{bytes_eq}
use Rattle.std.proofs.lemmas.Bool.{cases_Bool, cases_eq, not-true, cond-true, cond-false, and_parts, and_from, ne_eqb}
use Rattle.std.proofs.lemmas.Bool.Decides.{nat_tests}
use Rattle.std.proofs.lemmas.List.Folds.{list_all-append}
use Rattle.pur_text.specs.Characters.{is_allowed}
use Rattle.pur_entities.specs.Private.Cuts.{is_plain, is_inside}
use Rattle.pur_entities.specs.Entities.{Entity, latin_1, special, greek, other_symbols, entities, character_in, named_character}
use Rattle.pur_entities.specs.References.{number_meant, before_semicolon, Piece, character_piece, reference_piece, piece_with, ampersand_piece, first_piece, decoded_behind, decoded}
use Rattle.pur_text.specs.Escapes.{escape, escaped}
use Rattle.pur_entities.proofs.BodyLemmas.{no_semicolon, nothing_meant, passes_no_semicolon}

-- it ends at the first `;`
pub semicolon_found : (body rest : List ℕ) → list_all no_semicolon body ≡ true → before_semicolon (body ++ 0x3B ∷ rest) ≡ Some body
unfolding before_semicolon
semicolon_found [] rest all = refl
semicolon_found (c ∷ body) rest all =
    let both = and_parts _ _ all in
    let other : (c == 0x3B) ≡ false = not-true _ both.0 in
    cond-false _ _ _ other ∙ ap (option_map (λ before. c ∷ before)) (semicolon_found body rest both.1)

-- without one there is none
pub semicolon_missed : (text : List ℕ) → list_all no_semicolon text ≡ true → before_semicolon text ≡ None
unfolding before_semicolon
semicolon_missed [] all = refl
semicolon_missed (c ∷ text) all =
    let both = and_parts _ _ all in
    let other : (c == 0x3B) ≡ false = not-true _ both.0 in
    cond-false _ _ _ other ∙ ap (option_map (λ before. c ∷ before)) (semicolon_missed text both.1)

-- where an `&` comes before it, that is in the body
pub semicolon_behind : (before behind : List ℕ) → list_all no_semicolon before ≡ true
    → before_semicolon (before ++ 0x26 ∷ behind) ≡ option_map (λ body. before ++ 0x26 ∷ body) (before_semicolon behind)
unfolding before_semicolon
semicolon_behind [] behind all = refl
semicolon_behind (c ∷ before) behind all =
    let both = and_parts _ _ all in
    let other : (c == 0x3B) ≡ false = not-true _ both.0 in
    cond-false _ _ _ other ∙ ap (option_map (λ body. c ∷ body)) (semicolon_behind before behind both.1) ∙ joined (before_semicolon behind)
  where
    joined : (o : Option (List ℕ)) → option_map (λ body. c ∷ body) (option_map (λ body. before ++ 0x26 ∷ body) o) ≡ option_map (λ body. c ∷ (before ++ 0x26 ∷ body)) o
    joined None = refl
    joined (Some body) = refl

pub inside_semicolon : (c : ℕ) → is_inside c ≡ true → no_semicolon c ≡ true
inside_semicolon c is = grind (arith, nat_tests)

-- skipping is dropping
skipped : (n : ℕ) (text : List ℕ) → decoded_behind n text ≡ decoded (drop n text)
unfolding decoded decoded_behind
skipped zero text = refl
skipped (suc n) [] = refl
skipped (suc n) (c ∷ text) = skipped n text

-- an `&` that begins no reference
pub decoded-ampersand : (text : List ℕ) → ampersand_piece text ≡ character_piece 0x26 → decoded (0x26 ∷ text) ≡ 0x26 ∷ decoded text
unfolding decoded decoded_behind
decoded-ampersand text e = ap (λ (piece : Piece). piece.gives ++ decoded_behind piece.behind text) e

-- a reference
pub decoded-reference : (body text : List ℕ) (number : ℕ) → list_all no_semicolon body ≡ true → number_meant body ≡ Some number
    → decoded (0x26 ∷ (body ++ 0x3B ∷ text)) ≡ filter is_allowed (number ∷ []) ++ decoded text
unfolding decoded decoded_behind
decoded-reference body text number all e =
    let whole = body ++ 0x3B ∷ text in
    let piece : ampersand_piece whole ≡ reference_piece body number =
    ap (λ o. option_map_or piece_with o (character_piece 0x26)) (semicolon_found body text all)
    ∙ ap (λ o. option_map_or (reference_piece body) o (character_piece 0x26)) e in
    let rest : drop (length body + 1) whole ≡ text = behind_body body text in
    ap (λ (piece : Piece). piece.gives ++ decoded_behind piece.behind whole) piece
    ∙ ap (λ t. filter is_allowed (number ∷ []) ++ t) (skipped (length body + 1) whole ∙ ap decoded rest)
  where
    behind_body : (body text : List ℕ) → drop (length body + 1) (body ++ 0x3B ∷ text) ≡ text
    behind_body [] text = refl
    behind_body (c ∷ body) text = let up : length (c ∷ body) + 1 ≡ suc (length body + 1) = omega arith in rw up (behind_body body text)

-- any other character
pub decoded-character : (c : ℕ) (text : List ℕ) → is_plain c ≡ true → decoded (c ∷ text) ≡ c ∷ decoded text
unfolding decoded decoded_behind
decoded-character c text plain =
    let piece : first_piece c text ≡ character_piece c = cond-false _ _ _ (not-true _ plain) in
    ap (λ (piece : Piece). piece.gives ++ decoded_behind piece.behind text) piece

-- a run without an `&`
pub decoded-plain : (run text : List ℕ) → list_all is_plain run ≡ true → decoded (run ++ text) ≡ run ++ decoded text
decoded-plain [] text all = refl
decoded-plain (c ∷ run) text all =
    let both = and_parts _ _ all in
    decoded-character c (run ++ text) both.0 ∙ ap (λ t. c ∷ t) (decoded-plain run text both.1)

-- a text without one is decoded to itself
pub decoded-same : (text : List ℕ) → list_all is_plain text ≡ true → decoded text ≡ text
unfolding decoded decoded_behind
decoded-same text all = ap decoded (sym (append-nil text)) ∙ decoded-plain text [] all ∙ append-nil text

-- a body that means something has no `;`
ended_by_semicolon : (body : List ℕ) (number : ℕ) → number_meant body ≡ Some number → list_all no_semicolon body ≡ true
ended_by_semicolon body number e = ⊎_elim
    (λ (yes : list_all no_semicolon body ≡ true). yes)
    (λ (fails : list_all no_semicolon body ≡ false). absurd (none-some number (sym (nothing_meant no_semicolon passes_no_semicolon body fails) ∙ e)))
    (cases_Bool (list_all no_semicolon body))

-- a reference is read
pub decoded-meant : (body rest : List ℕ) (number : ℕ) → number_meant body ≡ Some number
    → decoded (0x26 ∷ (body ++ 0x3B ∷ rest)) ≡ filter is_allowed (number ∷ []) ++ decoded rest
decoded-meant body rest number e = decoded-reference body rest number (ended_by_semicolon body number e) e

-- the characters that names stand for are allowed
allowed_in : (list : List Entity) (name : List ℕ) (c : ℕ) → list_all (λ (entity : Entity). is_allowed entity.1) list ≡ true
    → character_in list name ≡ Some c → is_allowed c ≡ true
unfolding character_in
allowed_in [] name c all e = absurd (none-some c e)
allowed_in (entity ∷ more) name c all e =
    let both = and_parts _ _ all in
    ⊎_elim
    (λ (yes : bytes_eq entity.0 name ≡ true).
    let same : entity.1 ≡ c = same_Some entity.1 c (sym (cond-true _ _ _ yes) ∙ e) in
    subst (λ d. is_allowed d ≡ true) same both.0)
    (λ (other : bytes_eq entity.0 name ≡ false). allowed_in more name c both.1 (sym (cond-false _ _ _ other) ∙ e))
    (cases_Bool (bytes_eq entity.0 name))

pub named-allowed : (name : List ℕ) (c : ℕ) → named_character name ≡ Some c → is_allowed c ≡ true
unfolding named_character entities latin_1 special greek other_symbols
named-allowed name c e = allowed_in entities name c refl e

-- a piece gives allowed characters alone
kept_allowed : (n : ℕ) → list_all is_allowed (filter is_allowed (n ∷ [])) ≡ true
kept_allowed n = ⊎_elim
    (λ (yes : is_allowed n ≡ true). subst (λ l. list_all is_allowed l ≡ true) {x = n ∷ []} (sym (cond-true _ _ _ yes)) (rw yes refl))
    (λ (other : is_allowed n ≡ false). subst (λ l. list_all is_allowed l ≡ true) {x = []} (sym (cond-false _ _ _ other)) refl)
    (cases_Bool (is_allowed n))

piece_allowed : (c : ℕ) (text : List ℕ) → is_allowed c ≡ true → list_all is_allowed (first_piece c text).gives ≡ true
piece_allowed c text is = ⊎_elim
    (λ (ampersand : (c == 0x26) ≡ true).
    subst (λ (piece : Piece). list_all is_allowed piece.gives ≡ true) {x = ampersand_piece text} (sym (cond-true _ _ _ ampersand)) (with_body (before_semicolon text)))
    (λ (other : (c == 0x26) ≡ false).
    subst (λ (piece : Piece). list_all is_allowed piece.gives ≡ true) {x = character_piece c} (sym (cond-false _ _ _ other)) (rw is refl))
    (cases_Bool (c == 0x26))
  where
    with_number : (body : List ℕ) (o : Option ℕ) → list_all is_allowed (option_map_or (reference_piece body) o (character_piece 0x26)).gives ≡ true
    with_number body None = refl
    with_number body (Some number) = kept_allowed number

    with_body : (o : Option (List ℕ)) → list_all is_allowed (option_map_or piece_with o (character_piece 0x26)).gives ≡ true
    with_body None = refl
    with_body (Some body) = with_number body (number_meant body)

behind_allowed : (n : ℕ) (text : List ℕ) → list_all is_allowed text ≡ true → list_all is_allowed (decoded_behind n text) ≡ true
unfolding decoded decoded_behind
behind_allowed zero [] all = refl
behind_allowed (suc n) [] all = refl
behind_allowed (suc n) (c ∷ text) all = behind_allowed n text (and_parts (is_allowed c) (list_all is_allowed text) all).1
behind_allowed zero (c ∷ text) all =
    let both = and_parts (is_allowed c) (list_all is_allowed text) all in
    let piece = first_piece c text in
    list_all-append is_allowed piece.gives (decoded_behind piece.behind text)
    ∙ and_from _ _ (piece_allowed c text both.0) (behind_allowed piece.behind text both.1)

-- what an allowed text is decoded to is allowed
pub decoded-allowed : (text : List ℕ) → list_all is_allowed text ≡ true → list_all is_allowed (decoded text) ≡ true
unfolding decoded
decoded-allowed text all = behind_allowed 0 text all

-- what is escaped is read as it was
escape_read : (c : ℕ) (rest : List ℕ) → decoded (escape c ++ rest) ≡ c ∷ decoded rest
unfolding number_meant named_character entities latin_1 special greek other_symbols character_in
escape_read c rest =
    let Read : ℕ → Type 0 = λ d. decoded (escape d ++ rest) ≡ d ∷ decoded rest in
    ⊎_elim
    (λ (ampersand : c ≡ 0x26). subst Read (sym ampersand) (decoded-reference (codes "amp") rest 0x26 refl refl))
    (λ (other : c ≡ 0x26 → ⊥). ⊎_elim
    (λ (less : c ≡ 0x3C). subst Read (sym less) (decoded-reference (codes "lt") rest 0x3C refl refl))
    (λ (other_2 : c ≡ 0x3C → ⊥). ⊎_elim
    (λ (greater : c ≡ 0x3E). subst Read (sym greater) (decoded-reference (codes "gt") rest 0x3E refl refl))
    (λ (other_3 : c ≡ 0x3E → ⊥).
    let no_ampersand = ne_eqb c 0x26 other in
    let itself : escape c ≡ c ∷ [] =
    cond-false _ _ _ no_ampersand ∙ cond-false _ _ _ (ne_eqb c 0x3C other_2) ∙ cond-false _ _ _ (ne_eqb c 0x3E other_3) in
    ap (λ l. decoded (l ++ rest)) itself ∙ decoded-character c rest (ap not no_ampersand))
    (cases_eq c 0x3E))
    (cases_eq c 0x3C))
    (cases_eq c 0x26)

pub decoded-escaped-append : (text rest : List ℕ) → decoded (escaped text ++ rest) ≡ text ++ decoded rest
unfolding escaped
decoded-escaped-append [] rest = refl
decoded-escaped-append (c ∷ text) rest =
    ap decoded (append_assoc (escape c) (escaped text) rest)
    ∙ escape_read c (escaped text ++ rest)
    ∙ ap (λ t. c ∷ t) (decoded-escaped-append text rest)

pub decoded-escaped : (text : List ℕ) → decoded (escaped text) ≡ text
unfolding decoded decoded_behind
decoded-escaped text = ap decoded (sym (append-nil (escaped text))) ∙ decoded-escaped-append text [] ∙ append-nil text
