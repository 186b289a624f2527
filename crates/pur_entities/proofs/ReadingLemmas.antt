-- How the code cuts a text at its references, in bytes.
use Rattle.std.proofs.Common.{◌≡◌, ℕ, ◌≤◌, true, List, [], ◌∷◌, ◌++◌, filter, Some, None, IsUtf8, refl, sym, ap, ◌∙◌, arith, ⊎_elim, append_assoc, lit<}
use Rattle.std.specs.Prelude.{Option, option_map, IsTrue}
use Rattle.std.proofs.lemmas.Option.{none-some, same_Some}
use Rattle.std.proofs.lemmas.Str.{chars-append, chars-nil}
use Rattle.pur_laws.proofs.Lists.{all-fails, all-weaker}
use Rattle.pur_entities.proofs.NumeralLemmas.{cut_off, allowed_cut_off}
use Rattle.std.specs.List.{list_all}
use Rattle.std.specs.Option.{option_map_or}
use Rattle.std.specs.Str.{chars}
use Rattle.std.proofs.lemmas.Bool.Decides.{nat_tests}
use Rattle.pur_text.specs.Characters.{is_allowed}
use Rattle.pur_entities.specs.Private.Cuts.{is_plain, is_inside, IsCutOff, HasNoBody}
use Rattle.pur_entities.specs.References.{number_meant, before_semicolon, character_piece, reference_piece, piece_with, ampersand_piece, decoded}
use Rattle.pur_laws.proofs.Texts.{chars_around, text_passes}
use Rattle.pur_entities.proofs.BodyLemmas.{no_semicolon, nothing_meant, passes_plain}
use Rattle.pur_entities.proofs.ReferenceLemmas.{semicolon_found, semicolon_missed, semicolon_behind, inside_semicolon, decoded-ampersand, decoded-reference, decoded-plain, decoded-same}

nothing_meant_piece : (body : List ℕ) → number_meant body ≡ None → piece_with body ≡ character_piece 0x26
nothing_meant_piece body e = ap (λ o. option_map_or (reference_piece body) o (character_piece 0x26)) e

-- the body means nothing
pub no_reference : (body text : List ℕ) → list_all no_semicolon body ≡ true → number_meant body ≡ None → ampersand_piece (body ++ 0x3B ∷ text) ≡ character_piece 0x26
no_reference body text all e =
    ap (λ o. option_map_or piece_with o (character_piece 0x26)) (semicolon_found body text all) ∙ nothing_meant_piece body e

-- there is no body
no_body_cut : (before behind : List ℕ) → list_all is_inside before ≡ true → ampersand_piece (before ++ 0x26 ∷ behind) ≡ character_piece 0x26
no_body_cut before behind inside =
    ap (λ o. option_map_or piece_with o (character_piece 0x26)) (semicolon_behind before behind (all-weaker is_inside no_semicolon inside_semicolon before inside))
    ∙ by (before_semicolon behind)
  where
    by : (o : Option (List ℕ)) → option_map_or piece_with (option_map (λ body. before ++ 0x26 ∷ body) o) (character_piece 0x26) ≡ character_piece 0x26
    by None = refl
    by (Some body) = nothing_meant_piece (before ++ 0x26 ∷ body) (nothing_meant is_plain passes_plain (before ++ 0x26 ∷ body) (all-fails is_plain before body 0x26 refl))

no_body_whole : (text : List ℕ) → list_all is_inside text ≡ true → ampersand_piece text ≡ character_piece 0x26
no_body_whole text inside =
    ap (λ o. option_map_or piece_with o (character_piece 0x26)) (semicolon_missed text (all-weaker is_inside no_semicolon inside_semicolon text inside))

wide_inside : (c : ℕ) → 128 ≤ c → is_inside c ≡ true
wide_inside c high = grind (arith, nat_tests)

wide_plain : (c : ℕ) → 128 ≤ c → is_plain c ≡ true
wide_plain c high = grind (arith, nat_tests)

-- no body stands behind an `&`
pub no_body : (text : List ℕ) → HasNoBody text → IsUtf8 text → decoded (0x26 ∷ chars text) ≡ 0x26 ∷ decoded (chars text)
no_body text none is = decoded-ampersand (chars text) (⊎_elim
    (λ (cut : IsCutOff text).
    ap ampersand_piece (ap chars cut.text_is ∙ chars_around cut.before cut.behind 0x26 cut.before_is_text cut.behind_is_text (lit< tt))
    ∙ no_body_cut (chars cut.before) (chars cut.behind) (text_passes is_inside wide_inside cut.before cut.before_is_text cut.inside))
    (λ (whole : IsTrue (list_all is_inside text)). no_body_whole (chars text) (text_passes is_inside wide_inside text is whole))
    none)

module _ (text body behind : List ℕ) (is_body : IsUtf8 body) (is_behind : IsUtf8 behind) (parts : text ≡ body ++ 0x3B ∷ behind)
    (inside : list_all is_inside body ≡ true) where
  parts_chars : chars text ≡ chars body ++ 0x3B ∷ chars behind
  parts_chars = ap chars parts ∙ chars_around body behind 0x3B is_body is_behind (lit< tt)

  body_ends : list_all no_semicolon (chars body) ≡ true
  body_ends = all-weaker is_inside no_semicolon inside_semicolon (chars body) (text_passes is_inside wide_inside body is_body inside)

  pub reference_refused : None ≡ option_map cut_off (number_meant (chars body)) → decoded (0x26 ∷ chars text) ≡ 0x26 ∷ decoded (chars text)
  reference_refused none = by (number_meant (chars body)) refl none
    where
      by : (o : Option ℕ) → number_meant (chars body) ≡ o → None ≡ option_map cut_off o → decoded (0x26 ∷ chars text) ≡ 0x26 ∷ decoded (chars text)
      by None e none = decoded-ampersand (chars text) (ap ampersand_piece parts_chars ∙ no_reference (chars body) (chars behind) body_ends e)
      by (Some number) e none = absurd (none-some (cut_off number) none)

  pub reference_read : (n : ℕ) → Some n ≡ option_map cut_off (number_meant (chars body))
      → filter is_allowed (n ∷ []) ++ decoded (chars behind) ≡ decoded (0x26 ∷ chars text)
  reference_read n some = by (number_meant (chars body)) refl some
    where
      by : (o : Option ℕ) → number_meant (chars body) ≡ o → Some n ≡ option_map cut_off o → filter is_allowed (n ∷ []) ++ decoded (chars behind) ≡ decoded (0x26 ∷ chars text)
      by None e some = absurd (none-some n (sym some))
      by (Some number) e some =
          let same : n ≡ cut_off number = same_Some n (cut_off number) some in
          ap (λ m. filter is_allowed (m ∷ []) ++ decoded (chars behind)) same
          ∙ ap (λ l. l ++ decoded (chars behind)) (allowed_cut_off number)
          ∙ sym (decoded-reference (chars body) (chars behind) number body_ends e)
          ∙ ap (λ t. decoded (0x26 ∷ t)) (sym parts_chars)

-- an `&` was written
pub ampersand_written : (before after text : List ℕ) → after ≡ before ++ 0x26 ∷ [] → 0x26 ∷ decoded text ≡ decoded (0x26 ∷ text)
    → after ++ decoded text ≡ before ++ decoded (0x26 ∷ text)
ampersand_written before after text after_is none =
    ap (λ t. t ++ decoded text) after_is ∙ append_assoc before (0x26 ∷ []) (decoded text) ∙ ap (λ t. before ++ t) none

-- nothing was read yet; a run was copied; all was read
pub nothing_read : (output rest : List ℕ) → output ≡ [] → chars output ++ rest ≡ rest
nothing_read output rest none = rw (none, chars-nil) refl

pub run_copied : (output run behind rest more whole : List ℕ) → IsUtf8 output → IsUtf8 run → IsUtf8 behind → more ≡ output ++ run
    → rest ≡ run ++ 0x26 ∷ behind → list_all is_plain run ≡ true → chars output ++ decoded (chars rest) ≡ whole
    → chars more ++ decoded (0x26 ∷ chars behind) ≡ whole
run_copied output run behind rest more whole is_output is_run is_behind more_is rest_is plain e =
    let later = decoded (0x26 ∷ chars behind) in
    let read : decoded (chars rest) ≡ chars run ++ later =
    ap decoded (ap chars rest_is ∙ chars_around run behind 0x26 is_run is_behind (lit< tt))
    ∙ decoded-plain (chars run) (0x26 ∷ chars behind) (text_passes is_plain wide_plain run is_run plain) in
    ap (λ t. t ++ later) (ap chars more_is ∙ chars-append output run is_output)
    ∙ append_assoc (chars output) (chars run) later
    ∙ ap (λ t. chars output ++ t) (sym read) ∙ e

pub all_read : (output rest more whole : List ℕ) → IsUtf8 output → IsUtf8 rest → more ≡ output ++ rest → list_all is_plain rest ≡ true
    → chars output ++ decoded (chars rest) ≡ whole → chars more ≡ whole
all_read output rest more whole is_output is_rest more_is plain e =
    ap chars more_is ∙ chars-append output rest is_output
    ∙ ap (λ t. chars output ++ t) (sym (decoded-same (chars rest) (text_passes is_plain wide_plain rest is_rest plain))) ∙ e
