-- What any form reads is read as itself.
use Rattle.std.proofs.Common.{◌≡◌, ℕ, Bool, false, List, Some, None, Option, ap, sym, ◌∙◌, refl, IsUtf8}
use Rattle.std.specs.Option.{option_or}
use Rattle.std.specs.Str.{chars, str_to_ascii_lowercase}
use Rattle.pur_settings.specs.Rules.{Rules}
use Rattle.pur_csstok.specs.Families.{families_read}
use Rattle.pur_uri.specs.Uris.{uri_text}
use Rattle.pur_uripolicy.specs.HostRules.{PlainHostRule}
use Rattle.pur_cssprops.specs.Forms.{ordered_read, border_read, decoration_read, form_read, value_read}
use Rattle.pur_cssprops.specs.Keywords.{keyword_read}
use Rattle.pur_cssprops.specs.Laws.{ReadAsItself}
use Rattle.pur_cssprops.specs.declared.forms.ValueForm.{ValueForm}
use Rattle.pur_cssprops.specs.declared.forms.ValueForm.TheVariants.{Word, Image, Families, Words, Border, Decoration}
use Rattle.pur_cssprops.specs.declared.forms.WordForm.TheVariants.{Color, Keyword, Length}
use Rattle.pur_cssprops.specs.declared.keywords.Keywords.TheVariants.{Inherit, NoneAlone, LineWidth, LineStyle, Underline, Overline, LineThrough}
use Rattle.pur_cssprops.proofs.ApartLaws.{width_style, width_color, style_color, under_over, under_through, over_through}
use Rattle.pur_cssprops.proofs.FamilyLaws.{families_no_inherit}
use Rattle.pur_cssprops.proofs.KeywordLemmas.{keyword-atom, atom-lowered}
use Rattle.pur_cssprops.proofs.SequenceLaws.{words-again, words-lowered, ordered-again, ordered-lowered}
use Rattle.pur_cssprops.proofs.UrlLaws.{UrlLaws, IsUrl, url_no_keyword, image-is, image-again}
use Rattle.pur_cssprops.proofs.WordLaws.{AtomLaws, keyword-out, keyword-again, keyword-or, or_either, word-fixed}

module _ (atoms : AtomLaws) where
  border-again : (text out : List ℕ) → border_read text ≡ Some out → border_read out ≡ Some out
  border-again = ordered-again atoms (Length false false LineWidth) (Keyword LineStyle) (Color false) (width_style atoms) (width_color atoms) (style_color atoms)

  border-lowered : (text out : List ℕ) → border_read text ≡ Some out → str_to_ascii_lowercase out ≡ out
  border-lowered = ordered-lowered atoms (Length false false LineWidth) (Keyword LineStyle) (Color false)

  abbrev lines : List ℕ → Option (List ℕ)
  lines text = ordered_read (Keyword Underline) (Keyword Overline) (Keyword LineThrough) text

  lines-again : (text out : List ℕ) → lines text ≡ Some out → lines out ≡ Some out
  lines-again = ordered-again atoms (Keyword Underline) (Keyword Overline) (Keyword LineThrough) under_over under_through over_through

  lines-lowered : (text out : List ℕ) → lines text ≡ Some out → str_to_ascii_lowercase out ≡ out
  lines-lowered = ordered-lowered atoms (Keyword Underline) (Keyword Overline) (Keyword LineThrough)

  decoration-lowered : (text out : List ℕ) → decoration_read text ≡ Some out → str_to_ascii_lowercase out ≡ out
  decoration-lowered text out e =
      or_either (keyword_read NoneAlone text) (lines text) out e
      (λ here. atom-lowered out (keyword-atom NoneAlone out (keyword-out NoneAlone text out here)))
      (lines-lowered text out)

  decoration-again : (text out : List ℕ) → decoration_read text ≡ Some out → decoration_read out ≡ Some out
  decoration-again text out e =
      or_either (keyword_read NoneAlone text) (lines text) out e
      (λ here. ap (λ o. option_or o (lines out)) (keyword-again NoneAlone out (keyword-out NoneAlone text out here)))
      (λ behind. keyword-or NoneAlone (lines out) out (lines-lowered text out behind) (lines-again text out behind))

  module _ (urls : UrlLaws) (families : (text out : List ℕ) → families_read text ≡ Some out → families_read out ≡ Some out) (rules : Rules) (rule : PlainHostRule) where
    abbrev read : ValueForm → List ℕ → Option (List ℕ)
    read form text = form_read rules rule form text

    -- behind `inherit`, where what is read is in lower case or isn't that word
    lowered-stays : (form : ValueForm) (out : List ℕ) → str_to_ascii_lowercase out ≡ out → read form out ≡ Some out → value_read rules rule form out ≡ Some out
    unfolding value_read
    lowered-stays form out low again = keyword-or Inherit (read form out) out low again

    other-stays : (form : ValueForm) (out : List ℕ) → keyword_read Inherit out ≡ None → read form out ≡ Some out → value_read rules rule form out ≡ Some out
    unfolding value_read
    other-stays form out none again = ap (λ o. option_or o (read form out)) none ∙ again

    url-other : (out : List ℕ) → IsUrl rules rule out → keyword_read Inherit out ≡ None
    url-other out is = ap (keyword_read Inherit) (sym is.written) ∙ url_no_keyword Inherit refl (uri_text is.uri)

    form-stays : (form : ValueForm) (raw out : List ℕ) → IsUtf8 raw → read form (chars raw) ≡ Some out → value_read rules rule form out ≡ Some out
    unfolding form_read
    form-stays (Word form) raw out is e =
        let fixed = word-fixed atoms form (chars raw) out e in
        lowered-stays (Word form) out (atom-lowered out fixed.atom) fixed.again
    form-stays Image raw out is e =
        let again = image-again urls rules rule raw out is e in
        image-is urls rules rule raw out is e
        (λ one. lowered-stays Image out (atom-lowered out (keyword-atom NoneAlone out one)) again)
        (λ url. other-stays Image out (url-other out url) again)
    form-stays Families raw out is e = other-stays Families out (families_no_inherit (chars raw) out e) (families (chars raw) out e)
    form-stays (Words form) raw out is e = lowered-stays (Words form) out (words-lowered atoms form (chars raw) out e) (words-again atoms form (chars raw) out e)
    form-stays Border raw out is e = lowered-stays Border out (border-lowered (chars raw) out e) (border-again (chars raw) out e)
    form-stays Decoration raw out is e = lowered-stays Decoration out (decoration-lowered (chars raw) out e) (decoration-again (chars raw) out e)

    value-stays : (form : ValueForm) (raw out : List ℕ) → IsUtf8 raw → value_read rules rule form (chars raw) ≡ Some out → value_read rules rule form out ≡ Some out
    unfolding value_read
    value-stays form raw out is e =
        or_either (keyword_read Inherit (chars raw)) (read form (chars raw)) out e
        (λ here. ap (λ o. option_or o (read form out)) (keyword-again Inherit out (keyword-out Inherit (chars raw) out here)))
        (form-stays form raw out is)

pub all-stay : AtomLaws → UrlLaws → ((text out : List ℕ) → families_read text ≡ Some out → families_read out ≡ Some out) → ReadAsItself
all-stay atoms urls families rules rule form raw out is e = value-stays atoms urls families rules rule form raw out is e
