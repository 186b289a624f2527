-- No word has two of the forms of a border, or of a decoration, however it is written.
use Rattle.std.proofs.Common.{◌≡◌, ℕ, false, cond, List, [], ◌∷◌, Some, None, refl, sym, ap, ◌∙◌}
use Rattle.std.specs.Char.{to_ascii_lowercase}
use Rattle.std.specs.Option.{option_or}
use Rattle.std.specs.Str.{str_to_ascii_lowercase}
use Rattle.std.proofs.lemmas.Str.Ascii.{lowercase-lowercase}
use Rattle.pur_laws.proofs.Tests.{kept}
use Rattle.pur_csstok.specs.Colors.{lowered_read, color_read}
use Rattle.pur_csstok.specs.Lengths.{length_lowered, length_read}
use Rattle.pur_csstok.specs.Names.{is_one_of}
use Rattle.pur_cssprops.specs.Forms.{word_read, width, style, color}
use Rattle.pur_cssprops.specs.Keywords.{words_in, keyword_read}
use Rattle.pur_cssprops.specs.Laws.{NeverBoth}
use Rattle.pur_cssprops.specs.declared.forms.WordForm.{WordForm}
use Rattle.pur_cssprops.specs.declared.forms.WordForm.TheVariants.{Keyword}
use Rattle.pur_cssprops.specs.declared.keywords.Keywords.{Keywords}
use Rattle.pur_cssprops.specs.declared.keywords.Keywords.TheVariants.{LineWidth, LineStyle, Underline, Overline, LineThrough}
use Rattle.pur_cssprops.proofs.ApartLaws.{keyword_apart, no_color, widths_no_color, styles_no_width, styles_no_color, under_over, under_through, over_through}
use Rattle.pur_cssprops.proofs.SequenceLaws.{Apart}
use Rattle.pur_cssprops.proofs.WordLaws.{or_either}

lowered_twice : (text : List ℕ) → str_to_ascii_lowercase (str_to_ascii_lowercase text) ≡ str_to_ascii_lowercase text
lowered_twice [] = refl
lowered_twice (c ∷ text) =
    ap (λ b. b ∷ str_to_ascii_lowercase (str_to_ascii_lowercase text)) (lowercase-lowercase c) ∙ ap (λ t. to_ascii_lowercase c ∷ t) (lowered_twice text)

-- a form that is read in lower case
abbrev IsLowered : WordForm → Type 0
IsLowered form = (text : List ℕ) → word_read form (str_to_ascii_lowercase text) ≡ word_read form text

keyword-lowered : (keywords : Keywords) → IsLowered (Keyword keywords)
unfolding word_read keyword_read
keyword-lowered keywords text = ap (λ low. cond (is_one_of (words_in keywords) low) (Some low) None) (lowered_twice text)

width-lowered : IsLowered width
unfolding word_read keyword_read
width-lowered text =
    ap (λ low. option_or (cond (is_one_of (words_in LineWidth) low) (Some low) None) (length_lowered false false low)) (lowered_twice text)

color-lowered : IsLowered color
unfolding word_read color_read
color-lowered text = ap lowered_read (lowered_twice text)

-- a word of a set is read by no other form that reads none of the set
word_excludes : (keywords : Keywords) (other : WordForm) → IsLowered other → ((text out : List ℕ) → keyword_read keywords text ≡ Some out → word_read other out ≡ None)
    → (text first second : List ℕ) → keyword_read keywords text ≡ Some first → word_read other text ≡ Some second → ⊥
unfolding keyword_read
word_excludes keywords other lowered none text first second e also =
    let low = str_to_ascii_lowercase text in
    let same : low ≡ first = (kept (is_one_of (words_in keywords) low) low first e).1 in
    let bad : None ≡ Some second = sym (none text first e) ∙ ap (word_read other) (sym same) ∙ lowered text ∙ also in
    absurd cc

pub width_or_style : NeverBoth width style
unfolding word_read
width_or_style text first second e also = word_excludes LineStyle width width-lowered (keyword_apart LineStyle width styles_no_width) text second first also e

pub style_or_color : NeverBoth style color
unfolding word_read
style_or_color text first second e also = word_excludes LineStyle color color-lowered (keyword_apart LineStyle color styles_no_color) text first second e also

pub width_or_color : NeverBoth width color
unfolding word_read color_read
width_or_color text first second e also =
    or_either (keyword_read LineWidth text) (length_read false false text) first e
    (λ word. word_excludes LineWidth color color-lowered (keyword_apart LineWidth color widths_no_color) text first second word also)
    (λ length.
    let bad : None ≡ Some second = sym (no_color (str_to_ascii_lowercase text) first length) ∙ also in
    absurd cc)

lines_exclude : (one other : Keywords) → Apart (Keyword one) (Keyword other) → NeverBoth (Keyword one) (Keyword other)
unfolding word_read
lines_exclude one other apart text first second e also = word_excludes one (Keyword other) (keyword-lowered other) apart.first text first second e also

pub under_or_over : NeverBoth (Keyword Underline) (Keyword Overline)
under_or_over = lines_exclude Underline Overline under_over

pub under_or_through : NeverBoth (Keyword Underline) (Keyword LineThrough)
under_or_through = lines_exclude Underline LineThrough under_through

pub over_or_through : NeverBoth (Keyword Overline) (Keyword LineThrough)
over_or_through = lines_exclude Overline LineThrough over_through
