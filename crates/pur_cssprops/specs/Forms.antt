-- The forms of values (CSS 2.1, the property index): what a text is read as, or none where it has no reading.
use Rattle.std.specs.Prelude.{ℕ, ◌==◌, ◌&&◌, not, nat_le, Bool, true, false, List, ◌++◌, length, Option, Some, None, if◌then◌else◌}
use Rattle.std.specs.List.{filter_map, join_with_byte}
use Rattle.std.specs.Option.{option_and_then, option_map, option_or}
use Rattle.pur_text.specs.Characters.{is_between}
use Rattle.pur_csstok.specs.Colors.{color_read}
use Rattle.pur_csstok.specs.Declarations.{words_of}
use Rattle.pur_csstok.specs.Families.{families_read}
use Rattle.pur_csstok.specs.Lengths.{length_read}
use Rattle.pur_csstok.specs.Numbers.{number_read}
use Rattle.pur_csstok.specs.Urls.{url_read, url_text}
use Rattle.pur_settings.specs.Rules.{Rules}
use Rattle.pur_uri.specs.Uris.{uri_text}
use Rattle.pur_uripolicy.specs.Admissible.{uri_under}
use Rattle.pur_uripolicy.specs.HostRules.{PlainHostRule}
use Rattle.pur_uripolicy.specs.declared.uses.UriUse.TheVariants.{Embed}
use Rattle.pur_cssprops.specs.Keywords.{keyword_read}
use Rattle.pur_cssprops.specs.declared.forms.ValueForm.{ValueForm}
use Rattle.pur_cssprops.specs.declared.forms.ValueForm.TheVariants as value
use Rattle.pur_cssprops.specs.declared.forms.WordForm.{WordForm}
use Rattle.pur_cssprops.specs.declared.forms.WordForm.TheVariants as word
use Rattle.pur_cssprops.specs.declared.keywords.Keywords.TheVariants.{Inherit, NoneAlone, Normal, LineWidth, LineStyle, Underline, Overline, LineThrough}

-- ---- forms of one word

-- a colour; one of a set of words; a length, or one of a set of words; `normal`, a number or a length, for `line-height`
unfoldable pub word_read : WordForm → List ℕ → Option (List ℕ)
word_read (word.Color transparent) text = color_read transparent text
word_read (word.Keyword keywords) text = keyword_read keywords text
word_read (word.Length signed percent keywords) text = option_or (keyword_read keywords text) (length_read signed percent text)
word_read word.LineHeight text =
    option_or (keyword_read Normal text) (option_or (number_read false text) (length_read false true text))

-- ---- forms of several words

-- what this form reads of some words: the readings of those that have one
abbrev pub readings : WordForm → List (List ℕ) → List (List ℕ)
readings form words = filter_map (word_read form) words

-- words with a space between each two
abbrev pub spaced : List (List ℕ) → List ℕ
spaced words = join_with_byte 0x20 words

-- one to four words, each of which has the form
unfoldable pub words_read : WordForm → List ℕ → Option (List ℕ)
words_read form text =
    let words = words_of text in
    let values = readings form words in
    if is_between 1 4 (length words) && length values == length words then Some (spaced values) else None

-- one word, or none
abbrev pub at_most_one : List (List ℕ) → Bool
at_most_one words = nat_le (length words) 1

-- no two words have the same form, and each has one: there are as many readings as words, since no word has two forms
abbrev pub are_each_once : ℕ → List (List ℕ) → List (List ℕ) → List (List ℕ) → Bool
are_each_once count first second third =
    at_most_one first && at_most_one second && at_most_one third && length (first ++ (second ++ third)) == count

abbrev pub ordered : ℕ → List (List ℕ) → List (List ℕ) → List (List ℕ) → Option (List ℕ)
ordered count first second third =
    if not (count == 0) && are_each_once count first second third then Some (spaced (first ++ (second ++ third))) else None

-- one word or more, each of one of three forms, no two of the same; written in the order of the forms
unfoldable pub ordered_read : WordForm → WordForm → WordForm → List ℕ → Option (List ℕ)
ordered_read first second third text =
    let words = words_of text in
    ordered (length words) (readings first words) (readings second words) (readings third words)

-- the parts of a border: its width, its style and its colour (CSS 2.1, section 8.5.4)
abbrev pub width : WordForm
width = word.Length false false LineWidth

abbrev pub style : WordForm
style = word.Keyword LineStyle

abbrev pub color : WordForm
color = word.Color false

abbrev pub border_read : List ℕ → Option (List ℕ)
border_read text = ordered_read width style color text

-- the lines of a text, or `none` (CSS 2.1, section 16.3.1)
abbrev pub underline : WordForm
underline = word.Keyword Underline

abbrev pub overline : WordForm
overline = word.Keyword Overline

abbrev pub line_through : WordForm
line_through = word.Keyword LineThrough

abbrev pub decoration_read : List ℕ → Option (List ℕ)
decoration_read text = option_or (keyword_read NoneAlone text) (ordered_read underline overline line_through text)

-- ---- URLs

-- the URI that the characters of a text write, in `url()`, where it may be embedded
unfoldable pub embedded : Rules → PlainHostRule → List ℕ → Option (List ℕ)
embedded rules rule text = option_map (λ uri. url_text (uri_text uri)) (uri_under rules rule Embed text)

-- `none`, or a URL that may be embedded
unfoldable pub image_read : Rules → PlainHostRule → List ℕ → Option (List ℕ)
image_read rules rule text = option_or (keyword_read NoneAlone text) (option_and_then (embedded rules rule) (url_read text))

-- ---- all forms

-- what a text is read as by its form, under settings and a rule of hosts
unfoldable pub form_read : Rules → PlainHostRule → ValueForm → List ℕ → Option (List ℕ)
form_read rules rule (value.Word form) text = word_read form text
form_read rules rule value.Image text = image_read rules rule text
form_read rules rule value.Families text = families_read text
form_read rules rule (value.Words form) text = words_read form text
form_read rules rule value.Border text = border_read text
form_read rules rule value.Decoration text = decoration_read text

-- every property also takes `inherit` (CSS 2.1, section 6.2.1), which is tried first
unfoldable pub value_read : Rules → PlainHostRule → ValueForm → List ℕ → Option (List ℕ)
value_read rules rule form text = option_or (keyword_read Inherit text) (form_read rules rule form text)
