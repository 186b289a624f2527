-- The words that a property takes (CSS 2.1, the property index).
use Rattle.std.specs.Prelude.{ℕ, List, [], ◌∷◌, codes, Option, Some, None, if◌then◌else◌}
use Rattle.std.specs.Str.{str_to_ascii_lowercase}
use Rattle.pur_csstok.specs.Names.{is_one_of}
use Rattle.pur_cssprops.specs.declared.keywords.Keywords.{Keywords}
use Rattle.pur_cssprops.specs.declared.keywords.Keywords.TheVariants as set

-- the words of each set
abbrev pub words_in : Keywords → List (List ℕ)
words_in set.Empty = []
words_in set.Inherit = codes "inherit" ∷ []
words_in set.NoneAlone = codes "none" ∷ []
words_in set.Auto = codes "auto" ∷ []
words_in set.Normal = codes "normal" ∷ []
words_in set.Attachment = codes "scroll" ∷ codes "fixed" ∷ []
words_in set.Repeat = codes "repeat" ∷ codes "repeat-x" ∷ codes "repeat-y" ∷ codes "no-repeat" ∷ []
words_in set.Collapse = codes "collapse" ∷ codes "separate" ∷ []
words_in set.LineWidth = codes "thin" ∷ codes "medium" ∷ codes "thick" ∷ []
words_in set.LineStyle =
    codes "none" ∷ codes "hidden" ∷ codes "dotted" ∷ codes "dashed" ∷ codes "solid" ∷ codes "double" ∷ codes "groove"
    ∷ codes "ridge" ∷ codes "inset" ∷ codes "outset" ∷ []
words_in set.CaptionSide = codes "top" ∷ codes "bottom" ∷ []
words_in set.Clear = codes "none" ∷ codes "left" ∷ codes "right" ∷ codes "both" ∷ []
words_in set.Float = codes "left" ∷ codes "right" ∷ codes "none" ∷ []
words_in set.FontSize =
    codes "xx-small" ∷ codes "x-small" ∷ codes "small" ∷ codes "medium" ∷ codes "large" ∷ codes "x-large" ∷ codes "xx-large"
    ∷ codes "smaller" ∷ codes "larger" ∷ []
words_in set.FontStyle = codes "normal" ∷ codes "italic" ∷ codes "oblique" ∷ []
words_in set.FontVariant = codes "normal" ∷ codes "small-caps" ∷ []
words_in set.FontWeight =
    codes "normal" ∷ codes "bold" ∷ codes "bolder" ∷ codes "lighter" ∷ codes "100" ∷ codes "200" ∷ codes "300" ∷ codes "400"
    ∷ codes "500" ∷ codes "600" ∷ codes "700" ∷ codes "800" ∷ codes "900" ∷ []
words_in set.ListPosition = codes "inside" ∷ codes "outside" ∷ []
words_in set.ListType =
    codes "disc" ∷ codes "circle" ∷ codes "square" ∷ codes "decimal" ∷ codes "decimal-leading-zero" ∷ codes "lower-roman"
    ∷ codes "upper-roman" ∷ codes "lower-greek" ∷ codes "lower-latin" ∷ codes "upper-latin" ∷ codes "armenian"
    ∷ codes "georgian" ∷ codes "lower-alpha" ∷ codes "upper-alpha" ∷ codes "none" ∷ []
words_in set.TableLayout = codes "auto" ∷ codes "fixed" ∷ []
words_in set.TextAlign = codes "left" ∷ codes "right" ∷ codes "center" ∷ codes "justify" ∷ []
words_in set.TextTransform = codes "capitalize" ∷ codes "uppercase" ∷ codes "lowercase" ∷ codes "none" ∷ []
words_in set.VerticalAlign =
    codes "baseline" ∷ codes "sub" ∷ codes "super" ∷ codes "top" ∷ codes "text-top" ∷ codes "middle" ∷ codes "bottom"
    ∷ codes "text-bottom" ∷ []
words_in set.WhiteSpace = codes "normal" ∷ codes "pre" ∷ codes "nowrap" ∷ codes "pre-wrap" ∷ codes "pre-line" ∷ []
words_in set.Underline = codes "underline" ∷ []
words_in set.Overline = codes "overline" ∷ []
words_in set.LineThrough = codes "line-through" ∷ []

-- the word in lower case, where it is one of the set
unfoldable pub keyword_read : Keywords → List ℕ → Option (List ℕ)
keyword_read keywords text =
    let lowered = str_to_ascii_lowercase text in
    if is_one_of (words_in keywords) lowered then Some lowered else None
