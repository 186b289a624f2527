use Rattle.std.proofs.Common.{◌≡◌, ◌++◌, Bool, drop}
use Rattle.std.specs.List.{filter_map}
use Rattle.pur_attrlist.specs.Texts.{text_of}
use Rattle.pur_csstok.specs.Declarations.{style_text}
use Rattle.pur_csstok.specs.Written.{pairs_of}
use Rattle.pur_uri.specs.Uris.{PlainUri}
use Rattle.pur_absolute.specs.Absolute.{absolute_declaration}
use Rattle.pur_absolute.specs.Rules.{AnswersAs}
use Rattle.pur_absolute.proofs.styles.absolute_style.Given as goal

-- what was written, and what becomes of the declarations that are left, is what becomes of all
abbrev pub invariant-loop-declaration : goal.invariant-loop-declaration
invariant-loop-declaration g l =
    (allows : PlainUri → Bool) → AnswersAs (g.R.SiteRule.allows l.site) allows
    → text_of l.out ++ style_text (filter_map (absolute_declaration allows l.base) (pairs_of (drop l.declaration-index l.declaration-items)))
    ≡ style_text (filter_map (absolute_declaration allows l.base) (pairs_of l.declaration-items))
