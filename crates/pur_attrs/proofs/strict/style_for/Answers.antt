-- The three parts stand one behind another.
use Rattle.std.proofs.Common.{◌∙◌, ap}
use Rattle.std.specs.Str.{chars}
use Rattle.std.proofs.lemmas.Str.{chars-nil}
use Rattle.pur_attrlist.specs.Texts.{text_of}
use Rattle.pur_attrs.specs.Private.Parts.{align_style, color_style, nowrap_style}
use Rattle.pur_attrs.proofs.StrictLemmas.{three-parts}
use Rattle.pur_attrs.proofs.strict.style_for.Goals as goal

pub returns : goal.returns
returns c =
    let element = c.args.element in
    let attrs = c.args.attrs.now in
    three-parts (text_of c.new-style.result) (text_of c.push_align.new.style) (text_of c.push_color.new.style) (text_of c.push_nowrap.new.style)
    (align_style element attrs) (color_style element attrs) (nowrap_style element attrs)
    (ap chars c.new-style.ensures.bytes ∙ chars-nil)
    c.in_ok-push_align.ensures c.in_ok-push_color.ensures c.in_ok-push_nowrap.ensures
