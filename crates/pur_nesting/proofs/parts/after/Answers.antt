use Rattle.std.proofs.Common.{refl}
use Rattle.pur_tree.proofs.NodeLemmas.{before_text, before_elem}
use Rattle.pur_nesting.specs.Parts.{part}
use Rattle.pur_nesting.proofs.parts.after.Goals as goal

pub returns-in-Text : goal.returns-in-Text
returns-in-Text c = λ wanted more.
    rw (c.in-Text.is, before_text c.in-Text.field-0 more, before_text c.in-Text.field-0 (part wanted c.args.met more)) refl

pub returns-in-Elem : goal.returns-in-Elem
returns-in-Elem c = λ wanted more.
    rw (
      c.in-Elem.is,
      before_elem c.in-Elem.elem.name c.in-Elem.elem.attrs c.in-Elem.elem.children more,
      before_elem c.in-Elem.elem.name c.in-Elem.elem.attrs c.in-Elem.elem.children (part wanted c.after_element.result more),
      c.after_element.ensures,
    ) refl
