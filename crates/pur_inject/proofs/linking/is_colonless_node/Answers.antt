use Rattle.std.proofs.Common.{Bool, ap, sym, ◌∙◌}
use Rattle.std.specs.Prelude.{◌&&◌}
use Rattle.std.specs.Str.{chars}
use Rattle.pur_tree.proofs.NodeLemmas.{before_text, before_elem}
use Rattle.pur_tree.specs.Image.{node_before}
use Rattle.pur_inject.specs.Private.Cutting.{is_colonless, are_colonless}
use Rattle.pur_inject.proofs.linking.is_colonless_node.Goals as goal

pub returns-in-Text : goal.returns-in-Text
returns-in-Text c = λ more is.
    ap are_colonless (ap (λ n. node_before n more) c.in-Text.is ∙ before_text c.in-Text.text more)
    ∙ ap (λ (b : Bool). b && are_colonless more) (ap (λ t. is_colonless (chars t)) (sym c.as_str.ensures.value) ∙ c.is_colonless.ensures.colonless is)

pub returns-in-Elem : goal.returns-in-Elem
returns-in-Elem c = λ more is. ap are_colonless (ap (λ n. node_before n more) c.in-Elem.is ∙ before_elem c.in-Elem.field-0.name c.in-Elem.field-0.attrs c.in-Elem.field-0.children more)
