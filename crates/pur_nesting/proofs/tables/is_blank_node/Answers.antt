use Rattle.std.specs.Str.{chars}
use Rattle.std.proofs.Common.{string_bytes}
use Rattle.pur_text.specs.Characters.{is_blank}
use Rattle.std.proofs.Common.{refl}
use Rattle.pur_tree.proofs.NodeLemmas.{before_text, before_elem}
use Rattle.pur_nesting.specs.Tables.{are_blank}
use Rattle.pur_nesting.proofs.NodeLemmas.{if_and}
use Rattle.pur_nesting.proofs.tables.is_blank_node.Goals as goal

pub returns-in-Text : goal.returns-in-Text
returns-in-Text c = λ more. rw (c.in-Text.is, before_text c.in-Text.text more, c.is_blank.ensures, c.as_str.ensures.value) (if_and (is_blank (chars (string_bytes c.in-Text.text))) (are_blank more))

pub returns-in-Elem : goal.returns-in-Elem
returns-in-Elem c = λ more. rw (c.in-Elem.is, before_elem c.in-Elem.field-0.name c.in-Elem.field-0.attrs c.in-Elem.field-0.children more) refl
