-- What is missing is put in.
use Rattle.std.proofs.Common.{◌∙◌, [], ap, refl, codes}
use Rattle.std.specs.Option.{option_map_or}
use Rattle.pur_laws.proofs.Texts.{chars_ascii}
use Rattle.pur_attrlist.specs.Attributes.{with_new}
use Rattle.pur_attrs.specs.Steps.{last_segment}
use Rattle.pur_attrs.proofs.completing.put_required.Goals as goal

pub returns-in_ok-put_new-in-Bdo : goal.returns-in_ok-put_new-in-Bdo
returns-in_ok-put_new-in-Bdo c =
    rw c.in-Bdo.is (rw (chars_ascii (codes "dir") refl, chars_ascii (codes "ltr") refl) at c.in_ok-put_new-in-Bdo.ensures)

pub returns-in_ok-put_new-in-Img : goal.returns-in_ok-put_new-in-Img
returns-in_ok-put_new-in-Img c =
    let put = rw (chars_ascii (codes "alt") refl) at c.in_ok-put_new-in-Img.ensures in
    let named = c.source_name.ensures ∙ ap (λ o. option_map_or (λ uri. last_segment uri.path) o []) c.requires in
    rw c.in-Img.is (put ∙ ap (with_new c.args.attrs.now (codes "alt")) named)

pub returns-in_ok-put_new-in-Form : goal.returns-in_ok-put_new-in-Form
returns-in_ok-put_new-in-Form c =
    rw c.in-Form.is (rw (chars_ascii (codes "action") refl, chars_ascii [] refl) at c.in_ok-put_new-in-Form.ensures)

pub returns-in_ok-put_new-in-Optgroup : goal.returns-in_ok-put_new-in-Optgroup
returns-in_ok-put_new-in-Optgroup c =
    rw c.in-Optgroup.is (rw (chars_ascii (codes "label") refl, chars_ascii [] refl) at c.in_ok-put_new-in-Optgroup.ensures)
