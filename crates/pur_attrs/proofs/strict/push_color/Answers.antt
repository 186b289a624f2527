-- The declaration stands behind, where the element is one of these.
use Rattle.std.proofs.Common.{◌++◌, sym, refl, codes}
use Rattle.std.proofs.lemmas.Result.{IfOk-equal}
use Rattle.pur_laws.proofs.Texts.{chars_ascii}
use Rattle.pur_attrlist.specs.Attributes.{value_of}
use Rattle.pur_attrlist.specs.Texts.{text_of}
use Rattle.pur_attrs.specs.Private.Parts.{declared}
use Rattle.pur_attrs.specs.Steps.{colored}
use Rattle.pur_attrs.proofs.StrictLemmas.{is-styled}
use Rattle.pur_attrs.proofs.strict.push_color.Goals as goal

pub returns : goal.returns
returns c =
    let style = text_of c.args.style.now in
    let found = value_of c.args.attrs.now (codes "bgcolor") in
    let get = rw (chars_ascii (codes "bgcolor") refl) at c.get.ensures in
    let put = rw (chars_ascii (codes "background-color") refl, get) at c.push_declaration.ensures in
    IfOk-equal c.push_declaration.result (text_of c.push_declaration.new.style) (style ++ declared (codes "background-color") found) _ put
    (is-styled colored c.args.element (λ value. codes "background-color:" ++ value ++ codes ";") found style (sym c.if-not-is_colored.ensures))
