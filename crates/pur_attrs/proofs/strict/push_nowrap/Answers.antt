-- The declaration stands behind, where the attribute is there.
use Rattle.std.proofs.Common.{[], ◌++◌, ◌∙◌, ap, sym, refl, codes}
use Rattle.std.specs.Option.{option_map_or}
use Rattle.pur_laws.proofs.Texts.{chars_ascii}
use Rattle.pur_attrlist.specs.Attributes.{value_of}
use Rattle.pur_attrlist.specs.Texts.{text_of}
use Rattle.pur_attrlist.proofs.TextLaws.{pushed}
use Rattle.pur_attrs.specs.Steps.{cells}
use Rattle.pur_attrs.proofs.StrictLemmas.{is-styled, none-styled}
use Rattle.pur_attrs.proofs.strict.push_nowrap.Goals as goal

pub returns-in_ok-push_str-in-Some : goal.returns-in_ok-push_str-in-Some
returns-in_ok-push_str-in-Some c =
    let style = text_of c.args.style.now in
    let found = value_of c.args.attrs.now (codes "nowrap") in
    let get = rw (chars_ascii (codes "nowrap") refl) at c.in-Some.ensures in
    pushed c.args.style.now c.push_str.new.self (codes "white-space:nowrap;") c.in_ok-push_str-in-Some.ensures.bytes
    ∙ ap (λ l. style ++ l) (chars_ascii (codes "white-space:nowrap;") refl ∙ ap (λ o. option_map_or (λ value. codes "white-space:nowrap;") o []) get)
    ∙ is-styled cells c.args.element (λ value. codes "white-space:nowrap;") found style (sym c.if-not-is_cell.ensures)

pub returns-in-None : goal.returns-in-None
returns-in-None c =
    let found = value_of c.args.attrs.now (codes "nowrap") in
    let get = rw (chars_ascii (codes "nowrap") refl) at c.in-None.ensures in
    none-styled cells c.args.element (λ value. codes "white-space:nowrap;") found (text_of c.args.style.now) (sym get)
