use Rattle.std.proofs.Common.{◌≡◌, ◌≤◌, ◌+◌, ap, ap₂, sym, ◌∙◌, ◌∷◌, arith, List, ℕ, Bool, true, false, if◌then◌else◌, ◌&&◌}
use Rattle.pur_names.specs.Elements.{same_element}
use Rattle.pur_names.specs.declared.elements.Element.{Element}
use Rattle.pur_names.specs.declared.elements.Element.TheVariants.{Table, Tr}
use Rattle.pur_tree.specs.Places as levels
use Rattle.pur_wellform.specs.Private.Opens.{names_of}
use Rattle.pur_wellform.specs.Search.{standing_in}
use Rattle.pur_wellform.proofs.OpenFacts.{innermost}
use Rattle.pur_wellform.proofs.open_elements.level_inside.Goals as goal

-- by how much the level rises inside of elements, the innermost of which is known
rise_inside : (es outer : List Element) (x e : Element) (r : ℕ) (t : Bool) → es ≡ x ∷ outer → t ≡ same_element x Table
    → r ≡ levels.rise t e → r ≡ levels.rise (standing_in es).in_table e
rise_inside es outer x e r t f p q = q ∙ ap (λ b. levels.rise b e) p ∙ ap (λ gs. levels.rise (standing_in gs).in_table e) (sym f)

at_most_two : (t : Bool) (e : Element) (r : ℕ) → r ≡ levels.rise t e → r ≤ 2
at_most_two t e r q = go (same_element e Tr && t) q
  where
    go : (b : Bool) → r ≡ (if b then 2 else 1) → r ≤ 2
    go true h = omega (arith, h)
    go false h = omega (arith, h)

pub returns-in-Some : goal.returns-in-Some
returns-in-Some c =
    let i = innermost c.args._settings.now c.args.opened.now c.in-Some.field-0-1.now c.in-Some.last.now c.requires c.in-Some.ensures.cases.0 in
    let few = at_most_two c.is_table.result c.args.element c.level_rise.result c.level_rise.ensures in
    record {
      value = ap₂ (λ (n m : ℕ). n + m) i.known.level
          (rise_inside (names_of c.args.opened.now) (names_of c.in-Some.field-0-1.now) c.in-Some.last.now.name c.args.element c.level_rise.result c.is_table.result
          i.names c.is_table.ensures c.level_rise.ensures);
      low = let v = i.known.level in let l = i.known.low in omega (arith, few);
    }

pub overflow_add-result : goal.overflow_add-result
overflow_add-result c =
    let i = innermost c.args._settings.now c.args.opened.now c.in-Some.field-0-1.now c.in-Some.last.now c.requires c.in-Some.ensures.cases.0 in
    let few = at_most_two c.is_table.result c.args.element c.level_rise.result c.level_rise.ensures in
    let v = i.known.level in let l = i.known.low in omega (arith, few)
