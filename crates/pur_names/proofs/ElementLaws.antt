-- The names of the elements are distinct, and so are their ranks: what a look-up finds is the one that has the name.
use Rattle.std.proofs.Common.{◌≡◌, ℕ, Bool, true, List, nat_lt, Option, Some, IfSome, IfNone, refl, sym, ap, ◌∙◌, slice_get}
use Rattle.std.specs.Bool.{Decides}
use Rattle.std.specs.List.{list_all}
use Rattle.std.proofs.lemmas.Bool.Decides.{Decides-eqb}
use Rattle.std.proofs.lemmas.Option.{same_Some}
use Rattle.pur_names.proofs.Found.{name-distinct, named-only}
use Rattle.pur_names.proofs.Placed.{placed}
use Rattle.pur_names.proofs.Variants.{each, each-found}
use Rattle.pur_names.specs.Elements.{element_place, element_name, element_named, all_elements, element_rank, same_element}
use Rattle.pur_names.specs.contracts.elements.Element.{the_type}
use Rattle.pur_names.specs.declared.elements.Element.{Element}
use Rattle.pur_names.specs.declared.elements.Element.TheVariants.{A}
use lib.ListN.{get_or}

-- what each in the list of all passes every element passes
pub each_element : (test : Element → Bool) → list_all test all_elements ≡ true → (e : Element) → test e ≡ true
each_element test all = each the_type tt all_elements refl test all

-- a name is looked up to the one that has it
pub element_named-name : (e : Element) → element_named (element_name e) ≡ Some e
unfolding element_named
element_named-name = each-found the_type tt all_elements refl element_named element_name refl

pub element_name-distinct : (a b : Element) → element_name a ≡ element_name b → a ≡ b
unfolding element_named
element_name-distinct = name-distinct element_name all_elements element_named-name

-- an answer that has the name, or that is none where nothing has it, is the look-up's
pub element_named-only : (found : Option Element) (name : List ℕ) → IfSome found (λ e. element_name e ≡ name)
    → IfNone found ((e : Element) → element_name e ≡ name → ⊥) → found ≡ element_named name
unfolding element_named
element_named-only = named-only element_name all_elements element_named-name

-- the list of all has each at its rank
pub all_elements-rank : (e : Element) → slice_get all_elements (element_rank e) ≡ Some e
all_elements-rank = each-found the_type tt all_elements refl (slice_get all_elements) element_rank refl

-- the test for being the same one decides that
pub same_element-Decides : (a b : Element) → Decides (same_element a b) (a ≡ b)
same_element-Decides a b = (
  λ yes. same_Some _ _ (sym (all_elements-rank a) ∙ ap (slice_get all_elements) ((Decides-eqb (element_rank a) (element_rank b)).0 yes) ∙ all_elements-rank b),
  λ same. (Decides-eqb (element_rank a) (element_rank b)).1 (ap element_rank same),
)

-- names are ASCII
pub element_name-ascii : (e : Element) → list_all (λ c. nat_lt c 128) (element_name e) ≡ true
element_name-ascii e = each_element (λ d. list_all (λ c. nat_lt c 128) (element_name d)) refl e

-- each stands at its name's place in the table
abbrev pub placed_elements : List Element
placed_elements = placed element_name element_place 176 all_elements A

pub element-placed : (e : Element) → get_or placed_elements (element_place (element_name e)) A ≡ e
element-placed e =
    same_Some _ _ (each-found the_type tt all_elements refl (λ k. Some (get_or placed_elements k A)) (λ b. element_place (element_name b)) refl e)
