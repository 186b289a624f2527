-- The names of the attributes are distinct, and so are their ranks: what a look-up finds is the one that has the name.
use Rattle.std.proofs.Common.{◌≡◌, ℕ, Bool, true, List, Option, Some, IfSome, IfNone, refl, sym, ap, ◌∙◌, slice_get}
use Rattle.std.specs.Bool.{Decides}
use Rattle.std.specs.List.{list_all}
use Rattle.std.proofs.lemmas.Bool.Decides.{Decides-eqb}
use Rattle.std.proofs.lemmas.Option.{same_Some}
use Rattle.pur_names.proofs.Found.{named-only}
use Rattle.pur_names.proofs.Placed.{placed}
use Rattle.pur_names.proofs.Variants.{each, each-found}
use Rattle.pur_names.specs.Attributes.{attr_place, attr_name, attr_named, all_attrs, attr_rank, same_attr}
use Rattle.pur_names.specs.contracts.attributes.Attr.{the_type}
use Rattle.pur_names.specs.declared.attributes.Attr.{Attr}
use Rattle.pur_names.specs.declared.attributes.Attr.TheVariants.{Abbr}
use lib.ListN.{get_or}

-- what each in the list of all passes every attribute passes
pub each_attr : (test : Attr → Bool) → list_all test all_attrs ≡ true → (a : Attr) → test a ≡ true
each_attr test all = each the_type tt all_attrs refl test all

-- a name is looked up to the one that has it
pub attr_named-name : (a : Attr) → attr_named (attr_name a) ≡ Some a
unfolding attr_named
attr_named-name = each-found the_type tt all_attrs refl attr_named attr_name refl

-- an answer that has the name, or that is none where nothing has it, is the look-up's
pub attr_named-only : (found : Option Attr) (name : List ℕ) → IfSome found (λ a. attr_name a ≡ name)
    → IfNone found ((a : Attr) → attr_name a ≡ name → ⊥) → found ≡ attr_named name
unfolding attr_named
attr_named-only = named-only attr_name all_attrs attr_named-name

-- the list of all has each at its rank
pub all_attrs-rank : (a : Attr) → slice_get all_attrs (attr_rank a) ≡ Some a
all_attrs-rank = each-found the_type tt all_attrs refl (slice_get all_attrs) attr_rank refl

-- the test for being the same one decides that
pub same_attr-Decides : (a b : Attr) → Decides (same_attr a b) (a ≡ b)
same_attr-Decides a b = (
  λ yes. same_Some _ _ (sym (all_attrs-rank a) ∙ ap (slice_get all_attrs) ((Decides-eqb (attr_rank a) (attr_rank b)).0 yes) ∙ all_attrs-rank b),
  λ same. (Decides-eqb (attr_rank a) (attr_rank b)).1 (ap attr_rank same),
)

-- each stands at its name's place in the table
abbrev pub placed_attrs : List Attr
placed_attrs = placed attr_name attr_place 128 all_attrs Abbr

pub attr-placed : (a : Attr) → get_or placed_attrs (attr_place (attr_name a)) Abbr ≡ a
attr-placed a =
    same_Some _ _ (each-found the_type tt all_attrs refl (λ k. Some (get_or placed_attrs k Abbr)) (λ b. attr_place (attr_name b)) refl a)
