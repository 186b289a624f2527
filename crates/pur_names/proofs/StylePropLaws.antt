-- The names of the style properties are distinct, and so are their ranks: what a look-up finds is the one that has the name.
use Rattle.std.proofs.Common.{◌≡◌, ℕ, Bool, true, List, Option, Some, IfSome, IfNone, refl, sym, ap, ◌∙◌, slice_get}
use Rattle.std.specs.Bool.{Decides}
use Rattle.std.specs.List.{list_all}
use Rattle.std.proofs.lemmas.Bool.Decides.{Decides-eqb}
use Rattle.std.proofs.lemmas.Option.{same_Some}
use Rattle.pur_names.proofs.Found.{named-only}
use Rattle.pur_names.proofs.Placed.{placed}
use Rattle.pur_names.proofs.Variants.{each, each-found}
use Rattle.pur_names.specs.Properties.{prop_place, prop_name, prop_named, all_props, prop_rank, same_prop}
use Rattle.pur_names.specs.contracts.properties.StyleProp.{the_type}
use Rattle.pur_names.specs.declared.properties.StyleProp.{StyleProp}
use Rattle.pur_names.specs.declared.properties.StyleProp.TheVariants.{BackgroundAttachment}
use lib.ListN.{get_or}

-- what each in the list of all passes every property passes
pub each_prop : (test : StyleProp → Bool) → list_all test all_props ≡ true → (p : StyleProp) → test p ≡ true
each_prop test all = each the_type tt all_props refl test all

-- a name is looked up to the one that has it
pub prop_named-name : (p : StyleProp) → prop_named (prop_name p) ≡ Some p
unfolding prop_named
prop_named-name = each-found the_type tt all_props refl prop_named prop_name refl

-- an answer that has the name, or that is none where nothing has it, is the look-up's
pub prop_named-only : (found : Option StyleProp) (name : List ℕ) → IfSome found (λ p. prop_name p ≡ name)
    → IfNone found ((p : StyleProp) → prop_name p ≡ name → ⊥) → found ≡ prop_named name
unfolding prop_named
prop_named-only = named-only prop_name all_props prop_named-name

-- the list of all has each at its rank
pub all_props-rank : (p : StyleProp) → slice_get all_props (prop_rank p) ≡ Some p
all_props-rank = each-found the_type tt all_props refl (slice_get all_props) prop_rank refl

-- the test for being the same one decides that
pub same_prop-Decides : (a b : StyleProp) → Decides (same_prop a b) (a ≡ b)
same_prop-Decides a b = (
  λ yes. same_Some _ _ (sym (all_props-rank a) ∙ ap (slice_get all_props) ((Decides-eqb (prop_rank a) (prop_rank b)).0 yes) ∙ all_props-rank b),
  λ same. (Decides-eqb (prop_rank a) (prop_rank b)).1 (ap prop_rank same),
)

-- each stands at its name's place in the table
abbrev pub placed_props : List StyleProp
placed_props = placed prop_name prop_place 128 all_props BackgroundAttachment

pub prop-placed : (p : StyleProp) → get_or placed_props (prop_place (prop_name p)) BackgroundAttachment ≡ p
prop-placed p =
    same_Some _ _ (each-found the_type tt all_props refl (λ k. Some (get_or placed_props k BackgroundAttachment)) (λ b. prop_place (prop_name b)) refl p)
