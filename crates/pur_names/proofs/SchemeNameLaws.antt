-- The names of the URI schemes are distinct, and so are their ranks: what a look-up finds is the one that has the name.
use Rattle.std.proofs.Common.{◌≡◌, ℕ, Bool, true, List, Option, Some, IfSome, IfNone, refl, sym, ap, ◌∙◌, slice_get}
use Rattle.std.specs.Bool.{Decides}
use Rattle.std.specs.List.{list_all}
use Rattle.std.proofs.lemmas.Bool.Decides.{Decides-eqb}
use Rattle.std.proofs.lemmas.Option.{same_Some}
use Rattle.pur_names.proofs.Found.{named-only}
use Rattle.pur_names.proofs.Variants.{each, each-found}
use Rattle.pur_names.specs.Schemes.{scheme_name, scheme_named, all_schemes, scheme_rank, same_scheme}
use Rattle.pur_names.specs.contracts.schemes.SchemeName.{the_type}
use Rattle.pur_names.specs.declared.schemes.SchemeName.{SchemeName}

-- what each in the list of all passes every scheme passes
pub each_scheme : (test : SchemeName → Bool) → list_all test all_schemes ≡ true → (s : SchemeName) → test s ≡ true
each_scheme test all = each the_type tt all_schemes refl test all

-- a name is looked up to the one that has it
pub scheme_named-name : (s : SchemeName) → scheme_named (scheme_name s) ≡ Some s
unfolding scheme_named
scheme_named-name = each-found the_type tt all_schemes refl scheme_named scheme_name refl

-- an answer that has the name, or that is none where nothing has it, is the look-up's
pub scheme_named-only : (found : Option SchemeName) (name : List ℕ) → IfSome found (λ s. scheme_name s ≡ name)
    → IfNone found ((s : SchemeName) → scheme_name s ≡ name → ⊥) → found ≡ scheme_named name
unfolding scheme_named
scheme_named-only = named-only scheme_name all_schemes scheme_named-name

-- the list of all has each at its rank
pub all_schemes-rank : (s : SchemeName) → slice_get all_schemes (scheme_rank s) ≡ Some s
all_schemes-rank = each-found the_type tt all_schemes refl (slice_get all_schemes) scheme_rank refl

-- the test for being the same one decides that
pub same_scheme-Decides : (a b : SchemeName) → Decides (same_scheme a b) (a ≡ b)
same_scheme-Decides a b = (
  λ yes. same_Some _ _ (sym (all_schemes-rank a) ∙ ap (slice_get all_schemes) ((Decides-eqb (scheme_rank a) (scheme_rank b)).0 yes) ∙ all_schemes-rank b),
  λ same. (Decides-eqb (scheme_rank a) (scheme_rank b)).1 (ap scheme_rank same),
)
