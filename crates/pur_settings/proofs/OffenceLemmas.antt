-- The offence that a text is refused for is the first one.
use Rattle.std.proofs.Common.{◌≡◌, ◌≢◌, ◌⊎◌, inl, inr, ℕ, suc, Bool, true, false, List, [], ◌∷◌, Option, Some, None, Ok, Err, Less, cond, not, refl, ap, sym, ◌∙◌, subst, arith}
use Rattle.std.specs.Prelude.{IfErr, IsTrue}
use Rattle.std.specs.List.{Contains, find}
use Rattle.std.specs.Cmp.Lexicographic.{slice_cmp}
use Rattle.std.specs.Ordering.{nat_cmp, is_lt}
use Rattle.std.specs.Result.{result_err}
use Rattle.std.proofs.lemmas.Bool.{false≢true}
use Rattle.std.proofs.lemmas.List.Sums.{AllPass-from_list_all}
use Rattle.std.proofs.lemmas.Option.{none-some, same_Some}
use Rattle.toml.specs.Data.{Members}
use Rattle.pur_settings.specs.Offences.{Offence, offences, is_first, first_of, IsFirst}
use Rattle.pur_settings.specs.Reading.{Reading}
use Rattle.pur_settings.specs.Rules.{Rules, is_in_conflict}
use Rattle.pur_settings.specs.Private.Walk.{Ascends}
use Rattle.pur_settings.specs.Settings.{unless_conflict, unless_offence, rules_in, settings_in, document, IsConflict, IsRefusedFor, table_in}
use Rattle.pur_settings.specs.declared.faults.SettingsFault.{SettingsFault}
use Rattle.pur_settings.specs.declared.faults.SettingsFault.TheVariants.{Conflict, NotToml, Memory}
use Rattle.pur_settings.proofs.WalkLemmas.{none_at_all}

-- what a search finds passes the test, and is in the list
found : {X : Type 0} (p : X → Bool) (xs : List X) (y : X) → find p xs ≡ Some y → (p y ≡ true) × Contains xs y
found p [] y e = absurd (none-some y e)
found {X} p (x ∷ xs) y e = go (p x) refl (λ e. found p xs y e) e where
  go : (b : Bool) → p x ≡ b → (find p xs ≡ Some y → (p y ≡ true) × Contains xs y) → cond b (Some x) (find p xs) ≡ Some y → (p y ≡ true) × Contains (x ∷ xs) y
  go true passes behind e = let same = same_Some x y e in (subst (λ z. p z ≡ true) same passes, (0, omega arith, same))
  go false fails behind e = let h = behind e in (h.0, (suc h.1.0, omega (arith, h.1.1), h.1.2))

before : (a b : List ℕ) → not (is_lt (slice_cmp nat_cmp a b)) ≡ true → slice_cmp nat_cmp a b ≢ Less
before a b h less = false≢true (sym (ap (λ o. not (is_lt o)) less) ∙ h)

-- the offence that is picked out of some is the first of them
pub first_is_first : (all : List Offence) (o : Offence) → first_of all ≡ Some o → IsFirst all o.1
first_is_first all o e =
    let h = found (is_first all) all o e in
    (o.0, h.1, λ k d within. before _ o.0 (AllPass-from_list_all (λ other. not (is_lt (slice_cmp nat_cmp other.0 o.0))) all h.0 k d within))

conflict : (rules : Rules) (fault : SettingsFault) → unless_conflict rules ≡ Err fault → (fault ≡ Conflict) × IsTrue (is_in_conflict rules)
conflict rules fault h = go (is_in_conflict rules) refl h where
  go : (b : Bool) → is_in_conflict rules ≡ b → cond b (Err Conflict) (Ok rules) ≡ Err fault → (fault ≡ Conflict) × IsTrue (is_in_conflict rules)
  go true e h = (sym (same_Some Conflict fault (ap result_err h)), e)
  go false e h = absurd (none-some fault (ap result_err h))

refused : (whole : Members) → Ascends whole → (fault : SettingsFault) → settings_in whole ≡ Err fault
    → IsFirst (offences (table_in whole) whole) fault ⊎ IsConflict whole fault
refused whole ascend fault h = go (first_of (offences (table_in whole) whole)) refl h where
  go : (o : Option Offence) → first_of (offences (table_in whole) whole) ≡ o → unless_offence o (rules_in (table_in whole) whole) ≡ Err fault
      → IsFirst (offences (table_in whole) whole) fault ⊎ IsConflict whole fault
  go None e h = let c = conflict (rules_in (table_in whole) whole) fault h in inr (c.0, none_at_all (table_in whole) whole ascend e, c.1)
  go (Some o) e h =
      inl (subst (IsFirst (offences (table_in whole) whole)) (same_Some o.1 fault (ap result_err h)) (first_is_first (offences (table_in whole) whole) o e))

-- what a document is refused for, where an answer tells it
pub first_if_refused : (text : List ℕ) (whole : Members) (answer : Reading Rules) → document text ≡ Some whole → Ascends whole
    → IfErr answer (λ fault. fault ≢ Memory → settings_in whole ≡ Err fault)
    → IfErr answer (λ fault. fault ≢ Memory → fault ≢ NotToml → IsRefusedFor text fault)
first_if_refused text whole (Ok rules) is ascend tells = tt
first_if_refused text whole (Err fault) is ascend tells = λ memory other. (whole, is, refused whole ascend fault (tells memory))
