-- What is noted of the open elements.
use Rattle.std.proofs.Common.{◌≡◌, ◌≤◌, ℕ, Bool, true, false, List, [], ◌∷◌, ◌++◌, refl, sym, ap, ◌∙◌, arith, if◌then◌else◌}
use Rattle.std.specs.Prelude.{◌&&◌, not}
use Rattle.pur_names.specs.declared.elements.Element.{Element}
use Rattle.pur_names.specs.declared.elements.Element.TheVariants.{Table, Tr}
use Rattle.pur_names.specs.Elements.{same_element}
use Rattle.pur_modules.specs.Contents.{is_empty_element}
use Rattle.pur_tree.specs.Building.{can_hold}
use Rattle.pur_tree.specs.Places.{Place, inside, inside_all, rise}
use Rattle.pur_reader.specs.declared.reading.Open.{Open}
use Rattle.pur_reader.specs.Private.Reading.{AreOpen}

-- the innermost of the open elements
pub record IsLast (at : Place) (os : List Open) (o : Open) (es : List Element) : Type 0 where
  pub outer : List Element
  pub same : es ≡ outer ++ o.name ∷ []
  pub are : AreOpen at os outer
  pub level : o.level ≡ (inside_all at es).level
  pub table : same_element o.name Table ≡ (inside_all at es).in_table
  pub low : o.level ≤ 128
  pub full : is_empty_element o.name ≡ false

pub open_last : (at : Place) (os : List Open) (o : Open) (es : List Element) → AreOpen at (os ++ o ∷ []) es → IsLast at os o es
open_last at [] o [] h = absurd h
open_last at [] o (e ∷ []) h = record {
  outer = [];
  same = ap (λ x. x ∷ []) (sym h.0);
  are = tt;
  level = h.1;
  table = ap (λ x. same_element x Table) h.0;
  low = omega (arith, h.1, h.3);
  full = ap is_empty_element h.0 ∙ h.2;
}
open_last at [] o (e ∷ d ∷ es) h = absurd h.4
open_last at (p ∷ os) o [] h = absurd h
open_last at (p ∷ os) o (e ∷ es) h =
    let r = open_last (inside at e) os o es h.4 in
    record {
      outer = e ∷ r.outer;
      same = ap (λ x. e ∷ x) r.same;
      are = (h.0, h.1, h.2, h.3, r.are);
      level = r.level;
      table = r.table;
      low = r.low;
      full = r.full;
    }

pub none_open : (at : Place) (es : List Element) → AreOpen at [] es → es ≡ []
none_open at [] h = refl
none_open at (e ∷ es) h = absurd h

pub none_noted : (at : Place) (os : List Open) (es : List Element) → AreOpen at os es → es ≡ [] → os ≡ []
none_noted at [] es h e = refl
none_noted at (o ∷ os) [] h e = absurd h
none_noted at (o ∷ os) (d ∷ es) h e = absurd (cc)

pub open_more : (at : Place) (os : List Open) (o : Open) (es : List Element) (e : Element) → AreOpen at os es → o.name ≡ e → o.level ≡ (inside (inside_all at es) e).level
    → is_empty_element e ≡ false → (inside (inside_all at es) e).level ≤ 128 → AreOpen at (os ++ o ∷ []) (es ++ e ∷ [])
open_more at [] o [] e h name level full low = (name, level, full, low, tt)
open_more at [] o (d ∷ es) e h name level full low = absurd h
open_more at (p ∷ os) o [] e h name level full low = absurd h
open_more at (p ∷ os) o (d ∷ es) e h name level full low = (h.0, h.1, h.2, h.3, open_more (inside at d) os o es e h.4 name level full low)

pub open_holds : (at : Place) (os : List Open) (es : List Element) → AreOpen at os es → can_hold es ≡ true
open_holds at os [] h = refl
open_holds at [] (e ∷ es) h = absurd h
open_holds at (o ∷ os) (e ∷ []) h = ap not h.2
open_holds at (o ∷ os) (e ∷ d ∷ es) h = open_holds (inside at e) os (d ∷ es) h.4

-- ---- the last of a list

pub last_same : (as' bs : List Element) (a b : Element) → as' ++ a ∷ [] ≡ bs ++ b ∷ [] → (as' ≡ bs) × (a ≡ b)
last_same [] [] a b h = (refl, cc)
last_same [] (d ∷ []) a b h = absurd (cc)
last_same [] (d ∷ e ∷ bs) a b h = absurd (cc)
last_same (d ∷ []) [] a b h = absurd (cc)
last_same (d ∷ e ∷ as') [] a b h = absurd (cc)
last_same (d ∷ as') (e ∷ bs) a b h =
    let heads : d ≡ e = cc in
    let tails : as' ++ a ∷ [] ≡ bs ++ b ∷ [] = cc in
    let r = last_same as' bs a b tails in
    (ap (λ x. x ∷ as') heads ∙ ap (λ x. e ∷ x) r.0, r.1)

pub no_last : {A : Type 0} (es : List Element) (e : Element) → [] ≡ es ++ e ∷ [] → A
no_last [] e h = absurd (cc)
no_last (d ∷ es) e h = absurd (cc)

pub at_most_two : (t : Bool) (e : Element) (r : ℕ) → r ≡ rise t e → r ≤ 2
at_most_two t e r q = go (same_element e Tr && t) q
  where
    go : (b : Bool) → r ≡ (if b then 2 else 1) → r ≤ 2
    go true h = omega (arith, h)
    go false h = omega (arith, h)
