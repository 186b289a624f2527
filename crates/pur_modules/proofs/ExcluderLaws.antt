-- The elements that exclude others are all among the five, so that it is enough to know which of these stand round a place.
use Rattle.std.proofs.Common.{◌≡◌, List, [], ◌∷◌, Bool, true, false, ◌&&◌, ◌||◌, refl, sym, ◌∙◌, arith}
use Rattle.pur_names.specs.Elements.{same_element}
use Rattle.pur_names.specs.declared.elements.Element.{Element}
use Rattle.pur_names.specs.declared.elements.Element.TheVariants.{A, Button, Form, Label, Pre}
use Rattle.pur_modules.specs.Contents.{is_excluded, is_excluded_in}
use Rattle.pur_modules.specs.Excluders.{excluders_of, is_excluded_by, with_excluder}
use Rattle.pur_modules.specs.declared.exclusions.Excluders.{Excluders}

or_false : (b : Bool) → b ≡ (b || false)
or_false true = refl
or_false false = refl

-- an element as the only one round a place
abbrev only : Element → Excluders
only o = record {
  anchor = same_element A o;
  preformatted = same_element Pre o;
  form = same_element Form o;
  label = same_element Label o;
  button = same_element Button o;
}

excluded_by_one : (o x : Element) → is_excluded o x ≡ is_excluded_by (only o) x
excluded_by_one A x = or_false (is_excluded A x)
excluded_by_one Pre x = or_false (is_excluded Pre x)
excluded_by_one Form x = or_false (is_excluded Form x)
excluded_by_one Label x = or_false (is_excluded Label x)
excluded_by_one Button x = refl
excluded_by_one o x = refl

-- either of two, with what it excludes, before others
last_two : (a b x : Bool) → ((a || b) && x) ≡ ((a && x) || (b && x))
last_two true true true = refl
last_two true true false = refl
last_two true false true = refl
last_two true false false = refl
last_two false b x = refl

two : (a b x p q r : Bool) → r ≡ (p || q) → (((a || b) && x) || r) ≡ (((a && x) || p) || ((b && x) || q))
two a b x true true r is = grind arith
two a b x true false r is = grind arith
two a b x false true r is = grind arith
two a b x false false r is = grind arith

one_more : (o x : Element) (e : Excluders) → is_excluded_by (with_excluder o e) x ≡ (is_excluded_by (only o) x || is_excluded_by e x)
one_more o x e =
    two (same_element A o) e.anchor (is_excluded A x) _ _ _
    (two (same_element Pre o) e.preformatted (is_excluded Pre x) _ _ _
    (two (same_element Form o) e.form (is_excluded Form x) _ _ _
    (two (same_element Label o) e.label (is_excluded Label x) _ _ _ (last_two (same_element Button o) e.button (is_excluded Button x)))))

-- what the five tell of a place is so
pub excluders-tell : (outer : List Element) (x : Element) → is_excluded_by (excluders_of outer) x ≡ is_excluded_in outer x
excluders-tell [] x = refl
excluders-tell (o ∷ outer) x = one_more o x (excluders_of outer) ∙ rw (sym (excluded_by_one o x), excluders-tell outer x) refl
