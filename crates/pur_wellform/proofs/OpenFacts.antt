-- The open elements of the program, one more and one less.
use Rattle.std.proofs.Common.{◌≡◌, List, [], ◌∷◌, ◌++◌, refl, ap, sym, subst, ◌∙◌}
use Rattle.pur_settings.specs.Rules.{Rules}
use Rattle.pur_tree.specs.Nodes.{PlainElem}
use Rattle.pur_wellform.specs.declared.open_elements.Open.{Open}
use Rattle.pur_wellform.specs.Closing.{names}
use Rattle.pur_wellform.specs.Private.Opens.{tag_of, tags_under, tags_of, names_of, IsOpen, AreOpenUnder, AreOpen}

tags_under-more : (outer : List PlainElem) (os : List Open) (o : Open) → tags_under outer (os ++ (o ∷ [])) ≡ tag_of o ∷ tags_under outer os
tags_under-more outer [] o = refl
tags_under-more outer (p ∷ os) o = tags_under-more (tag_of p ∷ outer) os o

pub tags_of-more : (os : List Open) (o : Open) → tags_of (os ++ (o ∷ [])) ≡ tag_of o ∷ tags_of os
tags_of-more os o = tags_under-more [] os o

pub names_of-more : (os : List Open) (o : Open) → names_of (os ++ (o ∷ [])) ≡ o.name ∷ names_of os
names_of-more os o = ap names (tags_of-more os o)

-- what is known of the innermost, and of those round it
pub record LastOpen (rules : Rules) (outer : List PlainElem) (os : List Open) (o : Open) : Type 0 where
  pub last : IsOpen rules (o.name ∷ names (tags_under outer os)) o
  pub rest : AreOpenUnder rules outer os

open_under-less : (rules : Rules) (outer : List PlainElem) (os : List Open) (o : Open) → AreOpenUnder rules outer (os ++ (o ∷ []))
    → LastOpen rules outer os o
open_under-less rules outer [] o h = record { last = h.0; rest = tt }
open_under-less rules outer (p ∷ os) o h =
    let r = open_under-less rules (tag_of p ∷ outer) os o h.1 in
    record { last = r.last; rest = (h.0, r.rest) }

open_under-more : (rules : Rules) (outer : List PlainElem) (os : List Open) (o : Open) → IsOpen rules (o.name ∷ names (tags_under outer os)) o
    → AreOpenUnder rules outer os → AreOpenUnder rules outer (os ++ (o ∷ []))
open_under-more rules outer [] o h r = (h, tt)
open_under-more rules outer (p ∷ os) o h r = (r.0, open_under-more rules (tag_of p ∷ outer) os o h r.1)

pub open-more : (rules : Rules) (os : List Open) (o : Open) → IsOpen rules (o.name ∷ names_of os) o → AreOpen rules os → AreOpen rules (os ++ (o ∷ []))
open-more rules os o h r = record { each = open_under-more rules [] os o h r.each }

-- the innermost of open elements
pub record Innermost (rules : Rules) (all : List Open) (o : Open) (os : List Open) : Type 0 where
  pub tags : tags_of all ≡ tag_of o ∷ tags_of os
  pub names : names_of all ≡ o.name ∷ names_of os
  pub known : IsOpen rules (names_of all) o
  pub rest : AreOpen rules os

pub innermost : (rules : Rules) (all os : List Open) (o : Open) → AreOpen rules all → all ≡ os ++ (o ∷ []) → Innermost rules all o os
innermost rules all os o h e =
    let r = open_under-less rules [] os o (subst (AreOpenUnder rules []) e h.each) in
    let t : tags_of all ≡ tag_of o ∷ tags_of os = ap tags_of e ∙ tags_of-more os o in
    let n : names_of all ≡ o.name ∷ names_of os = ap names t in
    record {
      tags = t;
      names = n;
      known = subst (λ es. IsOpen rules es o) (sym n) r.last;
      rest = record { each = r.rest };
    }
