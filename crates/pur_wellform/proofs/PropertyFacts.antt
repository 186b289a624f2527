-- What holds of nodes each of which stands where it may.
use Rattle.std.proofs.Common.{◌≤◌, List, [], ◌∷◌, arith}
use Rattle.pur_names.specs.declared.elements.Element.{Element}
use Rattle.pur_settings.specs.Rules.{Rules, permits_element}
use Rattle.pur_tree.specs.Nodes.{Nodes, no_nodes, text_first, elem_first, level_in}
use Rattle.pur_tree.specs.Properties.{Holds, permitted, letters, free}
use Rattle.pur_wellform.specs.Search as search
use Rattle.pur_wellform.specs.Standing.{Stands, nothing_stands, text_stands, element_stands}
use Rattle.pur_wellform.specs.Laws.{IsClosed}

stands_permitted : {rules : Rules} {es : List Element} {n : Nodes} → Stands rules es n → Holds (permitted (permits_element rules)) tt n
stands_permitted nothing_stands = tt
stands_permitted (text_stands m r) = (tt, stands_permitted r)
stands_permitted (element_stands m k r) = (m.permitted, stands_permitted k, stands_permitted r)

stands_letters : {rules : Rules} {es : List Element} {n : Nodes} → Stands rules es n → Holds (letters rules.doctype) (search.content_in rules es) n
stands_letters nothing_stands = tt
stands_letters (text_stands m r) = (m.holds, stands_letters r)
stands_letters (element_stands m k r) = (m.letter, stands_letters k, stands_letters r)

stands_free : {rules : Rules} {es : List Element} {n : Nodes} → Stands rules es n → Holds free es n
stands_free nothing_stands = tt
stands_free (text_stands m r) = (tt, stands_free r)
stands_free (element_stands m k r) = (m.free, stands_free k, stands_free r)

pub stands_low : {rules : Rules} {es : List Element} {n : Nodes} → Stands rules es n → level_in (search.standing_in es) n ≤ 128
stands_low nothing_stands = omega arith
stands_low (text_stands m r) = stands_low r
stands_low (element_stands m k r) = let l = m.low in omega (arith, l, stands_low k, stands_low r)

pub is_closed : (rules : Rules) (n : Nodes) → Stands rules [] n → IsClosed rules n
is_closed rules n s = record {
  permitted = stands_permitted s;
  letters = stands_letters s;
  free = stands_free s;
  low = stands_low s;
}

-- and nodes of which all this holds stand where they may
nodes_stand : (rules : Rules) (es : List Element) (n : Nodes) → Holds (permitted (permits_element rules)) tt n
    → Holds (letters rules.doctype) (search.content_in rules es) n → Holds free es n → level_in (search.standing_in es) n ≤ 128 → Stands rules es n
nodes_stand rules es no_nodes p l f low = nothing_stands
nodes_stand rules es (text_first s n) p l f low = text_stands (record { holds = l.0 }) (nodes_stand rules es n p.1 l.1 f.1 low)
nodes_stand rules es (elem_first e kids n) p l f low =
    element_stands
    (record { permitted = p.0; letter = l.0; free = f.0; low = omega (arith, low) })
    (nodes_stand rules (e.name ∷ es) kids p.1 l.1 f.1 (omega (arith, low)))
    (nodes_stand rules es n p.2 l.2 f.2 (omega (arith, low)))

pub closed_stand : (rules : Rules) (n : Nodes) → IsClosed rules n → Stands rules [] n
closed_stand rules n c = nodes_stand rules [] n c.permitted c.letters c.free c.low
