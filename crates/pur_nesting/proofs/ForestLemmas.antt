-- Repair keeps what every forest keeps: no level passes the limit, no text is empty, and EMPTY elements have no children.
use Rattle.std.proofs.Common.{ℕ, ◌+◌, ◌≤◌, ◌<◌, List, ◌++◌, length, Bool, true, false, ◌&&◌, length-append, arith}
use Rattle.std.specs.Prelude.{if◌then◌else◌}
use Rattle.pur_names.specs.declared.elements.Element.{Element}
use Rattle.pur_names.specs.declared.elements.Element.TheVariants.{Table, Tr}
use Rattle.pur_names.specs.Elements.{same_element}
use Rattle.pur_tree.specs.Forests.{IsForest}
use Rattle.pur_tree.specs.Nodes.{Nodes, no_nodes, text_first, elem_first}
use Rattle.pur_tree.specs.Places.{Place, inside, level_limit, rise}
use Rattle.pur_tree.specs.Properties.{Holds, levels, soundness}
use Rattle.pur_tree.specs.Walks.{walk}
use Rattle.pur_tree.proofs.HoldsLemmas.{IsForest-joined_nodes, IsForest-walk}
use Rattle.pur_nesting.specs.declared.permits.Permits.{Permits}
use Rattle.pur_nesting.specs.Nesting.{repair, nested}
use Rattle.pur_nesting.specs.Private.Keeping.{StaysInRepair}
use Rattle.pur_nesting.proofs.HoldsLemmas.{Holds-repair}

-- at a place where no element's level is higher
shallower : (limit : ℕ) (a b : Place) (f : Nodes) → ((e : Element) → (inside b e).level ≤ (inside a e).level) → Holds (levels limit) a f → Holds (levels limit) b f
shallower limit a b no_nodes less h = tt
shallower limit a b (text_first s f) less h = (tt, shallower limit a b f less h.1)
shallower limit a b (elem_first e kids f) less h =
    let here : (inside b e.name).level ≤ (inside a e.name).level = less e.name in
    let high : (inside a e.name).level ≤ limit = h.0 in (
      omega arith,
      shallower limit (inside a e.name) (inside b e.name) kids (λ x. more (inside b e.name).level (inside a e.name).level (rise (same_element e.name Table) x) (less e.name)) h.1,
      shallower limit a b f less h.2,
    )
  where
    more : (m n x : ℕ) → m ≤ n → m + x ≤ n + x
    more m n x h = omega arith

-- out of a head or foot into the table, where a row counts for two
out_lower : (l : ℕ) (b : Bool) → l + 1 + (if b && true then 2 else 1) ≤ l + 1 + 1 + (if b && false then 2 else 1)
out_lower l true = omega arith
out_lower l false = omega arith

pub levels_stay : (limit : ℕ) (p : Permits) → StaysInRepair (levels limit) p
levels_stay limit p = record {
  joined = λ w s t h k. tt;
  paragraph = λ yes w attrs h. h;
  caption = λ w kids h. shallower limit (record { level = w.level + 1 + 1; in_table = false }) (record { level = w.level + 1; in_table = false }) kids (λ e. omega arith) h;
  head = λ yes w attrs h. h;
  foot = λ yes w attrs h. h;
  body = λ w attrs h. h;
  in_head = λ w kids h. h;
  in_foot = λ w kids h. h;
  out_of_head = λ w kids h. shallower limit (record { level = w.level + 1 + 1; in_table = false }) (record { level = w.level + 1; in_table = true }) kids (λ e. out_lower w.level (same_element e Tr)) h;
  out_of_foot = λ w kids h. shallower limit (record { level = w.level + 1 + 1; in_table = false }) (record { level = w.level + 1; in_table = true }) kids (λ e. out_lower w.level (same_element e Tr)) h;
  row = λ w attrs h. let k : w.level + 1 + 2 ≤ limit = h in omega arith;
  in_row = λ w kids h. shallower limit (record { level = w.level + 1 + 2; in_table = false }) (record { level = w.level + 1 + 1 + 1; in_table = false }) kids (λ e. omega arith) h;
  beside_rows = λ w s h. tt;
}

pub soundness_stays : (p : Permits) → StaysInRepair soundness p
soundness_stays p = record {
  joined = λ w s t h k. (h.0, longer s t h.1);
  paragraph = λ yes w attrs h. h;
  caption = λ w kids h. h;
  head = λ yes w attrs h. h;
  foot = λ yes w attrs h. h;
  body = λ w attrs h. h;
  in_head = λ w kids h. h;
  in_foot = λ w kids h. h;
  out_of_head = λ w kids h. h;
  out_of_foot = λ w kids h. h;
  row = λ w attrs h. h;
  in_row = λ w kids h. h;
  beside_rows = λ w s h. h;
}
  where
    longer : (s t : List ℕ) → 0 < length s → 0 < length (s ++ t)
    longer s t h = omega (arith, h, length-append s t)

-- where each element of a forest is repaired, a forest stays
pub repaired_forest : (p : Permits) (f : Nodes) → IsForest f → IsForest (walk (repair p) f)
repaired_forest p f h = IsForest-walk (repair p) (Holds-repair (levels level_limit) p (levels_stay level_limit p)) (Holds-repair soundness p (soundness_stays p)) f h

-- and where all are, and texts are joined
pub nested_forest : (p : Permits) (f : Nodes) → IsForest f → IsForest (nested p f)
nested_forest p f h = IsForest-joined_nodes (walk (repair p) f) (repaired_forest p f h)
