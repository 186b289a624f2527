-- What is left of nodes.
use Rattle.std.specs.Prelude.{◌≡◌, ℕ, List}
use Rattle.pur_tree.specs.Nodes.{PlainElem, Nodes, no_nodes, text_first, elem_first}

-- nodes in which elements may be gone with all that is in them, and attributes may be others
pub data IsLeft : Nodes → Nodes → Type 0 where
  none_left : IsLeft no_nodes no_nodes
  text_left : {s : List ℕ} {f g : Nodes} → IsLeft f g → IsLeft (text_first s f) (text_first s g)
  elem_left : {e d : PlainElem} {k l f g : Nodes} → d.name ≡ e.name → IsLeft k l → IsLeft f g → IsLeft (elem_first e k f) (elem_first d l g)
  elem_gone : {e : PlainElem} {k f g : Nodes} → IsLeft f g → IsLeft (elem_first e k f) g
