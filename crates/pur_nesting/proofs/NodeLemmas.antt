-- Truth values as choices, and lists of nodes without a node.
use Rattle.std.proofs.Common.{◌≡◌, ℕ, suc, List, [], ◌∷◌, Bool, true, false, ◌||◌, length, refl, sym, ◌∙◌, arith}
use Rattle.std.specs.Prelude.{if◌then◌else◌, nat_eq, ◌&&◌}
use Rattle.std.proofs.lemmas.Bool.Decides.{nat_tests}
use Rattle.pur_tree.specs.declared.node.Node.{Node, Text, Elem'}
use Rattle.pur_tree.specs.Nodes.{Nodes, has_no_nodes}
use Rattle.pur_tree.specs.Image.{nodes_of, node_before}

pub or_if : (a b : Bool) → (a || b) ≡ (if a then true else b)
or_if true b = refl
or_if false b = refl

pub if_same : {A : Type 0} (b : Bool) (x : A) → (if b then x else x) ≡ x
if_same true x = refl
if_same false x = refl

pub if_and : (a b : Bool) → (a && b) ≡ (if a then b else false)
if_and true b = refl
if_and false b = refl

node_is_some : (x : Node) (f : Nodes) → has_no_nodes (node_before x f) ≡ false
unfolding node_before
node_is_some (Text s) f = refl
node_is_some (Elem' name attrs shape row) f = refl

never_none : (n : ℕ) → nat_eq (suc n) 0 ≡ false
never_none n = grind (arith, nat_tests)

pub no_nodes-length : (xs : List Node) → has_no_nodes (nodes_of xs) ≡ nat_eq (length xs) 0
no_nodes-length [] = refl
no_nodes-length (x ∷ xs) = node_is_some x (nodes_of xs) ∙ sym (never_none (length xs))
