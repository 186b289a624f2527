use Rattle.std.proofs.Common.{◌≡◌, ℕ, ◌<◌, List, [], ◌∷◌, length, refl, ap, ◌∙◌, arith}
use Rattle.std.specs.Str.{chars}
use Rattle.pur_tree.specs.Building.{text_nodes}
use Rattle.pur_tree.specs.Nodes.{no_nodes, text_first}
use Rattle.std.proofs.lemmas.Str.{chars-nil}

-- a text without bytes has no characters
pub chars_of_none : (b : List ℕ) → b ≡ [] → chars b ≡ []
chars_of_none b e = ap chars e ∙ chars-nil

-- a text that isn't empty is one node, of its characters
pub text_nodes_some : (cs : List ℕ) → 0 < length cs → text_nodes cs ≡ text_first cs no_nodes
text_nodes_some [] h = absurd (omega arith)
text_nodes_some (c ∷ cs) h = refl
