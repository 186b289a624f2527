use Rattle.std.proofs.Common.{◌≡◌, ◌≤◌, ◌+◌, ℕ, List, refl, sym, ap, ◌∙◌, true, arith, length}
use Rattle.std.proofs.lemmas.Bool.{and_parts}
use Rattle.pur_modules.specs.declared.kinds.Content.{Content}
use Rattle.pur_modules.specs.declared.kinds.Content.TheVariants.{Flow, Inline}
use Rattle.pur_models.specs.Laws.{takes_any_number}
use Rattle.pur_settings.specs.Prefixes.{begins_an_id, is_id_prefix}
use Rattle.pur_settings.specs.Rules.{is_for_fragments}
use Rattle.pur_tree.specs.Nodes.{Nodes, is_sound}
use Rattle.std.specs.Prelude.{encode_utf8_all, nat_le}
use Rattle.pur_tree.specs.Spelling.{AreSpelled, Spells, spelling_of}
use Rattle.pur_tree.specs.Tokens.{Token, IsTreeOf, tree_of}
use Rattle.pur_tree.proofs.TreeLemmas.{tree_of-tokens}

-- sound nodes are the tree of their tokens
pub sound-tree_of : (nodes : Nodes) (tokens : List Token) → is_sound nodes ≡ true → IsTreeOf nodes tokens → nodes ≡ tree_of tokens
sound-tree_of nodes tokens sound same = sym (tree_of-tokens nodes sound) ∙ ap tree_of same

-- what is no more than one part of a sum is no more than the sum
pub at_most : (out made lost_making repaired tree written lost all : ℕ) → out ≡ made → made + lost_making ≡ repaired → repaired ≤ tree
    → tree ≡ written → written + lost ≡ all → out ≤ all
at_most out made lost_making repaired tree written lost all same making below is sum = omega arith

-- what came out and what was lost in three steps is what was read
pub balanced : (out made lost_making repaired tree written lost lost_later all : ℕ) → out ≡ made → made + lost_making ≡ repaired
    → repaired + lost_later ≡ tree → tree ≡ written → written + lost ≡ all → out + (lost + lost_later + lost_making) ≡ all
balanced out made lost_making repaired tree written lost lost_later all same making repair is sum = omega arith

-- what is written of nodes that are spelled so
pub written : (nodes : Nodes) {bytes : List ℕ} → Spells nodes (spelling_of nodes) → bytes ≡ encode_utf8_all (spelling_of nodes) → AreSpelled nodes bytes
written nodes spells same = record { text = spelling_of nodes; spells = spells; in_utf8 = same }

-- what may stand in front of ids begins an id
pub prefix_begins : (text : List ℕ) → is_id_prefix text ≡ true → begins_an_id text ≡ true
prefix_begins text form = (and_parts (nat_le (length text) 64) (begins_an_id text) form).1

-- what a fragment may hold takes any number of its letters
pub takes_any : (content : Content) → is_for_fragments content ≡ true → takes_any_number content ≡ true
takes_any Flow kind = refl
takes_any Inline kind = refl
takes_any content kind = absurd (cc)
