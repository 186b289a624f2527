use Rattle.std.proofs.Common.{◌≡◌, ℕ, ◌+◌, true, not, ◌++◌, List, append_assoc, refl, ap, sym, ◌∙◌, arith}
use Rattle.std.proofs.lemmas.Bool.{and_from, and_parts}
use Rattle.pur_attrlist.proofs.TextLaws.{times-append}
use Rattle.pur_attrlist.specs.Texts.{times}
use Rattle.pur_tree.specs.Nodes.{PlainElem, Nodes, is_joined, starts_with_text, level_in, no_nodes, text_first, elem_first, nodes_append}
use Rattle.pur_tree.proofs.NodesLemmas.{nodes_append-assoc}
use Rattle.pur_tree.specs.Places.{Place, inside}
use Rattle.pur_tree.specs.Walks.{walk, lost_in_walk, text_joined, joined_nodes, count_in_text}

-- going through nodes and then through others is going through both
pub walk-append : (rule : PlainElem → Nodes → Nodes) (f g : Nodes) → walk rule (nodes_append f g) ≡ nodes_append (walk rule f) (walk rule g)
walk-append rule no_nodes g = refl
walk-append rule (text_first s f) g = ap (text_first s) (walk-append rule f g)
walk-append rule (elem_first e kids f) g =
    ap (nodes_append (rule e (walk rule kids))) (walk-append rule f g)
    ∙ sym (nodes_append-assoc (rule e (walk rule kids)) (walk rule f) (walk rule g))

pub count_in_text-append : (c : ℕ) (f g : Nodes) → count_in_text c (nodes_append f g) ≡ count_in_text c f + count_in_text c g
count_in_text-append c no_nodes g = omega arith
count_in_text-append c (text_first s f) g = omega (arith, count_in_text-append c f g)
count_in_text-append c (elem_first e kids f) g = omega (arith, count_in_text-append c f g)

pub count_in_text-text_joined : (c : ℕ) (s : List ℕ) (f : Nodes) → count_in_text c (text_joined s f) ≡ times c s + count_in_text c f
count_in_text-text_joined c s no_nodes = refl
count_in_text-text_joined c s (text_first t f) = omega (arith, times-append c s t)
count_in_text-text_joined c s (elem_first e kids f) = refl

-- joining texts keeps each character
pub count_in_text-joined_nodes : (c : ℕ) (f : Nodes) → count_in_text c (joined_nodes f) ≡ count_in_text c f
count_in_text-joined_nodes c no_nodes = refl
count_in_text-joined_nodes c (text_first s f) = omega (arith, count_in_text-text_joined c s (joined_nodes f), count_in_text-joined_nodes c f)
count_in_text-joined_nodes c (elem_first e kids f) = omega (arith, count_in_text-joined_nodes c kids, count_in_text-joined_nodes c f)

-- texts joined one after the other
pub text_joined-append : (s t : List ℕ) (f : Nodes) → text_joined (s ++ t) f ≡ text_joined s (text_joined t f)
text_joined-append s t no_nodes = refl
text_joined-append s t (text_first u f) = ap (λ x. text_first x f) (append_assoc s t u)
text_joined-append s t (elem_first e kids f) = refl

-- what stands after a walk and what is lost in it is what stood before, where this is so at each element
pub count_in_text-walk : (c : ℕ) (rule : PlainElem → Nodes → Nodes) (lost : PlainElem → Nodes → ℕ)
    → ((e : PlainElem) (kids : Nodes) → count_in_text c (rule e kids) + lost e kids ≡ count_in_text c kids)
    → (f : Nodes) → count_in_text c (walk rule f) + lost_in_walk rule lost f ≡ count_in_text c f
count_in_text-walk c rule lost each no_nodes = refl
count_in_text-walk c rule lost each (text_first s f) = omega (arith, count_in_text-walk c rule lost each f)
count_in_text-walk c rule lost each (elem_first e kids f) =
    omega (arith, count_in_text-append c (rule e (walk rule kids)) (walk rule f), each e (walk rule kids), count_in_text-walk c rule lost each kids, count_in_text-walk c rule lost each f)

-- two rules that agree wherever they are asked make the same walk
pub walk-same : (rule other : PlainElem → Nodes → Nodes) → ((e : PlainElem) (kids : Nodes) → rule e kids ≡ other e kids) → (f : Nodes) → walk rule f ≡ walk other f
walk-same rule other same no_nodes = refl
walk-same rule other same (text_first s f) = ap (text_first s) (walk-same rule other same f)
walk-same rule other same (elem_first e kids f) =
    ap (λ k. nodes_append (rule e k) (walk rule f)) (walk-same rule other same kids)
    ∙ ap (λ k. nodes_append k (walk rule f)) (same e (walk other kids))
    ∙ ap (nodes_append (other e (walk other kids))) (walk-same rule other same f)

-- a rule that leaves each element where it stands makes a walk that changes nothing
pub walk-stays : (f : Nodes) → walk (λ e kids. elem_first e kids no_nodes) f ≡ f
walk-stays no_nodes = refl
walk-stays (text_first s f) = ap (text_first s) (walk-stays f)
walk-stays (elem_first e kids f) = ap (λ k. elem_first e k (walk (λ e kids. elem_first e kids no_nodes) f)) (walk-stays kids) ∙ ap (elem_first e kids) (walk-stays f)

is_joined-text_joined : (s : List ℕ) (f : Nodes) → is_joined f ≡ true → is_joined (text_joined s f) ≡ true
is_joined-text_joined s no_nodes h = refl
is_joined-text_joined s (text_first t f) h = h
is_joined-text_joined s (elem_first e kids f) h = h

-- joined nodes are joined
pub is_joined-joined_nodes : (f : Nodes) → is_joined (joined_nodes f) ≡ true
is_joined-joined_nodes no_nodes = refl
is_joined-joined_nodes (text_first s f) = is_joined-text_joined s (joined_nodes f) (is_joined-joined_nodes f)
is_joined-joined_nodes (elem_first e kids f) = and_from _ _ (is_joined-joined_nodes kids) (is_joined-joined_nodes f)

text_same : (s : List ℕ) (f : Nodes) → not (starts_with_text f) ≡ true → text_joined s f ≡ text_first s f
text_same s no_nodes h = refl
text_same s (text_first t f) h = absurd (cc)
text_same s (elem_first e kids f) h = refl

-- nodes without neighbouring texts stay where texts are joined
pub joined_nodes-same : (f : Nodes) → is_joined f ≡ true → joined_nodes f ≡ f
joined_nodes-same no_nodes h = refl
joined_nodes-same (text_first s f) h =
    ap (text_joined s) (joined_nodes-same f (and_parts (not (starts_with_text f)) (is_joined f) h).1) ∙ text_same s f (and_parts (not (starts_with_text f)) (is_joined f) h).0
joined_nodes-same (elem_first e kids f) h =
    ap (λ k. elem_first e k (joined_nodes f)) (joined_nodes-same kids (and_parts (is_joined kids) (is_joined f) h).0)
    ∙ ap (elem_first e kids) (joined_nodes-same f (and_parts (is_joined kids) (is_joined f) h).1)

level-text_joined : (at : Place) (s : List ℕ) (f : Nodes) → level_in at (text_joined s f) ≡ level_in at f
level-text_joined at s no_nodes = refl
level-text_joined at s (text_first t f) = refl
level-text_joined at s (elem_first e kids f) = refl

-- joining texts keeps levels
pub level-joined_nodes : (at : Place) (f : Nodes) → level_in at (joined_nodes f) ≡ level_in at f
level-joined_nodes at no_nodes = refl
level-joined_nodes at (text_first s f) = level-text_joined at s (joined_nodes f) ∙ level-joined_nodes at f
level-joined_nodes at (elem_first e kids f) = omega (arith, level-joined_nodes (inside at e.name) kids, level-joined_nodes at f)
