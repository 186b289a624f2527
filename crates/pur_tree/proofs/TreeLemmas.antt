use Rattle.std.proofs.Common.{◌≡◌, List, [], ◌∷◌, ◌++◌, length, refl, ap, sym, ◌∙◌, Bool, true, false, ◌&&◌, ◌||◌, not, nat_lt, append_assoc, append-nil}
use Rattle.std.proofs.lemmas.Bool.{and_parts}
use Rattle.pur_names.specs.declared.elements.Element.{Element}
use Rattle.pur_modules.specs.Contents.{is_empty_element}
use Rattle.pur_tree.specs.Nodes.{PlainElem, Nodes, no_nodes, text_first, elem_first, nodes_append, is_sound, has_no_nodes}
use Rattle.pur_tree.specs.Tokens.{IsBalanced, Levels, Token, balanced_empty, balanced_nothing, balanced_start, balanced_stop, balanced_text, empty_token, end_token, first_level, has_no_neighbours, join_token, joined, levels_of, other_levels, start_token, text_token, tokens_of_nodes, tree_of, with_token}
use Rattle.pur_tree.proofs.NodesLemmas.{nodes_append-none}
use Rattle.pur_tree.proofs.TokensLemmas.{none_of}

-- nodes at the front of some levels
abbrev pub in_front : Nodes → Levels → Levels
in_front n l = record { here = nodes_append n l.here; outer = l.outer }

-- the levels of the tokens of nodes, and of tokens behind them
pub levels-tokens : (n : Nodes) (x : List Token) → is_sound n ≡ true → levels_of (tokens_of_nodes n ++ x) ≡ in_front n (levels_of x)
levels-tokens no_nodes x s = refl
levels-tokens (text_first t n) x s = ap (with_token (text_token t)) (levels-tokens n x (and_parts _ _ s).1)
levels-tokens (elem_first e k n) x s =
    go (is_empty_element e.name) refl (levels-tokens n x (and_parts _ _ (and_parts _ _ s).1).1) (λ y. levels-tokens k y (and_parts _ _ (and_parts _ _ s).1).0)
  where
    go : (b : Bool) → is_empty_element e.name ≡ b → levels_of (tokens_of_nodes n ++ x) ≡ in_front n (levels_of x)
        → ((y : List Token) → levels_of (tokens_of_nodes k ++ y) ≡ in_front k (levels_of y))
        → levels_of (tokens_of_nodes (elem_first e k n) ++ x) ≡ in_front (elem_first e k n) (levels_of x)
    go true h r q =
        let w = (and_parts (not (is_empty_element e.name) || has_no_nodes k) (is_sound k && is_sound n) s).0 in
        let kn : k ≡ no_nodes = none_of k (rw h at w) in
        rw (kn, h) (ap (with_token (empty_token e)) r)
    go false h r q =
        rw h (ap (λ ts. with_token (start_token e) (levels_of ts)) (append_assoc (tokens_of_nodes k) (end_token e.name ∷ tokens_of_nodes n) x)
        ∙ ap (with_token (start_token e)) (q (end_token e.name ∷ (tokens_of_nodes n ++ x)))
        ∙ ap (λ l. with_token (start_token e) (in_front k (with_token (end_token e.name) l))) r
        ∙ ap (λ k. record { here = elem_first e k (nodes_append n (levels_of x).here); outer = (levels_of x).outer }) (nodes_append-none k))

pub tree_of-tokens : (n : Nodes) → is_sound n ≡ true → tree_of (tokens_of_nodes n) ≡ n
tree_of-tokens n s =
    ap tree_of (sym (append-nil (tokens_of_nodes n))) ∙ ap (λ (l : Levels). l.here) (levels-tokens n [] s) ∙ nodes_append-none n

-- the tokens of some levels, which the end tags of the open elements part
abbrev pub tokens_of_levels : List Element → Levels → List Token
tokens_of_levels [] l = tokens_of_nodes l.here
tokens_of_levels (e ∷ es) l = tokens_of_nodes l.here ++ (end_token e ∷ tokens_of_levels es (record { here = first_level l.outer; outer = other_levels l.outer }))

-- more tokens in front of the innermost level
tokens-in_front : (es : List Element) (a : List Token) (n m : Nodes) (outer : List Nodes) → tokens_of_nodes n ≡ a ++ tokens_of_nodes m
    → tokens_of_levels es (record { here = n; outer = outer }) ≡ a ++ tokens_of_levels es (record { here = m; outer = outer })
tokens-in_front [] a n m outer e = e
tokens-in_front (d ∷ es) a n m outer e = ap (λ ts. ts ++ (end_token d ∷ tokens_of_levels es (record { here = first_level outer; outer = other_levels outer }))) e
    ∙ append_assoc a (tokens_of_nodes m) (end_token d ∷ tokens_of_levels es (record { here = first_level outer; outer = other_levels outer }))

-- an element's tokens, where it isn't EMPTY
tokens-element : (e : PlainElem) (k n : Nodes) → is_empty_element e.name ≡ false
    → tokens_of_nodes (elem_first e k n) ≡ (start_token e ∷ (tokens_of_nodes k ++ (end_token e.name ∷ []))) ++ tokens_of_nodes n
tokens-element e k n h = rw h (ap (λ ts. start_token e ∷ ts) (sym (append_assoc (tokens_of_nodes k) (end_token e.name ∷ []) (tokens_of_nodes n))))

-- the levels of balanced tokens write these tokens out
pub tokens-levels : {es : List Element} {ts : List Token} → IsBalanced es ts → tokens_of_levels es (levels_of ts) ≡ ts
tokens-levels balanced_nothing = refl
tokens-levels (balanced_text {es} {s} {ts} more) =
    tokens-in_front es (text_token s ∷ []) (text_first s (levels_of ts).here) (levels_of ts).here (levels_of ts).outer refl ∙ ap (λ x. text_token s ∷ x) (tokens-levels more)
tokens-levels (balanced_empty {es} {e} {ts} h more) =
    tokens-in_front es (empty_token e ∷ []) (elem_first e no_nodes (levels_of ts).here) (levels_of ts).here (levels_of ts).outer (rw h refl) ∙ ap (λ x. empty_token e ∷ x) (tokens-levels more)
tokens-levels (balanced_start {es} {e} {ts} h more) =
    tokens-in_front es (start_token e ∷ (tokens_of_nodes (levels_of ts).here ++ (end_token e.name ∷ []))) (elem_first e (levels_of ts).here (first_level (levels_of ts).outer))
    (first_level (levels_of ts).outer) (other_levels (levels_of ts).outer) (tokens-element e (levels_of ts).here (first_level (levels_of ts).outer) h)
    ∙ ap (λ x. start_token e ∷ x) (append_assoc (tokens_of_nodes (levels_of ts).here) (end_token e.name ∷ [])
    (tokens_of_levels es (record { here = first_level (levels_of ts).outer; outer = other_levels (levels_of ts).outer })) ∙ tokens-levels more)
tokens-levels (balanced_stop {es} {e} {ts} h more) = ap (λ x. end_token e ∷ x) (tokens-levels more)

-- the tree of balanced tokens has these tokens
pub tokens-tree_of : {ts : List Token} → IsBalanced [] ts → tokens_of_nodes (tree_of ts) ≡ ts
tokens-tree_of b = tokens-levels b

-- whether a token is no empty text
abbrev pub is_some_token : Token → Bool
is_some_token (text_token s) = nat_lt 0 (length s)
is_some_token (start_token e) = true
is_some_token (end_token e) = true
is_some_token (empty_token e) = true

neighbours-join_token : (t : Token) (ts : List Token) → has_no_neighbours ts ≡ true → has_no_neighbours (join_token t ts) ≡ true
neighbours-join_token (text_token s) [] h = refl
neighbours-join_token (text_token s) (text_token u ∷ ts) h = h
neighbours-join_token (text_token s) (start_token e ∷ ts) h = h
neighbours-join_token (text_token s) (end_token e ∷ ts) h = h
neighbours-join_token (text_token s) (empty_token e ∷ ts) h = h
neighbours-join_token (start_token e) ts h = h
neighbours-join_token (end_token e) ts h = h
neighbours-join_token (empty_token e) ts h = h

pub neighbours-joined : (ts : List Token) → has_no_neighbours (joined ts) ≡ true
neighbours-joined [] = refl
neighbours-joined (t ∷ ts) = neighbours-join_token t (joined ts) (neighbours-joined ts)
