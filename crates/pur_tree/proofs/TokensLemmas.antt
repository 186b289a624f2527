use Rattle.std.proofs.Common.{◌≡◌, ◌+◌, arith, ℕ, List, [], ◌∷◌, ◌++◌, refl, ap, sym, ◌∙◌, Bool, true, false, ◌&&◌, ◌||◌, not, append_assoc, append-nil, cond}
use Rattle.std.proofs.lemmas.Bool.{and_parts}
use Rattle.pur_laws.proofs.Truth.{and_false}
use Rattle.pur_modules.specs.Contents.{is_empty_element}
use Rattle.pur_names.specs.declared.elements.Element.{Element}
use Rattle.pur_attrlist.proofs.TextLaws.{times-append}
use Rattle.pur_tree.specs.Walks.{count_in_text}
use Rattle.pur_tree.specs.Nodes.{PlainElem, Nodes, no_nodes, text_first, elem_first, is_sound, is_joined, has_no_nodes}
use Rattle.pur_tree.specs.Building.{ends_with_text}
use Rattle.pur_tree.specs.Tokens.{Token, text_token, start_token, end_token, empty_token, tokens_of_nodes, opening_of, closing_of, join_token, joined, begins_with_text, count_in_written}

-- a text stays by itself in front of what doesn't begin with a text
text_before : (s : List ℕ) (x : List Token) → begins_with_text x ≡ false → join_token (text_token s) (joined x) ≡ text_token s ∷ joined x
text_before s [] h = refl
text_before s (text_token t ∷ x) h = absurd (cc)
text_before s (start_token e ∷ x) h = refl
text_before s (end_token e ∷ x) h = refl
text_before s (empty_token e ∷ x) h = refl

-- a text stays by itself in front of an opening token
text_opening : (s : List ℕ) (e : PlainElem) (x : List Token) → join_token (text_token s) (opening_of e ∷ x) ≡ text_token s ∷ opening_of e ∷ x
text_opening s e x = go (is_empty_element e.name)
  where
    go : (b : Bool) → join_token (text_token s) (cond b (empty_token e) (start_token e) ∷ x) ≡ text_token s ∷ cond b (empty_token e) (start_token e) ∷ x
    go true = refl
    go false = refl

-- nothing joins an opening token
pub joined-opening : (e : PlainElem) (x : List Token) → joined (opening_of e ∷ x) ≡ opening_of e ∷ joined x
joined-opening e x = go (is_empty_element e.name)
  where
    go : (b : Bool) → joined (cond b (empty_token e) (start_token e) ∷ x) ≡ cond b (empty_token e) (start_token e) ∷ joined x
    go true = refl
    go false = refl

pub opening_is_no_text : (e : PlainElem) (x : List Token) → begins_with_text (opening_of e ∷ x) ≡ false
opening_is_no_text e x = go (is_empty_element e.name)
  where
    go : (b : Bool) → begins_with_text (cond b (empty_token e) (start_token e) ∷ x) ≡ false
    go true = refl
    go false = refl

pub none_of : (k : Nodes) → has_no_nodes k ≡ true → k ≡ no_nodes
none_of no_nodes h = refl
none_of (text_first s f) h = absurd (cc)
none_of (elem_first e k f) h = absurd (cc)

-- the tokens of joined nodes join nothing among them, and nothing behind them unless two texts meet there
pub joined-tokens : (f : Nodes) (x : List Token) → is_joined f ≡ true → is_sound f ≡ true → (ends_with_text f && begins_with_text x) ≡ false
    → joined (tokens_of_nodes f ++ x) ≡ tokens_of_nodes f ++ joined x
joined-tokens no_nodes x j s m = refl
joined-tokens (text_first t no_nodes) x j s m = text_before t x m
joined-tokens (text_first t (text_first u f)) x j s m = absurd (cc)
joined-tokens (text_first t (elem_first e k f)) x j s m =
    ap (join_token (text_token t)) (joined-tokens (elem_first e k f) x j (and_parts _ _ s).1 m) ∙ text_opening t e _
joined-tokens (elem_first e k f) x j s m =
    go (is_empty_element e.name) refl (joined-tokens f x (and_parts _ _ j).1 (and_parts _ _ (and_parts _ _ s).1).1 m)
    (λ y h. joined-tokens k y (and_parts _ _ j).0 (and_parts _ _ (and_parts _ _ s).1).0 h)
  where
    go : (b : Bool) → is_empty_element e.name ≡ b
        → joined (tokens_of_nodes f ++ x) ≡ tokens_of_nodes f ++ joined x
        → ((y : List Token) → (ends_with_text k && begins_with_text y) ≡ false → joined (tokens_of_nodes k ++ y) ≡ tokens_of_nodes k ++ joined y)
        → joined (tokens_of_nodes (elem_first e k f) ++ x) ≡ tokens_of_nodes (elem_first e k f) ++ joined x
    go true h r q =
        let w = (and_parts (not (is_empty_element e.name) || has_no_nodes k) (is_sound k && is_sound f) s).0 in
        let kn : k ≡ no_nodes = none_of k (rw h at w) in
        rw (kn, h) (ap (λ ts. empty_token e ∷ ts) r)
    go false h r q =
        rw h (ap (λ ts. start_token e ∷ ts)
        (ap joined (append_assoc (tokens_of_nodes k) (end_token e.name ∷ tokens_of_nodes f) x) ∙ q (end_token e.name ∷ (tokens_of_nodes f ++ x)) (and_false (ends_with_text k)) ∙ ap (λ ts. tokens_of_nodes k ++ (end_token e.name ∷ ts)) r ∙ sym (append_assoc (tokens_of_nodes k) (end_token e.name ∷ tokens_of_nodes f) (joined x))))

-- the tokens of joined nodes are joined already
pub joined-tree : (f : Nodes) (ts : List Token) → is_joined f ≡ true → is_sound f ≡ true → tokens_of_nodes f ≡ ts → joined ts ≡ ts
joined-tree f ts j s e =
    rw (← e)
    (ap joined (sym (append-nil (tokens_of_nodes f))) ∙ joined-tokens f [] j s (and_false (ends_with_text f)) ∙ append-nil (tokens_of_nodes f))

-- two texts join what stands behind them one after the other
join_token-twice : (s t : List ℕ) (x : List Token) → join_token (text_token (s ++ t)) x ≡ join_token (text_token s) (join_token (text_token t) x)
join_token-twice s t [] = refl
join_token-twice s t (text_token u ∷ x) = ap (λ v. text_token v ∷ x) (append_assoc s t u)
join_token-twice s t (start_token e ∷ x) = refl
join_token-twice s t (end_token e ∷ x) = refl
join_token-twice s t (empty_token e ∷ x) = refl

-- a token joins what follows it before or after that is joined to what is behind
joined-join_token : (t : Token) (x b : List Token) → joined (join_token t x ++ b) ≡ join_token t (joined (x ++ b))
joined-join_token (text_token s) [] b = refl
joined-join_token (text_token s) (text_token u ∷ x) b = join_token-twice s u (joined (x ++ b))
joined-join_token (text_token s) (start_token e ∷ x) b = refl
joined-join_token (text_token s) (end_token e ∷ x) b = refl
joined-join_token (text_token s) (empty_token e ∷ x) b = refl
joined-join_token (start_token e) x b = refl
joined-join_token (end_token e) x b = refl
joined-join_token (empty_token e) x b = refl

-- joining the front first changes nothing
pub joined-joined : (a b : List Token) → joined (joined a ++ b) ≡ joined (a ++ b)
joined-joined [] b = refl
joined-joined (t ∷ a) b = joined-join_token t (joined a) b ∙ ap (join_token t) (joined-joined a b)

-- joining keeps each character
count-join_token : (c : ℕ) (t : Token) (ts : List Token) → count_in_written c (join_token t ts) ≡ count_in_written c (t ∷ ts)
count-join_token c (text_token s) [] = refl
count-join_token c (text_token s) (text_token u ∷ ts) = omega (arith, times-append c s u)
count-join_token c (text_token s) (start_token e ∷ ts) = refl
count-join_token c (text_token s) (end_token e ∷ ts) = refl
count-join_token c (text_token s) (empty_token e ∷ ts) = refl
count-join_token c (start_token e) ts = refl
count-join_token c (end_token e) ts = refl
count-join_token c (empty_token e) ts = refl

pub count-joined : (c : ℕ) (ts : List Token) → count_in_written c (joined ts) ≡ count_in_written c ts
count-joined c [] = refl
count-joined c (text_token s ∷ ts) = count-join_token c (text_token s) (joined ts) ∙ omega (arith, count-joined c ts)
count-joined c (start_token e ∷ ts) = count-joined c ts
count-joined c (end_token e ∷ ts) = count-joined c ts
count-joined c (empty_token e ∷ ts) = count-joined c ts

pub count-append : (c : ℕ) (a b : List Token) → count_in_written c (a ++ b) ≡ count_in_written c a + count_in_written c b
count-append c [] b = omega arith
count-append c (text_token s ∷ a) b = omega (arith, count-append c a b)
count-append c (start_token e ∷ a) b = count-append c a b
count-append c (end_token e ∷ a) b = count-append c a b
count-append c (empty_token e ∷ a) b = count-append c a b

-- nodes and the tokens that write them out have the same text
count-opening : (c : ℕ) (e : PlainElem) (ts : List Token) → count_in_written c (opening_of e ∷ ts) ≡ count_in_written c ts
count-opening c e ts = go (is_empty_element e.name)
  where
    go : (b : Bool) → count_in_written c (cond b (empty_token e) (start_token e) ∷ ts) ≡ count_in_written c ts
    go true = refl
    go false = refl

count-closing : (c : ℕ) (e : Element) (ts : List Token) → count_in_written c (closing_of e ++ ts) ≡ count_in_written c ts
count-closing c e ts = go (is_empty_element e)
  where
    go : (b : Bool) → count_in_written c (cond b [] (end_token e ∷ []) ++ ts) ≡ count_in_written c ts
    go true = refl
    go false = refl

pub count-tokens : (c : ℕ) (f : Nodes) → count_in_written c (tokens_of_nodes f) ≡ count_in_text c f
count-tokens c no_nodes = refl
count-tokens c (text_first s f) = omega (arith, count-tokens c f)
count-tokens c (elem_first e kids f) =
    count-opening c e (tokens_of_nodes kids ++ (closing_of e.name ++ tokens_of_nodes f))
    ∙ count-append c (tokens_of_nodes kids) (closing_of e.name ++ tokens_of_nodes f)
    ∙ omega (arith, count-closing c e.name (tokens_of_nodes f), count-tokens c kids, count-tokens c f)
