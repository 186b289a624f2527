use Rattle.std.proofs.Common.{◌≡◌, ◌++◌, refl, ap, true, false, max, not, arith, append_assoc}
use Rattle.std.proofs.lemmas.Bool.{and_from, and_parts}
use Rattle.pur_tree.specs.Nodes.{Nodes, no_nodes, text_first, elem_first, nodes_append, level_in, is_sound, is_joined, starts_with_text}
use Rattle.pur_tree.specs.Places.{Place}
use Rattle.pur_tree.specs.Tokens.{tokens_of_nodes}

pub nodes_append-none : (f : Nodes) → nodes_append f no_nodes ≡ f
nodes_append-none no_nodes = refl
nodes_append-none (text_first s f) = ap (text_first s) (nodes_append-none f)
nodes_append-none (elem_first e k f) = ap (elem_first e k) (nodes_append-none f)

pub nodes_append-assoc : (f g h : Nodes) → nodes_append (nodes_append f g) h ≡ nodes_append f (nodes_append g h)
nodes_append-assoc no_nodes g h = refl
nodes_append-assoc (text_first s f) g h = ap (text_first s) (nodes_append-assoc f g h)
nodes_append-assoc (elem_first e k f) g h = ap (elem_first e k) (nodes_append-assoc f g h)

pub tokens-append : (f g : Nodes) → tokens_of_nodes (nodes_append f g) ≡ tokens_of_nodes f ++ tokens_of_nodes g
tokens-append no_nodes g = refl
tokens-append (text_first s f) g = rw (tokens-append f g) refl
tokens-append (elem_first e k f) g = rw (tokens-append f g) (simp append_assoc)

pub level-append : (at : Place) (f g : Nodes) → level_in at (nodes_append f g) ≡ max (level_in at f) (level_in at g)
level-append at no_nodes g = omega arith
level-append at (text_first s f) g = level-append at f g
level-append at (elem_first e k f) g = omega (arith, level-append at f g)

pub sound-append : (f g : Nodes) → is_sound f ≡ true → is_sound g ≡ true → is_sound (nodes_append f g) ≡ true
sound-append no_nodes g p q = q
sound-append (text_first s f) g p q = and_from _ _ (and_parts _ _ p).0 (sound-append f g (and_parts _ _ p).1 q)
sound-append (elem_first e k f) g p q =
    and_from _ _ (and_parts _ _ p).0 (and_from _ _ (and_parts _ _ (and_parts _ _ p).1).0 (sound-append f g (and_parts _ _ (and_parts _ _ p).1).1 q))

pub sound_front : (f g : Nodes) → is_sound (nodes_append f g) ≡ true → is_sound f ≡ true
sound_front no_nodes g p = refl
sound_front (text_first s f) g p = and_from _ _ (and_parts _ _ p).0 (sound_front f g (and_parts _ _ p).1)
sound_front (elem_first e k f) g p =
    and_from _ _ (and_parts _ _ p).0 (and_from _ _ (and_parts _ _ (and_parts _ _ p).1).0 (sound_front f g (and_parts _ _ (and_parts _ _ p).1).1))

pub sound_back : (f g : Nodes) → is_sound (nodes_append f g) ≡ true → is_sound g ≡ true
sound_back no_nodes g p = p
sound_back (text_first s f) g p = sound_back f g (and_parts _ _ p).1
sound_back (elem_first e k f) g p = sound_back f g (and_parts _ _ (and_parts _ _ p).1).1

-- joined nodes stay joined where what comes behind doesn't begin with a text
pub joined-append : (f g : Nodes) → starts_with_text g ≡ false → is_joined f ≡ true → is_joined g ≡ true → is_joined (nodes_append f g) ≡ true
joined-append no_nodes g s p q = q
joined-append (text_first t no_nodes) g s p q = and_from _ _ (ap not s) q
joined-append (text_first t (text_first u f)) g s p q = p
joined-append (text_first t (elem_first e k f)) g s p q = joined-append (elem_first e k f) g s p q
joined-append (elem_first e k f) g s p q = and_from _ _ (and_parts _ _ p).0 (joined-append f g s (and_parts _ _ p).1 q)

pub joined_front : (f g : Nodes) → is_joined (nodes_append f g) ≡ true → is_joined f ≡ true
joined_front no_nodes g p = refl
joined_front (text_first t no_nodes) g p = refl
joined_front (text_first t (text_first u f)) g p = p
joined_front (text_first t (elem_first e k f)) g p = joined_front (elem_first e k f) g p
joined_front (elem_first e k f) g p = and_from _ _ (and_parts _ _ p).0 (joined_front f g (and_parts _ _ p).1)

pub joined_back : (f g : Nodes) → is_joined (nodes_append f g) ≡ true → is_joined g ≡ true
joined_back no_nodes g p = p
joined_back (text_first s f) g p = joined_back f g (and_parts _ _ p).1
joined_back (elem_first e k f) g p = joined_back f g (and_parts _ _ p).1
