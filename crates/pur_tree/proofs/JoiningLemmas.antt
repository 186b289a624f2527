-- Whether nodes are joined behind a text.
use Rattle.std.proofs.Common.{◌≡◌, ℕ, List, Bool, true, false, refl}
use Rattle.pur_tree.specs.Nodes.{PlainElem, Nodes, text_first, elem_first, is_joined}
use Rattle.pur_tree.specs.Private.Joining.{joined_behind}

pub text_apart : (b : Bool) (s : List ℕ) (rest : Nodes) → b ≡ false → joined_behind true rest ≡ joined_behind b (text_first s rest)
text_apart true s rest h = absurd (cc)
text_apart false s rest h = refl

pub text_beside : (b : Bool) (s : List ℕ) (rest : Nodes) → b ≡ true → joined_behind b (text_first s rest) ≡ false
text_beside true s rest h = refl
text_beside false s rest h = absurd (cc)

pub elem_apart : (b : Bool) (e : PlainElem) (kids rest : Nodes) → is_joined kids ≡ true → joined_behind false rest ≡ joined_behind b (elem_first e kids rest)
elem_apart true e kids rest h = rw h refl
elem_apart false e kids rest h = rw h refl

pub elem_unjoined : (b : Bool) (e : PlainElem) (kids rest : Nodes) → is_joined kids ≡ false → joined_behind b (elem_first e kids rest) ≡ false
elem_unjoined true e kids rest h = rw h refl
elem_unjoined false e kids rest h = rw h refl
