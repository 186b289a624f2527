-- Lists of nodes in which all texts are white space, or in which an element stands or none.
use Rattle.std.proofs.Common.{◌≡◌, ℕ, ◌<◌, ◌⊎◌, inl, inr, length, List, [], ◌∷◌, Bool, true, false, not, ◌&&◌, refl, ap, arith}
use Rattle.std.specs.Prelude.{◌==◌}
use Rattle.std.proofs.lemmas.Bool.{eqb-true, and_parts}
use Rattle.pur_laws.proofs.Truth.{either}
use Rattle.pur_text.specs.Characters.{is_space, is_blank}
use Rattle.pur_names.specs.declared.elements.Element.{Element}
use Rattle.pur_modules.specs.declared.kinds.Child.TheVariants.{Text}
use Rattle.pur_modules.specs.declared.kinds.Content.{Content}
use Rattle.pur_modules.specs.declared.kinds.Doctype.{Doctype}
use Rattle.pur_modules.specs.Expressions.{is_letter}
use Rattle.pur_attrlist.specs.Texts.{times}
use Rattle.pur_tree.specs.Nodes.{Nodes, no_nodes, text_first, elem_first}
use Rattle.pur_tree.specs.Properties.{Holds, letters}
use Rattle.pur_tree.specs.Walks.{count_in_text}
use Rattle.pur_tree.specs.Words.{word_of}
use Rattle.pur_nesting.specs.declared.roles.Part.TheVariants.{Lead}
use Rattle.pur_nesting.specs.Tables.{has_child}
use Rattle.pur_nesting.proofs.HoldsLemmas.{Fits}
use Rattle.pur_nesting.proofs.LetterLemmas.{space_in}
use Rattle.pur_nesting.proofs.OneLemmas.{NoElems}

-- all texts of a list are white space
abbrev pub Blank : Nodes → Type 0
Blank no_nodes = Unit {0}
Blank (text_first s f) = (is_blank s ≡ true) × Blank f
Blank (elem_first e kids f) = Blank f

pub Blank-letters : (d : Doctype) (k : Content) (f : Nodes) → is_letter d k Text ≡ false → Holds (letters d) k f → Blank f
Blank-letters d k no_nodes h l = tt
Blank-letters d k (text_first s f) h l = (space_in d k s h l.0, Blank-letters d k f h l.1)
Blank-letters d k (elem_first e kids f) h l = Blank-letters d k f h l.2

pub NoElems-lead : (f : Nodes) → Fits Lead f → NoElems f
NoElems-lead no_nodes fits = tt
NoElems-lead (text_first s f) fits = NoElems-lead f fits
NoElems-lead (elem_first e kids f) fits = let k : false ≡ true = fits.0 in absurd (cc)

-- white space has no other character
pub none_in_space : (c : ℕ) (s : List ℕ) → is_space c ≡ false → is_blank s ≡ true → times c s ≡ 0
none_in_space c [] other all = refl
none_in_space c (x ∷ s) other all = go (x == c) refl (none_in_space c s other (and_parts (is_space x) (is_blank s) all).1)
  where
    go : (b : Bool) → (x == c) ≡ b → times c s ≡ 0 → times c (x ∷ s) ≡ 0
    go true is r =
        let same : is_space x ≡ is_space c = ap is_space (eqb-true x c is) in
        let space : is_space x ≡ true = (and_parts (is_space x) (is_blank s) all).0 in absurd (cc)
    go false is r = rw is r

pub count_in_text-NoElems : (c : ℕ) (f : Nodes) → is_space c ≡ false → Blank f → NoElems f → count_in_text c f ≡ 0
count_in_text-NoElems c no_nodes other b n = refl
count_in_text-NoElems c (text_first s f) other b n = omega (arith, none_in_space c s other b.0, count_in_text-NoElems c f other b.1 n)
count_in_text-NoElems c (elem_first e kids f) other b n = absurd n

pub word-NoElems : (f : Nodes) → Blank f → NoElems f → word_of false f ≡ []
word-NoElems no_nodes b n = refl
word-NoElems (text_first s f) b n = rw b.0 (word-NoElems f b.1 n)
word-NoElems (elem_first e kids f) b n = absurd n

-- there is an element
abbrev pub HasElems : Nodes → Type 0
HasElems no_nodes = ⊥
HasElems (text_first s f) = HasElems f
HasElems (elem_first e kids f) = Unit {0}

pub elems_or_none : (f : Nodes) → HasElems f ⊎ NoElems f
elems_or_none no_nodes = inr tt
elems_or_none (text_first s f) = elems_or_none f
elems_or_none (elem_first e kids f) = inl tt

pub word-HasElems : (t : Bool) (f : Nodes) → HasElems f → 0 < length (word_of t f)
word-HasElems t no_nodes s = absurd s
word-HasElems t (text_first x f) s =
    let rest = word-HasElems t f s in either (λ w. 0 < length w) (not t && is_blank x) (word_of t f) (Text ∷ word_of t f) rest (omega arith)
word-HasElems t (elem_first e kids f) s = omega arith

-- a child of some kind is an element
pub child-HasElems : (es : List Element) (f : Nodes) → has_child es f ≡ true → HasElems f
child-HasElems es no_nodes h = absurd (cc)
child-HasElems es (text_first s f) h = child-HasElems es f h
child-HasElems es (elem_first e kids f) h = tt
