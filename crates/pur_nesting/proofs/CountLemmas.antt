-- What stands after repair and what is lost is what stood before: each character that isn't white space.
use Rattle.std.proofs.Common.{◌≡◌, ℕ, ◌+◌, Bool, true, false, refl, ap, ◌∙◌, arith}
use Rattle.std.specs.Prelude.{if◌then◌else◌}
use Rattle.pur_text.specs.Characters.{is_space}
use Rattle.pur_names.specs.declared.elements.Element.TheVariants.{Table}
use Rattle.pur_names.specs.Elements.{same_element}
use Rattle.pur_names.proofs.ElementLaws.{same_element-Decides}
use Rattle.pur_modules.specs.declared.kinds.Content.{Content}
use Rattle.pur_modules.specs.declared.kinds.Content.TheVariants.{TableParts}
use Rattle.pur_modules.specs.declared.kinds.Doctype.{Doctype}
use Rattle.pur_modules.specs.Contents.{content_held}
use Rattle.pur_tree.specs.Nodes.{PlainElem, Nodes, no_nodes, text_first, elem_first}
use Rattle.pur_tree.specs.Properties.{Holds, letters}
use Rattle.pur_tree.specs.Walks.{walk, count_in_text}
use Rattle.pur_tree.proofs.WalkLemmas.{count_in_text-append, count_in_text-joined_nodes}
use Rattle.pur_nesting.specs.declared.permits.Permits.{Permits}
use Rattle.pur_nesting.specs.Tables.{lost_in_table}
use Rattle.pur_nesting.specs.Nesting.{vanishes, repair, nested, lost_in_nesting}
use Rattle.pur_nesting.proofs.LetterLemmas.{held_table, at_kind, letters_walk}
use Rattle.pur_nesting.proofs.BlankLemmas.{count_in_text-NoElems}
use Rattle.pur_nesting.proofs.NeededLemmas.{vanished}
use Rattle.pur_nesting.proofs.TableCountLemmas.{count_in_text-repaired_table}

count_in_text-repair : (c : ℕ) (d : Doctype) (p : Permits) (k : Content) (e : PlainElem) (kids : Nodes) → is_space c ≡ false
    → Holds (letters d) (content_held d e.name k) kids
    → count_in_text c (repair p e kids) + (if same_element e.name Table then lost_in_table c p kids else 0) ≡ count_in_text c kids
count_in_text-repair c d p k e kids other h = go (same_element e.name Table) refl (vanishes e.name kids) refl
  where
    go : (b : Bool) → same_element e.name Table ≡ b → (v : Bool) → vanishes e.name kids ≡ v
        → count_in_text c (repair p e kids) + (if same_element e.name Table then lost_in_table c p kids else 0) ≡ count_in_text c kids
    go true is v gone =
        let held = ap (λ x. content_held d x k) ((same_element-Decides e.name Table).0 is) ∙ held_table d k in
        rw is (count_in_text-repaired_table c d p e kids other (at_kind d (content_held d e.name k) TableParts kids held h))
    go false is true gone = let v = vanished d k e.name kids gone h in let none = count_in_text-NoElems c kids other v.3 v.4 in rw (is, gone) (omega (arith, none))
    go false is false gone = rw (is, gone) (omega arith)

-- what stands after the repair and what is lost is what stood before
count_in_text-walk : (c : ℕ) (d : Doctype) (p : Permits) (k : Content) (f : Nodes) → is_space c ≡ false → Holds (letters d) k f
    → count_in_text c (walk (repair p) f) + lost_in_nesting c p f ≡ count_in_text c f
count_in_text-walk c d p k no_nodes other h = refl
count_in_text-walk c d p k (text_first s f) other h = omega (arith, count_in_text-walk c d p k f other h.1)
count_in_text-walk c d p k (elem_first e kids f) other h =
    let inner = count_in_text-walk c d p (content_held d e.name k) kids other h.1 in
    let here = count_in_text-repair c d p k e (walk (repair p) kids) other (letters_walk d p (content_held d e.name k) kids h.1) in
    let more = count_in_text-walk c d p k f other h.2 in
    let sum = count_in_text-append c (repair p e (walk (repair p) kids)) (walk (repair p) f) in
    omega (arith, inner, here, more, sum)

pub count_in_text-nested : (c : ℕ) (d : Doctype) (p : Permits) (k : Content) (f : Nodes) → is_space c ≡ false → Holds (letters d) k f
    → count_in_text c (nested p f) + lost_in_nesting c p f ≡ count_in_text c f
count_in_text-nested c d p k f other h = omega (arith, count_in_text-joined_nodes c (walk (repair p) f), count_in_text-walk c d p k f other h)
