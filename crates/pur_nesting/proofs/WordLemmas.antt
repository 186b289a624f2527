-- Where an element stays its children are a word of what it holds.
use Rattle.std.proofs.Common.{◌≡◌, List, [], ◌∷◌, Bool, true, false, not, ◌&&◌, ◌||◌, refl, sym, subst}
use Rattle.std.specs.Prelude.{if◌then◌else◌}
use Rattle.std.specs.List.{list_all}
use Rattle.std.proofs.lemmas.Bool.{and_from, and_parts}
use Rattle.pur_text.specs.Characters.{is_blank}
use Rattle.pur_names.specs.declared.elements.Element.{Element}
use Rattle.pur_names.specs.declared.elements.Element.TheVariants.{Table}
use Rattle.pur_names.specs.Elements.{same_element, all_elements}
use Rattle.pur_names.proofs.ElementLaws.{each_element}
use Rattle.pur_modules.specs.declared.kinds.Child.{Child}
use Rattle.pur_modules.specs.declared.kinds.Child.TheVariants.{Text, Elem}
use Rattle.pur_modules.specs.declared.kinds.Content.{Content}
use Rattle.pur_modules.specs.declared.kinds.Content.TheVariants.{Nothing}
use Rattle.pur_modules.specs.declared.kinds.Doctype.{Doctype}
use Rattle.pur_modules.specs.Contents.{content_held, is_nothing}
use Rattle.pur_modules.specs.Expressions.{is_letter, has_text_letter, child_letters}
use Rattle.pur_models.specs.Languages.{Language}
use Rattle.pur_models.specs.Laws.{takes_any_number, takes_one_or_more}
use Rattle.pur_models.proofs.WordLemmas.{any_letters, some_letters, if_empty}
use Rattle.pur_tree.specs.Nodes.{Nodes, no_nodes, text_first, elem_first}
use Rattle.pur_tree.specs.Properties.{Holds, letters}
use Rattle.pur_tree.specs.Words.{word_of, IsWord}
use Rattle.pur_nesting.specs.Repaired.{is_repaired, IsRepairedWord}
use Rattle.pur_nesting.specs.Tables.{has_child}
use Rattle.pur_nesting.specs.Nesting.{needed_by, vanishes}
use Rattle.pur_nesting.proofs.LetterLemmas.{space_in}
use Rattle.pur_nesting.proofs.BlankLemmas.{word-HasElems, child-HasElems}
use Rattle.pur_nesting.proofs.NeededLemmas.{needs}
use Rattle.pur_modules.proofs.KindLaws.{each_kind}

-- letters make words of letters
pub letters_word : (d : Doctype) (k : Content) (f : Nodes) → Holds (letters d) k f
    → list_all (is_letter d k) (word_of (has_text_letter d k) f) ≡ true
letters_word d k no_nodes h = refl
letters_word d k (text_first s f) h = go (has_text_letter d k) refl (letters_word d k f h.1)
  where
    go : (t : Bool) → has_text_letter d k ≡ t → list_all (is_letter d k) (word_of (has_text_letter d k) f) ≡ true
        → list_all (is_letter d k) (if not t && is_blank s then word_of (has_text_letter d k) f else (Text ∷ word_of (has_text_letter d k) f)) ≡ true
    go true is r = and_from _ _ is r
    go false is r = let space = space_in d k s is h.0 in rw space r
letters_word d k (elem_first e kids f) h = and_from _ _ h.0 (letters_word d k f h.2)

-- what an element holds isn't repaired; or takes any number, or nothing; or is a table's parts; or the element needs a child
abbrev kind_is_known : Doctype → Content → Element → Bool
kind_is_known d k e =
    not (is_repaired (content_held d e k))
    || (takes_any_number (content_held d e k) || (is_nothing (content_held d e k) || (same_element e Table || (takes_one_or_more (content_held d e k) && needs e))))

kinds_known : (d : Doctype) (k : Content) → list_all (kind_is_known d k) all_elements ≡ true
unfolding content_held
kinds_known d k = each_kind (λ d k. list_all (kind_is_known d k) all_elements) refl d k

kind_known : (d : Doctype) (k : Content) (e : Element) → kind_is_known d k e ≡ true
kind_known d k e = each_element (kind_is_known d k) (kinds_known d k) e

nothing_is : (k : Content) → is_nothing k ≡ true → k ≡ Nothing
nothing_is Nothing h = refl
nothing_is k h = absurd (cc)

nothing_word : (d : Doctype) (c : Child) → is_letter d Nothing c ≡ false
unfolding child_letters has_text_letter
nothing_word d Text = refl
nothing_word d (Elem e) = refl

word_of_nothing : (d : Doctype) (w : List Child) → list_all (is_letter d Nothing) w ≡ true → Language d Nothing w
word_of_nothing d [] h = if_empty d Nothing refl
word_of_nothing d (c ∷ w) h =
    let none = nothing_word d c in
    let some = (and_parts (is_letter d Nothing c) (list_all (is_letter d Nothing) w) h).0 in absurd (cc)

-- an element that is no table and doesn't vanish has a word for its children, where repair makes words of what it holds
pub word_of_element : (d : Doctype) (k : Content) (e : Element) (kids : Nodes) → same_element e Table ≡ false → vanishes e kids ≡ false
    → Holds (letters d) (content_held d e k) kids → IsRepairedWord d (content_held d e k) kids
word_of_element d k e kids no_table stays h repaired =
    go (takes_any_number held) refl (is_nothing held) refl (takes_one_or_more held) refl (needs e) refl (rw (no_table, repaired) at (kind_known d k e))
  where
    held : Content
    held = content_held d e k

    word : List Child
    word = word_of (has_text_letter d (content_held d e k)) kids

    all : list_all (is_letter d (content_held d e k)) (word_of (has_text_letter d (content_held d e k)) kids) ≡ true
    all = letters_word d (content_held d e k) kids h

    go : (a : Bool) → takes_any_number (content_held d e k) ≡ a → (b : Bool) → is_nothing (content_held d e k) ≡ b
        → (c : Bool) → takes_one_or_more (content_held d e k) ≡ c → (n : Bool) → needs e ≡ n
        → (a || (b || (false || (c && n)))) ≡ true → IsWord d (content_held d e k) kids
    go true ae b be c ce n ne known = any_letters d (content_held d e k) word ae all
    go false ae true be c ce n ne known =
        let same = nothing_is (content_held d e k) be in
        subst (λ x. Language d x word) (sym same) (word_of_nothing d word (subst (λ x. list_all (is_letter d x) word ≡ true) same all))
    go false ae false be true ce true ne known =
        let there : has_child (needed_by e) kids ≡ true = not_gone (has_child (needed_by e) kids) (rw ne at stays) in
        let some = word-HasElems (has_text_letter d (content_held d e k)) kids (child-HasElems (needed_by e) kids there) in
        some_letters d (content_held d e k) word ce some all
      where
        not_gone : (b : Bool) → (true && not b) ≡ false → b ≡ true
        not_gone true h = refl
        not_gone false h = absurd (cc)
    go false ae false be true ce false ne known = absurd (cc)
    go false ae false be false ce n ne known = absurd (cc)
