-- A table's parts in their order are a word of a table.
use Rattle.std.proofs.Common.{◌≡◌, ◌≤◌, ◌⊎◌, inl, inr, length, [], ◌∷◌, ◌++◌, Bool, true, false, not, ◌&&◌, refl, ap, ◌∙◌, arith}
use Rattle.std.proofs.lemmas.Bool.{and_from}
use Rattle.pur_text.specs.Characters.{is_blank}
use Rattle.pur_names.specs.declared.elements.Element.{Element}
use Rattle.pur_names.specs.declared.elements.Element.TheVariants.{Caption, Col, Colgroup, Tbody, Tfoot, Thead, Tr}
use Rattle.pur_modules.specs.declared.kinds.Child.TheVariants.{Text, Elem}
use Rattle.pur_modules.specs.Expressions.{optional, any_of, some_of, elems}
use Rattle.pur_models.specs.Languages.{IsRun, all_among}
use Rattle.pur_models.specs.Laws.{IsTableWord}
use Rattle.pur_tree.specs.Nodes.{Nodes, no_nodes, text_first, elem_first, nodes_append}
use Rattle.pur_tree.specs.Words.{word_of}
use Rattle.pur_nesting.proofs.OneLemmas.{NoElems, AtMostOne}
use Rattle.pur_nesting.proofs.BlankLemmas.{Blank, word-NoElems, HasElems, word-HasElems}
use Rattle.pur_nesting.proofs.OrderLemmas.{Only}
use Rattle.pur_nesting.proofs.ColumnLemmas.{AreAlike}

word_of-append : (t : Bool) (f g : Nodes) → word_of t (nodes_append f g) ≡ word_of t f ++ word_of t g
word_of-append t no_nodes g = refl
word_of-append t (text_first s f) g = go (not t && is_blank s) refl (word_of-append t f g)
  where
    go : (b : Bool) → (not t && is_blank s) ≡ b → word_of t (nodes_append f g) ≡ word_of t f ++ word_of t g
        → word_of t (nodes_append (text_first s f) g) ≡ word_of t (text_first s f) ++ word_of t g
    go true is r = rw is r
    go false is r = rw is (ap (λ w. Text ∷ w) r)
word_of-append t (elem_first e kids f) g = ap (λ w. Elem e.name ∷ w) (word_of-append t f g)

word-AtMostOne : (f : Nodes) → Blank f → AtMostOne f → length (word_of false f) ≤ 1
word-AtMostOne no_nodes b n = omega arith
word-AtMostOne (text_first s f) b n = rw b.0 (word-AtMostOne f b.1 n)
word-AtMostOne (elem_first e kids f) b n = rw (word-NoElems f b n) (omega arith)

word-Only : (x : Element) (f : Nodes) → Blank f → Only (x ∷ []) f → all_among (elems (x ∷ [])) (word_of false f) ≡ true
word-Only x no_nodes b o = refl
word-Only x (text_first s f) b o = rw b.0 (word-Only x f b.1 o)
word-Only x (elem_first e kids f) b o = and_from _ _ o.0 (word-Only x f b o.1)

-- runs of a table's word
run_of_one : (x : Element) (f : Nodes) → Blank f → Only (x ∷ []) f → AtMostOne f → IsRun (optional x) (word_of false f)
run_of_one x f b o one = record { letters = word-Only x f b o; least = omega arith; most = λ m. word-AtMostOne f b one }

run_of_any : (x : Element) (f : Nodes) → Blank f → Only (x ∷ []) f → IsRun (any_of (elems (x ∷ []))) (word_of false f)
run_of_any x f b o = record { letters = word-Only x f b o; least = omega arith; most = λ m. absurd (cc) }

run_of_some : (x : Element) (f : Nodes) → Blank f → Only (x ∷ []) f → HasElems f → IsRun (some_of (elems (x ∷ []))) (word_of false f)
run_of_some x f b o s = record { letters = word-Only x f b o; least = word-HasElems false f s; most = λ m. absurd (cc) }

-- the parts of a table in their order
abbrev pub in_order : Nodes → Nodes → Nodes → Nodes → Nodes → Nodes → Nodes
in_order lead captions columns heads feet bodies =
    nodes_append lead (nodes_append captions (nodes_append columns (nodes_append heads (nodes_append feet bodies))))

-- they are a word of a table
pub table_word : (lead captions columns heads feet bodies : Nodes) → Blank lead → NoElems lead
    → Blank captions → Only (Caption ∷ []) captions → AtMostOne captions
    → Blank columns → AreAlike columns
    → Blank heads → Only (Thead ∷ []) heads → AtMostOne heads → Blank feet → Only (Tfoot ∷ []) feet → AtMostOne feet
    → Blank bodies → Only (Tbody ∷ []) bodies ⊎ Only (Tr ∷ []) bodies → HasElems bodies
    → IsTableWord (word_of false (in_order lead captions columns heads feet bodies))
table_word lead captions columns heads feet bodies lb ln cb co c1 kb ko hb ho h1 fb fo f1 bb bo bs = go ko bo
  where
    behind_lead : Nodes
    behind_lead = nodes_append captions (nodes_append columns (nodes_append heads (nodes_append feet bodies)))

    word : word_of false (in_order lead captions columns heads feet bodies)
        ≡ word_of false captions ++ (word_of false columns ++ (word_of false heads ++ (word_of false feet ++ word_of false bodies)))
    word = word_of-append false lead behind_lead ∙ ap (λ x. x ++ word_of false behind_lead) (word-NoElems lead lb ln)
        ∙ word_of-append false captions (nodes_append columns (nodes_append heads (nodes_append feet bodies)))
        ∙ ap (λ x. word_of false captions ++ x) (word_of-append false columns (nodes_append heads (nodes_append feet bodies))
        ∙ ap (λ x. word_of false columns ++ x) (word_of-append false heads (nodes_append feet bodies)
        ∙ ap (λ x. word_of false heads ++ x) (word_of-append false feet bodies)))

    made : (x y : Element) → (x ≡ Col) ⊎ (x ≡ Colgroup) → (y ≡ Tbody) ⊎ (y ≡ Tr) → Only (x ∷ []) columns → Only (y ∷ []) bodies
        → IsTableWord (word_of false (in_order lead captions columns heads feet bodies))
    made x y xk yk xo yo = record {
      column = x;
      body = y;
      captions = word_of false captions;
      columns = word_of false columns;
      heads = word_of false heads;
      feet = word_of false feet;
      bodies = word_of false bodies;
      column_kind = xk;
      body_kind = yk;
      caption_run = run_of_one Caption captions cb co c1;
      column_run = run_of_any x columns kb xo;
      head_run = run_of_one Thead heads hb ho h1;
      foot_run = run_of_one Tfoot feet fb fo f1;
      body_run = run_of_some y bodies bb yo bs;
      joined = word;
    }

    go : AreAlike columns → Only (Tbody ∷ []) bodies ⊎ Only (Tr ∷ []) bodies
        → IsTableWord (word_of false (in_order lead captions columns heads feet bodies))
    go (inl k) (inl b) = made Col Tbody (inl refl) (inl refl) k b
    go (inl k) (inr b) = made Col Tr (inl refl) (inr refl) k b
    go (inr k) (inl b) = made Colgroup Tbody (inr refl) (inl refl) k b
    go (inr k) (inr b) = made Colgroup Tr (inr refl) (inr refl) k b
