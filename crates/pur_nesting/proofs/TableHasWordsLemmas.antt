-- A repaired table has words.
use Rattle.std.proofs.Common.{◌≡◌, [], ◌∷◌, Bool, true, false, not, ◌&&◌, refl, ap, sym, ◌∙◌}
use Rattle.pur_laws.proofs.Truth.{either}
use Rattle.pur_names.specs.declared.elements.Element.{Element}
use Rattle.pur_names.specs.declared.elements.Element.TheVariants.{Caption, P, Table, Tbody, Tfoot, Thead, Tr}
use Rattle.pur_modules.specs.declared.kinds.Content.{Content}
use Rattle.pur_modules.specs.declared.kinds.Content.TheVariants.{TableParts}
use Rattle.pur_modules.specs.declared.kinds.Doctype.{Doctype}
use Rattle.pur_modules.specs.Contents.{content_held}
use Rattle.pur_modules.specs.Groups.{is_among}
use Rattle.pur_models.specs.Laws.{IsTableWord}
use Rattle.pur_models.proofs.WordLemmas.{table_of_parts}
use Rattle.pur_tree.specs.Nodes.{PlainElem, bare, Nodes, no_nodes, text_first, elem_first}
use Rattle.pur_tree.specs.Properties.{Holds, letters}
use Rattle.pur_tree.specs.Words.{word_of}
use Rattle.pur_nesting.specs.Repaired.{IsRepairedWord, HaveRepairedWords}
use Rattle.pur_nesting.specs.declared.permits.Permits.{Permits}
use Rattle.pur_nesting.specs.declared.roles.Role.{Role}
use Rattle.pur_nesting.specs.declared.roles.Role.TheVariants.{Title, Header, Footer, Stranger}
use Rattle.pur_nesting.specs.declared.roles.Part.{Part}
use Rattle.pur_nesting.specs.declared.roles.Part.TheVariants.{Lead, Captions, Columns, Heads, Feet, Bodies}
use Rattle.pur_nesting.specs.Parts.{same_role, at_first}
use Rattle.pur_nesting.specs.Tables.{are_blank, as_bodies, of_one_kind, table, without_bodies, parts_of, repaired_table}
use Rattle.pur_nesting.proofs.RoleLemmas.{element_with, may_hold}
use Rattle.pur_nesting.proofs.HoldsLemmas.{Fits, Fits-part, is_caption, Holds-part}
use Rattle.pur_nesting.proofs.LetterLemmas.{held_table, held_inline, no_text, letters_of_bodies, letters_of_one_kind}
use Rattle.pur_nesting.proofs.OneLemmas.{NoElems, AtMostOne, AtMostOne-part, is_single}
use Rattle.pur_nesting.proofs.BlankLemmas.{Blank, Blank-letters, NoElems-lead, HasElems}
use Rattle.pur_nesting.proofs.OrderLemmas.{Only}
use Rattle.pur_nesting.proofs.TableLemmas.{each_table}
use Rattle.pur_nesting.proofs.OnlyLemmas.{Only-role, only_Title, only_Header, only_Footer, Only-as_bodies, Fits-heads, Fits-feet, bodies_alike}
use Rattle.pur_nesting.proofs.ColumnLemmas.{AreAlike, columns_alike}
use Rattle.pur_nesting.proofs.BodyLemmas.{Begins, Begins-part, HasElems-as_bodies, HasElems-of_one_kind}
use Rattle.pur_nesting.proofs.TableWordLemmas.{in_order, table_word}
use Rattle.pur_nesting.proofs.HaveWordsLemmas.{HaveWords-at, IsWord-at, HaveWords-append, HaveWords-part, HaveWords-as_bodies, HaveWords-of_one_kind}

-- the nodes may stand in a table, and have words
abbrev IsGood : Doctype → Nodes → Type 0
IsGood d f = Holds (letters d) TableParts f × HaveRepairedWords d TableParts f

-- and there is at most one element, of some name
abbrev IsOne : Doctype → Element → Nodes → Type 0
IsOne d x f = Holds (letters d) TableParts f × HaveRepairedWords d TableParts f × Only (x ∷ []) f × AtMostOne f

-- a table of good parts has words
HaveWords-table : (d : Doctype) (p : Permits) (k : Content) (e : PlainElem) (lead captions columns heads feet bodies : Nodes) → e.name ≡ Table
    → IsGood d lead → NoElems lead → IsOne d Caption captions → IsGood d columns → AreAlike columns
    → IsOne d Thead heads → IsOne d Tfoot feet → IsGood d bodies → Only (Tbody ∷ Tr ∷ []) bodies → HasElems bodies
    → HaveRepairedWords d k (table e lead captions columns heads feet bodies)
HaveWords-table d p k e a b c x y z named ga none gb gc alike gx gy gz bodies some =
    (IsWord-at d TableParts (content_held d e.name k) kids same in_language, HaveWords-at d TableParts (content_held d e.name k) kids same inside, tt)
  where
    kids : Nodes
    kids = in_order a b c x y (of_one_kind z)

    same : TableParts ≡ content_held d e.name k
    same = sym (ap (λ x. content_held d x k) named ∙ held_table d k)

    blank : (f : Nodes) → Holds (letters d) TableParts f → Blank f
    blank f l = Blank-letters d TableParts f (no_text d).1 l

    word : IsTableWord (word_of false kids)
    word = table_word a b c x y (of_one_kind z) (blank a ga.0) none (blank b gb.0) gb.2 gb.3 (blank c gc.0) alike
        (blank x gx.0) gx.2 gx.3 (blank y gy.0) gy.2 gy.3
        (blank (of_one_kind z) (letters_of_one_kind d p z gz.0)) (bodies_alike z bodies) (HasElems-of_one_kind z some)

    in_language : IsRepairedWord d TableParts kids
    in_language repaired = rw (no_text d).1 (table_of_parts d (word_of false kids) word)

    inside : HaveRepairedWords d TableParts kids
    inside =
        HaveWords-append d TableParts a _ ga.1 (HaveWords-append d TableParts b _ gb.1 (HaveWords-append d TableParts c _ gc.1
        (HaveWords-append d TableParts x _ gx.1 (HaveWords-append d TableParts y _ gy.1 (HaveWords-of_one_kind d p z gz.0 gz.1)))))

-- a paragraph of a caption's children
HaveWords-without_bodies : (d : Doctype) (k : Content) (paragraph : Bool) (f : Nodes) → Fits Captions f → HaveRepairedWords d TableParts f
    → HaveRepairedWords d k (without_bodies paragraph f)
HaveWords-without_bodies d k paragraph no_nodes fits h = tt
HaveWords-without_bodies d k paragraph (text_first s f) fits h = tt
HaveWords-without_bodies d k paragraph (elem_first e kids f) fits h =
    either (HaveRepairedWords d k) (paragraph && not (are_blank kids)) (elem_first (bare P) kids no_nodes) no_nodes
    (IsWord-at d (content_held d e.name TableParts) (content_held d P k) kids same h.0, HaveWords-at d _ _ kids same h.1, tt) tt
  where
    same : content_held d e.name TableParts ≡ content_held d P k
    same = ap (λ x. content_held d x TableParts) (is_caption e.name fits.0) ∙ (held_inline d TableParts).0 ∙ sym (held_inline d k).1

pub HaveWords-repaired_table : (d : Doctype) (p : Permits) (k : Content) (e : PlainElem) (kids : Nodes) → e.name ≡ Table
    → Holds (letters d) TableParts kids → HaveRepairedWords d TableParts kids → HaveRepairedWords d k (repaired_table p e kids)
HaveWords-repaired_table d p k e kids named l h =
    each_table (HaveRepairedWords d k) p e (parts_of kids) (
    λ x. made (parts_of kids Heads) (parts_of kids Feet) (parts_of kids Bodies) heads feet (good Bodies) (fits Bodies)
    (Begins-part Bodies at_first kids refl x)
    ) (
    λ x y. made (parts_of kids Heads) no_nodes (parts_of kids Feet) heads (tt, tt, tt, tt) (good Feet) (Fits-feet (parts_of kids Feet) (fits Feet))
    (Begins-part Feet at_first kids refl y)
    ) (
    λ x y z. made no_nodes no_nodes (parts_of kids Heads) (tt, tt, tt, tt) (tt, tt, tt, tt) (good Heads) (Fits-heads (parts_of kids Heads) (fits Heads))
    (Begins-part Heads at_first kids refl z)
    ) (λ x y z. HaveWords-without_bodies d k p.paragraph (parts_of kids Captions) (fits Captions) (good Captions).1)
  where
    good : (w : Part) → IsGood d (parts_of kids w)
    good w = (Holds-part (letters d) TableParts w at_first kids l, HaveWords-part d TableParts w at_first kids h)

    fits : (w : Part) → Fits w (parts_of kids w)
    fits w = Fits-part w at_first kids

    one : (w : Part) (role : Role) → ((r : Role) → may_hold w r ≡ true → r ≡ role) → same_role role Stranger ≡ false
        → is_among (element_with role ∷ []) (element_with role) ≡ true → is_single w ≡ true → IsOne d (element_with role) (parts_of kids w)
    one w role only known self single =
        ((good w).0, (good w).1, Only-role w role only known self (parts_of kids w) (fits w), AtMostOne-part w at_first kids single)

    captions : IsOne d Caption (parts_of kids Captions)
    captions = one Captions Title only_Title refl refl refl

    heads : IsOne d Thead (parts_of kids Heads)
    heads = one Heads Header only_Header refl refl refl

    feet : IsOne d Tfoot (parts_of kids Feet)
    feet = one Feet Footer only_Footer refl refl refl

    made : (x y z : Nodes) → IsOne d Thead x → IsOne d Tfoot y → IsGood d z → Fits Bodies z → Begins z
        → HaveRepairedWords d k (table e (parts_of kids Lead) (parts_of kids Captions) (parts_of kids Columns) x y (as_bodies p.tbody z))
    made x y z head foot body fit begins =
        HaveWords-table d p k e (parts_of kids Lead) (parts_of kids Captions) (parts_of kids Columns) x y (as_bodies p.tbody z) named
        (good Lead) (NoElems-lead (parts_of kids Lead) (fits Lead)) captions (good Columns) (columns_alike at_first kids refl refl) head foot
        (letters_of_bodies d p z body.0, HaveWords-as_bodies d p.tbody z body.0 body.1)
        (Only-as_bodies d p.tbody z fit body.0) (HasElems-as_bodies d p.tbody z begins body.0 body.1)
