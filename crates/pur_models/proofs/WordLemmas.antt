-- Words of the content kinds.
use Rattle.std.proofs.Common.{◌≡◌, ◌<◌, ◌⊎◌, inl, inr, List, [], ◌∷◌, ◌++◌, append-nil, refl, ap, sym, ◌∙◌, subst, true, length, arith}
use Rattle.std.specs.List.{list_all, list_any}
use mathlib.Core.Bool.{beq}
use Rattle.pur_laws.proofs.Truth.{same_truth}
use Rattle.pur_modules.proofs.KindLaws.{each_kind}
use Rattle.pur_names.specs.declared.elements.Element.{Element}
use Rattle.pur_names.specs.declared.elements.Element.TheVariants.{Col, Colgroup, Legend, Tbody, Tr}
use Rattle.pur_modules.specs.declared.kinds.Child.{Child}
use Rattle.pur_modules.specs.declared.kinds.Content.{Content}
use Rattle.pur_modules.specs.declared.kinds.Content.TheVariants.{FieldsetMix, Flow, TableParts}
use Rattle.pur_modules.specs.declared.kinds.Doctype.{Doctype}
use Rattle.pur_modules.specs.Expressions.{Step, any_of, expression_of, is_letter, letters_of, one_step, optional, some_of, table_way}
use Rattle.pur_models.specs.Languages.{IsInLanguage, IsInWay, IsRun, Language, all_among, first_way, later_way, letters_in, no_step, step_first}
use Rattle.pur_models.specs.Laws.{IsFieldsetWord, IsTableWord, may_be_empty, takes_any_number, takes_one_or_more}
use Rattle.pur_models.specs.Deciding.{is_cut}
use Rattle.pur_models.specs.Private.KindLetters.{kind_letters}
use Rattle.pur_models.proofs.CuttingLemmas.{IsInLanguage-cut, cut-IsInLanguage}
use Rattle.pur_models.proofs.ExpressionLemmas.{AreDisjoint-expression_of}
use Rattle.pur_models.proofs.KindLemmas.{any_kind, some_kind}
use Rattle.pur_models.proofs.LetterLemmas.{all_among-left, all_among-right}
use Rattle.pur_models.proofs.RunLemmas.{letters_of_way}
use Rattle.pur_models.proofs.TableLemmas.{all_allowed}

-- each letter of a word of an expression is one of its letters
pub letters_of_word : {ways : List (List Step)} {word : List Child} → IsInLanguage ways word → all_among (letters_of ways) word ≡ true
letters_of_word (first_way {way} {ways} {word} w) = all_among-left (letters_in way) (letters_of ways) word (letters_of_way w)
letters_of_word (later_way {way} {ways} {word} w) = all_among-right (letters_in way) (letters_of ways) word (letters_of_word w)

pub words_are_allowed : (doctype : Doctype) (content : Content) (word : List Child) → Language doctype content word
    → list_all (is_letter doctype content) word ≡ true
words_are_allowed doctype content word w = all_allowed doctype content word ∙ letters_of_word w

-- one run is a word of its step alone
pub one_run : {step : Step} {word : List Child} → IsRun step word → IsInLanguage (one_step step) word
one_run {step} {word} r =
    let P : List Child → Type 0 = λ w. IsInWay (step ∷ []) w in
    first_way (subst P (append-nil word) (step_first r no_step))

-- the letters of an expression with one step are those of the step
one_step_letters : (step : Step) → letters_of (one_step step) ≡ step.letters
one_step_letters step = append-nil (step.letters ++ []) ∙ append-nil step.letters

allowed_in_step : (doctype : Doctype) (content : Content) (step : Step) (word : List Child)
    → expression_of doctype content ≡ one_step step → list_all (is_letter doctype content) word ≡ true
    → all_among step.letters word ≡ true
allowed_in_step doctype content step word is h =
    sym (ap (λ letters. all_among letters word) (ap letters_of is ∙ one_step_letters step)) ∙ sym (all_allowed doctype content word) ∙ h

any_word : (doctype : Doctype) (content : Content) (letters word : List Child)
    → expression_of doctype content ≡ one_step (any_of letters) → list_all (is_letter doctype content) word ≡ true
    → Language doctype content word
any_word doctype content letters word is h =
    let P : List (List Step) → Type 0 = λ ways. IsInLanguage ways word in
    subst P (sym is) (one_run (record {
      letters = allowed_in_step doctype content (any_of letters) word is h;
      least = omega arith;
      most = λ one. absurd (cc);
    }))

some_word : (doctype : Doctype) (content : Content) (letters word : List Child)
    → expression_of doctype content ≡ one_step (some_of letters) → 0 < length word
    → list_all (is_letter doctype content) word ≡ true → Language doctype content word
some_word doctype content letters word is full h =
    let P : List (List Step) → Type 0 = λ ways. IsInLanguage ways word in
    subst P (sym is) (one_run (record {
      letters = allowed_in_step doctype content (some_of letters) word is h;
      least = omega arith;
      most = λ one. absurd (cc);
    }))

pub any_letters : (doctype : Doctype) (content : Content) (word : List Child) → takes_any_number content ≡ true
    → list_all (is_letter doctype content) word ≡ true → Language doctype content word
any_letters doctype content word t h = any_word doctype content (kind_letters doctype content) word (any_kind doctype content t) h

pub some_letters : (doctype : Doctype) (content : Content) (word : List Child) → takes_one_or_more content ≡ true
    → 0 < length word → list_all (is_letter doctype content) word ≡ true → Language doctype content word
some_letters doctype content word t full h =
    some_word doctype content (kind_letters doctype content) word (some_kind doctype content t) full h

-- the empty word is cut up in the kinds that may be empty alone
empty_cut : (doctype : Doctype) (content : Content)
    → list_any (λ way. is_cut way []) (expression_of doctype content) ≡ may_be_empty content
empty_cut doctype content =
    same_truth _ _ (each_kind (λ d k. beq (list_any (λ way. is_cut way []) (expression_of d k)) (may_be_empty k)) refl doctype content)

pub empty_if : (doctype : Doctype) (content : Content) → Language doctype content [] → may_be_empty content ≡ true
empty_if doctype content w = sym (empty_cut doctype content) ∙ cut-IsInLanguage w (AreDisjoint-expression_of doctype content)

pub if_empty : (doctype : Doctype) (content : Content) → may_be_empty content ≡ true → Language doctype content []
if_empty doctype content h = IsInLanguage-cut (expression_of doctype content) [] (empty_cut doctype content ∙ h)

-- a word of a way of a table is its parts
parts_of_way : (column group : Element) (word : List Child) → (column ≡ Col) ⊎ (column ≡ Colgroup) → (group ≡ Tbody) ⊎ (group ≡ Tr)
    → IsInWay (table_way column group) word → IsTableWord word
parts_of_way column group word ck gk (step_first {run = captions} a (step_first {run = columns} b (step_first {run = heads} c (step_first {run = feet} d (step_first {run = bodies} e no_step))))) =
    record {
      column = column;
      body = group;
      captions = captions;
      columns = columns;
      heads = heads;
      feet = feet;
      bodies = bodies;
      column_kind = ck;
      body_kind = gk;
      caption_run = a;
      column_run = b;
      head_run = c;
      foot_run = d;
      body_run = e;
      joined = ap (λ w. captions ++ (columns ++ (heads ++ (feet ++ w)))) (append-nil bodies);
    }

pub parts_of_table : (doctype : Doctype) (word : List Child) → Language doctype TableParts word → IsTableWord word
parts_of_table doctype word (first_way w) = parts_of_way Col Tbody word (inl refl) (inl refl) w
parts_of_table doctype word (later_way (first_way w)) = parts_of_way Col Tr word (inl refl) (inr refl) w
parts_of_table doctype word (later_way (later_way (first_way w))) = parts_of_way Colgroup Tbody word (inr refl) (inl refl) w
parts_of_table doctype word (later_way (later_way (later_way (first_way w)))) = parts_of_way Colgroup Tr word (inr refl) (inr refl) w
parts_of_table doctype word (later_way (later_way (later_way (later_way w)))) = elim w [ ]

-- a way of a table with the kinds that it has
kinds_moved : {c d b a : Element} {word : List Child} → c ≡ d → b ≡ a → IsInWay (table_way c b) word → IsInWay (table_way d a) word
kinds_moved {c} {d} {b} {a} {word} e f w =
    let F : Element → Type 0 = λ x. IsInWay (table_way x b) word in
    let G : Element → Type 0 = λ y. IsInWay (table_way d y) word in
    subst G f (subst F e w)

in_table : (doctype : Doctype) (column group : Element) (word : List Child)
    → (column ≡ Col) ⊎ (column ≡ Colgroup) → (group ≡ Tbody) ⊎ (group ≡ Tr)
    → IsInWay (table_way column group) word → Language doctype TableParts word
in_table doctype column group word (inl e) (inl f) w = first_way (kinds_moved e f w)
in_table doctype column group word (inl e) (inr f) w = later_way (first_way (kinds_moved e f w))
in_table doctype column group word (inr e) (inl f) w = later_way (later_way (first_way (kinds_moved e f w)))
in_table doctype column group word (inr e) (inr f) w = later_way (later_way (later_way (first_way (kinds_moved e f w))))

pub table_of_parts : (doctype : Doctype) (word : List Child) → IsTableWord word → Language doctype TableParts word
table_of_parts doctype word t =
    let W : List Child → Type 0 = λ w. IsInWay (table_way t.column t.body) w in
    let w : IsInWay (table_way t.column t.body) (t.captions ++ (t.columns ++ (t.heads ++ (t.feet ++ (t.bodies ++ []))))) =
    step_first t.caption_run (step_first t.column_run (step_first t.head_run (step_first t.foot_run (step_first t.body_run no_step)))) in
    let same : t.captions ++ (t.columns ++ (t.heads ++ (t.feet ++ (t.bodies ++ [])))) ≡ word =
    ap (λ b. t.captions ++ (t.columns ++ (t.heads ++ (t.feet ++ b)))) (append-nil t.bodies) ∙ sym t.joined in
    in_table doctype t.column t.body word t.column_kind t.body_kind (subst W same w)

-- a word of a fieldset is its parts
pub parts_of_fieldset : (doctype : Doctype) (word : List Child) → Language doctype FieldsetMix word → IsFieldsetWord doctype word
parts_of_fieldset doctype word (first_way (step_first {run = legends} a (step_first {run = rest} b no_step))) = record {
  legends = legends;
  rest = rest;
  legend_run = a;
  flow = one_run b;
  joined = ap (λ w. legends ++ w) (append-nil rest);
}
parts_of_fieldset doctype word (later_way w) = elim w [ ]

-- flow content behind a legend or none is a word of a fieldset
behind_legend : (doctype : Doctype) (legends rest : List Child) → IsRun (optional Legend) legends → Language doctype Flow rest
    → Language doctype FieldsetMix (legends ++ rest)
behind_legend doctype legends rest a (first_way (step_first b no_step)) = first_way (step_first a (step_first b no_step))
behind_legend doctype legends rest a (later_way w) = elim w [ ]

pub fieldset_of_parts : (doctype : Doctype) (word : List Child) → IsFieldsetWord doctype word → Language doctype FieldsetMix word
fieldset_of_parts doctype word f =
    let P : List Child → Type 0 = λ w. Language doctype FieldsetMix w in
    subst P (sym f.joined) (behind_legend doctype f.legends f.rest f.legend_run f.flow)
