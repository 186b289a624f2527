-- Compounds cut at their marks.
use Rattle.std.proofs.Common.{◌≡◌, ℕ, ◌+◌, ◌≤◌, true, false, List, [], ◌∷◌, ◌++◌, length, take, drop, refl, sym, ap, ◌∙◌, arith, ⊎_elim, take-append-drop}
use Rattle.std.proofs.lemmas.Bool.{cases_Bool, and_parts, and_from, cond-true, cond-false, not-true}
use Rattle.std.proofs.lemmas.List.{length-drop}
use Rattle.std.specs.List.{flat_map, list_all, prefix_len}
use Rattle.std.specs.Prelude.{not, ◌&&◌}
use Rattle.std.specs.Str.{str_to_ascii_lowercase}
use Rattle.pur_laws.proofs.Ends.{front_gone}
use Rattle.pur_laws.proofs.Lists.{all-prefix}
use Rattle.pur_settings.specs.Rules.{Rules}
use Rattle.pur_sheet.specs.Selectors.{Part, Compound, behind_character, compound_of, compound_text, is_compound, is_head, is_mark, is_part, part_text}
use Rattle.pur_sheet.specs.Private.Words.{is_no_mark}

compound_first : (c : ℕ) (text : List ℕ) → compound_of (c ∷ text) ≡ behind_character c (compound_of text)
unfolding compound_of
compound_first c text = refl

marked : (c : ℕ) (text : List ℕ) → is_mark c ≡ true → compound_of (c ∷ text) ≡ record { head = []; parts = (c, (compound_of text).head) ∷ (compound_of text).parts }
marked c text is = compound_first c text ∙ cond-true _ _ _ is

unmarked : (c : ℕ) (text : List ℕ) → is_mark c ≡ false → compound_of (c ∷ text) ≡ record { head = c ∷ (compound_of text).head; parts = (compound_of text).parts }
unmarked c text is = compound_first c text ∙ cond-false _ _ _ is

no_text : compound_of [] ≡ record { head = []; parts = [] }
unfolding compound_of
no_text = refl

begins_marked : (c : ℕ) (text : List ℕ) → prefix_len is_no_mark (c ∷ text) ≡ 0 → is_mark c ≡ true
begins_marked c text none = ⊎_elim
    (λ (is : is_mark c ≡ true). is)
    (λ (no : is_mark c ≡ false).
    let more : prefix_len is_no_mark (c ∷ text) ≡ 1 + prefix_len is_no_mark text = cond-true _ _ _ (ap not no) in
    absurd (omega arith))
    (cases_Bool (is_mark c))

-- parts have no head
pub no_head : (text : List ℕ) → prefix_len is_no_mark text ≡ 0 → (compound_of text).head ≡ []
no_head [] none = ap (λ (c : Compound). c.head) no_text
no_head (c ∷ text) none = ap (λ (c : Compound). c.head) (marked c text (begins_marked c text none))

pub head_taken : (head text : List ℕ) → list_all is_no_mark head ≡ true → prefix_len is_no_mark text ≡ 0
    → ((compound_of (head ++ text)).head ≡ head) × ((compound_of (head ++ text)).parts ≡ (compound_of text).parts)
head_taken [] text all none = (no_head text none, refl)
head_taken (c ∷ head) text all none =
    let both = and_parts (is_no_mark c) (list_all is_no_mark head) all in
    let more = head_taken head text both.1 none in
    let first = unmarked c (head ++ text) (not-true (is_mark c) both.0) in
    (ap (λ (c : Compound). c.head) first ∙ ap (λ t. c ∷ t) more.0, ap (λ (c : Compound). c.parts) first ∙ more.1)

-- a text cut before its first mark
pub record IsCut (text head parts : List ℕ) : Type 0 where
  pub same_head : (compound_of text).head ≡ head
  pub same_parts : (compound_of text).parts ≡ (compound_of parts).parts
  pub begins : prefix_len is_no_mark parts ≡ 0
  pub whole : head ++ parts ≡ text
  pub shorter : length parts ≤ length text

pub head_cut : (text head parts : List ℕ) (n : ℕ) → n ≡ prefix_len is_no_mark text → head ≡ take n text → parts ≡ drop n text → IsCut text head parts
head_cut text head parts n count head_is parts_is =
    let whole : head ++ parts ≡ text = ap (λ t. t ++ parts) head_is ∙ ap (λ t. take n text ++ t) parts_is ∙ take-append-drop n text in
    let all : list_all is_no_mark head ≡ true = ap (list_all is_no_mark) (head_is ∙ ap (λ k. take k text) count) ∙ all-prefix is_no_mark text in
    let begins : prefix_len is_no_mark parts ≡ 0 = ap (prefix_len is_no_mark) (parts_is ∙ ap (λ k. drop k text) count) ∙ front_gone is_no_mark text in
    let both = head_taken head parts all begins in
    record {
      same_head = ap (λ t. (compound_of t).head) (sym whole) ∙ both.0;
      same_parts = ap (λ t. (compound_of t).parts) (sym whole) ∙ both.1;
      begins = begins;
      whole = whole;
      shorter = omega (arith, ap length parts_is, length-drop n text);
    }

-- the first of some parts, and those behind it
pub part_read : (text : List ℕ) (mark : ℕ) (behind name next : List ℕ) → text ≡ mark ∷ behind → prefix_len is_no_mark text ≡ 0 → IsCut behind name next
    → (compound_of text).parts ≡ (mark, name) ∷ (compound_of next).parts
part_read text mark behind name next split none cut =
    let is : is_mark mark ≡ true = begins_marked mark behind (ap (prefix_len is_no_mark) (sym split) ∙ none) in
    ap (λ t. (compound_of t).parts) split ∙ ap (λ (c : Compound). c.parts) (marked mark behind is)
    ∙ ap (λ t. (mark, t) ∷ (compound_of behind).parts) cut.same_head ∙ ap (λ t. (mark, name) ∷ t) cut.same_parts

pub no_parts : (text : List ℕ) → text ≡ [] → (compound_of text).parts ≡ []
no_parts text none = ap (λ t. (compound_of t).parts) none ∙ ap (λ (c : Compound). c.parts) no_text

-- parts are written as they stand
pub parts_whole : (text : List ℕ) → (compound_of text).head ++ flat_map part_text (compound_of text).parts ≡ text
parts_whole [] = ap (λ (c : Compound). c.head ++ flat_map part_text c.parts) no_text
parts_whole (c ∷ text) = ⊎_elim
    (λ (is : is_mark c ≡ true). ap (λ (c : Compound). c.head ++ flat_map part_text c.parts) (marked c text is) ∙ ap (λ t. c ∷ t) (parts_whole text))
    (λ (no : is_mark c ≡ false). ap (λ (c : Compound). c.head ++ flat_map part_text c.parts) (unmarked c text no) ∙ ap (λ t. c ∷ t) (parts_whole text))
    (cases_Bool (is_mark c))

-- each part has a mark
pub parts_marked : (text : List ℕ) → list_all (λ (part : Part). is_mark part.0) (compound_of text).parts ≡ true
parts_marked [] = ap (λ (c : Compound). list_all (λ (part : Part). is_mark part.0) c.parts) no_text
parts_marked (c ∷ text) =
    let marks = λ (c : Compound). list_all (λ (part : Part). is_mark part.0) c.parts in
    ⊎_elim
    (λ (is : is_mark c ≡ true). ap marks (marked c text is) ∙ and_from _ _ is (parts_marked text))
    (λ (no : is_mark c ≡ false). ap marks (unmarked c text no) ∙ parts_marked text)
    (cases_Bool (is_mark c))

pub compound_written : (text head parts : List ℕ) → IsCut text head parts → compound_text text ≡ str_to_ascii_lowercase head ++ parts
unfolding compound_text
compound_written text head parts cut =
    ap (λ t. str_to_ascii_lowercase t ++ flat_map part_text (compound_of text).parts) cut.same_head
    ∙ ap (λ t. str_to_ascii_lowercase head ++ flat_map part_text t) cut.same_parts
    ∙ ap (λ t. str_to_ascii_lowercase head ++ t) (ap (λ t. t ++ flat_map part_text (compound_of parts).parts) (sym (no_head parts cut.begins)) ∙ parts_whole parts)

pub compound_tested : (rules : Rules) (text head parts : List ℕ) → IsCut text head parts → is_compound rules text ≡ (is_head rules head && list_all is_part (compound_of parts).parts)
unfolding is_compound
compound_tested rules text head parts cut =
    ap (λ t. is_head rules t && list_all is_part (compound_of text).parts) cut.same_head ∙ ap (λ t. is_head rules head && list_all is_part t) cut.same_parts
