-- What the readers of statements and rules keep of the text behind them.
use Rattle.std.proofs.Common.{◌≡◌, ℕ, ◌-◌, Bool, true, false, cond, List, [], ◌∷◌, ◌++◌, length, take, Some, None, refl, sym, ap, ◌∙◌, arith, ⊎_elim, append-nil, append_assoc}
use Rattle.std.specs.Prelude.{Option, ◌==◌, ◌&&◌, option_map}
use Rattle.std.specs.Option.{option_map_or}
use Rattle.std.proofs.lemmas.Bool.{cases_Bool, cond-true, cond-false, and_left, eqb-true}
use Rattle.std.proofs.lemmas.List.{length-append, take_at}
use Rattle.pur_laws.proofs.Tests.{not_empty}
use Rattle.pur_text.specs.Characters.{is_space}
use Rattle.pur_csstok.specs.Cuts.{nothing_open, is_outside, open_after}
use Rattle.pur_csstok.specs.declared.cuts.Nesting.{Nesting}
use Rattle.pur_sheet.specs.Statements.{Rule, in_prelude, rule_from, rule_of, no_brackets, brackets_after, brackets_from, brackets_behind, begins_with, ends_block, ends_statement, statements_behind, statements_of}
use Rattle.pur_sheet.specs.declared.statements.Brackets.{Brackets}
use Rattle.pur_sheet.specs.declared.statements.Reading.{Reading}
use Rattle.pur_sheet.specs.declared.statements.Reading.TheVariants.{Prelude, Block, AtRule}
use Rattle.pur_sheet.specs.Private.Reading.{quotes_from, in_rule, reading_of, reading_after, reading_ends, reading_from}

-- ---- one more character

brackets_push : (before : Brackets) (front : List ℕ) (c : ℕ) → brackets_from before (front ++ c ∷ []) ≡ brackets_after (brackets_from before front) c
brackets_push before [] c = refl
brackets_push before (d ∷ front) c = brackets_push (brackets_after before d) front c

rule_none : (before : Nesting) → rule_from before [] ≡ None
unfolding rule_from
rule_none before = refl

pub rule_first : (before : Nesting) (c : ℕ) (text : List ℕ)
    → rule_from before (c ∷ text) ≡ cond (is_outside before && c == 0x7B) (Some (record { prelude = []; block = text })) (option_map (in_prelude c) (rule_from (open_after false before c) text))
unfolding rule_from
rule_first before c text = refl

quotes_push : (before : Nesting) (front : List ℕ) (c : ℕ) → quotes_from before (front ++ c ∷ []) ≡ open_after false (quotes_from before front) c
quotes_push before [] c = refl
quotes_push before (d ∷ front) c = quotes_push (open_after false before d) front c

-- the rule of a text with one more character: a block goes on, and behind a prelude it begins or the prelude goes on
abbrev pushed : Nesting → List ℕ → ℕ → Option Rule → Option Rule
pushed before front c None = cond (is_outside before && c == 0x7B) (Some (record { prelude = front; block = [] })) None
pushed before front c (Some rule) = Some (record { prelude = rule.prelude; block = rule.block ++ c ∷ [] })

pushed_in : (before : Nesting) (front : List ℕ) (c d : ℕ) (here : Bool) (rule : Option Rule)
    → cond here (Some (record { prelude = []; block = front ++ c ∷ [] })) (option_map (in_prelude d) (pushed before front c rule))
    ≡ pushed before (d ∷ front) c (cond here (Some (record { prelude = []; block = front })) (option_map (in_prelude d) rule))
pushed_in before front c d true rule = refl
pushed_in before front c d false (Some rule) = refl
pushed_in before front c d false None = begins (is_outside before && c == 0x7B) where
  begins : (b : Bool) → option_map (in_prelude d) (cond b (Some (record { prelude = front; block = [] })) None) ≡ cond b (Some (record { prelude = d ∷ front; block = [] })) None
  begins true = refl
  begins false = refl

rule_push : (before : Nesting) (front : List ℕ) (c : ℕ) → rule_from before (front ++ c ∷ []) ≡ pushed (quotes_from before front) front c (rule_from before front)
rule_push before [] c =
    rule_first before c [] ∙ ap (λ r. cond (is_outside before && c == 0x7B) (Some (record { prelude = []; block = [] })) (option_map (in_prelude c) r)) (rule_none (open_after false before c))
    ∙ ap (pushed before [] c) (sym (rule_none before))
rule_push before (d ∷ front) c =
    let after = open_after false before d in
    rule_first before d (front ++ c ∷ [])
    ∙ ap (λ r. cond (is_outside before && d == 0x7B) (Some (record { prelude = []; block = front ++ c ∷ [] })) (option_map (in_prelude d) r)) (rule_push after front c)
    ∙ pushed_in (quotes_from after front) front c d (is_outside before && d == 0x7B) (rule_from after front)
    ∙ ap (pushed (quotes_from after front) (d ∷ front) c) (sym (rule_first before d front))

-- ---- what is kept of a statement's text

in_rule_push : (front : List ℕ) (c : ℕ) (rule : Option Rule) → in_rule (front ++ c ∷ []) (pushed (quotes_from nothing_open front) front c rule) ≡ reading_after (in_rule front rule) c
in_rule_push front c (Some rule) = ap Block (brackets_push no_brackets rule.block c)
in_rule_push front c None = begins (is_outside (quotes_from nothing_open front) && c == 0x7B) where
  begins : (b : Bool) → in_rule (front ++ c ∷ []) (cond b (Some (record { prelude = front; block = [] })) None)
      ≡ cond b (Block no_brackets) (Prelude (open_after false (quotes_from nothing_open front) c))
  begins true = refl
  begins false = ap Prelude (quotes_push nothing_open front c)

reading_push : (first : ℕ) (front : List ℕ) (c : ℕ) → reading_of (first ∷ front ++ c ∷ []) ≡ reading_after (reading_of (first ∷ front)) c
reading_push first front c = ⊎_elim
    (λ (at : (first == 0x40) ≡ true).
    cond-true _ _ _ at ∙ ap AtRule (brackets_push no_brackets (first ∷ front) c) ∙ ap (λ r. reading_after r c) (sym (cond-true _ _ _ at)))
    (λ (other : (first == 0x40) ≡ false).
    cond-false _ _ _ other ∙ ap (in_rule (first ∷ front ++ c ∷ [])) (rule_push nothing_open (first ∷ front) c) ∙ in_rule_push (first ∷ front) c (rule_of (first ∷ front))
    ∙ ap (λ r. reading_after r c) (sym (cond-false _ _ _ other)))
    (cases_Bool (first == 0x40))

reading_first : (c : ℕ) → reading_of (c ∷ []) ≡ reading_from c
reading_first c = ⊎_elim
    (λ (at : (c == 0x40) ≡ true).
    cond-true _ _ _ at ∙ ap (λ d. AtRule (brackets_behind (d ∷ []))) (eqb-true c 0x40 at) ∙ sym (cond-true _ _ _ at))
    (λ (other : (c == 0x40) ≡ false).
    cond-false _ _ _ other ∙ ap (in_rule (c ∷ [])) (rule_push nothing_open [] c ∙ ap (pushed nothing_open [] c) (rule_none nothing_open)) ∙ in_rule_push [] c None ∙ sym (cond-false _ _ _ other))
    (cases_Bool (c == 0x40))

ends_in_rule : (front : List ℕ) (c : ℕ) (rule : Option Rule) → option_map_or (λ r. ends_block (brackets_behind r.block) c) rule false ≡ reading_ends (in_rule front rule) c
ends_in_rule front c None = refl
ends_in_rule front c (Some rule) = refl

ends_same : (front : List ℕ) (c : ℕ) → ends_statement front c ≡ reading_ends (reading_of front) c
unfolding ends_statement
ends_same front c = ⊎_elim
    (λ (at : begins_with 0x40 front ≡ true). cond-true _ _ _ at ∙ ap (λ r. reading_ends r c) (sym (cond-true _ _ _ at)))
    (λ (other : begins_with 0x40 front ≡ false). cond-false _ _ _ other ∙ ends_in_rule front c (rule_of front) ∙ ap (λ r. reading_ends r c) (sym (cond-false _ _ _ other)))
    (cases_Bool (begins_with 0x40 front))

-- ---- reading a statement

statements_none : (front : List ℕ) → statements_behind front [] ≡ []
unfolding statements_behind
statements_none front = refl

statements_first : (front : List ℕ) (c : ℕ) (text : List ℕ)
    → statements_behind front (c ∷ text) ≡ cond (length front == 0 && is_space c) (statements_behind [] text) (cond (ends_statement front c) (front ∷ statements_behind [] text) (statements_behind (front ++ c ∷ []) text))
unfolding statements_behind
statements_first front c text = refl

pub space_skipped : (c : ℕ) (text : List ℕ) → is_space c ≡ true → statements_of (c ∷ text) ≡ statements_of text
space_skipped c text is = statements_first [] c text ∙ cond-true _ _ _ is

pub no_statement : statements_of [] ≡ []
no_statement = statements_none []

-- this was read of the statement that a text begins, and this is left
pub record IsRead (text rest : List ℕ) (reading : Reading) : Type 0 where
  pub first : ℕ
  pub front : List ℕ
  pub split : text ≡ first ∷ front ++ rest
  pub kept : reading ≡ reading_of (first ∷ front)
  pub behind : statements_behind (first ∷ front) rest ≡ statements_of text

pub read_starts : (text behind : List ℕ) (first : ℕ) (reading : Reading) → text ≡ first ∷ behind → is_space first ≡ false → reading ≡ reading_from first → IsRead text behind reading
read_starts text behind first reading split visible is =
    let goes : ends_statement [] first ≡ false = ends_same [] first ∙ ap (λ r. reading_ends (in_rule [] r) first) (rule_none nothing_open) in
    record {
      first = first;
      front = [];
      split = split;
      kept = is ∙ sym (reading_first first);
      behind = sym (ap statements_of split ∙ statements_first [] first behind ∙ cond-false _ _ _ visible ∙ cond-false _ _ _ goes);
    }

module _ (text rest after : List ℕ) (reading : Reading) (c : ℕ) (is : IsRead text rest reading) (next : rest ≡ c ∷ after) where
  turns : statements_of text ≡ cond (ends_statement (is.first ∷ is.front) c) ((is.first ∷ is.front) ∷ statements_of after) (statements_behind (is.first ∷ is.front ++ c ∷ []) after)
  turns =
      sym is.behind ∙ ap (statements_behind (is.first ∷ is.front)) next ∙ statements_first (is.first ∷ is.front) c after
      ∙ cond-false _ _ _ (and_left _ _ (not_empty is.first is.front))

  ends : ends_statement (is.first ∷ is.front) c ≡ reading_ends reading c
  ends = ends_same (is.first ∷ is.front) c ∙ ap (λ r. reading_ends r c) (sym is.kept)

  pub read_passes : (longer : Reading) → reading_ends reading c ≡ false → longer ≡ reading_after reading c → IsRead text after longer
  read_passes longer passes longer_is = record {
    first = is.first;
    front = is.front ++ c ∷ [];
    split = is.split ∙ ap (λ t. is.first ∷ is.front ++ t) next ∙ ap (λ t. is.first ∷ t) (sym (append_assoc is.front (c ∷ []) after));
    kept = longer_is ∙ ap (λ r. reading_after r c) is.kept ∙ sym (reading_push is.first is.front c);
    behind = sym (turns ∙ cond-false _ _ _ (ends ∙ passes));
  }

  pub read_ends : (statement : List ℕ) → reading_ends reading c ≡ true → statement ≡ take (length text - length rest) text → statements_of text ≡ statement ∷ statements_of after
  read_ends statement stops statement_is =
      let size : length (is.first ∷ is.front) ≡ length text - length rest = omega (arith, ap length is.split, length-append (is.first ∷ is.front) rest) in
      turns ∙ cond-true _ _ _ (ends ∙ stops)
      ∙ ap (λ t. t ∷ statements_of after) (sym (statement_is ∙ ap (take (length text - length rest)) is.split ∙ take_at (is.first ∷ is.front) rest (length text - length rest) size))

pub read_out : (text rest : List ℕ) (reading : Reading) → IsRead text rest reading → rest ≡ [] → statements_of text ≡ []
read_out text rest reading is none = sym is.behind ∙ ap (statements_behind (is.first ∷ is.front)) none ∙ statements_none (is.first ∷ is.front)

-- ---- reading a prelude

abbrev in_front : List ℕ → Rule → Rule
in_front front rule = record { prelude = front ++ rule.prelude; block = rule.block }

-- this was read of a prelude, with this open behind it, and this is left
pub record IsPrelude (text rest : List ℕ) (nesting : Nesting) : Type 0 where
  pub front : List ℕ
  pub split : text ≡ front ++ rest
  pub rule : rule_of text ≡ option_map (in_front front) (rule_from nesting rest)

pub prelude_starts : (text : List ℕ) (nesting : Nesting) → nesting ≡ nothing_open → IsPrelude text text nesting
prelude_starts text nesting is =
    record { front = []; split = refl; rule = ap (λ n. rule_from n text) (sym is) ∙ same (rule_from nesting text) }
  where
    same : (o : Option Rule) → o ≡ option_map (in_front []) o
    same None = refl
    same (Some rule) = refl

moved : (front : List ℕ) (c : ℕ) (o : Option Rule) → option_map (in_front front) (option_map (in_prelude c) o) ≡ option_map (in_front (front ++ c ∷ [])) o
moved front c None = refl
moved front c (Some rule) = ap (λ t. Some (record { prelude = t; block = rule.block })) (sym (append_assoc front (c ∷ []) rule.prelude))

module _ (text rest behind : List ℕ) (nesting : Nesting) (c : ℕ) (is : IsPrelude text rest nesting) (next : rest ≡ c ∷ behind) where
  goes_on : rule_of text ≡ option_map (in_front is.front)
      (cond (is_outside nesting && c == 0x7B) (Some (record { prelude = []; block = behind })) (option_map (in_prelude c) (rule_from (open_after false nesting c) behind)))
  goes_on = is.rule ∙ ap (option_map (in_front is.front)) (ap (rule_from nesting) next ∙ rule_first nesting c behind)

  pub prelude_passes : (longer : Nesting) → (is_outside nesting && c == 0x7B) ≡ false → longer ≡ open_after false nesting c → IsPrelude text behind longer
  prelude_passes longer passes longer_is = record {
    front = is.front ++ c ∷ [];
    split = is.split ∙ ap (λ t. is.front ++ t) next ∙ sym (append_assoc is.front (c ∷ []) behind);
    rule =
        goes_on ∙ ap (option_map (in_front is.front)) (cond-false _ _ _ passes ∙ ap (λ n. option_map (in_prelude c) (rule_from n behind)) (sym longer_is))
        ∙ moved is.front c (rule_from longer behind);
  }

  pub prelude_ends : (prelude : List ℕ) → (is_outside nesting && c == 0x7B) ≡ true → prelude ≡ take (length text - length rest) text
      → rule_of text ≡ Some (record { prelude = prelude; block = behind })
  prelude_ends prelude stops prelude_is =
      let size : length is.front ≡ length text - length rest = omega (arith, ap length is.split, length-append is.front rest) in
      let whole : prelude ≡ is.front = prelude_is ∙ ap (take (length text - length rest)) is.split ∙ take_at is.front rest (length text - length rest) size in
      goes_on ∙ ap (option_map (in_front is.front)) (cond-true _ _ _ stops)
      ∙ ap (λ t. Some (record { prelude = t; block = behind })) (append-nil is.front ∙ sym whole)

pub prelude_out : (text rest : List ℕ) (nesting : Nesting) → IsPrelude text rest nesting → rest ≡ [] → rule_of text ≡ None
prelude_out text rest nesting is none = is.rule ∙ ap (option_map (in_front is.front)) (ap (rule_from nesting) none ∙ rule_none nesting)
