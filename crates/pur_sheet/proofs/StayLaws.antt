-- Canonical sheets are read as themselves.
use Rattle.std.proofs.Common.{◌≡◌, ℕ, ◌-◌, Bool, true, false, cond, List, [], ◌∷◌, ◌++◌, length, take, Some, IsUtf8, encode_utf8_all, refl, sym, ap, subst, ◌∙◌, arith, append_assoc}
use Rattle.std.specs.Prelude.{◌==◌, ◌||◌, not, codes, option_map, nat_lt, ⊤}
use Rattle.std.specs.List.{flat_map, join_by, list_all}
use Rattle.std.specs.Option.{option_map_or}
use Rattle.std.specs.Str.{bytes_eq, chars}
use Rattle.std.proofs.lemmas.Bool.{and_parts, and_right, cond-true, cond-false}
use Rattle.std.proofs.lemmas.Bool.Decides.{nat_tests}
use Rattle.std.proofs.lemmas.List.{length-append, take_at}
use Rattle.std.proofs.lemmas.Slice.Eq.{bytes_eq-Decides}
use Rattle.std.proofs.lemmas.Str.{chars-encodes, scalars-chars}
use lib.Utf8.{scalar}
use Rattle.pur_laws.proofs.Lists.{all-append, all-parts, all-weaker}
use Rattle.pur_settings.specs.Rules.{Rules}
use Rattle.pur_csstok.specs.Cuts.{is_outside, is_quote, nothing_open, open_after}
use Rattle.pur_csstok.specs.Declarations.{Pair, AreClean, has_escape_or_comment, style_text}
use Rattle.pur_csstok.specs.Open.{open_behind}
use Rattle.pur_csstok.specs.declared.cuts.Nesting.{Nesting}
use Rattle.pur_csstok.proofs.DeclarationLemmas.{escape_none}
use Rattle.pur_csstok.proofs.EndLaws.{is_harmless, harmless_front, harmless_before}
use Rattle.pur_uripolicy.specs.HostRules.{PlainHostRule}
use Rattle.pur_cssprops.specs.Laws.{IsCleanStyle, StyleClean, is_style_character}
use Rattle.pur_cssprops.specs.Styles.{style_read}
use Rattle.pur_cssprops.proofs.UrlLaws.{all_scalars, encoded, scalars_all}
use Rattle.pur_sheet.specs.Canonical.{AreCanonical, CanonicalRule, IsCanonicalRule, IsCanonicalSheet, canonical_text, is_canonical_chain, is_canonical_compound, is_canonical_selector}
use Rattle.pur_sheet.specs.Comments.{unmarked, uncommented}
use Rattle.pur_sheet.specs.Laws.{CanonicalSheetsStay, NothingEnds}
use Rattle.pur_sheet.specs.Selectors.{are_selectors, chain_text, chains_text, compound_count, compound_text, is_compound, scope_compound, selectors_text}
use Rattle.pur_sheet.specs.Sheets.{rule_text, rule_written, sheet_of, statement_written}
use Rattle.pur_sheet.specs.Statements.{braces_after, in_prelude, rule_from, statements_of}
use Rattle.pur_sheet.specs.declared.statements.Reading.{Reading}
use Rattle.pur_sheet.specs.declared.statements.Reading.TheVariants.{Prelude, Block}
use Rattle.pur_sheet.specs.Private.Reading.{reading_after, reading_ends}
use Rattle.pur_sheet.proofs.AgainLemmas.{prelude_again}
use Rattle.pur_sheet.proofs.CalmLemmas.{IsArrowless, has_arrow, arrowless-closed, no_tip, unmarked-same, uncommented-same}
use Rattle.pur_sheet.proofs.CharacterLemmas.{IsClosed, compound_fits, compound_same, is_compound_character, selector_parts, selectors_have, test-closed}
use Rattle.pur_sheet.proofs.SelectorLemmas.{chain_first}
use Rattle.pur_sheet.proofs.StatementLemmas.{IsRead, no_statement, read_starts, read_passes, read_ends, rule_first, space_skipped}

-- ---- a prelude is passed over

abbrev is_prelude_character : ℕ → Bool
is_prelude_character c = is_compound_character c || c == 0x20 || c == 0x3E || c == 0x2C

no_quote : (c : ℕ) → is_prelude_character c ≡ true → is_quote c ≡ false
no_quote c is = grind (arith, nat_tests)

no_brace : (c : ℕ) → is_prelude_character c ≡ true → (c == 0x7B) ≡ false
no_brace c is = grind (arith, nat_tests)

no_harm : (c : ℕ) → is_prelude_character c ≡ true → is_harmless c ≡ true
no_harm c is = grind (arith, nat_tests)

compound_prelude : (c : ℕ) → is_compound_character c ≡ true → is_prelude_character c ≡ true
compound_prelude c is = grind (arith, nat_tests)

opens_nothing : (c : ℕ) → is_prelude_character c ≡ true → open_after false nothing_open c ≡ nothing_open
opens_nothing c is = rw (no_quote c is) refl

stays_prelude : (c : ℕ) → is_prelude_character c ≡ true → reading_after (Prelude nothing_open) c ≡ Prelude nothing_open
stays_prelude c is = cond-false _ _ _ (no_brace c is) ∙ ap Prelude (opens_nothing c is)

prelude_run : (text front rest : List ℕ) → IsRead text (front ++ rest) (Prelude nothing_open) → list_all is_prelude_character front ≡ true → IsRead text rest (Prelude nothing_open)
prelude_run text [] rest is all = is
prelude_run text (c ∷ front) rest is all =
    let both = and_parts (is_prelude_character c) (list_all is_prelude_character front) all in
    prelude_run text front rest (read_passes text (c ∷ (front ++ rest)) (front ++ rest) (Prelude nothing_open) c is refl (Prelude nothing_open) refl (sym (stays_prelude c both.0))) both.1

prelude_rule : (front style : List ℕ) → list_all is_prelude_character front ≡ true → rule_from nothing_open (front ++ 0x7B ∷ style) ≡ Some (record { prelude = front; block = style })
prelude_rule [] style all = rule_first nothing_open 0x7B style
prelude_rule (c ∷ front) style all =
    let both = and_parts (is_prelude_character c) (list_all is_prelude_character front) all in
    rule_first nothing_open c (front ++ 0x7B ∷ style) ∙ cond-false _ _ _ (no_brace c both.0)
    ∙ ap (option_map (in_prelude c)) (ap (λ n. rule_from n (front ++ 0x7B ∷ style)) (opens_nothing c both.0) ∙ prelude_rule front style both.1)

-- ---- a style is passed over

abbrev in_block : Nesting → Reading
in_block nesting = Block (record { nesting = nesting; braces = 0 })

no_braces : (c : ℕ) → is_style_character c ≡ true → ((c == 0x7B) ≡ false) × ((c == 0x7D) ≡ false)
no_braces c is = (grind (arith, nat_tests), grind (arith, nat_tests))

stays_block : (before : Nesting) (c : ℕ) → is_style_character c ≡ true → reading_after (in_block before) c ≡ in_block (open_after true before c)
stays_block before c is =
    let none = no_braces c is in
    let same : braces_after 0 c ≡ 0 = cond-false _ _ _ none.0 ∙ cond-false _ _ _ none.1 in
    ap (λ n. Block (record { nesting = open_after true before c; braces = n })) (go (is_outside before) same) where
      go : (outside : Bool) → braces_after 0 c ≡ 0 → cond outside (braces_after 0 c) 0 ≡ 0
      go true same = same
      go false same = refl

block_run : (text front rest : List ℕ) (before : Nesting) → IsRead text (front ++ rest) (in_block before) → list_all is_style_character front ≡ true → IsRead text rest (in_block (open_behind before front))
block_run text [] rest before is all = is
block_run text (c ∷ front) rest before is all =
    let both = and_parts (is_style_character c) (list_all is_style_character front) all in
    let goes : reading_ends (in_block before) c ≡ false = and_right _ _ (no_braces c both.0).1 in
    block_run text front rest (open_after true before c)
    (read_passes text (c ∷ (front ++ rest)) (front ++ rest) (in_block before) c is refl (in_block (open_after true before c)) goes (sym (stays_block before c both.0))) both.1

-- a statement of a prelude and a style, and what is behind it
statement_cut : (p style rest : List ℕ) → list_all is_prelude_character p ≡ true → list_all is_style_character style ≡ true → open_behind nothing_open style ≡ nothing_open
    → statements_of (0x23 ∷ p ++ 0x7B ∷ (style ++ 0x7D ∷ rest)) ≡ (0x23 ∷ p ++ 0x7B ∷ style) ∷ statements_of rest
statement_cut p style rest plain calm closed =
    let behind = 0x7D ∷ rest in
    let block = style ++ behind in
    let text = 0x23 ∷ p ++ 0x7B ∷ block in
    let statement = 0x23 ∷ p ++ 0x7B ∷ style in
    let started = read_starts text (p ++ 0x7B ∷ block) 0x23 (Prelude nothing_open) refl refl refl in
    let opened = read_passes text (0x7B ∷ block) block (Prelude nothing_open) 0x7B (prelude_run text p (0x7B ∷ block) started plain) refl (in_block nothing_open) refl refl in
    let whole = subst (λ n. IsRead text behind (in_block n)) closed (block_run text style behind nothing_open opened calm) in
    let order : text ≡ statement ++ behind = sym (append_assoc (0x23 ∷ p) (0x7B ∷ style) behind) in
    let size : length statement ≡ length text - length behind = omega (arith, ap length order, length-append statement behind) in
    let front : statement ≡ take (length text - length behind) text = sym (ap (take (length text - length behind)) order ∙ take_at statement behind (length text - length behind) size) in
    read_ends text behind rest (in_block nothing_open) 0x7D whole refl statement refl front

-- ---- one rule

module _ (rules : Rules) (hosts : PlainHostRule) (scope : List ℕ) where
  -- it begins with the scope's mark
  first_mark : (chains : List (List (List ℕ))) → is_canonical_selector rules scope chains ≡ true → (p : List ℕ) × (chains_text chains ≡ 0x23 ∷ p)
  first_mark [] is = absurd cc
  first_mark ([] ∷ more) is = absurd cc
  first_mark ((word ∷ words) ∷ more) is =
      let chain = word ∷ words in
      let parts = selector_parts rules scope (chain ∷ more) is in
      let canonical = (and_parts (is_canonical_chain rules chain) (list_all (is_canonical_chain rules) more) parts.0).0 in
      let compounds = (and_parts (not (length chain == 0)) (list_all (is_canonical_compound rules) chain) canonical).1 in
      let first = (and_parts (is_canonical_compound rules word) (list_all (is_canonical_compound rules) words) compounds).0 in
      let scoped = (and_parts (bytes_eq word (scope_compound scope)) (nat_lt 1 (compound_count (chain ∷ more))) parts.1).0 in
      let behind = flat_map (λ next. 0x20 ∷ compound_text next) words in
      let others = flat_map (λ next. codes " > " ++ chain_text next) more in
      let named : compound_text word ≡ scope_compound scope = (compound_same rules word first).2 ∙ (bytes_eq-Decides word (scope_compound scope)).0 scoped in
      ((scope ++ behind) ++ others, ap (λ t. t ++ others) (chain_first word words ∙ ap (λ t. t ++ behind) named))

  marked : (selectors : List (List (List (List ℕ)))) → list_all (is_canonical_selector rules scope) selectors ≡ true → not (length selectors == 0) ≡ true
      → (p : List ℕ) × (join_by chains_text (codes ", ") selectors ≡ 0x23 ∷ p)
  marked [] all some = absurd cc
  marked (chains ∷ selectors) all some =
      let first = first_mark chains (and_parts (is_canonical_selector rules scope chains) (list_all (is_canonical_selector rules scope) selectors) all).0 in
      let more = flat_map (λ next. codes ", " ++ chains_text next) selectors in
      (first.0 ++ more, ap (λ t. t ++ more) first.1)

  prelude_all : (selectors : List (List (List (List ℕ)))) → list_all (is_canonical_selector rules scope) selectors ≡ true → list_all is_prelude_character (join_by chains_text (codes ", ") selectors) ≡ true
  prelude_all selectors all =
      selectors_have rules (λ text. list_all is_prelude_character text ≡ true) (test-closed is_prelude_character)
      (λ word is. all-weaker is_compound_character is_prelude_character compound_prelude word (compound_fits rules word is)) refl scope refl refl selectors all

  -- its statement is read as it
  rule_stays : (rule : CanonicalRule) → IsCanonicalRule rules hosts scope rule → (p : List ℕ) → join_by chains_text (codes ", ") rule.selectors ≡ 0x23 ∷ p
      → statement_written rules hosts scope (0x23 ∷ (p ++ 0x20 ∷ []) ++ 0x7B ∷ rule.style) ≡ canonical_text rule
  unfolding statement_written rule_written
  rule_stays rule canonical p begins =
      let written = join_by chains_text (codes ", ") rule.selectors in
      let prelude = 0x23 ∷ (p ++ 0x20 ∷ []) in
      let same : written ++ 0x20 ∷ [] ≡ prelude = ap (λ t. t ++ 0x20 ∷ []) begins in
      let all : list_all is_prelude_character prelude ≡ true =
      ap (list_all is_prelude_character) (sym same) ∙ all-append is_prelude_character written (0x20 ∷ []) (prelude_all rule.selectors canonical.selectors) refl in
      let again = prelude_again rules scope (0x20 ∷ []) rule.selectors refl canonical.selectors canonical.some in
      ap (λ o. option_map_or (rule_written rules hosts scope) o []) (prelude_rule prelude rule.style all)
      ∙ cond-true (are_selectors rules scope prelude) _ _ (ap (are_selectors rules scope) (sym same) ∙ again.0)
      ∙ ap (λ o. option_map_or (rule_text (selectors_text scope prelude)) o []) canonical.style
      ∙ ap (λ t. rule_text t rule.style) (ap (selectors_text scope) (sym same) ∙ again.1)

  -- ---- all of them

  abbrev AllClean : List CanonicalRule → Type 0
  AllClean [] = ⊤
  AllClean (rule ∷ more) = IsCleanStyle rule.style × AllClean more

  all_clean : StyleClean → (parts : List CanonicalRule) → AreCanonical rules hosts scope parts → list_all scalar (flat_map canonical_text parts) ≡ true → AllClean parts
  all_clean clean [] canonical all = tt
  all_clean clean (rule ∷ more) canonical all =
      let written = join_by chains_text (codes ", ") rule.selectors in
      let style = rule.style in
      let both = all-parts scalar (canonical_text rule) (flat_map canonical_text more) all in
      let behind = (all-parts scalar written (codes " {" ++ (style ++ codes "}\n")) both.0).1 in
      let inside = (all-parts scalar (codes " {") (style ++ codes "}\n") behind).1 in
      let characters = (all-parts scalar style (codes "}\n") inside).0 in
      let same : chars (encode_utf8_all style) ≡ style = chars-encodes style (scalars_all style characters) in
      (clean rules hosts (encode_utf8_all style) style (encoded style characters) (ap (style_read rules hosts) same ∙ canonical.0.style), all_clean clean more canonical.1 both.1)

  -- what holds of compounds, of styles and of what stands between them holds of the sheet
  sheet_has : (A : List ℕ → Type 0) → IsClosed A → ((word : List ℕ) → is_compound rules word ≡ true → A word) → ((style : List ℕ) → list_all is_style_character style ≡ true → A style)
      → A (0x20 ∷ []) → A (codes " > ") → A (codes ", ") → A (codes " {") → A (codes "}\n")
      → (parts : List CanonicalRule) → AreCanonical rules hosts scope parts → AllClean parts → A (flat_map canonical_text parts)
  sheet_has A closed word style space child comma left right [] canonical clean = closed.none
  sheet_has A closed word style space child comma left right (rule ∷ more) canonical clean =
      let written = join_by chains_text (codes ", ") rule.selectors in
      closed.append (canonical_text rule) (flat_map canonical_text more)
      (closed.append written (codes " {" ++ (rule.style ++ codes "}\n")) (selectors_have rules A closed word space scope child comma rule.selectors canonical.0.selectors)
      (closed.append (codes " {") (rule.style ++ codes "}\n") left (closed.append rule.style (codes "}\n") (style rule.style clean.0.characters) right)))
      (sheet_has A closed word style space child comma left right more canonical.1 clean.1)

  order : (written style more : List ℕ) → (written ++ (codes " {" ++ (style ++ codes "}\n"))) ++ more ≡ (written ++ 0x20 ∷ []) ++ 0x7B ∷ (style ++ 0x7D ∷ 0x0A ∷ more)
  order written style more = simp append_assoc

  module _ (closed : (pairs : List Pair) → AreClean pairs → open_behind nothing_open (style_text pairs) ≡ nothing_open)
      (plain : (pairs : List Pair) → AreClean pairs → has_escape_or_comment (style_text pairs) ≡ false) where
    sheet_plain : (parts : List CanonicalRule) → AreCanonical rules hosts scope parts → AllClean parts → has_escape_or_comment (flat_map canonical_text parts) ≡ false
    sheet_plain [] canonical clean = escape_none
    sheet_plain (rule ∷ more) canonical clean =
        let written = join_by chains_text (codes ", ") rule.selectors in
        let style = rule.style in
        let rest = flat_map canonical_text more in
        let front = written ++ 0x20 ∷ 0x7B ∷ [] in
        let harmless : list_all is_harmless front ≡ true =
        all-append is_harmless written (0x20 ∷ 0x7B ∷ []) (all-weaker is_prelude_character is_harmless no_harm written (prelude_all rule.selectors canonical.0.selectors)) refl in
        ap has_escape_or_comment (order written style rest ∙ two written (style ++ 0x7D ∷ 0x0A ∷ rest)) ∙ harmless_front front (style ++ 0x7D ∷ 0x0A ∷ rest) harmless
        ∙ harmless_before style (0x7D ∷ 0x0A ∷ rest) refl (ap has_escape_or_comment (sym clean.0.written) ∙ plain clean.0.pairs clean.0.clean)
        (harmless_front (0x7D ∷ 0x0A ∷ []) rest refl ∙ sheet_plain more canonical.1 clean.1) where
          two : (written rest : List ℕ) → (written ++ 0x20 ∷ []) ++ 0x7B ∷ rest ≡ (written ++ 0x20 ∷ 0x7B ∷ []) ++ rest
          two written rest = simp append_assoc

    rules_stay : (parts : List CanonicalRule) → AreCanonical rules hosts scope parts → AllClean parts
        → flat_map (statement_written rules hosts scope) (statements_of (flat_map canonical_text parts)) ≡ flat_map canonical_text parts
    rules_stay [] canonical clean = ap (flat_map (statement_written rules hosts scope)) no_statement
    rules_stay (rule ∷ more) canonical clean =
        let write = statement_written rules hosts scope in
        let written = join_by chains_text (codes ", ") rule.selectors in
        let style = rule.style in
        let rest = flat_map canonical_text more in
        let begins = marked rule.selectors canonical.0.selectors canonical.0.some in
        let p = begins.0 ++ 0x20 ∷ [] in
        let same : written ++ 0x20 ∷ [] ≡ 0x23 ∷ p = ap (λ t. t ++ 0x20 ∷ []) begins.1 in
        let all : list_all is_prelude_character (0x23 ∷ p) ≡ true =
        ap (list_all is_prelude_character) (sym same) ∙ all-append is_prelude_character written (0x20 ∷ []) (prelude_all rule.selectors canonical.0.selectors) refl in
        let open_none : open_behind nothing_open style ≡ nothing_open = ap (open_behind nothing_open) (sym clean.0.written) ∙ closed clean.0.pairs clean.0.clean in
        ap (λ t. flat_map write (statements_of t)) (order written style rest ∙ ap (λ t. t ++ 0x7B ∷ (style ++ 0x7D ∷ 0x0A ∷ rest)) same)
        ∙ ap (flat_map write) (statement_cut p style (0x0A ∷ rest) (and_parts (is_prelude_character 0x23) (list_all is_prelude_character p) all).1 clean.0.characters open_none)
        ∙ ap (λ t. write (0x23 ∷ p ++ 0x7B ∷ style) ++ flat_map write t) (space_skipped 0x0A rest refl)
        ∙ ap (λ t. t ++ flat_map write (statements_of rest)) (rule_stays rule canonical.0 begins.0 begins.1)
        ∙ ap (λ t. canonical_text rule ++ t) (rules_stay more canonical.1 clean.1)

-- ---- the laws

compound_no_angle : (c : ℕ) → is_compound_character c ≡ true → not (c == 0x3C) ≡ true
compound_no_angle c is = grind (arith, nat_tests)

style_no_angle : (c : ℕ) → is_style_character c ≡ true → not (c == 0x3C) ≡ true
style_no_angle c is = grind (arith, nat_tests)

compound_no_tip : (c : ℕ) → is_compound_character c ≡ true → not (c == 0x3E) ≡ true
compound_no_tip c is = grind (arith, nat_tests)

style_no_tip : (c : ℕ) → is_style_character c ≡ true → not (c == 0x3E) ≡ true
style_no_tip c is = grind (arith, nat_tests)

module _ (rules : Rules) (hosts : PlainHostRule) (scope : List ℕ) (parts : List CanonicalRule) (canonical : AreCanonical rules hosts scope parts) (clean : AllClean rules hosts scope parts) where
  no_angle : list_all (λ c. not (c == 0x3C)) (flat_map canonical_text parts) ≡ true
  no_angle =
      sheet_has rules hosts scope (λ text. list_all (λ c. not (c == 0x3C)) text ≡ true) (test-closed (λ c. not (c == 0x3C)))
      (λ word is. all-weaker is_compound_character (λ c. not (c == 0x3C)) compound_no_angle word (compound_fits rules word is))
      (λ style all. all-weaker is_style_character (λ c. not (c == 0x3C)) style_no_angle style all)
      refl refl refl refl refl parts canonical clean

  no_arrow : has_arrow (flat_map canonical_text parts) ≡ false
  no_arrow =
      (sheet_has rules hosts scope IsArrowless arrowless-closed
      (λ word is. no_tip word (all-weaker is_compound_character (λ c. not (c == 0x3E)) compound_no_tip word (compound_fits rules word is)))
      (λ style all. no_tip style (all-weaker is_style_character (λ c. not (c == 0x3E)) style_no_tip style all))
      (refl, refl) (refl, refl) (refl, refl) (refl, refl) (refl, refl) parts canonical clean).0

written_scalars : (rules : Rules) (hosts : PlainHostRule) (scope text : List ℕ) → IsUtf8 text → (canonical : IsCanonicalSheet rules hosts scope (chars text))
    → list_all scalar (flat_map canonical_text canonical.parts) ≡ true
written_scalars rules hosts scope text valid canonical = ap (list_all scalar) canonical.written ∙ all_scalars (chars text) (scalars-chars text valid)

pub sheets-stay : StyleClean → ((pairs : List Pair) → AreClean pairs → open_behind nothing_open (style_text pairs) ≡ nothing_open)
    → ((pairs : List Pair) → AreClean pairs → has_escape_or_comment (style_text pairs) ≡ false) → CanonicalSheetsStay
unfolding sheet_of
sheets-stay clean closed plain rules hosts scope text is valid canonical =
    let parts = canonical.parts in
    let sheet = flat_map canonical_text parts in
    let cleans = all_clean rules hosts scope clean parts canonical.canonical (written_scalars rules hosts scope text valid canonical) in
    let calm : uncommented (unmarked sheet) ≡ sheet =
    ap uncommented (unmarked-same sheet (no_angle rules hosts scope parts canonical.canonical cleans) (no_arrow rules hosts scope parts canonical.canonical cleans))
    ∙ uncommented-same sheet (sheet_plain rules hosts scope closed plain parts canonical.canonical cleans) in
    subst (λ t. flat_map (statement_written rules hosts scope) (statements_of (uncommented (unmarked t))) ≡ t) canonical.written
    (ap (λ t. flat_map (statement_written rules hosts scope) (statements_of t)) calm ∙ rules_stay rules hosts scope closed plain parts canonical.canonical cleans)

pub nothing-ends : StyleClean → NothingEnds
nothing-ends clean rules hosts scope text is valid canonical =
    let cleans = all_clean rules hosts scope clean canonical.parts canonical.canonical (written_scalars rules hosts scope text valid canonical) in
    subst (λ t. list_all (λ c. not (c == 0x3C)) t ≡ true) canonical.written (no_angle rules hosts scope canonical.parts canonical.canonical cleans)
