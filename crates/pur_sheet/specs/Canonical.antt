-- Canonical sheets, which the filter writes: rules whose selectors touch what stands in the scope alone, with canonical styles.
use Rattle.std.specs.Prelude.{◌≡◌, ℕ, ◌==◌, ◌&&◌, not, nat_le, Bool, List, [], ◌∷◌, length, ⊤, codes, Some, IsTrue}
use Rattle.std.specs.List.{flat_map, join_by, list_all}
use Rattle.std.specs.Str.{bytes_eq}
use Rattle.pur_settings.specs.Rules.{Rules}
use Rattle.pur_uripolicy.specs.HostRules.{PlainHostRule}
use Rattle.pur_cssprops.specs.Styles.{style_read}
use Rattle.pur_sheet.specs.Selectors.{chains_text, compound_count, compound_text, is_compound, is_scoped, is_word}
use Rattle.pur_sheet.specs.Sheets.{rule_text}

-- a compound as it is written, its head in lower case
abbrev pub is_canonical_compound : Rules → List ℕ → Bool
is_canonical_compound rules word = is_word word && is_compound rules word && bytes_eq (compound_text word) word

-- one or more of them
abbrev pub is_canonical_chain : Rules → List (List ℕ) → Bool
is_canonical_chain rules chain = not (length chain == 0) && list_all (is_canonical_compound rules) chain

-- a selector of such chains that begins with the scope's compound, and has two to sixteen compounds
abbrev pub is_canonical_selector : Rules → List ℕ → List (List (List ℕ)) → Bool
is_canonical_selector rules scope chains =
    list_all (is_canonical_chain rules) chains && is_scoped scope chains && nat_le (compound_count chains) 16

-- a rule by the chains of its selectors, and its style
pub record CanonicalRule : Type 0 where
  pub selectors : List (List (List (List ℕ)))
  pub style : List ℕ

abbrev pub canonical_text : CanonicalRule → List ℕ
canonical_text rule = rule_text (join_by chains_text (codes ", ") rule.selectors) rule.style

-- it has a selector, all of them are canonical, and its style is read as itself
pub record IsCanonicalRule (rules : Rules) (hosts : PlainHostRule) (scope : List ℕ) (rule : CanonicalRule) : Type 0 where
  pub some : IsTrue (not (length rule.selectors == 0))
  pub selectors : IsTrue (list_all (is_canonical_selector rules scope) rule.selectors)
  pub style : style_read rules hosts rule.style ≡ Some rule.style

abbrev pub AreCanonical : Rules → PlainHostRule → List ℕ → List CanonicalRule → Type 0
AreCanonical rules hosts scope [] = ⊤
AreCanonical rules hosts scope (rule ∷ more) = IsCanonicalRule rules hosts scope rule × AreCanonical rules hosts scope more

-- a text that writes such rules
pub record IsCanonicalSheet (rules : Rules) (hosts : PlainHostRule) (scope text : List ℕ) : Type 0 where
  pub parts : List CanonicalRule
  pub canonical : AreCanonical rules hosts scope parts
  pub written : flat_map canonical_text parts ≡ text
