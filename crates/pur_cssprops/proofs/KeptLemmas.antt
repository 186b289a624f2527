-- The declarations that are kept: what one more changes, and what the map of them holds.
use Rattle.std.proofs.Common.{◌≡◌, ℕ, Bool, true, false, cond, not, filter, List, [], ◌∷◌, ◌++◌, length, map, Option, Some, None, is_some, refl, sym, ap, subst, ◌∙◌, append-nil, append_assoc, ⊎_elim, Bor, String, string_bytes, encode_utf8_all, arith}
use Rattle.std.specs.Prelude.{◌&&◌, ◌||◌, ⊤}
use Rattle.std.specs.declared.alloc.Global.{Global}
use Rattle.std.specs.List.{list_any, filter_map, cons_option}
use Rattle.std.specs.Option.{option_and_then, option_map, option_or}
use Rattle.std.specs.Str.{bytes_eq, chars}
use Rattle.std.proofs.lemmas.Bool.{cases_Bool, cond-true, cond-false, and_parts, and_from}
use Rattle.std.proofs.lemmas.List.Elements.{filter-append, filter_map-append}
use Rattle.std.proofs.lemmas.Option.{same_Some}
use Rattle.std.proofs.lemmas.Str.{encodes-append, encodes-chars, encodes_same, IsUtf8-string_bytes}
use Rattle.indexmap.specs.IndexMap.{insert_entry}
use Rattle.pur_laws.proofs.Tests.{kept}
use Rattle.pur_laws.proofs.Texts.{encodes_ascii, encodes_past}
use Rattle.pur_text.specs.Texts.{text_of}
use Rattle.pur_names.specs.Properties.{prop_name, prop_named, same_prop}
use Rattle.pur_names.specs.declared.properties.StyleProp.{StyleProp}
use Rattle.pur_settings.specs.Rules.{Rules}
use Rattle.pur_csstok.specs.Declarations.{Pair, declaration_body, style_text}
use Rattle.pur_uripolicy.specs.HostRules.{PlainHostRule}
use Rattle.pur_cssprops.specs.Private.Held.{named, entry_held, with_kept, with_one, with_all, written}
use Rattle.pur_cssprops.specs.Styles.{Kept, property_read, declaration_kept, firsts, last_value, each_once, style_written}
use Rattle.pur_cssprops.proofs.InnerLaws.{or_parts}
use Rattle.pur_cssprops.proofs.PropertyLemmas.{same-self, same-is, same-turned, names_same, names_ascii}
use Rattle.pur_cssprops.proofs.WordLaws.{or_either}

-- ---- the map

-- an entry more, by the text of its key
pub held-insert : (eq : Bor (List ℕ) → Bor (List ℕ) → Bool) → ((one other : Bor (List ℕ)) → eq one other ≡ bytes_eq one.now other.now)
    → (entries : List (Bor (List ℕ) × String Global)) (key : Bor (List ℕ)) (value : String Global)
    → map entry_held (insert_entry eq entries key value) ≡ insert_entry bytes_eq (map entry_held entries) key.now (string_bytes value)
held-insert eq same [] key value = refl
held-insert eq same (entry ∷ entries) key value =
    ⊎_elim
    (λ (here : bytes_eq key.now entry.0.now ≡ true).
    ap (map entry_held) (cond-true _ _ _ (same key entry.0 ∙ here)) ∙ sym (cond-true _ _ _ here))
    (λ (other : bytes_eq key.now entry.0.now ≡ false).
    ap (map entry_held) (cond-false _ _ _ (same key entry.0 ∙ other)) ∙ ap (λ t. entry_held entry ∷ t) (held-insert eq same entries key value) ∙ sym (cond-false _ _ _ other))
    (cases_Bool (bytes_eq key.now entry.0.now))

-- a declaration more, by its property or by the property's name
named-insert : (all : List Kept) (kept : Kept) → map named (insert_entry same_prop all kept.0 kept.1) ≡ with_kept (map named all) kept
named-insert [] kept = refl
named-insert (first ∷ all) kept =
    ⊎_elim
    (λ (here : same_prop kept.0 first.0 ≡ true).
    ap (map named) (cond-true _ _ _ here) ∙ sym (cond-true _ _ _ (names_same kept.0 first.0 ∙ here)))
    (λ (other : same_prop kept.0 first.0 ≡ false).
    ap (map named) (cond-false _ _ _ other) ∙ ap (λ t. named first ∷ t) (named-insert all kept)
    ∙ sym (cond-false _ _ _ (names_same kept.0 first.0 ∙ other)))
    (cases_Bool (same_prop kept.0 first.0))

-- what is written where there are no entries, and where there are some
pub written-none : (entries : List (Bor (List ℕ) × String Global)) → length entries ≡ 0 → None ≡ written (map entry_held entries)
unfolding written
written-none [] none = refl
written-none (entry ∷ entries) none = absurd (omega (arith, none))

pub written-some : (entries : List (Bor (List ℕ) × String Global)) → (length entries ≡ 0 → ⊥) → Some (style_text (map entry_held entries)) ≡ written (map entry_held entries)
unfolding written
written-some [] some = absurd (some refl)
written-some (entry ∷ entries) some = refl

-- ---- properties, each once

-- whether a list has a property
abbrev pub has : List StyleProp → StyleProp → Bool
has all property = list_any (same_prop property) all

abbrev pub are_distinct : List StyleProp → Bool
are_distinct [] = true
are_distinct (property ∷ more) = not (has more property) && are_distinct more

abbrev others : StyleProp → List StyleProp → List StyleProp
others property all = filter (λ other. not (same_prop property other)) all

-- two tests that say the same of one
or_false : (one more other : Bool) → one ≡ false → more ≡ other → (one || more) ≡ other
or_false false more other is e = e
or_false true more other is e = absurd cc

pub not-is : (b : Bool) → not b ≡ true → b ≡ false
not-is false is = refl
not-is true is = absurd cc

-- the others have all but the one
has-other : (one property : StyleProp) (all : List StyleProp) → same_prop property one ≡ false → has (others one all) property ≡ has all property
has-other one property [] differs = refl
has-other one property (first ∷ all) differs =
    ⊎_elim
    (λ (gone : same_prop one first ≡ true).
    ap (λ t. has t property) (cond-false _ _ _ (ap not gone)) ∙ has-other one property all differs
    ∙ sym (or_false (same_prop property first) (has all property) (has all property) (ap (same_prop property) (sym (same-is one first gone)) ∙ differs) refl))
    (λ (stays : same_prop one first ≡ false).
    ap (λ t. has t property) (cond-true _ _ _ (ap not stays)) ∙ ap (λ b. same_prop property first || b) (has-other one property all differs))
    (cases_Bool (same_prop one first))

other-gone : (one : StyleProp) (all : List StyleProp) → has (others one all) one ≡ false
other-gone one [] = refl
other-gone one (first ∷ all) =
    ⊎_elim
    (λ (gone : same_prop one first ≡ true). ap (λ t. has t one) (cond-false _ _ _ (ap not gone)) ∙ other-gone one all)
    (λ (stays : same_prop one first ≡ false).
    ap (λ t. has t one) (cond-true _ _ _ (ap not stays)) ∙ or_false (same_prop one first) _ false stays (other-gone one all))
    (cases_Bool (same_prop one first))

others-push : (one property : StyleProp) (all : List StyleProp) → others one (all ++ property ∷ []) ≡ others one all ++ others one (property ∷ [])
others-push one property all = filter-append (λ other. not (same_prop one other)) all (property ∷ [])

-- what a list hasn't, and that its members are distinct, stays so in the others
lacks-others : (one property : StyleProp) (all : List StyleProp) → has all property ≡ false → has (others one all) property ≡ false
lacks-others one property [] lacks = refl
lacks-others one property (first ∷ all) lacks =
    let parts = or_parts (same_prop property first) (has all property) lacks in
    go (not (same_prop one first)) parts.0 (lacks-others one property all parts.1) where
      go : (b : Bool) → same_prop property first ≡ false → has (others one all) property ≡ false → has (cond b (first ∷ others one all) (others one all)) property ≡ false
      go true differs later = or_false (same_prop property first) _ false differs later
      go false differs later = later

distinct-others : (one : StyleProp) (all : List StyleProp) → are_distinct all ≡ true → are_distinct (others one all) ≡ true
distinct-others one [] distinct = refl
distinct-others one (first ∷ all) distinct =
    let both = and_parts (not (has all first)) (are_distinct all) distinct in
    go (not (same_prop one first)) (lacks-others one first all (not-is (has all first) both.0)) (distinct-others one all both.1) where
      go : (b : Bool) → has (others one all) first ≡ false → are_distinct (others one all) ≡ true → are_distinct (cond b (first ∷ others one all) (others one all)) ≡ true
      go true lacks later = and_from _ _ (ap not lacks) later
      go false lacks later = later

-- ---- the first places and the last values

pub firsts-distinct : (all : List Kept) → are_distinct (firsts all) ≡ true
unfolding firsts
firsts-distinct [] = refl
firsts-distinct (kept ∷ all) = and_from _ _ (ap not (other-gone kept.0 (firsts all))) (distinct-others kept.0 (firsts all) (firsts-distinct all))

firsts-push : (all : List Kept) (kept : Kept) → firsts (all ++ kept ∷ []) ≡ cond (has (firsts all) kept.0) (firsts all) (firsts all ++ kept.0 ∷ [])
unfolding firsts
firsts-push [] kept = refl
firsts-push (first ∷ all) kept =
    ap (λ t. first.0 ∷ others first.0 t) (firsts-push all kept)
    ∙ ⊎_elim
    (λ (there : has (firsts all) kept.0 ≡ true).
    ap (λ t. first.0 ∷ others first.0 t) (cond-true _ _ _ there)
    ∙ sym (cond-true _ _ _ (⊎_elim
    (λ (same : same_prop kept.0 first.0 ≡ true). ap (λ b. b || has (others first.0 (firsts all)) kept.0) same)
    (λ (differs : same_prop kept.0 first.0 ≡ false). or_false _ _ true differs (has-other first.0 kept.0 (firsts all) differs ∙ there))
    (cases_Bool (same_prop kept.0 first.0)))))
    (λ (new : has (firsts all) kept.0 ≡ false).
    ap (λ t. first.0 ∷ others first.0 t) (cond-false _ _ _ new)
    ∙ ap (λ t. first.0 ∷ t) (others-push first.0 kept.0 (firsts all))
    ∙ ⊎_elim
    (λ (same : same_prop kept.0 first.0 ≡ true).
    ap (λ t. first.0 ∷ (others first.0 (firsts all) ++ t)) (cond-false _ _ _ (ap not (same-turned first.0 kept.0 ∙ same)))
    ∙ ap (λ t. first.0 ∷ t) (append-nil (others first.0 (firsts all)))
    ∙ sym (cond-true _ _ _ (ap (λ b. b || has (others first.0 (firsts all)) kept.0) same)))
    (λ (differs : same_prop kept.0 first.0 ≡ false).
    ap (λ t. first.0 ∷ (others first.0 (firsts all) ++ t)) (cond-true _ _ _ (ap not (same-turned first.0 kept.0 ∙ differs)))
    ∙ sym (cond-false _ _ _ (or_false _ _ false differs (has-other first.0 kept.0 (firsts all) differs ∙ new))))
    (cases_Bool (same_prop kept.0 first.0)))
    (cases_Bool (has (firsts all) kept.0))

last-push : (property : StyleProp) (all : List Kept) (kept : Kept)
    → last_value property (all ++ kept ∷ []) ≡ cond (same_prop property kept.0) (Some kept.1) (last_value property all)
unfolding last_value
last-push property [] kept = refl
last-push property (first ∷ all) kept =
    ap (λ o. option_or o (cond (same_prop property first.0) (Some first.1) None)) (last-push property all kept) ∙ go (same_prop property kept.0) where
      go : (b : Bool) → option_or (cond b (Some kept.1) (last_value property all)) (cond (same_prop property first.0) (Some first.1) None)
          ≡ cond b (Some kept.1) (option_or (last_value property all) (cond (same_prop property first.0) (Some first.1) None))
      go true = refl
      go false = refl

some_or : {X : Type 0} (one two : Option X) → is_some one ≡ true → is_some (option_or one two) ≡ true
some_or (Some x) two is = refl
some_or None two is = absurd cc

or_some : {X : Type 0} (one two : Option X) → is_some two ≡ true → is_some (option_or one two) ≡ true
or_some (Some x) two is = refl
or_some None two is = is

-- each that stands first has a value
has-value : (all : List Kept) (property : StyleProp) → has (firsts all) property ≡ true → is_some (last_value property all) ≡ true
unfolding firsts last_value
has-value [] property there = absurd cc
has-value (first ∷ all) property there =
    ⊎_elim
    (λ (same : same_prop property first.0 ≡ true).
    or_some (last_value property all) _ (ap is_some (cond-true _ _ _ same)))
    (λ (differs : same_prop property first.0 ≡ false).
    some_or (last_value property all) _
    (has-value all property (sym (or_false _ _ (has (firsts all) property) differs (has-other first.0 property (firsts all) differs)) ∙ there)))
    (cases_Bool (same_prop property first.0))

-- ---- one more

-- the properties of a list with their last values
abbrev value_of : List Kept → StyleProp → Option Kept
value_of all property = option_map (λ value. (property, value)) (last_value property all)

abbrev values : List Kept → List StyleProp → List Kept
values all properties = filter_map (value_of all) properties

-- a value that is pushed is that of its property alone
value-pushed : (all : List Kept) (kept : Kept) (property : StyleProp) → same_prop property kept.0 ≡ true → value_of (all ++ kept ∷ []) property ≡ Some (property, kept.1)
value-pushed all kept property same = ap (option_map (λ value. (property, value))) (last-push property all kept ∙ cond-true _ _ _ same)

value-stays : (all : List Kept) (kept : Kept) (property : StyleProp) → same_prop property kept.0 ≡ false → value_of (all ++ kept ∷ []) property ≡ value_of all property
value-stays all kept property differs = ap (option_map (λ value. (property, value))) (last-push property all kept ∙ cond-false _ _ _ differs)

values-stay : (all : List Kept) (kept : Kept) (properties : List StyleProp) → has properties kept.0 ≡ false → values (all ++ kept ∷ []) properties ≡ values all properties
values-stay all kept [] lacks = refl
values-stay all kept (property ∷ properties) lacks =
    let parts = or_parts (same_prop kept.0 property) (has properties kept.0) lacks in
    ap (λ o. cons_option o (values (all ++ kept ∷ []) properties)) (value-stays all kept property (same-turned property kept.0 ∙ parts.0))
    ∙ ap (λ t. cons_option (value_of all property) t) (values-stay all kept properties parts.1)

-- a property that isn't among them goes last
values-end : (all : List Kept) (kept : Kept) (properties : List StyleProp) → has properties kept.0 ≡ false
    → values all properties ++ kept ∷ [] ≡ insert_entry same_prop (values all properties) kept.0 kept.1
values-end all kept [] lacks = refl
values-end all kept (property ∷ properties) lacks =
    let parts = or_parts (same_prop kept.0 property) (has properties kept.0) lacks in
    go (last_value property all) parts.0 (values-end all kept properties parts.1) where
      go : (found : Option (List ℕ)) → same_prop kept.0 property ≡ false
          → values all properties ++ kept ∷ [] ≡ insert_entry same_prop (values all properties) kept.0 kept.1
          → cons_option (option_map (λ value. (property, value)) found) (values all properties) ++ kept ∷ []
          ≡ insert_entry same_prop (cons_option (option_map (λ value. (property, value)) found) (values all properties)) kept.0 kept.1
      go None differs later = later
      go (Some value) differs later = ap (λ t. (property, value) ∷ t) later ∙ sym (cond-false _ _ _ differs)

-- each property of a list has a value
abbrev HaveValues : List Kept → List StyleProp → Type 0
HaveValues all properties = (property : StyleProp) → has properties property ≡ true → is_some (last_value property all) ≡ true

later_values : (all : List Kept) (first : StyleProp) (properties : List StyleProp) → HaveValues all (first ∷ properties) → HaveValues all properties
later_values all first properties some property there = some property (go (same_prop property first)) where
  go : (b : Bool) → (b || has properties property) ≡ true
  go true = refl
  go false = there

-- one that is among them stays at its place
values-put : (all : List Kept) (kept : Kept) (properties : List StyleProp) → are_distinct properties ≡ true → HaveValues all properties
    → has properties kept.0 ≡ true → values (all ++ kept ∷ []) properties ≡ insert_entry same_prop (values all properties) kept.0 kept.1
values-put all kept [] distinct some there = absurd cc
values-put all kept (property ∷ properties) distinct some there =
    let both = and_parts (not (has properties property)) (are_distinct properties) distinct in
    go (last_value property all) (some property (ap (λ b. b || has properties property) (same-self property))) refl (not-is (has properties property) both.0)
    (λ differs. values-put all kept properties both.1 (later_values all property properties some) (sym (or_false _ _ (has properties kept.0) differs refl) ∙ there)) where
      go : (found : Option (List ℕ)) → is_some found ≡ true → last_value property all ≡ found → has properties property ≡ false
          → (same_prop kept.0 property ≡ false → values (all ++ kept ∷ []) properties ≡ insert_entry same_prop (values all properties) kept.0 kept.1)
          → cons_option (value_of (all ++ kept ∷ []) property) (values (all ++ kept ∷ []) properties)
          ≡ insert_entry same_prop (cons_option (value_of all property) (values all properties)) kept.0 kept.1
      go None is found alone later = absurd cc
      go (Some value) is found alone later =
          let old : value_of all property ≡ Some (property, value) = ap (option_map (λ v. (property, v))) found in
          let rest = values all properties in
          ⊎_elim
          (λ (same : same_prop kept.0 property ≡ true).
          ap (λ o. cons_option o (values (all ++ kept ∷ []) properties)) (value-pushed all kept property (same-turned property kept.0 ∙ same))
          ∙ ap (λ t. (property, kept.1) ∷ t) (values-stay all kept properties (ap (has properties) (same-is kept.0 property same) ∙ alone))
          ∙ sym (ap (λ o. insert_entry same_prop (cons_option o rest) kept.0 kept.1) old ∙ cond-true _ _ _ same))
          (λ (differs : same_prop kept.0 property ≡ false).
          ap (λ o. cons_option o (values (all ++ kept ∷ []) properties)) (value-stays all kept property (same-turned property kept.0 ∙ differs) ∙ old)
          ∙ ap (λ t. (property, value) ∷ t) (later differs)
          ∙ sym (ap (λ o. insert_entry same_prop (cons_option o rest) kept.0 kept.1) old ∙ cond-false _ _ _ differs))
          (cases_Bool (same_prop kept.0 property))

-- each once, with one more: its property keeps its place and takes the value, or goes last
once-push : (all : List Kept) (kept : Kept) → each_once (all ++ kept ∷ []) ≡ insert_entry same_prop (each_once all) kept.0 kept.1
unfolding each_once
once-push all kept =
    ap (values (all ++ kept ∷ [])) (firsts-push all kept)
    ∙ ⊎_elim
    (λ (there : has (firsts all) kept.0 ≡ true).
    ap (values (all ++ kept ∷ [])) (cond-true _ _ _ there) ∙ values-put all kept (firsts all) (firsts-distinct all) (has-value all) there)
    (λ (new : has (firsts all) kept.0 ≡ false).
    ap (values (all ++ kept ∷ [])) (cond-false _ _ _ new)
    ∙ filter_map-append (value_of (all ++ kept ∷ [])) (firsts all) (kept.0 ∷ [])
    ∙ ap (λ t. t ++ values (all ++ kept ∷ []) (kept.0 ∷ [])) (values-stay all kept (firsts all) new)
    ∙ ap (λ o. values all (firsts all) ++ cons_option o []) (value-pushed all kept kept.0 (same-self kept.0))
    ∙ values-end all kept (firsts all) new)
    (cases_Bool (has (firsts all) kept.0))

-- ---- all of them

-- what is kept of the next declaration, if anything is
pub with-next : (pairs : List Pair) (found : Option Kept) (more : List Kept) → with_all (with_one pairs found) more ≡ with_all pairs (cons_option found more)
with-next pairs None more = refl
with-next pairs (Some kept) more = refl

all-held : (before more : List Kept) → with_all (map named (each_once before)) more ≡ map named (each_once (before ++ more))
all-held before [] = ap (λ t. map named (each_once t)) (sym (append-nil before))
all-held before (kept ∷ more) =
    ap (λ t. with_all t more) (sym (named-insert (each_once before) kept) ∙ ap (map named) (sym (once-push before kept)))
    ∙ all-held (before ++ kept ∷ []) more
    ∙ ap (λ t. map named (each_once t)) (append_assoc before (kept ∷ []) more)

none_once : each_once [] ≡ []
unfolding each_once firsts
none_once = refl

-- what a map holds, into which all was put in turn, is each property once
pub held-once : (all : List Kept) → with_all [] all ≡ map named (each_once all)
held-once all = ap (λ t. with_all (map named t) all) (sym none_once) ∙ all-held [] all

-- ---- what is written

abbrev pub named_chars : Kept → Pair
named_chars kept = (prop_name kept.0, kept.1)

body_bytes : (kept : Kept) → declaration_body (named kept) ++ 0x3B ∷ [] ≡ encode_utf8_all (declaration_body (named_chars kept) ++ 0x3B ∷ [])
body_bytes kept =
    let name = prop_name kept.0 in
    sym (encodes-append (name ++ (0x3A ∷ kept.1)) (0x3B ∷ [])
    ∙ ap (λ t. t ++ encode_utf8_all (0x3B ∷ [])) (encodes_past name (0x3A ∷ kept.1) (names_ascii kept.0) ∙ ap (λ t. name ++ t) (encodes_past (0x3A ∷ []) kept.1 refl))
    ∙ ap (λ t. (name ++ (0x3A ∷ encode_utf8_all kept.1)) ++ t) (encodes_ascii (0x3B ∷ []) refl))

-- the bytes of a style
style_bytes : (all : List Kept) → style_text (map named all) ≡ encode_utf8_all (style_text (map named_chars all))
style_bytes [] = refl
style_bytes (kept ∷ all) =
    ap (λ t. t ++ style_text (map named all)) (body_bytes kept)
    ∙ ap (λ t. encode_utf8_all (declaration_body (named_chars kept) ++ 0x3B ∷ []) ++ t) (style_bytes all)
    ∙ sym (encodes-append (declaration_body (named_chars kept) ++ 0x3B ∷ []) (style_text (map named_chars all)))

-- the text that is written of what is held is the style's
pub written-once : (all : List Kept) (style : Option (String Global)) → option_map string_bytes style ≡ written (map named all) → option_map text_of style ≡ style_written all
unfolding written style_written
written-once [] None e = refl
written-once [] (Some style) e = absurd cc
written-once (kept ∷ all) None e = absurd cc
written-once (kept ∷ all) (Some style) e =
    let bytes = string_bytes style in
    let same : bytes ≡ style_text (map named (kept ∷ all)) = same_Some bytes _ e in
    ap Some (encodes_same (chars bytes) (style_text (map named_chars (kept ∷ all))) (encodes-chars bytes (IsUtf8-string_bytes style) ∙ same ∙ style_bytes (kept ∷ all)))

-- ---- one declaration

-- nothing is kept where no property has the name
pub kept-none : (rules : Rules) (rule : PlainHostRule) (pair : Pair) → prop_named pair.0 ≡ None → declaration_kept rules rule pair ≡ None
unfolding declaration_kept
kept-none rules rule pair none = ap (option_and_then (property_read rules rule pair.1)) none

-- and else what is read of the property
pub kept-read : (rules : Rules) (rule : PlainHostRule) (pair : Pair) (property : StyleProp) → prop_named pair.0 ≡ Some property
    → declaration_kept rules rule pair ≡ property_read rules rule pair.1 property
unfolding declaration_kept
kept-read rules rule pair property found = ap (option_and_then (property_read rules rule pair.1)) found

-- ---- what holds of each

abbrev pub Every : (Kept → Type 0) → List Kept → Type 0
Every P [] = ⊤
Every P (kept ∷ all) = P kept × Every P all

-- what holds of each holds of each last value
last_is : (P : Kept → Type 0) (all : List Kept) (property : StyleProp) (value : List ℕ) → Every P all → last_value property all ≡ Some value → P (property, value)
unfolding last_value
last_is P [] property value every e = absurd cc
last_is P (first ∷ all) property value every e =
    or_either (last_value property all) (cond (same_prop property first.0) (Some first.1) None) value e
    (last_is P all property value every.1)
    (λ here.
    let is = kept (same_prop property first.0) first.1 value here in
    subst (λ p. P (p, value)) (sym (same-is property first.0 is.0)) (subst (λ v. P (first.0, v)) is.1 every.0))

values_every : (P : Kept → Type 0) (all : List Kept) (properties : List StyleProp) → Every P all → Every P (values all properties)
values_every P all [] every = tt
values_every P all (property ∷ properties) every = go (last_value property all) refl (values_every P all properties every) where
  go : (found : Option (List ℕ)) → last_value property all ≡ found → Every P (values all properties)
      → Every P (cons_option (option_map (λ value. (property, value)) found) (values all properties))
  go None is later = later
  go (Some value) is later = (last_is P all property value every is, later)

pub once-every : (P : Kept → Type 0) (all : List Kept) → Every P all → Every P (each_once all)
unfolding each_once
once-every P all every = values_every P all (firsts all) every

-- ---- each once already

abbrev pub properties_of : List Kept → List StyleProp
properties_of all = map (λ kept. kept.0) all

lacks_value : (all : List Kept) (property : StyleProp) (properties : List StyleProp) → has properties property ≡ false → has (properties_of (values all properties)) property ≡ false
lacks_value all property [] lacks = refl
lacks_value all property (first ∷ properties) lacks =
    let parts = or_parts (same_prop property first) (has properties property) lacks in
    go (last_value first all) parts.0 (lacks_value all property properties parts.1) where
      go : (found : Option (List ℕ)) → same_prop property first ≡ false → has (properties_of (values all properties)) property ≡ false
          → has (properties_of (cons_option (option_map (λ value. (first, value)) found) (values all properties))) property ≡ false
      go None differs later = later
      go (Some value) differs later = or_false (same_prop property first) _ false differs later

values_distinct : (all : List Kept) (properties : List StyleProp) → are_distinct properties ≡ true → are_distinct (properties_of (values all properties)) ≡ true
values_distinct all [] distinct = refl
values_distinct all (first ∷ properties) distinct =
    let both = and_parts (not (has properties first)) (are_distinct properties) distinct in
    go (last_value first all) (lacks_value all first properties (not-is (has properties first) both.0)) (values_distinct all properties both.1) where
      go : (found : Option (List ℕ)) → has (properties_of (values all properties)) first ≡ false → are_distinct (properties_of (values all properties)) ≡ true
          → are_distinct (properties_of (cons_option (option_map (λ value. (first, value)) found) (values all properties))) ≡ true
      go None lacks later = later
      go (Some value) lacks later = and_from _ _ (ap not lacks) later

-- the properties of each once are distinct
pub once-distinct : (all : List Kept) → are_distinct (properties_of (each_once all)) ≡ true
unfolding each_once
once-distinct all = values_distinct all (firsts all) (firsts-distinct all)

others_all : (one : StyleProp) (all : List StyleProp) → has all one ≡ false → others one all ≡ all
others_all one [] lacks = refl
others_all one (first ∷ all) lacks =
    let parts = or_parts (same_prop one first) (has all one) lacks in
    cond-true _ _ _ (ap not parts.0) ∙ ap (λ t. first ∷ t) (others_all one all parts.1)

firsts_all : (all : List Kept) → are_distinct (properties_of all) ≡ true → firsts all ≡ properties_of all
unfolding firsts
firsts_all [] distinct = refl
firsts_all (kept ∷ all) distinct =
    let both = and_parts (not (has (properties_of all) kept.0)) (are_distinct (properties_of all)) distinct in
    ap (λ t. kept.0 ∷ others kept.0 t) (firsts_all all both.1)
    ∙ ap (λ t. kept.0 ∷ t) (others_all kept.0 (properties_of all) (not-is (has (properties_of all) kept.0) both.0))

last_none : (all : List Kept) (property : StyleProp) → has (properties_of all) property ≡ false → last_value property all ≡ None
unfolding last_value
last_none [] property lacks = refl
last_none (first ∷ all) property lacks =
    let parts = or_parts (same_prop property first.0) (has (properties_of all) property) lacks in
    ap (λ o. option_or o (cond (same_prop property first.0) (Some first.1) None)) (last_none all property parts.1) ∙ cond-false _ _ _ parts.0

or_none : {X : Type 0} (one : Option X) → option_or one None ≡ one
or_none None = refl
or_none (Some x) = refl

-- another declaration in front changes nothing
value_behind : (first : Kept) (all : List Kept) (property : StyleProp) → same_prop property first.0 ≡ false → value_of (first ∷ all) property ≡ value_of all property
unfolding last_value
value_behind first all property differs =
    ap (λ o. option_map (λ value. (property, value)) (option_or (last_value property all) o)) (cond-false _ _ _ differs)
    ∙ ap (option_map (λ value. (property, value))) (or_none (last_value property all))

values_behind : (first : Kept) (all : List Kept) (properties : List StyleProp) → has properties first.0 ≡ false → values (first ∷ all) properties ≡ values all properties
values_behind first all [] lacks = refl
values_behind first all (property ∷ properties) lacks =
    let parts = or_parts (same_prop first.0 property) (has properties first.0) lacks in
    ap (λ o. cons_option o (values (first ∷ all) properties)) (value_behind first all property (same-turned property first.0 ∙ parts.0))
    ∙ ap (λ t. cons_option (value_of all property) t) (values_behind first all properties parts.1)

value_alone : (first : Kept) (all : List Kept) → has (properties_of all) first.0 ≡ false → value_of (first ∷ all) first.0 ≡ Some first
unfolding last_value
value_alone first all lacks =
    ap (λ o. option_map (λ value. (first.0, value)) (option_or o (cond (same_prop first.0 first.0) (Some first.1) None))) (last_none all first.0 lacks)
    ∙ ap (option_map (λ value. (first.0, value))) (cond-true _ _ _ (same-self first.0))

values_all : (all : List Kept) → are_distinct (properties_of all) ≡ true → values all (properties_of all) ≡ all
values_all [] distinct = refl
values_all (first ∷ all) distinct =
    let both = and_parts (not (has (properties_of all) first.0)) (are_distinct (properties_of all)) distinct in
    let lacks = not-is (has (properties_of all) first.0) both.0 in
    ap (λ o. cons_option o (values (first ∷ all) (properties_of all))) (value_alone first all lacks)
    ∙ ap (λ t. first ∷ t) (values_behind first all (properties_of all) lacks ∙ values_all all both.1)

-- declarations of distinct properties are each once
pub once-again : (all : List Kept) → are_distinct (properties_of all) ≡ true → each_once all ≡ all
unfolding each_once
once-again all distinct = ap (values all) (firsts_all all distinct) ∙ values_all all distinct

-- what is written of declarations
pub written-is : (all : List Kept) (out : List ℕ) → style_written all ≡ Some out → style_text (map named_chars all) ≡ out
unfolding style_written
written-is [] out e = absurd cc
written-is (kept ∷ all) out e = same_Some _ out e
