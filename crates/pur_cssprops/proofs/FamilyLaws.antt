-- No list of families is `inherit`: it begins with a quote or with a generic family.
use Rattle.std.proofs.Common.{◌≡◌, ℕ, Bool, true, false, not, cond, List, [], ◌∷◌, length, Some, None, refl, sym, ap, ◌∙◌, ⊎_elim}
use Rattle.std.specs.Prelude.{Option, ◌==◌, slice_index}
use Rattle.std.specs.Char.{to_ascii_lowercase}
use Rattle.std.specs.List.{list_all, filter_map, cons_option, join_with_byte}
use Rattle.std.specs.Option.{option_map_or}
use Rattle.std.specs.Str.{str_to_ascii_lowercase}
use Rattle.std.proofs.lemmas.Bool.{cases_Bool, cond-true, cond-false, and_parts, and_from, not-true}
use Rattle.pur_laws.proofs.Tests.{kept, all-named}
use Rattle.pur_text.specs.Trimming.{trimmed}
use Rattle.pur_csstok.specs.Declarations.{words_of}
use Rattle.pur_csstok.specs.Families.{quoted, name_read, generics, bare_read, unquoted, family_read, families_kept, families_joined, families_read}
use Rattle.pur_csstok.specs.Names.{is_one_of}
use Rattle.pur_cssprops.specs.Keywords.{words_in, keyword_read}
use Rattle.pur_cssprops.specs.declared.keywords.Keywords.TheVariants.{Inherit}

-- the text doesn't begin with an `i` of either case
abbrev begins_otherwise : List ℕ → Bool
begins_otherwise text = not (to_ascii_lowercase (slice_index text 0) == 0x69)

name_begins : (name out : List ℕ) → name_read name ≡ Some out → begins_otherwise out ≡ true
unfolding name_read
name_begins name out e = ap begins_otherwise (sym (kept _ (quoted (words_of name)) out e).1)

bare_begins : (text out : List ℕ) → bare_read text ≡ Some out → begins_otherwise out ≡ true
unfolding bare_read
bare_begins text out e =
    let low = str_to_ascii_lowercase text in
    ⊎_elim
    (λ (one : is_one_of generics low ≡ true).
    let is : Some low ≡ Some out = sym (cond-true _ _ _ one) ∙ e in
    let same : low ≡ out = cc in
    ap begins_otherwise (sym same) ∙ all-named begins_otherwise generics low refl one)
    (λ (other : is_one_of generics low ≡ false). name_begins text out (sym (cond-false _ _ _ other) ∙ e))
    (cases_Bool (is_one_of generics low))

family_begins : (part out : List ℕ) → family_read part ≡ Some out → begins_otherwise out ≡ true
unfolding family_read
family_begins part out e = go (unquoted (trimmed part)) e where
  go : (name : Option (List ℕ)) → option_map_or name_read name (bare_read (trimmed part)) ≡ Some out → begins_otherwise out ≡ true
  go None is = bare_begins (trimmed part) out is
  go (Some name) is = name_begins name out is

all_begin : (parts : List (List ℕ)) → list_all begins_otherwise (filter_map family_read parts) ≡ true
all_begin [] = refl
all_begin (part ∷ parts) = go (family_read part) refl (all_begin parts) where
  go : (found : Option (List ℕ)) → family_read part ≡ found → list_all begins_otherwise (filter_map family_read parts) ≡ true
      → list_all begins_otherwise (cons_option found (filter_map family_read parts)) ≡ true
  go None is more = more
  go (Some out) is more = and_from _ _ (family_begins part out is) more

joined_begin : (family : List ℕ) (families : List (List ℕ)) → begins_otherwise family ≡ true → begins_otherwise (join_with_byte 0x2C (family ∷ families)) ≡ true
joined_begin family [] is = is
joined_begin [] (next ∷ families) is = refl
joined_begin (c ∷ family) (next ∷ families) is = is

list_begins : (families : List (List ℕ)) (out : List ℕ) → list_all begins_otherwise families ≡ true → families_joined families ≡ Some out → begins_otherwise out ≡ true
list_begins [] out all e = absurd cc
list_begins (family ∷ families) out all e = go (length (family ∷ families) == 0) e where
  go : (none : Bool) → cond none None (Some (join_with_byte 0x2C (family ∷ families))) ≡ Some out → begins_otherwise out ≡ true
  go true is = absurd cc
  go false is =
      let same : join_with_byte 0x2C (family ∷ families) ≡ out = cc in
      ap begins_otherwise (sym same) ∙ joined_begin family families (and_parts (begins_otherwise family) (list_all begins_otherwise families) all).0

begins_inherit : (out : List ℕ) → begins_otherwise out ≡ true → (slice_index (str_to_ascii_lowercase out) 0 == 0x69) ≡ false
begins_inherit [] is = refl
begins_inherit (c ∷ out) is = not-true _ is

pub families_no_inherit : (text out : List ℕ) → families_read text ≡ Some out → keyword_read Inherit out ≡ None
unfolding keyword_read
families_no_inherit text out e =
    let low = str_to_ascii_lowercase out in
    let begins = list_begins (families_kept text) out (all_begin _) e in
    ⊎_elim
    (λ (one : is_one_of (words_in Inherit) low ≡ true).
    let first : (slice_index low 0 == 0x69) ≡ true = all-named (λ w. slice_index w 0 == 0x69) (words_in Inherit) low refl one in
    let bad : true ≡ false = sym first ∙ begins_inherit out begins in
    absurd cc)
    (λ (other : is_one_of (words_in Inherit) low ≡ false). cond-false _ _ _ other)
    (cases_Bool (is_one_of (words_in Inherit) low))
