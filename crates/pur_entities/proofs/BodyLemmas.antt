-- What stands between the `&` and the `;` of a reference, as bytes and as characters.
use Rattle.std.proofs.Common.{◌≡◌, ℕ, ◌≤◌, Bool, true, false, List, [], ◌∷◌, None, IsUtf8, refl, sym, ap, subst, ◌∙◌, arith, ⊎_elim}
use Rattle.std.specs.Prelude.{◌==◌, ◌&&◌, not, Option, option_map, ◌≢◌}
use Rattle.pur_entities.proofs.NumeralLemmas.{cut_off}
use Rattle.std.specs.Char.{digit_value}
use Rattle.std.specs.Cmp.Lexicographic.{bytes_decides}
use Rattle.std.specs.List.{list_all}
use Rattle.std.specs.Str.{chars, bytes_eq}
use Rattle.std.proofs.lemmas.Bool.{cases_Bool, cond-true, cond-false, and_parts, and_cases, or_cases, both_ways, ne_eqb, eqb-true}
use Rattle.std.proofs.lemmas.Bool.Decides.{nat_tests}
use Rattle.pur_entities.specs.Private.Cuts.{is_plain}
use Rattle.pur_entities.specs.Entities.{Entity, latin_1, special, greek, other_symbols, entities, character_in, named_character}
use Rattle.pur_entities.specs.References.{is_digit, numeral, is_hexadecimal, number_written, number_meant}
use Rattle.pur_laws.proofs.Texts.{chars_ascii, is_ascii, same_chars}

-- what fails a weaker test fails a stronger one
fails_too : (q p : ℕ → Bool) → ((c : ℕ) → q c ≡ false → p c ≡ false) → (text : List ℕ) → list_all q text ≡ false → list_all p text ≡ false
fails_too q p weaker [] fails = absurd (both_ways _ fails refl)
fails_too q p weaker (c ∷ text) fails = ⊎_elim
    (λ (first : q c ≡ false). let e = weaker c first in rw e refl)
    (λ (later : list_all q text ≡ false). by (p c) (fails_too q p weaker text later))
    (and_cases _ _ fails)
  where
    by : (first : Bool) → list_all p text ≡ false → (first && list_all p text) ≡ false
    by true later = later
    by false later = refl

-- a test that each name and each digit passes, with `#`, `x` and `X`
pub record PassesBodies (q : ℕ → Bool) : Type 0 where
  names : list_all (λ (entity : Entity). list_all q entity.0) entities ≡ true
  digits : (c : ℕ) → q c ≡ false → digit_value c ≡ 36
  number_sign : q 0x23 ≡ true
  small_x : q 0x78 ≡ true
  capital_x : q 0x58 ≡ true

unnamed_in : (q : ℕ → Bool) (list : List Entity) (name : List ℕ) → list_all (λ (entity : Entity). list_all q entity.0) list ≡ true
    → list_all q name ≡ false → character_in list name ≡ None
unfolding character_in
unnamed_in q [] name all fails = refl
unnamed_in q (entity ∷ more) name all fails =
    let both = and_parts _ _ all in
    ⊎_elim
    (λ (yes : bytes_eq entity.0 name ≡ true).
    let same : entity.0 ≡ name = (bytes_decides entity.0 name).0 yes in
    absurd (both_ways _ fails (subst (λ n. list_all q n ≡ true) same both.0)))
    (λ (other : bytes_eq entity.0 name ≡ false). cond-false _ _ _ other ∙ unnamed_in q more name both.1 fails)
    (cases_Bool (bytes_eq entity.0 name))

module _ (q : ℕ → Bool) (passes : PassesBodies q) where
  unnamed : (name : List ℕ) → list_all q name ≡ false → named_character name ≡ None
  unfolding named_character
  unnamed name fails = unnamed_in q entities name passes.names fails

  no_numeral : (radix : ℕ) (text : List ℕ) → radix ≤ 36 → list_all q text ≡ false → numeral radix text ≡ None
  no_numeral radix text most fails =
      let fails : list_all (is_digit radix) text ≡ false =
      fails_too q (is_digit radix) (λ c is. let e = passes.digits c is in grind (arith, nat_tests)) text fails in
      rw fails refl

  tail_fails : (c : ℕ) (text : List ℕ) → q c ≡ true → list_all q (c ∷ text) ≡ false → list_all q text ≡ false
  tail_fails c text is fails = by (q c) is fails
    where
      by : (first : Bool) → first ≡ true → (first && list_all q text) ≡ false → list_all q text ≡ false
      by true is fails = fails
      by false is fails = absurd (both_ways _ refl is)

  nothing_written : (text : List ℕ) → list_all q text ≡ false → number_written text ≡ None
  nothing_written [] fails = absurd (both_ways _ fails refl)
  nothing_written (a ∷ text) fails = ⊎_elim
      (λ (hexadecimal : is_hexadecimal (a ∷ text) ≡ true).
      let x : q a ≡ true = ⊎_elim
      (λ (small : (a == 0x78) ≡ true). ap q (eqb-true a 0x78 small) ∙ passes.small_x)
      (λ (capital : (a == 0x58) ≡ true). ap q (eqb-true a 0x58 capital) ∙ passes.capital_x)
      (or_cases _ _ hexadecimal) in
      cond-true _ _ _ hexadecimal ∙ no_numeral 16 text (omega arith) (tail_fails a text x fails))
      (λ (decimal : is_hexadecimal (a ∷ text) ≡ false). cond-false _ _ _ decimal ∙ no_numeral 10 (a ∷ text) (omega arith) fails)
      (cases_Bool (is_hexadecimal (a ∷ text)))

  pub nothing_meant : (body : List ℕ) → list_all q body ≡ false → number_meant body ≡ None
  unfolding number_meant
  nothing_meant [] fails = absurd (both_ways _ fails refl)
  nothing_meant (a ∷ text) fails = ⊎_elim
      (λ (number : (a == 0x23) ≡ true).
      let sign : q a ≡ true = ap q (eqb-true a 0x23 number) ∙ passes.number_sign in
      cond-true _ _ _ number ∙ nothing_written text (tail_fails a text sign fails))
      (λ (name : (a == 0x23) ≡ false). cond-false _ _ _ name ∙ unnamed (a ∷ text) fails)
      (cases_Bool (a == 0x23))

abbrev pub no_semicolon : ℕ → Bool
no_semicolon c = not (c == 0x3B)

-- an `&` fails such a test, a `;` too, and so does what isn't ASCII
pub passes_plain : PassesBodies is_plain
unfolding entities latin_1 special greek other_symbols
passes_plain = record {
  names = refl;
  digits = λ c fails. grind (arith, nat_tests);
  number_sign = refl;
  small_x = refl;
  capital_x = refl;
}

pub passes_no_semicolon : PassesBodies no_semicolon
unfolding entities latin_1 special greek other_symbols
passes_no_semicolon = record {
  names = refl;
  digits = λ c no. grind (arith, nat_tests);
  number_sign = refl;
  small_x = refl;
  capital_x = refl;
}

passes_ascii : PassesBodies is_ascii
unfolding entities latin_1 special greek other_symbols
passes_ascii = record {
  names = refl;
  digits = λ c fails. grind (arith, nat_tests);
  number_sign = refl;
  small_x = refl;
  capital_x = refl;
}

-- so bytes and characters mean the same
same_meant : (f : List ℕ → Option ℕ) → ((body : List ℕ) → list_all is_ascii body ≡ false → f body ≡ None) → (body : List ℕ) → IsUtf8 body → f (chars body) ≡ f body
same_meant f none body is = ⊎_elim
    (λ (ascii : list_all is_ascii (chars body) ≡ true). ap f (same_chars body is ascii))
    (λ (wide : list_all is_ascii (chars body) ≡ false). ⊎_elim
    (λ (ascii : list_all is_ascii body ≡ true). absurd (both_ways _ wide (ap (list_all is_ascii) (chars_ascii body ascii) ∙ ascii)))
    (λ (other : list_all is_ascii body ≡ false). none (chars body) wide ∙ sym (none body other))
    (cases_Bool (list_all is_ascii body)))
    (cases_Bool (list_all is_ascii (chars body)))

pub number_meant-chars : (body : List ℕ) → IsUtf8 body → number_meant (chars body) ≡ number_meant body
number_meant-chars body is = same_meant number_meant (nothing_meant is_ascii passes_ascii) body is

pub named_character-chars : (name : List ℕ) → IsUtf8 name → named_character (chars name) ≡ named_character name
named_character-chars name is = same_meant named_character (unnamed is_ascii passes_ascii) name is

-- the body begins with `#`, or doesn't
pub number_behind : (body number : List ℕ) (n : Option ℕ) → IsUtf8 body → body ≡ 0x23 ∷ number → n ≡ option_map cut_off (number_written number)
    → n ≡ option_map cut_off (number_meant (chars body))
unfolding number_meant
number_behind body number n is body_is e =
    let meant : number_meant body ≡ number_written number = ap number_meant body_is in
    e ∙ ap (option_map cut_off) (sym (number_meant-chars body is ∙ meant))

not_numeric : (body : List ℕ) → ((rest : List ℕ) → body ≢ 0x23 ∷ rest) → number_meant body ≡ named_character body
unfolding number_meant
not_numeric [] other = refl
not_numeric (c ∷ body) other = cond-false _ _ _ (ne_eqb c 0x23 (λ e. other body (ap (λ b. b ∷ body) e)))

pub name_meant : (body : List ℕ) (n : Option ℕ) → IsUtf8 body → ((rest : List ℕ) → body ≢ 0x23 ∷ rest) → n ≡ option_map cut_off (named_character (chars body))
    → n ≡ option_map cut_off (number_meant (chars body))
name_meant body n is other e =
    e ∙ ap (option_map cut_off) (named_character-chars body is ∙ sym (not_numeric body other) ∙ sym (number_meant-chars body is))
