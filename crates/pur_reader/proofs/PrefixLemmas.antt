-- The prefix of ids is plain.
use Rattle.std.proofs.Common.{◌≡◌, ℕ, true, List, [], ◌∷◌, length, refl, arith}
use Rattle.std.specs.Prelude.{nat_le}
use Rattle.std.specs.List.{list_all}
use Rattle.std.proofs.lemmas.Bool.{and_from, and_parts}
use Rattle.std.proofs.lemmas.Bool.Decides.{nat_tests}
use Rattle.pur_laws.proofs.Lists.{all-weaker}
use Rattle.pur_laws.proofs.Texts.{is_ascii}
use Rattle.pur_settings.specs.Prefixes.{is_letter, is_id_byte, begins_an_id, is_id_prefix}

letter-plain : (b : ℕ) → is_letter b ≡ true → is_ascii b ≡ true
letter-plain b is = grind (arith, nat_tests)

id_byte-plain : (b : ℕ) → is_id_byte b ≡ true → is_ascii b ≡ true
id_byte-plain b is = grind (arith, nat_tests)

pub prefix-plain : (prefix : List ℕ) → is_id_prefix prefix ≡ true → list_all is_ascii prefix ≡ true
prefix-plain prefix is = go prefix (and_parts (nat_le (length prefix) 64) (begins_an_id prefix) is).1
  where
    go : (text : List ℕ) → begins_an_id text ≡ true → list_all is_ascii text ≡ true
    go [] is = refl
    go (first ∷ behind) is =
        let parts = and_parts (is_letter first) (list_all is_id_byte behind) is in
        and_from _ _ (letter-plain first parts.0) (all-weaker is_id_byte is_ascii id_byte-plain behind parts.1)
