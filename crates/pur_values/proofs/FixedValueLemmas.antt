-- What a value is read as is read as itself.
use Rattle.std.proofs.Common.{◌≡◌, ℕ, true, false, List, [], ◌∷◌, map, Option, Some, refl, sym, ap, ◌∙◌, arith}
use Rattle.std.proofs.lemmas.Bool.Decides.{nat_tests}
use Rattle.pur_text.specs.Trimming.{trimmed}
use Rattle.pur_csstok.specs.Atoms.{is_color}
use Rattle.pur_csstok.specs.Colors.{color_read}
use Rattle.pur_values.specs.Choices.{is_font_size}
use Rattle.pur_values.specs.Kinds.{keywords_of}
use Rattle.pur_values.specs.Laws.{IsSound}
use Rattle.pur_values.specs.Tokens.{is_id, is_language}
use Rattle.pur_values.specs.Values.{spaced, trimmed_value_of, value_of}
use Rattle.pur_values.specs.declared.kinds.ValueKind.{ValueKind}
use Rattle.pur_values.specs.declared.kinds.ValueKind.TheVariants.{Text, Id, Class, Lang, Pixels, Length, MultiLength, Number, Color, Keyword, Flag, BulletType, NumberType, ItemType, FontSize, Rel}
use Rattle.pur_values.proofs.FixedLemmas.{Fixed, fixed_kept, fixed_lowered, fixed_among, fixed_bullet, fixed_numbering, fixed_item, fixed_color, language_lowered}
use Rattle.pur_values.proofs.FixedNumberLemmas.{fixed_number, fixed_pixels, fixed_length, fixed_multi_length}
use Rattle.pur_values.proofs.FixedTokenLemmas.{fixed_classes, fixed_relations}
use Rattle.pur_values.proofs.SolidLemmas.{id-solid, language-solid, font_size-solid, keywords-solid}

spaced_once : (c : ℕ) → spaced (spaced c) ≡ spaced c
spaced_once c = grind (arith, nat_tests)

spaced_twice : (text : List ℕ) → map spaced (map spaced text) ≡ map spaced text
spaced_twice [] = refl
spaced_twice (c ∷ text) = let first = spaced_once c in let behind = spaced_twice text in cc

-- the laws of a style's colours
module _
    (again : (text output : List ℕ) → color_read false text ≡ Some output → color_read false output ≡ Some output)
    (digits : (text output : List ℕ) → color_read false text ≡ Some output → is_color output ≡ true) where
  -- a kind whose texts are trimmed
  retold : (read : List ℕ → Option (List ℕ)) (value : List ℕ) → Fixed read value → read (trimmed value) ≡ Some value
  retold read value fixed = ap read fixed.tight ∙ fixed.again

  pub value_fixed : (kind : ValueKind) (raw value : List ℕ) → IsSound kind → value_of kind raw ≡ Some value → value_of kind value ≡ Some value
  unfolding value_of
  value_fixed Text raw value sound is = let same : map spaced raw ≡ value = cc in ap (λ l. Some (map spaced l)) (sym same) ∙ ap Some (spaced_twice raw) ∙ ap Some same
  value_fixed Id raw value sound is = retold (trimmed_value_of Id) value (fixed_kept is_id id-solid (trimmed raw) value is)
  value_fixed Class raw value sound is = retold (trimmed_value_of Class) value (fixed_classes (trimmed raw) value is)
  value_fixed Lang raw value sound is = retold (trimmed_value_of Lang) value (fixed_lowered is_language language_lowered language-solid (trimmed raw) value is)
  value_fixed Pixels raw value sound is = retold (trimmed_value_of Pixels) value (fixed_pixels (trimmed raw) value is)
  value_fixed Length raw value sound is = retold (trimmed_value_of Length) value (fixed_length (trimmed raw) value is)
  value_fixed MultiLength raw value sound is = retold (trimmed_value_of MultiLength) value (fixed_multi_length (trimmed raw) value is)
  value_fixed (Number least most) raw value sound is =
      retold (trimmed_value_of (Number least most)) value (fixed_number least most sound.0 (let s = sound.1 in omega (arith, s)) (trimmed raw) value is)
  value_fixed Color raw value sound is = retold (trimmed_value_of Color) value (fixed_color again digits (trimmed raw) value is)
  value_fixed (Keyword element a) raw value sound is =
      retold (trimmed_value_of (Keyword element a)) value (fixed_among (keywords_of element a) (keywords-solid element a) (trimmed raw) value is)
  value_fixed (Flag a) raw value sound is = is
  value_fixed BulletType raw value sound is = retold (trimmed_value_of BulletType) value (fixed_bullet (trimmed raw) value is)
  value_fixed NumberType raw value sound is = retold (trimmed_value_of NumberType) value (fixed_numbering (trimmed raw) value is)
  value_fixed ItemType raw value sound is = retold (trimmed_value_of ItemType) value (fixed_item (trimmed raw) value is)
  value_fixed FontSize raw value sound is = retold (trimmed_value_of FontSize) value (fixed_kept is_font_size font_size-solid (trimmed raw) value is)
  value_fixed Rel raw value sound is = retold (trimmed_value_of Rel) value (fixed_relations (trimmed raw) value is)
