-- Nodes that are spelled: what they are, and how their spelling is read.
use Rattle.std.proofs.Common.{◌≡◌, ℕ, Bool, true, false, not, ◌&&◌, ◌||◌, cond, List, [], ◌∷◌, ◌++◌, map, refl, sym, ap, subst, ◌∙◌, length, codes, arith, append_assoc, append-nil}
use Rattle.std.specs.Prelude.{nat_lt, ◌==◌, filter, encode_utf8_all}
use Rattle.std.specs.List.{list_all, flat_map}
use Rattle.std.proofs.lemmas.Bool.{and_parts, and_from}
use Rattle.std.proofs.lemmas.Bool.Decides.{nat_tests}
use Rattle.pur_laws.proofs.Lists.{all-append}
use Rattle.pur_laws.proofs.Truth.{or_true}
use Rattle.pur_text.specs.Characters.{is_allowed}
use Rattle.pur_text.specs.Escapes.{escape, escaped}
use Rattle.pur_names.specs.declared.elements.Element.{Element}
use Rattle.pur_names.specs.Elements.{element_name}
use Rattle.pur_names.proofs.ElementLaws.{each_element}
use Rattle.pur_modules.specs.Contents.{is_empty_element}
use Rattle.pur_attrlist.specs.Attributes.{Attribute}
use Rattle.pur_tree.specs.Nodes.{PlainElem, Nodes, no_nodes, text_first, elem_first, starts_with_text, is_joined, is_sound, has_no_nodes}
use Rattle.pur_tree.specs.Spelling.{Spells, spells_nothing, spells_text, spells_empty, spells_element, is_spellable, are_spellable}

pub positive : (c : ℕ) (s : List ℕ) → nat_lt 0 (length (c ∷ s)) ≡ true
positive c s = grind (arith, nat_tests)

-- what is spelled has no empty text, and no children in EMPTY elements
pub sound : {n : Nodes} {t : List ℕ} → Spells n t → is_sound n ≡ true
sound spells_nothing = refl
sound (spells_text {c = c} {s = s} a j r) = and_from _ _ (positive c s) (sound r)
sound (spells_empty {e = e} empty a r) = rw empty (sound r)
sound (spells_element {e = e} {kids = kids} other a k r) = rw other (and_from _ _ (sound k) (sound r))

-- no neighbouring texts
pub joined : {n : Nodes} {t : List ℕ} → Spells n t → is_joined n ≡ true
joined spells_nothing = refl
joined (spells_text a j r) = rw j (joined r)
joined (spells_empty empty a r) = joined r
joined (spells_element other a k r) = and_from _ _ (joined k) (joined r)

-- allowed characters alone, and attributes that may stand in a tag
pub spellable : {n : Nodes} {t : List ℕ} → Spells n t → is_spellable n ≡ true
spellable spells_nothing = refl
spellable (spells_text a j r) = and_from _ _ a (spellable r)
spellable (spells_empty empty a r) = and_from _ _ a (spellable r)
spellable (spells_element other a k r) = and_from _ _ a (and_from _ _ (spellable k) (spellable r))
