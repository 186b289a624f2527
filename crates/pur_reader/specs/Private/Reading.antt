-- How a spelling is read: what was read, and what is left.
use Rattle.std.specs.Prelude.{ℕ, ◌≡◌, ◌==◌, ◌≤◌, Bool, true, false, List, [], ◌∷◌, ◌++◌}
use Rattle.std.specs.List.{list_all}
use Rattle.pur_text.specs.Characters.{is_allowed}
use Rattle.pur_text.specs.Escapes.{escaped}
use Rattle.pur_names.specs.declared.elements.Element.{Element}
use Rattle.pur_modules.specs.Contents.{is_empty_element}
use Rattle.pur_tree.specs.Building.{Building, written_of, opened_of}
use Rattle.pur_tree.specs.Nodes.{PlainElem}
use Rattle.pur_tree.specs.Places.{Place, fragment, inside, LevelFits}
use Rattle.pur_tree.specs.Spelling.{start_tag_of, end_tag_of, empty_tag_of, are_spellable}
use Rattle.pur_tree.specs.Tokens.{Token, text_token, start_token, end_token, empty_token}
use Rattle.pur_reader.specs.declared.reading.Open.{Open}

-- how a token is spelled
abbrev pub token_text : Token → List ℕ
token_text (text_token s) = escaped s
token_text (start_token e) = start_tag_of e
token_text (end_token e) = end_tag_of e
token_text (empty_token e) = empty_tag_of e

abbrev pub tokens_text : List Token → List ℕ
tokens_text [] = []
tokens_text (t ∷ ts) = token_text t ++ tokens_text ts

-- the token has allowed characters alone, and its attributes may stand in a tag
abbrev pub is_spellable_token : Token → Bool
is_spellable_token (text_token s) = list_all is_allowed s
is_spellable_token (start_token e) = are_spellable e.attrs
is_spellable_token (end_token e) = true
is_spellable_token (empty_token e) = are_spellable e.attrs

-- nothing, or what begins with a `<`
abbrev pub is_tag_front : List ℕ → Bool
is_tag_front [] = true
is_tag_front (c ∷ t) = c == 0x3C

-- a text is the rest of a spelling inside open elements, given outermost first
pub data Left : List Element → List ℕ → Type 0 where
  left_nothing : Left [] []
  left_text : {es : List Element} (c : ℕ) (s t : List ℕ) → list_all is_allowed (c ∷ s) ≡ true → is_tag_front t ≡ true → Left es t → Left es (escaped (c ∷ s) ++ t)
  left_empty : {es : List Element} (e : PlainElem) (t : List ℕ) → is_empty_element e.name ≡ true → are_spellable e.attrs ≡ true → LevelFits es e.name
      → Left es t → Left es (empty_tag_of e ++ t)
  left_start : {es : List Element} (e : PlainElem) (t : List ℕ) → is_empty_element e.name ≡ false → are_spellable e.attrs ≡ true → LevelFits es e.name
      → Left (es ++ e.name ∷ []) t → Left es (start_tag_of e ++ t)
  left_end : {ds : List Element} (es : List Element) (e : Element) (t : List ℕ) → ds ≡ es ++ e ∷ [] → Left es t → Left ds (end_tag_of e ++ t)

-- open elements, each with its level
abbrev pub AreOpen : Place → List Open → List Element → Type 0
AreOpen at [] [] = Unit {0}
AreOpen at [] (e ∷ es) = ⊥
AreOpen at (o ∷ os) [] = ⊥
AreOpen at (o ∷ os) (e ∷ es) = (o.name ≡ e) × (o.level ≡ (inside at e).level) × (is_empty_element e ≡ false) × ((inside at e).level ≤ 128) × AreOpen (inside at e) os es

-- what is noted of the open elements is so
pub record IsReady (opened : List Open) (building : Building) : Type 0 where
  pub are : AreOpen fragment opened (opened_of building)

-- between two states of the builder a text was read, up to what stands behind it
pub record HasRead (old new : Building) (before behind : List ℕ) : Type 0 where
  pub good : list_all is_spellable_token (written_of old) ≡ true → list_all is_spellable_token (written_of new) ≡ true
  pub is : tokens_text (written_of old) ++ before ≡ tokens_text (written_of new) ++ behind
  pub left : Left (opened_of old) before → Left (opened_of new) behind
