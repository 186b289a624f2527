-- Attributes aside, nothing changes.
use Rattle.std.proofs.Common.{◌≡◌, ◌≤◌, ◌+◌, ℕ, max, nat_lt, Bool, not, ◌&&◌, ◌||◌, cond, List, [], ◌∷◌, length, take, drop, Option, refl, sym, ap, subst, ◌∙◌}
use Rattle.pur_text.specs.Characters.{is_blank}
use Rattle.pur_names.specs.declared.elements.Element.{Element}
use Rattle.pur_modules.specs.Contents.{content_held, is_empty_element}
use Rattle.pur_modules.specs.Expressions.{has_text_letter}
use Rattle.pur_modules.specs.declared.kinds.Child.TheVariants.{Text, Elem}
use Rattle.pur_modules.specs.declared.kinds.Content.{Content}
use Rattle.pur_modules.specs.declared.kinds.Doctype.{Doctype}
use Rattle.pur_settings.specs.Rules.{Rules}
use Rattle.pur_attrlist.specs.Attributes.{Attribute}
use Rattle.pur_attrlist.specs.Texts.{times}
use Rattle.pur_tree.specs.Nodes.{PlainElem, Nodes, no_nodes, text_first, elem_first, plain_elem, bare, level_in, level_of, starts_with_text, is_joined, has_no_nodes, is_sound}
use Rattle.pur_tree.specs.Places.{Place, fragment, inside, level_limit}
use Rattle.pur_tree.specs.Properties.{Property, Holds, free, permitted}
use Rattle.pur_tree.specs.Walks.{count_in_text}
use Rattle.pur_tree.specs.Words.{word_of, IsWord, HaveWords}
use Rattle.pur_uripolicy.specs.HostRules.{PlainHostRule}
use Rattle.pur_validity.specs.Attributes.{ids_in, ids_of}
use Rattle.pur_attrs.specs.Attributes.{with_changed_attributes, with_valid_attributes}
use Rattle.pur_attrs.specs.Ids.{ids_kept, with_id, with_ids}
use Rattle.pur_attrs.specs.Laws.{bare_nodes, KeepsForests, KeepsWords}
use Rattle.pur_attrs.specs.Steps.{kept_attributes, completed_attributes}

-- ---- the nodes

abbrev Change : Type 0
Change = Element → List Attribute → List Attribute

nodes-changed : (changed : Change) (nodes : Nodes) → bare_nodes (with_changed_attributes changed nodes) ≡ bare_nodes nodes
nodes-changed changed no_nodes = refl
nodes-changed changed (text_first s rest) = ap (text_first s) (nodes-changed changed rest)
nodes-changed changed (elem_first e kids rest) =
    ap (λ l. elem_first (bare e.name) l (bare_nodes (with_changed_attributes changed rest))) (nodes-changed changed kids)
    ∙ ap (elem_first (bare e.name) (bare_nodes kids)) (nodes-changed changed rest)

nodes-told : (told : List (Option (List ℕ))) (nodes : Nodes) → bare_nodes (with_ids told nodes) ≡ bare_nodes nodes
nodes-told told no_nodes = refl
nodes-told told (text_first s rest) = ap (text_first s) (nodes-told told rest)
nodes-told told (elem_first e kids rest) =
    let behind = drop (length (ids_in e.attrs)) told in
    let below = length (ids_of kids) in
    ap (λ l. elem_first (bare e.name) l (bare_nodes (with_ids (drop below behind) rest))) (nodes-told (take below behind) kids)
    ∙ ap (elem_first (bare e.name) (bare_nodes kids)) (nodes-told (drop below behind) rest)

pub nodes_stay : (rules : Rules) (rule : PlainHostRule) (nodes : Nodes) → bare_nodes (with_valid_attributes rules rule nodes) ≡ bare_nodes nodes
nodes_stay rules rule nodes =
    let left = with_changed_attributes (kept_attributes rules rule) nodes in
    let told = ids_kept rules.id_prefix (ids_of left) in
    nodes-changed completed_attributes (with_ids told left) ∙ nodes-told told left ∙ nodes-changed (kept_attributes rules rule) nodes

-- ---- what is asked of them

module _ (q : Property) (stays : (w : q.Where) (e : PlainElem) (attrs : List Attribute) → q.elem w e → q.elem w (plain_elem e.name attrs)) where
  asked-changed : (changed : Change) (w : q.Where) (nodes : Nodes) → Holds q w nodes → Holds q w (with_changed_attributes changed nodes)
  asked-changed changed w no_nodes h = h
  asked-changed changed w (text_first s rest) h = (h.0, asked-changed changed w rest h.1)
  asked-changed changed w (elem_first e kids rest) h =
      (stays w e (changed e.name e.attrs) h.0, asked-changed changed (q.inside w e.name) kids h.1, asked-changed changed w rest h.2)

  asked-told : (told : List (Option (List ℕ))) (w : q.Where) (nodes : Nodes) → Holds q w nodes → Holds q w (with_ids told nodes)
  asked-told told w no_nodes h = h
  asked-told told w (text_first s rest) h = (h.0, asked-told told w rest h.1)
  asked-told told w (elem_first e kids rest) h =
      let own = length (ids_in e.attrs) in
      let below = length (ids_of kids) in (
        stays w e (with_id (take own told) e.attrs) h.0,
        asked-told (take below (drop own told)) (q.inside w e.name) kids h.1,
        asked-told (drop below (drop own told)) w rest h.2,
      )

  asked-stays : (rules : Rules) (rule : PlainHostRule) (w : q.Where) (nodes : Nodes) → Holds q w nodes → Holds q w (with_valid_attributes rules rule nodes)
  asked-stays rules rule w nodes h =
      let left = with_changed_attributes (kept_attributes rules rule) nodes in
      let told = ids_kept rules.id_prefix (ids_of left) in
      asked-changed completed_attributes w (with_ids told left) (asked-told told w left (asked-changed (kept_attributes rules rule) w nodes h))

pub free_stays : (rules : Rules) (rule : PlainHostRule) (outer : List Element) (nodes : Nodes) → Holds free outer nodes → Holds free outer (with_valid_attributes rules rule nodes)
free_stays rules rule outer nodes h = asked-stays free (λ w e attrs is. is) rules rule outer nodes h

pub permitted_stays : (permits : Element → Bool) (rules : Rules) (rule : PlainHostRule) (nodes : Nodes) → Holds (permitted permits) tt nodes
    → Holds (permitted permits) tt (with_valid_attributes rules rule nodes)
permitted_stays permits rules rule nodes h = asked-stays (permitted permits) (λ w e attrs is. is) rules rule tt nodes h

-- ---- their levels, and where texts stand

level-changed : (changed : Change) (at : Place) (nodes : Nodes) → level_in at (with_changed_attributes changed nodes) ≡ level_in at nodes
level-changed changed at no_nodes = refl
level-changed changed at (text_first s rest) = level-changed changed at rest
level-changed changed at (elem_first e kids rest) =
    ap (λ n. max (max (inside at e.name).level n) (level_in at (with_changed_attributes changed rest))) (level-changed changed (inside at e.name) kids)
    ∙ ap (max (max (inside at e.name).level (level_in (inside at e.name) kids))) (level-changed changed at rest)

none-changed : (changed : Change) (nodes : Nodes) → has_no_nodes (with_changed_attributes changed nodes) ≡ has_no_nodes nodes
none-changed changed no_nodes = refl
none-changed changed (text_first s rest) = refl
none-changed changed (elem_first e kids rest) = refl

sound-changed : (changed : Change) (nodes : Nodes) → is_sound (with_changed_attributes changed nodes) ≡ is_sound nodes
sound-changed changed no_nodes = refl
sound-changed changed (text_first s rest) = ap (λ b. nat_lt 0 (length s) && b) (sound-changed changed rest)
sound-changed changed (elem_first e kids rest) =
    ap (λ b. (not (is_empty_element e.name) || b) && (is_sound (with_changed_attributes changed kids) && is_sound (with_changed_attributes changed rest))) (none-changed changed kids)
    ∙ ap (λ b. (not (is_empty_element e.name) || has_no_nodes kids) && (b && is_sound (with_changed_attributes changed rest))) (sound-changed changed kids)
    ∙ ap (λ b. (not (is_empty_element e.name) || has_no_nodes kids) && (is_sound kids && b)) (sound-changed changed rest)

text-changed : (changed : Change) (nodes : Nodes) → starts_with_text (with_changed_attributes changed nodes) ≡ starts_with_text nodes
text-changed changed no_nodes = refl
text-changed changed (text_first s rest) = refl
text-changed changed (elem_first e kids rest) = refl

joined-changed : (changed : Change) (nodes : Nodes) → is_joined (with_changed_attributes changed nodes) ≡ is_joined nodes
joined-changed changed no_nodes = refl
joined-changed changed (text_first s rest) =
    ap (λ b. not b && is_joined (with_changed_attributes changed rest)) (text-changed changed rest)
    ∙ ap (λ b. not (starts_with_text rest) && b) (joined-changed changed rest)
joined-changed changed (elem_first e kids rest) =
    ap (λ b. b && is_joined (with_changed_attributes changed rest)) (joined-changed changed kids) ∙ ap (λ b. is_joined kids && b) (joined-changed changed rest)

-- what is the same without attributes as with them is the same before and after
pub unchanged : {X : Type 0} (told : Nodes → X) → ((nodes : Nodes) → told (bare_nodes nodes) ≡ told nodes) → (rules : Rules) (rule : PlainHostRule) (nodes : Nodes)
    → told (with_valid_attributes rules rule nodes) ≡ told nodes
unchanged told same rules rule nodes = sym (same (with_valid_attributes rules rule nodes)) ∙ ap told (nodes_stay rules rule nodes) ∙ same nodes

abbrev none : Change
none element attrs = []

pub forest_stays : (rules : Rules) (rule : PlainHostRule) (nodes : Nodes) → KeepsForests rules rule nodes
forest_stays rules rule nodes =
    record {
      forest = λ h.
          record {
            low = subst (λ n. n ≤ level_limit) (sym (unchanged level_of (level-changed none fragment) rules rule nodes)) h.low;
            sound = unchanged is_sound (sound-changed none) rules rule nodes ∙ h.sound;
          };
      joined = unchanged is_joined (joined-changed none) rules rule nodes;
    }

-- ---- their words

word-changed : (changed : Change) (texts : Bool) (nodes : Nodes) → word_of texts (with_changed_attributes changed nodes) ≡ word_of texts nodes
word-changed changed texts no_nodes = refl
word-changed changed texts (text_first s rest) = ap (λ l. cond (not texts && is_blank s) l (Text ∷ l)) (word-changed changed texts rest)
word-changed changed texts (elem_first e kids rest) = ap (λ l. Elem e.name ∷ l) (word-changed changed texts rest)

-- nodes that are the same without attributes have the same words
word-same : (texts : Bool) (nodes others : Nodes) → bare_nodes nodes ≡ bare_nodes others → word_of texts nodes ≡ word_of texts others
word-same texts nodes others same =
    sym (word-changed (λ element attrs. []) texts nodes) ∙ ap (word_of texts) same ∙ word-changed (λ element attrs. []) texts others

word-stays : (doctype : Doctype) (content : Content) (nodes others : Nodes) → bare_nodes others ≡ bare_nodes nodes
    → IsWord doctype content nodes → IsWord doctype content others
word-stays doctype content nodes others same word =
    rw (word-same (has_text_letter doctype content) others nodes same) word

words-changed : (changed : Change) (doctype : Doctype) (content : Content) (nodes : Nodes) → HaveWords doctype content nodes
    → HaveWords doctype content (with_changed_attributes changed nodes)
words-changed changed doctype content no_nodes h = h
words-changed changed doctype content (text_first s rest) h = words-changed changed doctype content rest h
words-changed changed doctype content (elem_first e kids rest) h =
    let held = content_held doctype e.name content in (
      word-stays doctype held kids (with_changed_attributes changed kids) (nodes-changed changed kids) h.0,
      words-changed changed doctype held kids h.1,
      words-changed changed doctype content rest h.2,
    )

words-told : (told : List (Option (List ℕ))) (doctype : Doctype) (content : Content) (nodes : Nodes) → HaveWords doctype content nodes
    → HaveWords doctype content (with_ids told nodes)
words-told told doctype content no_nodes h = h
words-told told doctype content (text_first s rest) h = words-told told doctype content rest h
words-told told doctype content (elem_first e kids rest) h =
    let held = content_held doctype e.name content in
    let behind = drop (length (ids_in e.attrs)) told in
    let below = length (ids_of kids) in (
      word-stays doctype held kids (with_ids (take below behind) kids) (nodes-told (take below behind) kids) h.0,
      words-told (take below behind) doctype held kids h.1,
      words-told (drop below behind) doctype content rest h.2,
    )

pub words_stay : (doctype : Doctype) (content : Content) (rules : Rules) (rule : PlainHostRule) (nodes : Nodes) → KeepsWords doctype content rules rule nodes
words_stay doctype content rules rule nodes =
    let left = with_changed_attributes (kept_attributes rules rule) nodes in
    let told = ids_kept rules.id_prefix (ids_of left) in
    record {
      word = word-stays doctype content nodes (with_valid_attributes rules rule nodes) (nodes_stay rules rule nodes);
      words = λ h.
          words-changed completed_attributes doctype content (with_ids told left)
          (words-told told doctype content left (words-changed (kept_attributes rules rule) doctype content nodes h));
    }

-- ---- their texts

count-changed : (changed : Change) (c : ℕ) (nodes : Nodes) → count_in_text c (with_changed_attributes changed nodes) ≡ count_in_text c nodes
count-changed changed c no_nodes = refl
count-changed changed c (text_first s rest) = ap (λ n. times c s + n) (count-changed changed c rest)
count-changed changed c (elem_first e kids rest) =
    ap (λ n. n + count_in_text c (with_changed_attributes changed rest)) (count-changed changed c kids)
    ∙ ap (λ n. count_in_text c kids + n) (count-changed changed c rest)

pub counts_stay : (rules : Rules) (rule : PlainHostRule) (c : ℕ) (nodes : Nodes) → count_in_text c (with_valid_attributes rules rule nodes) ≡ count_in_text c nodes
counts_stay rules rule c nodes = unchanged (count_in_text c) (count-changed none c) rules rule nodes
