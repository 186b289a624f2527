-- The items of lists of attributes: each stands at its rank, and an attribute is covered where an item names it or its like.
use Rattle.std.proofs.Common.{◌≡◌, ℕ, zero, suc, ◌+◌, ◌*◌, ◌<◌, Bool, true, false, List, [], ◌∷◌, ◌++◌, ◌||◌, ◌&&◌, not, Some, refl, ap, sym, ◌∙◌, length, map, slice_get, arith, rules}
use Rattle.std.specs.Bool.{Decides}
use Rattle.std.specs.List.{flat_map, list_any, position_or_len}
use Rattle.std.specs.Prelude.{cond}
use Rattle.std.specs.Option.{option_map}
use Rattle.std.proofs.lemmas.Bool.{and_parts, false≢true}
use Rattle.std.proofs.lemmas.List.{length-map}
use Rattle.std.proofs.lemmas.Bool.Decides.{Decides-eqb, same_from_decides}
use Rattle.std.proofs.lemmas.Option.{none-some, same_Some, slice_get-map, slice_get_within}
use denote.Enum.Bare.{same_true, sameb, true_same}
use Rattle.pur_names.specs.Attributes.{all_attrs, attr_rank, same_attr}
use Rattle.pur_names.specs.Elements.{all_elements, element_rank, same_element}
use Rattle.pur_names.specs.contracts.attributes.Attr.{the_type as attr_type}
use Rattle.pur_names.specs.declared.attributes.Attr.{Attr}
use Rattle.pur_names.specs.declared.attributes.Attr.TheVariants.{Lang, XmlLang}
use Rattle.pur_names.specs.declared.elements.Element.{Element}
use Rattle.pur_names.proofs.AttrLaws.{all_attrs-rank, same_attr-Decides}
use Rattle.pur_names.proofs.ElementLaws.{all_elements-rank, same_element-Decides}
use Rattle.pur_settings.specs.Items.{all_items, covers, is_language, is_meant, is_stop, item_rank}
use Rattle.pur_settings.specs.Private.Items.{is_named}
use Rattle.pur_settings.specs.Sets.{same, is_in}
use Rattle.pur_settings.specs.declared.items.Item.{Item}
use Rattle.pur_settings.specs.declared.items.Item.TheVariants.{Everywhere, On}

pub same_attrs : (a b : Attr) → sameb attr_type a b ≡ same_attr b a
same_attrs a b =
    same_from_decides {P = a ≡ b} (sameb attr_type a b) (same_attr b a)
    (λ tested. same_true attr_type (search rules) a b tested, λ e. true_same attr_type a b e)
    (λ tested. sym ((same_attr-Decides b a).0 tested), λ e. (same_attr-Decides b a).1 (sym e))

same_swap : (a b : Attr) → same_attr a b ≡ same_attr b a
same_swap a b =
    same_from_decides {P = a ≡ b} (same_attr a b) (same_attr b a) (same_attr-Decides a b)
    (λ tested. sym ((same_attr-Decides b a).0 tested), λ e. (same_attr-Decides b a).1 (sym e))

-- the same of truth values: whether one is it, whether it and one are languages
regrouped : (s l t u p q r : Bool) → ((s || (l && (t || u))) || (p || (l && (q || r)))) ≡ ((s || p) || (l && ((t || q) || (u || r))))
regrouped true l t u p q r = refl
regrouped false false t u true q r = refl
regrouped false false t u false q r = refl
regrouped false true true u true q r = refl
regrouped false true true u false q r = refl
regrouped false true false true true q r = refl
regrouped false true false true false true r = refl
regrouped false true false true false false r = refl
regrouped false true false false true q r = refl
regrouped false true false false false q r = refl

-- an item covers an attribute where it names it, or the attribute is a language and it names one of the two
covered : (e : Element) (a : Attr) (i : Item) → covers e a i ≡ (is_named e a i || (is_language a && (is_named e Lang i || is_named e XmlLang i)))
covered e a (Everywhere x) = rw (same_swap x Lang, same_swap x XmlLang) refl
covered e a (On f x) = go (same_element e f) where
  nothing : (l : Bool) → false ≡ (l && false)
  nothing true = refl
  nothing false = refl

  go : (h : Bool) → (h && is_meant a x) ≡ ((h && same_attr a x) || (is_language a && ((h && same_attr Lang x) || (h && same_attr XmlLang x))))
  go true = rw (same_swap x Lang, same_swap x XmlLang) refl
  go false = nothing (is_language a)

-- so does one of a list
pub covered_by : (e : Element) (a : Attr) (xs : List Item)
    → list_any (covers e a) xs ≡ (list_any (is_named e a) xs || (is_language a && (list_any (is_named e Lang) xs || list_any (is_named e XmlLang) xs)))
covered_by e a [] = go (is_language a) where
  go : (l : Bool) → false ≡ (l && false)
  go true = refl
  go false = refl
covered_by e a (x ∷ xs) =
    ap (λ b. covers e a x || b) (covered_by e a xs)
    ∙ ap (λ b. b || (list_any (is_named e a) xs || (is_language a && (list_any (is_named e Lang) xs || list_any (is_named e XmlLang) xs)))) (covered e a x)
    ∙ regrouped (is_named e a x) (is_language a) (is_named e Lang x) (is_named e XmlLang x) (list_any (is_named e a) xs) (list_any (is_named e Lang) xs) (list_any (is_named e XmlLang) xs)

-- the same by what the tests of the list give
pub covered_as : (e : Element) (a : Attr) (xs : List Item) (n l t u : Bool) → list_any (is_named e a) xs ≡ n → is_language a ≡ l
    → list_any (is_named e Lang) xs ≡ t → list_any (is_named e XmlLang) xs ≡ u → list_any (covers e a) xs ≡ (n || (l && (t || u)))
covered_as e a xs n l t u of_a of_l of_t of_u = covered_by e a xs ∙ rw (of_a, of_l, of_t, of_u) refl

both : (p q : Bool) → (p || (p || q)) ≡ (q || (p || q))
both true true = refl
both true false = refl
both false q = ors q where
  ors : (q : Bool) → q ≡ (q || q)
  ors true = refl
  ors false = refl

languages-meant : (x : Attr) → is_meant Lang x ≡ is_meant XmlLang x
languages-meant x = rw (same_swap Lang x, same_swap XmlLang x) (both (same_attr x Lang) (same_attr x XmlLang))

-- what covers `lang` covers `xml:lang`, and the other way round
pub languages-covered : (e : Element) (x : Item) → covers e Lang x ≡ covers e XmlLang x
languages-covered e (Everywhere x) = languages-meant x
languages-covered e (On f x) = ap (λ b. same_element e f && b) (languages-meant x)

front : {C : Type 0} (xs ys : List C) (j : ℕ) (z : C) → slice_get xs j ≡ Some z → slice_get (xs ++ ys) j ≡ Some z
front [] ys j z h = absurd (none-some z h)
front (x ∷ xs) ys zero z h = h
front (x ∷ xs) ys (suc j) z h = front xs ys j z h

behind : {C : Type 0} (xs ys : List C) (j : ℕ) → slice_get (xs ++ ys) (length xs + j) ≡ slice_get ys j
behind [] ys j = let none : 0 + j ≡ j = omega arith in ap (slice_get ys) none
behind (x ∷ xs) ys j = let later : suc (length xs) + j ≡ suc (length xs + j) = omega arith in ap (slice_get (x ∷ (xs ++ ys))) later ∙ behind xs ys j

-- i rows of n and j more
abbrev position : ℕ → ℕ → ℕ → ℕ
position n zero j = j
position n (suc i) j = n + position n i j

position-is : (i j : ℕ) → 54 * suc i + j ≡ 54 + position 54 i j
position-is zero j = omega arith
position-is (suc i) j = rw (← position-is i j) (omega arith)

-- what is made of the i-th of some and the j-th of others stands at this position among all that is made of them
paired : {A B C : Type 0} (f : A → B → C) (xs : List A) (ys : List B) (i j : ℕ) (x : A) (y : B) → slice_get xs i ≡ Some x → slice_get ys j ≡ Some y
    → slice_get (flat_map (λ a. map (f a) ys) xs) (position (length ys) i j) ≡ Some (f x y)
paired f [] ys i j x y at_x at_y = absurd (none-some x at_x)
paired f (a ∷ xs) ys zero j x y at_x at_y =
    front (map (f a) ys) (flat_map (λ a. map (f a) ys) xs) j (f x y)
    (slice_get-map (f a) ys j ∙ ap (option_map (f a)) at_y ∙ ap (λ b. Some (f b y)) (same_Some a x at_x))
paired f (a ∷ xs) ys (suc i) j x y at_x at_y =
    ap (λ n. slice_get (map (f a) ys ++ flat_map (λ a. map (f a) ys) xs) (n + position (length ys) i j)) (sym (length-map ys (f a)))
    ∙ behind (map (f a) ys) (flat_map (λ a. map (f a) ys) xs) (position (length ys) i j)
    ∙ paired f xs ys i j x y at_x at_y

-- behind what is made of others alone it stands so much later
paired-behind : {A B C : Type 0} (g : B → C) (f : A → B → C) (xs : List A) (ys : List B) (i j : ℕ) (x : A) (y : B) → slice_get xs i ≡ Some x → slice_get ys j ≡ Some y
    → slice_get (map g ys ++ flat_map (λ a. map (f a) ys) xs) (length ys + position (length ys) i j) ≡ Some (f x y)
paired-behind g f xs ys i j x y at_x at_y =
    ap (λ n. slice_get (map g ys ++ flat_map (λ a. map (f a) ys) xs) (n + position (length ys) i j)) (sym (length-map ys g))
    ∙ behind (map g ys) (flat_map (λ a. map (f a) ys) xs) (position (length ys) i j)
    ∙ paired f xs ys i j x y at_x at_y

pub items_counted : length all_items ≡ 3834
unfolding all_items
items_counted = refl

-- the list of all has each item at its rank
pub all_items-rank : (item : Item) → slice_get all_items (item_rank item) ≡ Some item
unfolding all_items
all_items-rank (Everywhere a) =
    front (map Everywhere all_attrs) (flat_map (λ e. map (On e) all_attrs) all_elements) (attr_rank a) (Everywhere a)
    (slice_get-map Everywhere all_attrs (attr_rank a) ∙ ap (option_map Everywhere) (all_attrs-rank a))
all_items-rank (On e a) =
    ap (slice_get (map Everywhere all_attrs ++ flat_map (λ e. map (On e) all_attrs) all_elements)) (position-is (element_rank e) (attr_rank a))
    ∙ paired-behind Everywhere On all_elements all_attrs (element_rank e) (attr_rank a) e a (all_elements-rank e) (all_attrs-rank a)

pub items-within : (item : Item) → item_rank item < length all_items
items-within item = slice_get_within all_items (item_rank item) item (all_items-rank item)

-- two items are one where their ranks are
pub items-Decides : (x y : Item) → Decides (same item_rank x y) (x ≡ y)
items-Decides x y = (
  λ yes. same_Some _ _ (sym (all_items-rank x) ∙ ap (slice_get all_items) ((Decides-eqb (item_rank x) (item_rank y)).0 yes) ∙ all_items-rank y),
  λ is. (Decides-eqb (item_rank x) (item_rank y)).1 (ap item_rank is),
)

distinct : (x y : Item) → (x ≡ y → ⊥) → same item_rank x y ≡ false
distinct x y other = go (same item_rank x y) refl where
  go : (b : Bool) → same item_rank x y ≡ b → same item_rank x y ≡ false
  go true h = absurd (other ((items-Decides x y).0 h))
  go false h = h

abbrev is_everywhere : Item → Bool
is_everywhere (Everywhere a) = true
is_everywhere (On e a) = false

abbrev attr_in : Item → Attr
attr_in (Everywhere a) = a
attr_in (On e a) = a

abbrev element_in : Element → Item → Element
element_in none (Everywhere a) = none
element_in none (On e a) = e

or_false : (b : Bool) → b ≡ (b || false)
or_false true = refl
or_false false = refl

on-Decides : (e f : Element) (a b : Attr) → Decides (same_element e f && same_attr a b) (On e a ≡ On f b)
on-Decides e f a b = (
  λ tested.
      ap (λ h. On h a) ((same_element-Decides e f).0 (and_parts (same_element e f) (same_attr a b) tested).0)
      ∙ ap (On f) ((same_attr-Decides a b).0 (and_parts (same_element e f) (same_attr a b) tested).1),
  λ is. rw ((same_element-Decides e f).1 (ap (element_in e) is), (same_attr-Decides a b).1 (ap attr_in is)) refl,
)

-- an item names an attribute on an element where it is that attribute, everywhere or on the element
named : (e : Element) (a : Attr) (x : Item) → is_named e a x ≡ (same item_rank (Everywhere a) x || same item_rank (On e a) x)
named e a (Everywhere b) = rw (distinct (On e a) (Everywhere b) (λ is. false≢true (ap is_everywhere is))) (or_false (same_attr a b))
named e a (On f b) =
    rw (distinct (Everywhere a) (On f b) (λ is. false≢true (sym (ap is_everywhere is))))
    (same_from_decides {P = On e a ≡ On f b} (same_element e f && same_attr a b) (same item_rank (On e a) (On f b)) (on-Decides e f a b) (items-Decides (On e a) (On f b)))

exchanged : (p q r s : Bool) → ((p || q) || (r || s)) ≡ ((p || r) || (q || s))
exchanged true q r s = refl
exchanged false true true s = refl
exchanged false true false s = refl
exchanged false false r s = refl

-- so does one of a list
pub named_by : (e : Element) (a : Attr) (xs : List Item) → list_any (is_named e a) xs ≡ (is_in item_rank xs (Everywhere a) || is_in item_rank xs (On e a))
named_by e a [] = refl
named_by e a (x ∷ xs) =
    ap (λ b. b || list_any (is_named e a) xs) (named e a x)
    ∙ ap (λ b. (same item_rank (Everywhere a) x || same item_rank (On e a) x) || b) (named_by e a xs)
    ∙ exchanged (same item_rank (Everywhere a) x) (same item_rank (On e a) x) (is_in item_rank xs (Everywhere a)) (is_in item_rank xs (On e a))

-- a text without a full stop has none among its bytes
pub no-stop : (text : List ℕ) → position_or_len is_stop text ≡ length text → list_any is_stop text ≡ false
no-stop [] h = refl
no-stop (x ∷ xs) h = go (is_stop x) (no-stop xs) h where
  go : (b : Bool) → (position_or_len is_stop xs ≡ length xs → list_any is_stop xs ≡ false) → cond (not b) (1 + position_or_len is_stop xs) 0 ≡ suc (length xs)
      → (b || list_any is_stop xs) ≡ false
  go true more h = absurd (omega (arith, h))
  go false more h = more (omega (arith, h))
