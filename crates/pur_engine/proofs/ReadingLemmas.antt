-- The tokens that a spelling is written in, and what they are read as.
use Rattle.std.proofs.Common.{◌≡◌, ℕ, Bool, true, false, not, ◌&&◌, ◌||◌, cond, List, [], ◌∷◌, ◌++◌, map, refl, sym, ap, subst, ◌∙◌, length, codes, arith, append_assoc, append-nil}
use Rattle.std.specs.Prelude.{nat_lt, ◌==◌, if◌then◌else◌, Some}
use Rattle.std.specs.List.{list_all, list_any, flat_map}
use Rattle.std.specs.Str.{bytes_eq}
use Rattle.std.proofs.lemmas.Bool.{and_parts, and_from, or_parts, eqb-true}
use Rattle.std.proofs.lemmas.Bool.Decides.{nat_tests}
use Rattle.pur_laws.proofs.Lists.{all-append}
use Rattle.pur_text.specs.Characters.{is_allowed}
use Rattle.pur_text.specs.Escapes.{escape, escaped}
use Rattle.pur_names.specs.declared.elements.Element.{Element}
use Rattle.pur_names.specs.declared.attributes.Attr.{Attr}
use Rattle.pur_names.specs.Elements.{element_name}
use Rattle.pur_names.specs.Attributes.{attr_name, all_attrs}
use Rattle.pur_names.proofs.ElementLaws.{each_element}
use Rattle.pur_modules.specs.Contents.{is_empty_element}
use Rattle.pur_entities.specs.References.{decoded, decoded_behind, number_meant}
use Rattle.pur_entities.specs.Entities.{named_character, entities, latin_1, special, greek, other_symbols, character_in}
use Rattle.pur_entities.proofs.ReferenceLemmas.{decoded-meant, decoded-escaped, decoded-escaped-append}
use Rattle.pur_attrlist.specs.Attributes.{Attribute, is_distinct, has_name, is_same_text, names_of}
use Rattle.pur_tokens.specs.Joining as joining
use Rattle.pur_tokens.specs.Tokens as read
use Rattle.pur_engine.proofs.TextLemmas.{is_text}
use Rattle.pur_lexer.specs.Written.{written, written_attribute, attribute_as_read, as_read, is_writable, is_writable_attribute, is_writable_name, is_writable_tag, is_unbroken}
use Rattle.pur_lexer.specs.Places.{is_character}
use Rattle.pur_lexer.specs.Tags.{ends_attribute_name}
use Rattle.pur_lexer.specs.Constructs.{is_hiding}
use Rattle.pur_tree.specs.Nodes.{PlainElem, Nodes, no_nodes, text_first, elem_first, starts_with_text, is_joined, is_sound}
use Rattle.pur_tree.specs.Spelling.{Spells, spells_nothing, spells_text, spells_empty, spells_element, escape_in_value, escaped_value, attribute_text, attributes_text, start_tag_of, end_tag_of, empty_tag_of, spelling_of, is_attr_name, is_spellable_attribute, are_spellable}
use Rattle.pur_tree.specs.Tokens as flat
use Rattle.pur_tree.proofs.EscapeLemmas.{no_tag_in_escaped}
use Rattle.pur_tree.proofs.AttributeLemmas.{no_quote, names_pass}
use Rattle.pur_engine.proofs.SpelledLemmas.{positive}
use Rattle.pur_wellform.specs.Laws as closing

-- ---- the tokens as they are written

-- an attribute with its value escaped
abbrev escaped_attribute : Attribute → Attribute
escaped_attribute pair = (pair.0, escaped_value pair.1)

-- a token of nodes with its texts and values escaped
abbrev pub escaped_token : flat.Token → read.PlainToken
escaped_token (flat.text_token text) = read.text_token (escaped text)
escaped_token (flat.start_token e) = read.start_token (element_name e.name) (map escaped_attribute e.attrs)
escaped_token (flat.end_token name) = read.end_token (element_name name)
escaped_token (flat.empty_token e) = read.empty_token (element_name e.name) (map escaped_attribute e.attrs)

abbrev pub escaped_tokens : List flat.Token → List read.PlainToken
escaped_tokens tokens = map escaped_token tokens

attributes_written : (pairs : List Attribute) → flat_map written_attribute (map escaped_attribute pairs) ≡ attributes_text pairs
attributes_written [] = refl
attributes_written (pair ∷ pairs) = ap (λ t. attribute_text pair ++ t) (attributes_written pairs)

start_written : (e : PlainElem) → written (escaped_token (flat.start_token e)) ≡ start_tag_of e
start_written e = ap (λ t. codes "<" ++ (element_name e.name ++ (t ++ codes ">"))) (attributes_written e.attrs)

empty_written : (e : PlainElem) → written (escaped_token (flat.empty_token e)) ≡ empty_tag_of e
empty_written e = ap (λ t. codes "<" ++ (element_name e.name ++ (t ++ codes " />"))) (attributes_written e.attrs)

written_append : (a b : List flat.Token) → flat_map written (escaped_tokens (a ++ b)) ≡ flat_map written (escaped_tokens a) ++ flat_map written (escaped_tokens b)
written_append [] b = refl
written_append (t ∷ a) b = ap (λ x. written (escaped_token t) ++ x) (written_append a b) ∙ sym (append_assoc (written (escaped_token t)) _ _)

-- what is spelled is written in these tokens
pub spelling_written : {n : Nodes} {t : List ℕ} → Spells n t → flat_map written (escaped_tokens (flat.tokens_of_nodes n)) ≡ t
spelling_written spells_nothing = refl
spelling_written (spells_text {c = c} {s = s} a j r) = ap (λ x. escaped (c ∷ s) ++ x) (spelling_written r)
spelling_written (spells_empty {e = e} {t = t} empty a r) =
    rw empty (ap (λ x. written (escaped_token (flat.empty_token e)) ++ x) (spelling_written r) ∙ ap (λ x. x ++ t) (empty_written e))
spelling_written (spells_element {e = e} {kids = kids} {rest = rest} {u = u} {t = t} other a k r) =
    rw other
    (ap (λ x. written (escaped_token (flat.start_token e)) ++ x)
    (written_append (flat.tokens_of_nodes kids) (flat.end_token e.name ∷ flat.tokens_of_nodes rest)
    ∙ ap (λ x. x ++ (end_tag_of e.name ++ flat_map written (escaped_tokens (flat.tokens_of_nodes rest)))) (spelling_written k)
    ∙ ap (λ x. u ++ (end_tag_of e.name ++ x)) (spelling_written r))
    ∙ ap (λ x. x ++ (u ++ (end_tag_of e.name ++ t))) (start_written e))

-- ---- what they are read as

-- a character in a value, by what it is
quote_meant : number_meant (codes "quot") ≡ Some 0x22
unfolding number_meant named_character entities latin_1 special greek other_symbols character_in
quote_meant = refl

one_escaped : (c : ℕ) → escape c ++ [] ≡ escaped (c ∷ [])
unfolding escaped
one_escaped c = refl

value_read : (c : ℕ) (rest : List ℕ) → decoded (escape_in_value c ++ rest) ≡ c ∷ decoded rest
value_read c rest = go (c == 0x22) refl
  where
    quote : c ≡ 0x22 → decoded (codes "&quot;" ++ rest) ≡ c ∷ decoded rest
    quote is = decoded-meant (codes "quot") rest 0x22 quote_meant ∙ ap (λ d. d ∷ decoded rest) (sym is)

    go : (b : Bool) → (c == 0x22) ≡ b → decoded ((if b then codes "&quot;" else escape c) ++ rest) ≡ c ∷ decoded rest
    go true is = quote (eqb-true c 0x22 is)
    go false is = ap (λ e. decoded (e ++ rest)) (sym (append-nil (escape c)) ∙ one_escaped c) ∙ decoded-escaped-append (c ∷ []) rest

values_read : (value rest : List ℕ) → decoded (escaped_value value ++ rest) ≡ value ++ decoded rest
unfolding escaped_value
values_read [] rest = refl
values_read (c ∷ value) rest =
    ap decoded (append_assoc (escape_in_value c) (escaped_value value) rest)
    ∙ value_read c (escaped_value value ++ rest)
    ∙ ap (λ t. c ∷ t) (values_read value rest)

nothing_read : decoded [] ≡ []
unfolding decoded decoded_behind
nothing_read = refl

value_whole : (value : List ℕ) → decoded (escaped_value value) ≡ value
value_whole value = ap decoded (sym (append-nil (escaped_value value))) ∙ values_read value [] ∙ ap (λ t. value ++ t) nothing_read ∙ append-nil value

attributes_read : (pairs : List Attribute) → map attribute_as_read (map escaped_attribute pairs) ≡ pairs
attributes_read [] = refl
attributes_read (pair ∷ pairs) = ap (λ v. (pair.0, v) ∷ map attribute_as_read (map escaped_attribute pairs)) (value_whole pair.1) ∙ ap (λ l. pair ∷ l) (attributes_read pairs)

-- a token that was written, as one that is read
token_read : (token : flat.Token) → as_read (escaped_token token) ≡ closing.as_read token
token_read (flat.text_token text) = ap read.text_token (decoded-escaped text)
token_read (flat.start_token e) = ap (read.start_token (element_name e.name)) (attributes_read e.attrs)
token_read (flat.end_token name) = refl
token_read (flat.empty_token e) = ap (read.empty_token (element_name e.name)) (attributes_read e.attrs)

pub tokens_read : (tokens : List flat.Token) → map as_read (escaped_tokens tokens) ≡ map closing.as_read tokens
tokens_read [] = refl
tokens_read (token ∷ tokens) = ap (λ t. t ∷ map as_read (escaped_tokens tokens)) (token_read token) ∙ ap (λ l. closing.as_read token ∷ l) (tokens_read tokens)

-- ---- they can be read

no_bracket : (text : List ℕ) → list_all (λ c. not (is_character 0x3C c)) (escaped text) ≡ true
no_bracket text = none_all (escaped text) (no_tag_in_escaped text)
  where
    none_all : (t : List ℕ) → list_any (λ d. d == 60) t ≡ false → list_all (λ c. not (is_character 0x3C c)) t ≡ true
    none_all [] h = refl
    none_all (c ∷ t) h = let parts = or_parts (c == 60) (list_any (λ d. d == 60) t) h in rw parts.0 (none_all t parts.1)

no_quotation : (value : List ℕ) → list_all (λ c. not (is_character 0x22 c)) (escaped_value value) ≡ true
no_quotation value = none_all (escaped_value value) (no_quote value)
  where
    none_all : (t : List ℕ) → list_any (λ d. d == 34) t ≡ false → list_all (λ c. not (is_character 0x22 c)) t ≡ true
    none_all [] h = refl
    none_all (c ∷ t) h = let parts = or_parts (c == 34) (list_any (λ d. d == 34) t) h in rw parts.0 (none_all t parts.1)

abbrev is_fine_name : List ℕ → Bool
is_fine_name name = nat_lt 0 (length name) && is_unbroken ends_attribute_name name

attribute_named : (name : List ℕ) → is_attr_name name ≡ true → is_fine_name name ≡ true
attribute_named name is = names_pass is_fine_name all_attrs name refl is

element_named : (element : Element) → (is_writable_name (element_name element) && not (is_hiding (element_name element))) ≡ true
element_named element = each_element (λ e. is_writable_name (element_name e) && not (is_hiding (element_name e))) refl element

attribute_written : (pair : Attribute) → is_spellable_attribute pair ≡ true → is_writable_attribute (escaped_attribute pair) ≡ true
attribute_written pair is =
    let spelled = and_parts (is_attr_name pair.0) (list_all is_allowed pair.1) is in
    and_from (is_fine_name pair.0) (list_all (λ c. not (is_character 0x22 c)) (escaped_value pair.1)) (attribute_named pair.0 spelled.0) (no_quotation pair.1)

attributes_can : (pairs : List Attribute) → list_all is_spellable_attribute pairs ≡ true → list_all is_writable_attribute (map escaped_attribute pairs) ≡ true
attributes_can [] all = refl
attributes_can (pair ∷ pairs) all =
    let parts = and_parts (is_spellable_attribute pair) (list_all is_spellable_attribute pairs) all in
    and_from _ _ (attribute_written pair parts.0) (attributes_can pairs parts.1)

same_names : (pairs : List Attribute) → names_of (map escaped_attribute pairs) ≡ names_of pairs
same_names [] = refl
same_names (pair ∷ pairs) = ap (λ l. pair.0 ∷ l) (same_names pairs)

distinct_escaped : (pairs : List Attribute) → is_distinct (map escaped_attribute pairs) ≡ is_distinct pairs
distinct_escaped [] = refl
distinct_escaped (pair ∷ pairs) =
    ap (λ l. not (list_any (is_same_text pair.0) l) && is_distinct (map escaped_attribute pairs)) (same_names pairs)
    ∙ ap (λ b. not (has_name pairs pair.0) && b) (distinct_escaped pairs)

tag_can : (e : PlainElem) → are_spellable e.attrs ≡ true → (is_writable_tag (element_name e.name) (map escaped_attribute e.attrs) && not (is_hiding (element_name e.name))) ≡ true
tag_can e are =
    let named = and_parts (is_writable_name (element_name e.name)) (not (is_hiding (element_name e.name))) (element_named e.name) in
    let parts = and_parts (list_all is_spellable_attribute e.attrs) (is_distinct e.attrs) are in
    and_from _ _ (and_from _ _ (and_from _ _ named.0 (attributes_can e.attrs parts.0)) (distinct_escaped e.attrs ∙ parts.1)) named.1

abbrev AllCan : List flat.Token → Type 0
AllCan tokens = list_all is_writable (escaped_tokens tokens) ≡ true

can_append : (a b : List flat.Token) → AllCan a → AllCan b → AllCan (a ++ b)
can_append [] b all more = more
can_append (t ∷ a) b all more =
    let parts = and_parts (is_writable (escaped_token t)) (list_all is_writable (escaped_tokens a)) all in
    and_from _ _ parts.0 (can_append a b parts.1 more)

pub spelling_can : {n : Nodes} {t : List ℕ} → Spells n t → AllCan (flat.tokens_of_nodes n)
spelling_can spells_nothing = refl
spelling_can (spells_text {c = c} {s = s} {rest = rest} a j r) =
    and_from _ _ (and_from _ _ (no_bracket (c ∷ s)) (ap (λ t. nat_lt 0 (length t)) (decoded-escaped (c ∷ s)) ∙ positive c s)) (spelling_can r)
spelling_can (spells_empty {e = e} {rest = rest} empty a r) =
    let tag = and_parts (is_writable_tag (element_name e.name) (map escaped_attribute e.attrs)) (not (is_hiding (element_name e.name))) (tag_can e a) in
    rw empty (and_from _ _ tag.0 (spelling_can r))
spelling_can (spells_element {e = e} {kids = kids} {rest = rest} other a k r) =
    let named = and_parts (is_writable_name (element_name e.name)) (not (is_hiding (element_name e.name))) (element_named e.name) in
    rw other (and_from _ _ (tag_can e a)
    (can_append (flat.tokens_of_nodes kids) (flat.end_token e.name ∷ flat.tokens_of_nodes rest) (spelling_can k) (and_from _ _ named.0 (spelling_can r))))

-- ---- texts are texts in each of these

pub is_text_escaped : (token : flat.Token) → joining.is_text (escaped_token token) ≡ is_text token
is_text_escaped (flat.text_token text) = refl
is_text_escaped (flat.start_token e) = refl
is_text_escaped (flat.end_token name) = refl
is_text_escaped (flat.empty_token e) = refl

pub is_text_read : (token : flat.Token) → joining.is_text (closing.as_read token) ≡ is_text token
is_text_read (flat.text_token text) = refl
is_text_read (flat.start_token e) = refl
is_text_read (flat.end_token name) = refl
is_text_read (flat.empty_token e) = refl
