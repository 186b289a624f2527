-- What is read is ASCII.
use Rattle.std.proofs.Common.{◌≡◌, ◌⊎◌, ℕ, suc, ◌+◌, ◌-◌, Bool, true, false, List, [], ◌∷◌, ◌++◌, length, take, drop, slice_index, None, refl, sym, ap, subst, ◌∙◌, arith, inl, inr, ⊎_elim, take-append-drop}
use Rattle.std.specs.Prelude.{◌==◌, ◌||◌, IsUtf8}
use Rattle.std.specs.List.{list_all}
use Rattle.std.specs.Str.{str_to_ascii_lowercase}
use Rattle.std.proofs.lemmas.Bool.{cases_Bool, and_parts, and_from, eqb-true}
use Rattle.std.proofs.lemmas.Bool.Decides.{nat_tests}
use Rattle.std.proofs.lemmas.List.{drop_more, drop_all}
use Rattle.pur_laws.proofs.Cases.{lowered-ascii}
use Rattle.pur_laws.proofs.Lists.{all-append, all-weaker}
use Rattle.pur_laws.proofs.Texts.{is_ascii, utf8_ascii}
use Rattle.pur_names.specs.Schemes.{scheme_name, scheme_named}
use Rattle.pur_names.specs.declared.schemes.SchemeName.{SchemeName}
use Rattle.pur_names.proofs.SchemeNameLaws.{each_scheme, scheme_named-only}
use Rattle.pur_text.specs.Hosts.{is_host, is_name_byte, is_ip6_byte, is_bracketed}
use Rattle.pur_uri.specs.Escapes.{is_unreserved, stays_in_path, stays_in_query, normalised}
use Rattle.pur_uri.specs.Private.Fronts.{stays_in}
use Rattle.pur_uri.specs.declared.escapes.Component.{Component}
use Rattle.pur_uri.specs.declared.escapes.Component.TheVariants.{Path, Query}
use Rattle.pur_uri.proofs.EscapeLemmas.{is_escape_byte, normalised_all}

scheme_ascii : (s : SchemeName) → list_all is_ascii (scheme_name s) ≡ true
scheme_ascii s = each_scheme (λ t. list_all is_ascii (scheme_name t)) refl s

-- a text that is ASCII in lower case is UTF-8
lowered_utf8 : (text : List ℕ) → list_all is_ascii (str_to_ascii_lowercase text) ≡ true → IsUtf8 text
lowered_utf8 text all = utf8_ascii text (lowered-ascii text all)

-- what is no text is no scheme
pub scheme_of_bytes : (name : List ℕ) → (IsUtf8 name → ⊥) → scheme_named (str_to_ascii_lowercase name) ≡ None
scheme_of_bytes name bad = sym (scheme_named-only None (str_to_ascii_lowercase name) tt
    (λ s same. bad (lowered_utf8 name (subst (λ t. list_all is_ascii t ≡ true) same (scheme_ascii s)))))

-- ---- hosts

-- the laws of hosts that proofs here lean on: contracts of pur_text
abbrev pub HostsArePlain : Type 0
HostsArePlain = (text : List ℕ) → is_host text ≡ true → (list_all is_name_byte text || is_bracketed text) ≡ true

abbrev pub HostsAreLowered : Type 0
HostsAreLowered = (text : List ℕ) → is_host text ≡ true → str_to_ascii_lowercase text ≡ text

-- the bytes of a host
abbrev pub is_host_byte : ℕ → Bool
is_host_byte b = is_name_byte b || is_ip6_byte b || b == 0x5B || b == 0x5D

name_in_host : (b : ℕ) → is_name_byte b ≡ true → is_host_byte b ≡ true
name_in_host b is = rw is refl

address_in_host : (b : ℕ) → is_ip6_byte b ≡ true → is_host_byte b ≡ true
address_in_host b is = grind (arith, nat_tests)

-- brackets, and what stands between them
pub bracketed : (host : List ℕ) → is_bracketed host ≡ true → (inner : List ℕ) × ((host ≡ 0x5B ∷ (inner ++ 0x5D ∷ [])) × (list_all is_ip6_byte inner ≡ true))
bracketed [] is = absurd (cc)
bracketed (x ∷ []) is =
    let ends = and_parts _ _ (and_parts _ _ is).0 in
    let first : x ≡ 0x5B = eqb-true _ _ ends.0 in
    let last : x ≡ 0x5D = eqb-true _ _ ends.1 in
    absurd (omega arith)
bracketed (x ∷ y ∷ rest) is =
    let text = y ∷ rest in
    let n = length rest in
    let inside : length (x ∷ y ∷ rest) - 2 ≡ n = omega arith in
    let to_end : length (x ∷ y ∷ rest) - 1 ≡ suc n = omega arith in
    let parts = and_parts _ _ is in
    let ends = and_parts _ _ parts.0 in
    let first : x ≡ 0x5B = eqb-true _ _ ends.0 in
    let end : slice_index text n ≡ 0x5D = subst (λ m. slice_index (x ∷ y ∷ rest) m ≡ 0x5D) to_end (eqb-true _ _ ends.1) in
    let tail : drop n text ≡ 0x5D ∷ [] = drop_more text n 0 (omega arith) ∙ ap (λ b. b ∷ drop (n + 1) text) end
    ∙ ap (λ t. 0x5D ∷ t) (drop_all (n + 1) text (omega arith)) in (
      take n text,
      (
        ap (λ b. b ∷ text) first ∙ ap (λ t. 0x5B ∷ t) (sym (take-append-drop n text) ∙ ap (λ t. take n text ++ t) tail),
        subst (λ m. list_all is_ip6_byte (take m text) ≡ true) inside parts.1,
      ),
    )

-- a host is a name or stands in brackets
pub host_cases : HostsArePlain → (text : List ℕ) → is_host text ≡ true → (list_all is_name_byte text ≡ true) ⊎ (is_bracketed text ≡ true)
host_cases plain text is = ⊎_elim
    (λ (name : list_all is_name_byte text ≡ true). inl name)
    (λ (other : list_all is_name_byte text ≡ false). inr (ap (λ b. b || is_bracketed text) (sym other) ∙ plain text is))
    (cases_Bool (list_all is_name_byte text))

literal_bytes : (text : List ℕ) → is_bracketed text ≡ true → list_all is_host_byte text ≡ true
literal_bytes text is =
    let shape = bracketed text is in
    subst (λ t. list_all is_host_byte t ≡ true) (sym shape.1.0)
    (and_from _ _ refl (all-append is_host_byte shape.0 (0x5D ∷ []) (all-weaker is_ip6_byte is_host_byte address_in_host shape.0 shape.1.1) refl))

pub host_bytes : HostsArePlain → (text : List ℕ) → is_host text ≡ true → list_all is_host_byte text ≡ true
host_bytes plain text is = ⊎_elim
    (λ (name : list_all is_name_byte text ≡ true). all-weaker is_name_byte is_host_byte name_in_host text name)
    (λ (literal : is_bracketed text ≡ true). literal_bytes text literal)
    (host_cases plain text is)

host_byte_ascii : (b : ℕ) → is_host_byte b ≡ true → is_ascii b ≡ true
host_byte_ascii b is = grind (arith, nat_tests)

-- what is no text is no host
pub host_of_bytes : HostsArePlain → (host : List ℕ) → (IsUtf8 host → ⊥) → is_host (str_to_ascii_lowercase host) ≡ false
host_of_bytes plain host bad = ⊎_elim
    (λ (yes : is_host (str_to_ascii_lowercase host) ≡ true).
    let lowered = str_to_ascii_lowercase host in
    absurd (bad (lowered_utf8 host (all-weaker is_host_byte is_ascii host_byte_ascii lowered (host_bytes plain lowered yes)))))
    (λ (no : is_host (str_to_ascii_lowercase host) ≡ false). no)
    (cases_Bool (is_host (str_to_ascii_lowercase host)))

-- ---- normalised texts

unreserved_ascii : (b : ℕ) → is_unreserved b ≡ true → is_ascii b ≡ true
unreserved_ascii b is = grind (arith, nat_tests)

escape_ascii : (b : ℕ) → is_escape_byte b ≡ true → is_ascii b ≡ true
escape_ascii b is = grind (arith, nat_tests)

query_ascii : (b : ℕ) → stays_in_query b ≡ true → is_ascii b ≡ true
unfolding stays_in_query stays_in_path
query_ascii b is = grind (arith, nat_tests)

pub path_in_query : (b : ℕ) → stays_in_path b ≡ true → stays_in_query b ≡ true
unfolding stays_in_query
path_in_query b is = rw is refl

stays_ascii : (c : Component) (b : ℕ) → stays_in c b ≡ true → is_ascii b ≡ true
stays_ascii Path b is = query_ascii b (path_in_query b is)
stays_ascii Query b is = query_ascii b is

pub normalised_utf8 : (c : Component) (text : List ℕ) → IsUtf8 (normalised (stays_in c) text)
normalised_utf8 c text = utf8_ascii _ (normalised_all (stays_in c) is_ascii (stays_ascii c) unreserved_ascii escape_ascii text)

pub percent_never : (c : Component) → stays_in c 37 ≡ false
unfolding stays_in_query stays_in_path
percent_never Path = refl
percent_never Query = refl
