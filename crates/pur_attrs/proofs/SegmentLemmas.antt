-- The last segment of a path.
use Rattle.std.proofs.Common.{◌≡◌, ℕ, nat_eq, Bool, true, not, List, [], ◌∷◌, ◌++◌, take, append-nil, refl, sym, ap, ◌∙◌, arith}
use Rattle.std.specs.Prelude.{reverse, ◌==◌, get_or}
use Rattle.std.specs.List.{list_all, prefix_len, take_while}
use Rattle.std.specs.Str.{NoCharPasses}
use Rattle.std.proofs.lemmas.Bool.Decides.{Decides-eqb}
use Rattle.std.proofs.lemmas.List.{append_assoc, reverse-append, reverse-reverse}
use Rattle.std.proofs.lemmas.Str.Pattern.{NoCharPasses-char}
use Rattle.std.proofs.Math.Seq.{take-append_seam}
use Rattle.std.proofs.lemmas.Bool.Decides.{nat_tests}
use Rattle.pur_laws.proofs.Ends.{front_len}
use Rattle.pur_laws.proofs.Lists.{all-parts, all-reverse, all-take, all-weaker}
use Rattle.pur_laws.proofs.Places.{none_at_all}
use Rattle.pur_laws.proofs.Texts.{is_ascii}
use Rattle.pur_uri.specs.Escapes.{stays_in_path, stays_in_query}
use Rattle.pur_uri.specs.Laws.{is_canonical_byte}
use Rattle.pur_uri.specs.Uris.{PlainUri, uri_text, scheme_text, host_text, port_text, query_text, fragment_text}
use Rattle.pur_attrs.specs.Steps.{last_segment}

abbrev pub isnt_slash : ℕ → Bool
isnt_slash c = not (c == 0x2F)

-- a text without the character has none at any place
pub no_slash : (text : List ℕ) → NoCharPasses (λ d. nat_eq d 0x2F) text → list_all isnt_slash text ≡ true
no_slash text none = none_at_all (λ c. c == 0x2F) text (λ k from within is. NoCharPasses-char 0x2F text k none (omega arith) within ((Decides-eqb (get_or text k 0) 0x2F).0 is))

front-taken : (xs ys : List ℕ) → list_all isnt_slash xs ≡ true → prefix_len isnt_slash ys ≡ 0 → take_while isnt_slash (xs ++ ys) ≡ xs
front-taken xs ys all none = ap (λ n. take n (xs ++ ys)) (front_len isnt_slash xs ys all none) ∙ take-append_seam xs ys

-- a path without a `/` is its own last segment
pub segment-whole : (path : List ℕ) → list_all isnt_slash path ≡ true → last_segment path ≡ path
segment-whole path all =
    ap (λ l. reverse (take_while isnt_slash l)) (sym (append-nil (reverse path)))
    ∙ ap reverse (front-taken (reverse path) [] (all-reverse isnt_slash path all) refl)
    ∙ reverse-reverse path

pub segment-behind : (before behind : List ℕ) → list_all isnt_slash behind ≡ true → last_segment (before ++ 0x2F ∷ behind) ≡ behind
segment-behind before behind all =
    let turned : reverse (before ++ 0x2F ∷ behind) ≡ reverse behind ++ (0x2F ∷ reverse before) =
    reverse-append before (0x2F ∷ behind) ∙ ap (λ l. l ++ reverse before) (reverse-append (0x2F ∷ []) behind) ∙ append_assoc (reverse behind) (0x2F ∷ []) (reverse before) in
    ap (λ l. reverse (take_while isnt_slash l)) turned
    ∙ ap reverse (front-taken (reverse behind) (0x2F ∷ reverse before) (all-reverse isnt_slash behind all) refl)
    ∙ reverse-reverse behind

-- ---- what it is made of

-- the path of a URI has characters of URIs alone
pub path-characters : (uri : PlainUri) → list_all is_canonical_byte (uri_text uri) ≡ true → list_all is_canonical_byte uri.path ≡ true
unfolding uri_text
path-characters uri all =
    let behind = query_text uri.query ++ fragment_text uri.fragment in
    let one = all-parts is_canonical_byte (scheme_text uri.scheme) (host_text uri.host ++ (port_text uri.port ++ (uri.path ++ behind))) all in
    let two = all-parts is_canonical_byte (host_text uri.host) (port_text uri.port ++ (uri.path ++ behind)) one.1 in
    let three = all-parts is_canonical_byte (port_text uri.port) (uri.path ++ behind) two.1 in
    (all-parts is_canonical_byte uri.path behind three.1).0

-- and so has its last segment
pub segment-characters : (path : List ℕ) → list_all is_canonical_byte path ≡ true → list_all is_canonical_byte (last_segment path) ≡ true
segment-characters path all =
    all-reverse is_canonical_byte (take_while isnt_slash (reverse path))
    (all-take is_canonical_byte (prefix_len isnt_slash (reverse path)) (reverse path) (all-reverse is_canonical_byte path all))

canonical-ascii : (b : ℕ) → is_canonical_byte b ≡ true → is_ascii b ≡ true
unfolding is_canonical_byte stays_in_query stays_in_path
canonical-ascii b is = grind (arith, nat_tests)

pub plain-characters : (text : List ℕ) → list_all is_canonical_byte text ≡ true → list_all is_ascii text ≡ true
plain-characters = all-weaker is_canonical_byte is_ascii canonical-ascii
