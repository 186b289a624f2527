-- What was written is read as the same URI.
use Rattle.std.proofs.Common.{◌≡◌, ℕ, Bool, true, false, List, [], ◌∷◌, ◌++◌, length, drop, Option, Some, None, option_map, refl, sym, ap, subst, ◌∙◌, ⊎_elim, append_assoc}
use Rattle.std.specs.Prelude.{◌==◌, ◌&&◌, ◌||◌, not, codes, is_some, if◌then◌else◌}
use Rattle.std.specs.List.{list_all, prefix_len}
use Rattle.std.specs.Option.{option_map_or}
use Rattle.std.proofs.lemmas.Bool.{cases_Bool, cond-true, cond-false, and_parts, and_from, eqb-true}
use Rattle.percent_encoding.specs.Percent.{percent_encode_byte}
use Rattle.pur_laws.proofs.Tests.{not_empty}
use Rattle.pur_names.specs.Schemes.{scheme_name, scheme_named}
use Rattle.pur_names.specs.declared.schemes.SchemeName.{SchemeName}
use Rattle.pur_names.specs.declared.schemes.SchemeName.TheVariants.{Http, Https, Ftp, Nntp, Mailto, News, Tel}
use Rattle.pur_text.specs.Hosts.{is_host}
use Rattle.pur_uri.specs.Splitting.{Parts, are_bytes, tidied, is_in_query, is_in_path, is_in_authority, has_scheme, scheme_part, behind_scheme, has_authority, authority_part, behind_authority, parts_of}
use Rattle.pur_uri.specs.Authorities.{host_of, behind_host, is_authority, is_port, port_of}
use Rattle.pur_uri.specs.Escapes.{is_unreserved, stays_in_path, stays_in_query, written, normalised}
use Rattle.pur_uri.specs.Private.Fronts.{escape_in_front}
use Rattle.pur_uri.specs.Uris.{PlainUri, scheme_of, scheme_in, is_scheme, needs_authority, fits, has_reading, port_in, reading_of, uri_of_parts, uri_of, scheme_text, host_text, port_text, query_text, fragment_text, uri_text}
use Rattle.pur_uri.proofs.AsciiLemmas.{HostsArePlain, HostsAreLowered}
use Rattle.pur_uri.proofs.ByteLemmas.{bytes_take, bytes_drop, tidied_bytes}
use Rattle.pur_uri.proofs.CuttingLemmas.{unlike, front_cut, behind_cut, fragment_cut, query_cut, query_rest, query_stops, tidied_same}
use Rattle.pur_uri.proofs.EscapeLemmas.{is_escape_byte, normalised_all, normalised_byte, normalised_escape, normalised_kept}
use Rattle.pur_uri.proofs.HostLemmas.{IsKeptPort, port_kept, authority_inside, host_again, authority_again, own_port_again}
use Rattle.pur_uri.proofs.PartLemmas.{IsPlaced, first_fails, parts_placed, seam_authority, seam_scheme}
use Rattle.pur_uri.proofs.PieceLemmas.{EachPart, each_part}
use Rattle.pur_uri.proofs.ReadingLemmas.{parts_cut}
use Rattle.pur_uri.proofs.SettlingLemmas.{option_cases, colon_kept, two_slashes_kept, scheme_kept}
use Rattle.pur_uri.proofs.TextLemmas.{text_bytes, read_from, unreserved_in_path}
use Rattle.pur_uri.proofs.TwiceLemmas.{path_twice, query_twice}

-- ---- a text that is put together of parts is cut into them

stop_append : (q : ℕ → Bool) (path tail : List ℕ) → prefix_len q path ≡ 0 → prefix_len q tail ≡ 0 → prefix_len q (path ++ tail) ≡ 0
stop_append q [] tail first behind = behind
stop_append q (b ∷ path) tail first behind = cond-false _ _ _ (first_fails q b path first)

tail_stops : (query fragment : Option (List ℕ)) → prefix_len is_in_authority (query_text query ++ fragment_text fragment) ≡ 0
tail_stops None None = refl
tail_stops None (Some f) = refl
tail_stops (Some q) f = refl

-- the authority, with `//` in front, and what is behind it
cut_authority : (authority : Option (List ℕ)) (rest : List ℕ) → ((a : List ℕ) → authority ≡ Some a → list_all is_in_authority a ≡ true)
    → ((a : List ℕ) → authority ≡ Some a → prefix_len is_in_authority rest ≡ 0) → (authority ≡ None → has_authority rest ≡ false)
    → (authority_part (host_text authority ++ rest) ≡ authority) × (behind_authority (host_text authority ++ rest) ≡ rest)
unfolding authority_part behind_authority has_authority
cut_authority None rest inside stop local = (cond-false _ _ _ (local refl), cond-false _ _ _ (local refl))
cut_authority (Some a) rest inside stop local =
    (ap Some (front_cut is_in_authority a rest (inside a refl) (stop a refl)), behind_cut is_in_authority a rest (inside a refl) (stop a refl))

-- the scheme, with `:` behind it, and what is behind that
cut_scheme : (scheme : Option SchemeName) (rest : List ℕ) → (scheme ≡ None → has_scheme rest ≡ false)
    → (scheme_part (scheme_text scheme ++ rest) ≡ option_map scheme_name scheme) × (behind_scheme (scheme_text scheme ++ rest) ≡ rest)
unfolding scheme_part behind_scheme has_scheme
cut_scheme None rest bare = (cond-false _ _ _ (bare refl), cond-false _ _ _ (bare refl))
cut_scheme (Some Http) rest bare = (refl, refl)
cut_scheme (Some Https) rest bare = (refl, refl)
cut_scheme (Some Ftp) rest bare = (refl, refl)
cut_scheme (Some Nntp) rest bare = (refl, refl)
cut_scheme (Some Mailto) rest bare = (refl, refl)
cut_scheme (Some News) rest bare = (refl, refl)
cut_scheme (Some Tel) rest bare = (refl, refl)

-- no scheme stands in front of an authority, nor in a path that has none
no_scheme_ahead : (authority : Option (List ℕ)) (path tail : List ℕ) → prefix_len is_in_path tail ≡ 0 → (authority ≡ None → has_scheme path ≡ false)
    → has_scheme (host_text authority ++ (path ++ tail)) ≡ false
unfolding has_scheme
no_scheme_ahead None path tail stop relative = seam_scheme path tail stop ∙ relative refl
no_scheme_ahead (Some a) path tail stop relative = refl

-- the parts, each that is there with its mark
abbrev pub text_of_parts : Option SchemeName → Option (List ℕ) → List ℕ → Option (List ℕ) → Option (List ℕ) → List ℕ
text_of_parts scheme authority path query fragment =
    scheme_text scheme ++ (host_text authority ++ (path ++ (query_text query ++ fragment_text fragment)))

cut_again : (scheme : Option SchemeName) (authority : Option (List ℕ)) (path : List ℕ) (query fragment : Option (List ℕ))
    → IsPlaced (option_map scheme_name scheme) authority path
    → ((a : List ℕ) → authority ≡ Some a → list_all is_in_authority a ≡ true) → ((q : List ℕ) → query ≡ Some q → list_all is_in_query q ≡ true)
    → parts_of (text_of_parts scheme authority path query fragment)
    ≡ (let parts : Parts = record { scheme = option_map scheme_name scheme; authority = authority; path = path; query = query; fragment = fragment } in parts)
cut_again scheme authority path query fragment placed inside asked =
    let tail = query_text query ++ fragment_text fragment in
    let rest = path ++ tail in
    let stop = query_stops query fragment in
    let located = host_text authority ++ rest in
    let at_scheme = cut_scheme scheme located
    (λ none. no_scheme_ahead authority path tail stop (λ bare. placed.relative (ap (option_map scheme_name) none) bare)) in
    let at_authority = cut_authority authority rest inside
    (λ a e. stop_append is_in_authority path tail (placed.located a e) (tail_stops query fragment))
    (λ bare. seam_authority path tail stop ∙ placed.local bare) in
    sym (parts_cut (scheme_text scheme ++ located) located rest tail (fragment_text fragment) path (option_map scheme_name scheme) authority query fragment
    (sym at_scheme.0) (sym at_scheme.1) (sym at_authority.0) (sym at_authority.1)
    (sym (front_cut is_in_path path tail placed.inside stop)) (sym (behind_cut is_in_path path tail placed.inside stop))
    (sym (query_cut query fragment asked)) (sym (query_rest query fragment asked)) (sym (fragment_cut fragment)))

-- ---- the parts that were written

abbrev pub authority_written : Option SchemeName → List ℕ → List ℕ
authority_written scheme authority = host_of authority ++ port_text (port_of scheme (behind_host authority))

abbrev pub parts_written : Parts → Parts
parts_written p = record {
  scheme = option_map scheme_name (scheme_in p.scheme);
  authority = option_map (authority_written (scheme_in p.scheme)) p.authority;
  path = normalised stays_in_path p.path;
  query = option_map (normalised stays_in_query) p.query;
  fragment = option_map (normalised stays_in_query) p.fragment;
}

pub mapped_some : {X Y : Type 0} (f : X → Y) (o : Option X) (y : Y) → option_map f o ≡ Some y → (x : X) × ((o ≡ Some x) × (f x ≡ y))
mapped_some f None y e = absurd (cc)
mapped_some f (Some x) y e = (x, (refl, cc))

pub mapped_none : {X Y : Type 0} (f : X → Y) (o : Option X) → option_map f o ≡ None → o ≡ None
mapped_none f None e = refl
mapped_none f (Some x) e = absurd (cc)

-- a scheme that is known is there exactly where its part is
no_part : (part : Option (List ℕ)) → is_scheme part ≡ true → scheme_in part ≡ None → part ≡ None
no_part None known none = refl
no_part (Some name) known none =
    let unknown : is_some (scheme_of name) ≡ false = ap is_some none in
    absurd (cc)

-- ---- the path in its place

first_slash : (x y : Bool) → y ≡ true → (not x && y) ≡ false → x ≡ true
first_slash true y path fails = refl
first_slash false y path fails = absurd (cc)

path_marks : (stays_in_path 0x3F ≡ false) × ((stays_in_path 0x23 ≡ false) × ((stays_in_path 0x2F ≡ true) × (stays_in_path 37 ≡ false)))
unfolding stays_in_path
path_marks = (refl, (refl, (refl, refl)))

query_marks : stays_in_query 0x23 ≡ false
unfolding stays_in_query stays_in_path
query_marks = refl

path_in_path : (b : ℕ) → stays_in_path b ≡ true → is_in_path b ≡ true
path_in_path b is = and_from _ _ (unlike stays_in_path 0x3F b path_marks.0 is) (unlike stays_in_path 0x23 b path_marks.1.0 is)

pub path_inside : (path : List ℕ) → list_all is_in_path (normalised stays_in_path path) ≡ true
path_inside path = normalised_all stays_in_path is_in_path path_in_path (λ b is. path_in_path b (unreserved_in_path b is))
    (λ b is. and_from _ _ (unlike is_escape_byte 0x3F b refl is) (unlike is_escape_byte 0x23 b refl is)) path

path_located : (path : List ℕ) → list_all is_in_path path ≡ true → prefix_len is_in_authority path ≡ 0
    → prefix_len is_in_authority (normalised stays_in_path path) ≡ 0
unfolding normalised
path_located [] all first = refl
path_located (b ∷ path) all first =
    let fails = first_fails is_in_authority b path first in
    let slash : (b == 0x2F) ≡ true = first_slash (b == 0x2F) (is_in_path b) (and_parts _ _ all).0 fails in
    let stays : stays_in_path b ≡ true = subst (λ n. stays_in_path n ≡ true) (sym (eqb-true _ _ slash)) path_marks.1.1.0 in
    ap (prefix_len is_in_authority) (normalised_kept stays_in_path path_marks.1.1.1 b path stays) ∙ cond-false _ _ _ fails

pub placed_again : (p : Parts) → is_scheme p.scheme ≡ true → IsPlaced p.scheme p.authority p.path
    → (let w = parts_written p in IsPlaced w.scheme w.authority w.path)
placed_again p known placed =
    let scheme = scheme_in p.scheme in
    let bare = mapped_none (authority_written scheme) p.authority in
    record {
      inside = path_inside p.path;
      located = λ a e. (let there = mapped_some (authority_written scheme) p.authority a e in path_located p.path placed.inside (placed.located there.0 there.1.0));
      local = λ e. two_slashes_kept p.path ∙ placed.local (bare e);
      relative = λ none e.
          scheme_kept p.path placed.inside ∙ placed.relative (no_part p.scheme known (mapped_none scheme_name scheme none)) (bare e);
    }

-- ---- the text is that of the parts

authority_joined : (scheme : Option SchemeName) (authority : Option (List ℕ)) (rest : List ℕ)
    → host_text (option_map host_of authority) ++ (port_text (port_in scheme authority) ++ rest)
    ≡ host_text (option_map (authority_written scheme) authority) ++ rest
authority_joined scheme None rest = refl
authority_joined scheme (Some a) rest =
    ap (λ t. codes "//" ++ t) (sym (append_assoc (host_of a) (port_text (port_of scheme (behind_host a))) rest))

pub text_written : (p : Parts) → uri_text (reading_of p)
    ≡ (let w = parts_written p in text_of_parts (scheme_in p.scheme) w.authority w.path w.query w.fragment)
unfolding uri_text reading_of
text_written p =
    let w = parts_written p in
    ap (λ t. scheme_text (scheme_in p.scheme) ++ t) (authority_joined (scheme_in p.scheme) p.authority (w.path ++ (query_text w.query ++ fragment_text w.fragment)))

-- ---- what is read of them

pub authority_read : (authority : Option (List ℕ)) (a : List ℕ) → option_map_or is_authority authority true ≡ true → authority ≡ Some a
    → (is_host (host_of a) ≡ true) × (is_port (behind_host a) ≡ true)
unfolding is_authority
authority_read None a is e = absurd (cc)
authority_read (Some x) a is e =
    let same : x ≡ a = cc in
    and_parts _ _ (subst (λ t. is_authority t ≡ true) same is)

module _ (plain : HostsArePlain) (scheme : Option SchemeName) where
  authority_kept : (a : List ℕ) → IsKeptPort scheme (port_of scheme (behind_host a)) → is_host (host_of a) ≡ true
      → list_all is_in_authority (authority_written scheme a) ≡ true
  authority_kept a kept is = authority_inside plain (host_of a) is scheme (port_of scheme (behind_host a)) kept

  pub written_inside : (authority : Option (List ℕ)) → option_map_or is_authority authority true ≡ true
      → (a : List ℕ) → option_map (authority_written scheme) authority ≡ Some a → list_all is_in_authority a ≡ true
  written_inside authority is a e =
      let there = mapped_some (authority_written scheme) authority a e in
      let read = authority_read authority there.0 is there.1.0 in
      subst (λ t. list_all is_in_authority t ≡ true) there.1.1 (authority_kept there.0 (port_kept scheme (behind_host there.0) read.1) read.0)

authority_settles : HostsArePlain → HostsAreLowered → (scheme : Option SchemeName) (authority : Option (List ℕ)) → option_map_or is_authority authority true ≡ true
    → (option_map_or is_authority (option_map (authority_written scheme) authority) true ≡ true)
    × ((option_map host_of (option_map (authority_written scheme) authority) ≡ option_map host_of authority)
    × (port_in scheme (option_map (authority_written scheme) authority) ≡ port_in scheme authority))
authority_settles plain lowered scheme None is = (refl, (refl, refl))
authority_settles plain lowered scheme (Some a) is =
    let read = authority_read (Some a) a is refl in
    let port = port_of scheme (behind_host a) in
    let kept = port_kept scheme (behind_host a) read.1 in (
      authority_again plain lowered (host_of a) read.0 scheme port kept,
      (ap Some (host_again plain lowered (host_of a) read.0 scheme port kept), own_port_again plain lowered (host_of a) read.0 scheme port kept),
    )

pub scheme_settles : (scheme : Option SchemeName)
    → (is_scheme (option_map scheme_name scheme) ≡ true) × (scheme_in (option_map scheme_name scheme) ≡ scheme)
unfolding scheme_named
scheme_settles None = (refl, refl)
scheme_settles (Some Http) = (refl, refl)
scheme_settles (Some Https) = (refl, refl)
scheme_settles (Some Ftp) = (refl, refl)
scheme_settles (Some Nntp) = (refl, refl)
scheme_settles (Some Mailto) = (refl, refl)
scheme_settles (Some News) = (refl, refl)
scheme_settles (Some Tel) = (refl, refl)

-- a path is empty only where it was
written_some : (test : ℕ → Bool) (b : ℕ) (rest : List ℕ) → (length (written test b ++ rest) == 0) ≡ false
unfolding percent_encode_byte
written_some test b rest = ⊎_elim
    (λ (yes : test b ≡ true). ap (λ w. length (w ++ rest) == 0) (cond-true _ _ _ yes) ∙ not_empty b rest)
    (λ (fails : test b ≡ false). ap (λ w. length (w ++ rest) == 0) (cond-false _ _ _ fails) ∙ not_empty 37 (drop 1 (percent_encode_byte b) ++ rest))
    (cases_Bool (test b))

empty_kept : (path : List ℕ) → (length (normalised stays_in_path path) == 0) ≡ (length path == 0)
unfolding normalised
empty_kept [] = refl
empty_kept (b ∷ path) = ⊎_elim
    (λ (none : escape_in_front (b ∷ path) ≡ None).
    ap (λ t. length t == 0) (normalised_byte stays_in_path b path none) ∙ written_some stays_in_path b (normalised stays_in_path path) ∙ sym (not_empty b path))
    (λ some.
    ap (λ t. length t == 0) (normalised_escape stays_in_path (b ∷ path) some.0 some.1)
    ∙ written_some is_unreserved some.0 (normalised stays_in_path (drop 3 (b ∷ path))) ∙ sym (not_empty b path))
    (option_cases (escape_in_front (b ∷ path)))

pub is_some_map : {X Y : Type 0} (f : X → Y) (o : Option X) → is_some (option_map f o) ≡ is_some o
is_some_map f None = refl
is_some_map f (Some x) = refl

pub fits_again : (scheme : Option SchemeName) (there : Bool) (path : List ℕ) → fits scheme there (normalised stays_in_path path) ≡ fits scheme there path
unfolding fits
fits_again (Some scheme) there path =
    ap (λ t. if needs_authority scheme then there else (not there && not t)) (empty_kept path)
fits_again None there path = ap (λ t. there || not t) (colon_kept path)

pub query_settles : (query : Option (List ℕ)) → ((q : List ℕ) → query ≡ Some q → are_bytes q ≡ true)
    → option_map (normalised stays_in_query) (option_map (normalised stays_in_query) query) ≡ option_map (normalised stays_in_query) query
query_settles None all = refl
query_settles (Some q) all = ap Some (query_twice q (all q refl))

pub same_uri : (s s' : Option SchemeName) (h h' : Option (List ℕ)) (n n' : Option ℕ) (path path' : List ℕ) (q q' f f' : Option (List ℕ))
    → s ≡ s' → h ≡ h' → n ≡ n' → path ≡ path' → q ≡ q' → f ≡ f'
    → (let one : PlainUri = record { scheme = s; host = h; port = n; path = path; query = q; fragment = f } in one)
    ≡ (let other : PlainUri = record { scheme = s'; host = h'; port = n'; path = path'; query = q'; fragment = f' } in other)
same_uri s s' h h' n n' path path' q q' f f' e1 e2 e3 e4 e5 e6 = rw (e1, e2, e3, e4, e5, e6) refl

read_written : HostsArePlain → HostsAreLowered → (p : Parts) → EachPart (λ t. are_bytes t ≡ true) p → has_reading p ≡ true
    → (has_reading (parts_written p) ≡ true) × (reading_of (parts_written p) ≡ reading_of p)
unfolding has_reading reading_of
read_written plain lowered p bytes is =
    let tests = and_parts _ _ is in
    let fit = (and_parts _ _ tests.0).1 in
    let scheme = scheme_in p.scheme in
    let known = scheme_settles scheme in
    let authority = authority_settles plain lowered scheme p.authority tests.1 in
    let w = parts_written p in
    let fit_again : fits (scheme_in w.scheme) (is_some w.authority) w.path ≡ true =
    ap (λ s. fits s (is_some w.authority) w.path) known.1 ∙ ap (λ t. fits scheme t w.path) (is_some_map (authority_written scheme) p.authority)
    ∙ fits_again scheme (is_some p.authority) p.path ∙ fit in (
      and_from _ _ (and_from _ _ known.0 fit_again) authority.0,
      same_uri _ _ _ _ _ _ _ _ _ _ _ _ known.1 authority.1.0
          (ap (λ s. port_in s w.authority) known.1 ∙ authority.1.1)
          (path_twice p.path bytes.path) (query_settles p.query bytes.query) (query_settles p.fragment bytes.fragment),
    )

-- ---- the law

query_inside : (query : Option (List ℕ)) (q : List ℕ) → option_map (normalised stays_in_query) query ≡ Some q → list_all is_in_query q ≡ true
query_inside query q e =
    let there = mapped_some (normalised stays_in_query) query q e in
    subst (λ t. list_all is_in_query t ≡ true) there.1.1
    (normalised_all stays_in_query is_in_query (λ b is. unlike stays_in_query 0x23 b query_marks is)
    (λ b is. unlike is_unreserved 0x23 b refl is) (λ b is. unlike is_escape_byte 0x23 b refl is) there.0)

parts_again : HostsArePlain → (p : Parts) → IsPlaced p.scheme p.authority p.path → has_reading p ≡ true → parts_of (uri_text (reading_of p)) ≡ parts_written p
unfolding has_reading
parts_again plain p placed is =
    let tests = and_parts _ _ is in
    let known = (and_parts _ _ tests.0).0 in
    let w = parts_written p in
    ap parts_of (text_written p)
    ∙ cut_again (scheme_in p.scheme) w.authority w.path w.query w.fragment (placed_again p known placed)
    (written_inside plain (scheme_in p.scheme) p.authority tests.1) (query_inside p.query)

pub settled : HostsArePlain → HostsAreLowered → (p : Parts) → IsPlaced p.scheme p.authority p.path → EachPart (λ t. are_bytes t ≡ true) p → has_reading p ≡ true → uri_of (uri_text (reading_of p)) ≡ Some (reading_of p)
unfolding uri_of uri_of_parts
settled plain lowered p placed bytes is =
    let read = read_written plain lowered p bytes is in
    ap (λ t. uri_of_parts (parts_of t)) (tidied_same (uri_text (reading_of p)) (text_bytes plain p is))
    ∙ ap uri_of_parts (parts_again plain p placed is) ∙ cond-true _ _ _ read.0 ∙ ap Some read.1

pub read_again : HostsArePlain → HostsAreLowered → (raw : List ℕ) (uri : PlainUri) → are_bytes raw ≡ true → uri_of raw ≡ Some uri → uri_of (uri_text uri) ≡ Some uri
unfolding uri_of
read_again plain lowered raw uri is e =
    let text = tidied raw in
    let read = read_from (parts_of text) uri e in
    subst (λ u. uri_of (uri_text u) ≡ Some u) (sym read.1)
    (settled plain lowered (parts_of text) (parts_placed text) (each_part (λ t. are_bytes t ≡ true) bytes_take bytes_drop text (tidied_bytes raw is)) read.0)
