-- A URI is canonical exactly where each of its parts is, and goes with what is in front of it.
use Rattle.std.proofs.Common.{◌≡◌, ◌≤◌, ℕ, true, false, List, [], ◌∷◌, ◌++◌, Option, Some, None, option_map, refl, sym, ap, subst, ◌∙◌, arith}
use Rattle.std.specs.Prelude.{◌==◌, ◌||◌, is_some}
use Rattle.std.specs.List.{list_all, prefix_len}
use Rattle.std.specs.Option.{option_map_or}
use Rattle.std.proofs.lemmas.Bool.{and_parts, and_from, eqb-true}
use Rattle.std.proofs.lemmas.Bool.Decides.{nat_tests}
use Rattle.pur_laws.proofs.Lists.{all-weaker}
use Rattle.pur_laws.proofs.Tests.{not_empty}
use Rattle.pur_names.specs.Schemes.{scheme_name}
use Rattle.pur_names.specs.declared.schemes.SchemeName.{SchemeName}
use Rattle.pur_text.specs.Hosts.{is_host}
use Rattle.pur_uri.specs.Authorities.{host_of, behind_host, is_authority, is_default_port}
use Rattle.pur_uri.specs.Escapes.{stays_in_path, stays_in_query, normalised}
use Rattle.pur_uri.specs.Laws.{is_canonical_byte, is_rooted, HasCanonicalParts}
use Rattle.pur_uri.specs.Splitting.{Parts, is_byte, are_bytes, tidied, is_in_path, is_in_authority, parts_of}
use Rattle.pur_uri.specs.Uris.{PlainUri, IsCanonical, fits, has_reading, port_in, port_text, reading_of, scheme_in, uri_of, uri_text}
use Rattle.pur_uri.proofs.AgainLemmas.{authority_read, authority_written, fits_again, is_some_map, mapped_none, mapped_some, path_inside, placed_again, query_settles, same_uri, scheme_settles, settled}
use Rattle.pur_uri.proofs.AsciiLemmas.{HostsArePlain, HostsAreLowered}
use Rattle.pur_uri.proofs.ByteLemmas.{bytes_take, bytes_drop, tidied_bytes}
use Rattle.pur_uri.proofs.HostLemmas.{IsKeptPort, authority_again, host_again, own_port_again, port_kept}
use Rattle.pur_uri.proofs.PartLemmas.{IsPlaced, first_fails, parts_placed}
use Rattle.pur_uri.proofs.PieceLemmas.{EachPart, each_part}
use Rattle.pur_uri.proofs.TextLemmas.{path_bytes, query_bytes, read_from, text_bytes}
use Rattle.pur_uri.proofs.TwiceLemmas.{path_twice}

-- ---- bytes

canonical_is_byte : (b : ℕ) → is_canonical_byte b ≡ true → is_byte b ≡ true
unfolding is_canonical_byte stays_in_query stays_in_path
canonical_is_byte b is = grind (arith, nat_tests)

canonical_are_bytes : (text : List ℕ) → list_all is_canonical_byte text ≡ true → are_bytes text ≡ true
canonical_are_bytes text all = all-weaker is_canonical_byte is_byte canonical_is_byte text all

-- ---- a path behind an authority

rooted-from : (path : List ℕ) → list_all is_in_path path ≡ true → prefix_len is_in_authority path ≡ 0 → is_rooted path ≡ true
rooted-from [] all stop = refl
rooted-from (b ∷ path) all stop =
    let inside = (and_parts (is_in_path b) (list_all is_in_path path) all).0 in
    let fails = first_fails is_in_authority b path stop in
    grind (arith, nat_tests)

rooted-stops : (path : List ℕ) → is_rooted path ≡ true → prefix_len is_in_authority path ≡ 0
rooted-stops [] is = refl
rooted-stops (b ∷ path) is =
    let slash : (b == 0x2F) ≡ true = ap (λ t. t || b == 0x2F) (sym (not_empty b path)) ∙ is in
    subst (λ n. prefix_len is_in_authority (n ∷ path) ≡ 0) (sym (eqb-true b 0x2F slash)) refl

some-there : {X : Type 0} (o : Option X) → is_some o ≡ true → (x : X) × (o ≡ Some x)
some-there (Some x) is = (x, refl)
some-there None is = absurd (cc)

-- ---- the parts of what is read

host_canonical : (authority : Option (List ℕ)) → option_map_or is_authority authority true ≡ true → option_map_or is_host (option_map host_of authority) true ≡ true
host_canonical None is = refl
host_canonical (Some a) is = (authority_read (Some a) a is refl).0

port_canonical : (scheme : Option SchemeName) (authority : Option (List ℕ)) → option_map_or is_authority authority true ≡ true
    → (n : ℕ) → port_in scheme authority ≡ Some n → (is_some (option_map host_of authority) ≡ true) × ((n ≤ 65535) × (is_default_port scheme n ≡ false))
port_canonical scheme None is n e = absurd (cc)
port_canonical scheme (Some a) is n e = (refl, port_kept scheme (behind_host a) (authority_read (Some a) a is refl).1 n e)

module _ (plain : HostsArePlain) (lowered : HostsAreLowered) where
  read_canonical : (p : Parts) → IsPlaced p.scheme p.authority p.path → EachPart (λ t. are_bytes t ≡ true) p → has_reading p ≡ true → HasCanonicalParts (reading_of p)
  unfolding has_reading reading_of
  read_canonical p placed bytes is =
      let tests = and_parts _ _ is in
      let known = (and_parts _ _ tests.0).0 in
      let fit = (and_parts _ _ tests.0).1 in
      let scheme = scheme_in p.scheme in
      let again = placed_again p known placed in
      record {
        fit = ap (λ t. fits scheme t (normalised stays_in_path p.path)) (is_some_map host_of p.authority) ∙ fits_again scheme (is_some p.authority) p.path ∙ fit;
        host = host_canonical p.authority tests.1;
        port = port_canonical scheme p.authority tests.1;
        path = path_twice p.path bytes.path;
        query = query_settles p.query bytes.query;
        fragment = query_settles p.fragment bytes.fragment;
        located = λ there.
            let host = some-there (option_map host_of p.authority) there in
            let a = mapped_some host_of p.authority host.0 host.1 in
            rooted-from (normalised stays_in_path p.path) again.inside (again.located (authority_written scheme a.0) (ap (option_map (authority_written scheme)) a.1.0));
        local = λ none. again.local (ap (option_map (authority_written scheme)) (mapped_none host_of p.authority none));
        relative = λ bare none. again.relative (ap (option_map scheme_name) bare) (ap (option_map (authority_written scheme)) (mapped_none host_of p.authority none));
      }

  pub parts_canonical : (uri : PlainUri) → IsCanonical uri → HasCanonicalParts uri
  unfolding uri_of
  parts_canonical uri e =
      let text = tidied (uri_text uri) in
      let p = parts_of text in
      let read = read_from p uri e in
      let bytes : are_bytes (uri_text uri) ≡ true =
      subst (λ u. are_bytes (uri_text u) ≡ true) (sym read.1) (canonical_are_bytes (uri_text (reading_of p)) (text_bytes plain p read.0)) in
      subst HasCanonicalParts (sym read.1)
      (read_canonical p (parts_placed text) (each_part (λ t. are_bytes t ≡ true) bytes_take bytes_drop text (tidied_bytes (uri_text uri) bytes)) read.0)

  -- ---- what parts are read as

  -- the parts as they are written
  parts_from : PlainUri → Parts
  parts_from uri = record {
    scheme = option_map scheme_name uri.scheme;
    authority = option_map (λ h. h ++ port_text uri.port) uri.host;
    path = uri.path;
    query = uri.query;
    fragment = uri.fragment;
  }

  no_port : (host : Option (List ℕ)) (port : Option ℕ) → host ≡ None → ((n : ℕ) → port ≡ Some n → is_some host ≡ true) → None ≡ port
  no_port host None none there = refl
  no_port host (Some n) none there =
      let bad : is_some host ≡ false = ap is_some none in
      let good : is_some host ≡ true = there n refl in
      absurd (cc)

  authority_from : (scheme : Option SchemeName) (host : Option (List ℕ)) (port : Option ℕ) → option_map_or is_host host true ≡ true
      → ((n : ℕ) → port ≡ Some n → (is_some host ≡ true) × ((n ≤ 65535) × (is_default_port scheme n ≡ false)))
      → (let authority = option_map (λ h. h ++ port_text port) host in
      (option_map_or is_authority authority true ≡ true) × ((option_map host_of authority ≡ host) × (port_in scheme authority ≡ port)))
  authority_from scheme None port is kept = (refl, (refl, no_port None port refl (λ n e. (kept n e).0)))
  authority_from scheme (Some h) port is kept =
      let own : IsKeptPort scheme port = λ n e. (kept n e).1 in (
        authority_again plain lowered h is scheme port own,
        (ap Some (host_again plain lowered h is scheme port own), own_port_again plain lowered h is scheme port own),
      )

  path_bytes_from : (path : List ℕ) → normalised stays_in_path path ≡ path → are_bytes path ≡ true
  path_bytes_from path same = subst (λ t. are_bytes t ≡ true) same (canonical_are_bytes (normalised stays_in_path path) (path_bytes path))

  query_bytes_from : (query : Option (List ℕ)) → option_map (normalised stays_in_query) query ≡ query → (q : List ℕ) → query ≡ Some q → are_bytes q ≡ true
  query_bytes_from None same q e = absurd (cc)
  query_bytes_from (Some t) same q e =
      let is : t ≡ q = cc in
      let own : normalised stays_in_query t ≡ t = cc in
      subst (λ t. are_bytes t ≡ true) (own ∙ is) (canonical_are_bytes (normalised stays_in_query t) (query_bytes t))

  pub canonical_whole : (uri : PlainUri) → HasCanonicalParts uri → IsCanonical uri
  unfolding has_reading reading_of parts_from
  canonical_whole uri parts =
      let p = parts_from uri in
      let scheme = scheme_settles uri.scheme in
      let authority = authority_from uri.scheme uri.host uri.port parts.host parts.port in
      let placed : IsPlaced p.scheme p.authority p.path = record {
        inside = subst (λ t. list_all is_in_path t ≡ true) parts.path (path_inside uri.path);
        located = λ a e.
            let host = mapped_some (λ h. h ++ port_text uri.port) uri.host a e in
            rooted-stops uri.path (parts.located (ap is_some host.1.0));
        local = λ none. parts.local (mapped_none (λ h. h ++ port_text uri.port) uri.host none);
        relative = λ bare none. parts.relative (mapped_none scheme_name uri.scheme bare) (mapped_none (λ h. h ++ port_text uri.port) uri.host none);
      } in
      let bytes : EachPart (λ t. are_bytes t ≡ true) p = record {
        path = path_bytes_from uri.path parts.path;
        query = query_bytes_from uri.query parts.query;
        fragment = query_bytes_from uri.fragment parts.fragment;
      } in
      let fit : fits (scheme_in p.scheme) (is_some p.authority) p.path ≡ true =
      ap (λ s. fits s (is_some p.authority) uri.path) scheme.1 ∙ ap (λ t. fits uri.scheme t uri.path) (is_some_map (λ h. h ++ port_text uri.port) uri.host) ∙ parts.fit in
      let is : has_reading p ≡ true = and_from _ _ (and_from _ _ scheme.0 fit) authority.0 in
      let same : reading_of p ≡ uri =
      same_uri _ _ _ _ _ _ _ _ _ _ _ _ scheme.1 authority.1.0 (ap (λ s. port_in s p.authority) scheme.1 ∙ authority.1.1) parts.path parts.query parts.fragment in
      subst IsCanonical same (settled plain lowered p placed bytes is)
