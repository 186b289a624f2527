-- What is resolved is canonical, and settled.
use Rattle.std.proofs.Common.{◌≡◌, ◌≤◌, ℕ, true, false, List, ◌∷◌, ◌++◌, Some, None, refl, sym, ap, subst, ◌∙◌, ⊎_elim}
use Rattle.std.specs.Prelude.{◌==◌, Option, is_some, option_map, length}
use Rattle.std.specs.Option.{option_map_or}
use Rattle.std.proofs.lemmas.Bool.{cases_Bool, cond-true, cond-false}
use Rattle.pur_names.specs.declared.schemes.SchemeName.{SchemeName}
use Rattle.pur_names.specs.declared.schemes.SchemeName.TheVariants.{Http, Https, Ftp, Mailto, Nntp, News, Tel}
use Rattle.pur_text.specs.Hosts.{is_host}
use Rattle.pur_laws.proofs.Truth.{either}
use Rattle.pur_uri.specs.Authorities.{is_default_port}
use Rattle.pur_uri.specs.Escapes.{normalised, stays_in_query}
use Rattle.std.specs.Borrow.{Bor}
use Rattle.pur_uri.specs.Images.{part_of}
use Rattle.pur_uri.specs.Laws.{HasCanonicalParts, IsNormalPath, is_rooted}
use Rattle.pur_uri.specs.Splitting.{begins_with}
use Rattle.pur_uri.specs.Uris.{PlainUri, IsCanonical, fits}
use Rattle.pur_resolve.specs.Bases.{IsBase, as_base, is_base_scheme}
use Rattle.pur_resolve.specs.Dots.{path_of, without_dots, segments}
use Rattle.pur_resolve.specs.Resolving.{settled_path, with_settled_path, port_under, under_scheme, without_last, merged, rooted_under, path_under, query_under, under_host, resolved}
use Rattle.pur_resolve.proofs.PieceLemmas.{dots_settle, dots_normal, dots_rooted, normal_path, normal_segments, each_front}

-- ---- settled

path_settles : (host : Option (List ℕ)) (path : List ℕ) → settled_path host (settled_path host path) ≡ settled_path host path
path_settles None path = refl
path_settles (Some h) path = dots_settle path

behind_host : (host : Option (List ℕ)) (path : List ℕ) → is_some host ≡ true → settled_path host path ≡ without_dots path
behind_host None path e = absurd cc
behind_host (Some h) path e = refl

under_settles : (base path : List ℕ) → without_dots base ≡ base → without_dots (path_under base path) ≡ path_under base path
under_settles base path e = either (λ t. without_dots t ≡ t) (length path == 0) base (without_dots (rooted_under base path)) e (dots_settle (rooted_under base path))

scheme_there : (scheme : Option SchemeName) → is_base_scheme scheme ≡ true → is_some scheme ≡ true
scheme_there (Some s) e = refl
scheme_there None e = absurd cc

-- ---- the three cases

pub keeps_own : (base uri : PlainUri) → is_some uri.scheme ≡ true → resolved base uri ≡ with_settled_path uri
unfolding resolved
keeps_own base uri there = cond-true _ _ _ there

pub takes_scheme : (base uri : PlainUri) → is_some uri.scheme ≡ false → is_some uri.host ≡ true → resolved base uri ≡ under_scheme base uri
unfolding resolved
takes_scheme base uri bare there = cond-false _ _ _ bare ∙ cond-true _ _ _ there

pub takes_host : (base uri : PlainUri) → is_some uri.scheme ≡ false → is_some uri.host ≡ false → resolved base uri ≡ under_host base uri
unfolding resolved
takes_host base uri bare none = cond-false _ _ _ bare ∙ cond-false _ _ _ none

pub part_there : (part : Option (Bor (List ℕ))) → is_some (part_of part) ≡ is_some part
part_there None = refl
part_there (Some p) = refl

-- an absolute URI whose path is settled
left_alone : (base uri : PlainUri) → is_some uri.scheme ≡ true → settled_path uri.host uri.path ≡ uri.path → resolved base uri ≡ uri
unfolding resolved
left_alone base uri there settled =
    cond-true _ _ _ there
    ∙ ap (λ p. record { scheme = uri.scheme; host = uri.host; port = uri.port; path = p; query = uri.query; fragment = uri.fragment }) settled

record IsSettled (uri : PlainUri) : Type 0 where
  scheme : is_some uri.scheme ≡ true
  path : settled_path uri.host uri.path ≡ uri.path

resolved_settled : (base uri : PlainUri) → IsBase base → IsSettled (resolved base uri)
unfolding resolved
resolved_settled base uri is = ⊎_elim
    (λ (there : is_some uri.scheme ≡ true).
    subst IsSettled (sym (cond-true _ _ _ there)) (record { scheme = there; path = path_settles uri.host uri.path }))
    (λ (bare : is_some uri.scheme ≡ false).
    subst IsSettled (sym (cond-false _ _ _ bare))
    (either IsSettled (is_some uri.host) (under_scheme base uri) (under_host base uri)
    (record { scheme = scheme_there base.scheme is.scheme; path = path_settles uri.host uri.path })
    (record {
      scheme = scheme_there base.scheme is.scheme;
      path = behind_host base.host (path_under base.path uri.path) is.host ∙ under_settles base.path uri.path is.path;
    })))
    (cases_Bool (is_some uri.scheme))

pub has_scheme : (base uri : PlainUri) → IsBase base → is_some (resolved base uri).scheme ≡ true
has_scheme base uri is = (resolved_settled base uri is).scheme

pub settles : (base uri : PlainUri) → IsBase base → resolved base (resolved base uri) ≡ resolved base uri
settles base uri is = let made = resolved_settled base uri is in left_alone base (resolved base uri) made.scheme made.path

-- ---- canonical

-- behind a host any path fits that fits at all
fits_any : (scheme : Option SchemeName) (one other : List ℕ) → fits scheme true one ≡ true → fits scheme true other ≡ true
unfolding fits
fits_any None one other e = refl
fits_any (Some s) one other e = e

base_fits : (scheme : Option SchemeName) (path : List ℕ) → is_base_scheme scheme ≡ true → fits scheme true path ≡ true
unfolding fits
base_fits None path e = absurd cc
base_fits (Some Http) path e = refl
base_fits (Some Https) path e = refl
base_fits (Some Ftp) path e = refl
base_fits (Some Mailto) path e = absurd cc
base_fits (Some Nntp) path e = absurd cc
base_fits (Some News) path e = absurd cc
base_fits (Some Tel) path e = absurd cc

-- the port of a host goes with a scheme
abbrev PortGoes : Option SchemeName → Option ℕ → Type 0
PortGoes scheme port = (n : ℕ) → port ≡ Some n → (n ≤ 65535) × (is_default_port scheme n ≡ false)

port_kept : (scheme : Option SchemeName) (port : Option ℕ) → ((n : ℕ) → port ≡ Some n → n ≤ 65535) → PortGoes scheme (port_under scheme port)
port_kept scheme None most = λ n e. absurd cc
port_kept scheme (Some p) most = ⊎_elim
    (λ (own : is_default_port scheme p ≡ true).
    subst (PortGoes scheme) (sym (cond-true _ _ _ own)) (λ (n : ℕ) (e : None ≡ Some n). absurd cc))
    (λ (other : is_default_port scheme p ≡ false).
    subst (PortGoes scheme) (sym (cond-false _ _ _ other))
    (λ (n : ℕ) (e : Some p ≡ Some n).
    let same : p ≡ n = cc in (subst (λ m. m ≤ 65535) same (most p refl), subst (λ m. is_default_port scheme m ≡ false) same other)))
    (cases_Bool (is_default_port scheme p))

-- the parts behind a host
record HasLocatedParts (uri : PlainUri) : Type 0 where
  there : is_some uri.host ≡ true
  fit : fits uri.scheme true uri.path ≡ true
  host : option_map_or is_host uri.host true ≡ true
  port : PortGoes uri.scheme uri.port
  path : IsNormalPath uri.path
  query : option_map (normalised stays_in_query) uri.query ≡ uri.query
  fragment : option_map (normalised stays_in_query) uri.fragment ≡ uri.fragment
  rooted : is_rooted uri.path ≡ true

located_canonical : (uri : PlainUri) → HasLocatedParts uri → HasCanonicalParts uri
located_canonical uri l = record {
  fit = subst (λ t. fits uri.scheme t uri.path ≡ true) (sym l.there) l.fit;
  host = l.host;
  port = λ n e. (l.there, l.port n e);
  path = l.path;
  query = l.query;
  fragment = l.fragment;
  located = λ e. l.rooted;
  local = λ e. let there = l.there in absurd cc;
  relative = λ s e. let there = l.there in absurd cc;
}

canonical_located : (uri : PlainUri) → is_some uri.host ≡ true → HasCanonicalParts uri → HasLocatedParts uri
canonical_located uri there h = record {
  there = there;
  fit = subst (λ t. fits uri.scheme t uri.path ≡ true) there h.fit;
  host = h.host;
  port = λ n e. (h.port n e).1;
  path = h.path;
  query = h.query;
  fragment = h.fragment;
  rooted = h.located there;
}

query_goes : (base : Option (List ℕ)) (path : List ℕ) (query : Option (List ℕ))
    → option_map (normalised stays_in_query) base ≡ base → option_map (normalised stays_in_query) query ≡ query
    → option_map (normalised stays_in_query) (query_under base path query) ≡ query_under base path query
query_goes base path (Some q) b own = own
query_goes base path None b own = either (λ t. option_map (normalised stays_in_query) t ≡ t) (length path == 0) base None b refl

base_host : (scheme : Option SchemeName) (host : Option (List ℕ)) (path : List ℕ) → is_base_scheme scheme ≡ true → fits scheme (is_some host) path ≡ true
    → is_some host ≡ true
unfolding fits
base_host (Some Http) host path e fit = fit
base_host (Some Https) host path e fit = fit
base_host (Some Ftp) host path e fit = fit
base_host (Some Mailto) host path e fit = absurd cc
base_host (Some Nntp) host path e fit = absurd cc
base_host (Some News) host path e fit = absurd cc
base_host (Some Tel) host path e fit = absurd cc
base_host None host path e fit = absurd cc

module _
    (parts : (uri : PlainUri) → IsCanonical uri → HasCanonicalParts uri)
    (whole : (uri : PlainUri) → HasCanonicalParts uri → IsCanonical uri)
    (split : (front behind : List ℕ) → IsNormalPath (front ++ (0x2F ∷ behind)) → IsNormalPath front × IsNormalPath behind)
    (join : (front behind : List ℕ) → IsNormalPath front → IsNormalPath behind → IsNormalPath (front ++ (0x2F ∷ behind)))
  where
    merged_normal : (base path : List ℕ) → IsNormalPath base → IsNormalPath path → IsNormalPath (merged base path)
    merged_normal base path b own =
        join (path_of (without_last (segments base))) path
        (normal_path split join (without_last (segments base)) (each_front IsNormalPath _ (segments base) (normal_segments split join base b))) own

    under_normal : (base path : List ℕ) → IsNormalPath base → IsNormalPath path → IsNormalPath (path_under base path)
    under_normal base path b own =
        either IsNormalPath (length path == 0) base (without_dots (rooted_under base path)) b
        (dots_normal split join (rooted_under base path) (either IsNormalPath (begins_with 0x2F path) path (merged base path) own (merged_normal base path b own)))

    under_rooted : (base path : List ℕ) → is_rooted base ≡ true → is_rooted (path_under base path) ≡ true
    under_rooted base path b =
        either (λ t. is_rooted t ≡ true) (length path == 0) base (without_dots (rooted_under base path)) b (dots_rooted (rooted_under base path))

    with_path : (uri : PlainUri) → HasLocatedParts uri → HasLocatedParts (record { scheme = uri.scheme; host = uri.host; port = uri.port; path = without_dots uri.path; query = uri.query; fragment = uri.fragment })
    with_path uri l = record {
      there = l.there;
      fit = fits_any uri.scheme uri.path (without_dots uri.path) l.fit;
      host = l.host;
      port = l.port;
      path = dots_normal split join uri.path l.path;
      query = l.query;
      fragment = l.fragment;
      rooted = dots_rooted uri.path;
    }

    settled_canonical : (uri : PlainUri) → IsCanonical uri → IsCanonical (with_settled_path uri)
    settled_canonical uri c = go uri.host refl where
      go : (host : Option (List ℕ)) → uri.host ≡ host → IsCanonical (with_settled_path uri)
      go None e = subst IsCanonical (sym (ap (λ h. record { scheme = uri.scheme; host = uri.host; port = uri.port; path = settled_path h uri.path; query = uri.query; fragment = uri.fragment }) e)) c
      go (Some h) e =
          subst IsCanonical (sym (ap (λ h. record { scheme = uri.scheme; host = uri.host; port = uri.port; path = settled_path h uri.path; query = uri.query; fragment = uri.fragment }) e))
          (whole _ (located_canonical _ (with_path uri (canonical_located uri (ap is_some e) (parts uri c)))))

    scheme_canonical : (base uri : PlainUri) → IsBase base → is_some uri.host ≡ true → IsCanonical uri → IsCanonical (under_scheme base uri)
    scheme_canonical base uri is there c =
        let own = canonical_located uri there (parts uri c) in
        let path = behind_host uri.host uri.path there in
        whole (under_scheme base uri) (located_canonical (under_scheme base uri) (record {
          there = there;
          fit = base_fits base.scheme (settled_path uri.host uri.path) is.scheme;
          host = own.host;
          port = port_kept base.scheme uri.port (λ n e. (own.port n e).0);
          path = subst IsNormalPath (sym path) (dots_normal split join uri.path own.path);
          query = own.query;
          fragment = own.fragment;
          rooted = subst (λ t. is_rooted t ≡ true) (sym path) (dots_rooted uri.path);
        }))

    host_canonical : (base uri : PlainUri) → IsBase base → IsCanonical base → IsCanonical uri → IsCanonical (under_host base uri)
    host_canonical base uri is b c =
        let under = canonical_located base is.host (parts base b) in
        let own = parts uri c in
        whole (under_host base uri) (located_canonical (under_host base uri) (record {
          there = is.host;
          fit = base_fits base.scheme (path_under base.path uri.path) is.scheme;
          host = under.host;
          port = under.port;
          path = under_normal base.path uri.path under.path own.path;
          query = query_goes base.query uri.path uri.query under.query own.query;
          fragment = own.fragment;
          rooted = under_rooted base.path uri.path under.rooted;
        }))

    pub resolved_canonical : (base uri : PlainUri) → IsBase base → IsCanonical base → IsCanonical uri → IsCanonical (resolved base uri)
    unfolding resolved
    resolved_canonical base uri is b c =
        either IsCanonical (is_some uri.scheme) (with_settled_path uri) _ (settled_canonical uri c)
        (⊎_elim
        (λ (there : is_some uri.host ≡ true). subst IsCanonical (sym (cond-true _ _ _ there)) (scheme_canonical base uri is there c))
        (λ (bare : is_some uri.host ≡ false). subst IsCanonical (sym (cond-false _ _ _ bare)) (host_canonical base uri is b c))
        (cases_Bool (is_some uri.host)))

    -- ---- bases

    pub based : (uri : PlainUri) → IsCanonical uri → is_base_scheme uri.scheme ≡ true → IsBase (as_base uri)
    based uri c is = record {
      scheme = is;
      host = base_host uri.scheme uri.host uri.path is (parts uri c).fit;
      path = dots_settle uri.path;
      fragment = refl;
    }

    pub based_canonical : (uri : PlainUri) → IsCanonical uri → is_base_scheme uri.scheme ≡ true → IsCanonical (as_base uri)
    based_canonical uri c is =
        let own = parts uri c in
        let l = with_path uri (canonical_located uri (base_host uri.scheme uri.host uri.path is own.fit) own) in
        whole (as_base uri) (located_canonical (as_base uri) (record {
          there = l.there;
          fit = l.fit;
          host = l.host;
          port = l.port;
          path = l.path;
          query = l.query;
          fragment = refl;
          rooted = l.rooted;
        }))
