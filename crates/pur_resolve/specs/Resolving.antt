-- References resolved against a base (RFC 3986, section 5.2.2), by their parts. A reference here is read already, so that
-- its scheme, if it has one, is never taken for none.
use Rattle.std.specs.Prelude.{ℕ, ◌-◌, ◌==◌, if◌then◌else◌, List, ◌∷◌, ◌++◌, length, take, Option, Some, None, is_some}
use Rattle.pur_names.specs.declared.schemes.SchemeName.{SchemeName}
use Rattle.pur_uri.specs.Authorities.{is_default_port}
use Rattle.pur_uri.specs.Splitting.{begins_with}
use Rattle.pur_uri.specs.Uris.{PlainUri}
use Rattle.pur_resolve.specs.Dots.{segments, path_of, without_dots}

-- a path behind a host loses its dot segments; a path without a host, as in `mailto:`, has no segments
abbrev pub settled_path : Option (List ℕ) → List ℕ → List ℕ
settled_path None path = path
settled_path (Some host) path = without_dots path

-- a reference with a scheme is absolute
abbrev pub with_settled_path : PlainUri → PlainUri
with_settled_path uri =
    record { scheme = uri.scheme; host = uri.host; port = uri.port; path = settled_path uri.host uri.path; query = uri.query; fragment = uri.fragment }

-- a port, unless it is the scheme's own (section 6.2.3)
abbrev pub port_under : Option SchemeName → Option ℕ → Option ℕ
port_under scheme None = None
port_under scheme (Some port) = if is_default_port scheme port then None else Some port

-- a reference with a host takes the base's scheme
abbrev pub under_scheme : PlainUri → PlainUri → PlainUri
under_scheme base uri = record {
  scheme = base.scheme;
  host = uri.host;
  port = port_under base.scheme uri.port;
  path = settled_path uri.host uri.path;
  query = uri.query;
  fragment = uri.fragment;
}

-- the base's path without its last segment, and the reference's behind it (section 5.2.3)
abbrev pub without_last : List (List ℕ) → List (List ℕ)
without_last segments = take (length segments - 1) segments

abbrev pub merged : List ℕ → List ℕ → List ℕ
merged base path = path_of (without_last (segments base)) ++ (0x2F ∷ path)

-- a path that isn't empty, under a base's path
abbrev pub rooted_under : List ℕ → List ℕ → List ℕ
rooted_under base path = if begins_with 0x2F path then path else merged base path

abbrev pub path_under : List ℕ → List ℕ → List ℕ
path_under base path = if length path == 0 then base else without_dots (rooted_under base path)

-- the base's query is kept where the reference has neither a path nor a query
abbrev pub query_under : Option (List ℕ) → List ℕ → Option (List ℕ) → Option (List ℕ)
query_under base path (Some query) = Some query
query_under base path None = if length path == 0 then base else None

-- any other reference takes the base's host as well
abbrev pub under_host : PlainUri → PlainUri → PlainUri
under_host base uri = record {
  scheme = base.scheme;
  host = base.host;
  port = base.port;
  path = path_under base.path uri.path;
  query = query_under base.query uri.path uri.query;
  fragment = uri.fragment;
}

-- the URI that a reference means where the base is
unfoldable pub resolved : PlainUri → PlainUri → PlainUri
resolved base uri =
    if is_some uri.scheme then with_settled_path uri
    else if is_some uri.host then under_scheme base uri
    else under_host base uri
