-- The base that references are resolved against (RFC 3986, section 5.1), from the text that a person writes. Its host may
-- have letters past ASCII (UTS #46, section 4.2, ToASCII).
use Rattle.std.specs.Prelude.{◌≡◌, ℕ, Bool, true, false, nat_lt, if◌then◌else◌, List, ◌++◌, length, Option, Some, None, option_map, is_some}
use Rattle.std.specs.Option.{option_and_then}
use Rattle.idna.specs.Uts46.{domain_to_ascii}
use Rattle.idna.specs.declared.deny_list.TheConstants.AsciiDenyList.{EMPTY}
use Rattle.pur_names.specs.declared.schemes.SchemeName.{SchemeName}
use Rattle.pur_names.specs.declared.schemes.SchemeName.TheVariants.{Http, Https, Ftp}
use Rattle.pur_uri.specs.Places.{HostPlace, host_place}
use Rattle.pur_uri.specs.Splitting.{begins_with, tidied}
use Rattle.pur_uri.specs.Uris.{PlainUri, uri_of}
use Rattle.pur_resolve.specs.Dots.{without_dots}

-- a host in ASCII; an IPv6 address is that already
unfoldable pub ascii_host : List ℕ → Option (List ℕ)
ascii_host host = if begins_with 0x5B host then Some host else domain_to_ascii EMPTY host

-- the text with its host in ASCII, where it has a host that has such a form
abbrev pub text_with : HostPlace → List ℕ → List ℕ
text_with place host = place.before ++ (host ++ (place.port ++ place.behind))

abbrev pub ascii_text_of : HostPlace → Option (List ℕ)
ascii_text_of place = option_map (text_with place) (ascii_host place.host)

unfoldable pub ascii_text : List ℕ → Option (List ℕ)
ascii_text text = option_and_then ascii_text_of (host_place text)

-- the schemes of a base
abbrev pub is_base_scheme : Option SchemeName → Bool
is_base_scheme (Some Http) = true
is_base_scheme (Some Https) = true
is_base_scheme (Some Ftp) = true
is_base_scheme _ = false

-- a base has no dot segments and no fragment
abbrev pub as_base : PlainUri → PlainUri
as_base uri =
    record { scheme = uri.scheme; host = uri.host; port = uri.port; path = without_dots uri.path; query = uri.query; fragment = None }

abbrev pub base_in : PlainUri → Option PlainUri
base_in uri = if is_base_scheme uri.scheme then Some (as_base uri) else None

-- the base of a raw text. The whole text is read once its host is in ASCII: that may have brought an `@`, a `/` or a `:`
-- into it
unfoldable pub base_of : List ℕ → Option PlainUri
base_of raw =
    if nat_lt 1024 (length raw) then None
    else option_and_then base_in (option_and_then uri_of (ascii_text (tidied raw)))

-- what each base is
pub record IsBase (uri : PlainUri) : Type 0 where
  pub scheme : is_base_scheme uri.scheme ≡ true
  pub host : is_some uri.host ≡ true
  pub path : without_dots uri.path ≡ uri.path
  pub fragment : uri.fragment ≡ None
