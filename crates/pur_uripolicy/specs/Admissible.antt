-- Which URIs may stand in a value under settings and a rule of hosts: what they are used for, their scheme and their host.
use Rattle.std.specs.Prelude.{ℕ, Bool, true, false, ◌&&◌, List, Option, Some, None, is_some, if◌then◌else◌, codes, encode_utf8_all}
use Rattle.std.specs.Option.{option_and_then, option_map_or}
use Rattle.pur_names.specs.declared.schemes.SchemeName.{SchemeName}
use Rattle.pur_names.specs.declared.schemes.SchemeName.TheVariants.{Http, Https, Ftp}
use Rattle.pur_settings.specs.Rules.{Rules, permits_a_scheme}
use Rattle.pur_attrlist.specs.Attributes.{Attribute, value_of}
use Rattle.pur_uri.specs.Uris.{PlainUri, uri_of}
use Rattle.pur_uripolicy.specs.HostRules.{PlainHostRule, admits}
use Rattle.pur_uripolicy.specs.declared.uses.UriUse.{UriUse}
use Rattle.pur_uripolicy.specs.declared.uses.UriUse.TheVariants.{Link, Embed}

-- a link may have any scheme; what is embedded is fetched at once, so it has one that fetches
abbrev pub takes : UriUse → SchemeName → Bool
takes Link scheme = true
takes Embed Http = true
takes Embed Https = true
takes Embed Ftp = true
takes Embed scheme = false

-- the schemes that fit the use; a relative reference has none, and fits
abbrev pub fits : UriUse → Option SchemeName → Bool
fits purpose scheme = option_map_or (takes purpose) scheme true

-- the schemes that the settings permit; a relative reference needs none
abbrev pub is_permitted : Rules → Option SchemeName → Bool
is_permitted rules scheme = option_map_or (permits_a_scheme rules) scheme true

-- the scheme is permitted or absent, it fits the use, and the rule admits the URI
unfoldable pub is_fit : Rules → PlainHostRule → UriUse → PlainUri → Bool
is_fit rules rule purpose uri = is_permitted rules uri.scheme && fits purpose uri.scheme && admits rule uri

-- the URI, where it is fit
abbrev pub where_fit : Rules → PlainHostRule → UriUse → PlainUri → Option PlainUri
where_fit rules rule purpose uri = if is_fit rules rule purpose uri then Some uri else None

-- the URI that a value's characters write, where it may stand in a value of this use; a value is admissible where there is one
unfoldable pub uri_under : Rules → PlainHostRule → UriUse → List ℕ → Option PlainUri
uri_under rules rule purpose raw = option_and_then (where_fit rules rule purpose) (uri_of (encode_utf8_all raw))

-- whether the source of a picture is there, and may be embedded
abbrev pub has_source : Rules → PlainHostRule → List Attribute → Bool
has_source rules rule attrs = is_some (option_and_then (uri_under rules rule Embed) (value_of attrs (codes "src")))
