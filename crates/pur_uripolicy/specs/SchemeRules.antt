-- A site's rule on schemes.
use Rattle.std.specs.Prelude.{Bool, true, false, ◌||◌, not, Option, Some}
use Rattle.pur_names.specs.declared.schemes.SchemeName.{SchemeName}
use Rattle.pur_names.specs.declared.schemes.SchemeName.TheVariants.{Https, Mailto, News, Tel}
use Rattle.pur_uri.specs.Uris.{PlainUri}

-- a scheme whose pages nobody on the way can read or change (RFC 9110, section 4.2.2), or one that leads to no page
abbrev pub is_secure : Option SchemeName → Bool
is_secure (Some Https) = true
is_secure (Some Mailto) = true
is_secure (Some News) = true
is_secure (Some Tel) = true
is_secure scheme = false

-- every URI, or, where the rule is secure, those of a secure scheme
unfoldable pub allows_scheme : Bool → PlainUri → Bool
allows_scheme secure uri = not secure || is_secure uri.scheme
