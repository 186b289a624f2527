-- The names of the URI schemes and the look-up by a name (RFC 3986, section 3.1).
use Rattle.std.specs.Prelude.{ℕ, Bool, List, [], ◌∷◌, Option, codes, nat_eq}
use Rattle.std.specs.List.{find}
use Rattle.std.specs.Str.{bytes_eq}
use Rattle.pur_names.specs.declared.schemes.SchemeName.{SchemeName}
use Rattle.pur_names.specs.declared.schemes.SchemeName.TheVariants.{
  Http,
  Https,
  Ftp,
  Mailto,
  Nntp,
  News,
  Tel,
}

-- the name, in lower case (RFC 3986, section 3.1)
abbrev pub scheme_name : SchemeName → List ℕ
scheme_name Http = codes "http"
scheme_name Https = codes "https"
scheme_name Ftp = codes "ftp"
scheme_name Mailto = codes "mailto"
scheme_name Nntp = codes "nntp"
scheme_name News = codes "news"
scheme_name Tel = codes "tel"

-- all of them, in the order of their ranks
abbrev pub all_schemes : List SchemeName
all_schemes =
    Http ∷ Https ∷ Ftp ∷ Mailto ∷ Nntp ∷ News ∷ Tel ∷ []

-- the one that has this name, if there is one (RFC 3986, section 3.1)
unfoldable pub scheme_named : List ℕ → Option SchemeName
scheme_named name = find (λ s. bytes_eq (scheme_name s) name) all_schemes

-- the place in the list of all, counted from 0
abbrev pub scheme_rank : SchemeName → ℕ
scheme_rank Http = 0
scheme_rank Https = 1
scheme_rank Ftp = 2
scheme_rank Mailto = 3
scheme_rank Nntp = 4
scheme_rank News = 5
scheme_rank Tel = 6

-- whether two are the same one: a test that computes
abbrev pub same_scheme : SchemeName → SchemeName → Bool
same_scheme a b = nat_eq (scheme_rank a) (scheme_rank b)
