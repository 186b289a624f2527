-- Where the host of a reference stands (RFC 3986, section 3.2.2).
use Rattle.std.specs.Prelude.{ℕ, ◌+◌, ◌-◌, List, take, length, Option, option_map}
use Rattle.pur_uri.specs.Splitting.{behind_scheme, authority_part, behind_authority}
use Rattle.pur_uri.specs.Authorities.{without_user, host_len, behind_host}

-- what is in front of the host, through `//` and user information; the host as it stands; what is behind it in the
-- authority; and what is behind the authority
pub record HostPlace : Type 0 where
  pub before : List ℕ
  pub host : List ℕ
  pub port : List ℕ
  pub behind : List ℕ

-- what of a text is in front of the authority's host
abbrev pub before_host : List ℕ → List ℕ → List ℕ → List ℕ
before_host text authority behind = take (length text - (length (without_user authority) + length behind)) text

abbrev pub place_in : List ℕ → List ℕ → List ℕ → HostPlace
place_in text behind authority = let named = without_user authority in record {
  before = before_host text authority behind;
  host = take (host_len named) named;
  port = behind_host authority;
  behind = behind;
}

-- the place of the host, where there is an authority
unfoldable pub host_place : List ℕ → Option HostPlace
host_place text = let located = behind_scheme text in option_map (place_in text (behind_authority located)) (authority_part located)
