-- What holds of URIs that may stand in a value.
use Rattle.std.specs.Prelude.{◌≡◌, ℕ, true, List, Some}
use Rattle.std.specs.List.{list_all}
use Rattle.pur_text.specs.Characters.{is_allowed}
use Rattle.pur_settings.specs.Rules.{Rules}
use Rattle.pur_uri.specs.Uris.{PlainUri, uri_text}
use Rattle.pur_uripolicy.specs.Admissible.{uri_under}
use Rattle.pur_uripolicy.specs.HostRules.{PlainHostRule}
use Rattle.pur_uripolicy.specs.declared.uses.UriUse.{UriUse}

-- what was written of a URI that may stand in a value is read as the same URI, where the value's characters are allowed
abbrev pub ReadAgain : Type 0
ReadAgain =
    (rules : Rules) (rule : PlainHostRule) (purpose : UriUse) (raw : List ℕ) (uri : PlainUri) → list_all is_allowed raw ≡ true
    → uri_under rules rule purpose raw ≡ Some uri → uri_under rules rule purpose (uri_text uri) ≡ Some uri

-- a URI whose text has allowed characters alone
pub record IsAllowedUri (uri : PlainUri) : Type 0 where
  pub text : list_all is_allowed (uri_text uri) ≡ true

-- what may stand in a value has allowed characters alone
abbrev pub UrisAreAllowed : Type 0
UrisAreAllowed =
    (rules : Rules) (rule : PlainHostRule) (purpose : UriUse) (raw : List ℕ) (uri : PlainUri)
    → uri_under rules rule purpose raw ≡ Some uri → IsAllowedUri uri
