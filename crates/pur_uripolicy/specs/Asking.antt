-- What is known of a closure that is asked about URIs.
use Rattle.std.specs.Prelude.{◌↔◌, IsTrue, Bool}
use Rattle.pur_uri.specs.Uris.{PlainUri, IsCanonical}

-- it may be asked about every canonical URI, and answers true exactly where the URI is allowed
pub record AnswersFor {F : Type 0} (may_ask : F → PlainUri → Type 0) (answers : F → PlainUri → Bool → Type 0) (filter : F) (allows : PlainUri → Type 0) : Type 0 where
  pub callable : (uri : PlainUri) → IsCanonical uri → may_ask filter uri
  pub exact : (uri : PlainUri) (answer : Bool) → IsCanonical uri → answers filter uri answer → (IsTrue answer ↔ allows uri)

-- the same of a test
abbrev pub AnswersBy : {F : Type 0} → (F → PlainUri → Type 0) → (F → PlainUri → Bool → Type 0) → F → (PlainUri → Bool) → Type 0
AnswersBy may_ask answers filter test = AnswersFor may_ask answers filter (λ uri. IsTrue (test uri))
