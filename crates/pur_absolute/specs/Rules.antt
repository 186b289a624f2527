-- What a site's rule says of URIs, as a test.
use Rattle.std.specs.Prelude.{◌↔◌, Bool, IsTrue}
use Rattle.pur_uri.specs.Uris.{PlainUri, IsCanonical}

-- the test answers as the rule does about each canonical URI
pub record AnswersAs (rule : PlainUri → Type 0) (allows : PlainUri → Bool) : Type 0 where
  pub same : (uri : PlainUri) → IsCanonical uri → (IsTrue (allows uri) ↔ rule uri)
