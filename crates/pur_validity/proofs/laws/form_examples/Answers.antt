use Rattle.std.proofs.Common.{refl}
use Rattle.pur_modules.specs.AttributeLists.{attributes_of}
use Rattle.pur_modules.specs.Contents.{content_held}
use Rattle.pur_modules.specs.Expressions.{has_text_letter}
use Rattle.pur_names.specs.Attributes.{attr_named}
use Rattle.pur_uri.specs.Splitting.{tidied, has_scheme, scheme_part, behind_scheme, has_authority, authority_part, behind_authority, query_part, behind_query, fragment_part, parts_of}
use Rattle.pur_uri.specs.Escapes.{stays_in_path, stays_in_query, normalised}
use Rattle.pur_uri.specs.Uris.{fits, has_reading, reading_of, uri_of_parts, uri_of, uri_text}
use Rattle.pur_uripolicy.specs.HostRules.{admits}
use Rattle.pur_uripolicy.specs.Admissible.{is_fit, uri_under}
use Rattle.pur_validity.proofs.laws.form_examples.Goals as goal

pub returns : goal.returns
unfolding lib.Utf8.encode attributes_of content_held has_text_letter attr_named tidied has_scheme scheme_part behind_scheme has_authority authority_part behind_authority query_part behind_query fragment_part parts_of stays_in_path stays_in_query normalised fits has_reading reading_of uri_of_parts uri_of uri_text is_fit admits uri_under
returns c = record {
  setting = record { valid = refl; other = refl };
  forms = record { valid = refl; other = refl };
  labels = record { valid = refl; other = refl };
  buttons = record { valid = refl; other = refl };
  legends = record { valid = refl; other = refl };
  choices = record { valid = refl; other = refl };
  strict = record { valid = refl; other = refl };
}
