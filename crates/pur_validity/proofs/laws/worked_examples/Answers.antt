use Rattle.std.proofs.Common.{refl}
use Rattle.pur_modules.specs.Contents.{content_held}
use Rattle.pur_modules.specs.Expressions.{has_text_letter}
use Rattle.pur_validity.proofs.laws.worked_examples.Goals as goal

pub returns : goal.returns
unfolding content_held has_text_letter
returns c = record {
  text = record { valid = refl; other = refl };
  blocks = record { valid = refl; other = refl };
  items = record { valid = refl; other = refl };
  captions = record { valid = refl; other = refl };
  bodies = record { valid = refl; other = refl };
  feet = record { valid = refl; other = refl };
  one_kind = record { valid = refl; other = refl };
  cells = record { valid = refl; other = refl };
  rows = record { valid = refl; other = refl };
  links = record { valid = refl; other = refl };
  pre = record { valid = refl; other = refl };
  edits = record { valid = refl; other = refl };
  strict = record { valid = refl; other = refl };
  permitted = record { valid = refl; other = refl };
  parents = record { valid = refl; other = refl };
  levels = record { valid = refl; other = refl };
}
