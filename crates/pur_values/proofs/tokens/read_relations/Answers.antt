use Rattle.std.proofs.Common.{◌∙◌, ap}
use Rattle.std.specs.Str.{chars}
use Rattle.pur_values.specs.Tokens.{tokens_of, is_relation}
use Rattle.pur_values.proofs.tokens.read_relations.Goals as goal

pub returns : goal.returns
returns c = c.in_ok-tokens.ensures ∙ ap (tokens_of is_relation) (ap chars c.as_str.ensures.value ∙ c.in_ok-lowered.ensures)
