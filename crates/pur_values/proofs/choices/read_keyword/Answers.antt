-- The words that an attribute takes are ASCII.
use Rattle.std.proofs.Common.{ap, ◌∙◌}
use Rattle.std.specs.Char.{is_ascii}
use Rattle.std.specs.List.{list_all}
use Rattle.pur_values.proofs.SolidLemmas.{keywords-ascii}
use Rattle.pur_values.proofs.choices.read_keyword.Goals as goal

pub read_word-requires : goal.read_word-requires
read_word-requires c = ap (list_all (list_all is_ascii)) c.keywords.ensures ∙ keywords-ascii c.args.element c.args.attr
