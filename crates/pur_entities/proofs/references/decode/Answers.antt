use Rattle.std.proofs.Common.{◌++◌, ◌∙◌, ap}
use Rattle.std.specs.Str.{chars}
use Rattle.std.proofs.lemmas.Str.{chars-nil}
use Rattle.pur_entities.specs.References.{decoded}
use Rattle.pur_entities.proofs.references.decode.Goals as goal

pub returns : goal.returns
returns c = record { text = c.in_ok-decode_onto.ensures ∙ ap (λ front. front ++ decoded (chars c.args.text.now)) (ap chars c.new-output.ensures.bytes ∙ chars-nil) }
