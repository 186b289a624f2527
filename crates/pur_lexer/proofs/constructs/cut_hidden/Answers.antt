use Rattle.std.proofs.Common.{◌∙◌, sym, ap, string_bytes}
use Rattle.std.specs.Str.{chars}
use Rattle.std.proofs.lemmas.Str.{IsUtf8-string_bytes}
use Rattle.pur_attrlist.specs.Texts.{text_of}
use Rattle.pur_lexer.proofs.ConstructLemmas.{hiding_mark, hiding_same, hidden-read}
use Rattle.pur_lexer.proofs.constructs.cut_hidden.Goals as goal
use Rattle.std.proofs.Common.{subst}
use Rattle.pur_lexer.specs.Private.Cutting.{IsMark}

pub cut_at_end_mark-requires : goal.cut_at_end_mark-requires
cut_at_end_mark-requires c = subst IsMark (sym c.as_str.ensures.value) (hiding_mark (string_bytes c.args.name) (IsUtf8-string_bytes c.args.name) c.requires)

pub returns-clause-construct : goal.returns-clause-construct
returns-clause-construct c =
    hidden-read (text_of c.args.name) c.as_str.result.now (chars c.args.text.now) (text_of c.in_ok-body.body) (chars c.cut_at_end_mark.result.1.now)
    (chars c.cut_at_character.result.1.now) (chars c.behind_first.result.now)
    (c.as_str.ensures.value ∙ sym (hiding_same (string_bytes c.args.name) (IsUtf8-string_bytes c.args.name) c.requires))
    (ap chars c.in_ok-body.ensures.ok ∙ c.cut_at_end_mark.ensures.run) c.cut_at_end_mark.ensures.rest c.cut_at_character.ensures.rest c.behind_first.ensures.rest
