use Rattle.std.proofs.Common.{◌∙◌, [], ap, refl}
use Rattle.std.specs.Str.{chars}
use Rattle.pur_attrlist.specs.Texts.{text_of}
use Rattle.pur_tokens.specs.Tokens.{comment_token}
use Rattle.pur_lexer.proofs.ConstructLemmas.{through-found, through-missed, nothing_left}
use Rattle.pur_lexer.proofs.constructs.cut_comment.Goals as goal

pub returns-in_ok-content-in-Some-clause-construct : goal.returns-in_ok-content-in-Some-clause-construct
returns-in_ok-content-in-Some-clause-construct c =
    let parts = c.in-Some.ensures in
    through-found c.args.mark.now (λ x. comment_token x) (chars c.args.text.now) (text_of c.in_ok-content-in-Some.content) (chars c.in-Some.behind.now) c.requires.some
    (ap chars c.in_ok-content-in-Some.ensures.ok ∙ parts.content) parts.behind

pub returns-in-None-clause-construct : goal.returns-in-None-clause-construct
returns-in-None-clause-construct c = nothing_left [] refl ∙ through-missed c.args.mark.now (λ x. comment_token x) (chars c.args.text.now) c.in-None.ensures.none
