use Rattle.std.proofs.Common.{◌∙◌, [], ap, lit<, codes, refl}
use Rattle.std.specs.Str.{chars}
use Rattle.pur_attrlist.specs.Texts.{text_of}
use Rattle.pur_lexer.specs.Constructs.{end_tag_of, gives_one}
use Rattle.pur_lexer.proofs.ConstructLemmas.{through-found, through-missed, nothing_left, end_read}
use Rattle.pur_lexer.proofs.constructs.cut_end_tag.Goals as goal

pub returns-in_ok-name-in-Some-clause-construct : goal.returns-in_ok-name-in-Some-clause-construct
returns-in_ok-name-in-Some-clause-construct c =
    let parts = c.in-Some.ensures in
    ap (λ x. gives_one x (chars c.in-Some.behind.now))
    (end_read (chars c.in-Some.content.now) c.cut_at.result.0.now (text_of c.in_ok-name-in-Some.name) c.cut_at.ensures.text.0 c.cut_at.ensures.run (ap chars c.in_ok-name-in-Some.ensures))
    ∙ through-found (codes ">") end_tag_of (chars c.args.text.now) (chars c.in-Some.content.now) (chars c.in-Some.behind.now) (lit< tt) parts.content parts.behind

pub returns-in-None-clause-construct : goal.returns-in-None-clause-construct
returns-in-None-clause-construct c = nothing_left [] refl ∙ through-missed (codes ">") end_tag_of (chars c.args.text.now) c.in-None.ensures.none
