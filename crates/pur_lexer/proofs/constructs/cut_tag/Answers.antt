-- The first row that applies.
use Rattle.std.proofs.Common.{◌∙◌, sym, ap, codes, refl}
use Rattle.std.specs.Str.{chars}
use Rattle.pur_tokens.specs.Tokens.{text_token}
use Rattle.pur_laws.proofs.Texts.{chars_ascii}
use Rattle.pur_lexer.specs.Constructs.{gives_one}
use Rattle.pur_lexer.proofs.ConstructLemmas.{tag-end, tag-start, tag-text}
use Rattle.pur_lexer.proofs.constructs.cut_tag.Goals as goal

pub returns-in-Some-clause-construct : goal.returns-in-Some-clause-construct
returns-in-Some-clause-construct c =
    c.in_ok-cut.ensures.construct ∙ sym (tag-end (chars c.args.text.now) (chars c.in-Some.behind.now) c.in-Some.ensures.slash c.in-Some.ensures.letter)

pub returns-then-begins_with_letter-clause-construct : goal.returns-then-begins_with_letter-clause-construct
returns-then-begins_with_letter-clause-construct c =
    c.in_ok-cut-2.ensures.construct
    ∙ sym (tag-start (chars c.args.text.now) c.in_default.ensures.none (sym c.begins_with_letter.ensures ∙ c.if-begins_with_letter.true))

pub returns-clause-construct : goal.returns-clause-construct
returns-clause-construct c =
    ap (λ cs. gives_one (text_token cs) (chars c.args.text.now)) (ap chars c.in_ok-from_str.ensures.ok ∙ chars_ascii (codes "<") refl)
    ∙ sym (tag-text (chars c.args.text.now) c.in_default.ensures.none (sym c.begins_with_letter.ensures ∙ c.if-begins_with_letter.false))
