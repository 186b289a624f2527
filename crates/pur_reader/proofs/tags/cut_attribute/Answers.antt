use Rattle.std.specs.Str.{chars}
use Rattle.pur_reader.proofs.TagLemmas.{quoted_front}
use Rattle.pur_reader.proofs.tags.cut_attribute.Goals as goal

pub returns-in-None-cut_quoted-clause-none : goal.returns-in-None-cut_quoted-clause-none
returns-in-None-cut_quoted-clause-none c = λ name value rest front.
    c.in-None-cut_quoted.ensures.none value rest front.no_quote
    (quoted_front name value rest (chars c.in-Some-cut_at.name.now) (chars c.in-Some-cut_at.quoted.now) (chars c.in-Some.front.now) (chars c.args.text.now)
    front c.in-Some.ensures.some c.in-Some-cut_at.ensures.parts c.in-Some-cut_at.ensures.first)
