use Rattle.std.specs.Str.{chars}
use Rattle.pur_csstok.proofs.ColorLemmas.{too_many}
use Rattle.pur_csstok.proofs.colors.parts_read.Goals as goal

pub returns-in-Some-cut_at_comma-2 : goal.returns-in-Some-cut_at_comma-2
returns-in-Some-cut_at_comma-2 c =
    too_many (chars c.args.text.now) (chars c.in-Some.behind.now) (chars c.in-Some-cut_at_comma.blue.now) (chars c.in-Some-cut_at_comma-2._more.now) (chars c.in-Some.red.now)
    (chars c.in-Some-cut_at_comma.green.now) (chars c.in-Some-cut_at_comma-2._blue.now) c.in-Some.ensures.cut c.in-Some-cut_at_comma.ensures.cut
    c.in-Some-cut_at_comma-2.ensures.cut
