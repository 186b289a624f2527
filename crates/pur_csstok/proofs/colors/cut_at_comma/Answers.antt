use Rattle.std.proofs.Common.{◌∙◌, ap, refl}
use Rattle.std.specs.Prelude.{◌==◌}
use Rattle.std.specs.Str.{chars}
use Rattle.pur_csstok.specs.Colors.{between_commas}
use Rattle.pur_laws.proofs.Firsts.{split-at, split-none}
use Rattle.pur_csstok.proofs.colors.cut_at_comma.Goals as goal

pub returns-in-Some-clause-cut : goal.returns-in-Some-clause-cut
returns-in-Some-clause-cut c =
    ap between_commas c.in-Some.ensures.cut
    ∙ split-at (λ b. b == 0x2C) 0x2C refl (chars c.in-Some.piece.now) (chars c.in-Some.behind.now) c.in-Some.ensures.first

pub returns-in-None-clause-whole : goal.returns-in-None-clause-whole
returns-in-None-clause-whole c = split-none (λ b. b == 0x2C) (chars c.args.text.now) c.in-None.ensures.whole
