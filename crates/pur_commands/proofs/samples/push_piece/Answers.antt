use Rattle.std.proofs.Common.{◌≡◌, ◌%◌, arith}
use Rattle.pur_commands.proofs.samples.push_piece.Goals as goal

pub returns-in_default : goal.returns-in_default
returns-in_default c =
    let four : c.args.number % 5 ≡ 4 = omega arith in
    rw four c.writeln-in_default.ensures.bytes
