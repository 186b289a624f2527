use Rattle.std.proofs.Common.{◌+◌, ◌∙◌, ap}
use Rattle.pur_text.proofs.HostLemmas.{side_pieces_counted}
use Rattle.pur_text.proofs.addresses.piece_count.Goals as goal

pub returns-else-is_empty-clause-count : goal.returns-else-is_empty-clause-count
returns-else-is_empty-clause-count c =
    ap (λ n. n + 1) c.count_of.ensures ∙ side_pieces_counted c.args.side.now c.if-is_empty.ensures
