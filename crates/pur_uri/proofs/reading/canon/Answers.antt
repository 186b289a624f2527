use Rattle.std.proofs.Common.{◌≡◌, true, subst, sym}
use Rattle.pur_uri.specs.Splitting.{are_bytes}
use Rattle.pur_uri.proofs.ByteLemmas.{text_bytes}
use Rattle.pur_uri.proofs.reading.canon.Goals as goal

pub canon_bytes-requires : goal.canon_bytes-requires
canon_bytes-requires c = subst (λ t. are_bytes t ≡ true) (sym c.as_bytes.ensures.value) (text_bytes c.args.raw.now c.utf8.raw)
