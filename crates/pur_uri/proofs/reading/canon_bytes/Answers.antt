use Rattle.std.proofs.Common.{option_map, sym, ap, ◌∙◌}
use Rattle.pur_uri.specs.Images.{plain_uri}
use Rattle.pur_uri.proofs.AgainLemmas.{read_again}
use Rattle.pur_uri.proofs.reading.canon_bytes.Goals as goal

pub of_parts-requires : goal.of_parts-requires
of_parts-requires c =
    read_again c.host_is_plain.ensures c.host_is_lowered.ensures c.args.raw.now (plain_uri c.in-Some.parts) c.requires
    (sym (sym (ap (option_map plain_uri) c.in-Some.is) ∙ c.in_ok-parts.ensures))
