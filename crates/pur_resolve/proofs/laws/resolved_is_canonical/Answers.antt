use Rattle.pur_resolve.proofs.ResolvingLemmas.{resolved_canonical}
use Rattle.pur_resolve.proofs.laws.resolved_is_canonical.Goals as goal

pub returns : goal.returns
returns c = resolved_canonical c.canonical_by_parts.ensures.parts c.canonical_by_parts.ensures.whole c.slashes_part_paths.ensures.split c.slashes_part_paths.ensures.join
