use Rattle.pur_resolve.proofs.ResolvingLemmas.{based, based_canonical}
use Rattle.pur_resolve.proofs.laws.bases_are_canonical.Goals as goal

pub returns-clause-base : goal.returns-clause-base
returns-clause-base c = based c.canonical_by_parts.ensures.parts c.canonical_by_parts.ensures.whole c.slashes_part_paths.ensures.split c.slashes_part_paths.ensures.join

pub returns-clause-canonical : goal.returns-clause-canonical
returns-clause-canonical c =
    based_canonical c.canonical_by_parts.ensures.parts c.canonical_by_parts.ensures.whole c.slashes_part_paths.ensures.split c.slashes_part_paths.ensures.join
