use Rattle.pur_uri.proofs.CanonicalLemmas.{parts_canonical, canonical_whole}
use Rattle.pur_uri.proofs.laws.canonical_by_parts.Goals as goal

pub returns-clause-parts : goal.returns-clause-parts
returns-clause-parts c = parts_canonical c.host_is_plain.ensures c.host_is_lowered.ensures

pub returns-clause-whole : goal.returns-clause-whole
returns-clause-whole c = canonical_whole c.host_is_plain.ensures c.host_is_lowered.ensures
