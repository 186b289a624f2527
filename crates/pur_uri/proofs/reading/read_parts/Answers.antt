use Rattle.std.proofs.Common.{sym}
use Rattle.pur_uri.specs.Private.References.{parts_in}
use Rattle.pur_uri.specs.Uris.{is_scheme, scheme_in}
use Rattle.pur_uri.proofs.ReadingLemmas.{scheme_unknown, unchosen}
use Rattle.pur_uri.proofs.reading.read_parts.Goals as goal

pub returns-in-None : goal.returns-in-None
returns-in-None c =
    let p = parts_in c.args.parts in
    sym (scheme_unknown p (unchosen (is_scheme p.scheme) (scheme_in p.scheme) (rw c.in-None.is at c.in_ok-scheme.ensures)))
