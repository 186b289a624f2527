use Rattle.std.specs.Str.{chars}
use Rattle.pur_tree.specs.Building.{opened_of}
use Rattle.pur_reader.proofs.OptionLemmas.{from_none}
use Rattle.pur_reader.proofs.LeftLemmas.{cut_tag, no_slash_no_closer}
use Rattle.pur_reader.proofs.reading.put_tag.Goals as goal

pub returns-in-None-read-clause-none : goal.returns-in-None-read-clause-none
returns-in-None-read-clause-none c = λ u rest w.
    let t = cut_tag (opened_of c.args.builder.now) (chars c.args.inner.now) rest w c.requires.inner (no_slash_no_closer (chars c.args.inner.now) rest c.in-None.ensures.none) in
    from_none _ c.in_ok-read-in-None.read c.in-None-read.is c.in_ok-read-in-None.ensures.none t.elem t.is_empty t.good t.is
