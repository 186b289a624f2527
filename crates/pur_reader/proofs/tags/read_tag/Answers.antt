use Rattle.std.specs.Str.{chars}
use Rattle.pur_reader.proofs.OptionLemmas.{from_none}
use Rattle.pur_reader.proofs.TagLemmas.{tag_cut, is_tag_rest}
use Rattle.pur_reader.proofs.tags.read_tag.Goals as goal

pub returns-in-None-read-clause-none : goal.returns-in-None-read-clause-none
returns-in-None-read-clause-none c = λ e b good is.
    let rest = chars c.cut_name.result.1.now in
    let cut = tag_cut e b (chars c.args.inner.now) (chars c.cut_name.result.0.now) rest is c.cut_name.ensures.parts c.cut_name.ensures.first c.cut_name.ensures.stop in
    from_none _ c.in_ok-read-in-Some.read c.in-None-read.is c.in_ok-read-in-Some.ensures.none (is_tag_rest e b rest good cut.1)

pub returns-in-None-clause-none : goal.returns-in-None-clause-none
returns-in-None-clause-none c = λ e b good is.
    let rest = chars c.cut_name.result.1.now in
    let cut = tag_cut e b (chars c.args.inner.now) (chars c.cut_name.result.0.now) rest is c.cut_name.ensures.parts c.cut_name.ensures.first c.cut_name.ensures.stop in
    c.in-None.ensures.none e.name cut.0
