use Rattle.std.specs.Str.{chars}
use Rattle.pur_writer.proofs.ValueLemmas.{attribute_written}
use Rattle.pur_writer.proofs.attributes.push_attributes.Goals as goal

pub loop-at-preserved : goal.loop-at-preserved
loop-at-preserved c =
    attribute_written c.args.attrs.now c.loop-at.at (chars c.name_at.result.now) (chars c.value_at.result.now) c.loop-at.out.items c.push_attribute.new.out.items _
    c.name_at.ensures c.value_at.ensures c.in_ok-push_attribute.ensures c.loop-at.invariant
