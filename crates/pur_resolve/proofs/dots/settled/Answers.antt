use Rattle.pur_resolve.specs.Private.Segments.{texts}
use Rattle.pur_resolve.proofs.WalkLemmas.{put_start, walk_step, walk_end}
use Rattle.pur_resolve.proofs.dots.settled.Goals as goal

pub loop-segment-init : goal.loop-segment-init
loop-segment-init c = rw c.new-kept.ensures.items (put_start (texts c.args.segments.now))

pub loop-segment-preserved : goal.loop-segment-preserved
loop-segment-preserved c =
    walk_step c.args.segments.now c.loop-segment.segment-index _ (texts c.loop-segment.kept.items) (texts c.put.new.kept.items) c.loop-segment.dotted
    c.is_dotted-dotted.result _ c.loop-segment-test.true c.in_ok-put.ensures c.is_dotted-dotted.ensures c.loop-segment.invariant

pub returns : goal.returns
returns c =
    walk_end c.args.segments.now c.loop-segment.segment-index (texts c.loop-segment.kept.items) (texts c.close.new.kept.items) c.loop-segment.dotted _
    c.loop-segment-test.false c.in_ok-close.ensures c.loop-segment.invariant
