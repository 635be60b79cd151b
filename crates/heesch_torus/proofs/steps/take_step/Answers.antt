use Rattle.std.proofs.Common.{refl}
use Rattle.std.specs.Prelude.{slice_index, slice_index_or, slice_set}
use Rattle.heesch_torus.proofs.Words.{moved_more}
use Rattle.heesch_torus.proofs.steps.take_step.Goals as goal

pub loop-i-preserved : goal.loop-i-preserved
loop-i-preserved c =
    moved_more (slice_index c.args.step.now) c.args.points.now c.loop-i.i c.loop-i.points c.loop-i.invariant c.loop-i-test.true
    (slice_set c.loop-i.points c.loop-i.i (slice_index_or c.args.step.now (slice_index_or c.loop-i.points c.loop-i.i 0) 0)) refl
