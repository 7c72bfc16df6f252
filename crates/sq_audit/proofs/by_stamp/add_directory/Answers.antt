use Rattle.std.proofs.Common.{refl}
use Rattle.sq_model.specs.Systems.{OfDirectory}
use Rattle.sq_audit.specs.Tags.{tag_of}
use Rattle.sq_audit.proofs.PartLaws.{grown, take_next}
use Rattle.sq_audit.proofs.by_stamp.add_directory.Goals as goal

pub loop-at-preserved : goal.loop-at-preserved
loop-at-preserved c =
    grown tag_of OfDirectory _ _ _ _ _ _ _ c.in_ok-push.ensures.items refl c.loop-at.invariant (take_next c.events-events.result.now.items c.loop-at.at c.index.result.now c.index.ensures)
