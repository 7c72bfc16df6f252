use Rattle.std.proofs.Common.{refl}
use Rattle.sq_model.specs.Systems.{OfHome}
use Rattle.sq_audit.specs.Tags.{tag_of}
use Rattle.sq_audit.proofs.PartLaws.{grown, take_next}
use Rattle.sq_audit.proofs.by_stamp.add_home.Goals as goal

pub loop-at-preserved : goal.loop-at-preserved
loop-at-preserved c =
    grown tag_of (λ e. OfHome c.args.index e) _ _ _ _ _ _ _ c.in_ok-push.ensures.items refl c.loop-at.invariant (take_next c.events-events.result.now.items c.loop-at.at c.index.result.now c.index.ensures)
