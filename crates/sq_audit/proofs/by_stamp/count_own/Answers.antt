use Rattle.std.proofs.Common.{rules}
use Rattle.sq_audit.proofs.PartLaws.{own_counts, own_stays}
use Rattle.sq_audit.proofs.by_stamp.count_own.Goals as goal

pub loop-at-preserved : goal.loop-at-preserved
loop-at-preserved c =
    let counts = own_counts c.events-events.result.now.items c.loop-at.at c.index.result.now c.index.ensures in
    let stays = own_stays c.events-events.result.now.items c.loop-at.at c.index.result.now c.index.ensures in
    search rules
