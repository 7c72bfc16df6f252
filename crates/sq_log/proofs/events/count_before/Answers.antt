use Rattle.std.proofs.Common.{rules, ◌+◌, ◌-◌, ◌/◌, true, false}
use Rattle.sq_log.proofs.EventLaws.{parted_at}
use Rattle.sq_log.proofs.events.count_before.Goals as goal

pub loop-low-preserved-then-is_before : goal.loop-low-preserved-then-is_before
loop-low-preserved-then-is_before g c =
    let middle = c.loop-low.low + (c.loop-low.high - c.loop-low.low) / 2 in
    let parted = parted_at c.args.events.now.items c.args.stamp c.loop-low.low c.loop-low.high middle c.index.result.now c.requires.rises c.loop-low.invariant.parted (search rules) true (search rules) in
    search rules

pub loop-low-preserved : goal.loop-low-preserved
loop-low-preserved g c =
    let middle = c.loop-low.low + (c.loop-low.high - c.loop-low.low) / 2 in
    let parted = parted_at c.args.events.now.items c.args.stamp c.loop-low.low c.loop-low.high middle c.index.result.now c.requires.rises c.loop-low.invariant.parted (search rules) false (search rules) in
    search rules
