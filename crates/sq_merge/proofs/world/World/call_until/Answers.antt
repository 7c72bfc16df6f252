use Rattle.std.proofs.Common.{rules, ◌≡◌}
use Rattle.sq_merge.proofs.world.World.call_until.Goals as goal

pub returns-clause-answered : goal.returns-clause-answered
returns-clause-answered c =
    let left : c.self-1.given.0 ≡ c.call_until_at.new.world_steps.world.now = search rules in
    rw left (rw (c.new-world_steps.ensures.actor, c.new-world_steps.ensures.clock, c.new-world_steps.ensures.world) at c.call_until_at.ensures.answered)

pub returns-clause-leaves_records : goal.returns-clause-leaves_records
returns-clause-leaves_records c =
    let left : c.self-1.given.0 ≡ c.call_until_at.new.world_steps.world.now = search rules in
    rw left (rw (c.new-world_steps.ensures.actor, c.new-world_steps.ensures.world) at c.call_until_at.ensures.leaves_records)
