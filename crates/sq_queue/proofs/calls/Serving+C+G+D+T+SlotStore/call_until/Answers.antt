use Rattle.std.proofs.Common.{rules, ◌≡◌}
use Rattle.sq_queue.proofs.calls.Serving+C+G+D+T+SlotStore.call_until.Goals as goal

pub returns-clause-sections : goal.returns-clause-sections
returns-clause-sections g c =
    let left : c.session-1.given.0 ≡ c.call_until_in.new.session_steps.session.now = search rules in
    rw left (rw (c.new-session_steps.ensures.service, c.new-session_steps.ensures.session) at c.call_until_in.ensures.sections)

pub returns-clause-leaves_records : goal.returns-clause-leaves_records
returns-clause-leaves_records g c =
    let left : c.session-1.given.0 ≡ c.call_until_in.new.session_steps.session.now = search rules in
    rw left (rw (c.new-session_steps.ensures.service, c.new-session_steps.ensures.session) at c.call_until_in.ensures.leaves_records)
