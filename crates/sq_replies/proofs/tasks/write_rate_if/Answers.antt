use Rattle.sq_replies.proofs.tasks.write_rate_if.Goals as goal

pub returns-in-Some : goal.returns-in-Some
returns-in-Some c = rw (c.in-Some.is, ← c.get.ensures.value) c.write_number.ensures
