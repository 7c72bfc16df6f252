use Rattle.sq_server.proofs.ending.gathered.Goals as goal

pub returns-in-Ok : goal.returns-in-Ok
returns-in-Ok g c = record {
  records = rw c.loop.invariant.0 at c.in-Ok.ensures.records;
  made = c.in-Ok.ensures.made;
  homes_of = rw c.loop.invariant.1 at c.in-Ok.ensures.homes.1;
  directory = c.in-Ok.ensures.directory;
  ledger = c.in-Ok.ensures.ledger;
}
