use Rattle.std.proofs.lemmas.List.Elements.{All-nil}
use Rattle.sq_model.specs.Rows.{IsCounted}
use Rattle.sq_model.specs.Homes.{Unopened}
use Rattle.sq_laws.proofs.ReceiveLaws.{counted_replay, counted_run}
use Rattle.sq_laws.proofs.laws.receives_are_counted.Goals as goal

pub returns-clause-in_a_run : goal.returns-clause-in_a_run
returns-clause-in_a_run c = counted_run

pub returns-clause-at_a_home : goal.returns-clause-at_a_home
returns-clause-at_a_home c site events home replays comes = counted_replay site Unopened events home replays comes (All-nil IsCounted)
