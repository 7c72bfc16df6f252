use Rattle.std.proofs.Common.{rules}
use Rattle.sq_server.proofs.OutcomeLaws.{race_told}
use Rattle.sq_server.proofs.race.race.Goals as goal

pub returns-in-Some : goal.returns-in-Some
returns-in-Some g c = race_told g.W.Write.contents _ _ c.args.mode.now c.in-Some.ended c.tell_race.result (search rules) (search rules) c.tell_race.ensures
