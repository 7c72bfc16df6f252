use Rattle.std.proofs.Common.{length}
use Rattle.sq_places.proofs.IndexLaws.{Trims}
use Rattle.sq_places.proofs.home_rows.HomeRows.expire.Given as goal

abbrev pub invariant-loop-age : goal.invariant-loop-age
invariant-loop-age l = Trims l.retention l.moment l.fn.self l.fn.ends.items l.ends.items l.self-inside.ages.keys l.self-inside.rows.entries

abbrev pub decreases-loop-age : goal.decreases-loop-age
decreases-loop-age l = length l.self-inside.ages.keys
