use Rattle.sq_merge.proofs.WorldLaws.{kept_matched}
use Rattle.sq_merge.proofs.world.World.parts.Goals as goal

pub returns-clause-matched : goal.returns-clause-matched
returns-clause-matched c = rw (c.of-2.ensures, c.of.ensures) (kept_matched _ c.self.invariant.kept)
