use Rattle.std.proofs.Common.{subst, sym}
use Rattle.sq_merge.specs.Worlds.{IsKeptWorld}
use Rattle.sq_merge.proofs.StepLaws.{as_fields, seen_opened}
use Rattle.sq_merge.proofs.WorldLaws.{kept_seen}
use Rattle.sq_merge.proofs.world.World.see.Goals as goal

pub invariant_of-self-2 : goal.invariant_of-self-2
invariant_of-self-2 c =
    let old = as_fields c.self.view_is in
    let seen = seen_opened old c.args.actor c.args.last c.index_mut.result.now (rw (c.in_ok-at.ensures.opened, c.in_ok-at.ensures.index) at c.index_mut.ensures.value) in
    record {
      kept = rw (c.see.ensures, c.in_ok-at.ensures.opened, c.in_ok-at.ensures.index) (subst IsKeptWorld (sym seen) (kept_seen old c.args.actor c.args.last c.self.invariant.kept));
      sample = c.self.invariant.sample;
      few = c.self.invariant.few;
    }

pub returns-clause-read : goal.returns-clause-read
returns-clause-read c =
    rw (← c.self.view_is, c.see.ensures, c.in_ok-at.ensures.opened, c.in_ok-at.ensures.index)
    (seen_opened (as_fields c.self.view_is) c.args.actor c.args.last c.index_mut.result.now (rw (c.in_ok-at.ensures.opened, c.in_ok-at.ensures.index) at c.index_mut.ensures.value))
