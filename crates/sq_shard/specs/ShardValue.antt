-- What contracts see of a shard.
use Rattle.std.specs.Prelude.{ℕ}
use Rattle.sq_model.specs.declared.place.Site.{Site}
use Rattle.sq_model.specs.Homes.{Contents, Home, Unopened as Never, Serving as Serves, Closed as Gone}
use Rattle.sq_shard.specs.declared.shard.Status.{Status}
use Rattle.sq_shard.specs.declared.shard.Status.TheVariants.{Unopened, Serving, Closed}

pub record ShardValue : Type 0 where
  pub site : Site
  pub home : Home
  -- for how many rows more there was memory when the last one came in
  pub spare : ℕ

abbrev pub home_with : Status → Contents → Home
home_with Unopened its = Never
home_with Serving its = Serves its
home_with Closed its = Gone
