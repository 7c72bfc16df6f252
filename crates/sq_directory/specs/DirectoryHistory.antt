-- What contracts see of the directory with its history.
use Rattle.std.specs.Prelude.{ℕ, List}
use Rattle.sq_base.specs.StampValue.{StampValue}
use Rattle.sq_model.specs.Directories.{Directory}
use Rattle.sq_model.specs.Systems.{DirectoryEvent}

pub record DirectoryHistory : Type 0 where
  pub directory : Directory
  pub last : StampValue
  pub events : List DirectoryEvent
  -- for how many events more there was memory when the last one was added
  pub spare : ℕ
