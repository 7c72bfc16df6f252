-- The parts of a world.
use Rattle.std.specs.Prelude.{◌≡◌, length}
use Rattle.sq_merge.specs.WorldValue.{WorldValue}
use Rattle.sq_audit.specs.declared.parts.Parts.{Parts}

-- The histories, the homes and the records are the world's; for how much more there is memory is free.
pub record ArePartsOf (w : WorldValue) (parts : Parts) : Type 0 where
  pub directory : parts.directory ≡ w.directory
  pub ledger : parts.ledger.history ≡ w.ledger
  pub homes : parts.homes ≡ record { per_queue = w.per_queue; homes = w.homes }
  pub records : parts.records ≡ w.journals
  pub made : parts.made ≡ length w.journals
