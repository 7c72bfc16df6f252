-- The counts of a service: each has so many parts, one for each session and one that is left.
use Rattle.std.specs.Prelude.{◌≡◌, ℕ}
use Rattle.std.specs.declared.sync.ledger.Blank.{Blank}

-- a count of so many parts has one for each session that a service may make, and one more
abbrev pub HasSeats : ℕ → Type 0
HasSeats parts = parts ≡ 4294967296

-- a count gets its name and its parts by this blank
abbrev pub IsNamedBy : ℕ → ℕ → Blank → Type 0
IsNamedBy name parts blank = (blank.name ≡ name) × (blank.parts ≡ parts) × HasSeats parts
