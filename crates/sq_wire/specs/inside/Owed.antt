-- Where a write that failed has cut what was owed.
use Rattle.std.specs.Prelude.{ℕ, ◌+◌, ◌≡◌, List, length, Option}
use Rattle.sq_lines.specs.Replies.{PutsPart}
use Rattle.sq_wire.specs.declared.run.ServeFault.{ServeFault}
use Rattle.sq_wire.specs.declared.run.ServeFault.TheVariants.{Read, Write, NoMemory, TooLong}

-- of the texts that so many lines still had to come, some went out, and the fault says of how many lines all did
abbrev pub CutAt : ServeFault → ℕ → Option (List ℕ) → Option (List ℕ) → List (List ℕ) → Type 0
CutAt (Write n) answered old new texts = (count : ℕ) × (n + length texts ≡ answered + count) × PutsPart old new texts count
CutAt (Read n) answered old new texts = ⊥
CutAt (NoMemory n) answered old new texts = ⊥
CutAt (TooLong n) answered old new texts = ⊥
