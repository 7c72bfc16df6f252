-- What the steps of a call do to a world, and what a turn does.
use Rattle.std.specs.Prelude.{ℕ, List, Option}
use Rattle.sq_steps.specs.Journals.{journal_of}
use Rattle.sq_merge.specs.WorldValue.{WorldValue}
use Rattle.sq_merge.specs.inside.Worlds.{IsKnown}

-- an actor knows a queue of a world by a name
abbrev pub IsKnownTo : ℕ → WorldValue → Option (List ℕ) → ℕ → Type 0
IsKnownTo actor w name queue = IsKnown w.directory.events (journal_of actor w.journals) name queue
