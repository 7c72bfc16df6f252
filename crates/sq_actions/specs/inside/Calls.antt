-- The values that calls are made of.
use Rattle.std.specs.Prelude.{ℕ, ◌*◌, ◌≤◌, Bool, true, false, List}
use Rattle.sq_calls.specs.declared.calls.QueueCounts.{QueueCounts}
use Rattle.sq_model.specs.declared.directory.DirectoryCall.{DirectoryCall}
use Rattle.sq_model.specs.declared.directory.DirectoryCall.TheVariants as asks

-- each is a sum of so many counts at most
abbrev pub AreFew : ℕ → QueueCounts → Type 0
AreFew n sum = (sum.visible ≤ n * 4294967295) × (sum.in_flight ≤ n * 4294967295) × (sum.delayed ≤ n * 4294967295)

-- a call of the directory after which all homes of the queue are asked
abbrev pub changes_queue : DirectoryCall → Bool
changes_queue (asks.Create name given) = true
changes_queue (asks.Set name given) = true
changes_queue (asks.Remove name) = true
changes_queue (asks.PurgeTicket name) = true
changes_queue (asks.Url name) = false
changes_queue (asks.List prefix) = false
changes_queue (asks.Sources name) = false
changes_queue (asks.Read name) = false
