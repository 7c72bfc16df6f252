use Rattle.std.proofs.Common.{◌≡◌, ◌≤◌, ◌++◌, ℕ, None, length, take}
use Rattle.sq_ledger.specs.TaskIndexes.{newest, tasks_from, tasks_in}
use Rattle.sq_ledger.proofs.tasks.Tasks.list.Given as goal

-- what is listed, and then those of the source among the first tasks, the most recent one of which is next; none is, of a source without tasks
abbrev pub invariant-loop : goal.invariant-loop
invariant-loop l =
    let tasks = tasks_in l.self-inside.rows.items in
    (first : ℕ) × (first ≤ length tasks) × (l.next ≡ newest l.fn.source (take first tasks)) × (tasks_from l.fn.source tasks ≡ l.listed ++ tasks_from l.fn.source (take first tasks)) × (length l.listed ≡ l.counter) × (newest l.fn.source tasks ≡ None → l.next ≡ None)
