-- What a step of the ledger does to it, its own or one that it shares with a home, and what is true of the ledger at all times.
use Rattle.std.specs.Prelude.{◌≡◌, ℕ, ◌<◌, false, Option, None, nat_le, count_by}
use Rattle.std.specs.List.{list_any}
use Rattle.sq_base.specs.declared.refusal.Refusal.{Refusal}
use Rattle.sq_base.specs.declared.refusal.Refusal.TheVariants.{Worn, OverLimit, UnsupportedOperation}
use Rattle.sq_model.specs.Homes.{refused_if}
use Rattle.sq_model.specs.Ledgers.{Ledger, is_active_at, last_number, most_active}
use Rattle.sq_model.specs.Tasks.{is_active}

-- a number is left for a task, none of its source is active, and not too many are
pub record MayStart (source : ℕ) (l : Ledger) : Type 0 where
  pub not_worn : l.next_task < last_number
  pub none_active : list_any (is_active_at source) l.tasks ≡ false
  pub few_active : count_by (λ task. is_active task.status) l.tasks < most_active

-- why a task of a source does not start
abbrev pub start_refusal : ℕ → Ledger → Option Refusal
start_refusal source l =
    refused_if (nat_le last_number l.next_task) Worn
    (refused_if (list_any (is_active_at source) l.tasks) UnsupportedOperation
    (refused_if (nat_le most_active (count_by (λ task. is_active task.status) l.tasks)) OverLimit None))
