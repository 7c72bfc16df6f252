-- What contracts see of a batch.
use Rattle.std.specs.Prelude.{ℕ, List}
use Rattle.sq_calls.specs.declared.batches.BatchKind.{BatchKind}
use Rattle.sq_calls.specs.declared.batches.Entry.{Entry}

-- The name of its queue, what all its entries do, and these.
pub record BatchValue : Type 0 where
  pub queue : List ℕ
  pub kind : BatchKind
  pub entries : List Entry
