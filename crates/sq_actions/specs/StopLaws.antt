-- Steps up to a limit leave what the steps leave that are done.
use Rattle.std.specs.Prelude.{◌≡◌, Err}
use Rattle.sq_base.specs.declared.refusal.Refusal.{Refusal}
use Rattle.sq_model.specs.RecordValues.{Journal}
use Rattle.sq_actions.specs.Asks.{Ask, Resolve, AskDirectory, AskHome, AskShared, Peek, Redriven, AskLedger, ReadTask, LeavesOf}

-- what is refused leaves nothing
pub refused_leaves : (ask : Ask) (e : Refusal) (a b : Journal) → b ≡ a → LeavesOf ask (Err e) a b
refused_leaves (Resolve name) e a b same = same
refused_leaves (AskDirectory call) e a b same = same
refused_leaves (AskHome name home act) e a b same = same
refused_leaves (AskShared name home what) e a b same = same
refused_leaves (Peek after) e a b same = same
refused_leaves (Redriven source destination) e a b same = same
refused_leaves (AskLedger what) e a b same = same
refused_leaves (ReadTask number) e a b same = same
