-- Steps up to a limit leave what the steps leave that are done.
use Rattle.std.specs.Prelude.{Result}
use Rattle.std.proofs.Common.{sym, ap, subst, inl, inr}
use Rattle.sq_base.specs.declared.refusal.Refusal.{Refusal}
use Rattle.sq_base.specs.declared.refusal.Refusal.TheVariants.{NoMemory}
use Rattle.sq_model.specs.RecordValues.{Journal}
use Rattle.sq_actions.specs.Asks.{Ask, Gave, LeavesOf}
use Rattle.sq_actions.specs.inside.Stops.{Limited, LimitedStep}
use Rattle.sq_actions.specs.StopLaws.{refused_leaves}

pub limited_leaves : {S : Type 0} (stepped : S → Ask → Result Gave Refusal → S → Type 0) (journal : S → Journal) → ((s t : S) (ask : Ask) (answered : Result Gave Refusal) → stepped s ask answered t → LeavesOf ask answered (journal s) (journal t))
    → (s t : Limited S) (ask : Ask) (answered : Result Gave Refusal) → LimitedStep stepped s ask answered t → LeavesOf ask answered (journal s.steps) (journal t.steps)
limited_leaves stepped journal leaves s t ask answered h = elim h [
  | inl over ↦ subst (λ (g : Result Gave Refusal). LeavesOf ask g (journal s.steps) (journal t.steps)) (sym over.1) (refused_leaves ask NoMemory (journal s.steps) (journal t.steps) (ap journal over.2))
  | inr done ↦ leaves s.steps t.steps ask answered done.1
]
