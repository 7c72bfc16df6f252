-- What a call does, step by step, and what it tells, whatever its steps are done on; and what fits a call, one that may stop, and each turn.
use Rattle.std.specs.Prelude.{◌≡◌, List, [], ◌∷◌, Result}
use Rattle.sq_base.specs.declared.refusal.Refusal.{Refusal}
use Rattle.sq_model.specs.RecordValues.{RecordValue, Journal}
use Rattle.sq_actions.specs.Asks.{Ask, Gave, Done, AreOf, Gains}
pub use Rattle.sq_actions.specs.Fits.{CallFits}
pub use Rattle.sq_actions.specs.Stops.{UntilFits}
pub use Rattle.sq_actions.specs.Turns.{LeaveFits, BringFits, ServeFits, GainsAtMost}

-- these steps were asked one after another
abbrev pub Path : {S : Type 0} → (S → Ask → Result Gave Refusal → S → Type 0) → S → List Done → S → Type 0
Path stepped s [] t = t ≡ s
Path {S} stepped s (d ∷ ds) t = (mid : S) × stepped s d.ask d.answered mid × Path stepped mid ds t

-- A call did steps one after another; the steps and the answer fit it.
pub record Performs {S A : Type 0} (stepped : S → Ask → Result Gave Refusal → S → Type 0) (Fits : List Done → Result A Refusal → Type 0) (old : S) (answered : Result A Refusal) (new : S) : Type 0 where
  pub trace : List Done
  pub path : Path stepped old trace new
  pub fits : Fits trace answered

-- The records that a call left with its actor are, in order, those of steps that fit it with the answer; they follow all that the actor had seen before the call.
pub record LeavesRecords {A : Type 0} (Fits : List Done → Result A Refusal → Type 0) (old : Journal) (answered : Result A Refusal) (new : Journal) : Type 0 where
  pub trace : List Done
  pub records : List RecordValue
  pub are : AreOf trace records
  pub gains : Gains records old new
  pub fits : Fits trace answered
