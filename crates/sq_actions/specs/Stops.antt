-- A call that is stopped: some of its first steps are done, and nothing else. Own.
use Rattle.std.specs.Prelude.{◌≡◌, ◌≤◌, ℕ, ◌+◌, Bool, true, false, List, ◌∷◌, ◌++◌, length, Option, Some, None, Result, Ok, Err}
use Rattle.std.specs.List.{AllByRecursion}
use Rattle.sq_base.specs.declared.refusal.Refusal.{Refusal}
use Rattle.sq_base.specs.declared.refusal.Refusal.TheVariants.{NoMemory}
use Rattle.sq_actions.specs.Asks.{Done}

-- a step that was due and was not done; to the call it is as one that finds no memory
abbrev pub IsNotDone : Done → Type 0
IsNotDone d = d.answered ≡ Err NoMemory

-- Just so many steps of a call were done, reads among them. A further one was due, which was not done, nor any after it.
pub record IsStopped {A : Type 0} (Fits : List Done → Result A Refusal → Type 0) (limit : ℕ) (trace : List Done) : Type 0 where
  pub exact : length trace ≡ limit
  pub due : Done
  pub rest : List Done
  pub not_done : AllByRecursion IsNotDone (due ∷ rest)
  pub answered : Result A Refusal
  pub fits : Fits (trace ++ due ∷ rest) answered

-- The steps of a call that may do so many of them, and what it tells: nothing where a further step was due; else what the call answers.
abbrev pub UntilFits : {A : Type 0} → ℕ → (List Done → Result A Refusal → Type 0) → List Done → Result (Option A) Refusal → Type 0
UntilFits limit Fits trace (Ok None) = IsStopped Fits limit trace
UntilFits limit Fits trace (Ok (Some a)) = Fits trace (Ok a) × (length trace ≤ limit)
UntilFits limit Fits trace (Err e) = Fits trace (Err e) × (length trace ≤ limit)

-- what a call tells that may do so many steps, by whether a further one was due and by what it answers without it
abbrev pub told_until : {A : Type 0} → Bool → Result A Refusal → Result (Option A) Refusal
told_until true answered = Ok None
told_until false (Ok a) = Ok (Some a)
told_until false (Err e) = Err e
