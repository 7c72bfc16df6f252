-- A call that is stopped: some of its first steps are done, and nothing else. Own.
use Rattle.std.specs.Prelude.{◌≡◌, ◌⊎◌, ℕ, ◌+◌, Bool, true, Result, Err}
use Rattle.sq_base.specs.declared.refusal.Refusal.{Refusal}
use Rattle.sq_base.specs.declared.refusal.Refusal.TheVariants.{NoMemory}
use Rattle.sq_actions.specs.Asks.{Ask, Gave}

-- steps that may be done this often yet; whether one more was due
pub record Limited (S : Type 0) : Type 0 where
  pub steps : S
  pub left : ℕ
  pub stopped : Bool

-- a step is done where one is left; past that it is refused, and nothing is done
abbrev pub LimitedStep : {S : Type 0} → (S → Ask → Result Gave Refusal → S → Type 0) → Limited S → Ask → Result Gave Refusal → Limited S → Type 0
LimitedStep stepped s ask answered t =
    ((s.left ≡ 0) × (answered ≡ Err NoMemory) × (t.steps ≡ s.steps) × (t.left ≡ 0) × (t.stopped ≡ true))
    ⊎ ((s.left ≡ t.left + 1) × stepped s.steps ask answered t.steps × (t.stopped ≡ s.stopped))
