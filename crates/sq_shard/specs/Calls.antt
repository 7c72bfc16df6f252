-- Calls of a home, each done or refused: those that give nothing back, and those by which an item comes in.
use Rattle.std.specs.Prelude.{◌≡◌, ℕ, Some, Result, IfErr, IfOk, OnErr, OnOk}
use Rattle.sq_base.specs.declared.refusal.Refusal.{Refusal}
use Rattle.sq_base.specs.declared.refusal.Refusal.TheVariants.{NoMemory}
use Rattle.sq_model.specs.declared.calls.HomeCall.{HomeCall}
use Rattle.sq_model.specs.declared.replies.EnteredRow.{EnteredRow}
use Rattle.sq_model.specs.declared.replies.HomeReply.TheVariants.{Done, Entered}
use Rattle.sq_model.specs.Homes.{HomeStep, home_refusal}
use Rattle.sq_shard.specs.Moves.{UsesSpareRow}
use Rattle.sq_shard.specs.ShardValue.{ShardValue}

-- it is done as a step of the home, or refused for the home's reason, which changes nothing
pub record IsDoneOrRefused (call : HomeCall) (m : ℕ) (old new : ShardValue) (said : Result (Unit {0}) Refusal) : Type 0 where
  pub step : OnOk said (HomeStep old.site old.home m call Done new.home)
  pub site : new.site ≡ old.site
  pub spare : new.spare ≡ old.spare
  pub refusal : IfErr said (λ e. home_refusal old.site old.home m call ≡ Some e)
  pub err : OnErr said (new ≡ old)

-- the row of an item came in as a step of the home, or memory was out where the home shows no spare memory, which changes nothing
pub record HasComeIn (call : HomeCall) (m : ℕ) (old new : ShardValue) (said : Result EnteredRow Refusal) : Type 0 where
  pub step : IfOk said (λ entered. HomeStep old.site old.home m call (Entered entered) new.home)
  pub site : new.site ≡ old.site
  pub spare : OnOk said (UsesSpareRow old.spare new.spare)
  pub refused : IfErr said (λ e. (e ≡ NoMemory) × (old.spare ≡ 0))
  pub err : OnErr said (new ≡ old)
