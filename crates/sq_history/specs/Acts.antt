-- What is done at a home, as its call.
use Rattle.std.specs.Prelude.{◌≡◌, ℕ, None}
use Rattle.sq_model.specs.declared.calls.HomeCall.{HomeCall}
use Rattle.sq_model.specs.declared.place.Site.{Site}
use Rattle.sq_model.specs.declared.calls.HomeCall.TheVariants as call
use Rattle.sq_model.specs.Homes.{Home, home_refusal}
use Rattle.sq_shard.specs.Looks.{GivesAny}
use Rattle.sq_history.specs.declared.act.HomeAct.{HomeAct}
use Rattle.sq_history.specs.declared.act.HomeAct.TheVariants.{Configure, Close, Send, Look, Delete, Change, Purge, Count, StartDrain, FinishDrain}

abbrev pub call_of : HomeAct → HomeCall
call_of (Configure t w) = call.Configure t w
call_of Close = call.Close
call_of (Send body delay) = call.Send body delay
call_of (Look max timeout) = call.Look max timeout
call_of (Delete receipt) = call.Delete receipt
call_of (Change receipt timeout) = call.Change receipt timeout
call_of Purge = call.Purge
call_of Count = call.Count
call_of StartDrain = call.StartDrain
call_of FinishDrain = call.FinishDrain

-- a copy of the act takes memory
abbrev pub HasBytes : HomeAct → Type 0
HasBytes (Send body delay) = Unit {0}
HasBytes (Configure settings version) = ⊥
HasBytes Close = ⊥
HasBytes (Look max timeout) = ⊥
HasBytes (Delete receipt) = ⊥
HasBytes (Change receipt timeout) = ⊥
HasBytes Purge = ⊥
HasBytes Count = ⊥
HasBytes StartDrain = ⊥
HasBytes FinishDrain = ⊥

-- memory is got for what its event and its record hold together: settings
abbrev pub HoldsAny : HomeCall → Type 0
HoldsAny (call.Configure settings version) = Unit {0}
HoldsAny other = ⊥

-- memory is got for its row, or for what it is answered, where it is done at this home at this moment: a message that is put, where nothing refuses it and there is spare memory for no row; rows that may be given. What is shared with the ledger is not done so.
abbrev pub CopiesBytes : Site → Home → ℕ → ℕ → HomeCall → Type 0
CopiesBytes site home spare_rows m (call.Send body delay) = (home_refusal site home m (call.Send body delay) ≡ None) × (spare_rows ≡ 0)
CopiesBytes site home spare_rows m (call.Look max timeout) = GivesAny site home m
CopiesBytes site home spare_rows m other = ⊥
