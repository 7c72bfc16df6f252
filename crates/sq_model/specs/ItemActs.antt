-- What is done with an item, as a home, the ledger and both are asked, and what is answered.
use Rattle.std.specs.Prelude.{◌≡◌, ℕ, Bool, Option, Some, None}
use Rattle.sq_base.specs.declared.ids.HomeId.{HomeId}
use Rattle.sq_model.specs.declared.calls.HomeCall.{HomeCall}
use Rattle.sq_model.specs.declared.calls.HomeCall.TheVariants as call
use Rattle.sq_model.specs.declared.item.Item.{Item}
use Rattle.sq_model.specs.declared.replies.EnteredRow.{EnteredRow}
use Rattle.sq_model.specs.declared.replies.HomeReply.{HomeReply}
use Rattle.sq_model.specs.declared.replies.HomeReply.TheVariants.{Done, Entered}
use Rattle.sq_model.specs.declared.shared.ItemAct.{ItemAct}
use Rattle.sq_model.specs.declared.shared.ItemAct.TheVariants.{Enter, TurnBack, GiveBack, Drop}
use Rattle.sq_model.specs.declared.shared.SharedAct.{SharedAct}
use Rattle.sq_model.specs.declared.shared.SharedAct.TheVariants as asks
use Rattle.sq_model.specs.Homes.{may_enter, may_return}
use Rattle.sq_model.specs.Shared.{is_entering, is_returning}

-- the call of a home, with the item
abbrev pub call_with : ItemAct → Item → HomeCall
call_with Enter item = call.Enter item
call_with TurnBack item = call.TurnBack item
call_with GiveBack item = call.GiveBack item
call_with Drop item = call.Drop item

-- what a home and the ledger are asked together, with the item's number
abbrev pub asked_with : ItemAct → ℕ → SharedAct
asked_with Enter number = asks.Enter number
asked_with TurnBack number = asks.TurnBack number
asked_with GiveBack number = asks.GiveBack number
asked_with Drop number = asks.Drop number

-- the item is one for this home
abbrev pub may_act : ItemAct → HomeId → Item → Bool
may_act Enter home item = may_enter home item
may_act TurnBack home item = may_enter home item
may_act GiveBack home item = may_return home item
may_act Drop home item = may_return home item

-- an item is there, and is one for this home
abbrev pub is_its : ItemAct → HomeId → Option Item → Bool
is_its Enter home item = is_entering home item
is_its TurnBack home item = is_entering home item
is_its GiveBack home item = is_returning home item
is_its Drop home item = is_returning home item

-- a home answers with the row that came in, or that it is done
abbrev pub replied_by : Option EnteredRow → HomeReply
replied_by (Some entered) = Entered entered
replied_by None = Done

abbrev pub IsItemReply : ItemAct → HomeReply → Type 0
IsItemReply Enter reply = (entered : EnteredRow) × (reply ≡ Entered entered)
IsItemReply TurnBack reply = reply ≡ Done
IsItemReply GiveBack reply = (entered : EnteredRow) × (reply ≡ Entered entered)
IsItemReply Drop reply = reply ≡ Done
