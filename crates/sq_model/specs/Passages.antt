-- What each call of a home, and each reply, has to do with messages in transit.
use Rattle.std.specs.Prelude.{Bool, true, false, Option, Some, None}
use Rattle.sq_base.specs.declared.message_id.MessageId.{MessageId}
use Rattle.sq_model.specs.declared.calls.HomeCall.{HomeCall}
use Rattle.sq_model.specs.declared.calls.HomeCall.TheVariants.{Configure, Close, Send, Look, Delete, Change, Purge, Count, StartDrain, FinishDrain, LeaveDead, LeaveDrain, LeaveTask, Enter, TurnBack, GiveBack, Drop}
use Rattle.sq_model.specs.declared.item.Item.{Item}
use Rattle.sq_model.specs.declared.replies.HomeReply.{HomeReply}
use Rattle.sq_model.specs.declared.replies.HomeReply.TheVariants.{Done, Sent, Looked, Over, Counted, Left, NoLiveRow, NoOrigin, SourceClosed, Entered}

-- A call is the home's alone, or it is shared with the ledger: a message leaves, or an item comes in, is sent back or is dropped.
pub data Passage : Type 0 where
  Alone Leaves : Passage
  ComesIn GoesBack IsDropped : Item → Passage

abbrev pub passage_of : HomeCall → Passage
passage_of (Configure t w) = Alone
passage_of Close = Alone
passage_of (Send body delay) = Alone
passage_of (Look max timeout) = Alone
passage_of (Delete receipt) = Alone
passage_of (Change receipt timeout) = Alone
passage_of Purge = Alone
passage_of Count = Alone
passage_of StartDrain = Alone
passage_of FinishDrain = Alone
passage_of LeaveDead = Leaves
passage_of LeaveDrain = Leaves
passage_of (LeaveTask task) = Leaves
passage_of (Enter item) = ComesIn item
passage_of (TurnBack item) = GoesBack item
passage_of (GiveBack item) = ComesIn item
passage_of (Drop item) = IsDropped item

-- whether it is the home's alone, and whether a message leaves
pub record Kind : Type 0 where
  pub alone : Bool
  pub leaves : Bool

abbrev pub kind_of : Passage → Kind
kind_of Alone = record { alone = true; leaves = false }
kind_of Leaves = record { alone = false; leaves = true }
kind_of (ComesIn item) = record { alone = false; leaves = false }
kind_of (GoesBack item) = record { alone = false; leaves = false }
kind_of (IsDropped item) = record { alone = false; leaves = false }

-- a call that is a home's alone; the others are shared with the ledger
abbrev pub is_alone : HomeCall → Bool
is_alone call = (kind_of (passage_of call)).alone

-- a leave is asked for, whatever is answered
abbrev pub is_leave : HomeCall → Bool
is_leave call = (kind_of (passage_of call)).leaves

-- which message was sent in a step, and which left, as an item
pub record Passed : Type 0 where
  pub sent : Option MessageId
  pub left : Option Item

abbrev pub none_passed : Passed
none_passed = record { sent = None; left = None }

abbrev pub passed_in : HomeReply → Passed
passed_in Done = none_passed
passed_in (Sent sent) = record { sent = Some sent.id; left = None }
passed_in (Looked picked) = none_passed
passed_in Over = none_passed
passed_in (Counted counts) = none_passed
passed_in (Left item) = record { sent = None; left = Some item }
passed_in NoLiveRow = none_passed
passed_in (NoOrigin serial) = none_passed
passed_in SourceClosed = none_passed
passed_in (Entered entered) = none_passed
