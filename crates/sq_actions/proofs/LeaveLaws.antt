-- A step of a part leaves its record with its actor, whatever the part lies in.
use Rattle.std.proofs.Common.{◌≡◌, ◌∙◌, ℕ, List, refl, ap, Option, Some, Ok}
use Rattle.sq_base.specs.StampValue.{StampValue}
use Rattle.sq_base.specs.Stamps.{Below, after}
use Rattle.sq_base.proofs.StampLaws.{after_above_second}
use Rattle.sq_base.specs.declared.ids.HomeId.{HomeId}
use Rattle.sq_model.specs.RecordValues.{HomeRecordValue, DirectoryRecordValue, LedgerRecordValue, Journal, OfDirectory, OfLedger, OfHome, RecordValue, place_of_record, record_stamp}
use Rattle.sq_model.specs.declared.calls.HomeCall.{HomeCall}
use Rattle.sq_model.specs.declared.directory.DirectoryCall.{DirectoryCall}
use Rattle.sq_model.specs.declared.directory.DirectoryReply.{DirectoryReply}
use Rattle.sq_model.specs.declared.ledger.LedgerReply.{LedgerReply}
use Rattle.sq_model.specs.declared.replies.HomeReply.{HomeReply}
use Rattle.sq_model.specs.declared.shared.SharedAct.{SharedAct}
use Rattle.sq_model.specs.declared.shared.SharedAct.TheVariants as move
use Rattle.sq_model.specs.Ledgers.{Ledger}
use Rattle.sq_model.specs.Shared.{IsCallOf}
use Rattle.sq_laws.proofs.LedgerLists.{found_number}
use Rattle.sq_history.specs.declared.act.HomeAct.{HomeAct}
use Rattle.sq_history.specs.Acts.{call_of}
use Rattle.sq_history.specs.HistoryValue.{HistoryValue}
use Rattle.sq_log.specs.Spares.{KeepsSpare}
use Rattle.sq_directory.specs.DirectoryHistory.{DirectoryHistory}
use Rattle.sq_ledger.specs.LedgerHistory.{LedgerHistory}
use Rattle.sq_steps.specs.Journals.{with_record, HomeMoves, DirectoryMoves, LedgerMoves}
use Rattle.sq_steps.specs.SharedSteps.{SharedMoves}
use Rattle.sq_steps.specs.declared.act.TaskAct.{TaskAct}
use Rattle.sq_steps.specs.TaskActs.{task_call}
use Rattle.sq_actions.specs.Asks.{AskDirectory, AskHome, AskShared, AskLedger, Answered, Replied, Told, IsCallFor, IsNext, LeavesOf}

-- the call of a step of both has the item that was asked
call_is : (l : Ledger) (what : SharedAct) (call : HomeCall) → IsCallOf l what call → IsCallFor what call
call_is l move.LeaveDead call h = h
call_is l move.LeaveDrain call h = h
call_is l (move.LeaveTask number) call h = h
call_is l (move.Enter number) call h = (h.0, found_number (λ i. i.number) number l.items h.0 h.1, h.2)
call_is l (move.TurnBack number) call h = (h.0, found_number (λ i. i.number) number l.items h.0 h.1, h.2)
call_is l (move.GiveBack number) call h = (h.0, found_number (λ i. i.number) number l.items h.0 h.1, h.2)
call_is l (move.Drop number) call h = (h.0, found_number (λ i. i.number) number l.items h.0 h.1, h.2)

next_is : (a b : Journal) (n : RecordValue) → place_of_record n ≡ a.next → Below a.seen (record_stamp n) → b ≡ with_record a n b.spare → KeepsSpare a.spare b.spare → IsNext a n b
next_is a b n place above more spare = (place, above, more, spare)

-- the same of a record at a new stamp
next_at : (a b : Journal) (n : RecordValue) (last : StampValue) (now : ℕ) → place_of_record n ≡ a.next → after last a.seen now ≡ Ok (record_stamp n) → b ≡ with_record a n b.spare → KeepsSpare a.spare b.spare → IsNext a n b
next_at a b n last now place stamped more spare = next_is a b n place (after_above_second last a.seen now (record_stamp n) stamped) more spare

pub home_leaves : (old new : HistoryValue) (a b : Journal) (now : ℕ) (name : Option (List ℕ)) (id : HomeId) (what : HomeAct) (by : HomeReply)
    → old.site.home ≡ id → HomeMoves old new a b now name (call_of what) by → LeavesOf (AskHome name id what) (Ok (Replied by)) a b
home_leaves old new a b now name id what by at moves =
    let n = moves.its_record in
    let is = moves.does.record_is in (
      OfHome n,
      record {
        its_record = n;
        value = refl;
        at = ap (λ (m : HomeRecordValue). m.home) is ∙ at;
        asked = ap (λ (m : HomeRecordValue). m.call) is;
        replied = moves.answered;
        by_name = ap (λ (m : HomeRecordValue). m.name) is;
      },
      next_at a b (OfHome n) old.last now (ap (λ (m : HomeRecordValue). m.place) is) moves.does.stamped moves.recorded_as moves.spare,
    )

pub shared_leaves : (old new : HistoryValue) (l m : LedgerHistory) (a b : Journal) (now : ℕ) (name : Option (List ℕ)) (id : HomeId) (what : SharedAct) (by : HomeReply)
    → old.site.home ≡ id → SharedMoves old new l m a b now name what by → LeavesOf (AskShared name id what) (Ok (Replied by)) a b
shared_leaves old new l m a b now name id what by at moves =
    let n = moves.its_record in
    let is = moves.both.at_home.record_is in (
      OfHome n,
      record {
        its_record = n;
        value = refl;
        at = ap (λ (m : HomeRecordValue). m.home) is ∙ at;
        asked = call_is l.ledger what n.call moves.both.asked;
        replied = moves.both.answered;
        by_name = ap (λ (m : HomeRecordValue). m.name) is;
      },
      next_is a b (OfHome n) (ap (λ (m : HomeRecordValue). m.place) is) moves.both.at_home.above_seen moves.recorded_as moves.spare,
    )

pub directory_leaves : (old new : DirectoryHistory) (a b : Journal) (now : ℕ) (call : DirectoryCall) (by : DirectoryReply) → DirectoryMoves old new a b now call by → LeavesOf (AskDirectory call) (Ok (Answered by)) a b
directory_leaves old new a b now call by moves =
    let n = moves.its_record in (
      OfDirectory n,
      record { its_record = n; value = refl; asked = ap (λ (m : DirectoryRecordValue). m.call) moves.does.record_is; replied = moves.answered },
      next_at a b (OfDirectory n) old.last now (ap (λ (m : DirectoryRecordValue). m.place) moves.does.record_is) moves.does.stamped moves.recorded_as moves.spare,
    )

pub ledger_leaves : (old new : LedgerHistory) (a b : Journal) (now : ℕ) (what : TaskAct) (by : LedgerReply) → LedgerMoves old new a b now (task_call what) by → LeavesOf (AskLedger what) (Ok (Told by)) a b
ledger_leaves old new a b now what by moves =
    let n = moves.its_record in (
      OfLedger n,
      record { its_record = n; value = refl; asked = ap (λ (m : LedgerRecordValue). m.call) moves.does.record_is; replied = moves.answered },
      next_at a b (OfLedger n) old.last now (ap (λ (m : LedgerRecordValue). m.place) moves.does.record_is) moves.does.stamped moves.recorded_as moves.spare,
    )
