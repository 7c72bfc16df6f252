-- What a home and the ledger share stands in both histories, so none of it is without a partner.
use Rattle.std.proofs.Common.{◌≡◌, Bool, true, false, not, List, refl, inl, inr}
use Rattle.std.specs.Prelude.{◌&&◌}
use Rattle.sq_base.specs.StampValue.{StampValue}
use Rattle.sq_model.specs.declared.calls.HomeCall.{HomeCall}
use Rattle.sq_model.specs.declared.ledger.LedgerCall.{LedgerCall}
use Rattle.sq_model.specs.declared.ledger.LedgerCall.TheVariants.{AtHome, StartTask, CancelTask, ListTasks, FinishTask}
use Rattle.sq_model.specs.Ledgers.{LedgerEvent, is_own}
use Rattle.sq_model.specs.Matches.{HomeHistory, IsPaired, IsUnmatched, is_of_item, is_shared_as}
use Rattle.sq_model.specs.Passages.{Alone, Passage, is_alone, is_leave, kind_of, passage_of}

-- calls of a kind are not a home's alone
abbrev IsShared : (HomeCall → Bool) → Type 0
IsShared kind = (call : HomeCall) → kind call ≡ true → is_alone call ≡ false

leaves_shared : (p : Passage) → (kind_of p).leaves ≡ true → (kind_of p).alone ≡ false
leaves_shared Alone e = absurd cc
leaves_shared p e = refl

items_shared : (alone leaves : Bool) → (not alone && not leaves) ≡ true → alone ≡ false
items_shared true leaves e = absurd cc
items_shared false leaves e = refl

not_own : (kind : HomeCall → Bool) (call : LedgerCall) → is_shared_as kind call ≡ true → is_own call ≡ false
not_own kind (AtHome home call) e = refl
not_own kind (StartTask source destination rate) e = absurd cc
not_own kind (CancelTask number) e = absurd cc
not_own kind (ListTasks source most) e = absurd cc
not_own kind (FinishTask number) e = absurd cc

none_unmatched : (kind : HomeCall → Bool) → IsShared kind → (ledger : List LedgerEvent) (homes : List HomeHistory) (stamp : StampValue) → IsPaired ledger homes → IsUnmatched kind ledger homes stamp → ⊥
none_unmatched kind shared ledger homes stamp paired (inl u) = u.alone (paired.in_ledger u.at u.index u.home u.event u.in_home (shared u.event.call u.of_kind))
none_unmatched kind shared ledger homes stamp paired (inr u) = u.alone (paired.in_home u.index u.event u.in_ledger (not_own kind u.event.call u.of_kind))

pub leaves_matched : (ledger : List LedgerEvent) (homes : List HomeHistory) (stamp : StampValue) → IsPaired ledger homes → IsUnmatched is_leave ledger homes stamp → ⊥
leaves_matched = none_unmatched is_leave (λ call. leaves_shared (passage_of call))

pub items_matched : (ledger : List LedgerEvent) (homes : List HomeHistory) (stamp : StampValue) → IsPaired ledger homes → IsUnmatched is_of_item ledger homes stamp → ⊥
items_matched = none_unmatched is_of_item (λ call. items_shared (is_alone call) (is_leave call))
