-- The moments from when rows are visible, and memory for them. Own.
use Rattle.std.specs.Prelude.{◌≡◌, ℕ, ◌≤◌, ◌<◌, ◌⊎◌, Bool, true, false, find, nat_lt, List, Option, Some, None, if◌then◌else◌}
use Rattle.sq_deadline.specs.declared.deadline.Deadline.{Deadline}
use Rattle.sq_deadline.specs.Deadlines.{IndexValue, DeadlinesRise, is_due}
use Rattle.sq_store.specs.declared.visible.VisibleFrom.{VisibleFrom}
use Rattle.sq_store.specs.Due.{is_received_below, is_unreceived, is_exhausted_by, space}
use Rattle.sq_store.specs.inside.Due.{with_if, without_if}

abbrev pub LacksSpace : ℕ → VisibleFrom → Type 0
LacksSpace count v = (space v.unreceived < count) ⊎ (space v.received < count) ⊎ (space v.exhausted < count)

-- none is given back
pub record KeepsSpace (old new : VisibleFrom) : Type 0 where
  pub unreceived : space old.unreceived ≤ space new.unreceived
  pub received : space old.received ≤ space new.received
  pub exhausted : space old.exhausted ≤ space new.exhausted

-- the list of the class of this receive number, if of any, is in order
pub record IsOrdered (receives : ℕ) (v : VisibleFrom) : Type 0 where
  pub unreceived : is_unreceived receives ≡ true → DeadlinesRise 0 v.unreceived.deadlines
  pub received : is_received_below v.most receives ≡ true → DeadlinesRise 0 v.received.deadlines
  pub exhausted : is_exhausted_by v.most receives ≡ true → DeadlinesRise 0 v.exhausted.deadlines

-- the list of the class of this receive number changed, and no other
pub record HasChanged (change : Bool → Deadline → List Deadline → List Deadline) (receives : ℕ) (d : Deadline) (old new : VisibleFrom) : Type 0 where
  pub unreceived : new.unreceived.deadlines ≡ change (is_unreceived receives) d old.unreceived.deadlines
  pub received : new.received.deadlines ≡ change (is_received_below old.most receives) d old.received.deadlines
  pub exhausted : new.exhausted.deadlines ≡ change (is_exhausted_by old.most receives) d old.exhausted.deadlines
  pub most : new.most ≡ old.most
  pub space : KeepsSpace old new

-- a moment came into the list of its class
abbrev pub IsSet : ℕ → Deadline → VisibleFrom → VisibleFrom → Type 0
IsSet = HasChanged with_if

-- one went out of it
abbrev pub IsCleared : ℕ → Deadline → VisibleFrom → VisibleFrom → Type 0
IsCleared = HasChanged without_if

-- the lists of the rows that are not exhausted, in one order or the other
abbrev pub AreBoth : VisibleFrom → IndexValue → IndexValue → Type 0
AreBoth v first second = ((first ≡ v.unreceived) × (second ≡ v.received)) ⊎ ((first ≡ v.received) × (second ≡ v.unreceived))

-- one has been visible for longer than the other, where both are
abbrev pub is_visible_longer : Option Deadline → Option Deadline → Bool
is_visible_longer (Some d) (Some e) = nat_lt d.moment e.moment
is_visible_longer (Some d) None = false
is_visible_longer None e = false

-- which of the two comes first: that of the rows that came back, where its first one has been visible for longer
abbrev pub first_list : ℕ → VisibleFrom → IndexValue
first_list m v = if is_visible_longer (find (is_due m) v.received.deadlines) (find (is_due m) v.unreceived.deadlines) then v.received else v.unreceived

-- for one row more in the list of the class of this receive number, if of any
pub record HasSpareFor (receives : ℕ) (v : VisibleFrom) : Type 0 where
  pub unreceived : is_unreceived receives ≡ true → 0 < v.unreceived.reserved
  pub received : is_received_below v.most receives ≡ true → 0 < v.received.reserved
  pub exhausted : is_exhausted_by v.most receives ≡ true → 0 < v.exhausted.reserved
