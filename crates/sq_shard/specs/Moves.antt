-- Messages that leave a home or come in, as the home sees it.
use Rattle.std.specs.Prelude.{◌≡◌, ℕ, ◌+◌, ◌≤◌, Bool, true, false, not, List, Option, Some, None}
use Rattle.std.specs.List.{Contains, list_any}
use Rattle.sq_base.specs.declared.refusal.Refusal.{Refusal}
use Rattle.sq_base.specs.declared.refusal.Refusal.TheVariants.{QueueDoesNotExist, UnsupportedOperation}
use Rattle.sq_base.specs.declared.row.Row.{Row}
use Rattle.sq_model.specs.declared.calls.HomeCall.{HomeCall}
use Rattle.sq_model.specs.declared.calls.HomeCall.TheVariants.{Send}
use Rattle.sq_model.specs.declared.calls.HomeCall.TheVariants as call
use Rattle.sq_model.specs.declared.place.Site.{Site}
use Rattle.sq_model.specs.Homes.{Home, Unopened, Serving, Closed, dead_target, full_refusal, is_draining, refused_if, unexpired_rows}
use Rattle.sq_model.specs.Rows.{is_at_rest, is_dead, is_live, Takes}
use Rattle.sq_model.specs.declared.item.Item.{Item}
use Rattle.sq_model.specs.declared.shared.HomeLeave.{HomeLeave}
use Rattle.sq_model.specs.declared.shared.HomeLeave.TheVariants.{Dead, Drain}
use Rattle.sq_model.specs.declared.shared.ItemAct.{ItemAct}
use Rattle.sq_model.specs.declared.shared.ItemAct.TheVariants.{Enter, TurnBack, GiveBack, Drop}
use Rattle.sq_model.specs.ItemActs.{is_its}
use Rattle.sq_store.specs.Picked.{IsOneOf}

-- a dead row of the home at m
abbrev pub IsDeadAt : Home → ℕ → Row → Type 0
IsDeadAt (Serving its) m row = IsOneOf (is_dead its.settings m) (unexpired_rows its m) row
IsDeadAt Unopened m row = ⊥
IsDeadAt Closed m row = ⊥

-- a row of a home that drains, at rest at m
abbrev pub IsToDrainAt : Home → ℕ → Row → Type 0
IsToDrainAt (Serving its) m row = (is_draining its.mode ≡ true) × IsOneOf (is_at_rest m) (unexpired_rows its m) row
IsToDrainAt Unopened m row = ⊥
IsToDrainAt Closed m row = ⊥

-- a row that may leave so at m
abbrev pub MayLeaveAt : HomeLeave → Home → ℕ → Row → Type 0
MayLeaveAt Dead home m row = IsDeadAt home m row
MayLeaveAt Drain home m row = IsToDrainAt home m row

-- a live row of the home at m
abbrev pub IsLiveAt : Home → ℕ → Row → Type 0
IsLiveAt (Serving its) m row = IsOneOf (is_live its.settings m) (unexpired_rows its m) row
IsLiveAt Unopened m row = ⊥
IsLiveAt Closed m row = ⊥

-- one is there
abbrev pub has_live_row : Home → ℕ → Bool
has_live_row (Serving its) m = list_any (is_live its.settings m) (unexpired_rows its m)
has_live_row Unopened m = false
has_live_row Closed m = false

-- it serves, or is closed
abbrev pub is_opened : Home → Bool
is_opened (Serving its) = true
is_opened Unopened = false
is_opened Closed = true

-- without its expired rows
abbrev pub unexpired_home : Home → ℕ → Home
unexpired_home (Serving its) m = Serving (record its { rows = unexpired_rows its m })
unexpired_home Unopened m = Unopened
unexpired_home Closed m = Closed

-- the queue that a dead row leaves for
abbrev pub target_at : Home → Option ℕ
target_at (Serving its) = dead_target its.settings.redrive
target_at Unopened = None
target_at Closed = None

-- the queue that a row leaves for so: of a drain the home's own
abbrev pub leave_target : HomeLeave → Site → Home → Option ℕ
leave_target Dead site home = target_at home
leave_target Drain site home = Some site.home.queue

-- the home has this row at m
abbrev pub HasRow : Home → ℕ → Row → Type 0
HasRow (Serving its) m row = Contains (unexpired_rows its m) row
HasRow Unopened m row = ⊥
HasRow Closed m row = ⊥

-- the row goes out, and the others stay
abbrev pub GoesWithout : Home → ℕ → Row → Home → Type 0
GoesWithout (Serving its) m row after = (rest : List Row) × Takes row (unexpired_rows its m) rest × (after ≡ Serving (record its { rows = rest }))
GoesWithout Unopened m row after = ⊥
GoesWithout Closed m row after = ⊥

-- one row more uses spare memory for one; where there was none, there is spare memory for three more
pub record UsesSpareRow (old new : ℕ) : Type 0 where
  pub used : old ≤ new + 1
  pub got : old ≡ 0 → 3 ≤ new

-- a row that comes in uses spare memory, and no other call does
abbrev pub KeepsSpareRows : HomeCall → ℕ → ℕ → Type 0
KeepsSpareRows (Send body delay) old new = UsesSpareRow old new
KeepsSpareRows (call.Enter item) old new = UsesSpareRow old new
KeepsSpareRows (call.GiveBack item) old new = UsesSpareRow old new
KeepsSpareRows other old new = new ≡ old

-- a row comes in
abbrev pub PutsRow : ItemAct → Type 0
PutsRow Enter = Unit {0}
PutsRow TurnBack = ⊥
PutsRow GiveBack = Unit {0}
PutsRow Drop = ⊥

-- why a home takes no row at m
abbrev pub coming_refusal : Site → Home → ℕ → Option Refusal → Option Refusal
coming_refusal site (Serving its) m later = full_refusal site.limits its.mode its.next (unexpired_rows its m) later
coming_refusal site Unopened m later = Some QueueDoesNotExist
coming_refusal site Closed m later = Some QueueDoesNotExist

-- why no item is sent back from a home, or dropped there: it is not closed, or the item is not one for that
abbrev pub closed_refusal : Home → Bool → Option Refusal
closed_refusal (Serving its) is_its = Some UnsupportedOperation
closed_refusal Unopened is_its = Some QueueDoesNotExist
closed_refusal Closed is_its = refused_if (not is_its) UnsupportedOperation None

-- why an item is not done with at a home: its row comes in, or the home is to be closed
abbrev pub item_refusal : ItemAct → Site → Home → ℕ → Option Item → Option Refusal
item_refusal Enter site home m item = coming_refusal site home m (refused_if (not (is_its Enter site.home item)) UnsupportedOperation None)
item_refusal TurnBack site home m item = closed_refusal home (is_its TurnBack site.home item)
item_refusal GiveBack site home m item = coming_refusal site home m (refused_if (not (is_its GiveBack site.home item)) UnsupportedOperation None)
item_refusal Drop site home m item = closed_refusal home (is_its Drop site.home item)

-- a home can do it with an item that is one for it
abbrev pub IsFor : ItemAct → Site → Home → ℕ → Type 0
IsFor Enter site home m = coming_refusal site home m None ≡ None
IsFor TurnBack site home m = home ≡ Closed
IsFor GiveBack site home m = coming_refusal site home m None ≡ None
IsFor Drop site home m = home ≡ Closed
