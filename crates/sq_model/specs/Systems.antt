-- The whole system: the queues, the ledger and all homes, and how it goes on from event to event.
use Rattle.std.specs.Prelude.{◌≡◌, ℕ, ◌≤◌, Bool, true, false, ◌&&◌, ◌==◌, List, [], ◌∷◌, map, count_by, slice_get, slice_set, Option, Some, None}
use Rattle.sq_base.specs.StampValue.{StampValue}
use Rattle.sq_base.specs.declared.ids.HomeId.{HomeId}
use Rattle.sq_model.specs.declared.place.Site.{Site}
use Rattle.sq_model.specs.declared.place.Component.{Component}
use Rattle.sq_model.specs.declared.place.Component.TheVariants as part
use Rattle.sq_model.specs.declared.ledger.LedgerCall.{LedgerCall}
use Rattle.sq_model.specs.declared.ledger.LedgerCall.TheVariants.{AtHome as CallAtHome, StartTask, CancelTask, ListTasks, FinishTask}
use Rattle.sq_model.specs.declared.ledger.LedgerReply.TheVariants.{AtHome as ReplyAtHome}
use Rattle.sq_model.specs.declared.event.Event.{Event}
use Rattle.sq_model.specs.declared.directory.DirectoryCall.{DirectoryCall}
use Rattle.sq_model.specs.declared.directory.DirectoryReply.{DirectoryReply}
pub use Rattle.sq_model.specs.Passages.{is_alone}
use Rattle.sq_model.specs.Replays.{HomeEvent, Replays}
use Rattle.sq_model.specs.Homes.{Home, Unopened, HomeStep}
use Rattle.sq_model.specs.Directories.{Directory, DirectoryStep, opening_directory}
use Rattle.sq_model.specs.Ledgers.{Ledger, LedgerEvent, LedgerStep, is_own, opening_ledger}

-- a home and where it stands
pub record HomeAt : Type 0 where
  pub site : Site
  pub home : Home

pub record System : Type 0 where
  pub directory : Directory
  pub ledger : Ledger
  pub homes : List HomeAt

abbrev pub DirectoryEvent : Type 0
DirectoryEvent = Event DirectoryCall DirectoryReply

-- An event, and the part of the system that it is of: the directory, the ledger alone, or the home at an index in the list of all homes. What a home shares with the ledger stands once, as the home's.
pub data Tag : Type 0 where
  OfDirectory : DirectoryEvent → Tag
  OfLedger : LedgerEvent → Tag
  OfHome : ℕ → HomeEvent → Tag

abbrev pub stamp_of : Tag → StampValue
stamp_of (OfDirectory e) = e.stamp
stamp_of (OfLedger e) = e.stamp
stamp_of (OfHome i e) = e.stamp

-- an event that a home shares with the ledger, as it stands in the ledger's history
abbrev pub as_ledger : HomeId → HomeEvent → LedgerEvent
as_ledger home e = record { stamp = e.stamp; actor = e.actor; place = e.place; component = e.component; call = CallAtHome home e.call; reply = ReplyAtHome e.reply }

-- of an event of a home, what stands in the ledger's history too
abbrev pub ledger_part_of : Bool → Component → HomeEvent → List LedgerEvent
ledger_part_of true component e = []
ledger_part_of false part.Directory e = []
ledger_part_of false part.Ledger e = []
ledger_part_of false (part.Home home) e = as_ledger home e ∷ []

abbrev pub ledger_part : HomeEvent → List LedgerEvent
ledger_part e = ledger_part_of (is_alone e.call) e.component e

-- what a step of a home does to the ledger: nothing, where it is the home's alone
abbrev pub LedgerGoes : Bool → Ledger → HomeId → HomeEvent → Ledger → Type 0
LedgerGoes true l home e after = after ≡ l
LedgerGoes false l home e after = LedgerStep l e.stamp.moment (CallAtHome home e.call) (ReplyAtHome e.reply) after

-- the event is a step of the directory, and all else stays
pub record DirectorySteps (before : System) (e : DirectoryEvent) (after : System) : Type 0 where
  pub component : e.component ≡ part.Directory
  pub step : DirectoryStep before.directory e.stamp.moment e.call e.reply after.directory
  pub ledger : after.ledger ≡ before.ledger
  pub homes : after.homes ≡ before.homes

-- the event is a step of the ledger alone, and all else stays
pub record LedgerSteps (before : System) (e : LedgerEvent) (after : System) : Type 0 where
  pub component : e.component ≡ part.Ledger
  pub own : is_own e.call ≡ true
  pub step : LedgerStep before.ledger e.stamp.moment e.call e.reply after.ledger
  pub directory : after.directory ≡ before.directory
  pub homes : after.homes ≡ before.homes

-- the event is a step of the home at this index, and of the ledger where they share it, and all else stays
pub record HomeSteps (before : System) (i : ℕ) (e : HomeEvent) (after : System) : Type 0 where
  pub old : HomeAt
  pub new : Home
  pub in_list : slice_get before.homes i ≡ Some old
  pub component : e.component ≡ part.Home old.site.home
  pub step : HomeStep old.site old.home e.stamp.moment e.call e.reply new
  pub ledger : LedgerGoes (is_alone e.call) before.ledger old.site.home e after.ledger
  pub homes : after.homes ≡ slice_set before.homes i (record { site = old.site; home = new })
  pub directory : after.directory ≡ before.directory

abbrev pub IsStep : System → Tag → System → Type 0
IsStep before (OfDirectory e) after = DirectorySteps before e after
IsStep before (OfLedger e) after = LedgerSteps before e after
IsStep before (OfHome i e) after = HomeSteps before i e after

-- from a system, by these events in order, to another
abbrev pub RunFrom : System → List Tag → System → Type 0
RunFrom before [] after = after ≡ before
RunFrom before (t ∷ ts) after = (mid : System) × IsStep before t mid × RunFrom mid ts after

-- moments never fall
abbrev pub MomentsRise : ℕ → List Tag → Type 0
MomentsRise low [] = Unit {0}
MomentsRise low (t ∷ ts) = (low ≤ (stamp_of t).moment) × MomentsRise (stamp_of t).moment ts

-- what a system is opened with: how many queues may ever be made, how many messages may be in transit, and its homes
pub record Opening : Type 0 where
  pub queues : ℕ
  pub transit : ℕ
  pub sites : List Site

-- no queue, nothing in transit, and homes that were never opened
abbrev pub opening : Opening → System
opening o = record { directory = opening_directory o.queues; ledger = opening_ledger o.transit; homes = map (λ site. record { site = site; home = Unopened }) o.sites }

abbrev pub same_home : HomeId → HomeId → Bool
same_home x y = (y.queue == x.queue) && (y.home == x.home)

-- each home stands at one place
abbrev pub IsOnePlace : List Site → Type 0
IsOnePlace sites = (x : HomeId) → count_by (λ site. same_home x site.home) sites ≤ 1

-- a run of the whole system from its opening
pub record IsRun (o : Opening) (run : List Tag) (after : System) : Type 0 where
  pub steps : RunFrom (opening o) run after
  pub moments : MomentsRise 0 run

-- these are events of this home
abbrev pub AreOfHome : HomeId → List HomeEvent → Type 0
AreOfHome home [] = Unit {0}
AreOfHome home (e ∷ es) = (e.component ≡ part.Home home) × AreOfHome home es

-- an event that is the ledger's own names the ledger, and one that it shares with a home the home
abbrev pub NamesItsPart : LedgerCall → Component → Type 0
NamesItsPart (CallAtHome home call) component = component ≡ part.Home home
NamesItsPart (StartTask source destination rate) component = component ≡ part.Ledger
NamesItsPart (CancelTask number) component = component ≡ part.Ledger
NamesItsPart (ListTasks source most) component = component ≡ part.Ledger
NamesItsPart (FinishTask number) component = component ≡ part.Ledger

-- these are events of the ledger
abbrev pub AreLedger : List LedgerEvent → Type 0
AreLedger [] = Unit {0}
AreLedger (e ∷ es) = NamesItsPart e.call e.component × AreLedger es

-- these are events of the directory
abbrev pub AreDirectory : List DirectoryEvent → Type 0
AreDirectory [] = Unit {0}
AreDirectory (e ∷ es) = (e.component ≡ part.Directory) × AreDirectory es

-- the home of a place goes by these events from one value to another
abbrev pub HomeGoes : Option HomeAt → List HomeEvent → Option HomeAt → Type 0
HomeGoes (Some old) es (Some new) = (new.site ≡ old.site) × AreOfHome old.site.home es × Replays (HomeStep old.site) old.home es new.home
HomeGoes None es None = es ≡ []
HomeGoes old es new = ⊥
