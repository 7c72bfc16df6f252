-- What a verdict on a service says, and the parts that it is of.
use Rattle.std.specs.Prelude.{ℕ, List, ◌≡◌, ◌≢◌, ◌⊎◌, ◌+◌, ◌≤◌, ◌++◌, length, map, sum_by}
use Rattle.sq_model.specs.Merges.{IsMerged}
use Rattle.sq_model.specs.RecordValues.{Journal}
use Rattle.sq_model.specs.Systems.{IsOnePlace, IsRun, Tag}
use Rattle.sq_audit.specs.Actors.{ActorsRise, PartsRise}
use Rattle.sq_audit.specs.Faults.{IsWrong}
use Rattle.sq_audit.specs.HomeHistories.{histories_of}
use Rattle.sq_audit.specs.Matched.{AreMatched, ArePaired}
use Rattle.sq_audit.specs.SystemNow.{events_of, system_now, opening_now}
use Rattle.sq_audit.specs.declared.check.AuditFault.{AuditFault}
use Rattle.sq_audit.specs.declared.check.AuditFault.TheVariants.{NoMemory}
use Rattle.sq_audit.specs.declared.parts.Parts.{Parts}
use Rattle.sq_queue.specs.Evidence.{first_of_each}
use Rattle.sq_queue.specs.SessionValue.{SessionValue}
use Rattle.sq_queue.specs.Tallies.{directory_records, ledger_records}

-- What was done to these parts, sorted by stamp, is one run that leaves them as they are, in which each event has its record and each record its event, and the steps
-- of each actor stand in its order. No two homes have one id.
pub record IsOneRun (p : Parts) : Type 0 where
  pub run : List Tag
  pub merged : IsMerged p.directory.events p.ledger.history.events (events_of p.homes.homes) run
  pub leaves : IsRun (opening_now p.directory p.ledger.history p.homes.homes) run (system_now p.directory p.ledger.history p.homes.homes)
  pub matched : AreMatched p
  pub paired : ArePaired p
  pub actors : ActorsRise run
  pub parts : PartsRise run
  pub one_place : IsOnePlace (map (λ h. h.site) p.homes.homes)

-- The parts that a service of so many homes leaves: their records are those of these sessions, and then those of sessions that were given back before; of each actor the first, though
-- no two sessions are of one actor. No more sessions left them than were made. Where none is missing, each history has as many events as there are records of it.
pub record AreLeftBy (homes : ℕ) (sessions : List SessionValue) (p : Parts) : Type 0 where
  pub records : (before : List Journal) × (p.records ≡ first_of_each (map (λ s. s.journal) sessions ++ before)) × (length sessions + length before ≤ p.made)
  pub made : p.made ≤ 4294967295
  pub homes_of : length p.homes.homes ≡ homes
  pub directory : length p.records ≡ p.made → length p.directory.events ≡ sum_by (λ a. directory_records a.records) p.records
  pub ledger : length p.records ≡ p.made → length p.ledger.history.events ≡ sum_by (λ a. ledger_records a.records) p.records

-- these are such parts, and what was done to them is one run
abbrev pub IsRunLeft : ℕ → List SessionValue → Parts → Type 0
IsRunLeft homes sessions p = AreLeftBy homes sessions p × IsOneRun p

-- the same of some sessions
abbrev pub IsRunOf : ℕ → Parts → Type 0
IsRunOf homes p = (sessions : List SessionValue) × IsRunLeft homes sessions p

-- what was done to a service of so many homes is one run
abbrev pub LeavesRun : ℕ → Type 0
LeavesRun homes = (p : Parts) × IsRunOf homes p

-- such parts are left, and of them it is so what a fault says
abbrev pub LeavesFault : ℕ → List SessionValue → AuditFault → Type 0
LeavesFault homes sessions fault = (p : Parts) × AreLeftBy homes sessions p × IsWrong p.directory.events p.ledger.history.events (histories_of p.homes.homes) p.records fault

-- there was no memory for an audit, or it found a fault in parts that are left
abbrev pub IsFaultLeft : ℕ → List SessionValue → AuditFault → Type 0
IsFaultLeft homes sessions fault = (fault ≡ NoMemory) ⊎ LeavesFault homes sessions fault

-- the same of some sessions
abbrev pub IsFaultOf : ℕ → AuditFault → Type 0
IsFaultOf homes fault = (sessions : List SessionValue) × IsFaultLeft homes sessions fault

-- an audit found a fault in what was done to a service of so many homes
abbrev pub LeavesNoRun : ℕ → Type 0
LeavesNoRun homes = (fault : AuditFault) × (fault ≢ NoMemory) × IsFaultOf homes fault
