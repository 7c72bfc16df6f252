-- Records as they are lent, and as they are kept.
use Rattle.std.specs.Prelude.{ℕ, Bool, ◌≡◌, ◌+◌, ◌<◌, ◌++◌, ◌∷◌, [], true, false, List, length, map, take, nat_le, if◌then◌else◌, Option, None, Some, slice_get}
use Rattle.std.specs.List.{list_any}
use Rattle.std.specs.Str.{bytes_eq}
use Rattle.sq_base.specs.Stamps.{start}
use Rattle.sq_model.specs.declared.ledger.LedgerCall.TheVariants.{FinishTask}
use Rattle.sq_model.specs.declared.ledger.LedgerReply.TheVariants.{Finished}
use Rattle.sq_model.specs.RecordValues.{RecordValue, HomeRecordValue, OfDirectory, OfLedger, OfHome, place_of_record}
use Rattle.sq_history.specs.Records.{with_home}
use Rattle.sq_steps.specs.declared.records.Kept.{Kept}
use Rattle.sq_steps.specs.declared.records.Kept.TheVariants.{Home, Named, Other as AmongOthers}
use Rattle.sq_steps.specs.declared.records.Other.{Other}
use Rattle.sq_steps.specs.declared.records.Other.TheVariants.{Directory, Ledger}

abbrev pub value_of_other : Other → RecordValue
value_of_other (Directory n) = OfDirectory n
value_of_other (Ledger n) = OfLedger n

-- what stands for a record where none is there, which is never so
abbrev pub no_record : RecordValue
no_record = OfLedger (record { place = 0; stamp = start; index = 0; call = FinishTask 1; reply = Finished })

abbrev pub other_at : Option Other → RecordValue
other_at None = no_record
other_at (Some other) = value_of_other other

-- a record of a home, by no name or by the one at an index; or the one at an index among the others
abbrev pub value_of_kept : List Other → List (List ℕ) → Kept → RecordValue
value_of_kept others names (Home home step) = OfHome (with_home home None step)
value_of_kept others names (Named at home step) = OfHome (with_home home (slice_get names at) step)
value_of_kept others names (AmongOthers at) = other_at (slice_get others at)

-- the number of its step
abbrev pub place_of_kept : List Other → Kept → ℕ
place_of_kept others (Home home step) = step.place
place_of_kept others (Named at home step) = step.place
place_of_kept others (AmongOthers at) = place_of_record (other_at (slice_get others at))

abbrev pub values_of_kept : List Other → List (List ℕ) → List Kept → List RecordValue
values_of_kept others names kept = map (value_of_kept others names) kept

-- the elements without the first one that passes
abbrev pub without_first : {X : Type 0} → (X → Bool) → List X → List X
without_first p [] = []
without_first p (x ∷ xs) = if p x then xs else x ∷ without_first p xs

-- the first one that passes stands at this index
pub record IsFirstAt {X : Type 0} (p : X → Bool) (xs : List X) (at : ℕ) : Type 0 where
  pub within : at < length xs
  pub before : list_any p (take at xs) ≡ false
  pub passes : list_any p (take (at + 1) xs) ≡ true

-- what it points to is there, where there are so many others and so many names
abbrev pub IsIn : ℕ → ℕ → Kept → Type 0
IsIn others names (Home home step) = Unit {0}
IsIn others names (Named at home step) = at < names
IsIn others names (AmongOthers at) = at < others

-- What contracts see of the names that an actor used: them, the first first, and for how many more there is memory.
pub record NamesValue : Type 0 where
  pub names : List (List ℕ)
  pub reserved : ℕ

-- the names with this one, which is put last where it is not there
abbrev pub with_name : List ℕ → List (List ℕ) → List (List ℕ)
with_name name names = if list_any (bytes_eq name) names then names else names ++ name ∷ []

-- a name is there, at this index: it was put where it was not there, and no other was
pub record HasPut (old new : List (List ℕ)) (name : List ℕ) (at : ℕ) : Type 0 where
  pub there : slice_get new at ≡ Some name
  pub put : new ≡ with_name name old

-- a record of a home is kept so, and the name that was used is there
abbrev pub IsKeptAs : List (List ℕ) → List (List ℕ) → HomeRecordValue → Kept → Type 0
IsKeptAs old new n (Home home step) = (new ≡ old) × (n ≡ with_home home None step)
IsKeptAs old new n (Named at home step) = (name : List ℕ) × HasPut old new name at × (n ≡ with_home home (Some name) step)
IsKeptAs old new n (AmongOthers at) = ⊥

-- the lesser of two numbers
abbrev pub least : ℕ → ℕ → ℕ
least a b = if nat_le a b then a else b
