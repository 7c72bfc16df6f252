-- The histories of all parts of the system, and the one list that they are merged into.
use Rattle.std.specs.Prelude.{◌≡◌, ℕ, suc, Bool, true, false, not, ◌==◌, cond, List, [], ◌∷◌, ◌++◌, unwrap_or, slice_get}
use Rattle.std.specs.List.{AllByRecursion}
use Rattle.std.specs.Ordering.{nat_cmp, ordering_then, is_lt}
use Rattle.std.specs.declared.cmp.Ordering.{Ordering}
use Rattle.sq_base.specs.Stamps.{stamp_cmp}
use Rattle.sq_model.specs.Replays.{HomeEvent}
use Rattle.sq_model.specs.Ledgers.{LedgerEvent, is_own}
use Rattle.sq_model.specs.Systems.{DirectoryEvent, Tag, OfDirectory, OfLedger, OfHome, is_alone, ledger_part, stamp_of}

-- the events of the directory
abbrev pub of_directory : List Tag → List DirectoryEvent
of_directory [] = []
of_directory (OfDirectory e ∷ ts) = e ∷ of_directory ts
of_directory (OfLedger e ∷ ts) = of_directory ts
of_directory (OfHome i e ∷ ts) = of_directory ts

-- the events of the ledger, those that it shares with a home among them
abbrev pub of_ledger : List Tag → List LedgerEvent
of_ledger [] = []
of_ledger (OfDirectory e ∷ ts) = of_ledger ts
of_ledger (OfLedger e ∷ ts) = e ∷ of_ledger ts
of_ledger (OfHome i e ∷ ts) = ledger_part e ++ of_ledger ts

-- what stands as the ledger's is the ledger's alone
abbrev pub LedgerIsAlone : List Tag → Type 0
LedgerIsAlone [] = Unit {0}
LedgerIsAlone (OfDirectory e ∷ ts) = LedgerIsAlone ts
LedgerIsAlone (OfLedger e ∷ ts) = (is_own e.call ≡ true) × LedgerIsAlone ts
LedgerIsAlone (OfHome i e ∷ ts) = LedgerIsAlone ts

-- a step of the ledger, or one that a home shares with it
abbrev pub is_move : Tag → Bool
is_move (OfDirectory e) = false
is_move (OfLedger e) = true
is_move (OfHome i e) = not (is_alone e.call)

-- the events of the home at an index
abbrev pub of_home : ℕ → List Tag → List HomeEvent
of_home j [] = []
of_home j (OfDirectory e ∷ ts) = of_home j ts
of_home j (OfLedger e ∷ ts) = of_home j ts
of_home j (OfHome i e ∷ ts) = cond (i == j) (e ∷ of_home j ts) (of_home j ts)

-- the events of the home at an index, none where no home is
abbrev pub history_at : List (List HomeEvent) → ℕ → List HomeEvent
history_at homes i = unwrap_or (slice_get homes i) []

-- the directory comes first, the ledger second, and then the homes in their order
abbrev pub rank_of : Tag → ℕ
rank_of (OfDirectory e) = 0
rank_of (OfLedger e) = 1
rank_of (OfHome i e) = suc (suc i)

-- by stamp, and at equal stamps by rank
abbrev pub tag_cmp : Tag → Tag → Ordering
tag_cmp t u = ordering_then (stamp_cmp (stamp_of t) (stamp_of u)) (nat_cmp (rank_of t) (rank_of u))

abbrev pub is_before : Tag → Tag → Bool
is_before t u = is_lt (tag_cmp t u)

-- nothing is before what stands before it
abbrev pub InOrder : {X : Type 0} → (X → X → Bool) → List X → Type 0
InOrder lt [] = Unit {0}
InOrder lt (x ∷ xs) = AllByRecursion (λ y. lt y x ≡ false) xs × InOrder lt xs

-- all events of the directory, of the ledger and of all homes, and no others, sorted by stamp; those of one part stand in their order, and what a home shares with the ledger stands once
pub record IsMerged (directory : List DirectoryEvent) (ledger : List LedgerEvent) (homes : List (List HomeEvent)) (run : List Tag) : Type 0 where
  pub of_the_directory : of_directory run ≡ directory
  pub of_the_ledger : of_ledger run ≡ ledger
  pub ledger_is_alone : LedgerIsAlone run
  pub of_each_home : (i : ℕ) → of_home i run ≡ history_at homes i
  pub in_order : InOrder is_before run
