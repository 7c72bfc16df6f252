-- How the rows of a home are found.
use Rattle.std.specs.Prelude.{◌≡◌, ℕ, true, List, [], ◌∷◌}
use Rattle.std.specs.List.{list_any}
use Rattle.std.specs.List.Sorted.{IsStrictlySortedBy}
use Rattle.std.specs.Map.{keys_of}
use Rattle.std.specs.Ordering.{nat_cmp, ordering_then}
use Rattle.std.specs.declared.cmp.Ordering.{Ordering}
use Rattle.std.specs.BTreeMap.{is_at}
use Rattle.sq_places.specs.declared.state.RowState.{RowState}

-- by moment, then by serial
abbrev pub age_cmp : ℕ × ℕ → ℕ × ℕ → Ordering
age_cmp a b = ordering_then (nat_cmp a.0 b.0) (nat_cmp a.1 b.1)

abbrev pub age_of : RowState → ℕ × ℕ
age_of row = (row.enqueued, row.serial)

-- each row stands at its serial, and its age is there
abbrev pub HaveAges : List (ℕ × ℕ) → List (ℕ × RowState) → Type 0
HaveAges ages [] = Unit {0}
HaveAges ages (e ∷ es) = (e.0 ≡ e.1.serial) × (list_any (is_at (age_cmp (age_of e.1))) ages ≡ true) × HaveAges ages es

pub record AreIndexed (ages : List (ℕ × ℕ)) (rows : List (ℕ × RowState)) : Type 0 where
  pub ordered : IsStrictlySortedBy nat_cmp (keys_of rows)
  pub each : HaveAges ages rows
