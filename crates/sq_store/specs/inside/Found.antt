-- Rows found by their deadlines. Own.
use Rattle.std.specs.Prelude.{ℕ, ◌&&◌, Bool, not, List, Option, filter, filter_map, find}
use Rattle.sq_base.specs.declared.row.Row.{Row}
use Rattle.sq_base.specs.declared.settings.Settings.{Settings}
use Rattle.sq_deadline.specs.declared.deadline.Deadline.{Deadline}
use Rattle.sq_deadline.specs.Deadlines.{is_due}
use Rattle.sq_model.specs.Rows.{is_at_rest, is_dead, is_expired, is_live}
use Rattle.sq_slots.specs.Slots.{is_in}
use Rattle.sq_store.specs.declared.due.Wanted.{Wanted}
use Rattle.sq_store.specs.declared.due.Wanted.TheVariants.{AtRest, Live, Dead}

-- the row of a deadline
abbrev pub row_of : List Row → Deadline → Option Row
row_of rows d = find (is_in d.slot) rows

-- the rows of these deadlines that pass, in the order of the deadlines
abbrev pub found : (Row → Bool) → List Row → List Deadline → List Row
found p rows ds = filter p (filter_map (row_of rows) ds)

-- those of the deadlines that are due
abbrev pub found_due : (Row → Bool) → List Row → ℕ → List Deadline → List Row
found_due p rows m ds = found p rows (filter (is_due m) ds)

-- what is looked for
abbrev pub is_wanted : Wanted → Settings → ℕ → Row → Bool
is_wanted Live = is_live
is_wanted Dead = is_dead
is_wanted AtRest = λ s. is_at_rest

-- what is not past its retention, and passes
abbrev pub is_kept_and : (Row → Bool) → Settings → ℕ → Row → Bool
is_kept_and p s m row = not (is_expired s m row) && p row
