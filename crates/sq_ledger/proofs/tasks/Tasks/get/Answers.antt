use Rattle.std.proofs.Common.{rules, ◌≡◌, ◌<◌, ◌≤◌, Some, length, refl, sym}
use Rattle.std.specs.Prelude.{slice_get}
use Rattle.std.proofs.lemmas.Option.{slice_get_read}
use Rattle.sq_ledger.proofs.TaskLaws.{found_row, no_row}
use Rattle.sq_ledger.proofs.tasks.Tasks.get.Goals as goal

pub returns-in_err-row : goal.returns-in_err-row
returns-in_err-row c =
    let rows = c.self.inside.rows.items in
    let past : length rows ≤ c.index_of.result = search rules in
    rw (← c.self.view_is, c.from_residual.ensures) (sym (no_row c.args.number rows c.index_of.result c.self.invariant.0.count c.index_of.ensures past))

pub returns : goal.returns
returns c =
    let rows = c.self.inside.rows.items in
    let below : c.index_of.result < length c.deref.result.now = search rules in
    let there : slice_get c.deref.result.now c.index_of.result ≡ Some c.in_ok-row.row.now = slice_get_read c.deref.result.now (length c.deref.result.now) c.index_of.result c.in_ok-row.row.now refl below c.in_ok-row.ensures.lookup.1 in
    rw (← c.self.view_is) (sym (found_row c.args.number rows c.index_of.result c.in_ok-row.row.now c.self.invariant.0.count c.index_of.ensures (rw c.deref.ensures.value at there)))
