use Rattle.std.proofs.Common.{◌≡◌, ◌<◌, ◌∙◌, ℕ, ◌++◌, ◌∷◌, [], Some, ap, is_some, refl, subst, sym}
use Rattle.std.specs.List.{All}
use Rattle.slab.specs.Slab.{ContainsKey, Slab, Updates, with_value}
use Rattle.slab.proofs.SlabLemmas.{Updates-with_value}
use Rattle.sq_base.specs.declared.row.Row.{Row}
use Rattle.sq_slots.specs.Slots.{IsTable, in_slot, is_in}
use Rattle.sq_slots.proofs.RowLists.{any_is_found}
use Rattle.sq_slots.proofs.TableLaws.{comes_last, found_in, rows_apart, rows_of, table_with}
use Rattle.sq_slots.proofs.table.SlotTable.insert.Goals as goal
use Rattle.sq_slots.proofs.table.SlotTable.insert.Goals.{After-self-1}

-- a row that was put in is written again
written : (old mid : Slab Row) (key : ℕ) (row new : Row) → Updates old mid key (Some row) → Updates old (with_value mid key new) key (Some new)
written old mid key row new put =
    let there : ContainsKey mid key = rw put.changed refl in
    let again = Updates-with_value mid key new there in
    record { changed = again.changed; others = λ other differs. again.others other differs ∙ put.others other differs }

-- the row is as it came, and then has its slot
put : (c : After-self-1) → Updates c.self.inside.rows (with_value c.insert_reserved-key.new.self c.insert_reserved-key.result (in_slot c.insert_reserved-key.result c.args.row)) c.insert_reserved-key.result (Some (in_slot c.insert_reserved-key.result c.args.row))
put c = written c.self.inside.rows c.insert_reserved-key.new.self c.insert_reserved-key.result c.args.row (in_slot c.insert_reserved-key.result c.args.row) c.insert_reserved-key.ensures.updates

read : (c : After-self-1) → c.args.row ≡ c.index_mut.result.now
read c = let both : Some c.args.row ≡ Some c.index_mut.result.now = sym c.insert_reserved-key.ensures.updates.changed ∙ c.index_mut.ensures.value in cc

above : (c : After-self-1) → All (λ (r : Row). r.serial < c.args.row.serial) (rows_of c.self.inside.rows)
above c = rw (← c.self.view_is) at c.requires.above

pub invariant_of-self : goal.invariant_of-self
invariant_of-self c =
    let key = c.insert_reserved-key.result in
    let mid = c.insert_reserved-key.new.self in
    subst (λ (r : Row). IsTable (with_value mid key (in_slot key r))) (read c)
    (table_with c.self.inside.rows (with_value mid key (in_slot key c.args.row)) c.self.invariant key c.args.row c.insert_reserved-key.ensures.was_vacant (put c) (above c))

pub returns-clause-free : goal.returns-clause-free
returns-clause-free c =
    let table = c.self.inside.rows in
    let key = c.insert_reserved-key.result in
    rw (← c.self.view_is) (any_is_found (is_in key) (rows_of table) ∙ ap is_some (found_in table c.self.invariant key ∙ c.insert_reserved-key.ensures.was_vacant))

pub returns-clause-rows : goal.returns-clause-rows
returns-clause-rows c =
    let key = c.insert_reserved-key.result in
    let mid = c.insert_reserved-key.new.self in
    rw (← c.self.view_is) (subst (λ (r : Row). rows_of (with_value mid key (in_slot key r)) ≡ rows_of c.self.inside.rows ++ in_slot key c.args.row ∷ []) (read c)
    (comes_last c.self.inside.rows (with_value mid key (in_slot key c.args.row)) c.self.invariant key c.args.row c.insert_reserved-key.ensures.was_vacant (put c) (above c)))

pub returns-clause-apart : goal.returns-clause-apart
returns-clause-apart c = rw (← c.self.view_is) (rows_apart c.self.inside.rows c.self.invariant)
