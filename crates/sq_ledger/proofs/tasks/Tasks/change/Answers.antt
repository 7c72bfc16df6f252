use Rattle.std.proofs.Common.{◌≡◌, ◌∙◌, ◌-◌, MutBor, Some, None, true, false, not, refl, sym, arith}
use Rattle.std.specs.Prelude.{◌==◌, ◌&&◌, find, slice_get}
use Rattle.indexmap.specs.IndexMap.{get}
use Rattle.sq_model.specs.Ledgers.{is_task}
use Rattle.sq_model.specs.Tasks.{is_active}
use Rattle.sq_ledger.specs.declared.tasks.TaskRow.{TaskRow}
use Rattle.sq_ledger.specs.TaskIndexes.{changed_by, tasks_in}
use Rattle.sq_ledger.proofs.TaskLaws.{changed_at, may_change, no_task, as_many, one_active, one_less, read_row, tasks_kept}
use Rattle.sq_ledger.proofs.tasks.Tasks.change.Goals as goal

pub apply-requires : goal.apply-requires
apply-requires c =
    let rows = c.self.inside.rows.items in
    let there : slice_get rows c.index_of.result ≡ Some c.in-Some.row.now = sym (read_row (λ (x : MutBor TaskRow). x.now) rows c.index_of.result c.get_mut.result c.get_mut.ensures.item) ∙ rw c.in-Some.is refl in
    may_change c.args.number c.args.change rows c.index_of.result c.in-Some.row.now c.self.invariant.0.count c.index_of.ensures there (rw (← c.self.view_is) at c.requires.may)

pub overflow_sub-self : goal.overflow_sub-self
overflow_sub-self c =
    let rows = c.self.inside.rows.items in
    let there : slice_get rows c.index_of.result ≡ Some c.in-Some.row.now = sym (read_row (λ (x : MutBor TaskRow). x.now) rows c.index_of.result c.get_mut.result c.get_mut.ensures.item) ∙ rw c.in-Some.is refl in
    one_active c.args.number c.args.change rows c.index_of.result c.in-Some.row.now (get (λ a b. a == b) c.self.inside.last) c.self.inside.active c.self.invariant.0 c.index_of.ensures there (rw c.apply.ensures.task at c.if-apply.ensures.ends)

pub invariant_of-self : goal.invariant_of-self
invariant_of-self c =
    let rows = c.self.inside.rows.items in
    let there : slice_get rows c.index_of.result ≡ Some c.in-Some.row.now = sym (read_row (λ (x : MutBor TaskRow). x.now) rows c.index_of.result c.get_mut.result c.get_mut.ensures.item) ∙ rw c.in-Some.is refl in
    let ends : true ≡ (is_active c.in-Some.row.now.task.status && not (is_active (changed_by c.args.change c.in-Some.row.now.task).status)) = rw c.apply.ensures.task at c.if-apply.ensures.ends in
    let below = one_active c.args.number c.args.change rows c.index_of.result c.in-Some.row.now (get (λ a b. a == b) c.self.inside.last) c.self.inside.active c.self.invariant.0 c.index_of.ensures there ends in
    rw c.apply.ensures.task (tasks_kept c.args.number c.args.change rows c.index_of.result c.in-Some.row.now (get (λ a b. a == b) c.self.inside.last) c.self.inside.active (c.self.inside.active - 1) c.self.invariant.0 c.index_of.ensures there (one_less c.self.inside.active _ ends below), c.self.invariant.1)

pub invariant_of-self-else-apply : goal.invariant_of-self-else-apply
invariant_of-self-else-apply c =
    let rows = c.self.inside.rows.items in
    let there : slice_get rows c.index_of.result ≡ Some c.in-Some.row.now = sym (read_row (λ (x : MutBor TaskRow). x.now) rows c.index_of.result c.get_mut.result c.get_mut.ensures.item) ∙ rw c.in-Some.is refl in
    let ends : false ≡ (is_active c.in-Some.row.now.task.status && not (is_active (changed_by c.args.change c.in-Some.row.now.task).status)) = rw c.apply.ensures.task at c.if-apply.ensures.ends in
    rw c.apply.ensures.task (tasks_kept c.args.number c.args.change rows c.index_of.result c.in-Some.row.now (get (λ a b. a == b) c.self.inside.last) c.self.inside.active c.self.inside.active c.self.invariant.0 c.index_of.ensures there (as_many c.self.inside.active _ ends), c.self.invariant.1)

pub returns-then-apply-clause-items : goal.returns-then-apply-clause-items
returns-then-apply-clause-items c =
    let rows = c.self.inside.rows.items in
    let there : slice_get rows c.index_of.result ≡ Some c.in-Some.row.now = sym (read_row (λ (x : MutBor TaskRow). x.now) rows c.index_of.result c.get_mut.result c.get_mut.ensures.item) ∙ rw c.in-Some.is refl in
    rw (← c.self.view_is, c.apply.ensures.task) (changed_at c.args.number 1 (changed_by c.args.change) rows c.index_of.result c.in-Some.row.now c.self.invariant.0.count (omega (arith, c.index_of.ensures)) there)

pub returns-else-apply-clause-items : goal.returns-else-apply-clause-items
returns-else-apply-clause-items c =
    let rows = c.self.inside.rows.items in
    let there : slice_get rows c.index_of.result ≡ Some c.in-Some.row.now = sym (read_row (λ (x : MutBor TaskRow). x.now) rows c.index_of.result c.get_mut.result c.get_mut.ensures.item) ∙ rw c.in-Some.is refl in
    rw (← c.self.view_is, c.apply.ensures.task) (changed_at c.args.number 1 (changed_by c.args.change) rows c.index_of.result c.in-Some.row.now c.self.invariant.0.count (omega (arith, c.index_of.ensures)) there)

pub returns-in_default-clause-items : goal.returns-in_default-clause-items
returns-in_default-clause-items c =
    let rows = c.self.inside.rows.items in
    let gone : None ≡ slice_get rows c.index_of.result = rw c.in_default.is at (read_row (λ (x : MutBor TaskRow). x.now) rows c.index_of.result c.get_mut.result c.get_mut.ensures.item) in
    let none : find (is_task c.args.number) (tasks_in rows) ≡ None = no_task c.args.number rows c.index_of.result c.self.invariant.0.count c.index_of.ensures (sym gone) in
    let may = rw (← c.self.view_is) at c.requires.may in
    let some = may.1 in absurd cc
