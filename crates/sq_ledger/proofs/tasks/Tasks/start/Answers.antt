use Rattle.std.proofs.Common.{rules, ◌≡◌, ◌-◌, ◌≤◌, ◌∷◌, ◌++◌, [], ℕ, Some, Result, Ok, Err, cond, refl}
use Rattle.std.specs.Prelude.{◌==◌, min, IsOk, OnOk}
use Rattle.std.specs.Vec.{vec_len, vec_capacity}
use Rattle.indexmap.specs.IndexMap.{get, spare}
use Rattle.sq_ledger.specs.declared.tasks.TaskRow.{TaskRow}
use Rattle.sq_ledger.proofs.TaskLaws.{started}
use Rattle.sq_ledger.proofs.tasks.Tasks.start.Goals as goal

when_ok : {A B : Type 0} (r : Result A B) (P : Type 0) → IsOk r → OnOk r P → P
when_ok (Ok x) P is h = h
when_ok (Err e) P is h = absurd cc

pub invariant_of-self : goal.invariant_of-self
invariant_of-self c =
    let rows = c.self.inside.rows.items in
    let row : TaskRow = record { task = c.start-task.result; before = c.last_of-before.result } in
    let all : c.push.new.self.items ≡ rows ++ row ∷ [] = search rules in
    let enough : c.min-self-inside.result ≤ min (vec_capacity c.push.new.self - vec_len c.push.new.self) (spare c.insert.new.self) = search rules in
    let before = rw (← c.self.view_is) at c.last_of-before.ensures in
    let put = when_ok c.insert.result _ (c.insert.ensures.succeeds (search rules)) c.insert.ensures.updates in
    let last : (source : ℕ) → get (λ a b. a == b) c.insert.new.self source ≡ cond (c.args.source.number == source) (Some c.args.number) (get (λ a b. a == b) c.self.inside.last source) = rw (← c.get.ensures.value) put.0 in
    (rw all (started rows row (get (λ a b. a == b) c.self.inside.last) (get (λ a b. a == b) c.insert.new.self) c.self.inside.active c.args.number c.self.invariant.0 (rw c.start-task.ensures refl) (rw (← c.self.view_is) at c.requires.number) (rw c.start-task.ensures before) (rw c.start-task.ensures refl) (rw c.start-task.ensures last)), enough)
