use Rattle.std.proofs.Common.{rules, ◌≡◌, ◌∙◌, ◌<◌, ◌≤◌, ◌++◌, ◌∷◌, [], None, Some, length, refl, sym, arith}
use Rattle.std.specs.Prelude.{◌==◌, slice_get}
use Rattle.indexmap.specs.IndexMap.{get}
use Rattle.std.proofs.lemmas.Option.{slice_get_read}
use Rattle.sq_ledger.specs.TaskIndexes.{tasks_in}
use Rattle.sq_ledger.proofs.TaskLaws.{goes_on, is_next, listed_all, listed_most, pushed_length}
use Rattle.sq_ledger.proofs.tasks.Tasks.list.Goals as goal
use Rattle.sq_ledger.proofs.tasks.Tasks.list.Goals.{else-loop-test, then-loop-test+in_default, then-loop-test+in-Some+in_default-get}

pub loop-preserved : goal.loop-preserved
loop-preserved c =
    let rows = c.self.inside.rows.items in
    let row = c.in-Some-get.row.now in
    let i = c.loop.invariant in
    let below : c.index_of.result < length c.deref.result.now = search rules in
    let read : slice_get c.deref.result.now c.index_of.result ≡ Some row = slice_get_read c.deref.result.now (length c.deref.result.now) c.index_of.result row refl below c.in-Some-get.ensures.lookup.1 in
    let pushed : c.push.new.self ≡ c.loop.listed ++ row.task ∷ [] = rw c.task.ensures.task at c.in_ok-push.ensures.ok in
    let on = goes_on c.args.source i.0 c.in-Some.number c.index_of.result rows row (get (λ a b. a == b) c.self.inside.last) c.self.inside.active c.loop.listed c.push.new.self c.self.invariant.0 c.index_of.ensures i.1 (sym i.2 ∙ c.in-Some.is) (rw c.deref.ensures.value at read) i.3 pushed in
    (c.index_of.result, on.0, on.1, on.2, pushed_length c.loop.listed c.push.new.self row.task c.loop.counter i.4 pushed, λ none. let k : Some c.in-Some.number ≡ None = sym c.in-Some.is ∙ i.5 none in cc)

pub returns-clause-listed : goal.returns-clause-listed
returns-clause-listed c =
    let rows = c.self.inside.rows.items in
    let i = c.loop.invariant in
    let len = i.4 in
    elim c.loop-test.branch [
      | else-loop-test w ↦
          let most : length c.loop.listed ≡ c.args.most = search rules in
          rw (← c.self.view_is) (listed_most c.args.source c.args.most (tasks_in rows) c.loop.listed _ i.3 most)
      | then-loop-test+in_default w ↦
          let most : length c.loop.listed ≤ c.args.most = search rules in
          rw (← c.self.view_is) (listed_all c.args.source i.0 c.args.most (tasks_in rows) c.loop.listed (sym i.2 ∙ w.in_default.is) i.3 most)
      | then-loop-test+in-Some+in_default-get w ↦
          let below = is_next c.args.source i.0 w.in-Some.number w.index_of.result rows c.self.invariant.0.count w.index_of.ensures i.1 (sym i.2 ∙ w.in-Some.is) in
          let past : length w.deref.result.now ≤ w.index_of.result = search rules in
          absurd (omega (arith, below, (rw w.deref.ensures.value at past)))
    ]
