use Rattle.std.proofs.Common.{rules, ◌≡◌, ◌<◌, ◌∙◌, Some, None, List, take, subst, arith}
use Rattle.std.specs.Prelude.{slice_get}
use Rattle.std.proofs.lemmas.List.{take_all}
use Rattle.sq_deadline.specs.declared.deadline.Deadline.{Deadline}
use Rattle.sq_store.specs.inside.Found.{found, row_of}
use Rattle.sq_store.specs.SlotStores.{AreVisible, any_row}
use Rattle.sq_store.proofs.ListLaws.{all_listed, its_slot, listed_more, none_is_past, none_more, spare_for_next, slot_fits}
use Rattle.sq_store.proofs.MemoryLaws.{keeps_on}
use Rattle.sq_store.proofs.split.list_all.Goals as goal
use Rattle.sq_store.proofs.split.list_all.Goals.{in-Some+in-Some-at, in-Some+in_default-at, in_default}

pub returns : goal.returns
returns c =
    let ages = c.args.ages.now.deadlines in
    let rows = c.args.table.now.rows in
    let whole : take c.loop-rank.rank ages ≡ ages = take_all c.loop-rank.rank ages (omega arith) in
    let listed : AreVisible (found any_row rows ages) c.loop-rank.visible = subst (λ (ds : List Deadline). AreVisible (found any_row rows ds) c.loop-rank.visible) whole c.loop-rank.invariant.listed in
    record { held = all_listed rows ages c.loop-rank.visible c.len.ensures.apart c.requires.aged listed; most = c.loop-rank.invariant.most; space = c.loop-rank.invariant.space }

pub set-requires : goal.set-requires
set-requires c = spare_for_next c.args.table.now.rows c.args.ages.now.deadlines c.loop-rank.rank c.args.visible.now c.loop-rank.visible c.requires.aged (omega arith) c.requires.memory c.loop-rank.invariant.space c.loop-rank.invariant.listed _

pub loop-rank-preserved : goal.loop-rank-preserved
loop-rank-preserved c =
    let rows = c.args.table.now.rows in
    let ages = c.args.ages.now.deadlines in
    let rank = c.loop-rank.rank in
    elim c.match-nth.branch [
      | in-Some+in-Some-at w ↦ (
          let d = w.in-Some.age.now in
          let row = w.in-Some-at.row.now in
          let at : slice_get ages rank ≡ Some d = search rules in
          let is : row_of rows d ≡ Some row = search rules in
          let fits : row.slot < 4294967296 = rw (its_slot rows d row is) (slot_fits 0 ages rank d c.nth.ensures.order at) in
          rw w.visible-is (record {
            listed = listed_more rows ages rank d row c.loop-rank.visible w.set.new.self w.at.ensures.apart c.requires.aged at is fits w.set.ensures.ordered w.set.ensures.set c.loop-rank.invariant.listed;
            most = w.set.ensures.set.most ∙ c.loop-rank.invariant.most;
            space = keeps_on c.args.visible.now c.loop-rank.visible w.set.new.self c.loop-rank.invariant.space w.set.ensures.set.space;
          }))
      | in-Some+in_default-at w ↦ (
          let d = w.in-Some.age.now in
          let at : slice_get ages rank ≡ Some d = search rules in
          let none : row_of rows d ≡ None = search rules in
          rw (w.visible-is, none_more rows ages rank d at none) (record { listed = c.loop-rank.invariant.listed; most = c.loop-rank.invariant.most; space = c.loop-rank.invariant.space }))
      | in_default w ↦ (
          let none : slice_get ages rank ≡ None = search rules in
          absurd (omega (arith, none_is_past ages rank none)))
    ]
