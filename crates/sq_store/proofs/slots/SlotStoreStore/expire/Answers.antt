use Rattle.std.proofs.Common.{rules, ◌≡◌, ◌≤◌, ◌∙◌, false, true, sym, ap, arith}
use Rattle.std.specs.Prelude.{nat_le}
use Rattle.std.specs.List.{list_any}
use Rattle.sq_model.specs.Rows.{is_expired, unexpired}
use Rattle.sq_store.specs.SlotStores.{reserved_in}
use Rattle.sq_store.proofs.AgeLaws.{all_are_kept, any_same, none_goes, unexpired_without}
use Rattle.sq_store.proofs.slots.SlotStoreStore.expire.Goals as goal
use Rattle.sq_store.proofs.slots.SlotStoreStore.expire.Goals.{After-remove}

pub returns-in_default-clause-rows : goal.returns-in_default-clause-rows
returns-in_default-clause-rows c = c.split.ensures.rows ∙ sym (none_goes c.args.at.now.settings c.args.at.now.moment (search rules) _)

-- the row that goes out is past its retention
unexpired_on : (c : After-remove) → (unexpired c.args.at.now.settings c.args.at.now.moment c.remove.new.self.table.rows ≡ unexpired c.args.at.now.settings c.args.at.now.moment c.split.new.self.table.rows) × (reserved_in c.split.new.self ≤ reserved_in c.remove.new.self)
unexpired_on c =
    let s = c.args.at.now.settings in
    let from = c.in-Some-oldest.ensures.row in
    let expired : is_expired s c.args.at.now.moment from.row ≡ true = c.in-Some.ensures.some from.row ∙ from.due in (
      ap (unexpired s c.args.at.now.moment) c.remove.ensures.rows ∙ unexpired_without s c.args.at.now.moment c.in-Some-oldest.oldest.0 c.in-Some-oldest.oldest.1 c.loop-oldest.self.table.rows from.row from.there expired ∙ c.loop-oldest.invariant.0,
      omega (arith, c.loop-oldest.invariant.1, c.remove.ensures.reserved),
    )

pub loop-oldest-preserved-in-Some-oldest : goal.loop-oldest-preserved-in-Some-oldest
loop-oldest-preserved-in-Some-oldest c = unexpired_on (goal.at.loop-oldest-preserved-in-Some-oldest c).After-remove

pub loop-oldest-preserved : goal.loop-oldest-preserved
loop-oldest-preserved c = unexpired_on (goal.at.loop-oldest-preserved c).After-remove

pub returns-clause-rows : goal.returns-clause-rows
returns-clause-rows c =
    let s = c.args.at.now.settings in
    let rows = c.loop-oldest.self.table.rows in
    let none : list_any (is_expired s c.args.at.now.moment) rows ≡ false =
    any_same (is_expired s c.args.at.now.moment) (λ row. nat_le row.enqueued c.in-Some.bound) c.in-Some.ensures.some rows ∙ c.in_default-oldest.ensures.none in
    sym (all_are_kept s c.args.at.now.moment rows none) ∙ c.loop-oldest.invariant.0 ∙ ap (unexpired s c.args.at.now.moment) c.split.ensures.rows
