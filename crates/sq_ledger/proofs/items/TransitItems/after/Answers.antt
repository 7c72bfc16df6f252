use Rattle.std.proofs.Common.{rules, arith, ◌≡◌, ◌∙◌, Bor}
use Rattle.std.specs.Prelude.{nat_le, nat_lt}
use Rattle.std.specs.List.{position_or_len}
use Rattle.std.proofs.lemmas.List.Sorted.{IsPartitionPoint-from_clause, IsPartitionedBy-leb}
use Rattle.sq_model.specs.declared.item.Item.{Item}
use Rattle.sq_ledger.proofs.ItemLaws.{above_is, do_not_fall, first_above, first_again, number_of, read_is}
use Rattle.sq_ledger.proofs.items.TransitItems.after.Goals.{After-partition_point-index}
use Rattle.sq_ledger.proofs.items.TransitItems.after.Goals as goal

-- where the first item stands whose number is above this one
above : (c : After-partition_point-index) → c.partition_point-index.result ≡ position_or_len (λ (item : Item). nat_lt c.args.number item.number) c.self.inside.items.items
above c =
    let items = c.self.inside.items.items in
    let parted = IsPartitionedBy-leb number_of items c.args.number (do_not_fall 1 items c.self.invariant.0 c.self.invariant.1) in
    let point = IsPartitionPoint-from_clause (λ item. nat_le item.number c.args.number) _ _ c.partition_point-index.ensures.partitioned parted (λ a r q k. search rules) in
    above_is c.args.number items c.partition_point-index.result (omega arith) point

pub returns-then-index-len : goal.returns-then-index-len
returns-then-index-len c =
    let items = c.self.inside.items.items in
    let index = c.partition_point-index.result in
    rw (← c.self.view_is) (read_is (λ (x : Bor Item). x.now) items index c.get.result c.get.ensures.item ∙ first_above c.args.number items index (above (goal.at.returns-then-index-len c).After-partition_point-index) (omega arith))

pub returns-else-index-len : goal.returns-else-index-len
returns-else-index-len c =
    let items = c.self.inside.items.items in
    let index = c.partition_point-index.result in
    rw (← c.self.view_is) (read_is (λ (x : Bor Item). x.now) items 0 c.front.result c.front.ensures.item ∙ first_again c.args.number items index (above (goal.at.returns-else-index-len c).After-partition_point-index) (omega arith))
