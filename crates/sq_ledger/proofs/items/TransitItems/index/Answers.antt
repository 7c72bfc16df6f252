use Rattle.std.proofs.Common.{rules, arith}
use Rattle.std.specs.Prelude.{nat_lt}
use Rattle.std.proofs.lemmas.List.Sorted.{IsPartitionPoint-from_clause, IsPartitionedBy-ltb}
use Rattle.sq_ledger.proofs.ItemLaws.{do_not_fall, number_of, index_is}
use Rattle.sq_ledger.proofs.items.TransitItems.index.Goals as goal

pub returns : goal.returns
returns c =
    let parted = IsPartitionedBy-ltb number_of c.self.inside.items.items c.args.number (do_not_fall 1 c.self.inside.items.items c.self.invariant.0 c.self.invariant.1) in
    let point = IsPartitionPoint-from_clause (λ item. nat_lt item.number c.args.number) _ _ c.partition_point.ensures.partitioned parted (λ a r q k. search rules) in
    rw (← c.self.view_is) (index_is c.args.number c.self.inside.items.items c.partition_point.result (omega arith) point)
