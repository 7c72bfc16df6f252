use Rattle.std.proofs.Common.{◌≡◌, take}
use Rattle.sq_store.specs.inside.Found.{found}
use Rattle.sq_store.specs.SlotStores.{AreVisible, any_row}
use Rattle.sq_store.specs.inside.Visible.{KeepsSpace}
use Rattle.sq_store.proofs.split.list_all.Given as goal

-- the rows of the ages so far stand in the lists of their classes
abbrev pub invariant-loop-rank : goal.invariant-loop-rank
invariant-loop-rank l = record {
  listed : AreVisible (found any_row l.table.rows (take l.rank l.ages.deadlines)) l.visible;
  most : l.visible.most ≡ l.initial.visible.most;
  space : KeepsSpace l.initial.visible l.visible;
}
