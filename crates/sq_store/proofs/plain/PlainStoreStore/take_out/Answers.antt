use Rattle.std.proofs.Common.{rules}
use Rattle.sq_slots.specs.Slots.{is_at}
use Rattle.sq_store.proofs.FoundLaws.{taken_first, none_passes}
use Rattle.sq_store.proofs.plain.PlainStoreStore.take_out.Goals as goal

pub returns-in-Some-clause-taken : goal.returns-in-Some-clause-taken
returns-in-Some-clause-taken c =
    taken_first c.args.slot c.args.serial c.args.self.now.rows.items _ c.in-Some.at c.remove.result (search rules) (search rules) c.remove.ensures.by_index.2

pub returns-in-None-clause-none : goal.returns-in-None-clause-none
returns-in-None-clause-none c = none_passes (is_at c.args.slot c.args.serial) c.args.self.now.rows.items (search rules)
