use Rattle.std.proofs.Common.{rules, not}
use Rattle.std.proofs.lemmas.Fn.{filter_same}
use Rattle.sq_model.specs.Rows.{is_expired}
use Rattle.sq_store.proofs.plain.PlainStoreStore.expire.Goals as goal

pub returns-clause-rows : goal.returns-clause-rows
returns-clause-rows c = filter_same _ (λ row. not (is_expired c.args.at.now.settings c.args.at.now.moment row)) _ (λ x b f k. search rules) _ _ c.retain.ensures.filtered
