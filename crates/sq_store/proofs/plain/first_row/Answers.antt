use Rattle.std.proofs.Common.{rules, not}
use Rattle.sq_model.specs.Rows.{is_expired}
use Rattle.sq_store.specs.inside.Found.{is_wanted}
use Rattle.sq_store.proofs.FoundLaws.{one_kept, none_passes, none_kept}
use Rattle.sq_store.proofs.plain.first_row.Goals as goal

pub returns-in-Some-clause-one : goal.returns-in-Some-clause-one
returns-in-Some-clause-one c =
    one_kept (λ row. not (is_expired c.args.at.now.settings c.args.at.now.moment row)) (is_wanted c.args.what c.args.at.now.settings c.args.at.now.moment) c.args.rows.now c.in-Some.first _ (search rules) (search rules)

pub returns-in-None-clause-none : goal.returns-in-None-clause-none
returns-in-None-clause-none c =
    none_kept (λ row. not (is_expired c.args.at.now.settings c.args.at.now.moment row)) (is_wanted c.args.what c.args.at.now.settings c.args.at.now.moment) c.args.rows.now (none_passes _ c.args.rows.now (search rules))
