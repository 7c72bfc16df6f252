use Rattle.std.proofs.Common.{◌∙◌, ◌++◌, sym, ap, List}
use Rattle.std.proofs.lemmas.Result.{on_ok_weaker}
use Rattle.sq_model.specs.declared.place.Place.TheVariants as at
use Rattle.sq_places.specs.declared.state.RowState.{RowState}
use Rattle.sq_places.specs.inside.Audits.{placed}
use Rattle.sq_places.proofs.StateLaws.{filter_all, filter_none}
use Rattle.sq_places.proofs.home_states.change.Goals as goal

pub returns-in-Purge-clause-rows : goal.returns-in-Purge-clause-rows
returns-in-Purge-clause-rows c = rw c.in-Purge.is (on_ok_weaker c.clear.result (λ e. e ∙ sym (filter_none c.args.rows.now)) c.clear.ensures.rows)

pub returns-in-Purge-clause-ends : goal.returns-in-Purge-clause-ends
returns-in-Purge-clause-ends c =
    rw c.in-Purge.is (on_ok_weaker c.clear.result (λ e. e ∙ ap (λ (rows : List RowState). c.args.ends.now.items ++ placed at.Purged rows) (sym (filter_all c.args.rows.now))) c.clear.ensures.ends)

pub returns-in-Close-clause-rows : goal.returns-in-Close-clause-rows
returns-in-Close-clause-rows c = rw c.in-Close.is (on_ok_weaker c.clear-in-Close.result (λ e. e ∙ sym (filter_none c.args.rows.now)) c.clear-in-Close.ensures.rows)

pub returns-in-Close-clause-ends : goal.returns-in-Close-clause-ends
returns-in-Close-clause-ends c =
    rw c.in-Close.is
    (on_ok_weaker c.clear-in-Close.result (λ e. e ∙ ap (λ (rows : List RowState). c.args.ends.now.items ++ placed at.ClosedAway rows) (sym (filter_all c.args.rows.now))) c.clear-in-Close.ensures.ends)
