use Rattle.std.proofs.Common.{rules, arith, ◌∙◌, sym}
use Rattle.std.specs.List.{Contains}
use Rattle.sq_store.proofs.FoundLaws.{gives_kept}
use Rattle.sq_store.proofs.plain.pick_first.Goals as goal

pub returns-in_err-received_copy-clause-err : goal.returns-in_err-received_copy-clause-err
returns-in_err-received_copy-clause-err c =
    let s = c.args.at.now.settings in
    let m = c.args.at.now.moment in
    let row = c.row-item.result in
    let there : Contains c.args.rows.now row = (c.loop-row.row-index, omega arith, sym c.row-item.is) in
    let gives = gives_kept s m c.args.max c.args.rows.now row (omega arith) there (sym c.is_kept.ensures ∙ c.if-is_kept.true) (sym c.is_live.ensures ∙ c.if-is_live.true) in
    search rules

pub returns-in_err-push-clause-err : goal.returns-in_err-push-clause-err
returns-in_err-push-clause-err c =
    let s = c.args.at.now.settings in
    let m = c.args.at.now.moment in
    let row = c.row-item.result in
    let there : Contains c.args.rows.now row = (c.loop-row.row-index, omega arith, sym c.row-item.is) in
    let gives = gives_kept s m c.args.max c.args.rows.now row (omega arith) there (sym c.is_kept.ensures ∙ c.if-is_kept.true) (sym c.is_live.ensures ∙ c.if-is_live.true) in
    search rules
