use Rattle.std.proofs.Common.{◌∙◌, ap, sym, subst, List, map, take}
use Rattle.std.specs.Prelude.{filter}
use Rattle.std.proofs.lemmas.Result.{IfOk-weaker}
use Rattle.sq_base.specs.declared.row.Row.{Row}
use Rattle.sq_model.specs.Rows.{unexpired, IsLook, received, is_live}
use Rattle.sq_model.proofs.RowLaws.{first_is_look, rises_unexpired}
use Rattle.sq_store.proofs.plain.PlainStoreStore.pick.Goals as goal

pub returns-clause-look : goal.returns-clause-look
returns-clause-look c =
    let s = c.args.at.now.settings in
    let m = c.args.at.now.moment in
    let rows = c.args.self.now.rows.items in
    let look = first_is_look s m c.args.until c.args.max (unexpired s m rows) c.requires.0 (rises_unexpired s m 0 rows c.requires.0 c.requires.1) in
    IfOk-weaker c.pick_first.result _ _ (λ picked e. subst (λ (g : List Row). IsLook s m c.args.until c.args.max (unexpired s m rows) g)
    (sym (e ∙ ap (λ (r : List Row). take c.args.max (map (received m c.args.until) (filter (is_live s m) (unexpired s m r)))) c.deref.ensures.value)) look) c.pick_first.ensures.picked
