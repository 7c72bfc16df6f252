use Rattle.std.proofs.Common.{rules, ◌≡◌, false}
use Rattle.std.specs.List.{list_any}
use Rattle.sq_model.specs.Rows.{is_live, unexpired}
use Rattle.sq_shard.specs.declared.shard.Status.TheVariants.{Serving}
use Rattle.sq_model.proofs.RowLaws.{rises_unexpired}
use Rattle.sq_shard.proofs.LookLaws.{looked_are_theirs, nothing_given}
use Rattle.sq_shard.proofs.shard.Shard.choose.Goals as goal

pub returns-then-not-has_live-clause-step : goal.returns-then-not-has_live-clause-step
returns-then-not-has_live-clause-step g c =
    let serving : c.self.inside.status ≡ Serving = search rules in
    let none : list_any (is_live c.self.inside.settings c.args.moment) (unexpired c.self.inside.settings c.args.moment (g.S.Store.rows c.self.inside.store)) ≡ false = search rules in
    rw (← c.self.view_is, c.none.ensures, serving) (nothing_given c.self.inside.site (record { settings = c.self.inside.settings; version = c.self.inside.version; mode = c.self.inside.mode; next = c.self.inside.next; rows = g.S.Store.rows c.self.inside.store }) c.args.moment c.args.max c.args.timeout none)

pub returns-clause-theirs : goal.returns-clause-theirs
returns-clause-theirs g c =
    let serving : c.self.inside.status ≡ Serving = search rules in
    let s = c.self.inside.settings in
    let rows = g.S.Store.rows c.self.inside.store in
    rw (← c.self.view_is, serving, c.in_ok-of.ensures.rows) (looked_are_theirs s c.args.moment _ _ (unexpired s c.args.moment rows) c.self.inside.next c.in_ok-picked.picked (rises_unexpired s c.args.moment 0 rows c.self.inside.next c.self.invariant.rising) c.in_ok-picked.ensures.look)
