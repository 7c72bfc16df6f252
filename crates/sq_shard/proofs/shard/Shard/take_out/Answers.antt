use Rattle.std.proofs.Common.{rules, ◌≡◌, sym, ◌∙◌}
use Rattle.sq_model.specs.Homes.{Contents}
use Rattle.sq_model.specs.Rows.{unexpired}
use Rattle.sq_model.proofs.RowLaws.{rises_unexpired}
use Rattle.sq_shard.specs.declared.shard.Status.TheVariants.{Unopened, Serving, Closed}
use Rattle.sq_shard.proofs.Few.{few_unexpired}
use Rattle.sq_shard.proofs.MoveLaws.{GoneOut, gone_out, rises_rest, few_rest}
use Rattle.sq_shard.specs.Moves.{HasRow}
use Rattle.sq_shard.specs.ShardValue.{home_with}
use Rattle.sq_shard.proofs.shard.Shard.take_out.Given as given
use Rattle.sq_shard.proofs.shard.Shard.take_out.Goals as goal

abbrev held : (g : given.Over) (c : goal.In-Some g) → Contents
held g c = record { settings = c.self.inside.settings; version = c.self.inside.version; mode = c.self.inside.mode; next = c.self.inside.next; rows = g.S.Store.rows c.self.inside.store }

gone : (g : given.Over) (c : goal.In-Some g) → GoneOut c.self.inside.status (held g c) c.args.moment (g.S.Store.rows c.take_out.new.self) c.args.row.now c.in-Some.row
gone g c =
    let has : HasRow (home_with c.self.inside.status (held g c)) c.args.moment c.args.row.now = search rules in
    gone_out c.self.inside.status (held g c) c.args.moment (g.S.Store.rows c.take_out.new.self) c.args.row.now c.in-Some.row c.self.invariant.rising has (search rules) (search rules)

pub invariant_of-self : goal.invariant_of-self
invariant_of-self g c =
    let serves = (gone g c).serves in
    let rows = g.S.Store.rows c.self.inside.store in
    let s = c.self.inside.settings in
    record {
      rising = rises_rest (unexpired s c.args.moment rows) (g.S.Store.rows c.take_out.new.self) c.in-Some.row 0 c.self.inside.next (rises_unexpired s c.args.moment 0 rows c.self.inside.next c.self.invariant.rising) (search rules);
      empty = (λ e. let k : Serving ≡ Unopened = sym serves ∙ e in cc);
      left = (λ e. let k : Serving ≡ Closed = sym serves ∙ e in cc);
      within = few_rest (unexpired s c.args.moment rows) (g.S.Store.rows c.take_out.new.self) c.in-Some.row c.self.inside.site.limits.rows (search rules) (few_unexpired s c.args.moment rows c.self.inside.site.limits.rows c.self.invariant.within);
      spare = search rules;
    }

pub returns-clause-row : goal.returns-clause-row
returns-clause-row g c = (gone g c).same

pub returns-clause-home : goal.returns-clause-home
returns-clause-home g c = rw (← c.self.view_is) (gone g c).without
