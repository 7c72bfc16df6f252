use Rattle.std.proofs.Common.{rules, ◌≡◌, ◌+◌, ◌++◌, ◌∷◌, [], refl, sym, ◌∙◌}
use Rattle.sq_base.specs.declared.row.Row.{Row}
use Rattle.sq_model.specs.Rows.{unexpired}
use Rattle.sq_model.proofs.RowLaws.{rises_unexpired, rises_push}
use Rattle.sq_shard.specs.declared.shard.Status.TheVariants.{Unopened, Serving, Closed}
use Rattle.sq_shard.proofs.Few.{few_pushed}
use Rattle.sq_shard.proofs.MoveLaws.{TakesOne, takes_one}
use Rattle.sq_shard.proofs.shard.Shard.put.Goals as goal

pub invariant_of-self-in-Some : goal.invariant_of-self-in-Some
invariant_of-self-in-Some g c =
    let next = c.self.inside.next in
    let old = g.S.Store.rows c.self.inside.store in
    let kept = unexpired c.self.inside.settings c.args.moment old in
    let takes : TakesOne c.self.inside.status c.self.inside.site c.self.inside.mode next kept =
    takes_one c.self.inside.status c.self.inside.site (record { settings = c.self.inside.settings; version = c.self.inside.version; mode = c.self.inside.mode; next = next; rows = old }) c.args.moment (search rules) in
    let added : Row = record c.args.row { serial = next; slot = c.insert-slot.result } in
    let rows : g.S.Store.rows c.insert-slot.new.self ≡ kept ++ added ∷ [] = search rules in
    let after : c.in-Some.after ≡ next + 1 = search rules in
    record {
      rising = rw (rows, after) (rises_push 0 kept next added (rises_unexpired c.self.inside.settings c.args.moment 0 old next c.self.invariant.rising) refl);
      empty = (λ e. let k : Serving ≡ Unopened = sym takes.serves ∙ e in cc);
      left = (λ e. let k : Serving ≡ Closed = sym takes.serves ∙ e in cc);
      within = rw rows (few_pushed kept added c.self.inside.site.limits.rows takes.within);
      spare = search rules;
    }

pub insert-slot-requires-clause-rising : goal.insert-slot-requires-clause-rising
insert-slot-requires-clause-rising g c =
    rw (c.expire.ensures.rows, c.make_spare.ensures.rows) (rises_unexpired c.self.inside.settings c.args.moment 0 (g.S.Store.rows c.self.inside.store) c.self.inside.next c.self.invariant.rising)
