use Rattle.std.proofs.Common.{rules, ◌≡◌, ◌++◌, ◌∷◌, []}
use Rattle.sq_base.specs.Stamps.{start}
use Rattle.sq_model.specs.Replays.{StampsRise}
use Rattle.sq_model.proofs.ReplayLaws.{rise_push}
use Rattle.sq_log.specs.Logs.{event_by}
use Rattle.sq_log.proofs.log.Log.note.Given as picked
use Rattle.sq_log.proofs.log.Log.note.Goals as goal

rises : (g : picked.Over) (c : goal.After-stamp-1 g) → StampsRise start c.push.new.self.items c.args.stamp
rises g c =
    let event = event_by c.args.stamp c.args.by.now c.args.component c.args.kept.0 c.args.kept.1 in
    let events = c.self.inside.events.items in
    let pushed : c.push.new.self.items ≡ events ++ event ∷ [] = search rules in
    rw pushed (rise_push start events c.self.inside.last event c.self.invariant (rw (← c.self.view_is) at c.requires.above))

pub invariant_of-self : goal.invariant_of-self
invariant_of-self g c = rises g c

pub returns-clause-rising : goal.returns-clause-rising
returns-clause-rising g c = rises g c
