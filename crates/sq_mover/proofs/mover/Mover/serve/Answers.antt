use Rattle.std.proofs.Common.{rules, ◌≡◌, ◌∙◌, sym, None, Some, vec_capacity}
use Rattle.sq_queue.specs.Around.{around}
use Rattle.sq_mover.specs.MoverValue.{active_of}
use Rattle.sq_mover.proofs.MoverLaws.{brings, served}
use Rattle.sq_mover.proofs.mover.Mover.serve.Goals as goal

pub returns-clause-serves : goal.returns-clause-serves
returns-clause-serves g c =
    let which : active_of c.args.task ≡ Some c.in-Some.task = sym c.active.ensures ∙ c.in-Some.is in
    rw which (served (around g.C.Clock.tells g.G.Gate.saw c.args.service.now) c.in-Some.task (vec_capacity c.reserve.new.self.this) c.args.self.now _ c.args.session.now c.serve-told.new.session c.serve-told.result c.of-walk.result c.serve-told.new.walk c.reserve.new.self.last.items
    c.of-walk.ensures (search rules) (search rules) (search rules) (record { sections = c.serve-told.ensures.sections; leaves_records = c.serve-told.ensures.leaves_records }))

pub returns-in_default-clause-serves : goal.returns-in_default-clause-serves
returns-in_default-clause-serves g c =
    let which : active_of c.args.task ≡ None = sym c.active.ensures ∙ (search rules) in
    rw which (brings (around g.C.Clock.tells g.G.Gate.saw c.args.service.now) _ c.args.self.now _ c.args.session.now c.bring.new.session c.bring.result
    (record { sections = c.bring.ensures.sections; leaves_records = c.bring.ensures.leaves_records }) (search rules) (search rules))
