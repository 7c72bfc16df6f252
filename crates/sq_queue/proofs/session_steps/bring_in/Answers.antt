use Rattle.sq_queue.specs.Around.{around}
use Rattle.sq_queue.specs.Sections.{IsSection}
use Rattle.sq_queue.proofs.LockLaws.{at_session}
use Rattle.sq_queue.proofs.session_steps.bring_in.Goals as goal

pub returns : goal.returns
returns g c =
    let at = at_session (λ n. IsSection (around g.C.Clock.tells g.G.Gate.saw n.now)) (λ u. u.service) (λ u. u.session.now) (λ u. u.session.ghost_name) _ _ _ _ c.bring.ensures.answered in
    record { same_reference = at.1; sections = at.0; leaves_records = c.bring.ensures.leaves_records }
