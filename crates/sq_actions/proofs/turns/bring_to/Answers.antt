use Rattle.std.proofs.Common.{rules, ◌≡◌, refl, inl, inr, true, false}
use Rattle.sq_actions.specs.Asks.{moved_of}
use Rattle.sq_actions.specs.Turns.{is_closed}
use Rattle.sq_actions.proofs.TurnLaws.{came, went_back}
use Rattle.sq_actions.proofs.turns.bring_to.Goals as goal

pub returns-then-not-is_closed : goal.returns-then-not-is_closed
returns-then-not-is_closed g c =
    came _ _ _ c.args.next.now _ (moved_of c.shared_step-answered.result) _ (rw c.move_of.ensures at c.shared_step-answered.ensures.did) (search rules) (rw c.move_of-then-not-is_closed.ensures at c.word_for.ensures)

pub returns-then-is_closed : goal.returns-then-is_closed
returns-then-is_closed g c =
    went_back _ _ _ _ c.args.next.now _ (moved_of c.shared_step-answered.result) (moved_of c.shared_step-answered-2.result) _ (rw c.move_of.ensures at c.shared_step-answered.ensures.did) (search rules) (rw c.move_of-2.ensures at c.shared_step-answered-2.ensures.did) (inr (search rules, refl))

pub returns : goal.returns
returns g c =
    went_back _ _ _ _ c.args.next.now _ (moved_of c.shared_step-answered.result) (moved_of c.shared_step-answered-2.result) _ (rw c.move_of.ensures at c.shared_step-answered.ensures.did) (search rules) (rw c.move_of-2.ensures at c.shared_step-answered-2.ensures.did)
    (inl (search rules, rw c.move_of-3.ensures at c.word_for-2.ensures))
