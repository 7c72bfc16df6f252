use Rattle.std.proofs.Common.{◌≡◌, ◌+◌, ◌++◌, get_or, arith, refl, subst}
use Rattle.sq_places.specs.inside.HomeValues.{HomeValue}
use Rattle.sq_places.specs.inside.Audits.{no_states, placed_ends, AreSameEnds}
use Rattle.sq_places.proofs.ListLaws.{read_grown}
use Rattle.sq_places.proofs.places.apply_at.Goals as goal

-- the home as it was
was : (c : goal.In_ok-apply) → c.index_mut.result.now ≡ get_or c.args.homes.now.items c.args.index no_states
was c = read_grown (c.args.index + 1) c.args.homes.now.items c.grow.new.homes.items c.args.index c.index_mut.result.now c.in_ok-grow.ensures.homes (omega arith) c.index_mut.ensures.value

pub returns-clause-homes : goal.returns-clause-homes
returns-clause-homes c = rw (c.in_ok-grow.ensures.homes, c.in_ok-apply.ensures.home, was c) refl

pub returns-clause-ends : goal.returns-clause-ends
returns-clause-ends c = subst (λ (h : HomeValue). AreSameEnds c.apply.new.ends.items (c.args.ends.now.items ++ placed_ends c.args.event.now h)) (was c) c.in_ok-apply.ensures.ends
