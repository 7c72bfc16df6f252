use Rattle.std.proofs.Common.{rules, ◌≡◌, ◌<◌, Some, None, List, length, ℕ, subst, sym}
use Rattle.std.specs.Prelude.{◌==◌, position}
use Rattle.sq_queue.proofs.StayLaws.{first_swapped, sample_begun}
use Rattle.rand.proofs.SampleLemmas.{sample_swap}
use Rattle.rand.specs.Sample.{IsSampleOf}
use Rattle.sq_queue.proofs.stay.begin_with.Goals as goal

pub returns-in-Some-clause-sample : goal.returns-in-Some-clause-sample
returns-in-Some-clause-sample c =
    let at : c.in-Some.at < length c.args.drawn.now.items = search rules in
    subst (λ (drawn : List ℕ). IsSampleOf c.args.homes (length c.args.drawn.now.items) drawn) (sym c.swap.ensures.items) (sample_swap c.args.homes (length c.args.drawn.now.items) 0 c.in-Some.at c.args.drawn.now.items c.requires.sample c.requires.some at)

pub returns-in-Some-clause-first : goal.returns-in-Some-clause-first
returns-in-Some-clause-first c = let placed : position (λ it. it == c.args.home) c.args.drawn.now.items ≡ Some c.in-Some.at = cc in rw c.swap.ensures.items (first_swapped c.args.drawn.now.items c.args.home c.in-Some.at placed)

pub returns-in-None-clause-sample : goal.returns-in-None-clause-sample
returns-in-None-clause-sample c =
    let lost : position (λ it. it == c.args.home) c.args.drawn.now.items ≡ None = cc in
    sample_begun c.args.homes (length c.args.drawn.now.items) c.args.home c.args.drawn.now.items c.requires.below c.requires.some lost c.requires.sample
