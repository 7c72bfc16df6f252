use Rattle.std.proofs.Common.{rules, ◌≡◌, ◌-◌, ◌+◌, ◌∙◌, length, arith, sym, vec_len}
use Rattle.sq_places.proofs.ListLaws.{grown_same, grown_more, grown_end, length_grown}
use Rattle.sq_places.proofs.places.grow.Goals as goal

pub loop-init : goal.loop-init
loop-init c = sym (grown_same (length c.args.homes.now.items + 0) c.args.homes.now.items (omega arith))

pub loop-preserved : goal.loop-preserved
loop-preserved c = c.in_ok-push.ensures.items ∙ rw c.new.ensures (grown_more c.args.homes.now.items c.loop.homes.items c.loop.counter c.loop.invariant)

pub returns-clause-homes : goal.returns-clause-homes
returns-clause-homes c =
    let len : c.len.result ≡ length c.args.homes.now.items = search rules in
    let e : c.loop.counter ≡ c.args.count - length c.args.homes.now.items = omega (arith, len, c.saturating_sub-end.ensures, c.loop.auto.counter-end, c.loop-test.false) in
    c.loop.invariant ∙ rw e (grown_end c.args.count c.args.homes.now.items)

pub returns-clause-len : goal.returns-clause-len
returns-clause-len c =
    let len : vec_len c.loop.homes ≡ length c.loop.homes.items = search rules in
    rw (len, returns-clause-homes c) (length_grown c.args.count c.args.homes.now.items)
