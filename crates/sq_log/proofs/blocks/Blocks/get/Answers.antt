use Rattle.std.proofs.Common.{rules, arith, subst, ◌≡◌, ◌+◌, ◌-◌, ◌*◌, ◌/◌, ◌%◌, ℕ, length, Some, None}
use Rattle.std.specs.Prelude.{slice_get}
use Rattle.std.proofs.lemmas.Nat.{div-add-mod'}
use Rattle.std.proofs.Math.Nat.{mod-lt}
use Rattle.sq_log.specs.BlocksValue.{joined}
use Rattle.sq_log.proofs.BlockLaws.{get_last, get_whole, past_whole}
use Rattle.sq_log.proofs.blocks.Blocks.get.Goals as goal

pub returns-in-Some : goal.returns-in-Some
returns-in-Some g c =
    let whole = c.self.inside.whole.items in
    let last = c.self.inside.last.items in
    let q = c.args.index / 4096 in
    let r = c.args.index % 4096 in
    let block = c.in-Some.block.now in
    let there : slice_get whole q ≡ Some block = search rules in
    let here = subst (λ (k : ℕ). slice_get (joined whole last) k ≡ slice_get block.items r) (div-add-mod' c.args.index 4096)
    (get_whole 4096 whole last q r block c.self.invariant.whole (mod-lt c.args.index (omega arith)) there) in
    search (rules, here)

pub returns-in-None : goal.returns-in-None
returns-in-None g c =
    let whole = c.self.inside.whole.items in
    let last = c.self.inside.last.items in
    let none : slice_get whole (c.args.index / 4096) ≡ None = search rules in
    let past = past_whole whole (c.args.index / 4096) none in
    let k = c.args.index - length whole * 4096 in
    let index : length whole * 4096 + k ≡ c.args.index = let rest = div-add-mod' c.args.index 4096 in omega (arith, past, rest) in
    let here = subst (λ (i : ℕ). slice_get (joined whole last) i ≡ slice_get last k) index (get_last 4096 whole last k c.self.invariant.whole) in
    search (rules, here)
