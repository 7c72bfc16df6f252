use Rattle.std.proofs.Common.{rules, arith, refl, sym, ◌≡◌, ◌∙◌, ◌+◌, ◌-◌, ◌*◌, ◌<◌, length, Some}
use Rattle.std.specs.Prelude.{slice_get}
use Rattle.std.proofs.lemmas.Option.{slice_get_read}
use Rattle.sq_log.specs.BlocksValue.{joined}
use Rattle.sq_log.proofs.BlockLaws.{get_after, get_before, length_joined, without_last, without_whole, written_whole}
use Rattle.sq_log.proofs.blocks.Blocks.remove.Goals as goal

pub remove-requires : goal.remove-requires
remove-requires g c =
    let whole = c.reopen.new.whole.items in
    let last = c.reopen.new.last.items in
    let same : c.args.self.now.items ≡ joined whole last = rw (← c.self.view_is) (sym c.reopen.ensures.items) in
    let all : c.args.index < length whole * 4096 + length last = rw (← length_joined 4096 whole last c.reopen.ensures.whole, ← same) c.requires in
    let n : c.len-before.result ≡ length whole = search rules in
    omega (arith, all, n, c.if-index-before.true, c.reopen.new.last.ok.0)

pub returns-then-index-before-clause-taken : goal.returns-then-index-before-clause-taken
returns-then-index-before-clause-taken g c =
    let whole = c.reopen.new.whole.items in
    let last = c.reopen.new.last.items in
    let n : c.len-before.result ≡ length whole = search rules in
    let k = c.args.index - length whole * 4096 in
    let same : c.args.self.now.items ≡ joined whole last = rw (← c.self.view_is) (sym c.reopen.ensures.items) in
    let all : c.args.index < length whole * 4096 + length last = rw (← length_joined 4096 whole last c.reopen.ensures.whole, ← same) c.requires in
    let within : k < length last = omega (arith, all, n, c.if-index-before.true) in
    rw (← c.self.view_is, ← c.reopen.ensures.items)
    (get_after 4096 whole last c.args.index c.reopen.ensures.whole (rw (← n) c.if-index-before.true) ∙ slice_get_read last (length last) k c.remove.result refl within (rw (← n) c.remove.ensures.value))

pub returns-then-index-before-clause-items : goal.returns-then-index-before-clause-items
returns-then-index-before-clause-items g c =
    let whole = c.reopen.new.whole.items in
    let last = c.reopen.new.last.items in
    let n : c.len-before.result ≡ length whole = search rules in
    rw (← c.self.view_is, ← c.reopen.ensures.items, c.remove.ensures.items, n) (without_last 4096 whole last c.args.index c.reopen.ensures.whole (rw (← n) c.if-index-before.true))

pub returns-clause-taken : goal.returns-clause-taken
returns-clause-taken g c =
    let whole = c.reopen.new.whole.items in
    let last = c.reopen.new.last.items in
    let n : c.len-before.result ≡ length whole = search rules in
    rw (← c.self.view_is, ← c.reopen.ensures.items) (get_before 4096 whole last c.args.index c.reopen.ensures.whole (rw (← n) c.if-index-before.false) ∙ rw (← c.as_mut_slice.ensures.value) c.move_out.ensures.taken)

pub returns-clause-items : goal.returns-clause-items
returns-clause-items g c =
    let whole = c.reopen.new.whole.items in
    let last = c.reopen.new.last.items in
    let n : c.len-before.result ≡ length whole = search rules in
    let first : slice_get last 0 ≡ Some c.remove-first.result = slice_get_read last (length last) 0 c.remove-first.result refl (c.reopen.ensures.open (omega (arith, n, c.if-index-before.false))) c.remove-first.ensures.value in
    let count : length c.move_out.new.blocks ≡ c.reopen.new.whole.len = search rules in
    rw (← c.self.view_is, ← c.reopen.ensures.items, written_whole c.move_out.new.blocks whole c.reopen.new.whole.len count (search rules))
    (without_whole 4096 whole c.move_out.new.blocks last c.remove-first.new.self.items c.remove-first.result c.args.index c.reopen.ensures.whole (rw (← n) c.if-index-before.false) first c.remove-first.ensures.items
    (rw (← c.as_mut_slice.ensures.value) c.move_out.ensures.items))
