use Rattle.std.proofs.Common.{◌≡◌, ◌-◌, suc, length, arith}
use Rattle.sq_lines.specs.Replies.{texts_of}
use Rattle.sq_lines.proofs.ReplyLaws.{puts_cut, puts_unflushed, as_many}
use Rattle.sq_lines.proofs.replies.Replies.put_out.Goals as goal

pub returns-in-Err-clause-err : goal.returns-in-Err-clause-err
returns-in-Err-clause-err g c =
    rw (c.whole.ensures, c.deref-in-Err.ensures.value, ← c.self.view_is)
    (puts_cut _ _ c.self.inside.lengths.items c.self.inside.bytes.items c.in-Err.written c.self.invariant (rw c.deref.ensures.value at c.in-Err.ensures.within) (rw c.deref.ensures.value at c.in-Err.ensures.err))

pub returns-in_default-flush-clause-err : goal.returns-in_default-flush-clause-err
returns-in_default-flush-clause-err g c =
    let texts = texts_of c.self.inside.lengths.items c.self.inside.bytes.items in
    let last : suc (c.len-waiting.result - 1) ≡ length texts = omega (arith, as_many c.self.inside.lengths.items c.self.inside.bytes.items, c.len-waiting.ensures) in
    rw (← c.self.view_is) (puts_unflushed _ _ _ texts (c.len-waiting.result - 1) last (rw (← c.self.invariant.all) (rw c.deref.ensures.value at c.in_default.ensures.ok)) c.flush.ensures.bytes)
