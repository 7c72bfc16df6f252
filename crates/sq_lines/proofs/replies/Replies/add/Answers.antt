use Rattle.std.proofs.Common.{◌≡◌, ◌++◌, ◌∷◌, [], ◌+◌, length, arith, ap, refl}
use Rattle.sq_lines.proofs.ReplyLaws.{puts_all, puts_behind, part_of_more, part_behind, part_alone}
use Rattle.sq_lines.proofs.replies.Replies.add.Goals as goal

pub returns-in-Err-clause-err : goal.returns-in-Err-clause-err
returns-in-Err-clause-err g c =
    part_of_more _ _ c.args.self.now (c.args.text.now ∷ []) c.in-Err.count (rw c.if-keep.ensures.unchanged at c.in-Err.ensures.err).puts

pub returns-in-Ok-clause-ok : goal.returns-in-Ok-clause-ok
returns-in-Ok-clause-ok g c =
    rw c.in_default.ensures.none (puts_all _ _ (c.args.self.now ++ c.args.text.now ∷ []) (puts_behind _ _ _ c.args.self.now c.args.text.now (rw c.if-keep.ensures.unchanged at c.in_default.ensures.ok) c.in-Ok.ensures.ok))

pub returns-in-Err-put_line-clause-err : goal.returns-in-Err-put_line-clause-err
returns-in-Err-put_line-clause-err g c =
    let cut = c.in-Err-put_line.ensures.err in
    let count : c.len-waiting.result ≡ length c.args.self.now + 0 = omega (arith, c.len-waiting.ensures, ap length (c.if-keep.ensures.unchanged refl)) in
    rw count (part_behind _ _ _ c.args.self.now (c.args.text.now ∷ []) 0 (rw c.if-keep.ensures.unchanged at c.in_default.ensures.ok) (part_alone _ _ c.args.text.now cut.0 cut.1))
