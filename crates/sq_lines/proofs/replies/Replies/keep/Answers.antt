use Rattle.std.proofs.Common.{◌≡◌, ◌∙◌, ◌++◌, ◌∷◌, [], ◌<◌, ◌+◌, ap, length, arith, List, ℕ}
use Rattle.std.specs.Prelude.{vec_len, vec_capacity}
use Rattle.sq_lines.proofs.ReplyLaws.{are_more, appended, appended_len}
use Rattle.sq_lines.proofs.replies.Replies.keep.Goals as goal

-- the bytes with the text and its line feed behind them
all_are : (c : goal.After-push-2) → c.push-2.new.self.items ≡ (c.self.inside.bytes.items ++ c.args.text.now) ++ 10 ∷ []
all_are c =
    let fits : vec_len c.self.inside.bytes + length c.args.text.now < vec_capacity c.self.inside.bytes = omega arith in
    let first : c.extend_from_slice.new.self.items ≡ c.self.inside.bytes.items ++ c.args.text.now =
    appended _ _ c.self.inside.bytes.items c.args.text.now c.extend_from_slice.ensures.items (c.extend_from_slice.ensures.succeeds (omega arith)) in
    let left : vec_len c.extend_from_slice.new.self < vec_capacity c.extend_from_slice.new.self =
    omega (arith, fits, c.extend_from_slice.ensures.capacity, appended_len _ _ _ _ c.extend_from_slice.ensures.len (c.extend_from_slice.ensures.succeeds (omega arith))) in
    appended _ _ c.extend_from_slice.new.self.items (10 ∷ []) c.push-2.ensures.items (c.push-2.ensures.succeeds left) ∙ ap (λ (b : List ℕ). b ++ 10 ∷ []) first

pub invariant_of-self-2 : goal.invariant_of-self-2
invariant_of-self-2 c = rw (c.in-Ok.ensures.items, all_are c) (are_more c.self.inside.lengths.items c.self.inside.bytes.items c.args.text.now c.self.invariant).are

pub returns-clause-kept : goal.returns-clause-kept
returns-clause-kept c is =
    rw (c.in-Ok.ensures.items, all_are c, ← c.self.view_is) (are_more c.self.inside.lengths.items c.self.inside.bytes.items c.args.text.now c.self.invariant).texts_are
