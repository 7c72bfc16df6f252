use Rattle.std.proofs.Common.{◌≡◌, ◌∙◌, rules, sym, ap, take, length, ℕ}
use Rattle.std.proofs.Math.Seq.{take-length}
use Rattle.sq_calls.specs.TaskHandles.{task_handle_text}
use Rattle.sq_calls.proofs.task_handle.task_handle.Goals as goal

pub returns : goal.returns
unfolding task_handle_text
returns c =
    let len : length c.put_at.new.out ≡ 21 = search rules in
    let all : take 21 c.put_at.new.out ≡ c.put_at.new.out = sym (ap (λ (n : ℕ). take n c.put_at.new.out) len) ∙ take-length c.put_at.new.out in
    sym all ∙ c.put_at.ensures.written ∙ cc c.get.ensures
