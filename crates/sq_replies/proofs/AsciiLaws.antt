-- Handles are ASCII.
use Rattle.std.proofs.Common.{ℕ, zero, suc, ◌/◌, ◌%◌, ◌<◌, List, [], ◌∷◌, ◌++◌, arith}
use Rattle.std.specs.Str.{IsAscii}
use Rattle.std.proofs.lemmas.Grind.{common_steps}
use Rattle.std.proofs.lemmas.Str.{IsAscii-append}
use Rattle.std.proofs.lemmas.Str.Ascii.{IsAscii-nil, IsAscii-cons}
use Rattle.sq_calls.specs.TaskHandles.{task_handle_text}
use Rattle.sq_base.specs.declared.handle.Handle.{Handle}
use Rattle.sq_base.specs.Fields.{digit, field}
use Rattle.sq_base.specs.Handles.{numbers_text, handle_text}

digit_ascii : (d : ℕ) → d < 16 → digit d < 128
digit_ascii d below = grind (arith, common_steps)

field_ascii : (width n : ℕ) → IsAscii (field width n)
unfolding field
field_ascii zero n = IsAscii-nil
field_ascii (suc width) n = IsAscii-append (field width (n / 16)) (digit (n % 16) ∷ []) (field_ascii width (n / 16)) (IsAscii-cons _ [] (digit_ascii (n % 16) (omega arith)) IsAscii-nil)

-- what follows a `-`
dash_ascii : (front back : List ℕ) → IsAscii front → IsAscii back → IsAscii (front ++ (45 ∷ back))
dash_ascii front back h k = IsAscii-append front (45 ∷ back) h (IsAscii-cons 45 back (omega arith) k)

numbers_ascii : (h : Handle) → IsAscii (numbers_text h)
unfolding numbers_text
numbers_ascii h =
    dash_ascii _ _ (field_ascii 12 h.queue)
    (dash_ascii _ _ (field_ascii 3 h.home)
    (dash_ascii _ _ (field_ascii 8 h.slot)
    (dash_ascii _ _ (field_ascii 16 h.serial) (field_ascii 8 h.receive))))

pub handle_ascii : (h : Handle) → IsAscii (handle_text h)
unfolding handle_text
handle_ascii h = IsAscii-cons 50 (45 ∷ numbers_text h) (omega arith) (IsAscii-cons 45 (numbers_text h) (omega arith) (numbers_ascii h))

pub task_handle_ascii : (task : ℕ) → IsAscii (task_handle_text task)
unfolding task_handle_text
task_handle_ascii task =
    let digits = field 16 task in
    IsAscii-cons 116 (97 ∷ 115 ∷ 107 ∷ 45 ∷ digits) (omega arith)
    (IsAscii-cons 97 (115 ∷ 107 ∷ 45 ∷ digits) (omega arith)
    (IsAscii-cons 115 (107 ∷ 45 ∷ digits) (omega arith)
    (IsAscii-cons 107 (45 ∷ digits) (omega arith)
    (IsAscii-cons 45 digits (omega arith) (field_ascii 16 task)))))
