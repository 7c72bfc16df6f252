-- What is read of a task's handle is spelled so, and what is spelled so is read.
use Rattle.std.proofs.Common.{◌≡◌, ℕ, ◌<◌, ◌≤◌, Bool, true, false, cond, List, [], ◌++◌, length, take, drop, Option, Some, None, codes, refl, sym, ap, ◌∙◌, arith}
use Rattle.std.specs.Prelude.{nat_lt, nat_le, ◌==◌, IfSome}
use Rattle.std.specs.Str.{bytes_eq}
use Rattle.std.proofs.lemmas.Bool.{le-leb, le-ltb, eqb-true}
use Rattle.std.proofs.lemmas.List.{append-nil, nil_from_length, take-append-drop, length-append}
use Rattle.std.proofs.lemmas.Slice.Eq.{bytes_eq-Decides}
use Rattle.sq_base.specs.Fields.{field, ◌>>=◌, field_at}
use Rattle.sq_base.proofs.FieldLaws.{bind_some, test_some, guard_some, field_takes, field_again}
use Rattle.sq_calls.specs.TaskHandles.{task_handle_text, behind_front, task_in_range, task_handle_at}

ended : {A : Type 0} (b : Bool) (o : Option A) (y : A) → cond b o None ≡ Some y → (b ≡ true) × (o ≡ Some y)
ended true o y e = (refl, e)
ended false o y e = absurd cc

-- what follows the front is behind it
front_takes : (bytes rest : List ℕ) → behind_front bytes ≡ Some rest → bytes ≡ codes "task-" ++ rest
unfolding behind_front
front_takes bytes rest e =
    let long = guard_some (nat_lt (length bytes) 5) (cond (bytes_eq (take 5 bytes) (codes "task-")) (Some (drop 5 bytes)) None) rest e in
    let same = test_some (bytes_eq (take 5 bytes) (codes "task-")) (drop 5 bytes) rest long.1 in
    let front : take 5 bytes ≡ codes "task-" = (bytes_eq-Decides (take 5 bytes) (codes "task-")).0 same.0 in
    sym (take-append-drop 5 bytes) ∙ rw (front, same.1) refl

front_again : (rest : List ℕ) → behind_front (codes "task-" ++ rest) ≡ Some rest
unfolding behind_front
front_again rest =
    let long : nat_lt (length (codes "task-" ++ rest)) 5 ≡ false = le-ltb _ _ (omega (arith, length-append (codes "task-") rest)) in
    rw long refl

-- what is read is spelled so
pub task_handle_takes : (bytes : List ℕ) (task : ℕ) → task_handle_at bytes ≡ Some task → bytes ≡ task_handle_text task
unfolding task_handle_at task_handle_text
task_handle_takes bytes task e =
    let f = bind_some (behind_front bytes) (λ digits. field_at 16 digits >>= λ number. cond (length number.1 == 0) (task_in_range number.0) None) task e in
    let n = bind_some (field_at 16 f.0) (λ number. cond (length number.1 == 0) (task_in_range number.0) None) task f.2 in
    let g = ended (length n.0.1 == 0) (task_in_range n.0.0) task n.2 in
    let same = (test_some (nat_le 1 n.0.0) n.0.0 task g.1).1 in
    let nothing : n.0.1 ≡ [] = nil_from_length n.0.1 (eqb-true (length n.0.1) 0 g.0) in
    let digits : f.0 ≡ field 16 task = field_takes 16 f.0 n.0.0 n.0.1 n.1 ∙ ap (λ (x : List ℕ). field 16 n.0.0 ++ x) nothing ∙ append-nil (field 16 n.0.0) ∙ ap (λ (x : ℕ). field 16 x) same in
    front_takes bytes f.0 f.1 ∙ ap (λ (x : List ℕ). codes "task-" ++ x) digits

-- what is spelled so is read
pub task_handle_again : (task : ℕ) → 1 ≤ task → task < 18446744073709551616 → task_handle_at (task_handle_text task) ≡ Some task
unfolding task_handle_at task_handle_text
task_handle_again task least below =
    let a : nat_le 1 task ≡ true = le-leb _ _ least in
    let last : field_at 16 (field 16 task) ≡ Some (task, []) = ap (field_at 16) (sym (append-nil (field 16 task))) ∙ field_again 16 task [] (omega (arith, below)) in
    rw (front_again (field 16 task), last, a) refl

pub found : (o : Option ℕ) (bytes : List ℕ) → o ≡ task_handle_at bytes → IfSome o (λ task. bytes ≡ task_handle_text task)
found None bytes e = tt
found (Some task) bytes e = task_handle_takes bytes task (sym e)
