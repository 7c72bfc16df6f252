-- The most recent task of a source is one of that source.
use Rattle.std.proofs.Common.{◌≡◌, ℕ, Bool, true, false, List, [], ◌∷◌, Option, Some, None, IfSome, reverse, refl, subst, sym, cond}
use Rattle.std.specs.List.{All, filter}
use Rattle.std.proofs.lemmas.List.{reverse-append}
use Rattle.std.proofs.lemmas.List.Elements.{All-nil, All-cons, All-head, All-tail, All-append}
use Rattle.sq_model.specs.declared.task.Task.{Task}
use Rattle.sq_model.specs.Ledgers.{Ledger, is_of_source, last_task, tasks_of}
use Rattle.sq_audit.proofs.ListLaws.{all_at}

all_pass : (p : Task → Bool) (xs : List Task) → All (λ t. p t ≡ true) (filter p xs)
all_pass p [] = All-nil (λ t. p t ≡ true)
all_pass p (x ∷ xs) = elim (p x) as (λ b. p x ≡ b → All (λ t. p t ≡ true) (cond b (x ∷ filter p xs) (filter p xs))) [
  | true ↦ (λ e. All-cons (λ t. p t ≡ true) x (filter p xs) e (all_pass p xs))
  | false ↦ (λ e. all_pass p xs)
] refl

all_reversed : (P : Task → Type 0) (xs : List Task) → All P xs → All P (reverse xs)
all_reversed P [] h = h
all_reversed P (x ∷ xs) h = subst (λ (ys : List Task). All P ys) (sym (reverse-append (x ∷ []) xs))
    (All-append P (reverse xs) (x ∷ []) (all_reversed P xs (All-tail P x xs h)) (All-cons P x [] (All-head P x xs h) (All-nil P)))

pub last_is_of_source : (source : ℕ) (l : Ledger) (found : Option Task) → found ≡ last_task source l → IfSome found (λ task. is_of_source source task ≡ true)
last_is_of_source source l (Some task) e = all_at (λ t. is_of_source source t ≡ true) (tasks_of source l) 0 task (all_reversed (λ t. is_of_source source t ≡ true) (filter (is_of_source source) l.tasks) (all_pass (is_of_source source) l.tasks)) (sym e)
last_is_of_source source l None e = tt
