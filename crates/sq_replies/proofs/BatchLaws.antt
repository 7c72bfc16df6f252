-- What failed in a batch, and what did not, up to one more entry.
use Rattle.std.proofs.Common.{◌≡◌, ◌∙◌, ℕ, ◌+◌, ◌<◌, List, [], ◌∷◌, ◌++◌, length, take, get_or, refl, ap, sym, append_assoc}
use Rattle.std.specs.Prelude.{Result, Ok, Err}
use Rattle.std.proofs.lemmas.List.{append-nil, take_all, take_more}
use Rattle.json.specs.Token.{Token}
use Rattle.serde_json.specs.Data.{Data}
use Rattle.sq_base.specs.declared.refusal.Refusal.{Refusal}
use Rattle.sq_calls.specs.declared.batches.EntryAnswer.{EntryAnswer}
use Rattle.sq_calls.specs.declared.batches.EntryResult.{EntryResult}
use Rattle.sq_replies.specs.Replies.{with_failure, failures, with_success, successes}
use Rattle.sq_replies.specs.inside.Told.{tokens_of, all_tokens}

failure_first : (id : List ℕ) (answer : Result EntryAnswer Refusal) (xs ys : List Data) → with_failure id answer (xs ++ ys) ≡ with_failure id answer xs ++ ys
failure_first id (Ok answer) xs ys = refl
failure_first id (Err e) xs ys = refl

success_first : (id : List ℕ) (answer : Result EntryAnswer Refusal) (xs ys : List Data) → with_success id answer (xs ++ ys) ≡ with_success id answer xs ++ ys
success_first id (Ok answer) xs ys = refl
success_first id (Err e) xs ys = refl

failures_last : (told : List EntryResult) (t : EntryResult) → failures (told ++ t ∷ []) ≡ failures told ++ with_failure t.id t.answer []
failures_last [] t = refl
failures_last (u ∷ told) t = ap (with_failure u.id u.answer) (failures_last told t) ∙ failure_first u.id u.answer (failures told) (with_failure t.id t.answer [])

successes_last : (told : List EntryResult) (t : EntryResult) → successes (told ++ t ∷ []) ≡ successes told ++ with_success t.id t.answer []
successes_last [] t = refl
successes_last (u ∷ told) t = ap (with_success u.id u.answer) (successes_last told t) ∙ success_first u.id u.answer (successes told) (with_success t.id t.answer [])

told_last : (ds es : List Data) → all_tokens (ds ++ es) ≡ all_tokens ds ++ all_tokens es
told_last [] es = refl
told_last (d ∷ ds) es = ap (λ (ts : List Token). tokens_of d ++ ts) (told_last ds es) ∙ sym (append_assoc (tokens_of d) (all_tokens ds) (all_tokens es))

-- the first part of the conclusion says nothing: it shows `grind` the read of an entry
pub failures_at_read : (told : List EntryResult) (i : ℕ) (d : EntryResult) → i < length told
    → (get_or told i d ≡ get_or told i d) × (all_tokens (failures (take (i + 1) told)) ≡ all_tokens (failures (take i told)) ++ all_tokens (with_failure (get_or told i d).id (get_or told i d).answer []))
failures_at_read told i d lt = (refl, ap (λ (ts : List EntryResult). all_tokens (failures ts)) (take_more told i d lt) ∙ ap all_tokens (failures_last (take i told) (get_or told i d)) ∙ told_last (failures (take i told)) _)

pub successes_at_read : (told : List EntryResult) (i : ℕ) (d : EntryResult) → i < length told
    → (get_or told i d ≡ get_or told i d) × (all_tokens (successes (take (i + 1) told)) ≡ all_tokens (successes (take i told)) ++ all_tokens (with_success (get_or told i d).id (get_or told i d).answer []))
successes_at_read told i d lt = (refl, ap (λ (ts : List EntryResult). all_tokens (successes ts)) (take_more told i d lt) ∙ ap all_tokens (successes_last (take i told) (get_or told i d)) ∙ told_last (successes (take i told)) _)

pub ruleset failures_grow = (failures_at_read, take_all, append-nil, append_assoc)

pub ruleset successes_grow = (successes_at_read, take_all, append-nil, append_assoc)
