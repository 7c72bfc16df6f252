-- How far an actor is, and the place where that stands.
use Rattle.std.proofs.Common.{◌≡◌, ◌∙◌, ℕ, ◌<◌, Bool, true, false, cond, List, [], ◌∷◌, ◌++◌, length, refl, ap, sym, subst, arith, Option, None, Some, Result, slice_get, slice_set}
use Rattle.std.specs.Prelude.{find, nat_lt, position, unwrap_or}
use Rattle.std.specs.List.{position_or_len, slice_index_or}
use Rattle.std.proofs.lemmas.Grind.{common_steps}
use Rattle.std.proofs.lemmas.List.Folds.{find_at, find-set, find-append}
use Rattle.std.proofs.lemmas.Option.{slice_get_past, slice_get_read}
use Rattle.std.proofs.Math.Seq.{get_or-append_seam, set-append_seam}
use Rattle.sq_base.specs.declared.refusal.Refusal.{Refusal}
use Rattle.sq_calls.specs.declared.turns.Turn.{Turn}
use Rattle.sq_calls.specs.declared.turns.Turned.{Turned}
use Rattle.sq_model.proofs.ElementLaws.{some_same}
use Rattle.sq_audit.proofs.ActorLaws.{same_number}
use Rattle.sq_actions.specs.Performs.{LeavesRecords, Performs}
use Rattle.sq_model.specs.RecordValues.{Journal}
use Rattle.sq_merge.specs.declared.progress.ActorProgress.{ActorProgress}
use Rattle.sq_merge.specs.declared.progress.Progress.{Progress}
use Rattle.sq_merge.specs.WorldSteps.{ActorStepped, TurnFits, TurnStepped}
use Rattle.sq_merge.specs.Progresses.{is_progress_of, at_progress, no_progress, progress_of, put_where, put_progress, added_where, with_progress}
use Rattle.sq_merge.specs.inside.Progresses.{progress_place}
use Rattle.sq_merge.specs.WorldValue.{WorldValue}

-- where a test first passes, and where it never does
found_at : (test : ActorProgress → Bool) (ps : List ActorProgress) (at : ℕ) → position test ps ≡ Some at → (at ≡ position_or_len test ps) × (at < length ps)
found_at test ps at h =
    elim (nat_lt (position_or_len test ps) (length ps)) as (λ v. nat_lt (position_or_len test ps) (length ps) ≡ v → cond v (Some (position_or_len test ps)) None ≡ Some at → (at ≡ position_or_len test ps) × (at < length ps))
    [ true ↦ (λ e k. (sym (some_same k), subst (λ (n : ℕ). n < length ps) (some_same k) (grind (arith, common_steps, e)))) | false ↦ (λ e k. absurd cc) ] refl h

none_found : (test : ActorProgress → Bool) (ps : List ActorProgress) → position test ps ≡ None → find test ps ≡ None
none_found test ps h =
    elim (nat_lt (position_or_len test ps) (length ps)) as (λ v. nat_lt (position_or_len test ps) (length ps) ≡ v → cond v (Some (position_or_len test ps)) None ≡ None → find test ps ≡ None)
    [ true ↦ (λ e k. absurd cc) | false ↦ (λ e k. find_at test ps ∙ slice_get_past ps (position_or_len test ps) (grind (arith, common_steps, e))) ] refl h

abbrev stands : ℕ → Option ActorProgress → Progress
stands actor o = (unwrap_or o (at_progress actor no_progress)).progress

-- what is read at the actor's place is how far it is
read_there : (actor : ℕ) (ps : List ActorProgress) (p : ActorProgress) → p ≡ slice_index_or (with_progress actor ps) (progress_place actor ps) p → p.progress ≡ progress_of actor ps
read_there actor ps p is =
    let test = is_progress_of actor in
    elim (position test ps) as (λ v. position test ps ≡ v → p ≡ slice_index_or (added_where v actor ps) (unwrap_or v (length ps)) p → p.progress ≡ progress_of actor ps) [
      | None ↦ (λ pos k. ap (λ (q : ActorProgress). q.progress) (k ∙ get_or-append_seam ps (at_progress actor no_progress) [] p) ∙ sym (ap (stands actor) (none_found test ps pos)))
      | Some at ↦ (λ pos k.
          let f = found_at test ps at pos in
          let there : find test ps ≡ Some p = find_at test ps ∙ subst (λ (n : ℕ). slice_get ps n ≡ Some p) f.0 (slice_get_read ps (length ps) at p refl f.1 k) in
          sym (ap (stands actor) there))
    ] refl is

-- what is written there is put
written_there : (actor : ℕ) (now : Progress) (ps : List ActorProgress) → slice_set (with_progress actor ps) (progress_place actor ps) (at_progress actor now) ≡ put_progress actor now ps
written_there actor now ps =
    elim (position (is_progress_of actor) ps) as (λ v. slice_set (added_where v actor ps) (unwrap_or v (length ps)) (at_progress actor now) ≡ put_where v (at_progress actor now) ps)
    [ None ↦ set-append_seam ps (at_progress actor no_progress) [] (at_progress actor now) | Some at ↦ refl ]

-- and so far the actor is then
progress_put : (actor : ℕ) (now : Progress) (ps : List ActorProgress) → progress_of actor (put_progress actor now ps) ≡ now
progress_put actor now ps =
    let test = is_progress_of actor in
    let own : test (at_progress actor now) ≡ true = same_number actor in
    elim (position test ps) as (λ v. position test ps ≡ v → progress_of actor (put_where v (at_progress actor now) ps) ≡ now) [
      | None ↦ (λ pos. let there : find test (ps ++ at_progress actor now ∷ []) ≡ Some (at_progress actor now) = find-append test ps (at_progress actor now ∷ []) ∙ rw (none_found test ps pos, own) refl in ap (stands actor) there)
      | Some at ↦ (λ pos. let f = found_at test ps at pos in ap (stands actor) (find-set test ps at (at_progress actor now) f.0 f.1 own))
    ] refl

-- a turn whose actor's place was made, read, and written again
module _ (actor now : ℕ) (turn : Turn) (old mid : WorldValue) (after : Progress) (p : ActorProgress) (answered : Result Turned Refusal) (read : p ≡ slice_index_or (with_progress actor old.progress) (progress_place actor old.progress) p) (same : mid.progress ≡ with_progress actor old.progress) where
  put_there : slice_set mid.progress (progress_place actor old.progress) (at_progress actor after) ≡ put_progress actor after old.progress
  put_there = ap (λ (ps : List ActorProgress). slice_set ps (progress_place actor old.progress) (at_progress actor after)) same ∙ written_there actor after old.progress

  pub turn_stepped : Performs (ActorStepped actor now) (TurnFits old.per_queue turn p.progress after) (record old { progress = with_progress actor old.progress }) answered mid
      → TurnStepped actor now turn old answered (record mid { progress = slice_set mid.progress (progress_place actor old.progress) (at_progress actor after) })
  turn_stepped steps = record {
    after = after;
    mid = mid;
    steps = subst (λ (before : Progress). Performs (ActorStepped actor now) (TurnFits old.per_queue turn before after) (record old { progress = with_progress actor old.progress }) answered mid) (read_there actor old.progress p read) steps;
    put = ap (λ (ps : List ActorProgress). record mid { progress = ps }) put_there;
  }

  pub turn_leaves : (a b : Journal) → LeavesRecords (TurnFits old.per_queue turn p.progress after) a answered b
      → LeavesRecords (TurnFits old.per_queue turn (progress_of actor old.progress) (progress_of actor (slice_set mid.progress (progress_place actor old.progress) (at_progress actor after)))) a answered b
  turn_leaves a b leaves = rw (put_there, progress_put actor after old.progress, ← read_there actor old.progress p read) leaves
