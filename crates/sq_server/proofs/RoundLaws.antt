-- Runs of a mover, by what they tell.
use Rattle.std.proofs.Common.{◌≡◌, ℕ, ◌<◌, Bool, true, false, Result, Ok, Err, refl, inl, inr, subst}
use Rattle.std.specs.Prelude.{is_ok, IfErr, OnOk}
use Rattle.sq_base.specs.declared.refusal.Refusal.{Refusal}
use Rattle.sq_store.specs.declared.store.Store.{Ghosts}
use Rattle.sq_queue.specs.Sections.{Surroundings}
use Rattle.sq_queue.specs.SessionValue.{SessionValue}
use Rattle.sq_queue.specs.declared.service.Serving.{Serving}
use Rattle.sq_mover.specs.MoverTurns.{EndsEarly, TakesTurns}
use Rattle.sq_mover.specs.MoverValue.{MoverValue, begun}
use Rattle.sq_server.specs.Around.{around_all}
use Rattle.sq_server.specs.Rounds.{HasRunMover, RunsMover}

-- of the same service and session
same_run : {C G D T S : Type 0} {g : Ghosts S} (it service : Serving C G D T S g) (turns : ℕ) (m n : MoverValue) (s old t : SessionValue) (told : Bool) → it ≡ service → s ≡ old → HasRunMover (around_all it) turns m s told n t → HasRunMover (around_all service) turns m old told n t
same_run {C} {G} {D} {T} {S} {g} it service turns m n s old t told of_service of_session h =
    subst (λ (a : SessionValue). HasRunMover (around_all service) turns m a told n t) of_session
    (subst (λ (v : Serving C G D T S g). HasRunMover (around_all v) turns m s told n t) of_service h)

whole : (at : Surroundings) (turns : ℕ) (m n : MoverValue) (s t : SessionValue) (made : Result ℕ Refusal) (told : Bool) → is_ok made ≡ true → OnOk made (TakesTurns at turns (begun m) s n t) → (told ≡ true → 0 < n.moved) → (told ≡ false → n.moved ≡ 0)
    → HasRunMover at turns m s told n t
whole at turns m n s t (Ok k) true ok all some none = (all, some refl)
whole at turns m n s t (Ok k) false ok all some none = inl (all, none refl)
whole at turns m n s t (Err e) told ok all some none = absurd cc

short : (at : Surroundings) (turns : ℕ) (m n : MoverValue) (s t : SessionValue) (made : Result ℕ Refusal) (told : Bool) → is_ok made ≡ false → IfErr made (λ e. EndsEarly at turns (begun m) s e n t) → told ≡ false → HasRunMover at turns m s told n t
short at turns m n s t (Ok k) told ok ended is = absurd cc
short at turns m n s t (Err e) told ok ended is = rw is (inr (e, ended))

-- all turns of a run were made, and it is told whether one moved something
pub run_whole : {C G D T S : Type 0} {g : Ghosts S} (it service : Serving C G D T S g) (turns : ℕ) (m n : MoverValue) (s old t : SessionValue) (made : Result ℕ Refusal) (told : Bool) → OnOk made (TakesTurns (around_all it) turns (begun m) s n t) → is_ok made ≡ true → it ≡ service → s ≡ old
    → (told ≡ true → 0 < n.moved) → (told ≡ false → n.moved ≡ 0) → HasRunMover (around_all service) turns m old told n t
run_whole it service turns m n s old t made told taken ok of_service of_session some none = same_run it service turns m n s old t told of_service of_session (whole (around_all it) turns m n s t made told ok taken some none)

-- a turn of a run was refused, and it is told that none moved
pub run_short : {C G D T S : Type 0} {g : Ghosts S} (it service : Serving C G D T S g) (turns : ℕ) (m n : MoverValue) (s old t : SessionValue) (made : Result ℕ Refusal) (told : Bool) → IfErr made (λ e. EndsEarly (around_all it) turns (begun m) s e n t) → is_ok made ≡ false → it ≡ service → s ≡ old
    → told ≡ false → HasRunMover (around_all service) turns m old told n t
run_short it service turns m n s old t made told ended ok of_service of_session is = same_run it service turns m n s old t told of_service of_session (short (around_all it) turns m n s t made told ok ended is)

-- a run, whatever it told
pub told_run : (at : Surroundings) (turns : ℕ) (m first n : MoverValue) (s t : SessionValue) (told : Bool) → m ≡ first → HasRunMover at turns m s told n t → RunsMover at turns first s n t
told_run at turns m first n s t true same h = inl (subst (λ (x : MoverValue). TakesTurns at turns (begun x) s n t) same h.0)
told_run at turns m first n s t false same h = elim h [
  | inl all ↦ inl (subst (λ (x : MoverValue). TakesTurns at turns (begun x) s n t) same all.0)
  | inr ended ↦ inr (ended.0, subst (λ (x : MoverValue). EndsEarly at turns (begun x) s ended.0 n t) same ended.1)
]
