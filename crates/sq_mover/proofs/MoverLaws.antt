-- Turns one after another, and reads between them.
use Rattle.std.proofs.Common.{◌≡◌, ◌∙◌, ℕ, ◌+◌, ◌≤◌, List, [], ◌++◌, length, ap, inl, inr, sym, subst, arith}
use Rattle.std.proofs.Math.Numerals.{add-one}
use Rattle.std.proofs.lemmas.List.{length-append}
use Rattle.sq_model.specs.RecordValues.{RecordValue, Journal}
use Rattle.sq_calls.specs.declared.turns.Turned.{Turned}
use Rattle.sq_base.specs.declared.refusal.Refusal.{Refusal}
use Rattle.std.specs.Prelude.{Result, Ok, Err, OnOk, OnErr, Some}
use Rattle.sq_actions.specs.declared.walk.Walk.{Walk}
use Rattle.sq_actions.specs.Performs.{BringFits, GainsAtMost, ServeFits}
use Rattle.sq_actions.proofs.PathLaws.{no_gain, read_gain, gains_more}
use Rattle.sq_queue.specs.Sections.{Surroundings}
use Rattle.sq_queue.specs.SessionValue.{SessionValue}
use Rattle.sq_queue.specs.Services.{HasRead}
use Rattle.sq_mover.specs.MoverValue.{MoverValue, after_walk, brought, walk_kept}
use Rattle.sq_mover.specs.MoverTurns.{BringsNext, GetsSpare, IsPassedOver, MakesTurn, ServesFor, TakesTurn, TakesTurns}

-- nothing was done
pub gains_none : (most : ℕ) (s t : SessionValue) → t ≡ s → GainsAtMost most s.journal t.journal
gains_none most s t same = ([], no_gain s.journal t.journal (ap (λ (x : SessionValue). x.journal) same), omega arith)

-- a part was read
pub gains_read : (most : ℕ) (s t : SessionValue) → HasRead s t → GainsAtMost most s.journal t.journal
gains_read most s t read = ([], read_gain s.journal t.journal read.0 (ap (λ (x : SessionValue). x.journal) read.1), omega arith)

-- a part was read, or that was refused
pub gains_asked : {X E : Type 0} (answered : Result X E) (s t : SessionValue) → OnOk answered (HasRead s t) → OnErr answered (t ≡ s) → GainsAtMost 0 s.journal t.journal
gains_asked (Ok x) s t read err = gains_read 0 s t read
gains_asked (Err e) s t read err = gains_none 0 s t err

-- one after another
pub gains_both : (m n : ℕ) (a b c : Journal) → GainsAtMost m a b → GainsAtMost n b c → GainsAtMost (m + n) a c
gains_both m n a b c h k = (h.0 ++ k.0, gains_more a b c h.0 k.0 h.1 k.1, let x = h.2 in let y = k.2 in omega (arith, x, y, length-append h.0 k.0))

-- of more it is true too
pub gains_fewer : (m n : ℕ) (a b : Journal) → m ≤ n → GainsAtMost m a b → GainsAtMost n a b
gains_fewer m n a b most h = (h.0, h.1, let x = h.2 in omega (arith, x, most))

-- one turn more
pub turns_more : (at : Surroundings) (made : ℕ) (m mid n : MoverValue) (s read t : SessionValue) (told : Result Turned Refusal) → TakesTurns at made m s mid read → TakesTurn at mid read told n t → IsPassedOver told → TakesTurns at (made + 1) m s n t
turns_more at made m mid n s read t told before turn passed = subst (λ (k : ℕ). TakesTurns at k m s n t) (sym (add-one made)) (mid, read, told, before, turn, passed)

-- an item came in, which counts as tried, and the sweep goes on
pub brings : (at : Surroundings) (tried : ℕ) (m n : MoverValue) (s t : SessionValue) (told : Result Turned Refusal)
    → MakesTurn at (BringFits at.counts.homes tried n.tried) s told t → tried ≡ m.tried → n ≡ brought n.tried m → BringsNext at m s told n t
brings at tried m n s t told made same new = (new, subst (λ (item : ℕ). MakesTurn at (BringFits at.counts.homes item n.tried) s told t) same made)

-- a task was served by the walk that was kept for it, which is kept as it is then
pub served : (at : Surroundings) (task spare : ℕ) (m n : MoverValue) (s t : SessionValue) (told : Result Turned Refusal) (before after : Walk) (last : List Walk)
    → before ≡ walk_kept task last → last ≡ m.last.walks → GetsSpare m.this spare → n ≡ after_walk after spare m → MakesTurn at (ServeFits at.counts.homes before after) s told t
    → ServesFor at (Some task) m s told n t
served at task spare m n s t told before after last kept of_last has new made =
    inr (after, spare, has, new, subst (λ (walk : Walk). MakesTurn at (ServeFits at.counts.homes walk after) s told t) (kept ∙ ap (walk_kept task) of_last) made)
