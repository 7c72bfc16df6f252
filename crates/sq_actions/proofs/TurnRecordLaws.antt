-- A turn leaves one record at most.
use Rattle.std.proofs.Common.{◌≡◌, ◌∙◌, ℕ, ◌≤◌, true, List, [], ◌∷◌, ◌++◌, length, ap, subst, sym, refl, arith, Option, Some, None, Result, Ok, Err, inl, inr}
use Rattle.std.proofs.lemmas.List.{length-append}
use Rattle.sq_base.specs.declared.ids.HomeId.{HomeId}
use Rattle.sq_base.specs.declared.refusal.Refusal.{Refusal}
use Rattle.sq_model.specs.RecordValues.{RecordValue, Journal}
use Rattle.sq_model.specs.declared.ledger.LedgerReply.{LedgerReply}
use Rattle.sq_model.specs.declared.shared.SharedAct.{SharedAct}
use Rattle.sq_model.specs.declared.shared.SharedAct.TheVariants.{LeaveDead, LeaveTask}
use Rattle.sq_model.specs.declared.task.Task.{Task}
use Rattle.sq_calls.specs.declared.turns.Turned.{Turned}
use Rattle.sq_steps.specs.declared.act.NextItem.{NextItem}
use Rattle.sq_steps.specs.declared.act.TaskAct.{TaskAct}
use Rattle.sq_steps.specs.declared.act.TaskAct.TheVariants.{Finish}
use Rattle.sq_actions.specs.declared.walk.Walk.{Walk}
use Rattle.sq_actions.specs.Asks.{AskShared, AskLedger, Gave, Found, Replied, Nothing, Peeked, TaskFound, Done, AreOf, AreOfStep, gave_as, Told}
use Rattle.sq_actions.specs.Performs.{LeavesRecords}
use Rattle.sq_actions.specs.Calls.{home_numbered}
use Rattle.sq_actions.specs.Steps.{ledger_step, named}
use Rattle.sq_actions.specs.Turns.{GainsAtMost, LeaveFits, BringFits, Brings, ServeFits, ServesTask, comes_in, goes_back, home_ahead, is_closed, shared_step, peeking, task_read}

-- a list that is empty, or has one
none_is_few : (ns : List RecordValue) → ns ≡ [] → length ns ≤ 1
none_is_few ns e = omega (arith, ap (λ (xs : List RecordValue). length xs) e)

one_is_few : (ns : List RecordValue) (n : RecordValue) → ns ≡ n ∷ [] → length ns ≤ 1
one_is_few ns n e = omega (arith, ap (λ (xs : List RecordValue). length xs) e)

-- a step leaves one at most
moved_one : (name : Option (List ℕ)) (home : HomeId) (what : SharedAct) (answered : Result Gave Refusal) (ns : List RecordValue) → AreOfStep (AskShared name home what) answered ns → length ns ≤ 1
moved_one name home what (Ok (Replied reply)) ns h = one_is_few ns h.0 h.2
moved_one name home what (Ok Nothing) ns h = none_is_few ns h
moved_one name home what (Err e) ns h = none_is_few ns h
moved_one name home what answered ns h = elim h [ ]

told_one : (what : TaskAct) (by : Result LedgerReply Refusal) (ns : List RecordValue) → AreOfStep (AskLedger what) (gave_as Told by) ns → length ns ≤ 1
told_one what (Ok reply) ns h = one_is_few ns h.0 h.2
told_one what (Err e) ns h = none_is_few ns h

-- the last step of all
last_of : (d : Done) (ns : List RecordValue) → ((front : List RecordValue) → AreOfStep d.ask d.answered front → length front ≤ 1) → AreOf (d ∷ []) ns → length ns ≤ 1
last_of d ns few h =
    let front = few h.0 h.2 in
    let none = ap (λ (xs : List RecordValue). length xs) h.3 in
    let all = ap (λ (xs : List RecordValue). length xs) h.4 in
    omega (arith, front, none, all, length-append h.0 h.1)

-- what comes after a read
after_none : (d : Done) (ds : List Done) (ns : List RecordValue) → ((front : List RecordValue) → AreOfStep d.ask d.answered front → front ≡ []) → AreOf (d ∷ ds) ns → AreOf ds ns
after_none d ds ns none h = subst (λ (xs : List RecordValue). AreOf ds xs) (sym (h.4 ∙ ap (λ (xs : List RecordValue). xs ++ h.1) (none h.0 h.2))) h.3

of_trace : (trace steps : List Done) (ns : List RecordValue) → trace ≡ steps → AreOf trace ns → AreOf steps ns
of_trace trace steps ns e are = subst (λ (t : List Done). AreOf t ns) e are

-- a step of a home and the ledger, as the only one or after a read; and a refusal alone
last_moved : (name : Option (List ℕ)) (home : HomeId) (what : SharedAct) (by : Result Gave Refusal) (trace : List Done) (ns : List RecordValue) → trace ≡ shared_step name home what by ∷ [] → AreOf trace ns → length ns ≤ 1
last_moved name home what by trace ns e are = last_of (shared_step name home what by) ns (λ front k. moved_one name home what by front k) (of_trace trace (shared_step name home what by ∷ []) ns e are)

read_then : (d : Done) (ds trace : List Done) (ns : List RecordValue) → ((front : List RecordValue) → AreOfStep d.ask d.answered front → front ≡ []) → trace ≡ d ∷ ds → AreOf trace ns → AreOf ds ns
read_then d ds trace ns none e are = after_none d ds ns none (of_trace trace (d ∷ ds) ns e are)

-- a home that does not serve leaves none
closed_none : (name : Option (List ℕ)) (home : HomeId) (what : SharedAct) (by : Result Gave Refusal) → is_closed by ≡ true → (ns : List RecordValue) → AreOfStep (AskShared name home what) by ns → ns ≡ []
closed_none name home what (Ok gave) closed ns h = absurd cc
closed_none name home what (Err e) closed ns h = h

only_read : (d : Done) (trace : List Done) (ns : List RecordValue) → ((front : List RecordValue) → AreOfStep d.ask d.answered front → front ≡ []) → trace ≡ d ∷ [] → AreOf trace ns → length ns ≤ 1
only_read d trace ns none e are = none_is_few ns (read_then d [] trace ns none e are)

one_of_brings : (next : NextItem) (home : HomeId) (trace : List Done) (answered : Result Turned Refusal) (ns : List RecordValue) → Brings next home trace answered → AreOf trace ns → length ns ≤ 1
one_of_brings next home trace answered ns h are = elim h [
  | inl came ↦ last_moved None home (comes_in next) came.0 trace ns came.1 are
  | inr back ↦ (let rest = shared_step None home (goes_back next) back.1 ∷ [] in
      last_moved None home (goes_back next) back.1 rest ns refl (read_then (shared_step None home (comes_in next) back.0) rest trace ns (closed_none None home (comes_in next) back.0 back.3) back.2 are))
]

one_of_leave : (homes : ℕ) (name : List ℕ) (trace : List Done) (answered : Result Turned Refusal) (ns : List RecordValue) → LeaveFits homes name trace answered → AreOf trace ns → length ns ≤ 1
one_of_leave homes name trace answered ns h are = elim h [
  | inl refused ↦ only_read (named name (Err refused.0)) trace ns (λ front k. k) refused.2 are
  | inr left ↦ (let rest = shared_step (Some name) (home_numbered left.0.number left.1) LeaveDead left.2 ∷ [] in
      last_moved (Some name) (home_numbered left.0.number left.1) LeaveDead left.2 rest ns refl (read_then (named name (Ok (Found left.0))) rest trace ns (λ front k. k) left.4 are))
]

one_of_bring : (homes before after : ℕ) (trace : List Done) (answered : Result Turned Refusal) (ns : List RecordValue) → BringFits homes before after trace answered → AreOf trace ns → length ns ≤ 1
one_of_bring homes before after trace answered ns h are = elim h [
  | inl refused ↦ only_read (peeking before (Err refused.0)) trace ns (λ front k. k) refused.2 are
  | inr found ↦ elim found [
    | inl none ↦ only_read (peeking before (Ok (Peeked None))) trace ns (λ front k. k) none.0 are
    | inr some ↦ one_of_brings some.0 (home_ahead some.0 some.1) some.2 answered ns some.5 (read_then (peeking before (Ok (Peeked (Some some.0)))) some.2 trace ns (λ front k. k) some.4 are)
  ]
]

one_of_served : (homes : ℕ) (task : Task) (before after : Walk) (trace : List Done) (answered : Result Turned Refusal) (ns : List RecordValue) → ServesTask homes task before after trace answered → AreOf trace ns → length ns ≤ 1
one_of_served homes task before after trace answered ns h are = elim h [
  | inl over ↦ none_is_few ns (of_trace trace [] ns over.1 are)
  | inr active ↦ elim active [
    | inl goes ↦ last_moved None (home_numbered task.source.number before.home) (LeaveTask before.task) goes.1.0 trace ns goes.1.1 are
    | inr ends ↦ last_of (ledger_step (Finish before.task) ends.2.0) ns (λ front k. told_one (Finish before.task) ends.2.0 front k) (of_trace trace (ledger_step (Finish before.task) ends.2.0 ∷ []) ns ends.2.1 are)
  ]
]

one_of_serve : (homes : ℕ) (before after : Walk) (trace : List Done) (answered : Result Turned Refusal) (ns : List RecordValue) → ServeFits homes before after trace answered → AreOf trace ns → length ns ≤ 1
one_of_serve homes before after trace answered ns h are = elim h [
  | inl refused ↦ only_read (task_read before.task (Err refused.0)) trace ns (λ front k. k) refused.2 are
  | inr found ↦ one_of_served homes found.0 before after found.1 answered ns found.3 (read_then (task_read before.task (Ok (TaskFound found.0))) found.1 trace ns (λ front k. k) found.2 are)
]

-- what a turn leaves with its actor
pub leave_gains : (homes : ℕ) (name : List ℕ) (a b : Journal) (answered : Result Turned Refusal) → LeavesRecords (LeaveFits homes name) a answered b → GainsAtMost 1 a b
leave_gains homes name a b answered left = (left.records, left.gains, one_of_leave homes name left.trace answered left.records left.fits left.are)

pub bring_gains : (homes before after : ℕ) (a b : Journal) (answered : Result Turned Refusal) → LeavesRecords (BringFits homes before after) a answered b → GainsAtMost 1 a b
bring_gains homes before after a b answered left = (left.records, left.gains, one_of_bring homes before after left.trace answered left.records left.fits left.are)

pub serve_gains : (homes : ℕ) (before after : Walk) (a b : Journal) (answered : Result Turned Refusal) → LeavesRecords (ServeFits homes before after) a answered b → GainsAtMost 1 a b
serve_gains homes before after a b answered left = (left.records, left.gains, one_of_serve homes before after left.trace answered left.records left.fits left.are)
