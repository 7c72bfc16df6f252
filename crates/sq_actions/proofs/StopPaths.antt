-- Steps that are asked one after another up to a limit: those that were done, and the others.
use Rattle.std.proofs.Common.{◌≡◌, ◌∙◌, ◌≤◌, ℕ, Bool, true, false, List, [], ◌∷◌, ◌++◌, length, refl, ap, sym, inl, inr, arith, Option, Result, Ok, Err}
use Rattle.std.specs.List.{AllByRecursion}
use Rattle.std.proofs.lemmas.List.{append_assoc}
use Rattle.sq_base.specs.declared.refusal.Refusal.{Refusal}
use Rattle.sq_model.specs.RecordValues.{RecordValue}
use Rattle.sq_actions.specs.Asks.{Ask, Gave, Done, AreOf}
use Rattle.sq_actions.specs.Performs.{Path, Performs}
use Rattle.sq_actions.specs.Stops.{IsNotDone, UntilFits, told_until}
use Rattle.sq_actions.specs.inside.Stops.{Limited, LimitedStep}

-- past the limit nothing is done
past : {S : Type 0} (stepped : S → Ask → Result Gave Refusal → S → Type 0) (s t : Limited S) (ds : List Done) → s.left ≡ 0 → Path (LimitedStep stepped) s ds t → (t.steps ≡ s.steps) × AllByRecursion IsNotDone ds
past stepped s t [] none p = (ap (λ b. b.steps) p, tt)
past stepped s t (d ∷ ds) none p = elim p.1 [
  | inl over ↦ (let rest = past stepped p.0 t ds over.3 p.2 in (rest.0 ∙ over.2, (over.1, rest.1)))
  | inr done ↦ absurd (omega (arith, none, done.0))
]

-- what was done up to a limit, where more was due
pub record Front {S : Type 0} (stepped : S → Ask → Result Gave Refusal → S → Type 0) (s : Limited S) (ds : List Done) (t : Limited S) : Type 0 where
  pub trace : List Done
  pub due : Done
  pub rest : List Done
  pub all : ds ≡ trace ++ due ∷ rest
  pub exact : length trace ≡ s.left
  pub path : Path stepped s.steps trace t.steps
  pub not_done : AllByRecursion IsNotDone (due ∷ rest)

pub front : {S : Type 0} (stepped : S → Ask → Result Gave Refusal → S → Type 0) (s t : Limited S) (ds : List Done) → s.stopped ≡ false → t.stopped ≡ true → Path (LimitedStep stepped) s ds t → Front stepped s ds t
front stepped s t [] still shut p = let e : true ≡ false = sym shut ∙ ap (λ b. b.stopped) p ∙ still in absurd (cc e)
front {S} stepped s t (d ∷ ds) still shut p = elim p.1 [
  | inl over ↦
      (let rest = past stepped p.0 t ds over.3 p.2 in
      record { trace = []; due = d; rest = ds; all = refl; exact = sym over.0; path = rest.0 ∙ over.2; not_done = (over.1, rest.1) })
  | inr done ↦
      (let more = front stepped p.0 t ds (done.2 ∙ still) shut p.2 in
      record {
        trace = d ∷ more.trace;
        due = more.due;
        rest = more.rest;
        all = ap (λ (xs : List Done). d ∷ xs) more.all;
        exact = omega (arith, more.exact, done.0);
        path = (p.0.steps, done.1, more.path);
        not_done = more.not_done;
      })
]

-- where no more was due, all was done, within the limit
pub within : {S : Type 0} (stepped : S → Ask → Result Gave Refusal → S → Type 0) (s t : Limited S) (ds : List Done) → t.stopped ≡ false → Path (LimitedStep stepped) s ds t
    → Path stepped s.steps ds t.steps × (s.stopped ≡ false) × (length ds ≤ s.left)
within stepped s t [] still p = (ap (λ b. b.steps) p, sym (ap (λ b. b.stopped) p) ∙ still, omega (arith))
within stepped s t (d ∷ ds) still p =
    let rest = within stepped p.0 t ds still p.2 in
    elim p.1 [
      | inl over ↦ (let e : true ≡ false = sym over.4 ∙ rest.1 in absurd (cc e))
      | inr done ↦ ((p.0.steps, done.1, rest.0), sym done.2 ∙ rest.1, omega (arith, rest.2, done.0))
    ]

-- a call that has no more steps than the limit tells what it tells without one
pub whole_fits : {A : Type 0} (Fits : List Done → Result A Refusal → Type 0) (limit : ℕ) (trace : List Done) (told : Result A Refusal) → Fits trace told → length trace ≤ limit → UntilFits limit Fits trace (told_until false told)
whole_fits Fits limit trace (Ok a) fits few = (fits, few)
whole_fits Fits limit trace (Err e) fits few = (fits, few)

-- the records of a front are a front of the records
pub front_records : (ds es : List Done) (ns : List RecordValue) → AreOf (ds ++ es) ns → (front : List RecordValue) × (rest : List RecordValue) × AreOf ds front × AreOf es rest × (ns ≡ front ++ rest)
front_records [] es ns h = ([], ns, refl, h, refl)
front_records (d ∷ ds) es ns h =
    let more = front_records ds es h.1 h.3 in
    (h.0 ++ more.0, more.1, (h.0, more.0, h.2, more.2, refl), more.3, h.4 ∙ ap (λ (xs : List RecordValue). h.0 ++ xs) more.4 ∙ sym (append_assoc h.0 more.0 more.1))

-- what a call does and tells that may do so many steps, by whether a further one was due
by_end : {S A : Type 0} (stepped : S → Ask → Result Gave Refusal → S → Type 0) (Fits : List Done → Result A Refusal → Type 0) (s t : Limited S) (ds : List Done) (over : Bool) (answered : Result A Refusal)
    → s.stopped ≡ false → t.stopped ≡ over → Path (LimitedStep stepped) s ds t → Fits ds answered → Performs stepped (UntilFits s.left Fits) s.steps (told_until over answered) t.steps
by_end stepped Fits s t ds true answered still shut p fits =
    let some = front stepped s t ds still shut p in
    record {
      trace = some.trace;
      path = some.path;
      fits = record { exact = some.exact; due = some.due; rest = some.rest; not_done = some.not_done; answered = answered; fits = rw (sym some.all) fits };
    }
by_end stepped Fits s t ds false (Ok a) still none p fits = let all = within stepped s t ds none p in record { trace = ds; path = all.0; fits = (fits, all.2) }
by_end stepped Fits s t ds false (Err e) still none p fits = let all = within stepped s t ds none p in record { trace = ds; path = all.0; fits = (fits, all.2) }

pub until_fits : {S A : Type 0} (stepped : S → Ask → Result Gave Refusal → S → Type 0) (Fits : List Done → Result A Refusal → Type 0) (s t : Limited S) (ds : List Done) (answered : Result A Refusal) (told : Result (Option A) Refusal)
    → s.stopped ≡ false → told ≡ told_until t.stopped answered → Path (LimitedStep stepped) s ds t → Fits ds answered → Performs stepped (UntilFits s.left Fits) s.steps told t.steps
until_fits stepped Fits s t ds answered told still is p fits = rw is (by_end stepped Fits s t ds t.stopped answered still refl p fits)
