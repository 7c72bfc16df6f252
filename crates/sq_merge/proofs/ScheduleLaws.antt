-- A schedule with one step more.
use Rattle.std.proofs.Common.{◌≡◌, ℕ, ◌+◌, ◌<◌, List, [], ◌∷◌, ◌++◌, length, take, refl, ap, subst, inl, inr, arith}
use Rattle.std.specs.List.{slice_index_or}
use Rattle.std.proofs.lemmas.List.{take_more}
use Rattle.sq_base.specs.declared.refusal.Refusal.{Refusal}
use Rattle.sq_steps.specs.declared.act.Outcome.{Outcome}
use Rattle.sq_steps.specs.declared.act.Step.{Step}
use Rattle.sq_merge.specs.WorldValue.{WorldValue}
use Rattle.sq_merge.specs.Worlds.{StepDone, StepRefused, Schedule}

schedule_refused : (w : WorldValue) (ss : List Step) (n : ℕ) (after : WorldValue) (s : Step) (e : Refusal) → Schedule w ss n after → StepRefused after s.actor s.clock s.act e → Schedule w (ss ++ s ∷ []) n after
schedule_refused w [] n after s e h r = inl ((e, subst (λ (v : WorldValue). StepRefused v s.actor s.clock s.act e) h.1 r), h)
schedule_refused w (x ∷ ss) n after s e h r = elim h [
  | inl g ↦ inl (g.0, schedule_refused w ss n after s e g.1 r)
  | inr g ↦ inr (g.0, g.1, g.2, g.3, schedule_refused g.0 ss g.2 after s e g.4 r, g.5)
]

schedule_done : (w : WorldValue) (ss : List Step) (n : ℕ) (mid after : WorldValue) (s : Step) (outcome : Outcome) → Schedule w ss n mid → StepDone mid after s.actor s.clock s.act outcome → Schedule w (ss ++ s ∷ []) (n + 1) after
schedule_done w [] n mid after s outcome h d = inr (after, outcome, 0, subst (λ (v : WorldValue). StepDone v after s.actor s.clock s.act outcome) h.1 d, (refl, refl), omega (arith, h.0))
schedule_done w (x ∷ ss) n mid after s outcome h d = elim h [
  | inl g ↦ inl (g.0, schedule_done w ss n mid after s outcome g.1 d)
  | inr g ↦ inr (g.0, g.1, g.2 + 1, g.3, schedule_done g.0 ss g.2 mid after s outcome g.4 d, ap (λ (k : ℕ). k + 1) g.5)
]

pub more_done : (w : WorldValue) (ss : List Step) (i n : ℕ) (mid after : WorldValue) (s : Step) (outcome : Outcome) → i < length ss → s ≡ slice_index_or ss i s → Schedule w (take i ss) n mid → StepDone mid after s.actor s.clock s.act outcome → Schedule w (take (i + 1) ss) (n + 1) after
more_done w ss i n mid after s outcome lt is h d = rw (take_more ss i s lt, ← is) (schedule_done w (take i ss) n mid after s outcome h d)

pub more_refused : (w : WorldValue) (ss : List Step) (i n : ℕ) (after : WorldValue) (s : Step) (e : Refusal) → i < length ss → s ≡ slice_index_or ss i s → Schedule w (take i ss) n after → StepRefused after s.actor s.clock s.act e → Schedule w (take (i + 1) ss) n after
more_refused w ss i n after s e lt is h r = rw (take_more ss i s lt, ← is) (schedule_refused w (take i ss) n after s e h r)
