-- What is answered by somebody is answered on what is seen of them.
use Rattle.std.proofs.Common.{inl, inr, ◌≡◌, ℕ, List, [], ◌∷◌, Option, Some, None, ap, IfSome, take, length, subst, sym}
use Rattle.sq_wire.specs.declared.run.ServeFault.{ServeFault}
use Rattle.sq_wire.specs.declared.run.ServeFault.TheVariants.{Read, Write, NoMemory, TooLong}
use Rattle.sq_wire.specs.Runs.{StopsAt, Answers, Writes, NextUnanswered}

-- as long as they keep this, each line that they reply to, or leave without a reply, does so to what is seen
pub record Inside {S T : Type 0} (Keeps : S → Type 0) (seen : S → T) (Replies : S → List ℕ → List ℕ → S → Type 0) (Unanswered : S → List ℕ → S → Type 0) (Shown : T → List ℕ → List ℕ → T → Type 0) (Unshown : T → List ℕ → T → Type 0) : Type 0 where
  pub replies : (s t : S) (line text : List ℕ) → Keeps s → Replies s line text t → Keeps t × Shown (seen s) line text (seen t)
  pub unanswered : (s t : S) (line : List ℕ) → Keeps s → Unanswered s line t → Keeps t × Unshown (seen s) line (seen t)

answers_inside : {S T : Type 0} (Keeps : S → Type 0) (seen : S → T) (Replies : S → List ℕ → List ℕ → S → Type 0) (Unanswered : S → List ℕ → S → Type 0) (Shown : T → List ℕ → List ℕ → T → Type 0) (Unshown : T → List ℕ → T → Type 0)
    → Inside Keeps seen Replies Unanswered Shown Unshown → (s t : S) (lines texts : List (List ℕ)) → Keeps s → Answers Replies s lines texts t → Keeps t × Answers Shown (seen s) lines texts (seen t)
answers_inside {S} Keeps seen Replies Unanswered Shown Unshown h s t [] [] k a = (subst (λ (u : S). Keeps u) (sym a) k, ap seen a)
answers_inside Keeps seen Replies Unanswered Shown Unshown h s t (line ∷ lines) (text ∷ texts) k a =
    let one = h.replies s a.0 line text k a.1 in
    let more = answers_inside Keeps seen Replies Unanswered Shown Unshown h a.0 t lines texts one.0 a.2 in
    (more.0, (seen a.0, one.1, more.1))
answers_inside Keeps seen Replies Unanswered Shown Unshown h s t [] (text ∷ texts) k a = absurd a
answers_inside Keeps seen Replies Unanswered Shown Unshown h s t (line ∷ lines) [] k a = absurd a

pub writes_inside : {S T : Type 0} (Keeps : S → Type 0) (seen : S → T) (Replies : S → List ℕ → List ℕ → S → Type 0) (Unanswered : S → List ℕ → S → Type 0) (Shown : T → List ℕ → List ℕ → T → Type 0) (Unshown : T → List ℕ → T → Type 0)
    → Inside Keeps seen Replies Unanswered Shown Unshown → (old new : Option (List ℕ)) (s t : S) (lines : List (List ℕ)) → Keeps s → Writes Replies old new s lines t → Keeps t × Writes Shown old new (seen s) lines (seen t)
writes_inside Keeps seen Replies Unanswered Shown Unshown h old new s t lines k w =
    let a = answers_inside Keeps seen Replies Unanswered Shown Unshown h s t lines w.texts k w.answers in
    (a.0, record { texts = w.texts; answers = a.1; appends = w.appends; within = w.within })

next_inside : {S T : Type 0} (Keeps : S → Type 0) (seen : S → T) (Replies : S → List ℕ → List ℕ → S → Type 0) (Unanswered : S → List ℕ → S → Type 0) (Shown : T → List ℕ → List ℕ → T → Type 0) (Unshown : T → List ℕ → T → Type 0)
    → Inside Keeps seen Replies Unanswered Shown Unshown → (s t : S) (lines : List (List ℕ)) (n : ℕ) → Keeps s → NextUnanswered Unanswered s lines n t → NextUnanswered Unshown (seen s) lines n (seen t)
next_inside Keeps seen Replies Unanswered Shown Unshown h s t lines n k u =
    record { line = u.line; next = u.next; within = u.within; line_unanswered = (h.unanswered s t u.line k u.line_unanswered).1 }

stop_inside : {S T : Type 0} (Keeps : S → Type 0) (seen : S → T) (Replies : S → List ℕ → List ℕ → S → Type 0) (Unanswered : S → List ℕ → S → Type 0) (Shown : T → List ℕ → List ℕ → T → Type 0) (Unshown : T → List ℕ → T → Type 0)
    → Inside Keeps seen Replies Unanswered Shown Unshown → (f : ServeFault) (lines : List (List ℕ)) (coming old new : Option (List ℕ)) (s t : S) → Keeps s → StopsAt Replies Unanswered f lines coming old new s t → StopsAt Shown Unshown f lines coming old new (seen s) (seen t)
stop_inside Keeps seen Replies Unanswered Shown Unshown h (Read n) lines coming old new s t k w = ((writes_inside Keeps seen Replies Unanswered Shown Unshown h old new s t (take n lines) k w.0).1, w.1)
stop_inside Keeps seen Replies Unanswered Shown Unshown h (TooLong n) lines coming old new s t k w = ((writes_inside Keeps seen Replies Unanswered Shown Unshown h old new s t (take n lines) k w.0).1, w.1)
stop_inside {S} {T} Keeps seen Replies Unanswered Shown Unshown h (NoMemory n) lines coming old new s t k w =
    let first = writes_inside Keeps seen Replies Unanswered Shown Unshown h old new s w.mid (take n lines) k w.writes in
    record {
      mid = seen w.mid;
      writes = first.1;
      in_list = w.in_list;
      last = elim w.last [
        | inl lost ↦ inl (ap seen lost.0, lost.1)
        | inr next ↦ inr (next_inside Keeps seen Replies Unanswered Shown Unshown h w.mid t lines n first.0 next)
      ];
    }
stop_inside {S} {T} Keeps seen Replies Unanswered Shown Unshown h (Write n) lines coming old new s t k w =
    let a = answers_inside Keeps seen Replies Unanswered Shown Unshown h s w.mid (take w.read lines) w.texts k w.answers in
    record {
      read = w.read;
      texts = w.texts;
      mid = seen w.mid;
      in_list = w.in_list;
      within = w.within;
      answers = a.1;
      puts = w.puts;
      last = elim w.last [
        | inl same ↦ inl (ap seen same.0, same.1)
        | inr next ↦ inr (next_inside Keeps seen Replies Unanswered Shown Unshown h w.mid t lines w.read a.0 next.0, next.1)
      ];
    }

-- the same of all lines, where they are known
pub done_inside : {S T : Type 0} (Keeps : S → Type 0) (seen : S → T) (Replies : S → List ℕ → List ℕ → S → Type 0) (Unanswered : S → List ℕ → S → Type 0) (Shown : T → List ℕ → List ℕ → T → Type 0) (Unshown : T → List ℕ → T → Type 0)
    → Inside Keeps seen Replies Unanswered Shown Unshown → (all : Option (List (List ℕ))) (n : ℕ) (old new : Option (List ℕ)) (s t : S) → Keeps s
    → IfSome all (λ lines. (n ≡ length lines) × Writes Replies old new s lines t) → IfSome all (λ lines. (n ≡ length lines) × Writes Shown old new (seen s) lines (seen t))
done_inside Keeps seen Replies Unanswered Shown Unshown h None n old new s t k w = tt
done_inside Keeps seen Replies Unanswered Shown Unshown h (Some lines) n old new s t k w = (w.0, (writes_inside Keeps seen Replies Unanswered Shown Unshown h old new s t lines k w.1).1)

pub stops_inside : {S T : Type 0} (Keeps : S → Type 0) (seen : S → T) (Replies : S → List ℕ → List ℕ → S → Type 0) (Unanswered : S → List ℕ → S → Type 0) (Shown : T → List ℕ → List ℕ → T → Type 0) (Unshown : T → List ℕ → T → Type 0)
    → Inside Keeps seen Replies Unanswered Shown Unshown → (all : Option (List (List ℕ))) (f : ServeFault) (coming old new : Option (List ℕ)) (s t : S) → Keeps s
    → IfSome all (λ lines. StopsAt Replies Unanswered f lines coming old new s t) → IfSome all (λ lines. StopsAt Shown Unshown f lines coming old new (seen s) (seen t))
stops_inside Keeps seen Replies Unanswered Shown Unshown h None f coming old new s t k w = tt
stops_inside Keeps seen Replies Unanswered Shown Unshown h (Some lines) f coming old new s t k w = stop_inside Keeps seen Replies Unanswered Shown Unshown h f lines coming old new s t k w
