-- The actors' journals, and one of them changed.
use Rattle.std.proofs.Common.{◌≡◌, ◌≢◌, ◌⊎◌, ℕ, zero, suc, ◌+◌, ◌<◌, ◌≤◌, true, false, not, cond, List, [], ◌∷◌, ◌++◌, length, refl, ap, sym, subst, inl, inr, arith, Some, None, slice_get, slice_set, take, ◌∙◌}
use Rattle.std.specs.Prelude.{nat_eq, nat_lt, ◌==◌, if◌then◌else◌, position}
use Rattle.std.specs.List.{AllByRecursion, position_or_len, slice_index_or}
use Rattle.std.proofs.lemmas.Bool.{eqb-true}
use Rattle.std.proofs.lemmas.Grind.{common_steps}
use Rattle.sq_model.specs.RecordValues.{Journal}
use Rattle.sq_steps.specs.Journals.{is_of_actor, new_journal, journal_of, index_in, opened, put_journal, AreDistinct}
use Rattle.sq_model.proofs.ElementLaws.{some_same, all_get}
use Rattle.std.proofs.Math.Seq.{take-length}
use Rattle.std.proofs.lemmas.Option.{slice_get_read}

-- what an actor has is among all, or nothing
pub journal_there : (actor : ℕ) (journals : List Journal) → ((c : ℕ) × (slice_get journals c ≡ Some (journal_of actor journals))) ⊎ (journal_of actor journals ≡ new_journal actor)
journal_there actor [] = inr refl
journal_there actor (x ∷ xs) =
    elim (x.actor == actor) as (λ v. ((c : ℕ) × (slice_get (x ∷ xs) c ≡ Some (if v then x else journal_of actor xs))) ⊎ ((if v then x else journal_of actor xs) ≡ new_journal actor))
    [ true ↦ inl (0, refl) | false ↦ elim (journal_there actor xs) [ inl h ↦ inl (suc h.0, h.1) | inr h ↦ inr h ] ]

-- it is the actor's
pub journal_own : (actor : ℕ) (journals : List Journal) → (journal_of actor journals).actor ≡ actor
journal_own actor [] = refl
journal_own actor (x ∷ xs) =
    elim (x.actor == actor) as (λ v. x.actor == actor ≡ v → (if v then x else journal_of actor xs).actor ≡ actor)
    [ true ↦ (λ e. eqb-true _ _ e) | false ↦ (λ e. journal_own actor xs) ] refl

first_there : (actor : ℕ) (journals : List Journal) → position_or_len (is_of_actor actor) journals < length journals → slice_get journals (position_or_len (is_of_actor actor) journals) ≡ Some (journal_of actor journals)
first_there actor [] lt = absurd (omega (arith, lt))
first_there actor (x ∷ xs) lt =
    elim (x.actor == actor) as (λ v. cond (not v) (1 + position_or_len (is_of_actor actor) xs) 0 < length (x ∷ xs) → slice_get (x ∷ xs) (cond (not v) (1 + position_or_len (is_of_actor actor) xs) 0) ≡ Some (if v then x else journal_of actor xs))
    [ true ↦ (λ l. refl) | false ↦ (λ l. let next : 1 + position_or_len (is_of_actor actor) xs ≡ suc (position_or_len (is_of_actor actor) xs) = omega arith in rw next (first_there actor xs (omega (arith, l)))) ] lt

none_there : (actor : ℕ) (journals : List Journal) → length journals ≤ position_or_len (is_of_actor actor) journals → journal_of actor journals ≡ new_journal actor
none_there actor [] le = refl
none_there actor (x ∷ xs) le =
    elim (x.actor == actor) as (λ v. length (x ∷ xs) ≤ cond (not v) (1 + position_or_len (is_of_actor actor) xs) 0 → (if v then x else journal_of actor xs) ≡ new_journal actor)
    [ true ↦ (λ l. absurd (omega (arith, l))) | false ↦ (λ l. none_there actor xs (omega (arith, l))) ] le

none_put : (b : Journal) (journals : List Journal) → length journals ≤ position_or_len (is_of_actor b.actor) journals → put_journal b journals ≡ journals ++ b ∷ []
none_put b [] le = refl
none_put b (x ∷ xs) le =
    elim (x.actor == b.actor) as (λ v. length (x ∷ xs) ≤ cond (not v) (1 + position_or_len (is_of_actor b.actor) xs) 0 → (if v then b ∷ xs else x ∷ put_journal b xs) ≡ x ∷ (xs ++ b ∷ []))
    [ true ↦ (λ l. absurd (omega (arith, l))) | false ↦ (λ l. ap (λ ys. x ∷ ys) (none_put b xs (omega (arith, l)))) ] le

-- where its test first passes
pub found_there : (actor : ℕ) (journals : List Journal) (at : ℕ) → position (is_of_actor actor) journals ≡ Some at → slice_get journals at ≡ Some (journal_of actor journals)
found_there actor journals at h =
    elim (nat_lt (position_or_len (is_of_actor actor) journals) (length journals)) as (λ v. nat_lt (position_or_len (is_of_actor actor) journals) (length journals) ≡ v → cond v (Some (position_or_len (is_of_actor actor) journals)) None ≡ Some at → slice_get journals at ≡ Some (journal_of actor journals))
    [ true ↦ (λ e k. subst (λ (n : ℕ). slice_get journals n ≡ Some (journal_of actor journals)) (some_same k) (first_there actor journals (grind (arith, common_steps, e)))) | false ↦ (λ e k. absurd cc) ] refl h

-- and where it never does
pub lost_there : (actor : ℕ) (journals : List Journal) → position (is_of_actor actor) journals ≡ None → journal_of actor journals ≡ new_journal actor
lost_there actor journals h =
    elim (nat_lt (position_or_len (is_of_actor actor) journals) (length journals)) as (λ v. nat_lt (position_or_len (is_of_actor actor) journals) (length journals) ≡ v → cond v (Some (position_or_len (is_of_actor actor) journals)) None ≡ None → journal_of actor journals ≡ new_journal actor)
    [ true ↦ (λ e k. absurd cc) | false ↦ (λ e k. none_there actor journals (grind (arith, common_steps, e))) ] refl h

pub lost_put : (b : Journal) (journals : List Journal) → position (is_of_actor b.actor) journals ≡ None → put_journal b journals ≡ journals ++ b ∷ []
lost_put b journals h =
    elim (nat_lt (position_or_len (is_of_actor b.actor) journals) (length journals)) as (λ v. nat_lt (position_or_len (is_of_actor b.actor) journals) (length journals) ≡ v → cond v (Some (position_or_len (is_of_actor b.actor) journals)) None ≡ None → put_journal b journals ≡ journals ++ b ∷ [])
    [ true ↦ (λ e k. absurd cc) | false ↦ (λ e k. none_put b journals (grind (arith, common_steps, e))) ] refl h

-- what is among all after a change was there before, or is the change
pub put_cases : (b : Journal) (journals : List Journal) (c : ℕ) (x : Journal) → slice_get (put_journal b journals) c ≡ Some x → (slice_get journals c ≡ Some x) ⊎ (x ≡ b)
put_cases b [] zero x h = inr (sym (some_same h))
put_cases b [] (suc c) x h = absurd cc
put_cases b (y ∷ ys) zero x h =
    elim (y.actor == b.actor) as (λ v. slice_get (if v then b ∷ ys else y ∷ put_journal b ys) 0 ≡ Some x → (slice_get (y ∷ ys) 0 ≡ Some x) ⊎ (x ≡ b))
    [ true ↦ (λ k. inr (sym (some_same k))) | false ↦ (λ k. inl k) ] h
put_cases b (y ∷ ys) (suc c) x h =
    elim (y.actor == b.actor) as (λ v. slice_get (if v then b ∷ ys else y ∷ put_journal b ys) (suc c) ≡ Some x → (slice_get (y ∷ ys) (suc c) ≡ Some x) ⊎ (x ≡ b))
    [ true ↦ (λ k. inl k) | false ↦ (λ k. put_cases b ys c x k) ] h

-- the change is there
pub put_there : (b : Journal) (journals : List Journal) → (c : ℕ) × (slice_get (put_journal b journals) c ≡ Some b)
put_there b [] = (0, refl)
put_there b (y ∷ ys) =
    elim (y.actor == b.actor) as (λ v. (c : ℕ) × (slice_get (if v then b ∷ ys else y ∷ put_journal b ys) c ≡ Some b))
    [ true ↦ (0, refl) | false ↦ (let t = put_there b ys in (suc t.0, t.1)) ]

-- what was there before stays, or was the actor's and is changed
pub put_kept : (b : Journal) (journals : List Journal) (c : ℕ) (x : Journal) → slice_get journals c ≡ Some x → (slice_get (put_journal b journals) c ≡ Some x) ⊎ ((x ≡ journal_of b.actor journals) × (slice_get (put_journal b journals) c ≡ Some b))
put_kept b [] c x h = absurd cc
put_kept b (y ∷ ys) zero x h =
    elim (y.actor == b.actor) as (λ v. (slice_get (if v then b ∷ ys else y ∷ put_journal b ys) 0 ≡ Some x) ⊎ ((x ≡ (if v then y else journal_of b.actor ys)) × (slice_get (if v then b ∷ ys else y ∷ put_journal b ys) 0 ≡ Some b)))
    [ true ↦ inr (sym (some_same h), refl) | false ↦ inl h ]
put_kept b (y ∷ ys) (suc c) x h =
    elim (y.actor == b.actor) as (λ v. (slice_get (if v then b ∷ ys else y ∷ put_journal b ys) (suc c) ≡ Some x) ⊎ ((x ≡ (if v then y else journal_of b.actor ys)) × (slice_get (if v then b ∷ ys else y ∷ put_journal b ys) (suc c) ≡ Some b)))
    [ true ↦ inl h | false ↦ put_kept b ys c x h ]

all_put : (actor : ℕ) (b : Journal) (journals : List Journal) → AllByRecursion (λ y. y.actor ≢ actor) journals → b.actor ≢ actor → AllByRecursion (λ y. y.actor ≢ actor) (put_journal b journals)
all_put actor b [] all ne = (ne, tt)
all_put actor b (y ∷ ys) all ne =
    elim (y.actor == b.actor) as (λ v. AllByRecursion (λ z. z.actor ≢ actor) (if v then b ∷ ys else y ∷ put_journal b ys))
    [ true ↦ (ne, all.1) | false ↦ (all.0, all_put actor b ys all.1 ne) ]

pub differ : (x y : ℕ) → nat_eq x y ≡ false → y ≢ x
differ x y h = λ e. (let k : nat_eq x x ≡ false = subst (λ (z : ℕ). nat_eq x z ≡ false) e h in let same : nat_eq x x ≡ true = grind (arith, common_steps) in cc)

-- each actor is there once, also after a change
pub put_distinct : (b : Journal) (journals : List Journal) → AreDistinct journals → AreDistinct (put_journal b journals)
put_distinct b [] d = (tt, tt)
put_distinct b (y ∷ ys) d =
    elim (y.actor == b.actor) as (λ v. y.actor == b.actor ≡ v → AreDistinct (if v then b ∷ ys else y ∷ put_journal b ys)) [
      | true ↦ (λ e. (subst (λ (n : ℕ). AllByRecursion (λ z. z.actor ≢ n) ys) (eqb-true _ _ e) d.0, d.1))
      | false ↦ (λ e. (all_put y.actor b ys d.0 (differ y.actor b.actor e), put_distinct b ys d.1))
    ] refl

pub found_is : (journals : List Journal) (actor at : ℕ) (mine : Journal) → position (is_of_actor actor) journals ≡ Some at → at < length journals → mine ≡ slice_index_or journals at mine → mine ≡ journal_of actor journals
found_is journals actor at mine pos lt own = some_same (sym (slice_get_read journals (length journals) at mine refl lt own) ∙ found_there actor journals at pos)

-- an actor is there once
pub journal_once : (journals : List Journal) → AreDistinct journals → (b c : ℕ) (x y : Journal) → slice_get journals b ≡ Some x → slice_get journals c ≡ Some y → x.actor ≡ y.actor → b ≡ c
journal_once [] d b c x y h g e = absurd cc
journal_once (z ∷ zs) d zero zero x y h g e = refl
journal_once (z ∷ zs) d zero (suc c) x y h g e = absurd (all_get _ zs d.0 c y g (sym e ∙ sym (ap (λ (w : Journal). w.actor) (some_same h))))
journal_once (z ∷ zs) d (suc b) zero x y h g e = absurd (all_get _ zs d.0 b x h (e ∙ sym (ap (λ (w : Journal). w.actor) (some_same g))))
journal_once (z ∷ zs) d (suc b) (suc c) x y h g e = ap suc (journal_once zs d.1 b c x y h g e)

pub same_place : (x y : ℕ) → x ≡ y → nat_eq x y ≡ true
same_place x y e = subst (λ (z : ℕ). nat_eq x z ≡ true) e (grind (arith, common_steps))

same_number : (n : ℕ) → n == n ≡ true
same_number n = grind (arith, common_steps)

-- what an actor has after a change is the change
pub journal_put : (actor : ℕ) (b : Journal) (journals : List Journal) → b.actor ≡ actor → journal_of actor (put_journal b journals) ≡ b
journal_put actor b [] own = rw (own, same_number actor) refl
journal_put actor b (x ∷ xs) own =
    elim (x.actor == b.actor) as (λ v. x.actor == b.actor ≡ v → journal_of actor (if v then b ∷ xs else x ∷ put_journal b xs) ≡ b) [
      | true ↦ (λ e. rw (own, same_number actor) refl)
      | false ↦ (λ e. let other : x.actor == actor ≡ false = subst (λ (n : ℕ). x.actor == n ≡ false) own e in rw other (journal_put actor b xs own))
    ] refl

-- an actor that is there, or was made, stands in its place
pub opened_there : (actor : ℕ) (journals : List Journal) → slice_get (opened actor journals) (index_in actor journals) ≡ Some (journal_of actor journals)
opened_there actor [] = refl
opened_there actor (x ∷ xs) =
    elim (x.actor == actor) as (λ v. slice_get (if v then x ∷ xs else x ∷ opened actor xs) (cond (not v) (1 + index_in actor xs) 0) ≡ Some (if v then x else journal_of actor xs))
    [ true ↦ refl | false ↦ (let next : 1 + index_in actor xs ≡ suc (index_in actor xs) = omega arith in rw next (opened_there actor xs)) ]

pub opened_put : (actor : ℕ) (b : Journal) (journals : List Journal) → b.actor ≡ actor → slice_set (opened actor journals) (index_in actor journals) b ≡ put_journal b journals
opened_put actor b [] own = refl
opened_put actor b (x ∷ xs) own =
    let same : (x.actor == b.actor) ≡ (x.actor == actor) = ap (λ (n : ℕ). x.actor == n) own in
    rw same
    (elim (x.actor == actor) as (λ v. slice_set (if v then x ∷ xs else x ∷ opened actor xs) (cond (not v) (1 + index_in actor xs) 0) b ≡ (if v then b ∷ xs else x ∷ put_journal b xs))
    [ true ↦ refl | false ↦ (let next : 1 + index_in actor xs ≡ suc (index_in actor xs) = omega arith in rw next (ap (λ ys. x ∷ ys) (opened_put actor b xs own))) ])

-- an actor that changed nothing leaves those that were there
pub kept_front : (actor : ℕ) (b : Journal) (journals : List Journal) → b ≡ journal_of actor journals → take (length journals) (put_journal b journals) ≡ journals
kept_front actor b [] is = refl
kept_front actor b (x ∷ xs) is =
    let own : b.actor ≡ actor = ap (λ (y : Journal). y.actor) is ∙ journal_own actor (x ∷ xs) in
    let same : (x.actor == b.actor) ≡ (x.actor == actor) = ap (λ (n : ℕ). x.actor == n) own in
    rw same
    (elim (x.actor == actor) as (λ v. b ≡ (if v then x else journal_of actor xs) → take (length (x ∷ xs)) (if v then b ∷ xs else x ∷ put_journal b xs) ≡ x ∷ xs) [
      | true ↦ (λ e. subst (λ (y : Journal). take (length (x ∷ xs)) (y ∷ xs) ≡ x ∷ xs) (sym e) (take-length (x ∷ xs)))
      | false ↦ (λ e. ap (λ ys. x ∷ ys) (kept_front actor b xs e))
    ] is)

pub opened_within : (actor : ℕ) (journals : List Journal) → index_in actor journals < length (opened actor journals)
opened_within actor [] = omega arith
opened_within actor (x ∷ xs) =
    elim (x.actor == actor) as (λ v. cond (not v) (1 + index_in actor xs) 0 < length (if v then x ∷ xs else x ∷ opened actor xs))
    [ true ↦ omega arith | false ↦ omega (arith, opened_within actor xs) ]

-- what is read in an actor's place is the actor's
pub opened_is : (actor : ℕ) (journals : List Journal) (mine : Journal) → mine ≡ slice_index_or (opened actor journals) (index_in actor journals) mine → mine ≡ journal_of actor journals
opened_is actor journals mine own = some_same (sym (slice_get_read (opened actor journals) (length (opened actor journals)) (index_in actor journals) mine refl (opened_within actor journals) own) ∙ opened_there actor journals)

within_opened : (actor : ℕ) (journals : List Journal) → index_in actor journals < length journals → opened actor journals ≡ journals
within_opened actor [] lt = absurd (omega (arith, lt))
within_opened actor (x ∷ xs) lt =
    elim (x.actor == actor) as (λ v. cond (not v) (1 + index_in actor xs) 0 < length (x ∷ xs) → (if v then x ∷ xs else x ∷ opened actor xs) ≡ x ∷ xs)
    [ true ↦ (λ l. refl) | false ↦ (λ l. ap (λ ys. x ∷ ys) (within_opened actor xs (omega (arith, l)))) ] lt

past_opened : (actor : ℕ) (journals : List Journal) → length journals ≤ index_in actor journals → (index_in actor journals ≡ length journals) × (opened actor journals ≡ journals ++ new_journal actor ∷ [])
past_opened actor [] le = (refl, refl)
past_opened actor (x ∷ xs) le =
    elim (x.actor == actor) as (λ v. length (x ∷ xs) ≤ cond (not v) (1 + index_in actor xs) 0 → (cond (not v) (1 + index_in actor xs) 0 ≡ length (x ∷ xs)) × ((if v then x ∷ xs else x ∷ opened actor xs) ≡ x ∷ (xs ++ new_journal actor ∷ []))) [
      | true ↦ (λ l. absurd (omega (arith, l)))
      | false ↦ (λ l. let rest = past_opened actor xs (omega (arith, l)) in (omega (arith, rest.0), ap (λ ys. x ∷ ys) rest.1))
    ] le

-- an actor that is found is in its place, and one that is not is made
pub found_opened : (actor : ℕ) (journals : List Journal) (at : ℕ) → position (is_of_actor actor) journals ≡ Some at → (at ≡ index_in actor journals) × (opened actor journals ≡ journals)
found_opened actor journals at h =
    elim (nat_lt (index_in actor journals) (length journals)) as (λ v. nat_lt (index_in actor journals) (length journals) ≡ v → cond v (Some (index_in actor journals)) None ≡ Some at → (at ≡ index_in actor journals) × (opened actor journals ≡ journals))
    [ true ↦ (λ e k. (sym (some_same k), within_opened actor journals (grind (arith, common_steps, e)))) | false ↦ (λ e k. absurd cc) ] refl h

pub lost_opened : (actor : ℕ) (journals : List Journal) → position (is_of_actor actor) journals ≡ None → (index_in actor journals ≡ length journals) × (opened actor journals ≡ journals ++ new_journal actor ∷ [])
lost_opened actor journals h =
    elim (nat_lt (index_in actor journals) (length journals)) as (λ v. nat_lt (index_in actor journals) (length journals) ≡ v → cond v (Some (index_in actor journals)) None ≡ None → (index_in actor journals ≡ length journals) × (opened actor journals ≡ journals ++ new_journal actor ∷ []))
    [ true ↦ (λ e k. absurd cc) | false ↦ (λ e k. past_opened actor journals (grind (arith, common_steps, e))) ] refl h
