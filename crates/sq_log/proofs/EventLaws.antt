-- Where an event of a stamp stands, in a history whose stamps rise.
use Rattle.std.proofs.Common.{◌≡◌, ℕ, zero, suc, ◌+◌, ◌<◌, ◌≤◌, Bool, true, false, List, [], ◌∷◌, length, Some, refl, sym, ◌∙◌, subst, inl, inr, arith, slice_get}
use Rattle.std.specs.Prelude.{◌&&◌, if◌then◌else◌, nat_eq}
use Rattle.std.specs.List.{slice_index_or}
use Rattle.std.specs.Ordering.{is_lt}
use Rattle.std.specs.Cmp.{IsStrictWeakOrder}
use Rattle.std.proofs.lemmas.List.Sorted.{ranks_by}
use Rattle.std.proofs.lemmas.Bool.{cases_lt}
use Rattle.std.proofs.lemmas.Grind.{common_steps}
use Rattle.std.proofs.lemmas.Option.{same_Some, slice_get-get_or, slice_get_within}
use Rattle.sq_base.specs.StampValue.{StampValue}
use Rattle.sq_base.specs.Stamps.{Below, stamp_cmp}
use Rattle.sq_base.proofs.StampLaws.{below_less, below_not_less, below_or, below_trans, stamps_total}
use Rattle.sq_model.specs.declared.event.Event.{Event}
use Rattle.sq_model.specs.Replays.{StampsRise}
use Rattle.sq_log.specs.Events.{IsEventAt, Rises}
use Rattle.sq_log.specs.inside.Events.{IsParted, is_event_before}

stamps_weak : IsStrictWeakOrder (λ a b. is_lt (stamp_cmp a b))
stamps_weak = ranks_by stamps_total (λ s. s)

above_low : {K R : Type 0} (low : StampValue) (es : List (Event K R)) (last : StampValue) → StampsRise low es last → (k : ℕ) (e : Event K R) → slice_get es k ≡ Some e → Below low e.stamp
above_low low [] last r k e h = absurd cc
above_low low (x ∷ xs) last r zero e h = let same : x ≡ e = cc in subst (λ (y : Event _ _). Below low y.stamp) same r.0
above_low low (x ∷ xs) last r (suc k) e h = below_trans low x.stamp e.stamp r.0 (above_low x.stamp xs last r.1 k e h)

-- of two events the later one has the higher stamp
rises_at : {K R : Type 0} (low : StampValue) (es : List (Event K R)) (last : StampValue) → StampsRise low es last → (i j : ℕ) (d e : Event K R) → i < j → slice_get es i ≡ Some d → slice_get es j ≡ Some e → Below d.stamp e.stamp
rises_at low [] last r i j d e lt h g = absurd cc
rises_at low (x ∷ xs) last r i zero d e lt h g = absurd (omega (arith, lt))
rises_at low (x ∷ xs) last r zero (suc j) d e lt h g = let same : x ≡ d = cc in subst (λ (y : Event _ _). Below y.stamp e.stamp) same (above_low x.stamp xs last r.1 j e g)
rises_at low (x ∷ xs) last r (suc i) (suc j) d e lt h g = rises_at x.stamp xs last r.1 i j d e (omega (arith, lt)) h g

not_under : (a : StampValue) → is_lt (stamp_cmp a a) ≡ false
not_under a = elim (is_lt (stamp_cmp a a)) as (λ (v : Bool). is_lt (stamp_cmp a a) ≡ v → v ≡ false) [ true ↦ (λ e. sym e ∙ stamps_weak.one_way a a e) | false ↦ (λ e. refl) ] refl

under_below : (a b : StampValue) → is_lt (stamp_cmp a b) ≡ true → Below a b
under_below a b h = elim (below_or a b) as (λ _. Below a b) [
  | inl p ↦ p
  | inr q ↦ elim q as (λ _. Below a b) [
    | inl e ↦ absurd (let n : is_lt (stamp_cmp b b) ≡ true = subst (λ (s : StampValue). is_lt (stamp_cmp s b) ≡ true) e h in let f = not_under b in cc)
    | inr p ↦ absurd (let f = below_not_less b a p in cc)
  ]
]

-- of two events the earlier one is before a stamp if the later one is
before_too : {K R : Type 0} (es : List (Event K R)) (stamp : StampValue) → Rises es → (i j : ℕ) (d e : Event K R) → i ≤ j → slice_get es i ≡ Some d → slice_get es j ≡ Some e → is_event_before stamp e ≡ true → is_event_before stamp d ≡ true
before_too es stamp r i j d e le at_i at_j h = elim (cases_lt i j) as (λ _. is_event_before stamp d ≡ true) [
  | inl lt ↦ below_less d.stamp stamp (below_trans d.stamp e.stamp stamp (rises_at r.low es r.last r.rising i j d e lt at_i at_j) (under_below e.stamp stamp h))
  | inr ge ↦ (let same : i ≡ j = omega (arith, le, ge) in let event : e ≡ d = same_Some e d (sym at_j ∙ subst (λ (n : ℕ). slice_get es n ≡ Some d) same at_i) in subst (λ (x : Event _ _). is_event_before stamp x ≡ true) event h)
]

-- before any is looked at
pub unparted : {K R : Type 0} (es : List (Event K R)) (stamp : StampValue) → IsParted stamp es 0 (length es)
unparted es stamp = record {
  before = λ k e at lt. absurd (omega (arith, lt));
  not_before = λ k e at le. absurd (let within = slice_get_within es k e at in omega (arith, le, within));
}

-- one that is before the stamp is looked at
parted_above : {K R : Type 0} (es : List (Event K R)) (stamp : StampValue) (low high middle : ℕ) (x : Event K R) → Rises es → slice_get es middle ≡ Some x → is_event_before stamp x ≡ true
    → IsParted stamp es low high → IsParted stamp es (middle + 1) high
parted_above es stamp low high middle x r at h was = record {
  before = λ k e there lt. before_too es stamp r k middle e x (omega (arith, lt)) there at h;
  not_before = was.not_before;
}

-- one that is not before the stamp is looked at
parted_below : {K R : Type 0} (es : List (Event K R)) (stamp : StampValue) (low high middle : ℕ) (x : Event K R) → Rises es → slice_get es middle ≡ Some x → is_event_before stamp x ≡ false
    → IsParted stamp es low high → IsParted stamp es low middle
parted_below es stamp low high middle x r at h was = record {
  before = was.before;
  not_before = λ k e there le. elim (is_event_before stamp e) as (λ (v : Bool). is_event_before stamp e ≡ v → v ≡ false) [
    | true ↦ (λ under. absurd (let too = before_too es stamp r middle k x e le at there under in cc))
    | false ↦ (λ _. refl)
  ] refl;
}

-- a look at one that is between leaves those after it, or those before it
pub parted_at : {K R : Type 0} (es : List (Event K R)) (stamp : StampValue) (low high middle : ℕ) (x : Event K R) → Rises es → IsParted stamp es low high → slice_get es middle ≡ Some x
    → (b : Bool) → is_event_before stamp x ≡ b → IsParted stamp es (if b then middle + 1 else low) (if b then high else middle)
parted_at es stamp low high middle x r was at true h = parted_above es stamp low high middle x r at h was
parted_at es stamp low high middle x r was at false h = parted_below es stamp low high middle x r at h was

-- and the event of the stamp is the first of the others
pub at_point : {K R : Type 0} (es : List (Event K R)) (stamp : StampValue) (index : ℕ) → Rises es → IsParted stamp es index index → (e : Event K R) → IsEventAt es stamp e → slice_get es index ≡ Some e
at_point es stamp index r point e h =
    let within : h.0 < length es = slice_get_within es h.0 e h.1 in
    elim (cases_lt h.0 index) as (λ _. slice_get es index ≡ Some e) [
      | inl lt ↦ absurd (
          let not : is_lt (stamp_cmp e.stamp e.stamp) ≡ true = subst (λ (s : StampValue). is_lt (stamp_cmp e.stamp s) ≡ true) (sym h.2) (point.before h.0 e h.1 lt) in
          let f = not_under e.stamp in
          cc)
      | inr ge ↦ elim (cases_lt index h.0) as (λ _. slice_get es index ≡ Some e) [
        | inl lt ↦ absurd (
            let x = slice_index_or es index e in
            let at : slice_get es index ≡ Some x = slice_get-get_or es index e (omega (arith, lt, within)) in
            let below : Below x.stamp stamp = subst (λ (s : StampValue). Below x.stamp s) h.2 (rises_at r.low es r.last r.rising index h.0 x e lt at h.1) in
            let under = below_less x.stamp stamp below in
            let over = point.not_before index x at (omega arith) in
            cc)
        | inr le ↦ (let same : index ≡ h.0 = omega (arith, ge, le) in rw same h.1)
      ]
    ]

one_number : (n : ℕ) → nat_eq n n ≡ true
one_number n = grind (arith, common_steps)

-- what tests two stamps that are one
pub same_stamp : (a b : StampValue) → a ≡ b → (nat_eq a.moment b.moment && nat_eq a.count b.count) ≡ true
same_stamp a b e = subst (λ (s : StampValue). (nat_eq a.moment s.moment && nat_eq a.count s.count) ≡ true) e (rw (one_number a.moment, one_number a.count) refl)
