-- What comes after is above, and what is above is not less.
use Rattle.std.proofs.Common.{◌≡◌, ℕ, ◌<◌, ◌≤◌, ◌+◌, Bool, true, false, max, arith, inl, inr, subst, refl, sym, ◌⊎◌}
use Rattle.std.specs.Prelude.{◌≢◌, nat_le, nat_lt, nat_eq, if◌then◌else◌, Ok, Err}
use Rattle.std.specs.Ordering.{is_lt}
use Rattle.std.specs.Cmp.{IsTotalOrder}
use Rattle.std.proofs.lemmas.Cmp.{then_total, on_total, nat_cmp_total}
use Rattle.std.proofs.lemmas.Bool.{eqb-true, cases_lt}
use Rattle.std.proofs.lemmas.Grind.{common_steps}
use Rattle.sq_base.specs.StampValue.{StampValue}
use Rattle.sq_base.specs.Stamps.{stamp_end, next_at, stamped, after, Below, stamp_cmp}
use Rattle.sq_base.specs.declared.refusal.Refusal.TheVariants.{ClockRange, Worn}

below_at : (a : StampValue) (m c : ℕ) (b : Bool) → nat_eq a.moment m ≡ b → a.moment ≤ m → (if b then a.count + 1 else 0) ≤ c → Below a (record { moment = m; count = c })
below_at a m c true e le up = inr (eqb-true _ _ e, omega (arith, up))
below_at a m c false e le up = inl (let ne : a.moment ≢ m = grind (arith, common_steps, e) in omega arith)

below_stamped : (a : StampValue) (m c : ℕ) (t : StampValue) → a.moment ≤ m → next_at a m ≤ c → stamped m c ≡ Ok t → Below a t
below_stamped a m c t le up h =
    elim (nat_le stamp_end c) as (λ (v : Bool). (if v then Err Worn else Ok (record { moment = m; count = c })) ≡ Ok t → Below a t)
    [ true ↦ (λ k. cc) | false ↦ (λ k. let same : record { moment = m; count = c } ≡ t = cc in subst (λ (u : StampValue). Below a u) same (below_at a m c (nat_eq a.moment m) refl le up)) ] h

-- what comes after two stamps is above the first
pub after_above_first : (a b : StampValue) (now : ℕ) (t : StampValue) → after a b now ≡ Ok t → Below a t
after_above_first a b now t h =
    let m = max (max a.moment b.moment) now in
    elim (nat_le stamp_end now) as (λ (v : Bool). (if v then Err ClockRange else stamped m (max (next_at a m) (next_at b m))) ≡ Ok t → Below a t)
    [ true ↦ (λ k. cc) | false ↦ (λ k. below_stamped a m (max (next_at a m) (next_at b m)) t (omega arith) (omega arith) k) ] h

-- and above the second
pub after_above_second : (a b : StampValue) (now : ℕ) (t : StampValue) → after a b now ≡ Ok t → Below b t
after_above_second a b now t h =
    let m = max (max a.moment b.moment) now in
    elim (nat_le stamp_end now) as (λ (v : Bool). (if v then Err ClockRange else stamped m (max (next_at a m) (next_at b m))) ≡ Ok t → Below b t)
    [ true ↦ (λ k. cc) | false ↦ (λ k. below_stamped b m (max (next_at a m) (next_at b m)) t (omega arith) (omega arith) k) ] h

-- what comes after two stamps is above both
pub after_above : (a b : StampValue) (now : ℕ) (t : StampValue) → after a b now ≡ Ok t → Below a t × Below b t
after_above a b now t h = (after_above_first a b now t h, after_above_second a b now t h)

stamped_at : (m c : ℕ) (t : StampValue) → stamped m c ≡ Ok t → t.moment ≡ m
stamped_at m c t h =
    elim (nat_le stamp_end c) as (λ (v : Bool). (if v then Err Worn else Ok (record { moment = m; count = c })) ≡ Ok t → t.moment ≡ m)
    [ true ↦ (λ k. cc) | false ↦ (λ k. let same : record { moment = m; count = c } ≡ t = cc in cc) ] h

-- its moment is the last of the three
pub after_moment : (a b : StampValue) (now : ℕ) (t : StampValue) → after a b now ≡ Ok t → t.moment ≡ max (max a.moment b.moment) now
after_moment a b now t h =
    let m = max (max a.moment b.moment) now in
    elim (nat_le stamp_end now) as (λ (v : Bool). (if v then Err ClockRange else stamped m (max (next_at a m) (next_at b m))) ≡ Ok t → t.moment ≡ m)
    [ true ↦ (λ k. cc) | false ↦ (λ k. stamped_at m (max (next_at a m) (next_at b m)) t k) ] h

-- the order is total
pub stamps_total : IsTotalOrder stamp_cmp
stamps_total = then_total (on_total (λ s. s.moment) nat_cmp_total) (on_total (λ s. s.count) nat_cmp_total)

less : (x y : ℕ) → x < y → nat_lt x y ≡ true
less x y h = grind (arith, common_steps)

not_less : (x y : ℕ) → x < y → nat_lt y x ≡ false
not_less x y h = grind (arith, common_steps)

differ : (x y : ℕ) → x < y → nat_eq y x ≡ false
differ x y h = grind (arith, common_steps)

same : (x y : ℕ) → x ≡ y → nat_eq y x ≡ true
same x y h = grind (arith, common_steps)

not_less_same : (x y : ℕ) → x ≡ y → nat_lt y x ≡ false
not_less_same x y h = grind (arith, common_steps)

-- what is above is not less
pub below_not_less : (a b : StampValue) → Below a b → is_lt (stamp_cmp b a) ≡ false
below_not_less a b (inl h) = rw (not_less a.moment b.moment h, differ a.moment b.moment h) refl
below_not_less a b (inr h) = rw (not_less_same a.moment b.moment h.0, same a.moment b.moment h.0, not_less a.count b.count h.1, differ a.count b.count h.1) refl

-- what is below is less
pub below_less : (a b : StampValue) → Below a b → is_lt (stamp_cmp a b) ≡ true
below_less a b (inl h) = rw (less a.moment b.moment h) refl
below_less a b (inr h) = rw (not_less_same b.moment a.moment (sym h.0), same b.moment a.moment (sym h.0), less a.count b.count h.1) refl

pub below_trans : (a b c : StampValue) → Below a b → Below b c → Below a c
below_trans a b c (inl h) (inl k) = inl (omega (arith, h, k))
below_trans a b c (inl h) (inr k) = inl (omega (arith, h, k.0))
below_trans a b c (inr h) (inl k) = inl (omega (arith, h.0, k))
below_trans a b c (inr h) (inr k) = inr (omega (arith, h.0, k.0), omega (arith, h.1, k.1))

pub below_not_itself : (a : StampValue) → ¬ Below a a
below_not_itself a (inl h) = omega (arith, h)
below_not_itself a (inr h) = omega (arith, h.1)

-- one is below the other, or they are the same
pub below_or : (a b : StampValue) → Below a b ⊎ ((a ≡ b) ⊎ Below b a)
below_or a b = elim (cases_lt a.moment b.moment) [
  | inl h ↦ inl (inl h)
  | inr h ↦ elim (cases_lt b.moment a.moment) [
    | inl k ↦ inr (inr (inl k))
    | inr k ↦ let moment : a.moment ≡ b.moment = omega (arith, h, k) in elim (cases_lt a.count b.count) [
      | inl p ↦ inl (inr (moment, p))
      | inr p ↦ elim (cases_lt b.count a.count) [
        | inl q ↦ inr (inr (inr (sym moment, q)))
        | inr q ↦ let count : a.count ≡ b.count = omega (arith, p, q) in inr (inl (λ i. record { moment = moment i; count = count i }))
      ]
    ]
  ]
]
