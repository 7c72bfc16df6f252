-- Stamps, their order, and the next one. Own.
use Rattle.std.specs.Prelude.{ℕ, ◌+◌, ◌<◌, ◌≡◌, ◌⊎◌, max, nat_le, nat_eq, if◌then◌else◌, Result, Ok, Err}
use Rattle.std.specs.Ordering.{nat_cmp, ordering_then}
use Rattle.std.specs.declared.cmp.Ordering.{Ordering}
use Rattle.sq_base.specs.StampValue.{StampValue}
use Rattle.sq_base.specs.declared.refusal.Refusal.{Refusal}
use Rattle.sq_base.specs.declared.refusal.Refusal.TheVariants.{ClockRange, Worn}

-- moments and counts are below 2^62
abbrev pub stamp_end : ℕ
stamp_end = 4611686018427387904

-- the least stamp
abbrev pub start : StampValue
start = record { moment = 0; count = 0 }

-- the least count above the stamp at a moment that is not before it
abbrev pub next_at : StampValue → ℕ → ℕ
next_at a moment = if nat_eq a.moment moment then a.count + 1 else 0

abbrev pub stamped : ℕ → ℕ → Result StampValue Refusal
stamped moment count = if nat_le stamp_end count then Err Worn else Ok (record { moment = moment; count = count })

-- the least stamp above both whose moment is not before `now`
abbrev pub after : StampValue → StampValue → ℕ → Result StampValue Refusal
after a b now =
    if nat_le stamp_end now then Err ClockRange
    else stamped (max (max a.moment b.moment) now) (max (next_at a (max (max a.moment b.moment) now)) (next_at b (max (max a.moment b.moment) now)))

-- by moment, and then by count
abbrev pub Below : StampValue → StampValue → Type 0
Below a b = (a.moment < b.moment) ⊎ ((a.moment ≡ b.moment) × (a.count < b.count))

-- the same order as a comparison
abbrev pub stamp_cmp : StampValue → StampValue → Ordering
stamp_cmp a b = ordering_then (nat_cmp a.moment b.moment) (nat_cmp a.count b.count)
