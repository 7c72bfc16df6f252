-- Of which classes live rows and dead rows are, and rows at rest.
use Rattle.std.proofs.Common.{◌≡◌, ◌⊎◌, ℕ, ◌≤◌, Bool, true, false, not, List, [], ◌∷◌, Option, Some, None, inl, inr, refl, arith}
use Rattle.std.specs.Prelude.{◌&&◌, nat_le, nat_lt, IfNone}
use Rattle.std.specs.List.{list_any}
use Rattle.std.proofs.lemmas.Bool.{and_parts, eqb-true}
use Rattle.std.proofs.lemmas.Grind.{common_steps}
use Rattle.sq_base.specs.declared.row.Row.{Row}
use Rattle.sq_base.specs.declared.settings.Redrive.{Redrive}
use Rattle.sq_base.specs.declared.settings.Settings.{Settings}
use Rattle.sq_model.specs.Rows.{is_at_rest, is_dead, is_expired, is_live, is_spent, is_visible, unexpired}
use Rattle.sq_slots.specs.Slots.{HaveOwnSlots}
use Rattle.sq_store.specs.inside.Due.{most_under}
use Rattle.sq_store.specs.inside.Found.{found, found_due, is_kept_and}
use Rattle.sq_store.specs.SlotStores.{AreVisible, received_row, unreceived_row, exhausted_row}
use Rattle.sq_store.specs.declared.visible.VisibleFrom.{VisibleFrom}
use Rattle.sq_store.proofs.DueLaws.{found_in_no_class, is_received, none_found, none_found_later}

-- ---- tests

over : (a b : ℕ) → nat_le b a ≡ true → nat_lt a b ≡ false
over a b h = grind (arith, common_steps, h)

at_most : (a b n : ℕ) → a ≤ b → nat_le b n ≡ true → nat_le a n ≡ true
at_most a b n le h = grind (arith, common_steps, h)

less : (a b n : ℕ) → b ≤ a → nat_lt n b ≡ true → nat_le a n ≡ false
less a b n le h = grind (arith, common_steps, h)

above_zero : (a b : ℕ) → 1 ≤ b → a ≡ 0 → nat_le b a ≡ false
above_zero a b le h = grind (arith, common_steps)

exhausted_under : (most held receives : ℕ) → most ≤ held → (nat_lt 0 receives && nat_le held receives) ≡ true → (nat_lt 0 receives && nat_le most receives) ≡ true
exhausted_under most held receives le exhausted = let parts = and_parts (nat_lt 0 receives) (nat_le held receives) exhausted in rw parts.0 (at_most most held receives le parts.1)

received_under : (most held receives : ℕ) → held ≤ most → (nat_lt 0 receives && nat_lt receives held) ≡ true → nat_le most receives ≡ false
received_under most held receives le received = less most held receives le (and_parts (nat_lt 0 receives) (nat_lt receives held) received).1

never_and : (a b : Bool) → b ≡ false → (a && b) ≡ false
never_and true b none = none
never_and false b none = refl

never_left : (a b : Bool) → a ≡ false → (a && b) ≡ false
never_left true b none = absurd cc
never_left false b none = refl

never_both : (a : Bool) → (a && not (a && true)) ≡ false
never_both true = refl
never_both false = refl

-- ---- rows

pub live_is_visible : (s : Settings) (m : ℕ) (row : Row) → is_kept_and (is_live s m) s m row ≡ true → is_visible m row ≡ true
live_is_visible s m row h =
    let live = (and_parts (not (is_expired s m row)) (is_live s m row) h).1 in
    let ready = (and_parts (is_visible m row && not (is_dead s m row)) (nat_lt row.receives 4294967295) live).0 in
    (and_parts (is_visible m row) (not (is_dead s m row)) ready).0

pub dead_is_visible : (s : Settings) (m : ℕ) (row : Row) → is_kept_and (is_dead s m) s m row ≡ true → is_visible m row ≡ true
dead_is_visible s m row h = (and_parts (is_visible m row) (is_spent s.redrive row) (and_parts (not (is_expired s m row)) (is_dead s m row) h).1).0

visible_at_rest : (m r from : ℕ) → nat_lt 0 r ≡ true → not (nat_lt 0 r && nat_lt m from) ≡ true → nat_le from m ≡ true
visible_at_rest m r from received rest = grind (arith, common_steps, received, rest)

pub at_rest_is_visible : (s : Settings) (m : ℕ) (row : Row) → is_received row ≡ true → is_kept_and (is_at_rest m) s m row ≡ true → is_visible m row ≡ true
at_rest_is_visible s m row received h = visible_at_rest m row.receives row.visible_from received (and_parts (not (is_expired s m row)) (is_at_rest m row) h).1

-- a row that was received as often as the policy says is exhausted, or as often as can be counted
exhausted_or_full : (policy : Option Redrive) (row : Row) → exhausted_row (most_under policy) row ≡ true → (is_spent policy row ≡ true) ⊎ (nat_lt row.receives 4294967295 ≡ false)
exhausted_or_full None row h = inr (over row.receives 4294967295 (and_parts (nat_lt 0 row.receives) (nat_le 4294967295 row.receives) h).1)
exhausted_or_full (Some redrive) row h = inl (and_parts (nat_lt 0 row.receives) (nat_le redrive.max_receives row.receives) h).1

-- and so it is not live
exhausted_is_not_live : (s : Settings) (m : ℕ) (row : Row) → exhausted_row (most_under s.redrive) row ≡ true → is_kept_and (is_live s m) s m row ≡ false
exhausted_is_not_live s m row h = elim (exhausted_or_full s.redrive row h) [
  | inl exhausted ↦ never_and (not (is_expired s m row)) (is_live s m row) (never_left (is_visible m row && not (is_dead s m row)) (nat_lt row.receives 4294967295) (rw exhausted (never_both (is_visible m row))))
  | inr full ↦ never_and (not (is_expired s m row)) (is_live s m row) (never_and (is_visible m row && not (is_dead s m row)) (nat_lt row.receives 4294967295) full)
]

is_not_dead : (s : Settings) (m : ℕ) (row : Row) → is_spent s.redrive row ≡ false → is_kept_and (is_dead s m) s m row ≡ false
is_not_dead s m row h = never_and (not (is_expired s m row)) (is_dead s m row) (never_and (is_visible m row) (is_spent s.redrive row) h)

-- ---- lists

module _ (s : Settings) (m : ℕ) (rows : List Row) (v : VisibleFrom) (own : HaveOwnSlots rows) (held : AreVisible rows v) where
  pub none_is_live : found_due (is_kept_and (is_live s m) s m) rows m v.unreceived.deadlines ≡ [] → found_due (is_kept_and (is_live s m) s m) rows m v.received.deadlines ≡ []
      → found_due (is_kept_and (is_live s m) s m) rows m v.exhausted.deadlines ≡ [] → list_any (is_live s m) (unexpired s m rows) ≡ false
  none_is_live = none_found (is_live s m) s m rows v own held (live_is_visible s m)

  pub none_is_dead : found_due (is_kept_and (is_dead s m) s m) rows m v.unreceived.deadlines ≡ [] → found_due (is_kept_and (is_dead s m) s m) rows m v.received.deadlines ≡ []
      → found_due (is_kept_and (is_dead s m) s m) rows m v.exhausted.deadlines ≡ [] → list_any (is_dead s m) (unexpired s m rows) ≡ false
  none_is_dead = none_found (is_dead s m) s m rows v own held (dead_is_visible s m)

  -- of those never received none is left out, since each of them is at rest
  pub none_is_at_rest : found (is_kept_and (is_at_rest m) s m) rows v.unreceived.deadlines ≡ [] → found_due (is_kept_and (is_at_rest m) s m) rows m v.received.deadlines ≡ []
      → found_due (is_kept_and (is_at_rest m) s m) rows m v.exhausted.deadlines ≡ [] → list_any (is_at_rest m) (unexpired s m rows) ≡ false
  none_is_at_rest = none_found_later (is_at_rest m) s m rows v own held (at_rest_is_visible s m)

  -- no row is live that was received more often than the policy says
  pub no_exhausted_is_live : most_under s.redrive ≤ v.most → found_due (is_kept_and (is_live s m) s m) rows m v.exhausted.deadlines ≡ []
  no_exhausted_is_live le = found_in_no_class (exhausted_row v.most) (is_kept_and (is_live s m) s m) m rows v.exhausted.deadlines own held.exhausted
      (λ row exhausted. exhausted_is_not_live s m row (exhausted_under (most_under s.redrive) v.most row.receives le exhausted))

  -- no row is dead that was never received
  pub no_unreceived_is_dead : (redrive : Redrive) → s.redrive ≡ Some redrive → 1 ≤ redrive.max_receives → found_due (is_kept_and (is_dead s m) s m) rows m v.unreceived.deadlines ≡ []
  no_unreceived_is_dead redrive policy least = found_in_no_class unreceived_row (is_kept_and (is_dead s m) s m) m rows v.unreceived.deadlines own held.unreceived
      (λ row unreceived. is_not_dead s m row (rw policy (above_zero row.receives redrive.max_receives least (eqb-true row.receives 0 unreceived))))

  -- nor one that was received less often than the policy says
  pub no_received_is_dead : (redrive : Redrive) → s.redrive ≡ Some redrive → v.most ≤ redrive.max_receives → found_due (is_kept_and (is_dead s m) s m) rows m v.received.deadlines ≡ []
  no_received_is_dead redrive policy le = found_in_no_class (received_row v.most) (is_kept_and (is_dead s m) s m) m rows v.received.deadlines own held.received
      (λ row received. is_not_dead s m row (rw policy (received_under redrive.max_receives v.most row.receives le received)))

-- where there is no policy, none is dead
pub no_policy : (s : Settings) (m : ℕ) → s.redrive ≡ None → (rows : List Row) → list_any (is_dead s m) rows ≡ false
no_policy s m policy [] = refl
no_policy s m policy (row ∷ rows) = let none : is_dead s m row ≡ false = rw policy (never_and (is_visible m row) false refl) in rw none (no_policy s m policy rows)

-- what follows where there is no value
pub if_none : {X P Q : Type 0} (o : Option X) → (P → Q) → IfNone o P → IfNone o Q
if_none (Some x) then h = tt
if_none None then h = then h
