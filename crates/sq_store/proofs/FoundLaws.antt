-- Rows that are found where they stand, and those that stay.
use Rattle.std.proofs.Common.{◌≡◌, ℕ, zero, suc, ◌+◌, ◌<◌, ◌≤◌, Bool, true, false, cond, List, [], ◌∷◌, ◌++◌, length, take, drop, Some, None, refl, sym, ap, subst, arith}
use Rattle.std.specs.Prelude.{◌&&◌, ◌||◌, not, count_by, nat_lt, filter, position}
use Rattle.std.specs.List.{All, list_any, Contains, position_or_len, slice_index_or}
use Rattle.std.proofs.lemmas.Grind.{common_steps}
use Rattle.std.proofs.lemmas.List.Elements.{All-cons, All-nil}
use Rattle.std.proofs.lemmas.List.Folds.{list_any_at, list_any_none}
use Rattle.std.proofs.lemmas.List.Quantifiers.{position-Some}
use Rattle.std.proofs.lemmas.List.Sums.{count_by-le-length, fails_before_first}
use Rattle.sq_base.specs.declared.row.Row.{Row}
use Rattle.sq_base.specs.declared.settings.Settings.{Settings}
use Rattle.sq_model.specs.Rows.{RisesFrom, Takes, is_expired, is_live, unexpired}
use Rattle.sq_slots.specs.Slots.{is_at}
use Rattle.sq_store.specs.Picked.{GivesLive, IsOneOf}

-- where no rank passes, none does
pub none_passes : {X : Type 0} (p : X → Bool) (xs : List X) → position p xs ≡ None → list_any p xs ≡ false
none_passes p xs h =
    elim (nat_lt (position_or_len p xs) (length xs)) as (λ v. nat_lt (position_or_len p xs) (length xs) ≡ v → cond v (Some (position_or_len p xs)) None ≡ None → list_any p xs ≡ false)
    [ true ↦ (λ e k. absurd cc) | false ↦ (λ e k. list_any_none p xs (λ i d lt. fails_before_first p xs i d (let le : length xs ≤ position_or_len p xs = grind (arith, common_steps, e) in omega (arith, lt, le)))) ] refl h

-- none of those that are kept passes
pub none_kept : {X : Type 0} (q p : X → Bool) (xs : List X) → list_any (λ x. q x && p x) xs ≡ false → list_any p (filter q xs) ≡ false
none_kept q p [] h = refl
none_kept q p (x ∷ xs) h =
    elim (q x) as (λ v. ((v && p x) || list_any (λ y. q y && p y) xs) ≡ false → list_any p (cond v (x ∷ filter q xs) (filter q xs)) ≡ false) [
      | true ↦ (elim (p x) as (λ w. (w || list_any (λ y. q y && p y) xs) ≡ false → (w || list_any p (filter q xs)) ≡ false) [ true ↦ (λ k. k) | false ↦ (λ k. none_kept q p xs k) ])
      | false ↦ (λ k. none_kept q p xs k)
    ] h

kept_at : {X : Type 0} (q : X → Bool) (xs : List X) (x : X) (k : ℕ) → k < length xs → slice_index_or xs k x ≡ x → q x ≡ true → Contains (filter q xs) x
kept_at q [] x k lt is passes = absurd (omega (arith, lt))
kept_at q (y ∷ xs) x zero lt is passes = rw (is, passes) (0, omega arith, refl)
kept_at q (y ∷ xs) x (suc k) lt is passes =
    let there = kept_at q xs x k (omega (arith, lt)) is passes in
    elim (q y) as (λ v. Contains (cond v (y ∷ filter q xs) (filter q xs)) x) [ true ↦ (suc there.0, omega (arith, there.1), there.2) | false ↦ there ]

-- what is there and passes is kept
pub kept_there : {X : Type 0} (q : X → Bool) (xs : List X) (x : X) → Contains xs x → q x ≡ true → Contains (filter q xs) x
kept_there q xs x there passes = kept_at q xs x there.0 there.1 there.2 passes

-- where a live row is found, one is there
pub gives_live : (s : Settings) (m max : ℕ) (rows : List Row) (row : Row) → 0 < max → IsOneOf (is_live s m) (unexpired s m rows) row → GivesLive s m max rows
gives_live s m max rows row asked one =
    record { asked = asked; live = list_any_at (is_live s m) (unexpired s m rows) one.there.0 row one.there.1 (rw one.there.2 one.passes) }

-- the same of a row that is there, not past its retention, and live
pub gives_kept : (s : Settings) (m max : ℕ) (rows : List Row) (row : Row) → 0 < max → Contains rows row → not (is_expired s m row) ≡ true → is_live s m row ≡ true → GivesLive s m max rows
gives_kept s m max rows row asked there kept live =
    gives_live s m max rows row asked (record { passes = live; there = kept_there (λ r. not (is_expired s m r)) rows row there kept })

-- one is taken out where it stands
pub taken_at : (rows : List Row) (i : ℕ) (row : Row) → i < length rows → slice_index_or rows i row ≡ row → Takes row rows (take i rows ++ drop (i + 1) rows)
taken_at [] i row lt is = absurd (omega (arith, lt))
taken_at (x ∷ rows) zero row lt is = rw (sym is) (record { before = []; after = rows; at = refl; left = refl })
taken_at (x ∷ rows) (suc i) row lt is =
    let rest = taken_at rows i row (omega (arith, lt)) is in
    let next : suc i + 1 ≡ suc (i + 1) = omega arith in
    rw next (record { before = x ∷ rest.before; after = rest.after; at = ap (λ ys. x ∷ ys) rest.at; left = ap (λ ys. x ∷ ys) rest.left })

both : (a b : Bool) → (a && b) ≡ true → (a ≡ true) × (b ≡ true)
both true b h = (refl, h)
both false b h = absurd cc

-- the first rank that is kept and passes has one of those that pass
pub one_kept : (q p : Row → Bool) (rows : List Row) (i : ℕ) (row : Row) → position (λ x. q x && p x) rows ≡ Some i → slice_index_or rows i row ≡ row → IsOneOf p (filter q rows) row
one_kept q p rows i row first is =
    let at = position-Some (λ x. q x && p x) rows i row first in
    let passes = both (q row) (p row) (subst (λ x. (q x && p x) ≡ true) is at.1) in
    record { passes = passes.1; there = kept_at q rows row i at.0 is passes.0 }

-- and where it is taken out, the others stay
pub taken_first : (slot serial : ℕ) (rows rest : List Row) (i : ℕ) (row : Row) → position (is_at slot serial) rows ≡ Some i → slice_index_or rows i row ≡ row → rest ≡ take i rows ++ drop (i + 1) rows
    → (is_at slot serial row ≡ true) × Takes row rows rest
taken_first slot serial rows rest i row first is left =
    let at = position-Some (is_at slot serial) rows i row first in
    (subst (λ x. is_at slot serial x ≡ true) is at.1, rw left (taken_at rows i row at.0 is))

-- no more are counted than there are
pub few_counted : (p : Row → Bool) (rows : List Row) (end : ℕ) → length rows < end → count_by p rows < end
few_counted p rows end lt = let counted = count_by-le-length p rows in omega (arith, lt, counted)

rises_upto : (low : ℕ) (rows : List Row) (next : ℕ) → RisesFrom low rows next → low ≤ next
rises_upto low [] next h = h
rises_upto low (row ∷ rows) next h = omega (arith, h.0, rises_upto (row.serial + 1) rows next h.1)

-- each serial is below the next one
pub rises_below : (low : ℕ) (rows : List Row) (next : ℕ) → RisesFrom low rows next → All (λ (row : Row). row.serial < next) rows
rises_below low [] next h = All-nil (λ (row : Row). row.serial < next)
rises_below low (row ∷ rows) next h = All-cons (λ (r : Row). r.serial < next) row rows (omega (arith, rises_upto (row.serial + 1) rows next h.1)) (rises_below (row.serial + 1) rows next h.1)
