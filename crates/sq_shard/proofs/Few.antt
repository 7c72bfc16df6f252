-- Rows stay as few as they may be.
use Rattle.std.proofs.Common.{◌≡◌, ℕ, ◌+◌, ◌<◌, ◌≤◌, List, [], ◌∷◌, ◌++◌, length, map, Option, Some, None, Bool, true, false, not, cond, arith, refl}
use Rattle.std.specs.Prelude.{filter, nat_le}
use Rattle.std.proofs.lemmas.Grind.{common_steps}
use Rattle.std.proofs.lemmas.List.{length-map}
use Rattle.sq_base.specs.declared.refusal.Refusal.{Refusal}
use Rattle.sq_base.specs.declared.refusal.Refusal.TheVariants.{OverLimit}
use Rattle.sq_base.specs.declared.row.Row.{Row}
use Rattle.sq_base.specs.declared.settings.Settings.{Settings}
use Rattle.sq_model.specs.declared.calls.Receipt.{Receipt}
use Rattle.sq_model.specs.declared.home_mode.HomeMode.{HomeMode}
use Rattle.sq_model.specs.declared.home_mode.HomeMode.TheVariants.{Accepting}
use Rattle.sq_model.specs.declared.place.Limits.{Limits}
use Rattle.sq_model.specs.Homes.{full_refusal, last_serial, slots}
use Rattle.sq_model.specs.Rows.{unexpired, is_expired, without, is_named}

few_filtered : (p : Row → Bool) (rows : List Row) (most : ℕ) → length rows ≤ most → length (filter p rows) ≤ most
few_filtered p [] most le = le
few_filtered p (row ∷ rows) most le =
    elim (p row) as (λ b. length (cond b (row ∷ filter p rows) (filter p rows)) ≤ most)
    [ true ↦ (let rest = few_filtered p rows (length rows) (omega arith) in omega (arith, le, rest)) | false ↦ few_filtered p rows most (omega (arith, le)) ]

pub few_unexpired : (s : Settings) (m : ℕ) (rows : List Row) (most : ℕ) → length rows ≤ most → length (unexpired s m rows) ≤ most
few_unexpired s m rows most le = few_filtered (λ row. not (is_expired s m row)) rows most le

pub few_without : (receipt : Receipt) (rows : List Row) (most : ℕ) → length rows ≤ most → length (without receipt rows) ≤ most
few_without receipt rows most le = few_filtered (λ row. not (is_named receipt row)) rows most le

pub few_mapped : (f : Row → Row) (rows : List Row) (most : ℕ) → length rows ≤ most → length (map f rows) ≤ most
few_mapped f rows most le = rw length-map le

pub few_pushed : (rows : List Row) (row : Row) (most : ℕ) → length rows < most → length (rows ++ row ∷ []) ≤ most
few_pushed [] row most lt = omega (arith, lt)
few_pushed (x ∷ rows) row most lt = let rest = few_pushed rows row (length rows + 1) (omega arith) in omega (arith, lt, rest)

above : (a b : ℕ) → a < b → nat_le b a ≡ false
above a b h = grind (arith, common_steps)

upto : (a b : ℕ) → a ≤ b → nat_le a b ≡ true
upto a b h = grind (arith, common_steps)

-- a home that is full has a slot left, as it may hold fewer rows than there are slots
pub full_refused : (l : Limits) (mode : HomeMode) (next : ℕ) (s : Settings) (m : ℕ) (rows : List Row) (later : Option Refusal)
    → mode ≡ Accepting → next < last_serial → l.rows < slots → length rows ≤ l.rows → l.rows ≤ length (unexpired s m rows) → full_refusal l mode next (unexpired s m rows) later ≡ Some OverLimit
full_refused l mode next s m rows later accepting low fits within full =
    let kept = few_unexpired s m rows l.rows within in
    rw (accepting, above next last_serial low, above (length (unexpired s m rows)) slots (omega (arith, fits, kept)), upto l.rows (length (unexpired s m rows)) full) refl

-- and one that is not full, with serials left, refuses no row
pub one_more_left : (l : Limits) (mode : HomeMode) (next : ℕ) (s : Settings) (m : ℕ) (rows : List Row)
    → mode ≡ Accepting → next < last_serial → l.rows < slots → length (unexpired s m rows) < l.rows → full_refusal l mode next (unexpired s m rows) None ≡ None
one_more_left l mode next s m rows accepting low fits few =
    rw (accepting, above next last_serial low, above (length (unexpired s m rows)) slots (omega (arith, fits, few)), above (length (unexpired s m rows)) l.rows few) refl

-- where none is counted, none is there
pub none_left : (rows : List Row) → length rows ≤ 0 → rows ≡ []
none_left [] le = refl
none_left (row ∷ rows) le = absurd (omega (arith, le))
