-- Rows that leave a home: which there are, and what stays.
use Rattle.std.proofs.Common.{◌≡◌, ℕ, zero, suc, ◌+◌, ◌<◌, ◌≤◌, true, false, List, [], ◌∷◌, ◌++◌, length, Option, Some, None, refl, sym, ap, ◌∙◌, subst, arith}
use Rattle.std.specs.Prelude.{◌&&◌, ◌||◌, not, if◌then◌else◌, nat_eq, nat_le}
use Rattle.std.specs.List.{list_any, Contains, slice_index_or}
use Rattle.std.proofs.lemmas.Bool.{eqb-true}
use Rattle.std.proofs.lemmas.Grind.{common_steps}
use Rattle.sq_base.specs.declared.refusal.Refusal.{Refusal}
use Rattle.sq_base.specs.declared.refusal.Refusal.TheVariants.{Worn, OverLimit, HomeDraining}
use Rattle.sq_base.specs.declared.row.Row.{Row}
use Rattle.sq_model.specs.declared.home_mode.HomeMode.{HomeMode}
use Rattle.sq_model.specs.declared.place.Site.{Site}
use Rattle.sq_model.specs.declared.calls.HomeCall.TheVariants.{Enter, TurnBack, GiveBack, Drop}
use Rattle.sq_model.specs.declared.item.Item.{Item}
use Rattle.sq_model.specs.declared.replies.EnteredRow.{EnteredRow}
use Rattle.sq_model.specs.declared.replies.HomeReply.TheVariants.{Done, Entered}
use Rattle.sq_model.specs.Homes.{Contents, Home, HomeStep, accepts, last_serial, slots, refused_if, may_enter, may_return, entered_row, returned_row, unexpired_rows}
use Rattle.sq_model.specs.Homes.{Unopened as Never, Serving as Serves, Closed as Gone}
use Rattle.sq_model.specs.Rows.{RisesFrom, Takes}
use Rattle.sq_model.proofs.RowLaws.{rises_weaker, rises_unexpired}
use Rattle.sq_shard.specs.declared.shard.Status.{Status}
use Rattle.sq_shard.specs.declared.shard.Status.TheVariants.{Unopened, Serving, Closed}
use Rattle.sq_shard.specs.Moves.{HasRow, GoesWithout, coming_refusal}
use Rattle.sq_shard.specs.inside.Moves.{IsNextOf, IsPut}
use Rattle.sq_slots.specs.Slots.{is_at}
use Rattle.sq_shard.specs.ShardValue.{home_with}

-- a row that is there is found by its slot and serial
found_at : (rows : List Row) (row : Row) (k : ℕ) → k < length rows → slice_index_or rows k row ≡ row → list_any (is_at row.slot row.serial) rows ≡ true
found_at [] row k lt is = absurd (omega (arith, lt))
found_at (x ∷ rows) row zero lt is =
    let same_slot : nat_eq x.slot row.slot ≡ true = rw is (grind (arith, common_steps)) in
    let same_serial : nat_eq x.serial row.serial ≡ true = rw is (grind (arith, common_steps)) in
    rw (same_slot, same_serial) refl
found_at (x ∷ rows) row (suc k) lt is =
    elim (is_at row.slot row.serial x) as (λ v. (v || list_any (is_at row.slot row.serial) rows) ≡ true) [ true ↦ refl | false ↦ found_at rows row k (omega (arith, lt)) is ]

pub found_there : (rows : List Row) (row : Row) → Contains rows row → list_any (is_at row.slot row.serial) rows ≡ true
found_there rows row there = found_at rows row there.0 there.1 there.2

above_low : (low : ℕ) (rows : List Row) (next : ℕ) (row : Row) (k : ℕ) → RisesFrom low rows next → k < length rows → slice_index_or rows k row ≡ row → low ≤ row.serial
above_low low [] next row k h lt is = absurd (omega (arith, lt))
above_low low (x ∷ rows) next row zero h lt is = rw (sym is) h.0
above_low low (x ∷ rows) next row (suc k) h lt is = let rest = above_low (x.serial + 1) rows next row k h.1 (omega (arith, lt)) is in omega (arith, rest, h.0)

same_at : (low : ℕ) (rows : List Row) (next : ℕ) (a b : Row) (i j : ℕ) → RisesFrom low rows next → i < length rows → slice_index_or rows i a ≡ a → j < length rows → slice_index_or rows j b ≡ b → a.serial ≡ b.serial → a ≡ b
same_at low [] next a b i j h lt is lu it same = absurd (omega (arith, lt))
same_at low (x ∷ rows) next a b zero zero h lt is lu it same = sym is ∙ it
same_at low (x ∷ rows) next a b zero (suc j) h lt is lu it same =
    let above = above_low (x.serial + 1) rows next b j h.1 (omega (arith, lu)) it in
    let low_one : x.serial ≡ a.serial = ap (λ r. r.serial) is in
    absurd (omega (arith, above, low_one, same))
same_at low (x ∷ rows) next a b (suc i) zero h lt is lu it same =
    let above = above_low (x.serial + 1) rows next a i h.1 (omega (arith, lt)) is in
    let low_one : x.serial ≡ b.serial = ap (λ r. r.serial) it in
    absurd (omega (arith, above, low_one, same))
same_at low (x ∷ rows) next a b (suc i) (suc j) h lt is lu it same = same_at (x.serial + 1) rows next a b i j h.1 (omega (arith, lt)) is (omega (arith, lu)) it same

taken_there : (before after : List Row) (row : Row) → Contains (before ++ row ∷ after) row
taken_there [] after row = (0, omega arith, refl)
taken_there (x ∷ before) after row = let rest = taken_there before after row in (suc rest.0, omega (arith, rest.1), rest.2)

-- what is taken out with the serial of a row that is there is that row
pub taken_same : (rows rest : List Row) (next : ℕ) (row taken : Row) → RisesFrom 0 rows next → Contains rows row → Takes taken rows rest → is_at row.slot row.serial taken ≡ true → taken ≡ row
taken_same rows rest next row taken rises there takes at =
    let found : Contains rows taken = rw takes.at (taken_there takes.before takes.after taken) in
    let same : taken.serial ≡ row.serial =
    elim (nat_eq taken.slot row.slot) as (λ v. (v && nat_eq taken.serial row.serial) ≡ true → taken.serial ≡ row.serial) [ true ↦ (λ k. eqb-true _ _ k) | false ↦ (λ k. absurd cc) ] at in
    same_at 0 rows next taken row found.0 there.0 rises found.1 found.2 there.1 there.2 same

rises_left : (low : ℕ) (before after : List Row) (row : Row) (next : ℕ) → RisesFrom low (before ++ row ∷ after) next → RisesFrom low (before ++ after) next
rises_left low [] after row next h = rises_weaker low (row.serial + 1) after next (omega (arith, h.0)) h.1
rises_left low (x ∷ before) after row next h = (h.0, rises_left (x.serial + 1) before after row next h.1)

-- those that stay go on rising
pub rises_rest : (rows rest : List Row) (row : Row) (low next : ℕ) → RisesFrom low rows next → Takes row rows rest → RisesFrom low rest next
rises_rest rows rest row low next h takes =
    let whole : RisesFrom low (takes.before ++ row ∷ takes.after) next = subst (λ xs. RisesFrom low xs next) takes.at h in
    rw takes.left (rises_left low takes.before takes.after row next whole)

fewer_left : (before after : List Row) (row : Row) → length (before ++ after) ≤ length (before ++ row ∷ after)
fewer_left [] after row = omega arith
fewer_left (x ∷ before) after row = let rest = fewer_left before after row in omega (arith, rest)

-- and are fewer
pub few_rest : (rows rest : List Row) (row : Row) (most : ℕ) → Takes row rows rest → length rows ≤ most → length rest ≤ most
few_rest rows rest row most takes le =
    let fewer = fewer_left takes.before takes.after row in
    let whole : length (takes.before ++ row ∷ takes.after) ≤ most = subst (λ xs. length xs ≤ most) takes.at le in
    rw takes.left (omega (arith, fewer, whole))

-- a home that takes a row serves and accepts it, and has a serial, a slot and spare memory for it
pub record TakesOne (status : Status) (site : Site) (mode : HomeMode) (next : ℕ) (rows : List Row) : Type 0 where
  pub serves : status ≡ Serving
  pub accepting : accepts mode ≡ true
  pub not_worn : next < last_serial
  pub slot_left : length rows < slots
  pub within : length rows < site.limits.rows

over : (a b : ℕ) → a < b → nat_le b a ≡ false
over a b h = grind (arith, common_steps)

below : (a b : ℕ) → nat_le b a ≡ false → a < b
below a b h = grind (arith, common_steps, h)

-- where it accepts rows, so does the rest
takes_next : (site : Site) (mode : HomeMode) (next : ℕ) (rows : List Row) → accepts mode ≡ true
    → refused_if (nat_le last_serial next || nat_le slots (length rows)) Worn (refused_if (nat_le site.limits.rows (length rows)) OverLimit None) ≡ None → TakesOne Serving site mode next rows
takes_next site mode next rows accepting h =
    elim (nat_le last_serial next) as (λ a. nat_le last_serial next ≡ a → (if a || nat_le slots (length rows) then Some Worn else refused_if (nat_le site.limits.rows (length rows)) OverLimit None) ≡ None → TakesOne Serving site mode next rows) [
      | true ↦ (λ e k. absurd cc)
      | false ↦ (λ e. elim (nat_le slots (length rows)) as (λ b. nat_le slots (length rows) ≡ b → (if b then Some Worn else refused_if (nat_le site.limits.rows (length rows)) OverLimit None) ≡ None → TakesOne Serving site mode next rows) [
        | true ↦ (λ f k. absurd cc)
        | false ↦ (λ f. elim (nat_le site.limits.rows (length rows)) as (λ d. nat_le site.limits.rows (length rows) ≡ d → (if d then Some OverLimit else None) ≡ None → TakesOne Serving site mode next rows) [
          | true ↦ (λ i k. absurd cc)
          | false ↦ (λ i k. record { serves = refl; accepting = accepting; not_worn = below next last_serial e; slot_left = below (length rows) slots f; within = below (length rows) site.limits.rows i })
        ] refl)
      ] refl)
    ] refl h

pub takes_one : (status : Status) (site : Site) (its : Contents) (m : ℕ) → coming_refusal site (home_with status its) m None ≡ None → TakesOne status site its.mode its.next (unexpired_rows its m)
takes_one Unopened site its m h = absurd cc
takes_one Closed site its m h = absurd cc
takes_one Serving site its m h =
    elim (accepts its.mode) as (λ v. accepts its.mode ≡ v → (if not v then Some HomeDraining else refused_if (nat_le last_serial its.next || nat_le slots (length (unexpired_rows its m))) Worn (refused_if (nat_le site.limits.rows (length (unexpired_rows its m))) OverLimit None)) ≡ None → TakesOne Serving site its.mode its.next (unexpired_rows its m)) [
      | true ↦ (λ a k. takes_next site its.mode its.next (unexpired_rows its m) a k)
      | false ↦ (λ a k. absurd cc)
    ] refl h

-- where a row may come in, what is checked later decides
pub later_decides : (site : Site) (home : Home) (m : ℕ) (later : Option Refusal) → coming_refusal site home m None ≡ None → coming_refusal site home m later ≡ later
later_decides site Never m later h = absurd cc
later_decides site Gone m later h = absurd cc
later_decides site (Serves its) m later h =
    let takes = takes_one Serving site its m h in
    rw (takes.accepting, over its.next last_serial takes.not_worn, over (length (unexpired_rows its m)) slots takes.slot_left, over (length (unexpired_rows its m)) site.limits.rows takes.within) refl

-- what a home that puts the row of an item last has done
pub entered_at : (site : Site) (home : Home) (m serial : ℕ) (entered : EnteredRow) (item : Item) (after : Home) → may_enter site.home item ≡ true → IsNextOf home serial → IsPut site home m (entered_row site.home serial 0 m item) entered after
    → HomeStep site home m (Enter item) (Entered entered) after
unfolding HomeStep
entered_at site Never m serial entered item after may next put = absurd next
entered_at site Gone m serial entered item after may next put = absurd next
entered_at site (Serves its) m serial entered item after may next put =
    let left : IsPut site (Serves its) m (entered_row site.home its.next 0 m item) entered after = subst (λ (k : ℕ). IsPut site (Serves its) m (entered_row site.home k 0 m item) entered after) next put in
    (may, left.0, left.1, left.2)

pub returned_at : (site : Site) (home : Home) (m serial : ℕ) (entered : EnteredRow) (item : Item) (after : Home) → may_return site.home item ≡ true → IsNextOf home serial → IsPut site home m (returned_row serial 0 m item) entered after
    → HomeStep site home m (GiveBack item) (Entered entered) after
unfolding HomeStep
returned_at site Never m serial entered item after may next put = absurd next
returned_at site Gone m serial entered item after may next put = absurd next
returned_at site (Serves its) m serial entered item after may next put =
    let left : IsPut site (Serves its) m (returned_row its.next 0 m item) entered after = subst (λ (k : ℕ). IsPut site (Serves its) m (returned_row k 0 m item) entered after) next put in
    (may, left.0, left.1, left.2)

pub turned_at : (site : Site) (home : Home) (m : ℕ) (item : Item) → home ≡ Gone → may_enter site.home item ≡ true → HomeStep site home m (TurnBack item) Done home
unfolding HomeStep
turned_at site home m item gone may = rw gone (may, refl)

pub dropped_at : (site : Site) (home : Home) (m : ℕ) (item : Item) → home ≡ Gone → may_return site.home item ≡ true → HomeStep site home m (Drop item) Done home
unfolding HomeStep
dropped_at site home m item gone may = rw gone (may, refl)

-- a row that the home has goes out, and it is the one that was found by its slot and serial
pub record GoneOut (status : Status) (its : Contents) (m : ℕ) (rest : List Row) (row taken : Row) : Type 0 where
  pub serves : status ≡ Serving
  pub same : taken ≡ row
  pub without : GoesWithout (home_with status its) m row (home_with status (record its { rows = rest }))

pub gone_out : (status : Status) (its : Contents) (m : ℕ) (rest : List Row) (row taken : Row) → RisesFrom 0 its.rows its.next → HasRow (home_with status its) m row → is_at row.slot row.serial taken ≡ true
    → Takes taken (unexpired_rows its m) rest → GoneOut status its m rest row taken
gone_out Unopened its m rest row taken rises has at takes = absurd has
gone_out Closed its m rest row taken rises has at takes = absurd has
gone_out Serving its m rest row taken rises has at takes =
    let same = taken_same (unexpired_rows its m) rest its.next row taken (rises_unexpired its.settings m 0 its.rows its.next rises) has takes at in
    record { serves = refl; same = same; without = (rest, subst (λ (x : Row). Takes x (unexpired_rows its m) rest) same takes, refl) }
