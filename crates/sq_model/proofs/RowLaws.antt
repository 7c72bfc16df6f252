-- Laws of the words on rows: serials that rise, and the first live rows as a look.
use Rattle.std.proofs.Common.{◌≡◌, ℕ, zero, suc, ◌+◌, ◌<◌, ◌≤◌, Bool, true, false, not, cond, List, [], ◌∷◌, ◌++◌, map, take, refl, arith}
use Rattle.std.specs.Prelude.{◌&&◌, ◌==◌, nat_eq, filter, if◌then◌else◌}
use Rattle.std.specs.List.{list_any, Contains}
use Rattle.std.proofs.lemmas.Grind.{common_steps}
use Rattle.std.proofs.lemmas.List.{length-take, length-map}
use Rattle.std.proofs.lemmas.List.Sums.{length-filter}
use Rattle.std.proofs.lemmas.List.Elements.{All-take, All-contains_itself}
use Rattle.sq_base.specs.declared.row.Row.{Row}
use Rattle.sq_base.specs.declared.settings.Settings.{Settings}
use Rattle.sq_model.specs.declared.calls.Receipt.{Receipt}
use Rattle.sq_model.specs.Rows.{is_expired, unexpired, RisesFrom, serials_of, received_if, received, changed_if, is_held, is_distinct, IsLook, is_live, is_named, without}

pub rises_weaker : (a b : ℕ) (rows : List Row) (next : ℕ) → a ≤ b → RisesFrom b rows next → RisesFrom a rows next
rises_weaker a b [] next le h = omega arith
rises_weaker a b (row ∷ rows) next le h = (omega (arith, h.0), h.1)

pub rises_filter : (p : Row → Bool) (low : ℕ) (rows : List Row) (next : ℕ) → RisesFrom low rows next → RisesFrom low (filter p rows) next
rises_filter p low [] next h = h
rises_filter p low (row ∷ rows) next h =
    let tail = rises_filter p (row.serial + 1) rows next h.1 in
    elim (p row) as (λ b. RisesFrom low (cond b (row ∷ filter p rows) (filter p rows)) next)
    [ true ↦ (h.0, tail) | false ↦ rises_weaker low (row.serial + 1) (filter p rows) next (omega (arith, h.0)) tail ]

-- a change of each row that keeps its serial
pub rises_map : (f : Row → Row) (low : ℕ) (rows : List Row) (next : ℕ) → ((row : Row) → (f row).serial ≡ row.serial) → RisesFrom low rows next → RisesFrom low (map f rows) next
rises_map f low [] next same h = h
rises_map f low (row ∷ rows) next same h = rw (same row) (h.0, rises_map f (row.serial + 1) rows next same h.1)

pub rises_unexpired : (s : Settings) (m low : ℕ) (rows : List Row) (next : ℕ) → RisesFrom low rows next → RisesFrom low (unexpired s m rows) next
rises_unexpired s m low rows next h = rises_filter (λ row. not (is_expired s m row)) low rows next h

pub rises_without : (receipt : Receipt) (low : ℕ) (rows : List Row) (next : ℕ) → RisesFrom low rows next → RisesFrom low (without receipt rows) next
rises_without receipt low rows next h = rises_filter (λ row. not (is_named receipt row)) low rows next h

received_serial : (s : Settings) (serials : List ℕ) (m until : ℕ) (row : Row) → (received_if s serials m until row).serial ≡ row.serial
received_serial s serials m until row =
    elim (is_live s m row && list_any (λ c. c == row.serial) serials) as (λ b. (if b then received m until row else row).serial ≡ row.serial) [ true ↦ refl | false ↦ refl ]

pub rises_received : (s : Settings) (serials : List ℕ) (m until low : ℕ) (rows : List Row) (next : ℕ) → RisesFrom low rows next → RisesFrom low (map (received_if s serials m until) rows) next
rises_received s serials m until low rows next h = rises_map (received_if s serials m until) low rows next (received_serial s serials m until) h

changed_serial : (m : ℕ) (receipt : Receipt) (until : ℕ) (row : Row) → (changed_if m receipt until row).serial ≡ row.serial
changed_serial m receipt until row =
    elim (is_held m receipt row) as (λ b. (if b then record row { visible_from = until } else row).serial ≡ row.serial) [ true ↦ refl | false ↦ refl ]

pub rises_changed : (m : ℕ) (receipt : Receipt) (until low : ℕ) (rows : List Row) (next : ℕ) → RisesFrom low rows next → RisesFrom low (map (changed_if m receipt until) rows) next
rises_changed m receipt until low rows next h = rises_map (changed_if m receipt until) low rows next (changed_serial m receipt until) h

pub rises_push : (low : ℕ) (rows : List Row) (next : ℕ) (row : Row) → RisesFrom low rows next → row.serial ≡ next → RisesFrom low (rows ++ row ∷ []) (next + 1)
rises_push low [] next row h e = (omega (arith, h, e), omega (arith, e))
rises_push low (x ∷ rows) next row h e = (h.0, rises_push (x.serial + 1) rows next row h.1 e)

rises_take : (n low : ℕ) (rows : List Row) (next : ℕ) → RisesFrom low rows next → (end : ℕ) × RisesFrom low (take n rows) end
rises_take zero low rows next h = (low, omega arith)
rises_take (suc n) low [] next h = (next, h)
rises_take (suc n) low (row ∷ rows) next h = let t = rises_take n (row.serial + 1) rows next h.1 in (t.0, (h.0, t.1))

none_below : (low x : ℕ) (rows : List Row) (next : ℕ) → x < low → RisesFrom low rows next → list_any (λ y. y == x) (serials_of rows) ≡ false
none_below low x [] next lt h = refl
none_below low x (row ∷ rows) next lt h =
    let e : nat_eq row.serial x ≡ false = grind (arith, common_steps, h.0) in
    rw e (none_below (row.serial + 1) x rows next (omega (arith, h.0)) h.1)

pub rises_distinct : (low : ℕ) (rows : List Row) (next : ℕ) → RisesFrom low rows next → is_distinct (serials_of rows) ≡ true
rises_distinct low [] next h = refl
rises_distinct low (row ∷ rows) next h =
    rw (none_below (row.serial + 1) row.serial rows next (omega arith) h.1) (rises_distinct (row.serial + 1) rows next h.1)

-- the first n live rows are a look
pub first_is_look : (s : Settings) (m until n : ℕ) (rows : List Row) (next : ℕ) → RisesFrom 0 rows next → IsLook s m until n rows (take n (map (received m until) (filter (is_live s m) rows)))
first_is_look s m until n rows next h =
    let live = filter (is_live s m) rows in
    let risen = rises_take n 0 (map (received m until) live) next (rises_map (received m until) 0 live next (λ row. refl) (rises_filter (is_live s m) 0 rows next h)) in
    record {
      exact = rw (length-take, length-map, length-filter (is_live s m) rows) refl;
      distinct = rises_distinct 0 (take n (map (received m until) live)) risen.0 risen.1;
      each = All-take (Contains (map (received m until) live)) n (map (received m until) live) (All-contains_itself (map (received m until) live));
    }
