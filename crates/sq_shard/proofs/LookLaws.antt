-- What a look gives: no row where none is live, and rows with the slots that they have.
use Rattle.std.proofs.Common.{◌≡◌, ℕ, ◌+◌, Bool, true, false, cond, List, [], ◌∷◌, length, map, Option, Some, refl, sym, ap, ◌∙◌, subst, arith}
use Rattle.std.specs.Prelude.{filter, count_by, ◌||◌}
use Rattle.std.specs.List.{All, Contains, list_any}
use Rattle.std.proofs.lemmas.List.Sums.{length-filter}
use Rattle.std.proofs.lemmas.List.Elements.{All-contains, All-contains_itself, All-filter, All-map, All-nil, All-weaker}
use Rattle.sq_base.specs.declared.row.Row.{Row}
use Rattle.sq_base.specs.declared.settings.Settings.{Settings}
use Rattle.sq_model.specs.declared.calls.HomeCall.TheVariants.{Look}
use Rattle.sq_model.specs.declared.place.Site.{Site}
use Rattle.sq_model.specs.declared.replies.HomeReply.TheVariants.{Looked}
use Rattle.sq_model.specs.Homes.{Contents, Serving, HomeStep, unexpired_rows}
use Rattle.sq_model.specs.Rows.{is_live, received, IsLook, RisesFrom}
use Rattle.sq_slots.specs.Slots.{SerialsRise}
use Rattle.sq_slots.proofs.RowLists.{same_serial}
use Rattle.sq_shard.specs.Looks.{look_after}
use Rattle.sq_store.specs.Picked.{AreTheirs, HasItsSlot}

none_filtered : (p : Row → Bool) (rows : List Row) → list_any p rows ≡ false → length (filter p rows) ≡ 0
none_filtered p [] h = refl
none_filtered p (row ∷ rows) h =
    elim (p row) as (λ v. (v || list_any p rows) ≡ false → length (cond v (row ∷ filter p rows) (filter p rows)) ≡ 0)
    [ true ↦ (λ k. absurd cc) | false ↦ (λ k. none_filtered p rows k) ] h

-- where none is live, no row is what a look gives
empty_look : (s : Settings) (m until n : ℕ) (rows : List Row) → list_any (is_live s m) rows ≡ false → IsLook s m until n rows []
empty_look s m until n rows none =
    let counted : count_by (is_live s m) rows ≡ 0 = subst (λ (k : ℕ). k ≡ 0) (length-filter (is_live s m) rows) (none_filtered (is_live s m) rows none) in
    record { exact = omega (arith, counted); distinct = refl; each = All-nil _ }

-- and the look is done with none
pub nothing_given : (site : Site) (its : Contents) (m max : ℕ) (timeout : Option ℕ) → list_any (is_live its.settings m) (unexpired_rows its m) ≡ false
    → HomeStep site (Serving its) m (Look max timeout) (Looked []) (look_after (Serving its) m timeout (Some []))
unfolding HomeStep
nothing_given site its m max timeout none = ((λ live. let k : true ≡ false = sym live ∙ none in cc), empty_look its.settings m _ _ (unexpired_rows its m) none, refl)

pub rises_rise : (low : ℕ) (rows : List Row) (next : ℕ) → RisesFrom low rows next → SerialsRise low rows
rises_rise low [] next h = tt
rises_rise low (row ∷ rows) next h = (h.0, rises_rise (row.serial + 1) rows next h.1)

-- what a look gives are rows that are there
pub looked_are_theirs : (s : Settings) (m until n : ℕ) (rows : List Row) (next : ℕ) (picked : List Row) → RisesFrom 0 rows next → IsLook s m until n rows picked → AreTheirs rows picked
looked_are_theirs s m until n rows next picked rises look =
    let mine : Row → Type 0 = λ row. HasItsSlot rows (received m until row) in
    let each : All mine rows = All-weaker (Contains rows) mine (λ row there other in_rows same. ap (λ (r : Row). r.slot) (same_serial 0 rows (rises_rise 0 rows next rises) other row in_rows there same)) rows (All-contains_itself rows) in
    let given : List Row = map (received m until) (filter (is_live s m) rows) in
    let all_given : All (HasItsSlot rows) given = All-map (HasItsSlot rows) (received m until) (filter (is_live s m) rows) (All-filter (is_live s m) mine rows each) in
    record { distinct = look.distinct; slots = All-weaker (Contains given) (HasItsSlot rows) (λ row there. All-contains (HasItsSlot rows) given row all_given there) picked look.each }
