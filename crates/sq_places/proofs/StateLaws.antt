-- A step of a home on what decides how its rows leave it.
use Rattle.std.proofs.Common.{◌≡◌, ◌≢◌, ℕ, zero, suc, ◌+◌, ◌<◌, ◌≤◌, Bool, true, false, not, cond, List, [], ◌∷◌, ◌++◌, map, refl, arith, ap, sym, ◌∙◌, subst, inl, inr, Option, Some, None, unwrap_or}
use Rattle.std.specs.Prelude.{◌⊎◌, ◌&&◌, ◌==◌, nat_lt, filter, if◌then◌else◌}
use Rattle.std.specs.List.{list_any, All, Contains}
use Rattle.std.proofs.lemmas.List.{append-nil, map-append}
use Rattle.std.proofs.lemmas.List.Elements.{All-head, All-tail}
use Rattle.std.proofs.lemmas.Bool.Decides.{eqb_tells}
use Rattle.sq_base.specs.declared.row.Row.{Row}
use Rattle.sq_base.specs.declared.settings.Settings.{Settings}
use Rattle.sq_model.specs.declared.home_mode.HomeMode.{HomeMode}
use Rattle.sq_model.specs.declared.home_mode.HomeMode.TheVariants.{Drained}
use Rattle.sq_model.specs.declared.place.Site.{Site}
use Rattle.sq_model.specs.declared.calls.Receipt.{Receipt}
use Rattle.sq_model.specs.declared.calls.HomeCall.{HomeCall}
use Rattle.sq_model.specs.declared.calls.HomeCall.TheVariants.{Configure, Close, Send, Look, Delete, Change, Purge, Count, StartDrain, FinishDrain, LeaveDead, LeaveDrain, LeaveTask, Enter, TurnBack, GiveBack, Drop}
use Rattle.sq_model.specs.declared.item.Item.{Item}
use Rattle.sq_model.specs.declared.replies.EnteredRow.{EnteredRow}
use Rattle.sq_model.specs.declared.replies.HomeReply.{HomeReply}
use Rattle.sq_model.specs.declared.replies.HomeReply.TheVariants.{Done, Sent, Looked, Over, Counted, Left, NoLiveRow, NoOrigin, SourceClosed, Entered}
use Rattle.sq_base.specs.declared.ids.HomeId.{HomeId}
use Rattle.sq_model.specs.Rows.{ms, is_visible, is_dead, is_live, is_held, serials_of, has_serial, received, received_if, changed_if, RisesFrom, IsLook, Takes}
use Rattle.sq_model.specs.Homes.{Contents, Home, Unopened, Serving, Closed, HomeStep, IsRising, carried, carried_back, once_draining, sent_row, entered_row, returned_row, unexpired_rows}
use Rattle.sq_model.specs.Lineages.{Cause, Expired, Deleted, Purged, ClosedAway, Dropped, Ending, ended, expired, home_drops, home_ends, home_ins, home_outs, home_sends}
use Rattle.sq_model.proofs.RowLaws.{rises_filter, rises_unexpired, rises_push, rises_received, rises_changed, rises_without}
use Rattle.sq_places.specs.declared.state.RowState.{RowState}
use Rattle.sq_places.specs.declared.state.Policy.{Policy}
use Rattle.sq_places.specs.inside.RowStates.{state_of, states_of, is_past, is_state_named, is_state_of, row_with, entered_state, returned_state, looked, next_policy, Effect, Stays, Arrives, Looks, Leaves, Departs, Enters, Drops, effect_of, effect_sends, effect_outs, effect_ins, kept_states, past_states, states_after, ended_states, state_ends}

-- membership by cases on the list
abbrev Has : List Row → Row → Type 0
Has [] row = ⊥
Has (r ∷ rows) row = (row ≡ r) ⊎ Has rows row

has_contained : (rows : List Row) (row : Row) → Contains rows row → Has rows row
has_contained [] row c = absurd (omega (arith, c.1))
has_contained (r ∷ rows) row (zero, lt, e) = inl (sym e)
has_contained (r ∷ rows) row (suc k, lt, e) = inr (has_contained rows row (k, omega (arith, lt), e))

-- of those that pass each one was there, and passes
has_filtered : (p : Row → Bool) (rows : List Row) (row : Row) → Has (filter p rows) row → Has rows row × (p row ≡ true)
has_filtered p [] row h = absurd h
has_filtered p (r ∷ rows) row h =
    elim (p r) as (λ b. p r ≡ b → Has (cond b (r ∷ filter p rows) (filter p rows)) row → Has (r ∷ rows) row × (p row ≡ true)) [
      | true ↦ (λ e t. elim t [ inl same ↦ (inl same, rw same e) | inr later ↦ (let rest = has_filtered p rows row later in (inr rest.0, rest.1)) ])
      | false ↦ (λ e t. let rest = has_filtered p rows row t in (inr rest.0, rest.1))
    ] refl h

has_mapped : (f : Row → Row) (rows : List Row) (row : Row) → Has (map f rows) row → (r : Row) × Has rows r × (row ≡ f r)
has_mapped f [] row h = absurd h
has_mapped f (r ∷ rows) row h = elim h [ inl same ↦ (r, inl refl, same) | inr later ↦ (let rest = has_mapped f rows row later in (rest.0, inr rest.1, rest.2)) ]

-- a row of a serial that stands in a list
row_of : (serial : ℕ) (rows : List Row) → has_serial serial rows ≡ true → (row : Row) × Has rows row × (row.serial ≡ serial)
row_of serial [] h = absurd cc
row_of serial (r ∷ rows) h =
    elim (eqb_tells r.serial serial) as (λ _. (row : Row) × Has (r ∷ rows) row × (row.serial ≡ serial)) [
      | inl p ↦ (r, inl refl, p.1)
      | inr p ↦ (let rest = row_of serial rows (rw p.0 at h) in (rest.0, inr rest.1, rest.2))
    ]

above : (low : ℕ) (rows : List Row) (next : ℕ) (row : Row) → RisesFrom low rows next → Has rows row → low ≤ row.serial
above low [] next row h i = absurd i
above low (r ∷ rows) next row h i = elim i [ inl same ↦ rw same h.0 | inr later ↦ omega (arith, h.0, above (r.serial + 1) rows next row h.1 later) ]

-- one row has a serial
only_row : (low : ℕ) (rows : List Row) (next : ℕ) (a b : Row) → RisesFrom low rows next → Has rows a → Has rows b → a.serial ≡ b.serial → a ≡ b
only_row low [] next a b h i j e = absurd i
only_row low (r ∷ rows) next a b h i j e =
    elim i [
      | inl same ↦ elim j [
        | inl also ↦ same ∙ sym also
        | inr later ↦ absurd (omega (arith, above (r.serial + 1) rows next b h.1 later, e, ap (λ (x : Row). x.serial) same))
      ]
      | inr later ↦ elim j [
        | inl also ↦ absurd (omega (arith, above (r.serial + 1) rows next a h.1 later, e, ap (λ (x : Row). x.serial) also))
        | inr too ↦ only_row (r.serial + 1) rows next a b h.1 later too e
      ]
    ]

all_has : (xs ys : List Row) → All (Contains ys) xs → (row : Row) → Has xs row → Has ys row
all_has [] ys h row i = absurd i
all_has (x ∷ xs) ys h row i = elim i [ inl same ↦ rw same (has_contained ys x (All-head (Contains ys) x xs h)) | inr later ↦ all_has xs ys (All-tail (Contains ys) x xs h) row later ]

-- a row of a serial that was given is live
picked_live : (s : Settings) (m until n : ℕ) (rows picked : List Row) (next : ℕ) (row : Row) → RisesFrom 0 rows next → IsLook s m until n rows picked → Has rows row → has_serial row.serial picked ≡ true → is_live s m row ≡ true
picked_live s m until n rows picked next row h look i e =
    let g = row_of row.serial picked e in
    let in_list = all_has picked (map (received m until) (filter (is_live s m) rows)) look.each g.0 g.1 in
    let r = has_mapped (received m until) (filter (is_live s m) rows) g.0 in_list in
    let live = has_filtered (is_live s m) rows r.0 r.1 in
    let serial : r.0.serial ≡ row.serial = sym (ap (λ (x : Row). x.serial) r.2) ∙ g.2 in
    subst (λ (x : Row). is_live s m x ≡ true) (only_row 0 rows next r.0 row h live.0 i serial) live.1

serials_have : (serial : ℕ) (picked : List Row) → list_any (λ c. c == serial) (serials_of picked) ≡ has_serial serial picked
serials_have serial [] = refl
serials_have serial (g ∷ picked) = rw (serials_have serial picked) refl

last_both : (a b c : Bool) → (a && b && c) ≡ true → c ≡ true
last_both true b c h = elim b as (λ v. (v && c) ≡ true → c ≡ true) [ true ↦ (λ e. e) | false ↦ (λ e. absurd cc) ] h
last_both false b c h = absurd cc

look_case : (live has few : Bool) (m until : ℕ) (row : Row) → (has ≡ true → live ≡ true) → (live ≡ true → few ≡ true)
    → state_of (if live && has then received m until row else row) ≡ (if has then if few then record (state_of row) { receives = row.receives + 1 } else state_of row else state_of row)
look_case true true true m until row h k = refl
look_case true true false m until row h k = let e : false ≡ true = k refl in absurd cc
look_case false true few m until row h k = let e : false ≡ true = h refl in absurd cc
look_case true false true m until row h k = refl
look_case true false false m until row h k = refl
look_case false false true m until row h k = refl
look_case false false false m until row h k = refl

-- a look on a row is that on its state
looked_row : (s : Settings) (m until : ℕ) (picked : List Row) (row : Row) → (has_serial row.serial picked ≡ true → is_live s m row ≡ true) → state_of (received_if s (serials_of picked) m until row) ≡ looked picked (state_of row)
looked_row s m until picked row live =
    rw (serials_have row.serial picked) (look_case (is_live s m row) (has_serial row.serial picked) (nat_lt row.receives 4294967295) m until row live (last_both (is_visible m row) (not (is_dead s m row)) (nat_lt row.receives 4294967295)))

pub looked_rows : (s : Settings) (m until : ℕ) (picked : List Row) (rows : List Row) → ((row : Row) → Has rows row → has_serial row.serial picked ≡ true → is_live s m row ≡ true)
    → map state_of (map (received_if s (serials_of picked) m until) rows) ≡ map (looked picked) (map state_of rows)
looked_rows s m until picked [] live = refl
looked_rows s m until picked (row ∷ rows) live =
    let first = looked_row s m until picked row (live row (inl refl)) in
    let rest = looked_rows s m until picked rows (λ r i. live r (inr i)) in
    cc

map_filter : (p : RowState → Bool) (rows : List Row) → map state_of (filter (λ row. p (state_of row)) rows) ≡ filter p (map state_of rows)
map_filter p [] = refl
map_filter p (row ∷ rows) =
    let rest = map_filter p rows in
    elim (p (state_of row)) as (λ b. map state_of (cond b (row ∷ filter (λ r. p (state_of r)) rows) (filter (λ r. p (state_of r)) rows)) ≡ cond b (state_of row ∷ filter p (map state_of rows)) (filter p (map state_of rows)))
    [ true ↦ ap (λ (xs : List RowState). state_of row ∷ xs) rest | false ↦ rest ]

map_push : (rows : List Row) (row : Row) → map state_of (rows ++ row ∷ []) ≡ map state_of rows ++ state_of row ∷ []
map_push [] row = refl
map_push (r ∷ rows) row = ap (λ (xs : List RowState). state_of r ∷ xs) (map_push rows row)

ended_map : (cause : Cause) (rows : List Row) → ended_states cause (map state_of rows) ≡ ended cause rows
ended_map cause [] = refl
ended_map cause (row ∷ rows) = ap (λ (es : List Ending). record { line = row.lineage; cause = cause } ∷ es) (ended_map cause rows)

changed_state : (m : ℕ) (receipt : Receipt) (until : ℕ) (row : Row) → state_of (changed_if m receipt until row) ≡ state_of row
changed_state m receipt until row = elim (is_held m receipt row) as (λ b. state_of (if b then record row { visible_from = until } else row) ≡ state_of row) [ true ↦ refl | false ↦ refl ]

changed_rows : (m : ℕ) (receipt : Receipt) (until : ℕ) (rows : List Row) → map state_of (map (changed_if m receipt until) rows) ≡ map state_of rows
changed_rows m receipt until [] = refl
changed_rows m receipt until (row ∷ rows) = let first = changed_state m receipt until row in let rest = changed_rows m receipt until rows in cc

pub filter_all : {X : Type 0} (xs : List X) → filter (λ x. true) xs ≡ xs
filter_all [] = refl
filter_all (x ∷ xs) = ap (λ ys. x ∷ ys) (filter_all xs)

pub filter_none : {X : Type 0} (xs : List X) → filter (λ x. false) xs ≡ []
filter_none [] = refl
filter_none (x ∷ xs) = filter_none xs

-- the policy of a home is what its settings say
abbrev pub GoesBy : Home → Option Policy → Type 0
GoesBy Unopened policy = policy ≡ None
GoesBy (Serving its) policy = policy ≡ Some (record { retention = its.settings.retention; version = its.version })
GoesBy Closed policy = Unit {0}

-- one row is taken out, and the rest stays as it was
abbrev pub Splits : Effect → List RowState → Type 0
Splits Stays rows = Unit {0}
Splits (Arrives sent) rows = Unit {0}
Splits (Looks picked) rows = Unit {0}
Splits (Leaves p cause) rows = Unit {0}
Splits (Departs row) rows = (b : List RowState) × (a : List RowState) × (rows ≡ b ++ state_of row ∷ a) × (filter (λ state. not (is_state_of row state)) rows ≡ b ++ a)
Splits (Enters row) rows = Unit {0}
Splits (Drops line) rows = Unit {0}

-- what a step does to a home is what its effect does to the states of its rows
pub record Mirrors (home : Home) (policy next : Option Policy) (m : ℕ) (effect : Effect) (leaving : List Ending) (after : Home) : Type 0 where
  pub rising : IsRising after
  pub goes_by : GoesBy after next
  pub states : states_of after ≡ states_after m effect (kept_states policy m (states_of home))
  pub ends : leaving ≡ state_ends policy m effect (states_of home)
  pub split : Splits effect (kept_states policy m (states_of home))

abbrev policy_of : Contents → Option Policy
policy_of its = Some (record { retention = its.settings.retention; version = its.version })

kept_rows : (its : Contents) (m : ℕ) → map state_of (unexpired_rows its m) ≡ kept_states (policy_of its) m (map state_of its.rows)
kept_rows its m = map_filter (λ row. not (is_past its.settings.retention m row)) its.rows

past_rows : (its : Contents) (m : ℕ) → ended Expired (expired its.settings m its.rows) ≡ ended_states Expired (past_states (policy_of its) m (map state_of its.rows))
past_rows its m = sym (ended_map Expired (expired its.settings m its.rows)) ∙ ap (ended_states Expired) (map_filter (is_past its.settings.retention m) its.rows)

-- only those past the retention leave
only_past : (its : Contents) (m : ℕ) → ended Expired (expired its.settings m its.rows) ++ [] ≡ ended_states Expired (past_states (policy_of its) m (map state_of its.rows)) ++ []
only_past its m = ap (λ (es : List Ending). es ++ []) (past_rows its m)

left_rows : (its : Contents) (m : ℕ) (p : RowState → Bool) (cause : Cause)
    → ended Expired (expired its.settings m its.rows) ++ ended cause (filter (λ row. p (state_of row)) (unexpired_rows its m)) ≡ state_ends (policy_of its) m (Leaves p cause) (map state_of its.rows)
left_rows its m p cause =
    let gone : ended cause (filter (λ row. p (state_of row)) (unexpired_rows its m)) ≡ ended_states cause (filter p (kept_states (policy_of its) m (map state_of its.rows))) =
    sym (ended_map cause (filter (λ row. p (state_of row)) (unexpired_rows its m))) ∙ ap (ended_states cause) (map_filter p (unexpired_rows its m) ∙ ap (filter p) (kept_rows its m)) in
    ap (λ (es : List Ending). es ++ ended cause (filter (λ row. p (state_of row)) (unexpired_rows its m))) (past_rows its m) ∙ ap (λ (es : List Ending). ended_states Expired (past_states (policy_of its) m (map state_of its.rows)) ++ es) gone

all_left : (its : Contents) (m : ℕ) (cause : Cause)
    → ended Expired (expired its.settings m its.rows) ++ ended cause (unexpired_rows its m) ≡ state_ends (policy_of its) m (Leaves (λ row. true) cause) (map state_of its.rows)
all_left its m cause =
    subst (λ (rs : List Row). ended Expired (expired its.settings m its.rows) ++ ended cause rs ≡ state_ends (policy_of its) m (Leaves (λ row. true) cause) (map state_of its.rows))
    (filter_all (unexpired_rows its m)) (left_rows its m (λ row. true) cause)

-- and those that leave
past_left : (its : Contents) (m : ℕ) (p : RowState → Bool) (cause : Cause)
    → (ended Expired (expired its.settings m its.rows) ++ ended cause (filter (λ row. p (state_of row)) (unexpired_rows its m))) ++ [] ≡ state_ends (policy_of its) m (Leaves p cause) (map state_of its.rows)
past_left its m p cause = append-nil _ ∙ left_rows its m p cause

past_all : (its : Contents) (m : ℕ) (cause : Cause)
    → (ended Expired (expired its.settings m its.rows) ++ ended cause (unexpired_rows its m)) ++ [] ≡ state_ends (policy_of its) m (Leaves (λ row. true) cause) (map state_of its.rows)
past_all its m cause = append-nil _ ∙ all_left its m cause

-- the rows and the mode change, the states of the rows do not
stays_in : (its : Contents) (mode : HomeMode) (m : ℕ) (kept : List Row) → map state_of kept ≡ map state_of (unexpired_rows its m) → RisesFrom 0 kept its.next
    → Mirrors (Serving its) (policy_of its) (policy_of its) m Stays (ended Expired (expired its.settings m its.rows) ++ []) (Serving (record its { mode = mode; rows = kept }))
stays_in its mode m kept same rising = record { rising = rising; goes_by = refl; states = same ∙ kept_rows its m; ends = only_past its m; split = tt }

stays : (its : Contents) (m : ℕ) (kept : List Row) → map state_of kept ≡ map state_of (unexpired_rows its m) → RisesFrom 0 kept its.next
    → Mirrors (Serving its) (policy_of its) (policy_of its) m Stays (ended Expired (expired its.settings m its.rows) ++ []) (Serving (record its { rows = kept }))
stays its m kept same rising = stays_in its its.mode m kept same rising

none_passes : (a b : Bool) → b ≡ false → (a && b) ≡ false
none_passes true b e = e
none_passes false b e = refl

other_row : (row r : Row) → r.serial ≢ row.serial → is_state_of row (state_of r) ≡ false
other_row row r ne = elim (eqb_tells r.serial row.serial) as (λ _. is_state_of row (state_of r) ≡ false) [ inl p ↦ absurd (ne p.1) | inr p ↦ none_passes (r.slot == row.slot) (r.serial == row.serial) p.0 ]

same_number : (n : ℕ) → (n == n) ≡ true
same_number n = elim (eqb_tells n n) as (λ _. (n == n) ≡ true) [ inl p ↦ p.0 | inr p ↦ absurd (p.1 refl) ]

this_row : (row : Row) → is_state_of row (state_of row) ≡ true
this_row row = rw (same_number row.slot, same_number row.serial) refl

-- none of these has the slot and serial of a row with a lower serial
later_stay : (row : Row) (low : ℕ) (rows : List Row) (next : ℕ) → row.serial < low → RisesFrom low rows next → filter (λ r. not (is_state_of row (state_of r))) rows ≡ rows
later_stay row low [] next lt h = refl
later_stay row low (r ∷ rows) next lt h =
    let other = other_row row r (λ e. omega (arith, e, h.0, lt)) in
    let rest = later_stay row (r.serial + 1) rows next (omega (arith, h.0, lt)) h.1 in
    subst (λ (v : Bool). cond (not v) (r ∷ filter (λ q. not (is_state_of row (state_of q))) rows) (filter (λ q. not (is_state_of row (state_of q))) rows) ≡ r ∷ rows) (sym other) (ap (λ (rs : List Row). r ∷ rs) rest)

from_low : (low : ℕ) (before : List Row) (row : Row) (after : List Row) (next : ℕ) → RisesFrom low (before ++ row ∷ after) next → low ≤ row.serial
from_low low [] row after next h = h.0
from_low low (r ∷ before) row after next h = omega (arith, h.0, from_low (r.serial + 1) before row after next h.1)

-- what has the slot and serial of one row is that row
taken_row : (low : ℕ) (before : List Row) (row : Row) (after : List Row) (next : ℕ) → RisesFrom low (before ++ row ∷ after) next → filter (λ r. not (is_state_of row (state_of r))) (before ++ row ∷ after) ≡ before ++ after
taken_row low [] row after next h =
    let rest = later_stay row (row.serial + 1) after next (omega arith) h.1 in
    subst (λ (v : Bool). cond (not v) (row ∷ filter (λ q. not (is_state_of row (state_of q))) after) (filter (λ q. not (is_state_of row (state_of q))) after) ≡ after) (sym (this_row row)) rest
taken_row low (r ∷ before) row after next h =
    let later = from_low (r.serial + 1) before row after next h.1 in
    let other = other_row row r (λ e. omega (arith, e, later)) in
    let rest = taken_row (r.serial + 1) before row after next h.1 in
    subst (λ (v : Bool). cond (not v) (r ∷ filter (λ q. not (is_state_of row (state_of q))) (before ++ row ∷ after)) (filter (λ q. not (is_state_of row (state_of q))) (before ++ row ∷ after)) ≡ r ∷ before ++ after) (sym other) (ap (λ (rs : List Row). r ∷ rs) rest)

-- a row leaves for another queue
departs : (its : Contents) (m : ℕ) (rest : List Row) (row : Row) → RisesFrom 0 its.rows its.next → Takes row (unexpired_rows its m) rest
    → Mirrors (Serving its) (policy_of its) (policy_of its) m (Departs row) (ended Expired (expired its.settings m its.rows) ++ []) (Serving (record its { rows = rest }))
departs its m rest row rising t =
    let kept = unexpired_rows its m in
    let kept_rising : RisesFrom 0 kept its.next = rises_unexpired its.settings m 0 its.rows its.next rising in
    let left : filter (λ r. not (is_state_of row (state_of r))) kept ≡ rest =
    ap (filter (λ (r : Row). not (is_state_of row (state_of r)))) t.at ∙ taken_row 0 t.before row t.after its.next (subst (λ (rs : List Row). RisesFrom 0 rs its.next) t.at kept_rising) ∙ sym t.left in
    let states : map state_of rest ≡ filter (λ state. not (is_state_of row state)) (kept_states (policy_of its) m (map state_of its.rows)) =
    ap (map state_of) (sym left) ∙ map_filter (λ state. not (is_state_of row state)) kept ∙ ap (filter (λ (state : RowState). not (is_state_of row state))) (kept_rows its m) in
    record {
      rising = subst (λ (rs : List Row). RisesFrom 0 rs its.next) left (rises_filter (λ r. not (is_state_of row (state_of r))) 0 kept its.next kept_rising);
      goes_by = refl;
      states = states;
      ends = only_past its m;
      split = (
        map state_of t.before,
        map state_of t.after,
        sym (kept_rows its m) ∙ ap (map state_of) t.at ∙ map-append state_of t.before (row ∷ t.after),
        sym states ∙ ap (map state_of) t.left ∙ map-append state_of t.before t.after,
      );
    }

-- a row comes in
comes_in : (its : Contents) (m : ℕ) (row : Row) (state : RowState) → RisesFrom 0 its.rows its.next → row.serial ≡ its.next → state_of row ≡ state
    → Mirrors (Serving its) (policy_of its) (policy_of its) m (Enters state) (ended Expired (expired its.settings m its.rows) ++ []) (Serving (record its { next = its.next + 1; rows = unexpired_rows its m ++ row ∷ [] }))
comes_in its m row state rising serial is = record {
  rising = rises_push 0 (unexpired_rows its m) its.next row (rises_unexpired its.settings m 0 its.rows its.next rising) serial;
  goes_by = refl;
  states = map_push (unexpired_rows its m) row ∙ ap (λ (xs : List RowState). xs ++ state_of row ∷ []) (kept_rows its m) ∙ ap (λ (x : RowState). kept_states (policy_of its) m (map state_of its.rows) ++ x ∷ []) is;
  ends = only_past its m;
  split = tt;
}

entered_same : (home : HomeId) (n m : ℕ) (item : Item) (entered : EnteredRow) → entered.serial ≡ n → state_of (entered_row home n entered.slot m item) ≡ entered_state m item entered
entered_same home n m item entered e = ap (λ (k : ℕ). row_with (carried item.reason m item.row) item.row.lineage k entered.slot) (sym e)

returned_same : (n m : ℕ) (item : Item) (entered : EnteredRow) → entered.serial ≡ n → state_of (returned_row n entered.slot m item) ≡ returned_state m item entered
returned_same n m item entered e = ap (λ (k : ℕ). row_with (carried_back item.reason m item.row) item.row.lineage k entered.slot) (sym e)

serving_mirrors : (site : Site) (its : Contents) (m : ℕ) (call : HomeCall) (reply : HomeReply) (after : Home) → HomeStep site (Serving its) m call reply after → RisesFrom 0 its.rows its.next
    → Mirrors (Serving its) (policy_of its) (next_policy (policy_of its) call) m (effect_of m call reply) (home_ends (Serving its) m call ++ home_drops call) after
unfolding HomeStep
serving_mirrors site its m (Configure t w) Done after h rising =
    let unexpired_rising = rises_unexpired its.settings m 0 its.rows its.next rising in
    rw h (elim (nat_lt its.version w) as (λ b. Mirrors (Serving its) (policy_of its) (if b then policy_of (record its { settings = t; version = w }) else policy_of its) m Stays (ended Expired (expired its.settings m its.rows) ++ []) (if b then Serving (record its { settings = t; version = w; rows = unexpired_rows its m }) else Serving (record its { rows = unexpired_rows its m }))) [
      | true ↦ record { rising = unexpired_rising; goes_by = refl; states = kept_rows its m; ends = only_past its m; split = tt }
      | false ↦ stays its m (unexpired_rows its m) refl unexpired_rising
    ])
serving_mirrors site its m Close Done after h rising =
    rw h (record { rising = tt; goes_by = tt; states = sym (filter_none (kept_states (policy_of its) m (map state_of its.rows))); ends = past_all its m ClosedAway; split = tt })
serving_mirrors site its m (Send body delay) (Sent sent) after h rising =
    let kept = unexpired_rows its m in
    let row = sent_row site.home its.next sent.slot m (m + ms (unwrap_or delay its.settings.delay)) body in
    rw (h.2, h.1) (record {
      rising = rises_push 0 kept its.next row (rises_unexpired its.settings m 0 its.rows its.next rising) refl;
      goes_by = refl;
      states = map_push kept row ∙ ap (λ (xs : List RowState). xs ++ state_of row ∷ []) (kept_rows its m);
      ends = only_past its m;
      split = tt;
    })
serving_mirrors site its m (Look max timeout) (Looked picked) after h rising =
    let kept = unexpired_rows its m in
    let until = m + ms (unwrap_or timeout its.settings.timeout) in
    let kept_rising = rises_unexpired its.settings m 0 its.rows its.next rising in
    rw h.2 (record {
      rising = rises_received its.settings (serials_of picked) m until 0 kept its.next kept_rising;
      goes_by = refl;
      states = looked_rows its.settings m until picked kept (λ row i e. picked_live its.settings m until _ kept picked its.next row kept_rising h.1 i e) ∙ ap (map (looked picked)) (kept_rows its m);
      ends = only_past its m;
      split = tt;
    })
serving_mirrors site its m (Look max timeout) Over after h rising = rw h.2 (stays its m (unexpired_rows its m) refl (rises_unexpired its.settings m 0 its.rows its.next rising))
serving_mirrors site its m (Delete receipt) Done after h rising =
    let kept = unexpired_rows its m in
    rw h.1 (record {
      rising = rises_without receipt 0 kept its.next (rises_unexpired its.settings m 0 its.rows its.next rising);
      goes_by = refl;
      states = map_filter (λ row. not (is_state_named receipt row)) kept ∙ ap (filter (λ (row : RowState). not (is_state_named receipt row))) (kept_rows its m);
      ends = past_left its m (is_state_named receipt) Deleted;
      split = tt;
    })
serving_mirrors site its m (Change receipt timeout) Done after h rising =
    let kept = unexpired_rows its m in
    rw h.3 (stays its m (map (changed_if m receipt (m + ms timeout)) kept) (changed_rows m receipt (m + ms timeout) kept) (rises_changed m receipt (m + ms timeout) 0 kept its.next (rises_unexpired its.settings m 0 its.rows its.next rising)))
serving_mirrors site its m Purge Done after h rising =
    rw h (record { rising = omega arith; goes_by = refl; states = sym (filter_none (kept_states (policy_of its) m (map state_of its.rows))); ends = past_all its m Purged; split = tt })
serving_mirrors site its m Count (Counted counts) after h rising = rw h.1 (stays its m (unexpired_rows its m) refl (rises_unexpired its.settings m 0 its.rows its.next rising))
serving_mirrors site its m StartDrain Done after h rising = rw h (stays_in its (once_draining its.mode) m (unexpired_rows its m) refl (rises_unexpired its.settings m 0 its.rows its.next rising))
serving_mirrors site its m FinishDrain Done after h rising = rw h.2 (stays_in its Drained m [] (ap (map state_of) (sym h.1)) (omega arith))
serving_mirrors site its m LeaveDead (Left item) after h rising = rw h.3.2 (departs its m h.3.0 item.row rising h.3.1)
serving_mirrors site its m LeaveDrain (Left item) after h rising = rw h.4.2 (departs its m h.4.0 item.row rising h.4.1)
serving_mirrors site its m (LeaveTask task) (Left item) after h rising = rw h.2.2 (departs its m h.2.0 item.row rising h.2.1)
serving_mirrors site its m (LeaveTask task) NoLiveRow after h rising = rw h.1 (stays its m (unexpired_rows its m) refl (rises_unexpired its.settings m 0 its.rows its.next rising))
serving_mirrors site its m (LeaveTask task) (NoOrigin serial) after h rising = rw h.1 (stays its m (unexpired_rows its m) refl (rises_unexpired its.settings m 0 its.rows its.next rising))
serving_mirrors site its m (Enter item) (Entered entered) after h rising =
    rw h.3 (comes_in its m (entered_row site.home its.next entered.slot m item) (entered_state m item entered) rising refl (entered_same site.home its.next m item entered h.2))
serving_mirrors site its m (GiveBack item) (Entered entered) after h rising =
    rw h.3 (comes_in its m (returned_row its.next entered.slot m item) (returned_state m item entered) rising refl (returned_same its.next m item entered h.2))
serving_mirrors site its m call reply after h rising = elim h [ ]

none_past : (policy : Option Policy) (m : ℕ) → past_states policy m [] ≡ []
none_past None m = refl
none_past (Some policy) m = refl

none_kept : (policy : Option Policy) (m : ℕ) → kept_states policy m [] ≡ []
none_kept None m = refl
none_kept (Some policy) m = refl

-- nothing is in a closed home
closed_stays : (policy : Option Policy) (m : ℕ) → Mirrors Closed policy policy m Stays [] Closed
closed_stays policy m = record { rising = tt; goes_by = tt; states = sym (none_kept policy m); ends = ap (λ (rows : List RowState). ended_states Expired rows ++ []) (sym (none_past policy m)); split = tt }

pub mirrors : (site : Site) (home : Home) (policy : Option Policy) (m : ℕ) (call : HomeCall) (reply : HomeReply) (after : Home) → HomeStep site home m call reply after → IsRising home → GoesBy home policy
    → Mirrors home policy (next_policy policy call) m (effect_of m call reply) (home_ends home m call ++ home_drops call) after
unfolding HomeStep
mirrors site (Serving its) policy m call reply after h rising by = rw by (serving_mirrors site its m call reply after h rising)
mirrors site Unopened policy m (Configure t w) Done after h rising by = rw (by, h) (record { rising = omega arith; goes_by = refl; states = refl; ends = refl; split = tt })
mirrors site Unopened policy m Close Done after h rising by = rw (by, h) (record { rising = tt; goes_by = tt; states = refl; ends = refl; split = tt })
mirrors site Closed policy m (LeaveTask task) SourceClosed after h rising by = rw h (closed_stays policy m)
mirrors site Closed policy m (TurnBack item) Done after h rising by = rw h.1 (closed_stays policy m)
mirrors site Closed policy m (Drop item) Done after h rising by =
    rw h.1 (record {
      rising = tt;
      goes_by = tt;
      states = sym (none_kept policy m);
      ends = ap (λ (rows : List RowState). ended_states Expired rows ++ record { line = item.row.lineage; cause = Dropped } ∷ []) (sym (none_past policy m));
      split = tt;
    })
mirrors site home policy m call reply after h rising by = elim h [ ]

-- who is sent in a step, goes into transit or is there no more, by its effect
pub record Passes (m : ℕ) (call : HomeCall) (reply : HomeReply) : Type 0 where
  pub sends : home_sends reply ≡ effect_sends (effect_of m call reply)
  pub outs : map (λ row. row.lineage) (home_outs reply) ≡ effect_outs (effect_of m call reply)
  pub ins : map (λ row. row.lineage) (home_ins call) ++ map (λ e. e.line) (home_drops call) ≡ effect_ins (effect_of m call reply)

pub passes : (site : Site) (home : Home) (m : ℕ) (call : HomeCall) (reply : HomeReply) (after : Home) → HomeStep site home m call reply after → Passes m call reply
unfolding HomeStep
passes site Unopened m (Configure t w) Done after h = record { sends = refl; outs = refl; ins = refl }
passes site (Serving its) m (Configure t w) Done after h = record { sends = refl; outs = refl; ins = refl }
passes site Unopened m Close Done after h = record { sends = refl; outs = refl; ins = refl }
passes site (Serving its) m Close Done after h = record { sends = refl; outs = refl; ins = refl }
passes site (Serving its) m (Send body delay) (Sent sent) after h = record { sends = refl; outs = refl; ins = refl }
passes site (Serving its) m (Look max timeout) (Looked picked) after h = record { sends = refl; outs = refl; ins = refl }
passes site (Serving its) m (Look max timeout) Over after h = record { sends = refl; outs = refl; ins = refl }
passes site (Serving its) m (Delete receipt) Done after h = record { sends = refl; outs = refl; ins = refl }
passes site (Serving its) m (Change receipt timeout) Done after h = record { sends = refl; outs = refl; ins = refl }
passes site (Serving its) m Purge Done after h = record { sends = refl; outs = refl; ins = refl }
passes site (Serving its) m Count (Counted counts) after h = record { sends = refl; outs = refl; ins = refl }
passes site (Serving its) m StartDrain Done after h = record { sends = refl; outs = refl; ins = refl }
passes site (Serving its) m FinishDrain Done after h = record { sends = refl; outs = refl; ins = refl }
passes site (Serving its) m LeaveDead (Left item) after h = record { sends = refl; outs = refl; ins = refl }
passes site (Serving its) m LeaveDrain (Left item) after h = record { sends = refl; outs = refl; ins = refl }
passes site (Serving its) m (LeaveTask task) (Left item) after h = record { sends = refl; outs = refl; ins = refl }
passes site (Serving its) m (LeaveTask task) NoLiveRow after h = record { sends = refl; outs = refl; ins = refl }
passes site (Serving its) m (LeaveTask task) (NoOrigin serial) after h = record { sends = refl; outs = refl; ins = refl }
passes site Closed m (LeaveTask task) SourceClosed after h = record { sends = refl; outs = refl; ins = refl }
passes site (Serving its) m (Enter item) (Entered entered) after h = record { sends = refl; outs = refl; ins = refl }
passes site Closed m (TurnBack item) Done after h = record { sends = refl; outs = refl; ins = refl }
passes site (Serving its) m (GiveBack item) (Entered entered) after h = record { sends = refl; outs = refl; ins = refl }
passes site Closed m (Drop item) Done after h = record { sends = refl; outs = refl; ins = refl }
passes site home m call reply after h = elim h [ ]
