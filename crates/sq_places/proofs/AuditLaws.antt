-- The pass over a run finds who was sent in it, who moved and who left it, and what is listed of these is where they are.
use Rattle.std.proofs.Common.{◌≡◌, ℕ, zero, suc, ◌+◌, ◌<◌, ◌≤◌, Bool, true, false, cond, List, [], ◌∷◌, ◌++◌, length, map, refl, arith, ap, sym, ◌∙◌, subst, inl, inr, Option, Some, None, slice_get, slice_set, get_or, append_assoc, get_or-set_same, get_or-set_other}
use Rattle.std.specs.Prelude.{◌⊎◌, nat_lt, if◌then◌else◌}
use Rattle.std.specs.List.{fold}
use Rattle.std.specs.List.Sorted.{IsStrictlySortedBy}
use Rattle.std.specs.Ordering.{nat_cmp, match_ordering}
use Rattle.std.specs.declared.cmp.Ordering.{Ordering}
use Rattle.std.specs.declared.cmp.Ordering.TheVariants.{Greater}
use Rattle.std.proofs.lemmas.Grind.{common_steps}
use Rattle.std.proofs.lemmas.Bool.Decides.{eqb_tells}
use Rattle.std.proofs.lemmas.List.{append-nil, map-append}
use Rattle.std.proofs.lemmas.List.Sums.{sum_by-cons, fold-append}
use Rattle.sq_base.specs.declared.message_id.MessageId.{MessageId}
use Rattle.sq_base.specs.declared.row.Row.{Row}
use Rattle.sq_model.specs.declared.calls.HomeCall.{HomeCall}
use Rattle.sq_model.specs.declared.item.Item.{Item}
use Rattle.sq_model.specs.declared.place.Place.{Place}
use Rattle.sq_model.specs.declared.place.Place.TheVariants as at
use Rattle.sq_model.specs.declared.place.Site.{Site}
use Rattle.sq_model.specs.declared.replies.HomeReply.{HomeReply}
use Rattle.sq_model.specs.Rows.{RisesFrom}
use Rattle.sq_model.specs.Homes.{Home, Unopened, Serving, Closed, IsRising}
use Rattle.sq_model.specs.Lineages.{Cause, Expired, Ending, home_drops, home_ends, home_ins, home_outs, home_sends, items_with, rows_of, rows_with, same_id, ends_with, sends_with}
use Rattle.sq_model.specs.Places.{homes_with, place_after, place_within, first_end, place_in, run_ends, run_sends}
use Rattle.sq_model.specs.Ledgers.{Ledger, IsLedger}
use Rattle.sq_model.specs.Systems.{HomeAt, HomeSteps, IsStep, System, Tag, OfDirectory, OfLedger, OfHome, RunFrom, opening, IsOnePlace, Opening}
use Rattle.sq_laws.proofs.LedgerLaws.{opens}
use Rattle.sq_laws.proofs.LineageLaws.{ends_append}
use Rattle.sq_laws.proofs.SystemLaws.{one_place, sends_append}
use Rattle.sq_audit.specs.declared.tagged.Tagged.{Tagged}
use Rattle.sq_audit.specs.Tags.{tag_of, tags_of}
use Rattle.sq_places.specs.declared.state.RowState.{RowState}
use Rattle.sq_places.specs.declared.state.Policy.{Policy}
use Rattle.sq_places.specs.inside.RowStates.{state_of, states_of, sent_state, Effect, Stays, Arrives, Looks, Leaves, Departs, Enters, Drops, effect_of, kept_states, past_states, states_after, ended_states, left_states, state_ends}
use Rattle.sq_places.specs.inside.HomeValues.{HomeValue, AuditValue}
use Rattle.sq_places.specs.inside.Audits.{no_states, put, rows_after, IsSameAudit, placed, placed_left, placed_rows, placed_moves, home_after_event, placed_ends, grown, no_audit, audit_step}
use Rattle.sq_places.specs.AllPlaces.{ArePlaces}
use Rattle.sq_places.specs.inside.AllPlaces.{after_send, after_move, sent_place, listed_place}
use Rattle.sq_places.proofs.StateLaws.{GoesBy, mirrors}
use Rattle.sq_places.proofs.MessageStateLaws.{sends_first}
use Rattle.sq_places.proofs.FollowLaws.{home_one_way, home_transit, ledger_stays, opened, own_step, step_counts}
use Rattle.sq_model.proofs.ElementLaws.{get_same, get_other}
use Rattle.sq_places.proofs.ListLaws.{length_grown, get_grown}

abbrev placed_of : Ending → MessageId × Place
placed_of e = (e.line, place_after e.cause)

cause_placed : (cause : Cause) (rows : List RowState) → map placed_of (ended_states cause rows) ≡ placed (place_after cause) rows
cause_placed cause [] = refl
cause_placed cause (row ∷ rows) = ap (λ (es : List (MessageId × Place)). (row.lineage, place_after cause) ∷ es) (cause_placed cause rows)

left_placed : (effect : Effect) (rows : List RowState) → map placed_of (left_states effect rows) ≡ placed_left effect rows
left_placed Stays rows = refl
left_placed (Arrives sent) rows = refl
left_placed (Looks picked) rows = refl
left_placed (Leaves p cause) rows = cause_placed cause _
left_placed (Departs row) rows = refl
left_placed (Enters row) rows = refl
left_placed (Drops line) rows = refl

ends_placed : (policy : Option Policy) (m : ℕ) (effect : Effect) (rows : List RowState) → map placed_of (state_ends policy m effect rows) ≡ placed at.Expired (past_states policy m rows) ++ placed_left effect (kept_states policy m rows)
ends_placed policy m effect rows =
    rw (map-append placed_of (ended_states Expired (past_states policy m rows)) (left_states effect (kept_states policy m rows)), cause_placed Expired (past_states policy m rows), left_placed effect (kept_states policy m rows)) refl

-- what the pass keeps of a home is true of it
abbrev MirroredAt : Home → HomeValue → Type 0
MirroredAt home v = IsRising home × GoesBy home v.policy × (v.rows ≡ states_of home)

-- ---- rows come in last

-- serials rise from here on
abbrev Rising : ℕ → List RowState → Type 0
Rising low [] = Unit {0}
Rising low (row ∷ rows) = (low ≤ row.serial) × Rising (row.serial + 1) rows

rising_states : (low : ℕ) (rows : List Row) (next : ℕ) → RisesFrom low rows next → Rising low (map state_of rows)
rising_states low [] next h = tt
rising_states low (row ∷ rows) next h = (h.0, rising_states (row.serial + 1) rows next h.1)

rising_home : (home : Home) → IsRising home → Rising 0 (states_of home)
rising_home Unopened h = tt
rising_home (Serving its) h = rising_states 0 its.rows its.next h
rising_home Closed h = tt

below_last : (low : ℕ) (rows : List RowState) (row : RowState) → Rising low (rows ++ row ∷ []) → low ≤ row.serial
below_last low [] row h = h.0
below_last low (r ∷ rows) row h = omega (arith, h.0, below_last (r.serial + 1) rows row h.1)

greater : (a b : ℕ) → b < a → nat_cmp a b ≡ Greater
greater a b lt = grind (arith, common_steps, lt)

put_last : (low : ℕ) (rows : List RowState) (row : RowState) → Rising low (rows ++ row ∷ []) → put row rows ≡ rows ++ row ∷ []
put_last low [] row h = refl
put_last low (r ∷ rows) row h =
    let above : r.serial < row.serial = omega (arith, below_last (r.serial + 1) rows row h.1) in
    ap (λ (o : Ordering). match_ordering o (row ∷ r ∷ rows) (row ∷ rows) (r ∷ put row rows)) (greater row.serial r.serial above)
    ∙ ap (λ (rs : List RowState). r ∷ rs) (put_last (r.serial + 1) rows row h.1)

-- in a run the row that comes in is the last
comes_last : (home : Home) (rows : List RowState) (row : RowState) → IsRising home → states_of home ≡ rows ++ row ∷ [] → put row rows ≡ states_of home
comes_last home rows row rising same = put_last 0 rows row (subst (Rising 0) same (rising_home home rising)) ∙ sym same

after_same : (home : Home) (m : ℕ) (effect : Effect) (rows : List RowState) → IsRising home → states_of home ≡ states_after m effect rows → rows_after m effect rows ≡ states_of home
after_same home m Stays rows rising same = sym same
after_same home m (Arrives sent) rows rising same = comes_last home rows (sent_state sent m) rising same
after_same home m (Looks picked) rows rising same = sym same
after_same home m (Leaves p cause) rows rising same = sym same
after_same home m (Departs row) rows rising same = sym same
after_same home m (Enters row) rows rising same = comes_last home rows row rising same
after_same home m (Drops line) rows rising same = sym same

-- ---- the homes

abbrev AllMirrored : List HomeAt → List HomeValue → Type 0
AllMirrored homes values = (i : ℕ) (h : HomeAt) → slice_get homes i ≡ Some h → MirroredAt h.home (get_or values i no_states)

-- of a home that changed and the others
mirrored_set : (homes : List HomeAt) (values : List HomeValue) (i : ℕ) (old : HomeAt) (new : Home) (v : HomeValue) → slice_get homes i ≡ Some old → AllMirrored homes values → MirroredAt new v
    → AllMirrored (slice_set homes i (record { site = old.site; home = new })) (slice_set (grown (i + 1) values) i v)
mirrored_set homes values i old new v in_list all now j h e =
    let put : HomeAt = record { site = old.site; home = new } in
    elim (eqb_tells i j) as (λ _. MirroredAt h.home (get_or (slice_set (grown (i + 1) values) i v) j no_states)) [
      | inl p ↦ (let is : slice_get (slice_set homes i put) j ≡ Some put = subst (λ (n : ℕ). slice_get (slice_set homes i put) n ≡ Some put) p.1 (get_same homes i old put in_list) in
          let same : h ≡ put = cc in
          let within : i < length (grown (i + 1) values) = omega (arith, length_grown (i + 1) values) in
          let read : get_or (slice_set (grown (i + 1) values) i v) j no_states ≡ v = subst (λ (n : ℕ). get_or (slice_set (grown (i + 1) values) i v) n no_states ≡ v) p.1 (get_or-set_same (grown (i + 1) values) i v no_states within) in
          rw (same, read) now)
      | inr p ↦ (let was : slice_get homes j ≡ Some h = sym (get_other homes i j put p.1) ∙ e in
          let read : get_or (slice_set (grown (i + 1) values) i v) j no_states ≡ get_or values j no_states = get_or-set_other (grown (i + 1) values) i j v no_states (λ q. p.1 (sym q)) ∙ get_grown (i + 1) values j in
          rw read (all j h was))
    ]

-- who moves in a run
abbrev tag_moves : Tag → List (MessageId × Place)
tag_moves (OfDirectory e) = []
tag_moves (OfLedger e) = []
tag_moves (OfHome i e) = placed_moves e.call e.reply

abbrev run_moves : List Tag → List (MessageId × Place)
run_moves [] = []
run_moves (t ∷ ts) = tag_moves t ++ run_moves ts

record Finds (a : AuditValue) (sends : List MessageId) (moves : List (MessageId × Place)) (ends : List Ending) (found : AuditValue) : Type 0 where
  all_sends : found.sends ≡ a.sends ++ sends
  all_moves : found.moves ≡ a.moves ++ moves
  all_ends : found.ends ≡ a.ends ++ map placed_of ends

audit_law : (before : System) (ts : List Tag) (after : System) (r : RunFrom before ts after) (a : AuditValue) → AllMirrored before.homes a.homes → Finds a (run_sends ts) (run_moves ts) (run_ends before ts after r) (fold audit_step a ts)
audit_law before [] after r a all = record { all_sends = sym (append-nil a.sends); all_moves = sym (append-nil a.moves); all_ends = sym (append-nil a.ends) }
audit_law before (OfDirectory e ∷ ts) after r a all = audit_law r.0 ts after r.2 a (rw r.1.homes all)
audit_law before (OfLedger e ∷ ts) after r a all = audit_law r.0 ts after r.2 a (rw r.1.homes all)
audit_law before (OfHome i e ∷ ts) after r a all =
    let h : HomeSteps before i e r.0 = r.1 in
    let v : HomeValue = get_or a.homes i no_states in
    let m = e.stamp.moment in
    let fit : MirroredAt h.old.home v = all i h.old h.in_list in
    let mirror = mirrors h.old.site h.old.home v.policy m e.call e.reply h.new h.step fit.0 fit.1 in
    let effect = effect_of m e.call e.reply in
    let leaving = home_ends h.old.home m e.call ++ home_drops e.call in
    let kept = kept_states v.policy m (states_of h.old.home) in
    let rows : rows_after m effect (kept_states v.policy m v.rows) ≡ states_of h.new = ap (λ (rs : List RowState). rows_after m effect (kept_states v.policy m rs)) fit.2 ∙ after_same h.new m effect kept mirror.rising mirror.states in
    let gone : placed_ends e v ≡ map placed_of leaving =
    ap (λ (rs : List RowState). placed at.Expired (past_states v.policy m rs) ++ placed_left effect (kept_states v.policy m rs)) fit.2
    ∙ sym (ends_placed v.policy m effect (states_of h.old.home)) ∙ ap (map placed_of) (sym mirror.ends) in
    let next : MirroredAt h.new (home_after_event e v) = (mirror.rising, mirror.goes_by, rows) in
    let rest = audit_law r.0 ts after r.2 (audit_step a (OfHome i e)) (rw h.homes (mirrored_set before.homes a.homes i h.old h.new (home_after_event e v) h.in_list all next)) in
    record {
      all_sends = rest.all_sends ∙ append_assoc a.sends (home_sends e.reply) (run_sends ts);
      all_moves = rest.all_moves ∙ append_assoc a.moves (placed_moves e.call e.reply) (run_moves ts);
      all_ends = rest.all_ends ∙ append_assoc a.ends (placed_ends e v) (map placed_of (run_ends r.0 ts after r.2))
          ∙ ap (λ (es : List (MessageId × Place)). a.ends ++ es) (ap (λ (es : List (MessageId × Place)). es ++ map placed_of (run_ends r.0 ts after r.2)) gone ∙ sym (map-append placed_of leaving (run_ends r.0 ts after r.2)));
    }

fold_tags : (a : AuditValue) (ts : List Tagged) → fold audit_step a (tags_of ts) ≡ fold (λ (b : AuditValue) (t : Tagged). audit_step b (tag_of t)) a ts
fold_tags a [] = refl
fold_tags a (t ∷ ts) = fold_tags (audit_step a (tag_of t)) ts

-- ---- what is listed of one message

-- some or none
tells : (n : ℕ) → ((nat_lt 0 n ≡ true) × (1 ≤ n)) ⊎ ((nat_lt 0 n ≡ false) × (n ≡ 0))
tells zero = inr (refl, refl)
tells (suc n) = inl (grind (arith, common_steps), omega arith)

same_both : (b : Bool) (place : Place) → (if b then Some place else Some place) ≡ Some place
same_both true place = refl
same_both false place = refl

above_none : (n : ℕ) → nat_lt 0 (1 + n) ≡ true
above_none n = grind (arith, common_steps)

sent_from : (x : MessageId) (place : Option Place) (sends : List MessageId) → fold (after_send x) place sends ≡ (if nat_lt 0 (sends_with x sends) then Some at.InHome else place)
sent_from x place [] = refl
sent_from x place (y ∷ sends) =
    elim (same_id x y) as (λ v. sends_with x (y ∷ sends) ≡ cond v 1 0 + sends_with x sends → fold (after_send x) (if v then Some at.InHome else place) sends ≡ (if nat_lt 0 (sends_with x (y ∷ sends)) then Some at.InHome else place)) [
      | true ↦ (λ e. rw (e, above_none (sends_with x sends)) (sent_from x (Some at.InHome) sends ∙ same_both (nat_lt 0 (sends_with x sends)) at.InHome))
      | false ↦ (λ e. let same : sends_with x (y ∷ sends) ≡ sends_with x sends = omega (arith, e) in rw same (sent_from x place sends))
    ] (sends_first x y sends)

rows_first : (x : MessageId) (row : Row) (rows : List Row) → rows_with x (row ∷ rows) ≡ cond (same_id x row.lineage) 1 0 + rows_with x rows
rows_first x row rows = sum_by-cons (λ (r : Row). cond (same_id x r.lineage) 1 0) row rows

-- rows that move to one place
moved_to : (x : MessageId) (to : Place) (place : Option Place) (rows : List Row) → fold (after_move x) place (placed_rows to rows) ≡ (if nat_lt 0 (rows_with x rows) then Some to else place)
moved_to x to place [] = refl
moved_to x to place (row ∷ rows) =
    elim (same_id x row.lineage) as (λ v. rows_with x (row ∷ rows) ≡ cond v 1 0 + rows_with x rows → fold (after_move x) (if v then Some to else place) (placed_rows to rows) ≡ (if nat_lt 0 (rows_with x (row ∷ rows)) then Some to else place)) [
      | true ↦ (λ e. rw (e, above_none (rows_with x rows)) (moved_to x to (Some to) rows ∙ same_both (nat_lt 0 (rows_with x rows)) to))
      | false ↦ (λ e. let same : rows_with x (row ∷ rows) ≡ rows_with x rows = omega (arith, e) in rw same (moved_to x to place rows))
    ] (rows_first x row rows)

-- after so many went into transit, and then so many came in
abbrev moved_by : ℕ → ℕ → Option Place → Option Place
moved_by outs ins place = if nat_lt 0 ins then Some at.InHome else if nat_lt 0 outs then Some at.InTransit else place

event_moves : (x : MessageId) (call : HomeCall) (reply : HomeReply) (place : Option Place) → fold (after_move x) place (placed_moves call reply) ≡ moved_by (rows_with x (home_outs reply)) (rows_with x (home_ins call)) place
event_moves x call reply place =
    fold-append (after_move x) place (placed_rows at.InTransit (home_outs reply)) (placed_rows at.InHome (home_ins call))
    ∙ moved_to x at.InHome (fold (after_move x) place (placed_rows at.InTransit (home_outs reply))) (home_ins call)
    ∙ ap (λ (p : Option Place). if nat_lt 0 (rows_with x (home_ins call)) then Some at.InHome else p) (moved_to x at.InTransit place (home_outs reply))

moved_none : (outs ins : ℕ) (place : Option Place) → outs ≡ 0 → ins ≡ 0 → moved_by outs ins place ≡ place
moved_none outs ins place o i = ap (λ (n : ℕ). moved_by outs n place) i ∙ ap (λ (n : ℕ). moved_by n 0 place) o

-- where so many are in transit
abbrev within : ℕ → Option Place
within items = Some (if nat_lt 0 items then at.InTransit else at.InHome)

-- what is listed follows what is in transit
moved_within : (before after outs ins : ℕ) → after + ins ≡ before + outs → before ≤ 1 → after ≤ 1 → (ins ≡ 0) ⊎ (outs ≡ 0) → moved_by outs ins (within before) ≡ within after
moved_within before after outs ins e least most way =
    elim (tells ins) as (λ _. moved_by outs ins (within before) ≡ within after) [
      | inl some ↦ elim way as (λ _. moved_by outs ins (within before) ≡ within after) [
        | inl zero_in ↦ absurd (omega (arith, zero_in, some.1))
        | inr zero_out ↦ (
            let gone : after ≡ 0 = omega (arith, zero_out, some.1, e, least) in
            ap (λ (v : Bool). if v then Some at.InHome else if nat_lt 0 outs then Some at.InTransit else within before) some.0 ∙ ap within (sym gone))
      ]
      | inr none ↦ elim (tells outs) as (λ _. moved_by outs ins (within before) ≡ within after) [
        | inl some ↦ (
            let one : after ≡ 1 = omega (arith, none.1, some.1, e, most) in
            ap (λ (v : Bool). if v then Some at.InHome else if nat_lt 0 outs then Some at.InTransit else within before) none.0
            ∙ ap (λ (v : Bool). if v then Some at.InTransit else within before) some.0 ∙ ap within (sym one))
        | inr still ↦ (
            let same : before ≡ after = omega (arith, none.1, still.1, e) in
            moved_none outs ins (within before) still.1 none.1 ∙ ap within same)
      ]
    ]

-- a message that stays within the system is in transit as its last move says, or else in a home
moves_law : (x : MessageId) (before : System) (ts : List Tag) (after : System) (r : RunFrom before ts after) → IsLedger before.ledger → homes_with x before.homes + items_with x before.ledger.items + sends_with x (run_sends ts) ≤ 1
    → ends_with x (run_ends before ts after r) ≡ 0 → fold (after_move x) (within (items_with x before.ledger.items)) (run_moves ts) ≡ within (items_with x after.ledger.items)
moves_law x before [] after r ledger once none = ap (λ (s : System). within (items_with x s.ledger.items)) (sym r)
moves_law x before (OfDirectory e ∷ ts) after r ledger once none =
    let s : IsStep before (OfDirectory e) r.0 = r.1 in
    let homes = ap (homes_with x) s.homes in
    let items = ap (λ (l : Ledger). items_with x l.items) s.ledger in
    ap (λ (n : ℕ). fold (after_move x) (within n) (run_moves ts)) (sym items)
    ∙ moves_law x r.0 ts after r.2 (ledger_stays before (OfDirectory e) r.0 s ledger) (omega (arith, once, homes, items)) none
moves_law x before (OfLedger e ∷ ts) after r ledger once none =
    let s : IsStep before (OfLedger e) r.0 = r.1 in
    let homes = ap (homes_with x) s.homes in
    let items = own_step x before e r.0 s ledger in
    ap (λ (n : ℕ). fold (after_move x) (within n) (run_moves ts)) (sym items)
    ∙ moves_law x r.0 ts after r.2 (ledger_stays before (OfLedger e) r.0 s ledger) (omega (arith, once, homes, items)) none
moves_law x before (OfHome i e ∷ ts) after r ledger once none =
    let s : HomeSteps before i e r.0 = r.1 in
    let leaving = home_ends s.old.home e.stamp.moment e.call ++ home_drops e.call in
    let counts = step_counts x before (OfHome i e) r.0 s ledger in
    let transit = home_transit x before i e r.0 s ledger in
    let sends = sends_append x (home_sends e.reply) (run_sends ts) in
    let ends = ends_append x leaving (run_ends r.0 ts after r.2) in
    let dropped = ends_append x (home_ends s.old.home e.stamp.moment e.call) (home_drops e.call) in
    let was = items_with x before.ledger.items in
    let is = items_with x r.0.ledger.items in
    let outs = rows_with x (home_outs e.reply) in
    let ins = rows_with x (home_ins e.call) in
    let moved : moved_by outs ins (within was) ≡ within is =
    moved_within was is outs ins (omega (arith, transit, ends, dropped, none)) (omega (arith, once)) (omega (arith, counts, sends, once)) (home_one_way x before i e r.0 s) in
    fold-append (after_move x) (within was) (placed_moves e.call e.reply) (run_moves ts)
    ∙ ap (λ (p : Option Place). fold (after_move x) p (run_moves ts)) (event_moves x e.call e.reply (within was) ∙ moved)
    ∙ moves_law x r.0 ts after r.2 (ledger_stays before (OfHome i e) r.0 s ledger) (omega (arith, counts, sends, once)) (omega (arith, ends, none))

-- one that is nowhere does not move
nowhere_law : (x : MessageId) (before : System) (ts : List Tag) (after : System) (r : RunFrom before ts after) (place : Option Place) → IsLedger before.ledger → homes_with x before.homes + items_with x before.ledger.items + sends_with x (run_sends ts) ≡ 0
    → fold (after_move x) place (run_moves ts) ≡ place
nowhere_law x before [] after r place ledger none = refl
nowhere_law x before (OfDirectory e ∷ ts) after r place ledger none =
    let s : IsStep before (OfDirectory e) r.0 = r.1 in
    nowhere_law x r.0 ts after r.2 place (ledger_stays before (OfDirectory e) r.0 s ledger) (omega (arith, none, ap (homes_with x) s.homes, ap (λ (l : Ledger). items_with x l.items) s.ledger))
nowhere_law x before (OfLedger e ∷ ts) after r place ledger none =
    let s : IsStep before (OfLedger e) r.0 = r.1 in
    nowhere_law x r.0 ts after r.2 place (ledger_stays before (OfLedger e) r.0 s ledger) (omega (arith, none, ap (homes_with x) s.homes, own_step x before e r.0 s ledger))
nowhere_law x before (OfHome i e ∷ ts) after r place ledger none =
    let s : HomeSteps before i e r.0 = r.1 in
    let counts = step_counts x before (OfHome i e) r.0 s ledger in
    let transit = home_transit x before i e r.0 s ledger in
    let sends = sends_append x (home_sends e.reply) (run_sends ts) in
    let dropped = ends_append x (home_ends s.old.home e.stamp.moment e.call) (home_drops e.call) in
    let outs = rows_with x (home_outs e.reply) in
    let ins = rows_with x (home_ins e.call) in
    let same : ins ≡ outs = omega (arith, counts, transit, sends, dropped, none) in
    let still : (ins ≡ 0) × (outs ≡ 0) =
    elim (home_one_way x before i e r.0 s) as (λ _. (ins ≡ 0) × (outs ≡ 0)) [ inl z ↦ (z, omega (arith, z, same)) | inr z ↦ (omega (arith, z, same), z) ] in
    fold-append (after_move x) place (placed_moves e.call e.reply) (run_moves ts)
    ∙ ap (λ (p : Option Place). fold (after_move x) p (run_moves ts)) (event_moves x e.call e.reply place ∙ moved_none outs ins place still.1 still.0)
    ∙ nowhere_law x r.0 ts after r.2 place (ledger_stays before (OfHome i e) r.0 s ledger) (omega (arith, counts, sends, none))

ends_first : (x : MessageId) (e : Ending) (es : List Ending) → ends_with x (e ∷ es) ≡ cond (same_id x e.line) 1 0 + ends_with x es
ends_first x e es = sum_by-cons (λ (f : Ending). cond (same_id x f.line) 1 0) e es

-- what ends others is not listed of this one
listed_other : (x : MessageId) (place : Option Place) (ends : List Ending) → ends_with x ends ≡ 0 → fold (after_move x) place (map placed_of ends) ≡ place
listed_other x place [] none = refl
listed_other x place (e ∷ ends) none =
    elim (same_id x e.line) as (λ v. ends_with x (e ∷ ends) ≡ cond v 1 0 + ends_with x ends → fold (after_move x) (if v then Some (place_after e.cause) else place) (map placed_of ends) ≡ place)
    [ true ↦ (λ q. absurd (omega (arith, q, none))) | false ↦ (λ q. listed_other x place ends (omega (arith, q, none))) ] (ends_first x e ends)

-- of one that ends once its end is listed
listed_once : (x : MessageId) (place : Option Place) (ends : List Ending) (items : List Item) → ends_with x ends ≡ 1 → fold (after_move x) place (map placed_of ends) ≡ Some (first_end x ends items)
listed_once x place [] items once = absurd cc
listed_once x place (e ∷ ends) items once =
    elim (same_id x e.line) as (λ v. ends_with x (e ∷ ends) ≡ cond v 1 0 + ends_with x ends → fold (after_move x) (if v then Some (place_after e.cause) else place) (map placed_of ends) ≡ Some (if v then place_after e.cause else first_end x ends items))
    [ true ↦ (λ q. listed_other x (Some (place_after e.cause)) ends (omega (arith, q, once))) | false ↦ (λ q. listed_once x place ends items (omega (arith, q, once))) ] (ends_first x e ends)

-- one that does not end is within the system
no_end : (x : MessageId) (ends : List Ending) (items : List Item) → ends_with x ends ≡ 0 → first_end x ends items ≡ place_within x items
no_end x [] items none = refl
no_end x (e ∷ ends) items none =
    elim (same_id x e.line) as (λ v. ends_with x (e ∷ ends) ≡ cond v 1 0 + ends_with x ends → (if v then place_after e.cause else first_end x ends items) ≡ place_within x items)
    [ true ↦ (λ q. absurd (omega (arith, q, none))) | false ↦ (λ q. no_end x ends items (omega (arith, q, none))) ] (ends_first x e ends)

listed_law : (x : MessageId) (sends : List MessageId) (moves : List (MessageId × Place)) (ends : List Ending) (items : List Item) → ends_with x ends ≤ sends_with x sends → sends_with x sends ≤ 1
    → (sends_with x sends ≡ 0 → fold (after_move x) None moves ≡ None) → (ends_with x ends ≡ 0 → fold (after_move x) (Some at.InHome) moves ≡ Some (place_within x items))
    → listed_place x sends moves (map placed_of ends) ≡ place_in x sends ends items
listed_law x sends moves ends items fewer once nowhere inside =
    ap (λ (p : Option Place). fold (after_move x) (fold (after_move x) p moves) (map placed_of ends)) (sent_from x None sends)
    ∙ elim (tells (sends_with x sends)) as (λ _. fold (after_move x) (fold (after_move x) (if nat_lt 0 (sends_with x sends) then Some at.InHome else None) moves) (map placed_of ends) ≡ place_in x sends ends items) [
      | inr none ↦ rw none.0 (ap (λ (p : Option Place). fold (after_move x) p (map placed_of ends)) (nowhere none.1) ∙ listed_other x None ends (omega (arith, fewer, none.1)))
      | inl some ↦ rw some.0 (elim (tells (ends_with x ends)) as (λ _. fold (after_move x) (fold (after_move x) (Some at.InHome) moves) (map placed_of ends) ≡ Some (first_end x ends items)) [
        | inr still ↦ listed_other x (fold (after_move x) (Some at.InHome) moves) ends still.1 ∙ inside still.1 ∙ ap Some (sym (no_end x ends items still.1))
        | inl gone ↦ listed_once x (fold (after_move x) (Some at.InHome) moves) ends items (omega (arith, gone.1, fewer, once))
      ])
    ]

-- in homes that were never opened nothing is
nobody_yet : (x : MessageId) (sites : List Site) → homes_with x (map (λ site. record { site = site; home = Unopened }) sites) ≡ 0
nobody_yet x [] = refl
nobody_yet x (site ∷ sites) =
    omega (arith, sum_by-cons (λ (h : HomeAt). rows_with x (rows_of h.home)) (record { site = site; home = Unopened }) (map (λ site. record { site = site; home = Unopened }) sites), nobody_yet x sites)

-- nothing is listed where none was sent
pub no_places : (sends : List MessageId) (ends : List Ending) (items : List Item) → sends ≡ [] → ArePlaces sends ends items []
unfolding IsStrictlySortedBy
no_places sends ends items none = rw none (record { rising = tt; each = λ x. refl })

-- the pass tells where each message is
pub audit_places : (x : MessageId) (o : Opening) (ts : List Tagged) (run : List Tag) → tags_of ts ≡ run → (after : System) (r : RunFrom (opening o) run after) (a : AuditValue) → IsOnePlace o.sites
    → IsSameAudit a (fold (λ (b : AuditValue) (t : Tagged). audit_step b (tag_of t)) no_audit ts) → listed_place x a.sends a.moves a.ends ≡ place_in x (run_sends run) (run_ends (opening o) run after r) after.ledger.items
audit_places x o ts run same after r a one is =
    let before = opening o in
    let once = one_place x o run after r one in
    let found = audit_law before run after r no_audit (λ i h e. rw (opened o.sites i h e) (tt, refl, refl)) in
    let ends = run_ends before run after r in
    let nobody : homes_with x before.homes ≡ 0 = nobody_yet x o.sites in
    let all : AuditValue = fold audit_step no_audit run in
    let pass : IsSameAudit a all = subst (IsSameAudit a) (sym (fold_tags no_audit ts) ∙ ap (fold audit_step no_audit) same) is in
    ap (λ (ids : List MessageId). listed_place x ids a.moves a.ends) pass.sends
    ∙ ap (λ (moves : List (MessageId × Place)). listed_place x all.sends moves a.ends) pass.moves
    ∙ pass.ends x (fold (after_move x) (sent_place x all.sends) all.moves)
    ∙ rw (found.all_sends, found.all_moves, found.all_ends) (listed_law x (run_sends run) (run_moves run) ends after.ledger.items (omega (arith, once.0)) once.1
    (λ none. nowhere_law x before run after r None (opens o.transit) (omega (arith, none, nobody)))
    (λ none. moves_law x before run after r (opens o.transit) (omega (arith, once.1, nobody)) none))
