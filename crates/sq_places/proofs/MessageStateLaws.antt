-- What an event of a home does to one message.
use Rattle.std.proofs.Common.{◌≡◌, ◌≢◌, ℕ, ◌+◌, ◌≤◌, Bool, true, false, not, cond, List, [], ◌∷◌, ◌++◌, map, refl, arith, ap, sym, ◌∙◌, inl, inr, Option, Some, None, append_assoc}
use Rattle.std.specs.Prelude.{◌==◌, ◌&&◌, nat_lt, filter, if◌then◌else◌}
use Rattle.std.proofs.lemmas.Grind.{common_steps}
use Rattle.std.proofs.lemmas.Bool.Decides.{eqb_tells}
use Rattle.std.proofs.lemmas.List.{append-nil}
use Rattle.std.proofs.lemmas.List.Sums.{sum_by-cons}
use Rattle.sq_base.specs.declared.message_id.MessageId.{MessageId}
use Rattle.sq_base.specs.declared.row.Row.{Row}
use Rattle.sq_model.specs.declared.item.Item.{Item}
use Rattle.sq_model.specs.declared.replies.SentMessage.{SentMessage}
use Rattle.sq_model.specs.declared.place.Place.{Place}
use Rattle.sq_model.specs.declared.place.Place.TheVariants as at
use Rattle.sq_model.specs.Rows.{has_serial}
use Rattle.sq_model.specs.Lineages.{Cause, Expired, Dropped, Ending, items_with, same_id, sends_with}
use Rattle.sq_model.specs.Places.{place_after, first_end, place_in}
use Rattle.sq_steps.proofs.FilterLaws.{filter_swap}
use Rattle.sq_places.specs.declared.state.RowState.{RowState}
use Rattle.sq_places.specs.declared.state.Policy.{Policy}
use Rattle.sq_places.specs.declared.message_pass.MessageState.{MessageState}
use Rattle.sq_places.specs.declared.message_pass.MessageState.TheVariants.{Unsent, Here, InTransit, Gone}
use Rattle.sq_places.specs.inside.RowStates.{is_past, state_of, sent_state, state_received, looked, Effect, Stays, Arrives, Looks, Leaves, Departs, Enters, Drops, effect_sends, effect_outs, effect_ins, kept_states, past_states, states_after, ended_states, left_states, state_ends}
use Rattle.sq_places.specs.inside.MessagePasses.{leaves, changes, becomes, unexpired_state, state_after, answer}
use Rattle.sq_places.proofs.StateLaws.{Splits}

abbrev pub mine : MessageId → List RowState → List RowState
mine x rows = filter (λ row. same_id x row.lineage) rows

-- its rows in the home at an index
abbrev pub rows_at : ℕ → MessageState → List RowState
rows_at i Unsent = []
rows_at i (Here j row) = cond (j == i) (row ∷ []) []
rows_at i InTransit = []
rows_at i (Gone place) = []

-- how often it was sent
abbrev pub sent_at : MessageState → ℕ
sent_at Unsent = 0
sent_at (Here i row) = 1
sent_at InTransit = 1
sent_at (Gone place) = 1

-- how often it is in transit
abbrev pub going_at : MessageState → ℕ
going_at Unsent = 0
going_at (Here i row) = 0
going_at InTransit = 1
going_at (Gone place) = 0

-- the place, where this is known, the rest comes, and then these items are in transit
abbrev pub place_from : MessageId → MessageState → List MessageId → List Ending → List Item → Option Place
place_from x Unsent sends ends items = place_in x sends ends items
place_from x (Here i row) sends ends items = Some (first_end x ends items)
place_from x InTransit sends ends items = Some (first_end x ends items)
place_from x (Gone place) sends ends items = Some place

none_within : (n : ℕ) → n ≡ 0 → nat_lt 0 n ≡ false
none_within n e = grind (arith, common_steps, e)

some_within : (n : ℕ) → n ≡ 1 → nat_lt 0 n ≡ true
some_within n e = grind (arith, common_steps, e)

pub place_now : (x : MessageId) (state : MessageState) (items : List Item) → items_with x items ≡ going_at state → place_from x state [] [] items ≡ answer state
place_now x Unsent items e = refl
place_now x (Here i row) items e = ap (λ (v : Bool). Some (if v then at.InTransit else at.InHome)) (none_within (items_with x items) e)
place_now x InTransit items e = ap (λ (v : Bool). Some (if v then at.InTransit else at.InHome)) (some_within (items_with x items) e)
place_now x (Gone place) items e = refl

filter_push : {X : Type 0} (p : X → Bool) (xs : List X) (y : X) → filter p (xs ++ y ∷ []) ≡ filter p xs ++ cond (p y) (y ∷ []) []
filter_push p [] y = refl
filter_push p (x ∷ xs) y = let rest = filter_push p xs y in elim (p x) as (λ v. cond v (x ∷ filter p (xs ++ y ∷ [])) (filter p (xs ++ y ∷ [])) ≡ cond v (x ∷ filter p xs) (filter p xs) ++ cond (p y) (y ∷ []) []) [ true ↦ ap (λ zs. x ∷ zs) rest | false ↦ rest ]

filter_append : {X : Type 0} (p : X → Bool) (xs ys : List X) → filter p (xs ++ ys) ≡ filter p xs ++ filter p ys
filter_append p [] ys = refl
filter_append p (x ∷ xs) ys = let rest = filter_append p xs ys in elim (p x) as (λ v. cond v (x ∷ filter p (xs ++ ys)) (filter p (xs ++ ys)) ≡ cond v (x ∷ filter p xs) (filter p xs) ++ filter p ys) [ true ↦ ap (λ zs. x ∷ zs) rest | false ↦ rest ]

-- an ending of another message
skip_end : (x : MessageId) (e : Ending) (ends : List Ending) (items : List Item) → same_id x e.line ≡ false → first_end x (e ∷ ends) items ≡ first_end x ends items
skip_end x e ends items other = ap (λ (v : Bool). if v then place_after e.cause else first_end x ends items) other

-- none of those that left is of this message
end_other : (x : MessageId) (cause : Cause) (rows : List RowState) (ends : List Ending) (items : List Item) → mine x rows ≡ [] → first_end x (ended_states cause rows ++ ends) items ≡ first_end x ends items
end_other x cause [] ends items none = refl
end_other x cause (row ∷ rows) ends items none =
    elim (same_id x row.lineage) as (λ v. cond v (row ∷ mine x rows) (mine x rows) ≡ [] → (if v then place_after cause else first_end x (ended_states cause rows ++ ends) items) ≡ first_end x ends items)
    [ true ↦ (λ e. cc) | false ↦ (λ e. end_other x cause rows ends items e) ] none

-- one of them is
end_this : (x : MessageId) (cause : Cause) (rows : List RowState) (ends : List Ending) (items : List Item) (r : RowState) → mine x rows ≡ r ∷ [] → first_end x (ended_states cause rows ++ ends) items ≡ place_after cause
end_this x cause [] ends items r some = cc
end_this x cause (row ∷ rows) ends items r some =
    elim (same_id x row.lineage) as (λ v. cond v (row ∷ mine x rows) (mine x rows) ≡ r ∷ [] → (if v then place_after cause else first_end x (ended_states cause rows ++ ends) items) ≡ place_after cause)
    [ true ↦ (λ e. refl) | false ↦ (λ e. end_this x cause rows ends items r e) ] some

-- seen from its own home, and from another one
one_leaves : (i : ℕ) (state : MessageState) (p : RowState → Bool) (place : Place) → filter (λ row. not (p row)) (rows_at i state) ≡ rows_at i (leaves i p place state)
one_leaves i Unsent p place = refl
one_leaves i InTransit p place = refl
one_leaves i (Gone other) p place = refl
one_leaves i (Here j row) p place =
    elim (eqb_tells j i) as (λ _. filter (λ r. not (p r)) (rows_at i (Here j row)) ≡ rows_at i (leaves i p place (Here j row))) [
      | inl q ↦ rw q.0 (elim (p row) as (λ v. cond (not v) (row ∷ []) [] ≡ rows_at i (if v then Gone place else Here j row)) [ true ↦ refl | false ↦ rw q.0 refl ])
      | inr q ↦ rw (q.0, q.0) refl
    ]

-- from another home nothing is seen of it
leaves_others : (i : ℕ) (state : MessageState) (p : RowState → Bool) (place : Place) (k : ℕ) → i ≢ k → rows_at k (leaves i p place state) ≡ rows_at k state
leaves_others i Unsent p place k ne = refl
leaves_others i InTransit p place k ne = refl
leaves_others i (Gone other) p place k ne = refl
leaves_others i (Here j row) p place k ne =
    elim (eqb_tells j i) as (λ _. rows_at k (leaves i p place (Here j row)) ≡ rows_at k (Here j row)) [
      | inl q ↦ elim (eqb_tells j k) as (λ _. rows_at k (leaves i p place (Here j row)) ≡ rows_at k (Here j row)) [
        | inl same ↦ absurd (ne (sym q.1 ∙ same.1))
        | inr other ↦ rw (q.0, other.0) (elim (p row) as (λ v. rows_at k (if v then Gone place else Here j row) ≡ []) [ true ↦ refl | false ↦ rw other.0 refl ])
      ]
      | inr q ↦ rw q.0 refl
    ]

-- those that pass leave, and what is known of the message goes with them
leave_rows : (x : MessageId) (i : ℕ) (rows : List RowState) (state : MessageState) (p : RowState → Bool) (place : Place) → mine x rows ≡ rows_at i state → mine x (filter (λ row. not (p row)) rows) ≡ rows_at i (leaves i p place state)
leave_rows x i rows state p place same =
    filter_swap (λ row. same_id x row.lineage) (λ row. not (p row)) rows ∙ ap (filter (λ (row : RowState). not (p row))) same ∙ one_leaves i state p place

none_here : (x : MessageId) (p : RowState → Bool) (rows : List RowState) → mine x rows ≡ [] → mine x (filter p rows) ≡ []
none_here x p rows none = filter_swap (λ row. same_id x row.lineage) p rows ∙ ap (filter p) none

leave_place : (x : MessageId) (i : ℕ) (rows : List RowState) (state : MessageState) (p : RowState → Bool) (cause : Cause) (sends : List MessageId) (ends : List Ending) (items : List Item) → mine x rows ≡ rows_at i state
    → place_from x state sends (ended_states cause (filter p rows) ++ ends) items ≡ place_from x (leaves i p (place_after cause) state) sends ends items
leave_place x i rows Unsent p cause sends ends items same = rw (end_other x cause (filter p rows) ends items (none_here x p rows same)) refl
leave_place x i rows InTransit p cause sends ends items same = ap Some (end_other x cause (filter p rows) ends items (none_here x p rows same))
leave_place x i rows (Gone other) p cause sends ends items same = refl
leave_place x i rows (Here j row) p cause sends ends items same =
    elim (eqb_tells j i) as (λ _. Some (first_end x (ended_states cause (filter p rows) ++ ends) items) ≡ place_from x (leaves i p (place_after cause) (Here j row)) sends ends items) [
      | inl q ↦ rw q.0 (
          let whole : mine x rows ≡ row ∷ [] = same ∙ ap (λ (v : Bool). cond v (row ∷ []) []) q.0 in
          let some : mine x (filter p rows) ≡ cond (p row) (row ∷ []) [] = filter_swap (λ r. same_id x r.lineage) p rows ∙ ap (filter p) whole in
          elim (p row) as (λ v. mine x (filter p rows) ≡ cond v (row ∷ []) [] → Some (first_end x (ended_states cause (filter p rows) ++ ends) items) ≡ place_from x (if v then Gone (place_after cause) else Here j row) sends ends items)
          [ true ↦ (λ e. ap Some (end_this x cause (filter p rows) ends items row e)) | false ↦ (λ e. ap Some (end_other x cause (filter p rows) ends items e)) ] some)
      | inr q ↦ rw q.0 (ap Some (end_other x cause (filter p rows) ends items (none_here x p rows (same ∙ ap (λ (v : Bool). cond v (row ∷ []) []) q.0))))
    ]

sent_leaves : (i : ℕ) (state : MessageState) (p : RowState → Bool) (place : Place) → sent_at (leaves i p place state) ≡ sent_at state
sent_leaves i Unsent p place = refl
sent_leaves i InTransit p place = refl
sent_leaves i (Gone other) p place = refl
sent_leaves i (Here j row) p place = elim ((j == i) && p row) as (λ v. sent_at (if v then Gone place else Here j row) ≡ 1) [ true ↦ refl | false ↦ refl ]

going_leaves : (i : ℕ) (state : MessageState) (p : RowState → Bool) (place : Place) → going_at (leaves i p place state) ≡ going_at state
going_leaves i Unsent p place = refl
going_leaves i InTransit p place = refl
going_leaves i (Gone other) p place = refl
going_leaves i (Here j row) p place = elim ((j == i) && p row) as (λ v. going_at (if v then Gone place else Here j row) ≡ 0) [ true ↦ refl | false ↦ refl ]

expire_rows : (x : MessageId) (i : ℕ) (policy : Option Policy) (m : ℕ) (rows : List RowState) (state : MessageState) → mine x rows ≡ rows_at i state → mine x (kept_states policy m rows) ≡ rows_at i (unexpired_state i policy m state)
expire_rows x i None m rows state same = same
expire_rows x i (Some policy) m rows state same = leave_rows x i rows state (is_past policy.retention m) (place_after Expired) same

expire_others : (i : ℕ) (policy : Option Policy) (m : ℕ) (state : MessageState) (k : ℕ) → i ≢ k → rows_at k (unexpired_state i policy m state) ≡ rows_at k state
expire_others i None m state k ne = refl
expire_others i (Some policy) m state k ne = leaves_others i state (is_past policy.retention m) at.Expired k ne

expire_place : (x : MessageId) (i : ℕ) (policy : Option Policy) (m : ℕ) (rows : List RowState) (state : MessageState) (sends : List MessageId) (ends : List Ending) (items : List Item) → mine x rows ≡ rows_at i state
    → place_from x state sends (ended_states Expired (past_states policy m rows) ++ ends) items ≡ place_from x (unexpired_state i policy m state) sends ends items
expire_place x i None m rows state sends ends items same = refl
expire_place x i (Some policy) m rows state sends ends items same = leave_place x i rows state (is_past policy.retention m) Expired sends ends items same

sent_unexpired : (i : ℕ) (policy : Option Policy) (m : ℕ) (state : MessageState) → sent_at (unexpired_state i policy m state) ≡ sent_at state
sent_unexpired i None m state = refl
sent_unexpired i (Some policy) m state = sent_leaves i state (is_past policy.retention m) (place_after Expired)

going_unexpired : (i : ℕ) (policy : Option Policy) (m : ℕ) (state : MessageState) → going_at (unexpired_state i policy m state) ≡ going_at state
going_unexpired i None m state = refl
going_unexpired i (Some policy) m state = going_leaves i state (is_past policy.retention m) (place_after Expired)

sent_changes : (i : ℕ) (f : RowState → RowState) (state : MessageState) → sent_at (changes i f state) ≡ sent_at state
sent_changes i f Unsent = refl
sent_changes i f InTransit = refl
sent_changes i f (Gone place) = refl
sent_changes i f (Here j row) = elim (j == i) as (λ v. sent_at (if v then Here j (f row) else Here j row) ≡ 1) [ true ↦ refl | false ↦ refl ]

going_changes : (i : ℕ) (f : RowState → RowState) (state : MessageState) → going_at (changes i f state) ≡ going_at state
going_changes i f Unsent = refl
going_changes i f InTransit = refl
going_changes i f (Gone place) = refl
going_changes i f (Here j row) = elim (j == i) as (λ v. going_at (if v then Here j (f row) else Here j row) ≡ 0) [ true ↦ refl | false ↦ refl ]

rows_change : (i : ℕ) (f : RowState → RowState) (state : MessageState) → map f (rows_at i state) ≡ rows_at i (changes i f state)
rows_change i f Unsent = refl
rows_change i f InTransit = refl
rows_change i f (Gone place) = refl
rows_change i f (Here j row) =
    elim (eqb_tells j i) as (λ _. map f (rows_at i (Here j row)) ≡ rows_at i (changes i f (Here j row))) [ inl q ↦ rw (q.0, q.0) refl | inr q ↦ rw (q.0, q.0) refl ]

others_change : (i : ℕ) (f : RowState → RowState) (state : MessageState) (k : ℕ) → i ≢ k → rows_at k (changes i f state) ≡ rows_at k state
others_change i f Unsent k ne = refl
others_change i f InTransit k ne = refl
others_change i f (Gone place) k ne = refl
others_change i f (Here j row) k ne =
    elim (eqb_tells j i) as (λ _. rows_at k (changes i f (Here j row)) ≡ rows_at k (Here j row)) [
      | inl q ↦ elim (eqb_tells j k) as (λ _. rows_at k (changes i f (Here j row)) ≡ rows_at k (Here j row)) [
        | inl same ↦ absurd (ne (sym q.1 ∙ same.1))
        | inr other ↦ rw (q.0, other.0) refl
      ]
      | inr q ↦ rw q.0 refl
    ]

place_change : (x : MessageId) (i : ℕ) (f : RowState → RowState) (state : MessageState) (sends : List MessageId) (ends : List Ending) (items : List Item) → place_from x state sends ends items ≡ place_from x (changes i f state) sends ends items
place_change x i f Unsent sends ends items = refl
place_change x i f InTransit sends ends items = refl
place_change x i f (Gone place) sends ends items = refl
place_change x i f (Here j row) sends ends items = elim (j == i) as (λ v. Some (first_end x ends items) ≡ place_from x (if v then Here j (f row) else Here j row) sends ends items) [ true ↦ refl | false ↦ refl ]

looked_line : (picked : List Row) (row : RowState) → (looked picked row).lineage ≡ row.lineage
looked_line picked row =
    elim (has_serial row.serial picked) as (λ b. (if b then state_received row else row).lineage ≡ row.lineage) [
      | true ↦ elim (nat_lt row.receives 4294967295) as (λ b. (if b then record row { receives = row.receives + 1 } else row).lineage ≡ row.lineage) [ true ↦ refl | false ↦ refl ]
      | false ↦ refl
    ]

mine_looked : (x : MessageId) (picked : List Row) (rows : List RowState) → mine x (map (looked picked) rows) ≡ map (looked picked) (mine x rows)
mine_looked x picked [] = refl
mine_looked x picked (row ∷ rows) =
    let rest = mine_looked x picked rows in
    rw looked_line (elim (same_id x row.lineage) as (λ v. cond v (looked picked row ∷ mine x (map (looked picked) rows)) (mine x (map (looked picked) rows)) ≡ map (looked picked) (cond v (row ∷ mine x rows) (mine x rows)))
    [ true ↦ ap (λ zs. looked picked row ∷ zs) rest | false ↦ rest ])

-- what an event of the home at an index makes of a message that has not expired
pub record Follows (x : MessageId) (i m : ℕ) (effect : Effect) (rows : List RowState) (state next : MessageState) : Type 0 where
  pub left : mine x (states_after m effect rows) ≡ rows_at i next
  pub others : (k : ℕ) → i ≢ k → rows_at k next ≡ rows_at k state
  pub place : (sends : List MessageId) (ends : List Ending) (items : List Item) → place_from x state (effect_sends effect ++ sends) (left_states effect rows ++ ends) items ≡ place_from x next sends ends items
  pub sent : sent_at next ≡ sends_with x (effect_sends effect) + sent_at state
  pub going : going_at next + sends_with x (effect_ins effect) ≡ going_at state + sends_with x (effect_outs effect)

pub sends_first : (x y : MessageId) (sends : List MessageId) → sends_with x (y ∷ sends) ≡ cond (same_id x y) 1 0 + sends_with x sends
sends_first x y sends = sum_by-cons (λ (z : MessageId). cond (same_id x z) 1 0) y sends

-- one of a list of one
one_this : (x y : MessageId) → same_id x y ≡ true → sends_with x (y ∷ []) ≡ 1
one_this x y e = let one = ap (λ (v : Bool). cond {A = ℕ} v 1 0) e in omega (arith, sends_first x y [], one)

one_other : (x y : MessageId) → same_id x y ≡ false → sends_with x (y ∷ []) ≡ 0
one_other x y e = let none = ap (λ (v : Bool). cond {A = ℕ} v 1 0) e in omega (arith, sends_first x y [], none)

above_none : (n : ℕ) → nat_lt 0 (1 + n) ≡ true
above_none n = grind (arith, common_steps)

sent_this : (x y : MessageId) (sends : List MessageId) (ends : List Ending) (items : List Item) → same_id x y ≡ true → place_in x (y ∷ sends) ends items ≡ Some (first_end x ends items)
sent_this x y sends ends items e = rw (sends_first x y sends, e, above_none (sends_with x sends)) refl

sent_other : (x y : MessageId) (state : MessageState) (sends : List MessageId) (ends : List Ending) (items : List Item) → same_id x y ≡ false → place_from x state (y ∷ sends) ends items ≡ place_from x state sends ends items
sent_other x y Unsent sends ends items e =
    let none = ap (λ (v : Bool). cond {A = ℕ} v 1 0) e in
    let same : sends_with x (y ∷ sends) ≡ sends_with x sends = omega (arith, sends_first x y sends, none) in
    ap (λ (k : ℕ). if nat_lt 0 k then Some (first_end x ends items) else None) same
sent_other x y (Here i row) sends ends items e = refl
sent_other x y InTransit sends ends items e = refl
sent_other x y (Gone place) sends ends items e = refl

pub same_home_row : (i : ℕ) (row : RowState) → rows_at i (Here i row) ≡ row ∷ []
same_home_row i row = elim (eqb_tells i i) as (λ _. cond (i == i) (row ∷ []) [] ≡ row ∷ []) [ inl q ↦ rw q.0 refl | inr q ↦ absurd (q.1 refl) ]

other_home_row : (i k : ℕ) (row : RowState) → i ≢ k → rows_at k (Here i row) ≡ []
other_home_row i k row ne = elim (eqb_tells i k) as (λ _. cond (i == k) (row ∷ []) [] ≡ []) [ inl q ↦ absurd (ne q.1) | inr q ↦ rw q.0 refl ]

-- where a message comes that was in no home
push_this : (x : MessageId) (rows : List RowState) (row : RowState) → mine x rows ≡ [] → same_id x row.lineage ≡ true → mine x (rows ++ row ∷ []) ≡ row ∷ []
push_this x rows row none e = filter_push (λ (r : RowState). same_id x r.lineage) rows row ∙ ap (λ (rs : List RowState). rs ++ cond (same_id x row.lineage) (row ∷ []) []) none ∙ ap (λ (v : Bool). cond v (row ∷ []) []) e

push_other : (x : MessageId) (rows : List RowState) (row : RowState) → same_id x row.lineage ≡ false → mine x (rows ++ row ∷ []) ≡ mine x rows
push_other x rows row e = filter_push (λ (r : RowState). same_id x r.lineage) rows row ∙ ap (λ (v : Bool). mine x rows ++ cond v (row ∷ []) []) e ∙ append-nil (mine x rows)

arrive_this : (x : MessageId) (i m : ℕ) (sent : SentMessage) (rows : List RowState) (state : MessageState) → mine x rows ≡ rows_at i state → sends_with x (sent.id ∷ []) + sent_at state ≤ 1 → same_id x sent.id ≡ true → Follows x i m (Arrives sent) rows state (Here i (sent_state sent m))
arrive_this x i m sent rows Unsent same once e = record {
  left = push_this x rows (sent_state sent m) same e ∙ sym (same_home_row i (sent_state sent m));
  others = λ k ne. other_home_row i k (sent_state sent m) ne;
  place = λ sends ends items. sent_this x sent.id sends ends items e;
  sent = omega (arith, one_this x sent.id e);
  going = omega arith;
}
arrive_this x i m sent rows (Here j row) same once e = absurd (omega (arith, one_this x sent.id e, once))
arrive_this x i m sent rows InTransit same once e = absurd (omega (arith, one_this x sent.id e, once))
arrive_this x i m sent rows (Gone place) same once e = absurd (omega (arith, one_this x sent.id e, once))

arrive_other : (x : MessageId) (i m : ℕ) (sent : SentMessage) (rows : List RowState) (state : MessageState) → mine x rows ≡ rows_at i state → same_id x sent.id ≡ false → Follows x i m (Arrives sent) rows state state
arrive_other x i m sent rows state same e = record {
  left = push_other x rows (sent_state sent m) e ∙ same;
  others = λ k ne. refl;
  place = λ sends ends items. sent_other x sent.id state sends ends items e;
  sent = omega (arith, one_other x sent.id e);
  going = omega arith;
}

-- of rows of which one is this message's
in_rows : (x : MessageId) (b a : List RowState) (row : RowState) → same_id x row.lineage ≡ true → mine x (b ++ row ∷ a) ≡ mine x b ++ row ∷ mine x a
in_rows x b a row e = filter_append (λ (r : RowState). same_id x r.lineage) b (row ∷ a) ∙ ap (λ (v : Bool). mine x b ++ cond v (row ∷ mine x a) (mine x a)) e

not_in_rows : (x : MessageId) (b a : List RowState) (row : RowState) → same_id x row.lineage ≡ false → mine x (b ++ row ∷ a) ≡ mine x (b ++ a)
not_in_rows x b a row e =
    filter_append (λ (r : RowState). same_id x r.lineage) b (row ∷ a) ∙ ap (λ (v : Bool). mine x b ++ cond v (row ∷ mine x a) (mine x a)) e ∙ sym (filter_append (λ (r : RowState). same_id x r.lineage) b a)

only_one : (b a : List RowState) (row r : RowState) → b ++ row ∷ a ≡ r ∷ [] → b ++ a ≡ []
only_one [] [] row r e = refl
only_one [] (y ∷ a) row r e = absurd cc
only_one (z ∷ []) a row r e = absurd cc
only_one (z ∷ y ∷ b) a row r e = absurd cc

not_none : (b a : List RowState) (row : RowState) → b ++ row ∷ a ≡ [] → ⊥
not_none [] a row e = absurd cc
not_none (z ∷ b) a row e = absurd cc

depart_this : (x : MessageId) (i m : ℕ) (row : Row) (rows : List RowState) (state : MessageState) → mine x rows ≡ rows_at i state → Splits (Departs row) rows → same_id x row.lineage ≡ true → Follows x i m (Departs row) rows state InTransit
depart_this x i m row rows Unsent same split e = absurd (not_none (mine x split.0) (mine x split.1) (state_of row) (sym (in_rows x split.0 split.1 (state_of row) e) ∙ ap (mine x) (sym split.2) ∙ same))
depart_this x i m row rows InTransit same split e = absurd (not_none (mine x split.0) (mine x split.1) (state_of row) (sym (in_rows x split.0 split.1 (state_of row) e) ∙ ap (mine x) (sym split.2) ∙ same))
depart_this x i m row rows (Gone place) same split e = absurd (not_none (mine x split.0) (mine x split.1) (state_of row) (sym (in_rows x split.0 split.1 (state_of row) e) ∙ ap (mine x) (sym split.2) ∙ same))
depart_this x i m row rows (Here j r) same split e =
    let all : mine x split.0 ++ state_of row ∷ mine x split.1 ≡ rows_at i (Here j r) = sym (in_rows x split.0 split.1 (state_of row) e) ∙ ap (mine x) (sym split.2) ∙ same in
    elim (eqb_tells j i) as (λ _. Follows x i m (Departs row) rows (Here j r) InTransit) [
      | inl q ↦ record {
        left = ap (mine x) split.3 ∙ filter_append (λ (s : RowState). same_id x s.lineage) split.0 split.1 ∙ only_one (mine x split.0) (mine x split.1) (state_of row) r (all ∙ ap (λ (v : Bool). cond v (r ∷ []) []) q.0);
        others = λ k ne. sym (other_home_row j k r (λ s. ne (sym q.1 ∙ s)));
        place = λ sends ends items. refl;
        sent = omega arith;
        going = omega (arith, one_this x row.lineage e);
      }
      | inr q ↦ absurd (not_none (mine x split.0) (mine x split.1) (state_of row) (all ∙ ap (λ (v : Bool). cond v (r ∷ []) []) q.0))
    ]

depart_other : (x : MessageId) (i m : ℕ) (row : Row) (rows : List RowState) (state : MessageState) → mine x rows ≡ rows_at i state → Splits (Departs row) rows → same_id x row.lineage ≡ false → Follows x i m (Departs row) rows state state
depart_other x i m row rows state same split e = record {
  left = ap (mine x) split.3 ∙ sym (not_in_rows x split.0 split.1 (state_of row) e) ∙ ap (mine x) (sym split.2) ∙ same;
  others = λ k ne. refl;
  place = λ sends ends items. refl;
  sent = omega arith;
  going = omega (arith, one_other x row.lineage e);
}

enter_this : (x : MessageId) (i m : ℕ) (row : RowState) (rows : List RowState) (state : MessageState) → mine x rows ≡ rows_at i state → sends_with x (row.lineage ∷ []) ≤ going_at state → same_id x row.lineage ≡ true → Follows x i m (Enters row) rows state (Here i row)
enter_this x i m row rows InTransit same coming e = record {
  left = push_this x rows row same e ∙ sym (same_home_row i row);
  others = λ k ne. other_home_row i k row ne;
  place = λ sends ends items. refl;
  sent = omega arith;
  going = omega (arith, one_this x row.lineage e);
}
enter_this x i m row rows Unsent same coming e = absurd (omega (arith, one_this x row.lineage e, coming))
enter_this x i m row rows (Here j r) same coming e = absurd (omega (arith, one_this x row.lineage e, coming))
enter_this x i m row rows (Gone place) same coming e = absurd (omega (arith, one_this x row.lineage e, coming))

enter_other : (x : MessageId) (i m : ℕ) (row : RowState) (rows : List RowState) (state : MessageState) → mine x rows ≡ rows_at i state → same_id x row.lineage ≡ false → Follows x i m (Enters row) rows state state
enter_other x i m row rows state same e = record {
  left = push_other x rows row e ∙ same;
  others = λ k ne. refl;
  place = λ sends ends items. refl;
  sent = omega arith;
  going = omega (arith, one_other x row.lineage e);
}

drop_this : (x : MessageId) (i m : ℕ) (line : MessageId) (rows : List RowState) (state : MessageState) → mine x rows ≡ rows_at i state → sends_with x (line ∷ []) ≤ going_at state → same_id x line ≡ true → Follows x i m (Drops line) rows state (Gone at.Dropped)
drop_this x i m line rows InTransit same coming e = record {
  left = same;
  others = λ k ne. refl;
  place = λ sends ends items. ap (λ (v : Bool). Some (if v then place_after Dropped else first_end x ends items)) e;
  sent = omega arith;
  going = omega (arith, one_this x line e);
}
drop_this x i m line rows Unsent same coming e = absurd (omega (arith, one_this x line e, coming))
drop_this x i m line rows (Here j r) same coming e = absurd (omega (arith, one_this x line e, coming))
drop_this x i m line rows (Gone place) same coming e = absurd (omega (arith, one_this x line e, coming))

drop_place : (x line : MessageId) (state : MessageState) (sends : List MessageId) (ends : List Ending) (items : List Item) → same_id x line ≡ false → place_from x state sends (record { line = line; cause = Dropped } ∷ ends) items ≡ place_from x state sends ends items
drop_place x line Unsent sends ends items e = rw (skip_end x (record { line = line; cause = Dropped }) ends items e) refl
drop_place x line (Here i row) sends ends items e = ap Some (skip_end x (record { line = line; cause = Dropped }) ends items e)
drop_place x line InTransit sends ends items e = ap Some (skip_end x (record { line = line; cause = Dropped }) ends items e)
drop_place x line (Gone place) sends ends items e = refl

drop_other : (x : MessageId) (i m : ℕ) (line : MessageId) (rows : List RowState) (state : MessageState) → mine x rows ≡ rows_at i state → same_id x line ≡ false → Follows x i m (Drops line) rows state state
drop_other x i m line rows state same e = record {
  left = same;
  others = λ k ne. refl;
  place = λ sends ends items. drop_place x line state sends ends items e;
  sent = omega arith;
  going = omega (arith, one_other x line e);
}

-- either it is this message's event, or another's
by_line : (x line : MessageId) (i m : ℕ) (effect : Effect) (rows : List RowState) (state next : MessageState) → (same_id x line ≡ true → Follows x i m effect rows state next) → (same_id x line ≡ false → Follows x i m effect rows state state)
    → Follows x i m effect rows state (becomes x line next state)
by_line x line i m effect rows state next this other =
    elim (same_id x line) as (λ v. same_id x line ≡ v → Follows x i m effect rows state (if v then next else state)) [ true ↦ this | false ↦ other ] refl

follows_effect : (x : MessageId) (i m : ℕ) (effect : Effect) (rows : List RowState) (state : MessageState) → mine x rows ≡ rows_at i state → sends_with x (effect_sends effect) + sent_at state ≤ 1 → sends_with x (effect_ins effect) ≤ going_at state → Splits effect rows
    → Follows x i m effect rows state (state_after x i m effect state)
follows_effect x i m Stays rows state same once coming split = record { left = same; others = λ k ne. refl; place = λ sends ends items. refl; sent = omega arith; going = refl }
follows_effect x i m (Arrives sent) rows state same once coming split =
    by_line x sent.id i m (Arrives sent) rows state (Here i (sent_state sent m)) (arrive_this x i m sent rows state same once) (arrive_other x i m sent rows state same)
follows_effect x i m (Looks picked) rows state same once coming split = record {
  left = mine_looked x picked rows ∙ ap (map (looked picked)) same ∙ rows_change i (looked picked) state;
  others = λ k ne. others_change i (looked picked) state k ne;
  place = λ sends ends items. place_change x i (looked picked) state sends ends items;
  sent = omega (arith, sent_changes i (looked picked) state);
  going = omega (arith, going_changes i (looked picked) state);
}
follows_effect x i m (Leaves p cause) rows state same once coming split = record {
  left = leave_rows x i rows state p (place_after cause) same;
  others = λ k ne. leaves_others i state p (place_after cause) k ne;
  place = λ sends ends items. leave_place x i rows state p cause sends ends items same;
  sent = omega (arith, sent_leaves i state p (place_after cause));
  going = omega (arith, going_leaves i state p (place_after cause));
}
follows_effect x i m (Departs row) rows state same once coming split =
    by_line x row.lineage i m (Departs row) rows state InTransit (depart_this x i m row rows state same split) (depart_other x i m row rows state same split)
follows_effect x i m (Enters row) rows state same once coming split =
    by_line x row.lineage i m (Enters row) rows state (Here i row) (enter_this x i m row rows state same coming) (enter_other x i m row rows state same)
follows_effect x i m (Drops line) rows state same once coming split =
    by_line x line i m (Drops line) rows state (Gone at.Dropped) (drop_this x i m line rows state same coming) (drop_other x i m line rows state same)

-- what an event makes of a message
pub record FollowsEvent (x : MessageId) (i : ℕ) (policy : Option Policy) (m : ℕ) (effect : Effect) (rows : List RowState) (state next : MessageState) : Type 0 where
  pub left : mine x (states_after m effect (kept_states policy m rows)) ≡ rows_at i next
  pub others : (k : ℕ) → i ≢ k → rows_at k next ≡ rows_at k state
  pub place : (sends : List MessageId) (ends : List Ending) (items : List Item) → place_from x state (effect_sends effect ++ sends) (state_ends policy m effect rows ++ ends) items ≡ place_from x next sends ends items
  pub sent : sent_at next ≡ sends_with x (effect_sends effect) + sent_at state
  pub going : going_at next + sends_with x (effect_ins effect) ≡ going_at state + sends_with x (effect_outs effect)

pub follows_event : (x : MessageId) (i : ℕ) (policy : Option Policy) (m : ℕ) (effect : Effect) (rows : List RowState) (state : MessageState) → mine x rows ≡ rows_at i state → sends_with x (effect_sends effect) + sent_at state ≤ 1 → sends_with x (effect_ins effect) ≤ going_at state → Splits effect (kept_states policy m rows)
    → FollowsEvent x i policy m effect rows state (state_after x i m effect (unexpired_state i policy m state))
follows_event x i policy m effect rows state same once coming split =
    let kept = expire_rows x i policy m rows state same in
    let after = follows_effect x i m effect (kept_states policy m rows) (unexpired_state i policy m state) kept (omega (arith, once, sent_unexpired i policy m state)) (omega (arith, coming, going_unexpired i policy m state)) split in
    record {
      left = after.left;
      others = λ k ne. after.others k ne ∙ expire_others i policy m state k ne;
      place = λ sends ends items. rw (append_assoc (ended_states Expired (past_states policy m rows)) (left_states effect (kept_states policy m rows)) ends)
          (expire_place x i policy m rows state (effect_sends effect ++ sends) (left_states effect (kept_states policy m rows) ++ ends) items same ∙ after.place sends ends items);
      sent = omega (arith, after.sent, sent_unexpired i policy m state);
      going = omega (arith, after.going, going_unexpired i policy m state);
    }
