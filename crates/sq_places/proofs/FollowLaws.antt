-- The pass over a run gives the place of a message.
use Rattle.std.proofs.Common.{◌≡◌, ◌≢◌, ℕ, zero, suc, ◌+◌, ◌<◌, ◌≤◌, Bool, true, false, cond, List, [], ◌∷◌, ◌++◌, length, map, take, refl, arith, ap, sym, ◌∙◌, subst, inl, inr, Option, Some, None, slice_get, slice_set, get_or, append_assoc}
use Rattle.std.specs.Prelude.{◌⊎◌, ◌==◌, if◌then◌else◌}
use Rattle.std.specs.List.{fold}
use Rattle.std.proofs.lemmas.Bool.Decides.{eqb_tells}
use Rattle.std.proofs.lemmas.List.{append-nil, map-append, take_more}
use Rattle.std.proofs.lemmas.List.Sums.{sum_by-cons, fold-append}
use Rattle.sq_base.specs.declared.message_id.MessageId.{MessageId}
use Rattle.sq_base.specs.declared.row.Row.{Row}
use Rattle.sq_model.specs.declared.place.Site.{Site}
use Rattle.sq_model.specs.declared.calls.HomeCall.{HomeCall}
use Rattle.sq_model.specs.declared.replies.HomeReply.{HomeReply}
use Rattle.sq_model.specs.Homes.{Home, Unopened, IsRising}
use Rattle.sq_model.specs.Ledgers.{Ledger, LedgerEvent, IsLedger}
use Rattle.sq_model.specs.Lineages.{Ending, home_drops, home_ends, home_ins, home_outs, home_sends, items_with, rows_of, same_id, rows_with, ends_with, sends_with}
use Rattle.sq_model.specs.Places.{homes_with, place_in, run_ends, run_sends, step_ends, tag_sends}
use Rattle.sq_model.specs.Replays.{HomeEvent}
use Rattle.sq_model.specs.Systems.{HomeAt, HomeSteps, System, Tag, OfDirectory, OfLedger, OfHome, IsStep, LedgerGoes, RunFrom, opening, IsOnePlace, is_alone, Opening}
use Rattle.sq_model.specs.declared.ledger.LedgerCall.TheVariants as asks
use Rattle.sq_model.specs.declared.ledger.LedgerReply.TheVariants as answers
use Rattle.sq_laws.proofs.LedgerLaws.{opens}
use Rattle.sq_laws.proofs.LedgerSteps.{step_keeps}
use Rattle.sq_laws.proofs.LineageLaws.{home_law, ends_append}
use Rattle.sq_laws.proofs.SystemLaws.{one_place, run_law, sends_append, sum_set}
use Rattle.sq_audit.specs.declared.tagged.Tagged.{Tagged}
use Rattle.sq_audit.specs.Tags.{tag_of, tags_of}
use Rattle.sq_places.specs.declared.state.Policy.{Policy}
use Rattle.sq_places.specs.declared.state.RowState.{RowState}
use Rattle.sq_places.specs.declared.message_pass.MessageState.{MessageState}
use Rattle.sq_places.specs.declared.message_pass.MessageState.TheVariants.{Unsent, Here, InTransit, Gone}
use Rattle.sq_places.specs.declared.message_pass.MessagePass.{MessagePass}
use Rattle.sq_places.specs.inside.RowStates.{next_policy, states_of, Effect, Stays, Arrives, Looks, Leaves, Departs, Enters, Drops, effect_of, effect_sends, effect_outs, effect_ins}
use Rattle.sq_places.specs.inside.MessagePasses.{policy_step, policy_at, unexpired_state, state_after, is_state_in, known_policy, next_state, next_pass, pass_step, pass_from, pass_start, answer}
use Rattle.sq_model.proofs.ElementLaws.{get_same, get_other}
use Rattle.sq_places.proofs.StateLaws.{GoesBy, Passes, mirrors, passes}
use Rattle.sq_places.proofs.MessageStateLaws.{mine, rows_at, sent_at, going_at, place_from, place_now, same_home_row, FollowsEvent, follows_event}

-- ---- the passes, event by event

fold_more : {A X : Type 0} (f : A → X → A) (a : A) (xs : List X) (x : X) → fold f a (xs ++ x ∷ []) ≡ f (fold f a xs) x
fold_more f a xs x = fold-append f a xs (x ∷ [])

-- what a home goes by after one event more
policy_more : (i : ℕ) (ts : List Tag) (t : Tag) → policy_at i (ts ++ t ∷ []) ≡ policy_step i (policy_at i ts) t
policy_more i ts t = fold_more (policy_step i) None ts t

pass_more : (x : MessageId) (before : List Tag) (k : MessagePass) (ts : List Tag) (t : Tag) → pass_from x before k (ts ++ t ∷ []) ≡ pass_step x (before ++ ts) (pass_from x before k ts) t
pass_more x before k [] t = ap (λ (us : List Tag). pass_step x us k t) (sym (append-nil before))
pass_more x before k (u ∷ ts) t =
    pass_more x (before ++ u ∷ []) (pass_step x before k u) ts t ∙ ap (λ (us : List Tag). pass_step x us (pass_from x (before ++ u ∷ []) (pass_step x before k u) ts) t) (append_assoc before (u ∷ []) ts)

-- the pass up to one event more
pub pass_next : (x : MessageId) (ts : List Tagged) (i : ℕ) (t : Tagged) → i < length ts → t ≡ get_or ts i t
    → pass_from x [] pass_start (tags_of (take (i + 1) ts)) ≡ pass_step x (tags_of (take i ts)) (pass_from x [] pass_start (tags_of (take i ts))) (tag_of t)
pass_next x ts i t lt is =
    ap (λ (us : List Tagged). pass_from x [] pass_start (tags_of us)) (take_more ts i t lt)
    ∙ ap (λ (u : Tagged). pass_from x [] pass_start (tags_of (take i ts ++ u ∷ []))) (sym is)
    ∙ ap (pass_from x [] pass_start) (map-append tag_of (take i ts) (t ∷ []))
    ∙ pass_more x [] pass_start (tags_of (take i ts)) (tag_of t)

-- ---- one step of the system on the messages in transit

goes_keeps : (alone : Bool) (l : Ledger) (old : HomeAt) (e : HomeEvent) (after : Ledger) → LedgerGoes alone l old.site.home e after → IsLedger l → IsLedger after
goes_keeps true l old e after goes h = subst IsLedger (sym goes) h
goes_keeps false l old e after goes h = step_keeps l e.stamp.moment (asks.AtHome old.site.home e.call) (answers.AtHome e.reply) after goes h

pub ledger_stays : (before : System) (t : Tag) (after : System) → IsStep before t after → IsLedger before.ledger → IsLedger after.ledger
ledger_stays before (OfDirectory e) after s h = subst IsLedger (sym s.ledger) h
ledger_stays before (OfLedger e) after s h = step_keeps before.ledger e.stamp.moment e.call e.reply after.ledger s.step h
ledger_stays before (OfHome i e) after s h = goes_keeps (is_alone e.call) before.ledger s.old e after.ledger s.ledger h

-- a step of the ledger's own brings none in and takes none out
pub own_step : (x : MessageId) (before : System) (e : LedgerEvent) (after : System) (s : IsStep before (OfLedger e) after) → IsLedger before.ledger → items_with x after.ledger.items ≡ items_with x before.ledger.items
own_step x before e after s h =
    let law : homes_with x after.homes + items_with x after.ledger.items + 0 ≡ homes_with x before.homes + items_with x before.ledger.items + 0 = run_law x before (OfLedger e ∷ []) after (after, s, refl) h in
    omega (arith, law, ap (homes_with x) s.homes)

-- of how many lineages, and how many rows
rows_lines : (x : MessageId) (rows : List Row) → sends_with x (map (λ row. row.lineage) rows) ≡ rows_with x rows
rows_lines x [] = refl
rows_lines x (row ∷ rows) =
    omega (arith, sum_by-cons (λ (y : MessageId). cond (same_id x y) 1 0) row.lineage (map (λ r. r.lineage) rows), sum_by-cons (λ (r : Row). cond (same_id x r.lineage) 1 0) row rows, rows_lines x rows)

ends_lines : (x : MessageId) (ends : List Ending) → sends_with x (map (λ e. e.line) ends) ≡ ends_with x ends
ends_lines x [] = refl
ends_lines x (e ∷ ends) =
    omega (arith, sum_by-cons (λ (y : MessageId). cond (same_id x y) 1 0) e.line (map (λ r. r.line) ends), sum_by-cons (λ (r : Ending). cond (same_id x r.line) 1 0) e ends, ends_lines x ends)

-- in a step nothing is lost and nothing is made twice
pub step_counts : (x : MessageId) (before : System) (t : Tag) (after : System) (s : IsStep before t after) → IsLedger before.ledger
    → homes_with x after.homes + items_with x after.ledger.items + ends_with x (step_ends before t after s) ≡ homes_with x before.homes + items_with x before.ledger.items + sends_with x (tag_sends t)
step_counts x before t after s h = omega (arith, run_law x before (t ∷ []) after (after, s, refl) h, ends_append x (step_ends before t after s) [], sends_append x (tag_sends t) [])

-- what a step of a home takes out of transit, and brings in
pub home_transit : (x : MessageId) (before : System) (i : ℕ) (e : HomeEvent) (after : System) (s : IsStep before (OfHome i e) after) → IsLedger before.ledger
    → items_with x after.ledger.items + rows_with x (home_ins e.call) + ends_with x (home_drops e.call) ≡ items_with x before.ledger.items + rows_with x (home_outs e.reply)
home_transit x before i e after s h =
    let law = step_counts x before (OfHome i e) after s h in
    let put = ap (homes_with x) s.homes in
    let rows = home_law x s.old.site s.old.home e.stamp.moment e.call e.reply s.new s.step in
    let moved = sum_set (λ (at : HomeAt). rows_with x (rows_of at.home)) before.homes i s.old (record { site = s.old.site; home = s.new }) s.in_list in
    omega (arith, law, put, rows, moved, ends_append x (home_ends s.old.home e.stamp.moment e.call) (home_drops e.call))

-- and by its effect
outs_by : (x : MessageId) (m : ℕ) (call : HomeCall) (reply : HomeReply) → Passes m call reply → sends_with x (effect_outs (effect_of m call reply)) ≡ rows_with x (home_outs reply)
outs_by x m call reply passed = ap (sends_with x) (sym passed.outs) ∙ rows_lines x (home_outs reply)

ins_by : (x : MessageId) (m : ℕ) (call : HomeCall) (reply : HomeReply) → Passes m call reply → sends_with x (effect_ins (effect_of m call reply)) ≡ rows_with x (home_ins call) + ends_with x (home_drops call)
ins_by x m call reply passed =
    let both = ap (sends_with x) (sym passed.ins) ∙ sends_append x (map (λ row. row.lineage) (home_ins call)) (map (λ g. g.line) (home_drops call)) in
    omega (arith, both, rows_lines x (home_ins call), ends_lines x (home_drops call))

home_moves : (x : MessageId) (before : System) (i : ℕ) (e : HomeEvent) (after : System) (s : IsStep before (OfHome i e) after) → IsLedger before.ledger
    → items_with x after.ledger.items + sends_with x (effect_ins (effect_of e.stamp.moment e.call e.reply)) ≡ items_with x before.ledger.items + sends_with x (effect_outs (effect_of e.stamp.moment e.call e.reply))
home_moves x before i e after s h =
    let passed = passes s.old.site s.old.home e.stamp.moment e.call e.reply s.new s.step in
    omega (arith, home_transit x before i e after s h, outs_by x e.stamp.moment e.call e.reply passed, ins_by x e.stamp.moment e.call e.reply passed)

-- no event does both
one_way : (effect : Effect) → (effect_ins effect ≡ []) ⊎ (effect_outs effect ≡ [])
one_way Stays = inl refl
one_way (Arrives sent) = inl refl
one_way (Looks picked) = inl refl
one_way (Leaves p cause) = inl refl
one_way (Departs row) = inl refl
one_way (Enters row) = inr refl
one_way (Drops line) = inr refl

pub home_one_way : (x : MessageId) (before : System) (i : ℕ) (e : HomeEvent) (after : System) → IsStep before (OfHome i e) after → (rows_with x (home_ins e.call) ≡ 0) ⊎ (rows_with x (home_outs e.reply) ≡ 0)
home_one_way x before i e after s =
    let effect = effect_of e.stamp.moment e.call e.reply in
    let passed = passes s.old.site s.old.home e.stamp.moment e.call e.reply s.new s.step in
    elim (one_way effect) as (λ _. (rows_with x (home_ins e.call) ≡ 0) ⊎ (rows_with x (home_outs e.reply) ≡ 0)) [
      | inl none ↦ (let zero_in : sends_with x (effect_ins effect) ≡ 0 = ap (sends_with x) none in inl (omega (arith, zero_in, ins_by x e.stamp.moment e.call e.reply passed)))
      | inr none ↦ (let zero_out : sends_with x (effect_outs effect) ≡ 0 = ap (sends_with x) none in inr (omega (arith, zero_out, outs_by x e.stamp.moment e.call e.reply passed)))
    ]

-- who comes in was in transit
came_from : (x : MessageId) (effect : Effect) (after before : ℕ) → after + sends_with x (effect_ins effect) ≡ before + sends_with x (effect_outs effect) → sends_with x (effect_ins effect) ≤ before
came_from x effect after before e =
    elim (one_way effect) as (λ _. sends_with x (effect_ins effect) ≤ before) [
      | inl none ↦ (let zero_in = ap (sends_with x) none in omega (arith, zero_in))
      | inr none ↦ (let zero_out = ap (sends_with x) none in omega (arith, zero_out, e))
    ]

-- ---- what is known of a message is true of a system

-- seen from the home at an index
abbrev FitsAt : MessageId → ℕ → Home → List Tag → MessagePass → Type 0
FitsAt x i home ts k = IsRising home × GoesBy home (policy_at i ts) × (mine x (states_of home) ≡ rows_at i k.state)

-- the policy that is kept is that of the message's home
abbrev Knows : List Tag → Option Policy → MessageState → Type 0
Knows ts policy Unsent = Unit {0}
Knows ts policy (Here i row) = policy ≡ policy_at i ts
Knows ts policy InTransit = Unit {0}
Knows ts policy (Gone place) = Unit {0}

record Fits (x : MessageId) (system : System) (ts : List Tag) (k : MessagePass) : Type 0 where
  homes : (i : ℕ) (h : HomeAt) → slice_get system.homes i ≡ Some h → FitsAt x i h.home ts k
  knows : Knows ts k.policy k.state
  going : items_with x system.ledger.items ≡ going_at k.state
  ledger : IsLedger system.ledger

knows_same : (ts us : List Tag) (policy : Option Policy) (state : MessageState) → ((i : ℕ) → policy_at i us ≡ policy_at i ts) → Knows ts policy state → Knows us policy state
knows_same ts us policy Unsent same h = tt
knows_same ts us policy (Here i row) same h = h ∙ sym (same i)
knows_same ts us policy InTransit same h = tt
knows_same ts us policy (Gone place) same h = tt

-- an event that is no home's
fits_idle : (x : MessageId) (before mid : System) (ts : List Tag) (t : Tag) (k : MessagePass) → Fits x before ts k → mid.homes ≡ before.homes → items_with x mid.ledger.items ≡ items_with x before.ledger.items → IsLedger mid.ledger
    → ((i : ℕ) → policy_step i (policy_at i ts) t ≡ policy_at i ts) → Fits x mid (ts ++ t ∷ []) k
fits_idle x before mid ts t k fits homes items ledger idle =
    let same : (i : ℕ) → policy_at i (ts ++ t ∷ []) ≡ policy_at i ts = λ i. policy_more i ts t ∙ idle i in
    record {
      homes = λ i h e. (
          let fit = fits.homes i h (subst (λ (hs : List HomeAt). slice_get hs i ≡ Some h) homes e) in
          (fit.0, subst (λ (p : Option Policy). GoesBy h.home p) (sym (same i)) fit.1, fit.2));
      knows = knows_same ts (ts ++ t ∷ []) k.policy k.state same fits.knows;
      going = items ∙ fits.going;
      ledger = ledger;
    }

-- an event of a home changes its own policy
policy_here : (i : ℕ) (ts : List Tag) (e : HomeEvent) → policy_at i (ts ++ OfHome i e ∷ []) ≡ next_policy (policy_at i ts) e.call
policy_here i ts e =
    policy_more i ts (OfHome i e)
    ∙ elim (eqb_tells i i) as (λ _. policy_step i (policy_at i ts) (OfHome i e) ≡ next_policy (policy_at i ts) e.call) [ inl q ↦ ap (λ (v : Bool). if v then next_policy (policy_at i ts) e.call else policy_at i ts) q.0 | inr q ↦ absurd (q.1 refl) ]

-- and no other's
policy_there : (i j : ℕ) (ts : List Tag) (e : HomeEvent) → i ≢ j → policy_at j (ts ++ OfHome i e ∷ []) ≡ policy_at j ts
policy_there i j ts e ne =
    policy_more j ts (OfHome i e)
    ∙ elim (eqb_tells i j) as (λ _. policy_step j (policy_at j ts) (OfHome i e) ≡ policy_at j ts) [ inl q ↦ absurd (ne q.1) | inr q ↦ ap (λ (v : Bool). if v then next_policy (policy_at j ts) e.call else policy_at j ts) q.0 ]

-- a message that is not in the home stays
expire_away : (i m : ℕ) (policy : Option Policy) (state : MessageState) → is_state_in i state ≡ false → unexpired_state i policy m state ≡ state
expire_away i m None state away = refl
expire_away i m (Some policy) Unsent away = refl
expire_away i m (Some policy) (Here j row) away = rw away refl
expire_away i m (Some policy) InTransit away = refl
expire_away i m (Some policy) (Gone place) away = refl

-- what expires goes by the policy that is kept, where the message is there
expires_same : (i m : ℕ) (ts : List Tag) (policy : Option Policy) (state : MessageState) → Knows ts policy state → unexpired_state i policy m state ≡ unexpired_state i (policy_at i ts) m state
expires_same i m ts policy Unsent h = expire_away i m policy Unsent refl ∙ sym (expire_away i m (policy_at i ts) Unsent refl)
expires_same i m ts policy InTransit h = expire_away i m policy InTransit refl ∙ sym (expire_away i m (policy_at i ts) InTransit refl)
expires_same i m ts policy (Gone place) h = expire_away i m policy (Gone place) refl ∙ sym (expire_away i m (policy_at i ts) (Gone place) refl)
expires_same i m ts policy (Here j row) h =
    elim (eqb_tells j i) as (λ _. unexpired_state i policy m (Here j row) ≡ unexpired_state i (policy_at i ts) m (Here j row)) [
      | inl q ↦ ap (λ (p : Option Policy). unexpired_state i p m (Here j row)) (h ∙ ap (λ (n : ℕ). policy_at n ts) q.1)
      | inr q ↦ expire_away i m policy (Here j row) q.0 ∙ sym (expire_away i m (policy_at i ts) (Here j row) q.0)
    ]

kept_is : (i : ℕ) (ts : List Tag) (policy : Option Policy) (state : MessageState) → Knows ts policy state → is_state_in i state ≡ true → policy ≡ policy_at i ts
kept_is i ts policy Unsent h e = absurd cc
kept_is i ts policy InTransit h e = absurd cc
kept_is i ts policy (Gone place) h e = absurd cc
kept_is i ts policy (Here j row) h e = elim (eqb_tells j i) as (λ _. policy ≡ policy_at i ts) [ inl q ↦ h ∙ ap (λ (n : ℕ). policy_at n ts) q.1 | inr q ↦ (let off : false ≡ true = sym q.0 ∙ e in absurd cc) ]

known_here : (i j : ℕ) (ts : List Tag) (call : HomeCall) (k : MessagePass) (row : RowState) → i ≡ j → Knows ts k.policy k.state → known_policy ts i k call (Here j row) ≡ next_policy (policy_at i ts) call
known_here i j ts call k row same h =
    let there : (j == i) ≡ true = elim (eqb_tells j i) as (λ _. (j == i) ≡ true) [ inl q ↦ q.0 | inr q ↦ absurd (q.1 (sym same)) ] in
    elim (is_state_in i k.state) as (λ v. is_state_in i k.state ≡ v → (if v then next_policy k.policy call else if j == i then next_policy (policy_at i ts) call else k.policy) ≡ next_policy (policy_at i ts) call) [
      | true ↦ (λ e. ap (λ (p : Option Policy). next_policy p call) (kept_is i ts k.policy k.state h e))
      | false ↦ (λ e. ap (λ (v : Bool). if v then next_policy (policy_at i ts) call else k.policy) there)
    ] refl

known_there : (i j : ℕ) (ts : List Tag) (call : HomeCall) (policy : Option Policy) (state : MessageState) (row : RowState) → i ≢ j → Knows ts policy state → rows_at j (Here j row) ≡ rows_at j state
    → known_policy ts i (record { policy = policy; state = state }) call (Here j row) ≡ policy_at j ts
known_there i j ts call policy Unsent row ne h same = let e : row ∷ [] ≡ [] = sym (same_home_row j row) ∙ same in absurd cc
known_there i j ts call policy InTransit row ne h same = let e : row ∷ [] ≡ [] = sym (same_home_row j row) ∙ same in absurd cc
known_there i j ts call policy (Gone place) row ne h same = let e : row ∷ [] ≡ [] = sym (same_home_row j row) ∙ same in absurd cc
known_there i j ts call policy (Here n r) row ne h same =
    elim (eqb_tells n j) as (λ _. known_policy ts i (record { policy = policy; state = Here n r }) call (Here j row) ≡ policy_at j ts) [
      | inl q ↦ (
          let was : (n == i) ≡ false = elim (eqb_tells n i) as (λ _. (n == i) ≡ false) [ inl p ↦ absurd (ne (sym p.1 ∙ q.1)) | inr p ↦ p.0 ] in
          let is : (j == i) ≡ false = elim (eqb_tells j i) as (λ _. (j == i) ≡ false) [ inl p ↦ absurd (ne (sym p.1)) | inr p ↦ p.0 ] in
          ap (λ (v : Bool). if v then next_policy policy call else if j == i then next_policy (policy_at i ts) call else policy) was
          ∙ ap (λ (v : Bool). if v then next_policy (policy_at i ts) call else policy) is ∙ h ∙ ap (λ (m : ℕ). policy_at m ts) q.1)
      | inr q ↦ (let e : row ∷ [] ≡ [] = sym (same_home_row j row) ∙ same ∙ ap (λ (v : Bool). cond v (r ∷ []) []) q.0 in absurd cc)
    ]

known_next : (i : ℕ) (ts : List Tag) (e : HomeEvent) (k : MessagePass) (next : MessageState) → Knows ts k.policy k.state → ((j : ℕ) → i ≢ j → rows_at j next ≡ rows_at j k.state)
    → Knows (ts ++ OfHome i e ∷ []) (known_policy ts i k e.call next) next
known_next i ts e k Unsent h others = tt
known_next i ts e k InTransit h others = tt
known_next i ts e k (Gone place) h others = tt
known_next i ts e k (Here j row) h others =
    elim (eqb_tells i j) as (λ _. known_policy ts i k e.call (Here j row) ≡ policy_at j (ts ++ OfHome i e ∷ [])) [
      | inl q ↦ known_here i j ts e.call k row q.1 h ∙ sym (policy_here i ts e) ∙ ap (λ (n : ℕ). policy_at n (ts ++ OfHome i e ∷ [])) q.1
      | inr q ↦ known_there i j ts e.call k.policy k.state row q.1 h (others j q.1) ∙ sym (policy_there i j ts e q.1)
    ]

-- ---- the run

-- of a home that changed and the others
fits_set : (x : MessageId) (homes : List HomeAt) (ts : List Tag) (i : ℕ) (old : HomeAt) (new : Home) (e : HomeEvent) (k next : MessagePass) → slice_get homes i ≡ Some old
    → ((j : ℕ) (h : HomeAt) → slice_get homes j ≡ Some h → FitsAt x j h.home ts k) → FitsAt x i new (ts ++ OfHome i e ∷ []) next → ((j : ℕ) → i ≢ j → rows_at j next.state ≡ rows_at j k.state)
    → (j : ℕ) (h : HomeAt) → slice_get (slice_set homes i (record { site = old.site; home = new })) j ≡ Some h → FitsAt x j h.home (ts ++ OfHome i e ∷ []) next
fits_set x homes ts i old new e k next in_list fits here others j h there =
    let put : HomeAt = record { site = old.site; home = new } in
    elim (eqb_tells i j) as (λ _. FitsAt x j h.home (ts ++ OfHome i e ∷ []) next) [
      | inl p ↦ (let now : slice_get (slice_set homes i put) j ≡ Some put = subst (λ (n : ℕ). slice_get (slice_set homes i put) n ≡ Some put) p.1 (get_same homes i old put in_list) in
          let same : h ≡ put = cc in
          subst (λ (a : HomeAt). FitsAt x j a.home (ts ++ OfHome i e ∷ []) next) (sym same) (subst (λ (n : ℕ). FitsAt x n new (ts ++ OfHome i e ∷ []) next) p.1 here))
      | inr p ↦ (let fit = fits j h (sym (get_other homes i j put p.1) ∙ there) in
          (fit.0, subst (λ (q : Option Policy). GoesBy h.home q) (sym (policy_there i j ts e p.1)) fit.1, fit.2 ∙ sym (others j p.1)))
    ]

-- the pass goes on from a system that it fits
follow_law : (x : MessageId) (before : System) (rest : List Tag) (after : System) (r : RunFrom before rest after) (ts : List Tag) (k : MessagePass) → Fits x before ts k → sends_with x (run_sends rest) + sent_at k.state ≤ 1
    → place_from x k.state (run_sends rest) (run_ends before rest after r) after.ledger.items ≡ answer (pass_from x ts k rest).state
follow_law x before [] after r ts k fits once = place_now x k.state after.ledger.items (ap (λ (s : System). items_with x s.ledger.items) r ∙ fits.going)
follow_law x before (OfDirectory e ∷ rest) after r ts k fits once =
    let s : IsStep before (OfDirectory e) r.0 = r.1 in
    follow_law x r.0 rest after r.2 (ts ++ OfDirectory e ∷ []) k
    (fits_idle x before r.0 ts (OfDirectory e) k fits s.homes (ap (λ (l : Ledger). items_with x l.items) s.ledger) (ledger_stays before (OfDirectory e) r.0 s fits.ledger) (λ i. refl)) once
follow_law x before (OfLedger e ∷ rest) after r ts k fits once =
    let s : IsStep before (OfLedger e) r.0 = r.1 in
    follow_law x r.0 rest after r.2 (ts ++ OfLedger e ∷ []) k
    (fits_idle x before r.0 ts (OfLedger e) k fits s.homes (own_step x before e r.0 s fits.ledger) (ledger_stays before (OfLedger e) r.0 s fits.ledger) (λ i. refl)) once
follow_law x before (OfHome i e ∷ rest) after r ts k fits once =
    let s : HomeSteps before i e r.0 = r.1 in
    let m = e.stamp.moment in
    let effect = effect_of m e.call e.reply in
    let policy = policy_at i ts in
    let sends = run_sends rest in
    let ends = run_ends r.0 rest after r.2 in
    let items = after.ledger.items in
    let next : MessagePass = next_pass x ts i k e in
    let fit = fits.homes i s.old s.in_list in
    let mirror = mirrors s.old.site s.old.home policy m e.call e.reply s.new s.step fit.0 fit.1 in
    let passed = passes s.old.site s.old.home m e.call e.reply s.new s.step in
    let known : sends_with x (home_sends e.reply) ≡ sends_with x (effect_sends effect) = ap (sends_with x) passed.sends in
    let split = sends_append x (home_sends e.reply) sends in
    let moves = home_moves x before i e r.0 s fits.ledger in
    let coming : sends_with x (effect_ins effect) ≤ going_at k.state = omega (arith, came_from x effect (items_with x r.0.ledger.items) (items_with x before.ledger.items) moves, fits.going) in
    let expires : next_state x i k e ≡ state_after x i m effect (unexpired_state i policy m k.state) = ap (state_after x i m effect) (expires_same i m ts k.policy k.state fits.knows) in
    let event : FollowsEvent x i policy m effect (states_of s.old.home) k.state next.state =
    subst (λ (state : MessageState). FollowsEvent x i policy m effect (states_of s.old.home) k.state state) (sym expires)
    (follows_event x i policy m effect (states_of s.old.home) k.state fit.2 (omega (arith, split, once, known)) coming mirror.split) in
    let here : FitsAt x i s.new (ts ++ OfHome i e ∷ []) next =
    (mirror.rising, subst (λ (p : Option Policy). GoesBy s.new p) (sym (policy_here i ts e)) mirror.goes_by, ap (mine x) mirror.states ∙ event.left) in
    let fits_next : Fits x r.0 (ts ++ OfHome i e ∷ []) next = record {
      homes = λ j h there. fits_set x before.homes ts i s.old s.new e k next s.in_list fits.homes here event.others j h (subst (λ (hs : List HomeAt). slice_get hs j ≡ Some h) s.homes there);
      knows = known_next i ts e k next.state fits.knows event.others;
      going = omega (arith, moves, event.going, fits.going);
      ledger = ledger_stays before (OfHome i e) r.0 s fits.ledger;
    } in
    ap (λ (zs : List MessageId). place_from x k.state (zs ++ sends) ((home_ends s.old.home m e.call ++ home_drops e.call) ++ ends) items) passed.sends
    ∙ ap (λ (es : List Ending). place_from x k.state (effect_sends effect ++ sends) (es ++ ends) items) mirror.ends
    ∙ event.place sends ends items ∙ follow_law x r.0 rest after r.2 (ts ++ OfHome i e ∷ []) next fits_next (omega (arith, split, once, known, event.sent))

pub opened : (sites : List Site) (i : ℕ) (h : HomeAt) → slice_get (map (λ site. record { site = site; home = Unopened }) sites) i ≡ Some h → h.home ≡ Unopened
opened [] i h e = absurd cc
opened (site ∷ sites) zero h e = let same : record { site = site; home = Unopened } ≡ h = cc in ap (λ (a : HomeAt). a.home) (sym same)
opened (site ∷ sites) (suc i) h e = opened sites i h e

fits_opening : (x : MessageId) (o : Opening) → Fits x (opening o) [] pass_start
fits_opening x o = record {
  homes = λ i h e. subst (λ (home : Home). FitsAt x i home [] pass_start) (sym (opened o.sites i h e)) (tt, refl, refl);
  knows = tt;
  going = refl;
  ledger = opens o.transit;
}

-- the pass gives the place
pub place_law : (x : MessageId) (o : Opening) (ts : List Tagged) (run : List Tag) → tags_of ts ≡ run → (after : System) (r : RunFrom (opening o) run after) → IsOnePlace o.sites
    → place_in x (run_sends run) (run_ends (opening o) run after r) after.ledger.items ≡ answer (pass_from x [] pass_start (tags_of ts)).state
place_law x o ts run is after r one =
    let once = one_place x o run after r one in
    follow_law x (opening o) run after r [] pass_start (fits_opening x o) (omega (arith, once.1))
    ∙ ap (λ (us : List Tag). answer (pass_from x [] pass_start us).state) (sym is)
