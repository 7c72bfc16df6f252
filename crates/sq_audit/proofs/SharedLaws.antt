-- What homes and the ledger share stands once in a list of all events, and with what is the ledger's alone it is the ledger's history.
use Rattle.std.proofs.Common.{◌≡◌, ℕ, zero, suc, Bool, true, false, not, cond, List, [], ◌∷◌, ◌++◌, refl, ap, sym, ◌∙◌, subst, inl, inr, arith, Some, slice_get}
use Rattle.std.specs.Prelude.{All, filter, ◌==◌}
use Rattle.std.specs.List.{AllByRecursion}
use Rattle.std.specs.Ordering.{nat_cmp}
use Rattle.std.proofs.lemmas.Bool.Decides.{eqb_tells}
use Rattle.sq_base.specs.StampValue.{StampValue}
use Rattle.sq_base.specs.Stamps.{Below, stamp_cmp}
use Rattle.sq_base.specs.declared.ids.HomeId.{HomeId}
use Rattle.sq_base.proofs.StampLaws.{below_less, below_or}
use Rattle.sq_model.specs.declared.ledger.LedgerCall.TheVariants.{AtHome}
use Rattle.sq_model.specs.declared.place.Component.{Component}
use Rattle.sq_model.specs.declared.place.Component.TheVariants as part
use Rattle.sq_model.specs.Ledgers.{LedgerEvent, is_own}
use Rattle.sq_model.specs.Matches.{HomeHistory, IsPaired}
use Rattle.sq_model.specs.Merges.{InOrder, LedgerIsAlone, history_at, is_before, is_move, of_directory, of_home, of_ledger, rank_of}
use Rattle.sq_model.specs.Replays.{HomeEvent}
use Rattle.sq_model.specs.Systems.{Tag, OfDirectory, OfLedger, OfHome, as_ledger, is_alone, ledger_part, ledger_part_of, stamp_of}
use Rattle.sq_history.specs.HistoryValue.{HistoryValue}
use Rattle.sq_history.specs.Histories.{IsKept}
use Rattle.sq_audit.specs.Actors.{PartsRise}
use Rattle.sq_history.specs.HomeIds.{IsNumbered}
use Rattle.sq_audit.specs.HomeHistories.{histories_of, home_history}
use Rattle.sq_audit.specs.SystemNow.{events_of, own_events}
use Rattle.sq_model.proofs.ElementLaws.{all_get, get_map, get_mapped, some_same}
use Rattle.sq_audit.proofs.ActorLaws.{in_home, less_first, same_number}
use Rattle.sq_audit.proofs.CheckLaws.{home_once}
use Rattle.sq_audit.proofs.ListLaws.{all_at}
use Rattle.sq_audit.proofs.PartLaws.{all_append, of_own}
use Rattle.sq_audit.proofs.RisingLaws.{Has, Increasing, one_event, same_events}

-- ---- two events of one part

-- what stands later and is of the same rank has a higher stamp
abbrev RanksRise : List Tag → Type 0
RanksRise [] = Unit {0}
RanksRise (t ∷ ts) = AllByRecursion (λ u. rank_of u ≡ rank_of t → Below (stamp_of t) (stamp_of u)) ts × RanksRise ts

-- and so with moves
abbrev MovesRise : List Tag → Type 0
MovesRise [] = Unit {0}
MovesRise (t ∷ ts) = AllByRecursion (λ u. is_move t ≡ true → is_move u ≡ true → Below (stamp_of t) (stamp_of u)) ts × MovesRise ts

parts_rise : (ts : List Tag) → RanksRise ts → MovesRise ts → PartsRise ts
parts_rise [] ranks moves = tt
parts_rise (t ∷ ts) ranks moves = (ranks.0, moves.0, parts_rise ts ranks.1 moves.1)

directory_above : (s : StampValue) (ts : List Tag) → AllByRecursion (λ e. Below s e.stamp) (of_directory ts) → AllByRecursion (λ u. rank_of u ≡ 0 → Below s (stamp_of u)) ts
directory_above s [] h = tt
directory_above s (OfDirectory e ∷ ts) h = (λ same. h.0, directory_above s ts h.1)
directory_above s (OfLedger e ∷ ts) h = (λ same. absurd (omega (arith, same)), directory_above s ts h)
directory_above s (OfHome i e ∷ ts) h = (λ same. absurd (omega (arith, same)), directory_above s ts h)

own_above : (s : StampValue) (ts : List Tag) → AllByRecursion (λ e. Below s e.stamp) (of_own ts) → AllByRecursion (λ u. rank_of u ≡ 1 → Below s (stamp_of u)) ts
own_above s [] h = tt
own_above s (OfDirectory e ∷ ts) h = (λ same. absurd (omega (arith, same)), own_above s ts h)
own_above s (OfLedger e ∷ ts) h = (λ same. h.0, own_above s ts h.1)
own_above s (OfHome i e ∷ ts) h = (λ same. absurd (omega (arith, same)), own_above s ts h)

home_above : (s : StampValue) (j : ℕ) (ts : List Tag) → AllByRecursion (λ e. Below s e.stamp) (of_home j ts) → AllByRecursion (λ u. rank_of u ≡ suc (suc j) → Below s (stamp_of u)) ts
home_above s j [] h = tt
home_above s j (OfDirectory e ∷ ts) h = (λ same. absurd (omega (arith, same)), home_above s j ts h)
home_above s j (OfLedger e ∷ ts) h = (λ same. absurd (omega (arith, same)), home_above s j ts h)
home_above s j (OfHome i e ∷ ts) h =
    elim (eqb_tells i j) as (λ _. AllByRecursion (λ u. rank_of u ≡ suc (suc j) → Below s (stamp_of u)) (OfHome i e ∷ ts)) [
      | inl p ↦ (let k = rw p.0 at h in (λ same. k.0, home_above s j ts k.1))
      | inr p ↦ (let k = rw p.0 at h in (λ same. let e : i ≡ j = omega (arith, same) in absurd (p.1 e), home_above s j ts k))
    ]

left_of : (b : Bool) (e : HomeEvent) (es : List HomeEvent) → Increasing (cond b (e ∷ es) es) → Increasing es
left_of true e es h = h.1
left_of false e es h = h

ranks_rise : (ts : List Tag) → Increasing (of_directory ts) → Increasing (of_own ts) → ((i : ℕ) → Increasing (of_home i ts)) → RanksRise ts
ranks_rise [] directory own homes = tt
ranks_rise (OfDirectory e ∷ ts) directory own homes = (directory_above e.stamp ts directory.0, ranks_rise ts directory.1 own homes)
ranks_rise (OfLedger e ∷ ts) directory own homes = (own_above e.stamp ts own.0, ranks_rise ts directory own.1 homes)
ranks_rise (OfHome i e ∷ ts) directory own homes =
    let mine : Increasing (e ∷ of_home i ts) = rw (same_number i) at (homes i) in
    (home_above e.stamp i ts mine.0, ranks_rise ts directory own (λ j. left_of (i == j) e (of_home j ts) (homes j)))

-- of two moves in order the later one has the higher stamp, where at one stamp they are of one part
move_pair : (t u : Tag) → is_before u t ≡ false → (rank_of u ≡ rank_of t → Below (stamp_of t) (stamp_of u)) → (stamp_of u ≡ stamp_of t → rank_of u ≡ rank_of t) → Below (stamp_of t) (stamp_of u)
move_pair t u order ranks one =
    elim (below_or (stamp_of t) (stamp_of u)) as (λ _. Below (stamp_of t) (stamp_of u)) [
      | inl p ↦ p
      | inr q ↦ elim q as (λ _. Below (stamp_of t) (stamp_of u)) [
        | inl e ↦ ranks (one (sym e))
        | inr b ↦ (let less = less_first (stamp_cmp (stamp_of u) (stamp_of t)) (nat_cmp (rank_of u) (rank_of t)) (below_less (stamp_of u) (stamp_of t) b) in absurd cc)
      ]
    ]

-- two moves at one stamp are of one part
abbrev OnePart : List Tag → Type 0
OnePart ts = (i j : ℕ) (t u : Tag) → slice_get ts i ≡ Some t → slice_get ts j ≡ Some u → is_move t ≡ true → is_move u ≡ true → stamp_of t ≡ stamp_of u → rank_of t ≡ rank_of u

moves_above : (t : Tag) (us : List Tag) → AllByRecursion (λ u. is_before u t ≡ false) us → AllByRecursion (λ u. rank_of u ≡ rank_of t → Below (stamp_of t) (stamp_of u)) us
    → ((k : ℕ) (u : Tag) → slice_get us k ≡ Some u → is_move t ≡ true → is_move u ≡ true → stamp_of u ≡ stamp_of t → rank_of u ≡ rank_of t)
    → AllByRecursion (λ u. is_move t ≡ true → is_move u ≡ true → Below (stamp_of t) (stamp_of u)) us
moves_above t [] order ranks one = tt
moves_above t (u ∷ us) order ranks one = (λ m n. move_pair t u order.0 ranks.0 (one 0 u refl m n), moves_above t us order.1 ranks.1 (λ k. one (suc k)))

moves_rise : (ts : List Tag) → InOrder is_before ts → RanksRise ts → OnePart ts → MovesRise ts
moves_rise [] order ranks one = tt
moves_rise (t ∷ ts) order ranks one = (moves_above t ts order.0 ranks.0 (λ k u is m n same. one (suc k) 0 u t is refl n m same), moves_rise ts order.1 ranks.1 (λ i j. one (suc i) (suc j)))

-- ---- the ledger's part of a list

-- what an event is in the ledger's history
abbrev part_of : Tag → List LedgerEvent
part_of (OfDirectory e) = []
part_of (OfLedger e) = e ∷ []
part_of (OfHome i e) = ledger_part e

all_parts : (P : LedgerEvent → Type 0) (ts : List Tag) → ((i : ℕ) (t : Tag) → slice_get ts i ≡ Some t → AllByRecursion P (part_of t)) → AllByRecursion P (of_ledger ts)
all_parts P [] each = tt
all_parts P (OfDirectory e ∷ ts) each = all_parts P ts (λ i. each (suc i))
all_parts P (OfLedger e ∷ ts) each = ((each 0 (OfLedger e) refl).0, all_parts P ts (λ i. each (suc i)))
all_parts P (OfHome i e ∷ ts) each = all_append P (ledger_part e) (of_ledger ts) (each 0 (OfHome i e) refl) (all_parts P ts (λ k. each (suc k)))

has_left : {X : Type 0} (xs ys : List X) (x : X) (k : ℕ) → slice_get xs k ≡ Some x → Has (xs ++ ys) x
has_left [] ys x k h = absurd cc
has_left (y ∷ xs) ys x zero h = (0, h)
has_left (y ∷ xs) ys x (suc k) h = let t = has_left xs ys x k h in (suc t.0, t.1)

has_right : {X : Type 0} (xs ys : List X) (x : X) → Has ys x → Has (xs ++ ys) x
has_right [] ys x h = h
has_right (y ∷ xs) ys x h = let t = has_right xs ys x h in (suc t.0, t.1)

-- the part of an event of the list stands in it
pub in_ledger : (ts : List Tag) (i : ℕ) (t : Tag) (e : LedgerEvent) → slice_get ts i ≡ Some t → Has (part_of t) e → Has (of_ledger ts) e
in_ledger [] i t e is has = absurd cc
in_ledger (OfDirectory d ∷ ts) zero t e is has = let same : OfDirectory d ≡ t = cc in let none = subst (λ (u : Tag). Has (part_of u) e) (sym same) has in absurd (let h = none.1 in cc)
in_ledger (OfLedger d ∷ ts) zero t e is has = let same : OfLedger d ≡ t = cc in let one = subst (λ (u : Tag). Has (part_of u) e) (sym same) has in has_left (d ∷ []) (of_ledger ts) e one.0 one.1
in_ledger (OfHome j d ∷ ts) zero t e is has = let same : OfHome j d ≡ t = cc in let one = subst (λ (u : Tag). Has (part_of u) e) (sym same) has in has_left (ledger_part d) (of_ledger ts) e one.0 one.1
in_ledger (OfDirectory d ∷ ts) (suc i) t e is has = in_ledger ts i t e is has
in_ledger (OfLedger d ∷ ts) (suc i) t e is has = has_right (d ∷ []) (of_ledger ts) e (in_ledger ts i t e is has)
in_ledger (OfHome j d ∷ ts) (suc i) t e is has = has_right (ledger_part d) (of_ledger ts) e (in_ledger ts i t e is has)

part_above : (s : StampValue) (alone : Bool) (component : Component) (e : HomeEvent) → (not alone ≡ true → Below s e.stamp) → AllByRecursion (λ f. Below s f.stamp) (ledger_part_of alone component e)
part_above s true component e h = tt
part_above s false part.Directory e h = tt
part_above s false part.Ledger e h = tt
part_above s false (part.Home home) e h = (h refl, tt)

above_parts : (s : StampValue) (ts : List Tag) → AllByRecursion (λ u. is_move u ≡ true → Below s (stamp_of u)) ts → AllByRecursion (λ e. Below s e.stamp) (of_ledger ts)
above_parts s [] h = tt
above_parts s (OfDirectory e ∷ ts) h = above_parts s ts h.1
above_parts s (OfLedger e ∷ ts) h = (h.0 refl, above_parts s ts h.1)
above_parts s (OfHome i e ∷ ts) h = all_append (λ f. Below s f.stamp) (ledger_part e) (of_ledger ts) (part_above s (is_alone e.call) e.component e h.0) (above_parts s ts h.1)

part_first : (alone : Bool) (component : Component) (e : HomeEvent) (es : List LedgerEvent) → (not alone ≡ true → AllByRecursion (λ f. Below e.stamp f.stamp) es) → Increasing es → Increasing (ledger_part_of alone component e ++ es)
part_first true component e es up rest = rest
part_first false part.Directory e es up rest = rest
part_first false part.Ledger e es up rest = rest
part_first false (part.Home home) e es up rest = (up refl, rest)

those_that : (t : Tag) (ts : List Tag) → is_move t ≡ true → AllByRecursion (λ u. is_move t ≡ true → is_move u ≡ true → Below (stamp_of t) (stamp_of u)) ts → AllByRecursion (λ u. is_move u ≡ true → Below (stamp_of t) (stamp_of u)) ts
those_that t [] m h = tt
those_that t (u ∷ us) m h = (h.0 m, those_that t us m h.1)

part_rises : (ts : List Tag) → MovesRise ts → Increasing (of_ledger ts)
part_rises [] h = tt
part_rises (OfDirectory e ∷ ts) h = part_rises ts h.1
part_rises (OfLedger e ∷ ts) h = (above_parts e.stamp ts (those_that (OfLedger e) ts refl h.0), part_rises ts h.1)
part_rises (OfHome i e ∷ ts) h = part_first (is_alone e.call) e.component e (of_ledger ts) (λ m. above_parts e.stamp ts (those_that (OfHome i e) ts m h.0)) (part_rises ts h.1)

-- ---- where an event stands

filtered : {X : Type 0} (p : X → Bool) (xs : List X) (k : ℕ) (x : X) → slice_get (filter p xs) k ≡ Some x → Has xs x × (p x ≡ true)
filtered p [] k x h = absurd cc
filtered p (y ∷ ys) k x h =
    elim (p y) as (λ v. p y ≡ v → slice_get (cond v (y ∷ filter p ys) (filter p ys)) k ≡ Some x → Has (y ∷ ys) x × (p x ≡ true)) [
      | true ↦ (λ e. elim k as (λ n. slice_get (y ∷ filter p ys) n ≡ Some x → Has (y ∷ ys) x × (p x ≡ true)) [
        | zero ↦ (λ g. ((0, g), subst (λ z. p z ≡ true) (some_same g) e))
        | suc n ↦ (λ g. let t = filtered p ys n x g in ((suc t.0.0, t.0.1), t.1))
      ])
      | false ↦ (λ e g. let t = filtered p ys k x g in ((suc t.0.0, t.0.1), t.1))
    ] refl h

passes : {X : Type 0} (p : X → Bool) (xs : List X) (k : ℕ) (x : X) → slice_get xs k ≡ Some x → p x ≡ true → Has (filter p xs) x
passes p [] k x h e = absurd cc
passes p (y ∷ ys) zero x h e = let same : y ≡ x = some_same h in let first : p y ≡ true = subst (λ z. p z ≡ true) (sym same) e in rw first (0, h)
passes p (y ∷ ys) (suc k) x h e =
    let t = passes p ys k x h e in
    elim (p y) as (λ v. Has (cond v (y ∷ filter p ys) (filter p ys)) x) [ true ↦ (suc t.0, t.1) | false ↦ t ]

in_own : (ts : List Tag) (i : ℕ) (e : LedgerEvent) → slice_get ts i ≡ Some (OfLedger e) → Has (of_own ts) e
in_own [] i e is = absurd cc
in_own (OfDirectory d ∷ ts) zero e is = absurd cc
in_own (OfLedger d ∷ ts) zero e is = (0, cc)
in_own (OfHome j d ∷ ts) zero e is = absurd cc
in_own (OfDirectory d ∷ ts) (suc i) e is = in_own ts i e is
in_own (OfLedger d ∷ ts) (suc i) e is = let rest = in_own ts i e is in (suc rest.0, rest.1)
in_own (OfHome j d ∷ ts) (suc i) e is = in_own ts i e is

from_own : (ts : List Tag) (k : ℕ) (e : LedgerEvent) → slice_get (of_own ts) k ≡ Some e → Has ts (OfLedger e)
from_own [] k e is = absurd cc
from_own (OfDirectory d ∷ ts) k e is = let t = from_own ts k e is in (suc t.0, t.1)
from_own (OfLedger d ∷ ts) zero e is = (0, let same : d ≡ e = some_same is in ap (λ x. Some (OfLedger x)) same)
from_own (OfLedger d ∷ ts) (suc k) e is = let t = from_own ts k e is in (suc t.0, t.1)
from_own (OfHome j d ∷ ts) k e is = let t = from_own ts k e is in (suc t.0, t.1)

from_home : (ts : List Tag) (j k : ℕ) (e : HomeEvent) → slice_get (of_home j ts) k ≡ Some e → Has ts (OfHome j e)
from_home [] j k e is = absurd cc
from_home (OfDirectory d ∷ ts) j k e is = let t = from_home ts j k e is in (suc t.0, t.1)
from_home (OfLedger d ∷ ts) j k e is = let t = from_home ts j k e is in (suc t.0, t.1)
from_home (OfHome i d ∷ ts) j k e is =
    elim (eqb_tells i j) as (λ _. Has (OfHome i d ∷ ts) (OfHome j e)) [
      | inl p ↦ (let k2 = rw p.0 at is in elim k as (λ n. slice_get (d ∷ of_home j ts) n ≡ Some e → Has (OfHome i d ∷ ts) (OfHome j e)) [
        | zero ↦ (λ g. (0, let same : d ≡ e = some_same g in ap (λ n. Some (OfHome n d)) p.1 ∙ ap (λ x. Some (OfHome j x)) same))
        | suc n ↦ (λ g. let t = from_home ts j n e g in (suc t.0, t.1))
      ] k2)
      | inr p ↦ (let k2 = rw p.0 at is in let t = from_home ts j k e k2 in (suc t.0, t.1))
    ]

-- an event of a home's history is that of a home that is there
pub event_home : (homes : List HistoryValue) (j k : ℕ) (e : HomeEvent) → slice_get (history_at (events_of homes) j) k ≡ Some e → (h : HistoryValue) × (slice_get homes j ≡ Some h) × (slice_get h.events k ≡ Some e)
event_home [] j k e is = absurd cc
event_home (h ∷ hs) zero k e is = (h, refl, is)
event_home (h ∷ hs) (suc j) k e is = event_home hs j k e is

home_event : (homes : List HistoryValue) (j k : ℕ) (h : HistoryValue) (e : HomeEvent) → slice_get homes j ≡ Some h → slice_get h.events k ≡ Some e → slice_get (history_at (events_of homes) j) k ≡ Some e
home_event [] j k h e is in_events = absurd cc
home_event (g ∷ hs) zero k h e is in_events = let same : g ≡ h = some_same is in rw same in_events
home_event (g ∷ hs) (suc j) k h e is in_events = home_event hs j k h e is in_events

alone_from : (ts : List Tag) → AllByRecursion (λ e. is_own e.call ≡ true) (of_own ts) → LedgerIsAlone ts
alone_from [] h = tt
alone_from (OfDirectory e ∷ ts) h = alone_from ts h
alone_from (OfLedger e ∷ ts) h = (h.0, alone_from ts h.1)
alone_from (OfHome i e ∷ ts) h = alone_from ts h

own_own : (es : List LedgerEvent) → AllByRecursion (λ e. is_own e.call ≡ true) (own_events es)
own_own [] = tt
own_own (e ∷ es) = elim (is_own e.call) as (λ v. is_own e.call ≡ v → AllByRecursion (λ e. is_own e.call ≡ true) (cond v (e ∷ own_events es) (own_events es))) [ true ↦ (λ p. (p, own_own es)) | false ↦ (λ p. own_own es) ] refl

-- of an event of a home that is shared, the part is the event as it stands in the ledger's history
shared_part : (e : HomeEvent) (home : HomeId) → is_alone e.call ≡ false → e.component ≡ part.Home home → ledger_part e ≡ as_ledger home e ∷ []
shared_part e home shared is = rw (shared, is) refl

-- ---- all events in order

module _ (per_queue : ℕ) (homes : List HistoryValue) (numbered : IsNumbered per_queue homes) (kept : All IsKept homes) (ledger : List LedgerEvent) (rising : Increasing ledger) (paired : IsPaired ledger (histories_of homes))
    (run : List Tag) (each : (i : ℕ) → of_home i run ≡ history_at (events_of homes) i) (own : of_own run ≡ own_events ledger) where
  -- an event of a home in the list, in its home
  record StandsAt (j : ℕ) (e : HomeEvent) : Type 0 where
    home : HistoryValue
    index : ℕ
    in_homes : slice_get homes j ≡ Some home
    in_events : slice_get home.events index ≡ Some e
    names : e.component ≡ part.Home home.site.home

  at_home : (i j : ℕ) (e : HomeEvent) → slice_get run i ≡ Some (OfHome j e) → StandsAt j e
  at_home i j e is =
      let at = in_home run i j e is in
      let h = event_home homes j at.0 e (rw (each j) at at.1) in
      record { home = h.0; index = at.0; in_homes = h.1; in_events = h.2; names = all_at (λ (f : HomeEvent). f.component ≡ part.Home h.0.site.home) h.0.events at.0 e (all_at IsKept homes j h.0 kept h.1).own h.2 }

  -- a move of the list is an event of the ledger
  abbrev IsMoveAs : Tag → LedgerEvent → Type 0
  IsMoveAs (OfDirectory d) e = ⊥
  IsMoveAs (OfLedger d) e = (is_own d.call ≡ true) × (e ≡ d)
  IsMoveAs (OfHome j d) e = (h : HistoryValue) × (slice_get homes j ≡ Some h) × (e ≡ as_ledger h.site.home d)

  record IsMove (t : Tag) : Type 0 where
    event : LedgerEvent
    there : Has ledger event
    stamped : event.stamp ≡ stamp_of t
    moves_as : IsMoveAs t event
    its_part : part_of t ≡ event ∷ []

  not_alone : (b : Bool) → not b ≡ true → b ≡ false
  not_alone true e = absurd cc
  not_alone false e = refl

  is_a_move : (i : ℕ) (t : Tag) → slice_get run i ≡ Some t → is_move t ≡ true → IsMove t
  is_a_move i (OfDirectory d) is m = absurd cc
  is_a_move i (OfLedger d) is m =
      let at = in_own run i d is in
      let f = filtered (λ e. is_own e.call) ledger at.0 d (rw own at at.1) in
      record { event = d; there = f.0; stamped = refl; moves_as = (f.1, refl); its_part = refl }
  is_a_move i (OfHome j d) is m =
      let at = at_home i j d is in
      let shared : is_alone d.call ≡ false = not_alone (is_alone d.call) m in
      record {
        event = as_ledger at.home.site.home d;
        there = paired.in_ledger j at.index (home_history at.home) d (record { in_homes = get_map home_history homes j at.home at.in_homes; in_events = at.in_events }) shared;
        stamped = refl;
        moves_as = (at.home, at.in_homes, refl);
        its_part = shared_part d at.home.site.home shared at.names;
      }

  one_rank : (t u : Tag) (e : LedgerEvent) → IsMoveAs t e → IsMoveAs u e → rank_of t ≡ rank_of u
  one_rank (OfDirectory d) u e p q = absurd p
  one_rank (OfLedger d) (OfDirectory f) e p q = absurd q
  one_rank (OfLedger d) (OfLedger f) e p q = refl
  one_rank (OfLedger d) (OfHome j f) e p q = let is : is_own (as_ledger q.0.site.home f).call ≡ true = subst (λ (x : LedgerEvent). is_own x.call ≡ true) (sym p.1 ∙ q.2) p.0 in absurd cc
  one_rank (OfHome i d) (OfDirectory f) e p q = absurd q
  one_rank (OfHome i d) (OfLedger f) e p q = let is : is_own (as_ledger p.0.site.home d).call ≡ true = subst (λ (x : LedgerEvent). is_own x.call ≡ true) (sym q.1 ∙ p.2) q.0 in absurd cc
  one_rank (OfHome i d) (OfHome j f) e p q =
      let call : AtHome p.0.site.home d.call ≡ AtHome q.0.site.home f.call = ap (λ (x : LedgerEvent). x.call) (sym p.2 ∙ q.2) in
      let id : p.0.site.home ≡ q.0.site.home = cc in
      ap (λ (k : ℕ). suc (suc k)) (home_once per_queue homes numbered i j (home_history p.0) (home_history q.0) (get_map home_history homes i p.0 p.1) (get_map home_history homes j q.0 q.1) id)

  one_part : OnePart run
  one_part i j t u is too m n same =
      let x = is_a_move i t is m in
      let y = is_a_move j u too n in
      let one : x.event ≡ y.event = one_event ledger rising x.there.0 y.there.0 x.event y.event x.there.1 y.there.1 (x.stamped ∙ same ∙ sym y.stamped) in
      one_rank t u y.event (subst (IsMoveAs t) one x.moves_as) y.moves_as

  no_part : (alone : Bool) (component : Component) (e : HomeEvent) → not alone ≡ false → ledger_part_of alone component e ≡ []
  no_part true component e m = refl
  no_part false component e m = absurd cc

  none_of : (t : Tag) → is_move t ≡ false → AllByRecursion (Has ledger) (part_of t)
  none_of (OfDirectory d) m = tt
  none_of (OfLedger d) m = absurd cc
  none_of (OfHome j d) m = subst (AllByRecursion (Has ledger)) (sym (no_part (is_alone d.call) d.component d m)) tt

  -- each part of an event stands in the ledger's history
  all_there : AllByRecursion (Has ledger) (of_ledger run)
  all_there = all_parts (Has ledger) run (λ i t is.
      elim (is_move t) as (λ v. is_move t ≡ v → AllByRecursion (Has ledger) (part_of t)) [
        | true ↦ (λ m. let x = is_a_move i t is m in subst (AllByRecursion (Has ledger)) (sym x.its_part) (x.there, tt))
        | false ↦ (λ m. none_of t m)
      ] refl)

  -- and each event of the ledger's history is a part of one
  has_all : (k : ℕ) (e : LedgerEvent) → slice_get ledger k ≡ Some e → Has (of_ledger run) e
  has_all k e in_list =
      elim (is_own e.call) as (λ v. is_own e.call ≡ v → Has (of_ledger run) e) [
        | true ↦ (λ p.
            let at = passes (λ (x : LedgerEvent). is_own x.call) ledger k e in_list p in
            let t = from_own run at.0 e (rw own at.1) in
            in_ledger run t.0 (OfLedger e) e t.1 (0, refl))
        | false ↦ (λ p.
            let x = paired.in_home k e in_list p in
            let h = get_mapped home_history homes x.0 x.2 x.4.in_homes in
            let in_events : slice_get h.0.events x.1 ≡ Some x.3 = subst (λ (y : HomeHistory). slice_get y.events x.1 ≡ Some x.3) h.2 x.4.in_events in
            let t = from_home run x.0 x.1 x.3 (rw (each x.0) (home_event homes x.0 x.1 h.0 x.3 h.1 in_events)) in
            let names : x.3.component ≡ part.Home h.0.site.home = all_at (λ (f : HomeEvent). f.component ≡ part.Home h.0.site.home) h.0.events x.1 x.3 (all_at IsKept homes x.0 h.0 kept h.1).own in_events in
            let id : x.2.home ≡ h.0.site.home = ap (λ (y : HomeHistory). y.home) h.2 in
            let same : e ≡ as_ledger h.0.site.home x.3 = x.6 ∙ ap (λ (y : HomeId). as_ledger y x.3) id in
            in_ledger run t.0 (OfHome x.0 x.3) e t.1 (subst (λ (es : List LedgerEvent). Has es e) (sym (shared_part x.3 h.0.site.home x.5 names)) (0, ap Some (sym same))))
      ] refl

  pub ledger_alone : LedgerIsAlone run
  ledger_alone = alone_from run (rw own (own_own ledger))

  module _ (order : InOrder is_before run) (directory : Increasing (of_directory run)) (own_rise : Increasing (of_own run)) (homes_rise : (i : ℕ) → Increasing (of_home i run)) where
    ranks : RanksRise run
    ranks = ranks_rise run directory own_rise homes_rise

    moves : MovesRise run
    moves = moves_rise run order ranks one_part

    pub run_parts_rise : PartsRise run
    run_parts_rise = parts_rise run ranks moves

    pub ledger_is : of_ledger run ≡ ledger
    ledger_is = same_events (of_ledger run) ledger (part_rises run moves) rising (all_get (Has ledger) (of_ledger run) all_there) has_all
