-- What holds of each part of the system alone holds of the run.
use Rattle.std.proofs.Common.{◌≡◌, ◌≢◌, ℕ, zero, suc, ◌≤◌, Bool, true, false, cond, List, [], ◌∷◌, ◌++◌, refl, ap, ◌∙◌, subst, inl, inr, arith, Option, Some, None, slice_get, slice_set}
use Rattle.std.specs.Prelude.{nat_eq, ◌==◌}
use Rattle.std.specs.List.{AllByRecursion}
use Rattle.std.proofs.lemmas.Grind.{common_steps}
use Rattle.std.proofs.lemmas.Bool.Decides.{eqb_tells}
use Rattle.sq_base.specs.declared.ids.HomeId.{HomeId}
use Rattle.sq_model.specs.declared.ledger.LedgerCall.{LedgerCall}
use Rattle.sq_model.specs.declared.ledger.LedgerCall.TheVariants.{AtHome as CallAtHome, StartTask, CancelTask, ListTasks, FinishTask}
use Rattle.sq_model.specs.declared.place.Component.{Component}
use Rattle.sq_model.specs.declared.place.Component.TheVariants as part
use Rattle.sq_model.specs.declared.place.Site.{Site}
use Rattle.sq_model.specs.Replays.{HomeEvent, Replays}
use Rattle.sq_model.specs.Homes.{Home, HomeStep}
use Rattle.sq_model.specs.Directories.{Directory, DirectoryStep}
use Rattle.sq_model.specs.Ledgers.{Ledger, LedgerEvent, LedgerStep, is_own}
use Rattle.sq_model.specs.Systems.{HomeAt, System, Tag, DirectoryEvent, OfDirectory, OfLedger, OfHome, stamp_of, RunFrom, MomentsRise, is_alone, AreDirectory, AreLedger, HomeGoes, LedgerGoes, NamesItsPart, as_ledger, ledger_part_of, opening, IsRun, Opening}
use Rattle.sq_model.specs.Merges.{LedgerIsAlone, of_directory, of_home, of_ledger, is_before, InOrder, IsMerged, history_at}

one_number : (n : ℕ) → nat_eq n n ≡ true
one_number n = grind (arith, common_steps)

get_same : {X : Type 0} (xs : List X) (i : ℕ) (old new : X) → slice_get xs i ≡ Some old → slice_get (slice_set xs i new) i ≡ Some new
get_same [] i old new h = absurd cc
get_same (x ∷ xs) zero old new h = refl
get_same (x ∷ xs) (suc i) old new h = get_same xs i old new h

get_other : {X : Type 0} (xs : List X) (i j : ℕ) (new : X) → i ≢ j → slice_get (slice_set xs i new) j ≡ slice_get xs j
get_other [] i j new ne = refl
get_other (x ∷ xs) zero zero new ne = absurd (ne refl)
get_other (x ∷ xs) zero (suc j) new ne = refl
get_other (x ∷ xs) (suc i) zero new ne = refl
get_other (x ∷ xs) (suc i) (suc j) new ne = get_other xs i j new (λ e. ne (ap suc e))

same_at : (a b : HomeAt) → a.site ≡ b.site → a.home ≡ b.home → a ≡ b
same_at a b s h = ap (λ (x : Site). record { site = x; home = a.home }) s ∙ ap (λ (x : Home). record { site = b.site; home = x }) h

-- what does nothing at an index leaves what is there
stays : (old new : Option HomeAt) → HomeGoes old [] new → new ≡ old
stays (Some old) (Some new) h = ap Some (same_at new old h.0 h.2)
stays None None h = refl
stays (Some old) None h = absurd h
stays None (Some new) h = absurd h

all_stay : (olds news : List HomeAt) → ((i : ℕ) → HomeGoes (slice_get olds i) [] (slice_get news i)) → news ≡ olds
all_stay [] [] h = refl
all_stay [] (new ∷ news) h = absurd (h 0)
all_stay (old ∷ olds) [] h = absurd (h 0)
all_stay (old ∷ olds) (new ∷ news) h =
    let first : Some new ≡ Some old = stays (Some old) (Some new) (h 0) in
    let rest : news ≡ olds = all_stay olds news (λ i. h (suc i)) in cc

same_system : (a b : System) → a.directory ≡ b.directory → a.ledger ≡ b.ledger → a.homes ≡ b.homes → a ≡ b
same_system a b d l h =
    ap (λ (x : Directory). record { directory = x; ledger = a.ledger; homes = a.homes }) d
    ∙ (ap (λ (x : Ledger). record { directory = b.directory; ledger = x; homes = a.homes }) l ∙ ap (λ (x : List HomeAt). record { directory = b.directory; ledger = b.ledger; homes = x }) h)

-- what is left of each home after an event of the home at i
left_each : (olds news : List HomeAt) (i : ℕ) (es : ℕ → List HomeEvent) (e : HomeEvent) (old : HomeAt) (mid : Home) → slice_get olds i ≡ Some old
    → ((j : ℕ) → HomeGoes (slice_get olds j) (cond (i == j) (e ∷ es j) (es j)) (slice_get news j))
    → HomeGoes (Some (record { site = old.site; home = mid })) (es i) (slice_get news i)
    → (j : ℕ) → HomeGoes (slice_get (slice_set olds i (record { site = old.site; home = mid })) j) (es j) (slice_get news j)
left_each olds news i es e old mid in_list each rest j =
    elim (eqb_tells i j) as (λ _. HomeGoes (slice_get (slice_set olds i (record { site = old.site; home = mid })) j) (es j) (slice_get news j)) [
      | inl p ↦ subst (λ (k : ℕ). HomeGoes (slice_get (slice_set olds i (record { site = old.site; home = mid })) k) (es k) (slice_get news k)) p.1
          (rw (get_same olds i old (record { site = old.site; home = mid }) in_list) rest)
      | inr p ↦ rw (get_other olds i j (record { site = old.site; home = mid }) p.1) (rw p.0 at (each j))
    ]

-- the first event of a home's part is a step of it, and the others go on from there
record HeadSteps (o : Option HomeAt) (e : HomeEvent) (es : List HomeEvent) (n : Option HomeAt) : Type 0 where
  old : HomeAt
  mid : Home
  in_list : o ≡ Some old
  component : e.component ≡ part.Home old.site.home
  step : HomeStep old.site old.home e.stamp.moment e.call e.reply mid
  rest : HomeGoes (Some (record { site = old.site; home = mid })) es n

head_steps : (o : Option HomeAt) (e : HomeEvent) (es : List HomeEvent) (n : Option HomeAt) → HomeGoes o (e ∷ es) n → HeadSteps o e es n
head_steps (Some old) e es (Some new) h =
    record { old = old; mid = h.2.0; in_list = refl; component = h.1.0; step = h.2.1; rest = (h.0, h.1.1, h.2.2) }
head_steps None e es None h = absurd cc
head_steps (Some old) e es None h = absurd h
head_steps None e es (Some new) h = absurd h

-- what the first event of a home does to the ledger, and the others of the ledger go on from there
record HeadLedger (alone : Bool) (l : Ledger) (home : HomeId) (e : HomeEvent) (es : List LedgerEvent) (after : Ledger) : Type 0 where
  mid : Ledger
  goes : LedgerGoes alone l home e mid
  names : AreLedger es
  rest : Replays LedgerStep mid es after

head_ledger : (alone : Bool) (l : Ledger) (home : HomeId) (component : Component) (e : HomeEvent) (es : List LedgerEvent) (after : Ledger) → component ≡ part.Home home
    → AreLedger (ledger_part_of alone component e ++ es) → Replays LedgerStep l (ledger_part_of alone component e ++ es) after → HeadLedger alone l home e es after
head_ledger true l home component e es after is names r = record { mid = l; goes = refl; names = names; rest = r }
head_ledger false l home component e es after is names r =
    let n : AreLedger (as_ledger home e ∷ es) = subst (λ (c : Component). AreLedger (ledger_part_of false c e ++ es)) is names in
    let s : Replays LedgerStep l (as_ledger home e ∷ es) after = subst (λ (c : Component). Replays LedgerStep l (ledger_part_of false c e ++ es) after) is r in
    record { mid = s.0; goes = s.1; names = n.1; rest = s.2 }

-- a call of the ledger's own names the ledger
own_part : (call : LedgerCall) (component : Component) → is_own call ≡ true → NamesItsPart call component → component ≡ part.Ledger
own_part (CallAtHome home call) component own names = absurd cc
own_part (StartTask source destination rate) component own names = names
own_part (CancelTask number) component own names = names
own_part (ListTasks source most) component own names = names
own_part (FinishTask number) component own names = names

-- where the events of each part lead to its value, the whole list is a run
pub run_from : (before after : System) (ts : List Tag)
    → ((i : ℕ) → HomeGoes (slice_get before.homes i) (of_home i ts) (slice_get after.homes i))
    → AreDirectory (of_directory ts) → Replays DirectoryStep before.directory (of_directory ts) after.directory
    → LedgerIsAlone ts → AreLedger (of_ledger ts) → Replays LedgerStep before.ledger (of_ledger ts) after.ledger
    → RunFrom before ts after
run_from before after [] each own directory alone names ledger = same_system after before directory ledger (all_stay before.homes after.homes each)
run_from before after (OfDirectory e ∷ ts) each own directory alone names ledger =
    let mid : System = record before { directory = directory.0 } in
    (mid, record { component = own.0; step = directory.1; ledger = refl; homes = refl }, run_from mid after ts each own.1 directory.2 alone names ledger)
run_from before after (OfLedger e ∷ ts) each own directory alone names ledger =
    let mid : System = record before { ledger = ledger.0 } in
    (mid, record { component = own_part e.call e.component alone.0 names.0; own = alone.0; step = ledger.1; directory = refl; homes = refl }, run_from mid after ts each own directory alone.1 names.1 ledger.2)
run_from before after (OfHome i e ∷ ts) each own directory alone names ledger =
    let h = head_steps (slice_get before.homes i) e (of_home i ts) (slice_get after.homes i) (rw (one_number i) at (each i)) in
    let l = head_ledger (is_alone e.call) before.ledger h.old.site.home e.component e (of_ledger ts) after.ledger h.component names ledger in
    let mid : System = record { directory = before.directory; ledger = l.mid; homes = slice_set before.homes i (record { site = h.old.site; home = h.mid }) } in (
      mid,
      record { old = h.old; new = h.mid; in_list = h.in_list; component = h.component; step = h.step; ledger = l.goes; homes = refl; directory = refl },
      run_from mid after ts (left_each before.homes after.homes i (λ j. of_home j ts) e h.old h.mid h.in_list each h.rest) own directory alone l.names l.rest,
    )

-- what is sorted by stamp has moments that never fall
not_less : (t u : Tag) → is_before u t ≡ false → (stamp_of t).moment ≤ (stamp_of u).moment
not_less t u h = grind (arith, common_steps)

all_not_less : (t : Tag) (ts : List Tag) → AllByRecursion (λ u. is_before u t ≡ false) ts → AllByRecursion (λ u. (stamp_of t).moment ≤ (stamp_of u).moment) ts
all_not_less t [] h = tt
all_not_less t (u ∷ ts) h = (not_less t u h.0, all_not_less t ts h.1)

pub rises_all : (low : ℕ) (ts : List Tag) → AllByRecursion (λ u. low ≤ (stamp_of u).moment) ts → InOrder is_before ts → MomentsRise low ts
rises_all low [] all order = tt
rises_all low (t ∷ ts) all order = (all.0, rises_all (stamp_of t).moment ts (all_not_less t ts order.0) order.1)

none_below_zero : (ts : List Tag) → AllByRecursion (λ u. 0 ≤ (stamp_of u).moment) ts
none_below_zero [] = tt
none_below_zero (t ∷ ts) = (omega arith, none_below_zero ts)

-- histories that are merged are one run
pub merged_run : (o : Opening) (directory : List DirectoryEvent) (ledger : List LedgerEvent) (homes : List (List HomeEvent)) (run : List Tag) (after : System)
    → IsMerged directory ledger homes run
    → ((i : ℕ) → HomeGoes (slice_get (opening o).homes i) (history_at homes i) (slice_get after.homes i))
    → AreDirectory directory → Replays DirectoryStep (opening o).directory directory after.directory
    → AreLedger ledger → Replays LedgerStep (opening o).ledger ledger after.ledger
    → IsRun o run after
merged_run o directory ledger homes run after merged each own goes names moves = record {
  steps = run_from (opening o) after run (λ i. rw (merged.of_each_home i) (each i)) (rw merged.of_the_directory own) (rw merged.of_the_directory goes)
      merged.ledger_is_alone (rw merged.of_the_ledger names) (rw merged.of_the_ledger moves);
  moments = rises_all 0 run (none_below_zero run) merged.in_order;
}
