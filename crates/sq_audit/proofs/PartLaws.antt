-- The parts of a list of events, and the list that has one part after another.
use Rattle.std.specs.Prelude.{◌≡◌, ℕ, ◌+◌, ◌<◌, ◌≤◌, Bool, true, false, ◌==◌, cond, List, [], ◌∷◌, ◌++◌, length, map, filter, slice_get, take, nat_eq, refl, Some}
use Rattle.std.specs.List.{AllByRecursion, flat_map}
use Rattle.std.specs.Ordering.{nat_cmp, is_lt}
use Rattle.std.proofs.Common.{zero, suc, arith, sym, ap, ◌∙◌, subst, inl, inr, append_assoc, get_or}
use Rattle.std.proofs.lemmas.Grind.{common_steps}
use Rattle.std.proofs.lemmas.Bool.Decides.{eqb_tells}
use Rattle.std.proofs.lemmas.List.{append-nil, take_more, length-append, length-take-le, length-map, map-append}
use Rattle.std.proofs.lemmas.List.Concat.{flat_map-append}
use Rattle.std.proofs.lemmas.List.Elements.{filter-append}
use Rattle.std.proofs.lemmas.Option.{get_or_from_slice_get, slice_get_within}
use Rattle.sq_model.specs.Replays.{HomeEvent}
use Rattle.sq_model.specs.Ledgers.{LedgerEvent, is_own}
use Rattle.sq_model.specs.Systems.{DirectoryEvent, Tag, OfDirectory, OfLedger, OfHome}
use Rattle.sq_model.specs.Merges.{of_directory, of_home, history_at, rank_of, InOrder}
use Rattle.sq_history.specs.HistoryValue.{HistoryValue}
use Rattle.sq_audit.specs.SystemNow.{events_of, home_tags, by_part, own_events}

abbrev pub is_directory : Tag → Bool
is_directory (OfDirectory e) = true
is_directory (OfLedger e) = false
is_directory (OfHome i e) = false

abbrev pub is_ledger : Tag → Bool
is_ledger (OfDirectory e) = false
is_ledger (OfLedger e) = true
is_ledger (OfHome i e) = false

-- the events of the ledger alone
abbrev pub own_has : Tag → List LedgerEvent
own_has (OfDirectory e) = []
own_has (OfLedger e) = e ∷ []
own_has (OfHome i e) = []

abbrev pub of_own : List Tag → List LedgerEvent
of_own ts = flat_map own_has ts

abbrev pub is_home : ℕ → Tag → Bool
is_home j (OfDirectory e) = false
is_home j (OfLedger e) = false
is_home j (OfHome i e) = i == j

pub directory_part : (ts : List Tag) → filter is_directory ts ≡ map OfDirectory (of_directory ts)
directory_part [] = refl
directory_part (OfDirectory e ∷ ts) = ap (λ us. OfDirectory e ∷ us) (directory_part ts)
directory_part (OfLedger e ∷ ts) = directory_part ts
directory_part (OfHome i e ∷ ts) = directory_part ts

pub own_part : (ts : List Tag) → filter is_ledger ts ≡ map OfLedger (of_own ts)
own_part [] = refl
own_part (OfDirectory e ∷ ts) = own_part ts
own_part (OfLedger e ∷ ts) = ap (λ us. OfLedger e ∷ us) (own_part ts)
own_part (OfHome i e ∷ ts) = own_part ts

pub home_part : (j : ℕ) (ts : List Tag) → filter (is_home j) ts ≡ map (λ e. OfHome j e) (of_home j ts)
home_part j [] = refl
home_part j (OfDirectory e ∷ ts) = home_part j ts
home_part j (OfLedger e ∷ ts) = home_part j ts
home_part j (OfHome i e ∷ ts) =
    let rest = home_part j ts in
    elim (eqb_tells i j) as (λ _. cond (i == j) (OfHome i e ∷ filter (is_home j) ts) (filter (is_home j) ts) ≡ map (λ e. OfHome j e) (cond (i == j) (e ∷ of_home j ts) (of_home j ts))) [
      | inl p ↦ rw p.0 (ap (λ k. OfHome k e ∷ filter (is_home j) ts) p.1 ∙ ap (λ us. OfHome j e ∷ us) rest)
      | inr p ↦ rw p.0 rest
    ]

-- a part is answered by itself
pub directory_alone : (ts : List Tag) → of_directory (filter is_directory ts) ≡ of_directory ts
directory_alone [] = refl
directory_alone (OfDirectory e ∷ ts) = ap (λ es. e ∷ es) (directory_alone ts)
directory_alone (OfLedger e ∷ ts) = directory_alone ts
directory_alone (OfHome i e ∷ ts) = directory_alone ts

pub own_alone : (ts : List Tag) → of_own (filter is_ledger ts) ≡ of_own ts
own_alone [] = refl
own_alone (OfDirectory e ∷ ts) = own_alone ts
own_alone (OfLedger e ∷ ts) = ap (λ es. e ∷ es) (own_alone ts)
own_alone (OfHome i e ∷ ts) = own_alone ts

pub home_alone : (j : ℕ) (ts : List Tag) → of_home j (filter (is_home j) ts) ≡ of_home j ts
home_alone j [] = refl
home_alone j (OfDirectory e ∷ ts) = home_alone j ts
home_alone j (OfLedger e ∷ ts) = home_alone j ts
home_alone j (OfHome i e ∷ ts) =
    let rest = home_alone j ts in
    elim (i == j) as (λ v. (i == j) ≡ v → of_home j (cond v (OfHome i e ∷ filter (is_home j) ts) (filter (is_home j) ts)) ≡ cond v (e ∷ of_home j ts) (of_home j ts)) [
      | true ↦ (λ p. rw p (ap (λ es. e ∷ es) rest))
      | false ↦ (λ p. rest)
    ] refl

same_number : (n : ℕ) → nat_eq n n ≡ true
same_number n = grind (arith, common_steps)

above : (a b : ℕ) → a < b → nat_eq b a ≡ false
above a b h = grind (arith, common_steps)

below : (a b : ℕ) → a < b → nat_eq a b ≡ false
below a b h = grind (arith, common_steps)

-- what a part has of one event of the system
abbrev directory_has : Tag → List DirectoryEvent
directory_has (OfDirectory e) = e ∷ []
directory_has (OfLedger e) = []
directory_has (OfHome i e) = []

abbrev home_has : ℕ → Tag → List HomeEvent
home_has j (OfDirectory e) = []
home_has j (OfLedger e) = []
home_has j (OfHome i e) = cond (i == j) (e ∷ []) []

directory_picked : (ts : List Tag) → of_directory ts ≡ flat_map directory_has ts
directory_picked [] = refl
directory_picked (OfDirectory e ∷ ts) = ap (λ es. e ∷ es) (directory_picked ts)
directory_picked (OfLedger e ∷ ts) = directory_picked ts
directory_picked (OfHome i e ∷ ts) = directory_picked ts

home_picked : (j : ℕ) (ts : List Tag) → of_home j ts ≡ flat_map (home_has j) ts
home_picked j [] = refl
home_picked j (OfDirectory e ∷ ts) = home_picked j ts
home_picked j (OfLedger e ∷ ts) = home_picked j ts
home_picked j (OfHome i e ∷ ts) = let rest = home_picked j ts in elim (i == j) as (λ v. cond v (e ∷ of_home j ts) (of_home j ts) ≡ cond v (e ∷ []) [] ++ flat_map (home_has j) ts) [ true ↦ ap (λ es. e ∷ es) rest | false ↦ rest ]

-- a part has none of the events of another part, and all of its own
none_picked : {X Y : Type 0} (has : Tag → List Y) (tag : X → Tag) → ((x : X) → has (tag x) ≡ []) → (xs : List X) → flat_map has (map tag xs) ≡ []
none_picked has tag none [] = refl
none_picked has tag none (x ∷ xs) = rw (none x) (none_picked has tag none xs)

each_picked : {X : Type 0} (has : Tag → List X) (tag : X → Tag) → ((x : X) → has (tag x) ≡ x ∷ []) → (xs : List X) → flat_map has (map tag xs) ≡ xs
each_picked has tag each [] = refl
each_picked has tag each (x ∷ xs) = rw (each x) (ap (λ rest. x ∷ rest) (each_picked has tag each xs))

none_of_homes : {Y : Type 0} (has : Tag → List Y) (c : ℕ) (homes : List (List HomeEvent)) → ((i : ℕ) (e : HomeEvent) → c ≤ i → has (OfHome i e) ≡ []) → flat_map has (home_tags c homes) ≡ []
none_of_homes has c [] none = refl
none_of_homes has c (es ∷ rest) none =
    rw (flat_map-append has (map (λ e. OfHome c e) es) (home_tags (c + 1) rest), none_picked has (λ e. OfHome c e) (λ e. none c e (omega arith)) es)
    (none_of_homes has (c + 1) rest (λ i e le. none i e (omega (arith, le))))

-- what a part has of all events, one part after another
by_part_picked : {Y : Type 0} (has : Tag → List Y) (directory : List DirectoryEvent) (ledger : List LedgerEvent) (homes : List (List HomeEvent))
    → flat_map has (by_part directory ledger homes) ≡ (flat_map has (map OfDirectory directory) ++ flat_map has (map OfLedger (own_events ledger))) ++ flat_map has (home_tags 0 homes)
by_part_picked has directory ledger homes =
    let own = own_events ledger in
    flat_map-append has (map OfDirectory directory ++ map OfLedger own) (home_tags 0 homes) ∙ ap (λ ys. ys ++ flat_map has (home_tags 0 homes)) (flat_map-append has (map OfDirectory directory) (map OfLedger own))

pub directory_of_all : (directory : List DirectoryEvent) (ledger : List LedgerEvent) (homes : List (List HomeEvent)) → of_directory (by_part directory ledger homes) ≡ directory
directory_of_all directory ledger homes =
    rw (directory_picked (by_part directory ledger homes), by_part_picked directory_has directory ledger homes, each_picked directory_has OfDirectory (λ e. refl) directory, none_picked directory_has OfLedger (λ e. refl) (own_events ledger), none_of_homes directory_has 0 homes (λ i e le. refl))
    (append-nil (directory ++ []) ∙ append-nil directory)

pub own_of_all : (directory : List DirectoryEvent) (ledger : List LedgerEvent) (homes : List (List HomeEvent)) → of_own (by_part directory ledger homes) ≡ own_events ledger
own_of_all directory ledger homes =
    by_part_picked own_has directory ledger homes
    ∙ rw (none_picked own_has OfDirectory (λ e. refl) directory, each_picked own_has OfLedger (λ e. refl) (own_events ledger), none_of_homes own_has 0 homes (λ i e le. refl)) (append-nil (own_events ledger))

home_mine : (i : ℕ) (e : HomeEvent) → home_has i (OfHome i e) ≡ e ∷ []
home_mine i e = rw (same_number i) refl

home_other : (j c : ℕ) (e : HomeEvent) → nat_eq c j ≡ false → home_has j (OfHome c e) ≡ []
home_other j c e h = rw h refl

home_of_homes : (i c : ℕ) (homes : List (List HomeEvent)) → flat_map (home_has (c + i)) (home_tags c homes) ≡ history_at homes i
home_of_homes i c [] = refl
home_of_homes zero c (es ∷ rest) =
    let e : c + 0 ≡ c = omega arith in
    rw (e, flat_map-append (home_has c) (map (λ e. OfHome c e) es) (home_tags (c + 1) rest), each_picked (home_has c) (λ e. OfHome c e) (home_mine c) es, none_of_homes (home_has c) (c + 1) rest (λ i e le. home_other c i e (above c i (omega (arith, le))))) (append-nil es)
home_of_homes (suc i) c (es ∷ rest) =
    let e : (c + 1) + i ≡ c + suc i = omega arith in
    rw (flat_map-append (home_has (c + suc i)) (map (λ e. OfHome c e) es) (home_tags (c + 1) rest), none_picked (home_has (c + suc i)) (λ e. OfHome c e) (λ e. home_other (c + suc i) c e (below c (c + suc i) (omega arith))) es)
    (subst (λ (k : ℕ). flat_map (home_has k) (home_tags (c + 1) rest) ≡ history_at rest i) e (home_of_homes i (c + 1) rest))

pub home_of_all : (directory : List DirectoryEvent) (ledger : List LedgerEvent) (homes : List (List HomeEvent)) (i : ℕ) → of_home i (by_part directory ledger homes) ≡ history_at homes i
home_of_all directory ledger homes i =
    let e : 0 + i ≡ i = omega arith in
    rw (home_picked i (by_part directory ledger homes), by_part_picked (home_has i) directory ledger homes, none_picked (home_has i) OfDirectory (λ e. refl) directory, none_picked (home_has i) OfLedger (λ e. refl) (own_events ledger))
    (subst (λ (k : ℕ). flat_map (home_has k) (home_tags 0 homes) ≡ history_at homes i) e (home_of_homes i 0 homes))

-- the events of one more home
pub home_tags_append : (c : ℕ) (xs ys : List (List HomeEvent)) → home_tags c (xs ++ ys) ≡ home_tags c xs ++ home_tags (c + length xs) ys
home_tags_append c [] ys = ap (λ k. home_tags k ys) (let e : c ≡ c + 0 = omega arith in e)
home_tags_append c (x ∷ xs) ys =
    let e : (c + 1) + length xs ≡ c + length (x ∷ xs) = omega arith in
    let first = map (λ e. OfHome c e) x in
    ap (λ ts. first ++ ts) (home_tags_append (c + 1) xs ys ∙ ap (λ k. home_tags (c + 1) xs ++ home_tags k ys) e) ∙ sym (append_assoc first (home_tags (c + 1) xs) (home_tags (c + length (x ∷ xs)) ys))

-- one element further
pub take_next : {X : Type 0} (xs : List X) (i : ℕ) (x : X) → slice_get xs i ≡ Some x → take (i + 1) xs ≡ take i xs ++ x ∷ []
take_next xs i x at = rw (take_more xs i x (slice_get_within xs i x at), get_or_from_slice_get xs i x x at) refl

-- what is made of one element more comes last
pub grown : {A B E : Type 0} (f : A → B) (of : E → B) (xs new : List A) (x : A) (front : List B) (before after : List E) (e : E) → new ≡ xs ++ x ∷ [] → f x ≡ of e → map f xs ≡ front ++ map of before → after ≡ before ++ e ∷ []
    → map f new ≡ front ++ map of after
grown f of xs new x front before after e pushed is was more =
    rw (pushed, map-append f xs (x ∷ []), was, more, map-append of before (e ∷ []), is) (append_assoc front (map of before) (of e ∷ []))

-- the events of the ledger alone, one element further
pub own_next : (es : List LedgerEvent) (i : ℕ) (e : LedgerEvent) → slice_get es i ≡ Some e → own_events (take (i + 1) es) ≡ own_events (take i es) ++ cond (is_own e.call) (e ∷ []) []
own_next es i e at = rw (take_next es i e at) (filter-append (λ (x : LedgerEvent). is_own x.call) (take i es) (e ∷ []))

pub own_adds : (es : List LedgerEvent) (i : ℕ) (e : LedgerEvent) → slice_get es i ≡ Some e → is_own e.call ≡ true → own_events (take (i + 1) es) ≡ own_events (take i es) ++ e ∷ []
own_adds es i e at own = rw (own_next es i e at, own) refl

pub own_counts : (es : List LedgerEvent) (i : ℕ) (e : LedgerEvent) → slice_get es i ≡ Some e → is_own e.call ≡ true → length (own_events (take (i + 1) es)) ≡ length (own_events (take i es)) + 1
own_counts es i e at own = rw (own_adds es i e at own) (length-append (own_events (take i es)) (e ∷ []))

pub own_stays : (es : List LedgerEvent) (i : ℕ) (e : LedgerEvent) → slice_get es i ≡ Some e → is_own e.call ≡ false → own_events (take (i + 1) es) ≡ own_events (take i es)
own_stays es i e at not_own = rw (own_next es i e at, not_own) (append-nil (own_events (take i es)))

pub by_part_more : (directory : List DirectoryEvent) (ledger : List LedgerEvent) (hs : List HistoryValue) (i : ℕ) (h : HistoryValue) → i < length hs → h ≡ get_or hs i h
    → by_part directory ledger (events_of (take (i + 1) hs)) ≡ by_part directory ledger (events_of (take i hs)) ++ map (λ e. OfHome i e) h.events
by_part_more directory ledger hs i h lt is =
    let n : 0 + length (events_of (take i hs)) ≡ i = rw (length-map (take i hs) (λ (h : HistoryValue). h.events), length-take-le i hs (omega arith)) (omega arith) in
    let more : events_of (take (i + 1) hs) ≡ events_of (take i hs) ++ h.events ∷ [] = rw (take_more hs i h lt, ← is) (map-append (λ (h : HistoryValue). h.events) (take i hs) (h ∷ [])) in
    let tags : home_tags 0 (events_of (take (i + 1) hs)) ≡ home_tags 0 (events_of (take i hs)) ++ map (λ e. OfHome i e) h.events =
    rw (more, home_tags_append 0 (events_of (take i hs)) (h.events ∷ []), n) (ap (λ ts. home_tags 0 (events_of (take i hs)) ++ ts) (append-nil (map (λ e. OfHome i e) h.events))) in
    rw tags (sym (append_assoc (map OfDirectory directory ++ map OfLedger (own_events ledger)) (home_tags 0 (events_of (take i hs))) (map (λ e. OfHome i e) h.events)))

-- the directory first, the ledger second, and then the homes in their order
abbrev pub rank_less : Tag → Tag → Bool
rank_less t u = is_lt (nat_cmp (rank_of t) (rank_of u))

not_less : (a b : ℕ) → b ≤ a → is_lt (nat_cmp a b) ≡ false
not_less a b h = grind (arith, common_steps)

pub all_append : {X : Type 0} (P : X → Type 0) (xs ys : List X) → AllByRecursion P xs → AllByRecursion P ys → AllByRecursion P (xs ++ ys)
all_append P [] ys h g = g
all_append P (x ∷ xs) ys h g = (h.0, all_append P xs ys h.1 g)

all_of_home : (low i : ℕ) (es : List HomeEvent) → low ≤ suc (suc i) → AllByRecursion (λ u. low ≤ rank_of u) (map (λ e. OfHome i e) es)
all_of_home low i [] h = tt
all_of_home low i (e ∷ es) h = (h, all_of_home low i es h)

all_of_ledger : (es : List LedgerEvent) → AllByRecursion (λ u. 1 ≤ rank_of u) (map OfLedger es)
all_of_ledger [] = tt
all_of_ledger (e ∷ es) = (omega arith, all_of_ledger es)

all_above : (low c : ℕ) (homes : List (List HomeEvent)) → low ≤ suc (suc c) → AllByRecursion (λ u. low ≤ rank_of u) (home_tags c homes)
all_above low c [] h = tt
all_above low c (es ∷ rest) h = all_append (λ u. low ≤ rank_of u) (map (λ e. OfHome c e) es) (home_tags (c + 1) rest) (all_of_home low c es h) (all_above low (c + 1) rest (omega arith))

none_less : (t : Tag) (ts : List Tag) → AllByRecursion (λ u. rank_of t ≤ rank_of u) ts → AllByRecursion (λ u. rank_less u t ≡ false) ts
none_less t [] h = tt
none_less t (u ∷ ts) h = (not_less (rank_of u) (rank_of t) h.0, none_less t ts h.1)

home_first : (c : ℕ) (es : List HomeEvent) (ts : List Tag) → AllByRecursion (λ u. suc (suc c) ≤ rank_of u) ts → InOrder rank_less ts → InOrder rank_less (map (λ e. OfHome c e) es ++ ts)
home_first c [] ts all order = order
home_first c (e ∷ es) ts all order =
    (none_less (OfHome c e) (map (λ e. OfHome c e) es ++ ts) (all_append (λ u. suc (suc c) ≤ rank_of u) (map (λ e. OfHome c e) es) ts (all_of_home (suc (suc c)) c es (omega arith)) all), home_first c es ts all order)

homes_ranked : (c : ℕ) (homes : List (List HomeEvent)) → InOrder rank_less (home_tags c homes)
homes_ranked c [] = tt
homes_ranked c (es ∷ rest) = home_first c es (home_tags (c + 1) rest) (all_above (suc (suc c)) (c + 1) rest (omega arith)) (homes_ranked (c + 1) rest)

all_from_zero : (ts : List Tag) → AllByRecursion (λ u. 0 ≤ rank_of u) ts
all_from_zero [] = tt
all_from_zero (t ∷ ts) = (omega arith, all_from_zero ts)

directory_first : (es : List DirectoryEvent) (ts : List Tag) → InOrder rank_less ts → InOrder rank_less (map OfDirectory es ++ ts)
directory_first [] ts order = order
directory_first (e ∷ es) ts order = (none_less (OfDirectory e) (map OfDirectory es ++ ts) (all_from_zero (map OfDirectory es ++ ts)), directory_first es ts order)

ledger_next : (es : List LedgerEvent) (ts : List Tag) → AllByRecursion (λ u. 1 ≤ rank_of u) ts → InOrder rank_less ts → InOrder rank_less (map OfLedger es ++ ts)
ledger_next [] ts all order = order
ledger_next (e ∷ es) ts all order = (none_less (OfLedger e) (map OfLedger es ++ ts) (all_append (λ u. 1 ≤ rank_of u) (map OfLedger es) ts (all_of_ledger es) all), ledger_next es ts all order)

pub all_ranked : (directory : List DirectoryEvent) (ledger : List LedgerEvent) (homes : List (List HomeEvent)) → InOrder rank_less (by_part directory ledger homes)
all_ranked directory ledger homes =
    subst (InOrder rank_less) (sym (append_assoc (map OfDirectory directory) (map OfLedger (own_events ledger)) (home_tags 0 homes)))
    (directory_first directory (map OfLedger (own_events ledger) ++ home_tags 0 homes) (ledger_next (own_events ledger) (home_tags 0 homes) (all_above 1 0 homes (omega arith)) (homes_ranked 0 homes)))
