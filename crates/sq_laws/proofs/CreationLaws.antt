-- Queues are numbered in the order in which they are made, and their names are answered in that order.
use Rattle.std.proofs.Common.{ap, ◌≡◌, ℕ, zero, suc, ◌<◌, ◌≤◌, Bool, true, false, not, cond, List, [], ◌∷◌, ◌++◌, length, map, refl, sym, ◌∙◌, subst, arith, ◌⊎◌, inl, inr, Option, Some, None}
use Rattle.std.specs.Prelude.{◌-◌, ◌==◌, ◌↔◌, filter, slice_get, slice_index_or, unwrap_or, option_map, if◌then◌else◌}
use Rattle.std.specs.List.{AllByRecursion, Contains}
use Rattle.std.proofs.lemmas.Bool.{eqb-true}
use Rattle.std.proofs.lemmas.Grind.{common_steps}
use Rattle.std.proofs.lemmas.List.{append_assoc, append-nil}
use Rattle.std.proofs.lemmas.Slice.Eq.{bytes_eq-Decides}
use Rattle.sq_base.specs.declared.settings.Redrive.{Redrive}
use Rattle.sq_model.specs.declared.directory.Attributes.{Attributes}
use Rattle.sq_model.specs.declared.directory.DirectoryCall.{DirectoryCall}
use Rattle.sq_model.specs.declared.directory.DirectoryCall.TheVariants as asks
use Rattle.sq_model.specs.declared.directory.DirectoryReply.{DirectoryReply}
use Rattle.sq_model.specs.declared.directory.DirectoryReply.TheVariants as answers
use Rattle.sq_model.specs.declared.directory.NamePrefix.{NamePrefix}
use Rattle.sq_model.specs.declared.directory.Queue.{Queue}
use Rattle.sq_model.specs.declared.directory.QueueSettings.{QueueSettings}
use Rattle.sq_model.specs.declared.policy.RedrivePolicy.{RedrivePolicy}
use Rattle.sq_model.specs.Directories.{Creates, Directory, DirectoryStep, HasPolicy, IsDirectory, IsPolicy, IsThere, begins, changed_queue, changed_redrive, has_name, has_target, is_source_of, names_with, new_queue, opening_directory, queue_of, with_attributes}
use Rattle.sq_model.specs.Replays.{Replays}
use Rattle.sq_model.specs.Rises.{Rise}
use Rattle.sq_model.specs.Systems.{DirectoryEvent}
use Rattle.sq_laws.specs.Creations.{IsBegunBy, IsSource, NamedByPolicy, AreInOrder, made_by, made_in, named_if_new}
use Rattle.sq_laws.proofs.DirectoryHolds.{directory_holds, purges, sets}
use Rattle.sq_laws.proofs.DirectoryLists.{IsChange, counted_cons, counts, found_all, found_named, name_stays, number_stays, one_changed, some_counted}
use Rattle.sq_laws.proofs.LedgerLists.{all_append, all_filtered, all_mapped, all_with, one_longer, some_same}
use Rattle.sq_laws.proofs.RiseLaws.{rise_filtered}

-- ---- the n-th queue has number n

module _ {X : Type 0} where
  nth_kept : (xs ys : List X) (k : ℕ) (x : X) → slice_get xs k ≡ Some x → slice_get (xs ++ ys) k ≡ Some x
  nth_kept [] ys k x e = absurd cc
  nth_kept (y ∷ xs) ys zero x e = e
  nth_kept (y ∷ xs) ys (suc k) x e = nth_kept xs ys k x e

  nth_last : (xs : List X) (x : X) → slice_get (xs ++ x ∷ []) (length xs) ≡ Some x
  nth_last [] x = refl
  nth_last (y ∷ xs) x = nth_last xs x

-- the queue is the one that was made at its number
abbrev IsNth : List (List ℕ) → Queue → Type 0
IsNth made queue = slice_get made (queue.number - 1) ≡ Some queue.name

-- the queue that homes go by of a policy is the one of the name that the policy has
abbrev PointsTo : List (List ℕ) → Option RedrivePolicy → Option Redrive → Type 0
PointsTo made (Some policy) (Some redrive) = slice_get made (redrive.target - 1) ≡ Some policy.target
PointsTo made policy redrive = Unit {0}

abbrev HasNamed : List (List ℕ) → Queue → Type 0
HasNamed made queue = PointsTo made queue.redrive queue.settings.redrive

-- these are all that were made, each queue at its number, and what it has for its dead letters too
record AreMade (made : List (List ℕ)) (d : Directory) : Type 0 where
  pub counted : length made ≡ d.made
  pub each : AllByRecursion (IsNth made) d.queues
  pub targets : AllByRecursion (HasNamed made) d.queues

points_later : (made more : List (List ℕ)) (policy : Option RedrivePolicy) (redrive : Option Redrive) → PointsTo made policy redrive → PointsTo (made ++ more) policy redrive
points_later made more (Some policy) (Some redrive) h = nth_kept made more (redrive.target - 1) policy.target h
points_later made more (Some policy) None h = tt
points_later made more None redrive h = tt

to_found : (made : List (List ℕ)) (queues : List Queue) (policy : RedrivePolicy) (found : Option Queue) → queue_of policy.target queues ≡ found → AllByRecursion (IsNth made) queues
    → PointsTo made (Some policy) (option_map (λ number. record { target = number; max_receives = policy.max_receives }) (option_map (λ queue. queue.number) found))
to_found made queues policy None is h = tt
to_found made queues policy (Some queue) is h = found_all (IsNth made) policy.target queues queue h is ∙ ap Some (found_named policy.target queues queue is)

-- whatever policy is given
points_given : (made : List (List ℕ)) (queues : List Queue) (given : Option (Option RedrivePolicy)) (old : Option RedrivePolicy) (redrive : Option Redrive) → AllByRecursion (IsNth made) queues → PointsTo made old redrive
    → PointsTo made (unwrap_or given old) (changed_redrive queues given redrive)
points_given made queues None old redrive each h = h
points_given made queues (Some None) old redrive each h = tt
points_given made queues (Some (Some policy)) old redrive each h = to_found made queues policy (queue_of policy.target queues) refl each

nth_changed : (made : List (List ℕ)) (name : List ℕ) (change : Queue → Queue) → IsChange change → (queue : Queue) → IsNth made queue → IsNth made (one_changed name change queue)
nth_changed made name change c queue e = rw (number_stays name change c queue, name_stays name change c queue) e

target_changed : (made : List (List ℕ)) (name : List ℕ) (change : Queue → Queue) → ((queue : Queue) → HasNamed made queue → HasNamed made (change queue)) → (queue : Queue) → HasNamed made queue → HasNamed made (one_changed name change queue)
target_changed made name change keeps queue h = elim (has_name name queue) as (λ b. HasNamed made (if b then change queue else queue)) [ true ↦ keeps queue h | false ↦ h ]

changed_made : (made : List (List ℕ)) (d : Directory) (name : List ℕ) (change : Queue → Queue) → IsChange change → ((queue : Queue) → HasNamed made queue → HasNamed made (change queue)) → AreMade made d
    → AreMade made (record d { queues = changed_queue name change d.queues })
changed_made made d name change c keeps h = record {
  counted = h.counted;
  each = all_mapped (IsNth made) (IsNth made) (one_changed name change) d.queues (nth_changed made name change c) h.each;
  targets = all_mapped (HasNamed made) (HasNamed made) (one_changed name change) d.queues (target_changed made name change keeps) h.targets;
}

no_more : (made : List (List ℕ)) (d : Directory) → AreMade made d → AreMade (made ++ []) d
no_more made d h = rw (append-nil made) h

creates_made : (made : List (List ℕ)) (d : Directory) (m : ℕ) (name : List ℕ) (given : Attributes) (found : Option Queue) (settings : QueueSettings) (after : Directory) → Creates d m name given found settings after → AreMade made d → AreMade (made ++ named_if_new name found) after
creates_made made d m name given None settings after s h = rw s.2 (record {
  counted = let longer = one_longer made name in omega (arith, longer, h.counted);
  each = all_append (IsNth (made ++ name ∷ [])) d.queues (new_queue d name given)
      (all_with (IsNth made) (IsNth (made ++ name ∷ [])) d.queues (λ queue e. nth_kept made (name ∷ []) (queue.number - 1) queue.name e) h.each)
      (let number : d.made ≡ suc d.made - 1 = omega arith in subst (λ (k : ℕ). slice_get (made ++ name ∷ []) k ≡ Some name) (h.counted ∙ number) (nth_last made name));
  targets = all_append (HasNamed (made ++ name ∷ [])) d.queues (new_queue d name given)
      (all_with (HasNamed made) (HasNamed (made ++ name ∷ [])) d.queues (λ queue p. points_later made (name ∷ []) queue.redrive queue.settings.redrive p) h.targets)
      (points_later made (name ∷ []) (new_queue d name given).redrive (new_queue d name given).settings.redrive (points_given made d.queues given.redrive None None h.each tt));
})
creates_made made d m name given (Some queue) settings after s h = rw s.2 (no_more made d h)

step_made : (made : List (List ℕ)) (d : Directory) (m : ℕ) (call : DirectoryCall) (reply : DirectoryReply) (after : Directory) → DirectoryStep d m call reply after → AreMade made d → AreMade (made ++ made_by d call) after
unfolding DirectoryStep
step_made made d m (asks.Create name given) (answers.Made settings) after s h = creates_made made d m name given (queue_of name d.queues) settings after s h
step_made made d m (asks.Set name given) (answers.Changed changed) after s h = rw s.5 (no_more made _ (changed_made made d name (with_attributes d.queues given) (sets d.queues given) (λ queue p. points_given made d.queues given.redrive queue.redrive queue.settings.redrive h.each p) h))
step_made made d m (asks.Remove name) (answers.Removed number) after s h = rw s.3 (no_more made _ (record { counted = h.counted; each = all_filtered (IsNth made) (λ queue. not (has_name name queue)) d.queues h.each; targets = all_filtered (HasNamed made) (λ queue. not (has_name name queue)) d.queues h.targets }))
step_made made d m (asks.PurgeTicket name) (answers.Ticket number) after s h = rw s.4 (no_more made _ (changed_made made d name (λ q. record q { last_purge = Some m }) (purges m) (λ queue p. p) h))
step_made made d m (asks.Url name) (answers.Found number) after s h = rw s.1 (no_more made d h)
step_made made d m (asks.List prefix) (answers.Listed names) after s h = rw s.1 (no_more made d h)
step_made made d m (asks.Sources name) (answers.Sources names) after s h = rw s.1 (no_more made d h)
step_made made d m (asks.Read name) (answers.Read attributes) after s h = rw s.1 (no_more made d h)
step_made made d m call reply after s h = elim s [ ]

all_made : (made : List (List ℕ)) (d : Directory) (events : List DirectoryEvent) (after : Directory) → AreMade made d → (r : Replays DirectoryStep d events after) → AreMade (made ++ made_in d events after r) after
all_made made d [] after h r = rw r (no_more made d h)
all_made made d (e ∷ es) after h r =
    subst (λ (names : List (List ℕ)). AreMade names after) (append_assoc made (made_by d e.call) (made_in r.0 es after r.2))
    (all_made (made ++ made_by d e.call) r.0 es after (step_made made d e.stamp.moment e.call e.reply r.0 r.1 h) r.2)

from_opening : (most : ℕ) (events : List DirectoryEvent) (d : Directory) (r : Replays DirectoryStep (opening_directory most) events d) → AreMade (made_in (opening_directory most) events d r) d
from_opening most events d r = all_made [] (opening_directory most) events d (record { counted = refl; each = tt; targets = tt }) r

pub numbered : (most : ℕ) (events : List DirectoryEvent) (d : Directory) (r : Replays DirectoryStep (opening_directory most) events d) (name : List ℕ) (queue : Queue) → IsThere d name queue
    → slice_get (made_in (opening_directory most) events d r) (queue.number - 1) ≡ Some name
numbered most events d r name queue there = found_all (IsNth (made_in (opening_directory most) events d r)) name d.queues queue (from_opening most events d r).each there ∙ ap Some (found_named name d.queues queue there)

-- ---- names of the queues of a kind

abbrev IsFoundIn : List Queue → Queue → Type 0
IsFoundIn queues queue = queue_of queue.name queues ≡ Some queue

found_later : (x : Queue) (xs : List Queue) (queue : Queue) → counts queue.name (x ∷ xs) ≤ 1 → IsFoundIn xs queue → IsFoundIn (x ∷ xs) queue
found_later x xs queue once e =
    let some = some_counted queue.name xs queue e in
    let sum = subst (λ (k : ℕ). k ≤ 1) (counted_cons queue.name x xs) once in
    elim (has_name queue.name x) as (λ b. has_name queue.name x ≡ b → cond b (Some x) (queue_of queue.name xs) ≡ Some queue) [
      | true ↦ (λ n. let two = rw n at sum in absurd (omega (arith, two, some)))
      | false ↦ (λ n. e)
    ] refl

-- where no two have one name, each is found by its own
each_found : (queues : List Queue) → ((name : List ℕ) → counts name queues ≤ 1) → AllByRecursion (IsFoundIn queues) queues
each_found [] once = tt
each_found (x ∷ xs) once =
    let fewer : (name : List ℕ) → counts name xs ≤ 1 = λ name. let sum = subst (λ (k : ℕ). k ≤ 1) (counted_cons name x xs) (once name) in omega (arith, sum) in
    (ap (λ b. cond b (Some x) (queue_of x.name xs)) ((bytes_eq-Decides x.name x.name).1 refl), all_with (IsFoundIn xs) (IsFoundIn (x ∷ xs)) xs (λ queue e. found_later x xs queue (once queue.name) e) (each_found xs fewer))

names_rise : (queues : List Queue) (low : ℕ) (some : List Queue) (next : ℕ) → Rise (λ queue. queue.number) low some next → AllByRecursion (IsFoundIn queues) some → AreInOrder queues low (map (λ queue. queue.name) some)
names_rise queues low [] next h f = tt
names_rise queues low (x ∷ xs) next h f = (x, f.0, h.0, names_rise queues (suc x.number) xs next h.1 f.1)

abbrev names_of : (Queue → Bool) → List Queue → List (List ℕ)
names_of keep queues = map (λ queue. queue.name) (filter keep queues)

kept_rise : (keep : Queue → Bool) (d : Directory) → IsDirectory d → AreInOrder d.queues 1 (names_of keep d.queues)
kept_rise keep d h = names_rise d.queues 1 (filter keep d.queues) (suc d.made) (rise_filtered (λ queue. queue.number) keep 1 d.queues (suc d.made) h.numbers_rise) (all_filtered (IsFoundIn d.queues) keep d.queues (each_found d.queues h.names_once))

-- the queue of a name is there and is kept
abbrev IsKept : (Queue → Bool) → List Queue → List ℕ → Type 0
IsKept keep queues name = (queue : Queue) × (queue_of name queues ≡ Some queue) × (keep queue ≡ true)

module _ {X : Type 0} where
  contains_first : (x : X) (xs : List X) → Contains (x ∷ xs) x
  contains_first x xs = (0, omega arith, refl)

  contains_later : (y x : X) (xs : List X) → Contains xs x → Contains (y ∷ xs) x
  contains_later y x xs h = (suc h.0, omega (arith, h.1), h.2)

  contains_at : (y x : X) (xs : List X) (k : ℕ) → k < suc (length xs) → slice_index_or (y ∷ xs) k x ≡ x → (y ≡ x) ⊎ Contains xs x
  contains_at y x xs zero lt e = inl e
  contains_at y x xs (suc k) lt e = inr (k, omega (arith, lt), e)

  kept_all : (P : X → Type 0) (keep : X → Bool) (xs : List X) → AllByRecursion P xs → AllByRecursion (λ x. P x × (keep x ≡ true)) (filter keep xs)
  kept_all P keep [] h = tt
  kept_all P keep (x ∷ xs) h = elim (keep x) as (λ b. keep x ≡ b → AllByRecursion (λ y. P y × (keep y ≡ true)) (cond b (x ∷ filter keep xs) (filter keep xs))) [
    | true ↦ (λ e. ((h.0, e), kept_all P keep xs h.1))
    | false ↦ (λ e. kept_all P keep xs h.1)
  ] refl

named_is_kept : (keep : Queue → Bool) (queues some : List Queue) (name : List ℕ) → AllByRecursion (λ queue. IsFoundIn queues queue × (keep queue ≡ true)) some → Contains (map (λ queue. queue.name) some) name → IsKept keep queues name
named_is_kept keep queues [] name h c = let no : ⊥ = omega (arith, c.1) in absurd no
named_is_kept keep queues (x ∷ xs) name h c = elim (contains_at x.name name (map (λ queue. queue.name) xs) c.0 c.1 c.2) as (λ r. IsKept keep queues name) [
  | inl e ↦ subst (λ (n : List ℕ). IsKept keep queues n) e (x, h.0.0, h.0.1)
  | inr later ↦ named_is_kept keep queues xs name h.1 later
]

kept_is_named : (keep : Queue → Bool) (queues : List Queue) (name : List ℕ) (queue : Queue) → queue_of name queues ≡ Some queue → keep queue ≡ true → Contains (names_of keep queues) name
kept_is_named keep [] name queue e k = absurd cc
kept_is_named keep (x ∷ xs) name queue e k =
    let names = map (λ (q : Queue). q.name) in
    elim (has_name name x) as (λ b. has_name name x ≡ b → cond b (Some x) (queue_of name xs) ≡ Some queue → Contains (names (cond (keep x) (x ∷ filter keep xs) (filter keep xs))) name) [
      | true ↦ (λ n f. let is_kept : keep x ≡ true = ap keep (some_same x queue f) ∙ k in
          rw is_kept (subst (λ (y : List ℕ). Contains (x.name ∷ names_of keep xs) y) ((bytes_eq-Decides x.name name).0 n) (contains_first x.name (names_of keep xs))))
      | false ↦ (λ n f. let rest = kept_is_named keep xs name queue f k in
          elim (keep x) as (λ b. Contains (names (cond b (x ∷ filter keep xs) (filter keep xs))) name) [ true ↦ contains_later x.name name (names_of keep xs) rest | false ↦ rest ])
    ] refl e

kept_exactly : (keep : Queue → Bool) (d : Directory) (name : List ℕ) → IsDirectory d → Contains (names_of keep d.queues) name ↔ IsKept keep d.queues name
kept_exactly keep d name h = (
  named_is_kept keep d.queues (filter keep d.queues) name (kept_all (IsFoundIn d.queues) keep d.queues (each_found d.queues h.names_once)),
  λ is. kept_is_named keep d.queues name is.0 is.1 is.2,
)

-- ---- what ListQueues answers

filtered_names : (prefix : NamePrefix) (queues : List Queue) → names_with prefix queues ≡ names_of (λ queue. begins prefix queue.name) queues
filtered_names prefix [] = refl
filtered_names prefix (x ∷ xs) = elim (begins prefix x.name) as (λ b. cond b (x.name ∷ names_with prefix xs) (names_with prefix xs) ≡ map (λ queue. queue.name) (cond b (x ∷ filter (λ queue. begins prefix queue.name) xs) (filter (λ queue. begins prefix queue.name) xs))) [
  | true ↦ ap (λ (names : List (List ℕ)). x.name ∷ names) (filtered_names prefix xs)
  | false ↦ filtered_names prefix xs
]

pub listed_rise : (most : ℕ) (events : List DirectoryEvent) (d : Directory) → Replays DirectoryStep (opening_directory most) events d → (m : ℕ) (prefix : NamePrefix) (names : List (List ℕ)) (after : Directory)
    → DirectoryStep d m (asks.List prefix) (answers.Listed names) after → AreInOrder d.queues 1 names
unfolding DirectoryStep
listed_rise most events d r m prefix names after s = rw (s.0, filtered_names prefix d.queues) (kept_rise (λ queue. begins prefix queue.name) d (directory_holds most events d r))

begun : (prefix : NamePrefix) (d : Directory) (name : List ℕ) → IsKept (λ queue. begins prefix queue.name) d.queues name ↔ IsBegunBy prefix d name
begun prefix d name = (
  λ h. (h.0, h.1, subst (λ (n : List ℕ). begins prefix n ≡ true) (found_named name d.queues h.0 h.1) h.2),
  λ h. (h.0, h.1, subst (λ (n : List ℕ). begins prefix n ≡ true) (sym (found_named name d.queues h.0 h.1)) h.2),
)

through : {A B C : Type 0} → A ↔ B → B ↔ C → A ↔ C
through {A} {B} {C} f g = (λ a. g.0 (f.0 a), λ c. f.1 (g.1 c))

pub listed_exactly : (most : ℕ) (events : List DirectoryEvent) (d : Directory) → Replays DirectoryStep (opening_directory most) events d → (m : ℕ) (prefix : NamePrefix) (names : List (List ℕ)) (after : Directory)
    → DirectoryStep d m (asks.List prefix) (answers.Listed names) after → (name : List ℕ) → Contains names name ↔ IsBegunBy prefix d name
unfolding DirectoryStep
listed_exactly most events d r m prefix names after s name =
    rw (s.0, filtered_names prefix d.queues) (through (kept_exactly (λ queue. begins prefix queue.name) d name (directory_holds most events d r)) (begun prefix d name))

-- ---- what ListDeadLetterSourceQueues answers

itself : (number : ℕ) → (number == number) ≡ true
itself number = grind (arith, common_steps)

to_number : (number : ℕ) (policy : Option Redrive) → (has_target number policy ≡ true) ↔ ((redrive : Redrive) × (policy ≡ Some redrive) × (redrive.target ≡ number))
to_number number None = (λ e. absurd cc, λ h. let no : None ≡ Some h.0 = h.1 in absurd cc)
to_number number (Some redrive) = (
  λ e. (redrive, refl, eqb-true redrive.target number e),
  λ h. rw (ap (λ (r : Redrive). r.target) (some_same redrive h.0 h.1) ∙ h.2) (itself number),
)

is_source : (number : ℕ) (d : Directory) (name : List ℕ) → IsKept (is_source_of number) d.queues name ↔ IsSource number d name
is_source number d name = (
  λ h. (h.0, h.1, (to_number number h.0.settings.redrive).0 h.2),
  λ h. (h.0, h.1, (to_number number h.0.settings.redrive).1 h.2),
)

pub sources_rise : (most : ℕ) (events : List DirectoryEvent) (d : Directory) → Replays DirectoryStep (opening_directory most) events d → (m : ℕ) (asked : List ℕ) (names : List (List ℕ)) (after : Directory)
    → DirectoryStep d m (asks.Sources asked) (answers.Sources names) after → AreInOrder d.queues 1 names
unfolding DirectoryStep
sources_rise most events d r m asked names after s = rw s.0.2 (kept_rise (is_source_of s.0.0.number) d (directory_holds most events d r))

pub sources_exactly : (most : ℕ) (events : List DirectoryEvent) (d : Directory) → Replays DirectoryStep (opening_directory most) events d → (m : ℕ) (asked : List ℕ) (queue : Queue) (names : List (List ℕ)) (after : Directory)
    → IsThere d asked queue → DirectoryStep d m (asks.Sources asked) (answers.Sources names) after → (name : List ℕ) → Contains names name ↔ IsSource queue.number d name
unfolding DirectoryStep
sources_exactly most events d r m asked queue names after there s name =
    let same : s.0.0 ≡ queue = some_same s.0.0 queue (sym s.0.1 ∙ there) in
    rw (s.0.2, same) (through (kept_exactly (is_source_of queue.number) d name (directory_holds most events d r)) (is_source queue.number d name))

named_target : (made : List (List ℕ)) (count number : ℕ) (asked : List ℕ) (policy : Option RedrivePolicy) (redrive : Redrive) → IsPolicy count number policy (Some redrive) → PointsTo made policy (Some redrive) → slice_get made (redrive.target - 1) ≡ Some asked
    → (given : RedrivePolicy) × (policy ≡ Some given) × (given.target ≡ asked)
named_target made count number asked None redrive is to at = absurd is
named_target made count number asked (Some given) redrive is to at = (given, refl, some_same given.target asked (sym to ∙ at))

pub sources_name_it : (most : ℕ) (events : List DirectoryEvent) (d : Directory) → Replays DirectoryStep (opening_directory most) events d → (m : ℕ) (asked : List ℕ) (names : List (List ℕ)) (after : Directory)
    → DirectoryStep d m (asks.Sources asked) (answers.Sources names) after → (name : List ℕ) → Contains names name → NamedByPolicy asked d name
unfolding DirectoryStep
sources_name_it most events d r m asked names after s name c =
    let made = made_in (opening_directory most) events d r in
    let source = (sources_exactly most events d r m asked s.0.0 names after s.0.1 s name).0 c in
    let h = directory_holds most events d r in
    let at = numbered most events d r asked s.0.0 s.0.1 in
    let policy : IsPolicy d.made source.0.number source.0.redrive source.0.settings.redrive = found_all (HasPolicy d.made) name d.queues source.0 h.policies source.1 in
    let to : PointsTo made source.0.redrive source.0.settings.redrive = found_all (HasNamed made) name d.queues source.0 (from_opening most events d r).targets source.1 in (
      source.0,
      source.1,
      named_target made d.made source.0.number asked source.0.redrive source.2.0
          (subst (λ (x : Option Redrive). IsPolicy d.made source.0.number source.0.redrive x) source.2.1 policy)
          (subst (λ (x : Option Redrive). PointsTo made source.0.redrive x) source.2.1 to)
          (subst (λ (k : ℕ). slice_get made (k - 1) ≡ Some asked) (sym source.2.2) at),
    )
