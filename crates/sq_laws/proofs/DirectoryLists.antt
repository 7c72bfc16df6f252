-- Lists of queues, as one is looked up, changed or taken out.
use Rattle.std.proofs.Common.{ap, ◌<◌, ◌≡◌, ◌≢◌, ℕ, suc, ◌+◌, ◌≤◌, Bool, true, false, not, cond, List, [], ◌∷◌, ◌++◌, length, map, refl, sym, ◌∙◌, subst, arith, Some, None}
use Rattle.std.specs.Prelude.{count_by, filter, if◌then◌else◌}
use Rattle.std.specs.List.{AllByRecursion}
use Rattle.std.specs.Str.{bytes_eq}
use Rattle.std.proofs.lemmas.List.Sums.{sum_by-cons}
use Rattle.std.proofs.lemmas.Slice.Eq.{bytes_eq-Decides}
use Rattle.sq_model.specs.declared.directory.Queue.{Queue}
use Rattle.sq_model.specs.Directories.{changed_queue, has_name, queue_of, queues_without}
use Rattle.sq_model.specs.Rises.{Rise}
use Rattle.sq_laws.proofs.LedgerLists.{all_filtered, all_with, count_append, found_of_all, some_same}

-- ---- a change of the queue of a name, and what holds of it

abbrev pub one_changed : List ℕ → (Queue → Queue) → Queue → Queue
one_changed name change queue = if has_name name queue then change queue else queue

-- a change that leaves number and name
pub record IsChange (change : Queue → Queue) : Type 0 where
  pub number : (queue : Queue) → (change queue).number ≡ queue.number
  pub name : (queue : Queue) → (change queue).name ≡ queue.name

pub number_stays : (name : List ℕ) (change : Queue → Queue) → IsChange change → (queue : Queue) → (one_changed name change queue).number ≡ queue.number
number_stays name change c queue = elim (has_name name queue) as (λ b. (if b then change queue else queue).number ≡ queue.number) [ true ↦ c.number queue | false ↦ refl ]

pub name_stays : (name : List ℕ) (change : Queue → Queue) → IsChange change → (queue : Queue) → (one_changed name change queue).name ≡ queue.name
name_stays name change c queue = elim (has_name name queue) as (λ b. (if b then change queue else queue).name ≡ queue.name) [ true ↦ c.name queue | false ↦ refl ]

-- ---- how many queues have a name

abbrev pub counts : List ℕ → List Queue → ℕ
counts name queues = count_by (has_name name) queues

pub count_filtered : (keep : Queue → Bool) (name : List ℕ) (queues : List Queue) → counts name (filter keep queues) ≤ counts name queues
count_filtered keep name [] = omega arith
count_filtered keep name (x ∷ xs) =
    let r = count_filtered keep name xs in
    let f : Queue → ℕ = λ q. cond (has_name name q) 1 0 in
    elim (keep x) as (λ b. counts name (cond b (x ∷ filter keep xs) (filter keep xs)) ≤ counts name (x ∷ xs)) [
      | true ↦ rw (sum_by-cons f x (filter keep xs), sum_by-cons f x xs) (omega (arith, r))
      | false ↦ rw (sum_by-cons f x xs) (omega (arith, r))
    ]

pub count_mapped : (change : Queue → Queue) (name : List ℕ) (queues : List Queue) → ((queue : Queue) → (change queue).name ≡ queue.name) → counts name (map change queues) ≡ counts name queues
count_mapped change name [] k = refl
count_mapped change name (x ∷ xs) k =
    let f : Queue → ℕ = λ q. cond (has_name name q) 1 0 in
    rw (sum_by-cons f (change x) (map change xs), sum_by-cons f x xs, k x, count_mapped change name xs k) refl

pub none_counted : (name : List ℕ) (queues : List Queue) → queue_of name queues ≡ None → counts name queues ≡ 0
none_counted name [] e = refl
none_counted name (x ∷ xs) e =
    let f : Queue → ℕ = λ q. cond (has_name name q) 1 0 in
    elim (has_name name x) as (λ b. has_name name x ≡ b → cond b (Some x) (queue_of name xs) ≡ None → counts name (x ∷ xs) ≡ 0) [
      | true ↦ (λ n g. absurd cc)
      | false ↦ (λ n g. rw (sum_by-cons f x xs, n, none_counted name xs g) refl)
    ] refl e

pub once_more : (queues : List Queue) (queue : Queue) (name : List ℕ) → queue_of queue.name queues ≡ None → counts name queues ≤ 1 → counts name (queues ++ queue ∷ []) ≤ 1
once_more queues queue name e h = rw (count_append (has_name name) queues queue) (
    elim (has_name name queue) as (λ b. has_name name queue ≡ b → counts name queues + cond b 1 0 ≤ 1) [
      | true ↦ (λ n. let same : queue.name ≡ name = (bytes_eq-Decides queue.name name).0 n in rw (none_counted name queues (subst (λ (x : List ℕ). queue_of x queues ≡ None) same e)) (omega arith))
      | false ↦ (λ n. omega (arith, h))
    ] refl)

-- how many there are without those of a name
pub without_counts : (name : List ℕ) (queues : List Queue) → length (queues_without name queues) + counts name queues ≡ length queues
without_counts name [] = refl
without_counts name (x ∷ xs) =
    let r = without_counts name xs in
    let f : Queue → ℕ = λ q. cond (has_name name q) 1 0 in
    elim (has_name name x) as (λ b. has_name name x ≡ b → length (cond (not b) (x ∷ queues_without name xs) (queues_without name xs)) + counts name (x ∷ xs) ≡ suc (length xs)) [
      | true ↦ (λ n. rw (sum_by-cons f x xs, n) (omega (arith, r)))
      | false ↦ (λ n. rw (sum_by-cons f x xs, n) (omega (arith, r)))
    ] refl

pub some_counted : (name : List ℕ) (queues : List Queue) (queue : Queue) → queue_of name queues ≡ Some queue → 1 ≤ counts name queues
some_counted name [] queue e = absurd cc
some_counted name (x ∷ xs) queue e =
    let f : Queue → ℕ = λ q. cond (has_name name q) 1 0 in
    elim (has_name name x) as (λ b. has_name name x ≡ b → cond b (Some x) (queue_of name xs) ≡ Some queue → 1 ≤ counts name (x ∷ xs)) [
      | true ↦ (λ n g. rw (sum_by-cons f x xs, n) (omega arith))
      | false ↦ (λ n g. let r = some_counted name xs queue g in rw (sum_by-cons f x xs, n) (omega (arith, r)))
    ] refl e

-- ---- the numbers of queues

abbrev pub IsOther : ℕ → Queue → Type 0
IsOther number queue = queue.number ≢ number

-- what rises from above a number has no queue of it
pub above_other : (number low : ℕ) (queues : List Queue) (next : ℕ) → number < low → Rise (λ queue. queue.number) low queues next → AllByRecursion (IsOther number) queues
above_other number low [] next lt h = tt
above_other number low (x ∷ xs) next lt h = (λ e. omega (arith, lt, h.0, e), above_other number (suc x.number) xs next (omega (arith, lt, h.0)) h.1)

pub found_from : (name : List ℕ) (low : ℕ) (queues : List Queue) (next : ℕ) (queue : Queue) → Rise (λ q. q.number) low queues next → queue_of name queues ≡ Some queue → low ≤ queue.number
found_from name low [] next queue h e = absurd cc
found_from name low (x ∷ xs) next queue h e =
    elim (has_name name x) as (λ b. cond b (Some x) (queue_of name xs) ≡ Some queue → low ≤ queue.number) [
      | true ↦ (λ f. let same : x ≡ queue = cc in subst (λ (q : Queue). low ≤ q.number) same h.0)
      | false ↦ (λ f. let r = found_from name (suc x.number) xs next queue h.1 f in omega (arith, r, h.0))
    ] e

-- of those that are left when the queue of a name goes, none has its number
pub left_other : (name : List ℕ) (low : ℕ) (queues : List Queue) (next : ℕ) (queue : Queue) → Rise (λ q. q.number) low queues next → queue_of name queues ≡ Some queue → AllByRecursion (IsOther queue.number) (queues_without name queues)
left_other name low [] next queue h e = tt
left_other name low (x ∷ xs) next queue h e =
    elim (has_name name x) as (λ b. cond b (Some x) (queue_of name xs) ≡ Some queue → AllByRecursion (IsOther queue.number) (cond (not b) (x ∷ queues_without name xs) (queues_without name xs))) [
      | true ↦ (λ f. let same : x ≡ queue = cc in
          all_filtered (IsOther queue.number) (λ q. not (has_name name q)) xs (above_other queue.number (suc x.number) xs next (subst (λ (q : Queue). q.number < suc x.number) same (omega arith)) h.1))
      | false ↦ (λ f. let r = found_from name (suc x.number) xs next queue h.1 f in (λ k. omega (arith, r, k), left_other name (suc x.number) xs next queue h.1 f))
    ] e

rise_end : (low : ℕ) (queues : List Queue) (next : ℕ) → Rise (λ q. q.number) low queues next → low ≤ next
rise_end low [] next h = h
rise_end low (x ∷ xs) next h = let r = rise_end (suc x.number) xs next h.1 in omega (arith, r, h.0)

pub found_below : (name : List ℕ) (low : ℕ) (queues : List Queue) (next : ℕ) (queue : Queue) → Rise (λ q. q.number) low queues next → queue_of name queues ≡ Some queue → queue.number < next
found_below name low [] next queue h e = absurd cc
found_below name low (x ∷ xs) next queue h e =
    elim (has_name name x) as (λ b. cond b (Some x) (queue_of name xs) ≡ Some queue → queue.number < next) [
      | true ↦ (λ f. let same : x ≡ queue = cc in let r = rise_end (suc x.number) xs next h.1 in subst (λ (q : Queue). q.number < next) same (omega (arith, r)))
      | false ↦ (λ f. found_below name (suc x.number) xs next queue h.1 f)
    ] e

-- the queue that is found is as all are
pub found_all : (P : Queue → Type 0) (name : List ℕ) (queues : List Queue) (queue : Queue) → AllByRecursion P queues → queue_of name queues ≡ Some queue → P queue
found_all P name queues queue h e = found_of_all P (has_name name) queues queue h e

-- the queue that is found has the number of none of another name
pub found_other : (name : List ℕ) (low : ℕ) (queues : List Queue) (next : ℕ) (queue : Queue) → Rise (λ q. q.number) low queues next → queue_of name queues ≡ Some queue
    → AllByRecursion (λ other. has_name name other ≡ false → queue.number ≢ other.number) queues
found_other name low [] next queue h e = tt
found_other name low (x ∷ xs) next queue h e =
    elim (has_name name x) as (λ b. has_name name x ≡ b → cond b (Some x) (queue_of name xs) ≡ Some queue → AllByRecursion (λ other. has_name name other ≡ false → queue.number ≢ other.number) (x ∷ xs)) [
      | true ↦ (λ n f. let same : x ≡ queue = some_same x queue f in
          (λ k. absurd cc, all_with (IsOther queue.number) (λ other. has_name name other ≡ false → queue.number ≢ other.number) xs (λ other k a b. k (sym b)) (above_other queue.number (suc x.number) xs next (subst (λ (q : Queue). q.number < suc x.number) same (omega arith)) h.1)))
      | false ↦ (λ n f. let r = found_from name (suc x.number) xs next queue h.1 f in (λ k a. omega (arith, r, a), found_other name (suc x.number) xs next queue h.1 f))
    ] refl e

pub found_named : (name : List ℕ) (queues : List Queue) (queue : Queue) → queue_of name queues ≡ Some queue → queue.name ≡ name
found_named name [] queue e = absurd cc
found_named name (x ∷ xs) queue e =
    elim (has_name name x) as (λ b. has_name name x ≡ b → cond b (Some x) (queue_of name xs) ≡ Some queue → queue.name ≡ name) [
      | true ↦ (λ n f. subst (λ (q : Queue). q.name ≡ name) (some_same x queue f) ((bytes_eq-Decides x.name name).0 n))
      | false ↦ (λ n f. found_named name xs queue f)
    ] refl e

other_bytes : (a b : List ℕ) → bytes_eq a b ≡ false → bytes_eq b a ≡ false
other_bytes a b e = elim (bytes_eq b a) as (λ x. bytes_eq b a ≡ x → x ≡ false) [ true ↦ (λ n. let same : bytes_eq a b ≡ true = (bytes_eq-Decides a b).1 (sym ((bytes_eq-Decides b a).0 n)) in absurd cc) | false ↦ (λ n. refl) ] refl

-- two queues of two names have two numbers
pub found_differ : (name other : List ℕ) (queues : List Queue) (next : ℕ) (queue found : Queue) → Rise (λ q. q.number) 1 queues next → queue_of name queues ≡ Some queue → queue_of other queues ≡ Some found → bytes_eq name other ≡ false → queue.number ≢ found.number
found_differ name other queues next queue found h e f differ =
    found_all (λ q. has_name name q ≡ false → queue.number ≢ q.number) other queues found (found_other name 1 queues next queue h e) f (subst (λ (x : List ℕ). bytes_eq x name ≡ false) (sym (found_named other queues found f)) (other_bytes name other differ))

-- ---- a change of the one queue of a name

pub counted_cons : (name : List ℕ) (x : Queue) (xs : List Queue) → counts name (x ∷ xs) ≡ cond (has_name name x) 1 0 + counts name xs
counted_cons name x xs = sum_by-cons (λ q. cond (has_name name q) 1 0) x xs

none_changed : (name : List ℕ) (change : Queue → Queue) (queues : List Queue) → counts name queues ≡ 0 → changed_queue name change queues ≡ queues
none_changed name change [] e = refl
none_changed name change (x ∷ xs) e =
    let sum = sym (counted_cons name x xs) ∙ e in
    elim (has_name name x) as (λ b. has_name name x ≡ b → (if b then change x else x) ∷ changed_queue name change xs ≡ x ∷ xs) [
      | true ↦ (λ n. let one = rw n at sum in absurd (omega (arith, one)))
      | false ↦ (λ n. let none = rw n at sum in ap (λ (r : List Queue). x ∷ r) (none_changed name change xs (omega (arith, none))))
    ] refl

pub all_changed : (P : Queue → Type 0) (name : List ℕ) (change : Queue → Queue) (queues : List Queue) (queue : Queue) → queue_of name queues ≡ Some queue → counts name queues ≤ 1 → P (change queue) → AllByRecursion P queues → AllByRecursion P (changed_queue name change queues)
all_changed P name change [] queue e once p h = absurd cc
all_changed P name change (x ∷ xs) queue e once p h =
    let sum = subst (λ (k : ℕ). k ≤ 1) (counted_cons name x xs) once in
    elim (has_name name x) as (λ b. has_name name x ≡ b → cond b (Some x) (queue_of name xs) ≡ Some queue → AllByRecursion P ((if b then change x else x) ∷ changed_queue name change xs)) [
      | true ↦ (λ n g. let one = rw n at sum in (subst (λ (q : Queue). P (change q)) (sym (some_same x queue g)) p, rw (none_changed name change xs (omega (arith, one))) h.1))
      | false ↦ (λ n g. let none = rw n at sum in (h.0, all_changed P name change xs queue g (omega (arith, none)) p h.1))
    ] refl e
