-- Lists of names, one queue more at a time.
use Rattle.std.proofs.Common.{◌≡◌, ◌<◌, ℕ, zero, suc, length, arith, Bool, true, false, cond, List, [], ◌∷◌, ◌++◌, map, filter, take, refl, ap, ◌+◌, add-one, Some, None, slice_get}
use Rattle.std.specs.Prelude.{if◌then◌else◌}
use Rattle.sq_model.specs.declared.directory.NamePrefix.{NamePrefix}
use Rattle.sq_model.specs.declared.directory.Queue.{Queue}
use Rattle.sq_model.specs.declared.task.NamedQueue.{NamedQueue}
use Rattle.sq_model.specs.Directories.{as_named, begins, names_with}
use Rattle.sq_directory.specs.declared.listing.Listing.{Listing}
use Rattle.sq_directory.specs.declared.listing.Listing.TheVariants.{Begins}
use Rattle.sq_directory.specs.Listings.{is_listed, listed_names}

take_next : {X : Type 0} (xs : List X) (k : ℕ) (x : X) → slice_get xs k ≡ Some x → take (suc k) xs ≡ take k xs ++ x ∷ []
take_next [] k x h = absurd cc
take_next (y ∷ ys) zero x h = let e : y ≡ x = cc in ap (λ z. z ∷ []) e
take_next (y ∷ ys) (suc k) x h = ap (λ zs. y ∷ zs) (take_next ys k x h)

take_none : {X : Type 0} (xs : List X) (k : ℕ) → slice_get xs k ≡ None → take (suc k) xs ≡ take k xs
take_none [] zero h = refl
take_none [] (suc k) h = refl
take_none (y ∷ ys) zero h = absurd cc
take_none (y ∷ ys) (suc k) h = ap (λ zs. y ∷ zs) (take_none ys k h)

map_put : {X Y : Type 0} (f : X → Y) (xs : List X) (x : X) → map f (xs ++ x ∷ []) ≡ map f xs ++ f x ∷ []
map_put f [] x = refl
map_put f (y ∷ ys) x = ap (λ zs. f y ∷ zs) (map_put f ys x)

filter_put : {X : Type 0} (test : X → Bool) (xs : List X) (x : X) → filter test (xs ++ x ∷ []) ≡ filter test xs ++ (if test x then x ∷ [] else [])
filter_put test [] x = refl
filter_put {X} test (y ∷ ys) x =
    elim (test y) as (λ b. cond b (y ∷ filter test (ys ++ x ∷ [])) (filter test (ys ++ x ∷ [])) ≡ cond b (y ∷ filter test ys) (filter test ys) ++ (if test x then x ∷ [] else [])) [
      | true ↦ ap (λ zs. y ∷ zs) (filter_put test ys x)
      | false ↦ filter_put test ys x
    ]

append_none : {X : Type 0} (xs : List X) → xs ++ [] ≡ xs
append_none [] = refl
append_none (x ∷ xs) = ap (λ zs. x ∷ zs) (append_none xs)

listed_put : (listing : Listing) (queues : List Queue) (queue : Queue) → is_listed listing queue ≡ true → listed_names listing (queues ++ queue ∷ []) ≡ listed_names listing queues ++ queue.name ∷ []
listed_put listing queues queue listed = rw (filter_put (is_listed listing) queues queue, listed) (map_put (λ (q : Queue). q.name) (filter (is_listed listing) queues) queue)

listed_skip : (listing : Listing) (queues : List Queue) (queue : Queue) → is_listed listing queue ≡ false → listed_names listing (queues ++ queue ∷ []) ≡ listed_names listing queues
listed_skip listing queues queue unlisted = rw (filter_put (is_listed listing) queues queue, unlisted) (ap (map (λ (q : Queue). q.name)) (append_none (filter (is_listed listing) queues)))

-- names that begin so are those of the queues whose names do
pub names_listed : (prefix : NamePrefix) (queues : List Queue) → listed_names (Begins prefix) queues ≡ names_with prefix queues
names_listed prefix [] = refl
names_listed prefix (queue ∷ queues) =
    elim (begins prefix queue.name) as (λ b. map (λ (q : Queue). q.name) (cond b (queue ∷ filter (is_listed (Begins prefix)) queues) (filter (is_listed (Begins prefix)) queues)) ≡ cond b (queue.name ∷ names_with prefix queues) (names_with prefix queues)) [
      | true ↦ ap (λ (names : List (List ℕ)). queue.name ∷ names) (names_listed prefix queues)
      | false ↦ names_listed prefix queues
    ]

-- where one is listed, there are some

pub listed_some : (listing : Listing) (queues : List Queue) (k : ℕ) (queue : Queue) → slice_get queues k ≡ Some queue → is_listed listing queue ≡ true → 0 < length (listed_names listing queues)
listed_some listing [] k queue found listed = absurd cc
listed_some listing (first ∷ queues) zero queue found listed =
    let is : first ≡ queue = cc in
    rw (is, listed) (omega arith)
listed_some listing (first ∷ queues) (suc k) queue found listed =
    elim (is_listed listing first) as (λ b. 0 < length (map (λ (q : Queue). q.name) (cond b (first ∷ filter (is_listed listing) queues) (filter (is_listed listing) queues)))) [
      | true ↦ omega arith
      | false ↦ listed_some listing queues k queue found listed
    ]

-- one index more

pub named_more : (names : List NamedQueue) (queues : List Queue) (k : ℕ) (queue : Queue) → names ≡ map as_named (take k queues) → slice_get queues k ≡ Some queue → names ++ as_named queue ∷ [] ≡ map as_named (take (k + 1) queues)
named_more names queues k queue is found = rw (add-one k, take_next queues k queue found, map_put as_named (take k queues) queue, is) refl

pub named_end : (names : List NamedQueue) (queues : List Queue) (k : ℕ) → names ≡ map as_named (take k queues) → slice_get queues k ≡ None → names ≡ map as_named (take (k + 1) queues)
named_end names queues k is none = rw (add-one k, take_none queues k none) is

pub listed_more : (listing : Listing) (names : List (List ℕ)) (queues : List Queue) (k : ℕ) (queue : Queue) → names ≡ listed_names listing (take k queues) → slice_get queues k ≡ Some queue → is_listed listing queue ≡ true
    → names ++ queue.name ∷ [] ≡ listed_names listing (take (k + 1) queues)
listed_more listing names queues k queue is found listed = rw (add-one k, take_next queues k queue found, listed_put listing (take k queues) queue listed, is) refl

pub listed_over : (listing : Listing) (names : List (List ℕ)) (queues : List Queue) (k : ℕ) (queue : Queue) → names ≡ listed_names listing (take k queues) → slice_get queues k ≡ Some queue → is_listed listing queue ≡ false
    → names ≡ listed_names listing (take (k + 1) queues)
listed_over listing names queues k queue is found unlisted = rw (add-one k, take_next queues k queue found, listed_skip listing (take k queues) queue unlisted) is

pub listed_end : (listing : Listing) (names : List (List ℕ)) (queues : List Queue) (k : ℕ) → names ≡ listed_names listing (take k queues) → slice_get queues k ≡ None → names ≡ listed_names listing (take (k + 1) queues)
listed_end listing names queues k is none = rw (add-one k, take_none queues k none) is
