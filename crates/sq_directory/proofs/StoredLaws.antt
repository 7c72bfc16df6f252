-- Queues that are stored by their names are the list of them.
use Rattle.std.proofs.Common.{◌≡◌, ℕ, suc, ◌+◌, Bool, true, false, not, cond, List, [], ◌∷◌, ◌++◌, length, refl, ap, sym, ◌∙◌, subst, Option, Some, None, arith}
use Rattle.std.specs.Prelude.{if◌then◌else◌, option_map, unwrap_or, Result, Ok, Err, IsOk, OnOk}
use Rattle.std.specs.List.{AllByRecursion}
use Rattle.std.specs.Map.{keys_of, values_of, lookup, set_value, remove_entry}
use Rattle.std.specs.Str.{bytes_eq}
use Rattle.std.specs.List.{IsDistinct}
use Rattle.std.proofs.lemmas.Slice.Eq.{bytes_eq-Decides}
use Rattle.indexmap.specs.IndexMap.{IndexMap, insert_entry}
use Rattle.indexmap.proofs.CallerLemmas.{insert_entry-new}
use Rattle.sq_model.specs.declared.directory.Queue.{Queue}
use Rattle.sq_base.specs.declared.settings.Redrive.{Redrive}
use Rattle.sq_model.specs.declared.directory.Attributes.{Attributes}
use Rattle.sq_model.specs.declared.policy.RedrivePolicy.{RedrivePolicy}
use Rattle.sq_model.specs.Directories.{has_name, queue_of, changed_queue, changed_redrive, queues_without, redrive_to, with_attributes}
use Rattle.sq_directory.specs.Stored.{AreNamed, with_given}

-- two tests of which each decides the same say the same
same_bool : (a b : Bool) → (a ≡ true → b ≡ true) → (b ≡ true → a ≡ true) → a ≡ b
same_bool true b f g = sym (f refl)
same_bool false true f g = g refl
same_bool false false f g = refl

flip : (a b : List ℕ) → bytes_eq a b ≡ bytes_eq b a
flip a b = same_bool (bytes_eq a b) (bytes_eq b a)
    (λ e. (bytes_eq-Decides b a).1 (sym ((bytes_eq-Decides a b).0 e)))
    (λ e. (bytes_eq-Decides a b).1 (sym ((bytes_eq-Decides b a).0 e)))

-- the name that an entry stands under is its queue's
test_is : (name : List ℕ) (e : List ℕ × Queue) → e.0 ≡ e.1.name → bytes_eq name e.0 ≡ has_name name e.1
test_is name e named = flip name e.0 ∙ ap (λ (k : List ℕ). bytes_eq k name) named

pub lookup_is : (name : List ℕ) (es : List (List ℕ × Queue)) → AreNamed es → lookup (bytes_eq name) es ≡ queue_of name (values_of es)
lookup_is name [] named = refl
lookup_is name (e ∷ es) named = rw (test_is name e named.0, lookup_is name es named.1) refl

-- a name that is found is that of no later queue
other_is : (name key other : List ℕ) → bytes_eq name key ≡ true → bytes_eq key other ≡ false → bytes_eq name other ≡ false
other_is name key other found apart =
    let same : name ≡ key = (bytes_eq-Decides name key).0 found in
    subst (λ (n : List ℕ). bytes_eq n other ≡ false) (sym same) apart

none_changed : (name : List ℕ) (change : Queue → Queue) (key : List ℕ) (es : List (List ℕ × Queue)) → AreNamed es → bytes_eq name key ≡ true → AllByRecursion (λ y. bytes_eq key y ≡ false) (keys_of es) → changed_queue name change (values_of es) ≡ values_of es
none_changed name change key [] named found apart = refl
none_changed name change key (e ∷ es) named found apart =
    let none : has_name name e.1 ≡ false = sym (test_is name e named.0) ∙ other_is name key e.0 found apart.0 in
    rw (none, none_changed name change key es named.1 found apart.1) refl

none_removed : (name key : List ℕ) (es : List (List ℕ × Queue)) → AreNamed es → bytes_eq name key ≡ true → AllByRecursion (λ y. bytes_eq key y ≡ false) (keys_of es) → queues_without name (values_of es) ≡ values_of es
none_removed name key [] named found apart = refl
none_removed name key (e ∷ es) named found apart =
    let none : has_name name e.1 ≡ false = sym (test_is name e named.0) ∙ other_is name key e.0 found apart.0 in
    rw (none, none_removed name key es named.1 found apart.1) refl

some_is : {X : Type 0} (x y : X) → Some x ≡ Some y → x ≡ y
some_is x y e = cc

-- the queue that is found, changed in its place
pub change_is : (name : List ℕ) (change : Queue → Queue) (old : Queue) (es : List (List ℕ × Queue)) → AreNamed es → IsDistinct bytes_eq (keys_of es) → lookup (bytes_eq name) es ≡ Some old
    → values_of (set_value (bytes_eq name) es (change old)) ≡ changed_queue name change (values_of es)
unfolding IsDistinct
change_is name change old [] named distinct found = absurd cc
change_is name change old (e ∷ es) named distinct found =
    elim (bytes_eq name e.0) as (λ b. bytes_eq name e.0 ≡ b → cond b (Some e.1) (lookup (bytes_eq name) es) ≡ Some old
    → values_of (cond b ((e.0, change old) ∷ es) (e ∷ set_value (bytes_eq name) es (change old))) ≡ (if has_name name e.1 then change e.1 else e.1) ∷ changed_queue name change (values_of es)) [
      | true ↦ (λ b f.
          let has : has_name name e.1 ≡ true = sym (test_is name e named.0) ∙ b in
          let is : e.1 ≡ old = some_is e.1 old f in
          rw (has, is, none_changed name change e.0 es named.1 b distinct.0) refl)
      | false ↦ (λ b f.
          let has : has_name name e.1 ≡ false = sym (test_is name e named.0) ∙ b in
          rw (has, change_is name change old es named.1 distinct.1 f) refl)
    ] refl found

-- where there is none, nothing changes
pub change_none : (name : List ℕ) (change : Queue → Queue) (es : List (List ℕ × Queue)) → AreNamed es → lookup (bytes_eq name) es ≡ None → changed_queue name change (values_of es) ≡ values_of es
change_none name change [] named none = refl
change_none name change (e ∷ es) named none =
    elim (bytes_eq name e.0) as (λ b. bytes_eq name e.0 ≡ b → cond b (Some e.1) (lookup (bytes_eq name) es) ≡ None
    → (if has_name name e.1 then change e.1 else e.1) ∷ changed_queue name change (values_of es) ≡ e.1 ∷ values_of es) [
      | true ↦ (λ b f. absurd cc)
      | false ↦ (λ b f.
          let has : has_name name e.1 ≡ false = sym (test_is name e named.0) ∙ b in
          rw (has, change_none name change es named.1 f) refl)
    ] refl none

pub removed_is : (name : List ℕ) (es : List (List ℕ × Queue)) → AreNamed es → IsDistinct bytes_eq (keys_of es) → values_of (remove_entry (bytes_eq name) es) ≡ queues_without name (values_of es)
unfolding IsDistinct
removed_is name [] named distinct = refl
removed_is name (e ∷ es) named distinct =
    elim (bytes_eq name e.0) as (λ b. bytes_eq name e.0 ≡ b
    → values_of (cond b es (e ∷ remove_entry (bytes_eq name) es)) ≡ (if not (has_name name e.1) then e.1 ∷ queues_without name (values_of es) else queues_without name (values_of es))) [
      | true ↦ (λ b. let has : has_name name e.1 ≡ true = sym (test_is name e named.0) ∙ b in rw (has, none_removed name e.0 es named.1 b distinct.0) refl)
      | false ↦ (λ b. let has : has_name name e.1 ≡ false = sym (test_is name e named.0) ∙ b in rw (has, removed_is name es named.1 distinct.1) refl)
    ] refl

pub removed_named : (name : List ℕ) (es : List (List ℕ × Queue)) → AreNamed es → AreNamed (remove_entry (bytes_eq name) es)
removed_named name [] named = tt
removed_named name (e ∷ es) named = elim (bytes_eq name e.0) as (λ b. AreNamed (cond b es (e ∷ remove_entry (bytes_eq name) es))) [ true ↦ named.1 | false ↦ (named.0, removed_named name es named.1) ]

pub change_named : (name : List ℕ) (old changed : Queue) (es : List (List ℕ × Queue)) → AreNamed es → lookup (bytes_eq name) es ≡ Some old → changed.name ≡ old.name → AreNamed (set_value (bytes_eq name) es changed)
change_named name old changed [] named found same = tt
change_named name old changed (e ∷ es) named found same =
    elim (bytes_eq name e.0) as (λ b. cond b (Some e.1) (lookup (bytes_eq name) es) ≡ Some old → AreNamed (cond b ((e.0, changed) ∷ es) (e ∷ set_value (bytes_eq name) es changed))) [
      | true ↦ (λ f. (named.0 ∙ ap (λ (q : Queue). q.name) (some_is e.1 old f) ∙ sym same, named.1))
      | false ↦ (λ f. (named.0, change_named name old changed es named.1 f same))
    ] found

pub put_named : (es : List (List ℕ × Queue)) (queue : Queue) → AreNamed es → AreNamed (es ++ (queue.name, queue) ∷ [])
put_named [] queue named = (refl, tt)
put_named (e ∷ es) queue named = (named.0, put_named es queue named.1)

pub values_put : (es : List (List ℕ × Queue)) (e : List ℕ × Queue) → values_of (es ++ e ∷ []) ≡ values_of es ++ e.1 ∷ []
values_put [] e = refl
values_put (x ∷ es) e = rw (values_put es e) refl

pub of_ok : {A E : Type 0} (r : Result A E) (P : Type 0) → IsOk r → OnOk r P → P
of_ok (Ok x) P is h = h
of_ok (Err e) P is h = absurd cc

-- without the one that is found there is one less
pub removed_shorter : (test : List ℕ → Bool) (queue : Queue) (es : List (List ℕ × Queue)) → lookup test es ≡ Some queue → length (values_of (remove_entry test es)) + 1 ≡ length (values_of es)
removed_shorter test queue [] found = absurd cc
removed_shorter test queue (e ∷ es) found =
    elim (test e.0) as (λ b. cond b (Some e.1) (lookup test es) ≡ Some queue → length (values_of (cond b es (e ∷ remove_entry test es))) + 1 ≡ suc (length (values_of es))) [
      | true ↦ (λ f. omega arith)
      | false ↦ (λ f. let rest = removed_shorter test queue es f in omega (arith, rest))
    ] found

-- one more where there was none of its name
pub put_is : {S A E : Type 0} (m : IndexMap (List ℕ) Queue S) (queue : Queue) (after : List (List ℕ × Queue)) (r : Result A E)
    → AreNamed m.entries → queue_of queue.name (values_of m.entries) ≡ None → IsOk r → OnOk r (after ≡ insert_entry bytes_eq m.entries queue.name queue) → after ≡ m.entries ++ (queue.name, queue) ∷ []
put_is m queue after r named other ok put =
    of_ok r (after ≡ insert_entry bytes_eq m.entries queue.name queue) ok put ∙ insert_entry-new bytes_eq m queue.name queue (lookup_is queue.name m.entries named ∙ other)

-- the redrive policy that is given, or the one that was there
unwrap_is : (queues : List Queue) (given : Option (Option RedrivePolicy)) (old : Option Redrive) → unwrap_or (option_map (redrive_to queues) given) old ≡ changed_redrive queues given old
unwrap_is queues None old = refl
unwrap_is queues (Some policy) old = refl

pub given_is : (queues : List Queue) (given : Attributes) (redrive : Option (Option Redrive)) (queue : Queue) → redrive ≡ option_map (redrive_to queues) given.redrive → with_given given redrive queue ≡ with_attributes queues given queue
given_is queues given redrive queue is = rw (is, unwrap_is queues given.redrive queue.settings.redrive) refl

pub given_all : (queues : List Queue) (given : Attributes) (redrive : Option (Option Redrive)) (name : List ℕ) (qs : List Queue) → redrive ≡ option_map (redrive_to queues) given.redrive
    → changed_queue name (with_given given redrive) qs ≡ changed_queue name (with_attributes queues given) qs
given_all queues given redrive name [] is = refl
given_all queues given redrive name (q ∷ qs) is = rw (given_is queues given redrive q is, given_all queues given redrive name qs is) refl
