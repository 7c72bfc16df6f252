-- A queue has a whole policy or none, whatever attributes it is given.
use Rattle.std.proofs.Common.{◌≡◌, ℕ, ◌≤◌, Bool, true, false, not, List, refl, arith, Option, Some, None}
use Rattle.std.specs.Prelude.{◌&&◌, option_map, unwrap_or}
use Rattle.std.specs.Str.{bytes_eq}
use Rattle.sq_base.specs.declared.settings.Redrive.{Redrive}
use Rattle.sq_model.specs.declared.directory.Queue.{Queue}
use Rattle.sq_model.specs.declared.policy.RedrivePolicy.{RedrivePolicy}
use Rattle.sq_model.specs.Directories.{IsPolicy, IsTarget, changed_redrive, is_permitted, may_have, queue_of}

and_left : (a b : Bool) → (a && b) ≡ true → a ≡ true
and_left true b h = refl
and_left false b h = absurd cc

and_right : (a b : Bool) → (a && b) ≡ true → b ≡ true
and_right true b h = h
and_right false b h = absurd cc

not_true : (b : Bool) → not b ≡ true → b ≡ false
not_true true h = absurd cc
not_true false h = refl

-- each queue of another name may be the target of the one of this name and number
abbrev pub AreTargets : ℕ → ℕ → List Queue → List ℕ → Type 0
AreTargets made number queues name = (target : List ℕ) (queue : Queue) → bytes_eq target name ≡ false → queue_of target queues ≡ Some queue → IsTarget made number queue.number

to_target : (made number : ℕ) (queues : List Queue) (name : List ℕ) (policy : RedrivePolicy) (found : Option Queue) → queue_of policy.target queues ≡ found → (not (bytes_eq policy.target name) && is_permitted found name) ≡ true → AreTargets made number queues name
    → IsPolicy made number (Some policy) (option_map (λ target. record { target = target; max_receives = policy.max_receives }) (option_map (λ queue. queue.number) found))
to_target made number queues name policy None e may targets = let denied : false ≡ true = and_right (not (bytes_eq policy.target name)) false may in absurd cc
to_target made number queues name policy (Some queue) e may targets = (targets policy.target queue (not_true (bytes_eq policy.target name) (and_left (not (bytes_eq policy.target name)) _ may)) e, refl)

pub given_policy : (made number : ℕ) (queues : List Queue) (name : List ℕ) (given : Option (Option RedrivePolicy)) (old : Option RedrivePolicy) (redrive : Option Redrive) → may_have queues name given ≡ true → AreTargets made number queues name
    → IsPolicy made number old redrive → IsPolicy made number (unwrap_or given old) (changed_redrive queues given redrive)
given_policy made number queues name None old redrive may targets h = h
given_policy made number queues name (Some None) old redrive may targets h = tt
given_policy made number queues name (Some (Some policy)) old redrive may targets h = to_target made number queues name policy (queue_of policy.target queues) refl may targets

-- a policy stays whole as more queues are made
pub later_policy : (made later number : ℕ) (given : Option RedrivePolicy) (redrive : Option Redrive) → made ≤ later → IsPolicy made number given redrive → IsPolicy later number given redrive
later_policy made later number None None le h = tt
later_policy made later number None (Some redrive) le h = elim h [ ]
later_policy made later number (Some given) None le h = elim h [ ]
later_policy made later number (Some given) (Some redrive) le h = (record { first = h.0.first; was_made = omega (arith, le, h.0.was_made); other = h.0.other }, h.1)
