-- Which queues may have which dead-letter queue, and when two policies are the same (SQS API Reference, CreateQueue).
use Rattle.std.specs.Prelude.{ℕ, Bool, true, false, ◌&&◌, ◌==◌, List, Option, Some, None}
use Rattle.std.specs.List.{list_any}
use Rattle.std.specs.Cmp.Lexicographic.{pointwise}
use Rattle.std.specs.Str.{bytes_eq}
use Rattle.sq_model.specs.declared.directory.Attributes.{Attributes}
use Rattle.sq_model.specs.declared.policy.AllowPolicy.{AllowPolicy}
use Rattle.sq_model.specs.declared.policy.AllowPolicy.TheVariants.{AllowAll, DenyAll, ByQueue}
use Rattle.sq_model.specs.declared.policy.RedrivePolicy.{RedrivePolicy}

-- a queue of this name may choose one with this policy for its dead letters
abbrev pub permits : Option AllowPolicy → List ℕ → Bool
permits None name = true
permits (Some AllowAll) name = true
permits (Some DenyAll) name = false
permits (Some (ByQueue names)) name = list_any (λ source. bytes_eq source name) names

abbrev pub lists_queues : Option AllowPolicy → Bool
lists_queues None = false
lists_queues (Some AllowAll) = false
lists_queues (Some DenyAll) = false
lists_queues (Some (ByQueue names)) = true

-- a policy is given that lists queues
abbrev pub has_list : Option (Option AllowPolicy) → Bool
has_list None = false
has_list (Some policy) = lists_queues policy

-- ---- the same policies

abbrev pub same_redrive : Option RedrivePolicy → Option RedrivePolicy → Bool
same_redrive None None = true
same_redrive (Some policy) (Some other) = bytes_eq policy.target other.target && policy.max_receives == other.max_receives
same_redrive None (Some other) = false
same_redrive (Some policy) None = false

abbrev pub same_allow : Option AllowPolicy → Option AllowPolicy → Bool
same_allow None None = true
same_allow (Some AllowAll) (Some AllowAll) = true
same_allow (Some DenyAll) (Some DenyAll) = true
same_allow (Some (ByQueue names)) (Some (ByQueue others)) = pointwise bytes_eq names others
same_allow policy other = false

abbrev pub agrees_redrive : Option (Option RedrivePolicy) → Option RedrivePolicy → Bool
agrees_redrive None policy = true
agrees_redrive (Some given) policy = same_redrive given policy

abbrev pub agrees_allow : Option (Option AllowPolicy) → Option AllowPolicy → Bool
agrees_allow None policy = true
agrees_allow (Some given) policy = same_allow given policy

-- ---- attributes that are asked for

abbrev pub nothing_given : Attributes
nothing_given = record { delay = None; retention = None; wait_time = None; timeout = None; redrive = None; allow = None }
