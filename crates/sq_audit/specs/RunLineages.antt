-- The messages that were sent in a run, as a list.
use Rattle.std.specs.Prelude.{◌↔◌, Bool, true, false, List, [], ◌∷◌, Contains}
use Rattle.std.specs.List.Sorted.{IsStrictlySortedBy}
use Rattle.std.specs.Ordering.{nat_cmp, ordering_then}
use Rattle.std.specs.declared.cmp.Ordering.{Ordering}
use Rattle.sq_base.specs.declared.message_id.MessageId.{MessageId}
use Rattle.sq_model.specs.Places.{run_sends}
use Rattle.sq_model.specs.Systems.{Tag}

-- by queue, then by home, then by serial
abbrev pub id_cmp : MessageId → MessageId → Ordering
id_cmp a b = ordering_then (nat_cmp a.queue b.queue) (ordering_then (nat_cmp a.home b.home) (nat_cmp a.serial b.serial))

abbrev pub has_some : {A : Type 0} → List A → Bool
has_some [] = false
has_some (x ∷ xs) = true

-- each message that was sent in a run stands once, in rising order of id; no other stands there
pub record AreLineages (run : List Tag) (ids : List MessageId) : Type 0 where
  pub rising : IsStrictlySortedBy id_cmp ids
  pub each : (x : MessageId) → Contains ids x ↔ Contains (run_sends run) x
