-- Who is sent in a run, event by event, and each of them once.
use Rattle.std.proofs.Common.{◌≡◌, ℕ, ◌+◌, ◌<◌, List, [], ◌∷◌, ◌++◌, length, take, get_or, refl, ap, sym, ◌∙◌, append_assoc, false}
use Rattle.std.specs.Prelude.{◌||◌}
use Rattle.std.specs.List.{list_any}
use Rattle.std.specs.Cmp.{IsTotalOrder}
use Rattle.std.specs.List.Sorted.{IsStrictlySortedBy}
use Rattle.std.specs.BTreeSet.{BTreeSet, IsFromIterResult}
use Rattle.std.proofs.lemmas.Cmp.{then_total, on_total, nat_cmp_total}
use Rattle.std.proofs.lemmas.List.{take_more, map-append, append-nil}
use Rattle.std.proofs.lemmas.Map.Views.{btree_set_contains_iff, btree_set_contains_from_list}
use Rattle.sq_base.specs.declared.message_id.MessageId.{MessageId}
use Rattle.sq_model.specs.Places.{tag_sends, run_sends}
use Rattle.sq_model.specs.Systems.{Tag}
use Rattle.sq_audit.specs.RunLineages.{id_cmp, AreLineages, has_some}
use Rattle.sq_audit.specs.Tags.{tag_of, tags_of}
use Rattle.sq_audit.specs.declared.tagged.Tagged.{Tagged}
use Rattle.sq_audit.proofs.IdOrder.{id_apart}

ids_total : IsTotalOrder id_cmp
ids_total = then_total (on_total (λ (x : MessageId). x.queue) nat_cmp_total) (then_total (on_total (λ (x : MessageId). x.home) nat_cmp_total) (on_total (λ (x : MessageId). x.serial) nat_cmp_total))

sends_append : (ts us : List Tag) → run_sends (ts ++ us) ≡ run_sends ts ++ run_sends us
sends_append [] us = refl
sends_append (t ∷ ts) us = ap (λ (xs : List MessageId). tag_sends t ++ xs) (sends_append ts us) ∙ sym (append_assoc (tag_sends t) (run_sends ts) (run_sends us))

-- who is sent up to one more event
pub sends_more : (ts : List Tagged) (i : ℕ) (t : Tagged) → i < length ts → t ≡ get_or ts i t → run_sends (tags_of (take (i + 1) ts)) ≡ run_sends (tags_of (take i ts)) ++ tag_sends (tag_of t)
sends_more ts i t lt is =
    ap (λ (us : List Tagged). run_sends (tags_of us)) (take_more ts i t lt)
    ∙ ap (λ (u : Tagged). run_sends (tags_of (take i ts ++ u ∷ []))) (sym is)
    ∙ ap run_sends (map-append tag_of (take i ts) (t ∷ []))
    ∙ sends_append (tags_of (take i ts)) (tag_of t ∷ [])
    ∙ ap (λ (xs : List MessageId). run_sends (tags_of (take i ts)) ++ xs) (append-nil (tag_sends (tag_of t)))

-- the set of those that were sent has each once, in order
-- a message was sent where an event sends one
pub any_sent : (ts : List Tagged) → list_any (λ t. has_some (tag_sends (tag_of t))) ts ≡ has_some (run_sends (tags_of ts))
any_sent [] = refl
any_sent (t ∷ ts) = elim (tag_sends (tag_of t)) as (λ xs. (has_some xs || list_any (λ s. has_some (tag_sends (tag_of s))) ts) ≡ has_some (xs ++ run_sends (tags_of ts))) [ [] ↦ any_sent ts | x ∷ xs ↦ refl ]

pub none_is : {A : Type 0} (xs : List A) → has_some xs ≡ false → xs ≡ []
none_is [] h = refl
none_is (x ∷ xs) h = absurd cc

-- nothing is listed where none was sent
pub no_lineages : (run : List Tag) → run_sends run ≡ [] → AreLineages run []
unfolding IsStrictlySortedBy
no_lineages run none = record { rising = tt; each = λ x. rw none (λ there. there, λ there. there) }

pub set_lineages : (run : List Tag) (sends : List MessageId) (set : BTreeSet MessageId) → sends ≡ run_sends run → IsFromIterResult id_cmp sends set → AreLineages run set.keys
set_lineages run sends set is made = record {
  rising = made.1;
  each = λ x. (
      let in_list = btree_set_contains_iff ids_total id_apart set x in
      let from = btree_set_contains_from_list ids_total id_apart sends set made x in
      rw (← is) (λ h. from.0 (in_list.1 h), λ h. in_list.0 (from.1 h)));
}
