-- What holds of the directory after any history.
use Rattle.std.proofs.Common.{◌≡◌, ℕ, suc, not, List, [], ◌∷◌, refl, sym, ◌∙◌, arith, Option, Some, None}
use Rattle.sq_model.specs.declared.directory.Attributes.{Attributes}
use Rattle.sq_model.specs.declared.directory.DirectoryCall.{DirectoryCall}
use Rattle.sq_model.specs.declared.directory.DirectoryCall.TheVariants as asks
use Rattle.sq_model.specs.declared.directory.DirectoryReply.{DirectoryReply}
use Rattle.sq_model.specs.declared.directory.DirectoryReply.TheVariants as answers
use Rattle.sq_model.specs.declared.directory.Queue.{Queue}
use Rattle.sq_model.specs.declared.directory.QueueSettings.{QueueSettings}
use Rattle.sq_model.specs.Directories.{Creates, Directory, DirectoryStep, HasPolicy, IsDirectory, IsGone, changed_queue, has_name, new_queue, opening_directory, queue_of, with_attributes}
use Rattle.sq_model.specs.Replays.{Replays}
use Rattle.sq_model.specs.Systems.{DirectoryEvent}
use Rattle.sq_laws.proofs.DirectoryLists.{IsChange, IsOther, all_changed, count_filtered, count_mapped, found_all, found_below, found_differ, found_from, left_other, name_stays, number_stays, once_more, one_changed, some_counted, without_counts}
use Rattle.sq_laws.proofs.DirectoryPolicies.{AreTargets, given_policy, later_policy}
use Rattle.sq_laws.proofs.LedgerLists.{all_append, all_filtered, all_mapped, all_with, mapped_length, one_longer}
use Rattle.sq_laws.proofs.RiseLaws.{rise_filtered, rise_last, rise_mapped}

opens : (most : ℕ) → IsDirectory (opening_directory most)
opens most = record { numbers_rise = omega arith; names_once = λ name. omega arith; policies = tt; counted = refl; within = omega arith }

changed_keeps : (d : Directory) (name : List ℕ) (change : Queue → Queue) (queue : Queue) → IsChange change → queue_of name d.queues ≡ Some queue → HasPolicy d.made (change queue) → IsDirectory d → IsDirectory (record d { queues = changed_queue name change d.queues })
changed_keeps d name change queue c e p h = record {
  numbers_rise = rise_mapped (λ queue. queue.number) (one_changed name change) 1 d.queues (suc d.made) (number_stays name change c) h.numbers_rise;
  names_once = λ other. rw (count_mapped (one_changed name change) other d.queues (name_stays name change c)) (h.names_once other);
  policies = all_changed (HasPolicy d.made) name change d.queues queue e (h.names_once name) p h.policies;
  counted = rw (mapped_length (one_changed name change) d.queues) h.counted;
  within = h.within;
}

pub sets : (queues : List Queue) (given : Attributes) → IsChange (with_attributes queues given)
sets queues given = record { number = λ queue. refl; name = λ queue. refl }

pub purges : (m : ℕ) → IsChange (λ q. record q { last_purge = Some m })
purges m = record { number = λ queue. refl; name = λ queue. refl }

-- a queue that is there has another as its target
there_targets : (d : Directory) (name : List ℕ) (queue : Queue) → IsDirectory d → queue_of name d.queues ≡ Some queue → AreTargets d.made queue.number d.queues name
there_targets d name queue h e target found differ f =
    let below_next = found_below target 1 d.queues (suc d.made) found h.numbers_rise f in
    record { first = found_from target 1 d.queues (suc d.made) found h.numbers_rise f; was_made = omega (arith, below_next); other = found_differ target name d.queues (suc d.made) found queue h.numbers_rise f e differ }

-- and so has one that is made
new_targets : (d : Directory) (name : List ℕ) → IsDirectory d → AreTargets (suc d.made) (suc d.made) d.queues name
new_targets d name h target found differ f =
    let below_next = found_below target 1 d.queues (suc d.made) found h.numbers_rise f in
    record { first = found_from target 1 d.queues (suc d.made) found h.numbers_rise f; was_made = omega (arith, below_next); other = λ same. omega (arith, below_next, same) }

creates_keeps : (d : Directory) (m : ℕ) (name : List ℕ) (given : Attributes) (found : Option Queue) (made : QueueSettings) (after : Directory) → queue_of name d.queues ≡ found → Creates d m name given found made after → IsDirectory d → IsDirectory after
creates_keeps d m name given None made after e s h = rw s.2 (record {
  numbers_rise = rise_last (λ queue. queue.number) 1 d.queues (new_queue d name given) (suc d.made) h.numbers_rise refl;
  names_once = λ other. once_more d.queues (new_queue d name given) other e (h.names_once other);
  policies = all_append (HasPolicy (suc d.made)) d.queues (new_queue d name given)
      (all_with (HasPolicy d.made) (HasPolicy (suc d.made)) d.queues (λ queue p. later_policy d.made (suc d.made) queue.number queue.redrive queue.settings.redrive (omega arith) p) h.policies)
      (given_policy (suc d.made) (suc d.made) d.queues name given.redrive None None s.0.policy (new_targets d name h) tt);
  counted = rw (one_longer d.queues (new_queue d name given)) (omega (arith, h.counted));
  within = s.0.not_full;
})
creates_keeps d m name given (Some queue) made after e s h = rw s.2 h

step_keeps : (d : Directory) (m : ℕ) (call : DirectoryCall) (reply : DirectoryReply) (after : Directory) → DirectoryStep d m call reply after → IsDirectory d → IsDirectory after
unfolding DirectoryStep
step_keeps d m (asks.Create name given) (answers.Made made) after s h = creates_keeps d m name given (queue_of name d.queues) made after refl s h
step_keeps d m (asks.Set name given) (answers.Changed changed) after s h = rw s.5 (changed_keeps d name (with_attributes d.queues given) s.0 (sets d.queues given) s.1
    (given_policy d.made s.0.number d.queues name given.redrive s.0.redrive s.0.settings.redrive s.3 (there_targets d name s.0 h s.1) (found_all (HasPolicy d.made) name d.queues s.0 h.policies s.1)) h)
step_keeps d m (asks.Remove name) (answers.Removed number) after s h = rw s.3 (record {
  numbers_rise = rise_filtered (λ queue. queue.number) (λ queue. not (has_name name queue)) 1 d.queues (suc d.made) h.numbers_rise;
  names_once = λ other. let r = count_filtered (λ queue. not (has_name name queue)) other d.queues in omega (arith, r, h.names_once other);
  policies = all_filtered (HasPolicy d.made) (λ queue. not (has_name name queue)) d.queues h.policies;
  counted = let once = h.names_once name in let some = some_counted name d.queues s.0 s.1 in let left = without_counts name d.queues in rw (one_longer d.deleted (record { name = name; moment = m })) (omega (arith, left, once, some, h.counted));
  within = h.within;
})
step_keeps d m (asks.PurgeTicket name) (answers.Ticket number) after s h = rw s.4 (changed_keeps d name (λ q. record q { last_purge = Some m }) s.0 (purges m) s.1 (found_all (HasPolicy d.made) name d.queues s.0 h.policies s.1) h)
step_keeps d m (asks.Url name) (answers.Found number) after s h = rw s.1 h
step_keeps d m (asks.List prefix) (answers.Listed names) after s h = rw s.1 h
step_keeps d m (asks.Sources name) (answers.Sources names) after s h = rw s.1 h
step_keeps d m (asks.Read name) (answers.Read attributes) after s h = rw s.1 h
step_keeps d m call reply after s h = elim s [ ]

goes_on : (d : Directory) (events : List DirectoryEvent) (after : Directory) → IsDirectory d → Replays DirectoryStep d events after → IsDirectory after
goes_on d [] after h r = rw r h
goes_on d (e ∷ es) after h r = goes_on r.0 es after (step_keeps d e.stamp.moment e.call e.reply r.0 r.1 h) r.2

pub directory_holds : (most : ℕ) (events : List DirectoryEvent) (d : Directory) → Replays DirectoryStep (opening_directory most) events d → IsDirectory d
directory_holds most events d r = goes_on (opening_directory most) events d (opens most) r

-- ---- a number that is gone stays so

changed_gone : (number : ℕ) (d : Directory) (name : List ℕ) (change : Queue → Queue) → IsChange change → IsGone number d → IsGone number (record d { queues = changed_queue name change d.queues })
changed_gone number d name change c h = record {
  first = h.first;
  was_made = h.was_made;
  is_not_there = all_mapped (IsOther number) (IsOther number) (one_changed name change) d.queues (λ queue k e. k (sym (number_stays name change c queue) ∙ e)) h.is_not_there;
}

creates_gone : (number : ℕ) (d : Directory) (m : ℕ) (name : List ℕ) (given : Attributes) (found : Option Queue) (made : QueueSettings) (after : Directory) → Creates d m name given found made after → IsGone number d → IsGone number after
creates_gone number d m name given None made after s h = rw s.2 (record {
  first = h.first;
  was_made = omega (arith, h.was_made);
  is_not_there = all_append (IsOther number) d.queues (new_queue d name given) h.is_not_there (λ e. omega (arith, e, h.was_made));
})
creates_gone number d m name given (Some queue) made after s h = rw s.2 h

step_gone : (number : ℕ) (d : Directory) (m : ℕ) (call : DirectoryCall) (reply : DirectoryReply) (after : Directory) → DirectoryStep d m call reply after → IsGone number d → IsGone number after
unfolding DirectoryStep
step_gone number d m (asks.Create name given) (answers.Made made) after s h = creates_gone number d m name given (queue_of name d.queues) made after s h
step_gone number d m (asks.Set name given) (answers.Changed changed) after s h = rw s.5 (changed_gone number d name (with_attributes d.queues given) (sets d.queues given) h)
step_gone number d m (asks.Remove name) (answers.Removed removed) after s h = rw s.3 (record {
  first = h.first;
  was_made = h.was_made;
  is_not_there = all_filtered (IsOther number) (λ queue. not (has_name name queue)) d.queues h.is_not_there;
})
step_gone number d m (asks.PurgeTicket name) (answers.Ticket ticket) after s h = rw s.4 (changed_gone number d name (λ q. record q { last_purge = Some m }) (purges m) h)
step_gone number d m (asks.Url name) (answers.Found found) after s h = rw s.1 h
step_gone number d m (asks.List prefix) (answers.Listed names) after s h = rw s.1 h
step_gone number d m (asks.Sources name) (answers.Sources names) after s h = rw s.1 h
step_gone number d m (asks.Read name) (answers.Read attributes) after s h = rw s.1 h
step_gone number d m call reply after s h = elim s [ ]

stays : (number : ℕ) (d : Directory) (events : List DirectoryEvent) (after : Directory) → IsGone number d → Replays DirectoryStep d events after → IsGone number after
stays number d [] after h r = rw r h
stays number d (e ∷ es) after h r = stays number r.0 es after (step_gone number d e.stamp.moment e.call e.reply r.0 r.1 h) r.2

pub gone_stays : (number : ℕ) (d after : Directory) (events : List DirectoryEvent) → Replays DirectoryStep d events after → IsGone number d → IsGone number after
gone_stays number d after events r h = stays number d events after h r

pub removed_gone : (d : Directory) (m : ℕ) (name : List ℕ) (number : ℕ) (after : Directory) → IsDirectory d → DirectoryStep d m (asks.Remove name) (answers.Removed number) after → IsGone number after
unfolding DirectoryStep
removed_gone d m name number after h s =
    let below_next = found_below name 1 d.queues (suc d.made) s.0 h.numbers_rise s.1 in
    rw (s.3, s.2) (record { first = found_from name 1 d.queues (suc d.made) s.0 h.numbers_rise s.1; was_made = omega (arith, below_next); is_not_there = left_other name 1 d.queues (suc d.made) s.0 h.numbers_rise s.1 })
