-- Queues as they are stored by their names, and what a change makes of one.
use Rattle.std.specs.Prelude.{◌≡◌, ℕ, suc, List, Option, Some, unwrap_or}
use Rattle.std.specs.List.{AllByRecursion}
use Rattle.sq_base.specs.declared.settings.Redrive.{Redrive}
use Rattle.sq_base.specs.declared.settings.Settings.{Settings}
use Rattle.sq_model.specs.declared.directory.Attributes.{Attributes}
use Rattle.sq_model.specs.declared.directory.Queue.{Queue}

-- what contracts see of them: the queues in order of creation, and for how many more there is memory
pub record StoredQueues : Type 0 where
  pub queues : List Queue
  pub spare : ℕ

-- each queue stands under its own name
abbrev pub AreNamed : List (List ℕ × Queue) → Type 0
AreNamed entries = AllByRecursion (λ e. e.0 ≡ e.1.name) entries

-- what homes go by with the attributes that are given, and this redrive policy where it is given
abbrev pub given_settings : Attributes → Option (Option Redrive) → Settings → Settings
given_settings given redrive old = record {
  delay = unwrap_or given.delay old.delay;
  retention = unwrap_or given.retention old.retention;
  wait_time = unwrap_or given.wait_time old.wait_time;
  timeout = unwrap_or given.timeout old.timeout;
  redrive = unwrap_or redrive old.redrive;
}

-- the queue with the attributes that are given, its homes' redrive policy where it is given, and the next version
abbrev pub with_given : Attributes → Option (Option Redrive) → Queue → Queue
with_given given redrive queue = record queue {
  settings = given_settings given redrive queue.settings;
  redrive = unwrap_or given.redrive queue.redrive;
  allow = unwrap_or given.allow queue.allow;
  version = suc queue.version;
}

-- the queue, purged last at this moment
abbrev pub with_purge : ℕ → Queue → Queue
with_purge moment queue = record queue { last_purge = Some moment }
