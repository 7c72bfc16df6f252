-- What a service is to its sessions.
use Rattle.std.specs.Prelude.{ℕ, vec_len}
use Rattle.sq_store.specs.declared.store.Store.{Ghosts}
use Rattle.sq_actions.specs.Asks.{HomeCounts}
use Rattle.sq_queue.specs.LockedParts.{LockedPart}
use Rattle.sq_queue.specs.Sections.{Surroundings}
use Rattle.sq_queue.specs.declared.service.Serving.{Serving}

-- how many homes a queue of a service has, and how many of them a receive asks
abbrev pub service_counts : {C G D T S : Type 0} {g : Ghosts S} → Serving C G D T S g → HomeCounts
service_counts service = record { homes = service.per_queue; sample = service.sample }

-- what a session meets at a service, by what such a clock tells and such a gate saw
abbrev pub around : {C G D T S : Type 0} {g : Ghosts S} → (C → ℕ → Type 0) → (G → LockedPart → Type 0) → Serving C G D T S g → Surroundings
around tells saw service = record { IsReading = tells service.clock; Saw = saw service.gate; counts = service_counts service; homes = vec_len service.homes }
