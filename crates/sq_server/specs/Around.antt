-- The service of a server or of a race.
use Rattle.std.specs.Prelude.{vec_len}
use Rattle.sq_store.specs.declared.store.Store.{Ghosts}
use Rattle.sq_queue.specs.Around.{service_counts}
use Rattle.sq_queue.specs.Sections.{Surroundings}
use Rattle.sq_queue.specs.declared.service.Serving.{Serving}

-- what a session meets there: whatever the system's clock tells, and, as the gate is open, whatever its parts are
abbrev pub around_all : {C G D T S : Type 0} {g : Ghosts S} → Serving C G D T S g → Surroundings
around_all service = record { IsReading = λ now. Unit {0}; Saw = λ part. Unit {0}; counts = service_counts service; homes = vec_len service.homes }
