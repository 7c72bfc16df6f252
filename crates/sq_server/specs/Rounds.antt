-- What the movers of a server and of a race do.
use Rattle.std.specs.Prelude.{ℕ, zero, suc, ◌≡◌, ◌⊎◌, ◌<◌, ◌*◌, min, Bool, true, false, if◌then◌else◌}
use Rattle.sq_base.specs.declared.refusal.Refusal.{Refusal}
use Rattle.sq_queue.specs.Sections.{Surroundings}
use Rattle.sq_queue.specs.SessionValue.{SessionValue}
use Rattle.sq_mover.specs.MoverTurns.{EndsEarly, TakesTurns}
use Rattle.sq_mover.specs.MoverValue.{MoverValue, begun, new_mover}

-- a mover was run for so many turns: all were made, or fewer and one that memory, the clock or a count at its end refused
abbrev pub RunsMover : Surroundings → ℕ → MoverValue → SessionValue → MoverValue → SessionValue → Type 0
RunsMover at turns m s n t = TakesTurns at turns (begun m) s n t ⊎ ((e : Refusal) × EndsEarly at turns (begun m) s e n t)

-- Whether a message moved, or a task ended, in a run of so many turns: it is told that one did where all turns were made and a turn did, and that none did where none did or where a turn was refused so.
abbrev pub HasRunMover : Surroundings → ℕ → MoverValue → SessionValue → Bool → MoverValue → SessionValue → Type 0
HasRunMover at turns m s true n t = TakesTurns at turns (begun m) s n t × (0 < n.moved)
HasRunMover at turns m s false n t = (TakesTurns at turns (begun m) s n t × (n.moved ≡ 0)) ⊎ ((e : Refusal) × EndsEarly at turns (begun m) s e n t)

-- the rest after a round, in ms, where the last one was so long: the shortest after one in which a message moved or a task ended, else twice as long, up to 50
abbrev pub rest_after : Bool → ℕ → ℕ
rest_after moved rest = if moved then 1 else min (2 * rest) 50

-- a round of 100 turns of a mover, and the rest after it where nothing moves
abbrev pub HasMadeRound : Surroundings → ℕ → MoverValue → SessionValue → ℕ → MoverValue → SessionValue → Type 0
HasMadeRound at rest m s next n t = (moved : Bool) × HasRunMover at 100 m s moved n t × (next ≡ rest_after moved rest)

-- rounds of a mover, one after another, with the rests between them
abbrev pub HasMadeRounds : Surroundings → ℕ → ℕ → MoverValue → SessionValue → ℕ → MoverValue → SessionValue → Type 0
HasMadeRounds at zero rest m s next n t = (next ≡ rest) × (n ≡ m) × (t ≡ s)
HasMadeRounds at (suc rounds) rest m s next n t =
    (mid : MoverValue) × (read : SessionValue) × (was : ℕ) × HasMadeRounds at rounds rest m s was mid read × HasMadeRound at was mid read next n t

-- what a mover of a server does: a new one makes some rounds, with a first rest of 1 ms
abbrev pub MovesWhileOpen : Surroundings → SessionValue → SessionValue → Type 0
MovesWhileOpen at s t = (rounds : ℕ) × (rest : ℕ) × (n : MoverValue) × HasMadeRounds at rounds 1 new_mover s rest n t

-- what a mover of a race does: a new one is run for 1000 turns
abbrev pub MovesForRace : Surroundings → SessionValue → SessionValue → Type 0
MovesForRace at s t = (n : MoverValue) × RunsMover at 1000 new_mover s n t
