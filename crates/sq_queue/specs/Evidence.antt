-- The journals that a service leaves of its sessions.
use Rattle.std.specs.Prelude.{ℕ, List, [], ◌∷◌, ◌++◌, Option, Some, None, position}
use Rattle.sq_model.specs.RecordValues.{Journal}
use Rattle.sq_steps.specs.Journals.{is_of_actor}

-- a journal comes to these where none of its actor was found
abbrev pub with_unfound : List Journal → Journal → Option ℕ → List Journal
with_unfound kept journal (Some at) = kept
with_unfound kept journal None = kept ++ journal ∷ []

-- these, and after them the first of each actor that is not among them
abbrev pub with_firsts : List Journal → List Journal → List Journal
with_firsts kept [] = kept
with_firsts kept (journal ∷ journals) = with_firsts (with_unfound kept journal (position (is_of_actor journal.actor) kept)) journals

-- of each actor the first, in their order
abbrev pub first_of_each : List Journal → List Journal
first_of_each journals = with_firsts [] journals
