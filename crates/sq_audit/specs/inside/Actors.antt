-- The order of each actor's events in a run.
use Rattle.std.specs.Prelude.{◌≡◌, ℕ, ◌<◌, List, Some, slice_get}
use Rattle.sq_base.specs.Stamps.{Below}
use Rattle.sq_model.specs.Systems.{Tag, stamp_of}
use Rattle.sq_model.specs.Merges.{rank_of}
use Rattle.sq_audit.specs.Actors.{event_actor, event_place}

-- of two events of one actor, the one with the lower place has the lower stamp
abbrev pub PlacesAgree : List Tag → Type 0
PlacesAgree run = (i j : ℕ) (t u : Tag) → slice_get run i ≡ Some t → slice_get run j ≡ Some u → event_actor t ≡ event_actor u → event_place t < event_place u → Below (stamp_of t) (stamp_of u)

-- two events of one actor at one place are of one part, and have one stamp
abbrev pub PlacesApart : List Tag → Type 0
PlacesApart run = (i j : ℕ) (t u : Tag) → slice_get run i ≡ Some t → slice_get run j ≡ Some u → event_actor t ≡ event_actor u → event_place t ≡ event_place u → (rank_of t ≡ rank_of u) × (stamp_of t ≡ stamp_of u)
