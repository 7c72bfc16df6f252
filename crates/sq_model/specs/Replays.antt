-- Histories: what was done to a part of the system, in order, and the value that it leaves.
use Rattle.std.specs.Prelude.{◌≡◌, ◌≤◌, ℕ, List, [], ◌∷◌}
use Rattle.sq_base.specs.StampValue.{StampValue}
use Rattle.sq_base.specs.Stamps.{Below}
use Rattle.sq_model.specs.declared.calls.HomeCall.{HomeCall}
use Rattle.sq_model.specs.declared.replies.HomeReply.{HomeReply}
use Rattle.sq_model.specs.declared.event.Event.{Event}

abbrev pub HomeEvent : Type 0
HomeEvent = Event HomeCall HomeReply

-- from a value, each event is a step at its moment, and the last one leaves after
abbrev pub Replays : {V K R : Type 0} → (V → ℕ → K → R → V → Type 0) → V → List (Event K R) → V → Type 0
Replays {V} {K} {R} Step value [] after = after ≡ value
Replays {V} {K} {R} Step value (e ∷ es) after = (mid : V) × Step value e.stamp.moment e.call e.reply mid × Replays Step mid es after

-- stamps rise strictly above low, and last is the last of them
abbrev pub StampsRise : {K R : Type 0} → StampValue → List (Event K R) → StampValue → Type 0
StampsRise {K} {R} low [] last = last ≡ low
StampsRise {K} {R} low (e ∷ es) last = Below low e.stamp × StampsRise e.stamp es last

-- no moment is before the one before it, or before low
abbrev pub NoMomentFalls : {K R : Type 0} → ℕ → List (Event K R) → Type 0
NoMomentFalls {K} {R} low [] = Unit {0}
NoMomentFalls {K} {R} low (e ∷ es) = (low ≤ e.stamp.moment) × NoMomentFalls e.stamp.moment es
