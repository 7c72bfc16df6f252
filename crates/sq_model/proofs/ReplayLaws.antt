-- A history with one event more.
use Rattle.std.proofs.Common.{ℕ, List, [], ◌∷◌, ◌++◌, refl, subst}
use Rattle.sq_base.specs.StampValue.{StampValue}
use Rattle.sq_base.specs.Stamps.{Below}
use Rattle.sq_model.specs.declared.event.Event.{Event}
use Rattle.sq_model.specs.Replays.{Replays, StampsRise}

pub replays_push : {V K R : Type 0} (Step : V → ℕ → K → R → V → Type 0) (value : V) (es : List (Event K R)) (mid : V) (e : Event K R) (after : V)
    → Replays Step value es mid → Step mid e.stamp.moment e.call e.reply after → Replays Step value (es ++ e ∷ []) after
replays_push Step value [] mid e after is step = (after, subst (λ v. Step v e.stamp.moment e.call e.reply after) is step, refl)
replays_push Step value (x ∷ es) mid e after r step = (r.0, r.1, replays_push Step r.0 es mid e after r.2 step)

pub rise_push : {K R : Type 0} (low : StampValue) (es : List (Event K R)) (last : StampValue) (e : Event K R)
    → StampsRise low es last → Below last e.stamp → StampsRise low (es ++ e ∷ []) e.stamp
rise_push low [] last e is b = (subst (λ t. Below t e.stamp) is b, refl)
rise_push low (x ∷ es) last e r b = (r.0, rise_push x.stamp es last e r.1 b)
