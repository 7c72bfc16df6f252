-- A leave for a move task, at a home.
use Rattle.std.proofs.Common.{◌≡◌, ℕ, zero, suc, ◌<◌, true, false, List, [], ◌∷◌, length, refl, ap, Option, Some, None, arith}
use Rattle.std.specs.List.{slice_index_or}
use Rattle.std.proofs.lemmas.List.Folds.{list_any_at}
use Rattle.sq_base.specs.declared.row.Row.{Row}
use Rattle.sq_base.specs.declared.refusal.Refusal.TheVariants.{QueueDoesNotExist}
use Rattle.sq_model.specs.declared.calls.HomeCall.TheVariants.{LeaveTask}
use Rattle.sq_model.specs.declared.item.Item.{Item}
use Rattle.sq_model.specs.declared.item.Reason.TheVariants.{Task as ForTask}
use Rattle.sq_model.specs.declared.place.Site.{Site}
use Rattle.sq_model.specs.declared.replies.HomeReply.TheVariants.{Left, NoLiveRow, NoOrigin, SourceClosed}
use Rattle.sq_model.specs.declared.task.NamedQueue.{NamedQueue}
use Rattle.sq_model.specs.declared.task.Task.{Task}
use Rattle.sq_model.specs.Homes.{Home, Unopened, Serving, Closed, HomeStep, IsFrom, home_refusal, unexpired_rows}
use Rattle.sq_model.specs.Rows.{Takes, is_live}
use Rattle.sq_model.specs.Tasks.{destination_or, target_of}
use Rattle.sq_shard.specs.Moves.{GoesWithout, HasRow, IsLiveAt, has_live_row, is_opened, unexpired_home}
use Rattle.sq_history.specs.Halves.{IsServing}

pub never_opened : (site : Site) (home : Home) (m number : ℕ) → is_opened home ≡ false → home_refusal site home m (LeaveTask number) ≡ Some QueueDoesNotExist
unfolding home_refusal
never_opened site Unopened m number h = refl
never_opened site Closed m number h = absurd cc
never_opened site (Serving its) m number h = absurd cc

pub opened : (site : Site) (home : Home) (m number : ℕ) → is_opened home ≡ true → home_refusal site home m (LeaveTask number) ≡ None
unfolding home_refusal
opened site Unopened m number h = absurd cc
opened site Closed m number h = refl
opened site (Serving its) m number h = refl

-- one that was opened and is not closed serves
pub serves : (home : Home) → is_opened home ≡ true → (home ≡ Closed → ⊥) → IsServing home
serves Unopened h other = absurd cc
serves Closed h other = absurd (other refl)
serves (Serving its) h other = tt

pub serving : (site : Site) (home : Home) (m number : ℕ) → IsServing home → home_refusal site home m (LeaveTask number) ≡ None
unfolding home_refusal
serving site Unopened m number h = absurd h
serving site Closed m number h = absurd h
serving site (Serving its) m number h = refl

-- ---- a message that is live

pub is_there : (home : Home) (m : ℕ) (row : Row) → IsLiveAt home m row → HasRow home m row
is_there Unopened m row live = absurd live
is_there Closed m row live = absurd live
is_there (Serving its) m row live = live.there

pub one_live : (home : Home) (m : ℕ) (row : Row) → IsLiveAt home m row → has_live_row home m ≡ true
one_live Unopened m row live = absurd live
one_live Closed m row live = absurd live
one_live (Serving its) m row live = list_any_at (is_live its.settings m) (unexpired_rows its m) live.there.0 row live.there.1 (rw live.there.2 live.passes)

-- a row that is there could be taken out
record Taken (row : Row) (rows : List Row) : Type 0 where
  pub rest : List Row
  pub takes : Takes row rows rest

taken_at : (rows : List Row) (row : Row) (k : ℕ) → k < length rows → slice_index_or rows k row ≡ row → Taken row rows
taken_at [] row k lt is = absurd (omega (arith, lt))
taken_at (x ∷ rows) row zero lt is = record { rest = rows; takes = record { before = []; after = rows; at = ap (λ (r : Row). r ∷ rows) is; left = refl } }
taken_at (x ∷ rows) row (suc k) lt is =
    let later = taken_at rows row k (omega (arith, lt)) is in
    let takes = later.takes in
    record { rest = x ∷ later.rest; takes = record { before = x ∷ takes.before; after = takes.after; at = ap (λ rs. x ∷ rs) takes.at; left = ap (λ rs. x ∷ rs) takes.left } }

no_queue : (destination : Option NamedQueue) (origin : Option ℕ) → destination_or destination origin ≡ None → origin ≡ None
no_queue (Some queue) origin h = absurd cc
no_queue None origin h = h

-- ---- what is answered

pub closed_at : (site : Site) (home : Home) (m number : ℕ) → home ≡ Closed → HomeStep site home m (LeaveTask number) SourceClosed home
unfolding HomeStep
closed_at site home m number closed = rw closed refl

pub none_at : (site : Site) (home : Home) (m number : ℕ) (after : Home) → IsServing home → has_live_row home m ≡ false → after ≡ unexpired_home home m → HomeStep site home m (LeaveTask number) NoLiveRow after
unfolding HomeStep
none_at site Unopened m number after h none left = absurd h
none_at site Closed m number after h none left = absurd h
none_at site (Serving its) m number after h none left = (none, left)

pub no_origin_at : (site : Site) (home : Home) (m number : ℕ) (task : Task) (row : Row) (after : Home) → IsLiveAt home m row → target_of task row ≡ None → after ≡ unexpired_home home m
    → HomeStep site home m (LeaveTask number) (NoOrigin row.serial) after
unfolding HomeStep
no_origin_at site Unopened m number task row after live none left = absurd live
no_origin_at site Closed m number task row after live none left = absurd live
no_origin_at site (Serving its) m number task row after live none left =
    let taken = taken_at (unexpired_rows its m) row live.there.0 live.there.1 live.there.2 in
    ((row, taken.rest, taken.takes, live.passes, refl, no_queue task.destination row.origin none), left)

-- the same of a serial that is its
pub no_origin_of : (site : Site) (home : Home) (m number : ℕ) (task : Task) (row : Row) (serial : ℕ) (after : Home) → IsLiveAt home m row → target_of task row ≡ None → row.serial ≡ serial → after ≡ unexpired_home home m
    → HomeStep site home m (LeaveTask number) (NoOrigin serial) after
no_origin_of site home m number task row serial after live none is left = rw (← is) (no_origin_at site home m number task row after live none left)

pub left_for : (site : Site) (home : Home) (m number : ℕ) (item : Item) (after : Home) → IsFrom site.home (ForTask number) item → IsLiveAt home m item.row → GoesWithout home m item.row after
    → HomeStep site home m (LeaveTask number) (Left item) after
unfolding HomeStep
left_for site Unopened m number item after from live going = absurd live
left_for site Closed m number item after from live going = absurd live
left_for site (Serving its) m number item after from live going = (from, live.passes, going)
