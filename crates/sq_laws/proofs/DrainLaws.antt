-- What holds of homes that drain.
use Rattle.std.proofs.Common.{◌≡◌, ℕ, ◌≤◌, Bool, true, false, not, List, [], ◌∷◌, ◌++◌, map, filter, refl, sym, ap, ◌∙◌, subst, arith, Option, Some, inl, inr, ◌⊎◌}
use Rattle.std.specs.Prelude.{nat_lt, ◌||◌, if◌then◌else◌}
use Rattle.std.specs.List.{AllByRecursion, Contains, list_any}
use Rattle.std.proofs.lemmas.List.Elements.{Contains-append_right}
use Rattle.sq_base.specs.declared.message_id.MessageId.{MessageId}
use Rattle.sq_base.specs.declared.refusal.Refusal.TheVariants.{HomeDraining}
use Rattle.sq_base.specs.declared.row.Row.{Row}
use Rattle.sq_base.specs.declared.settings.Settings.{Settings}
use Rattle.sq_model.specs.declared.calls.HomeCall.{HomeCall}
use Rattle.sq_model.specs.declared.calls.HomeCall.TheVariants.{Configure, Close, Send, Look, Delete, Change, Purge, Count, StartDrain, FinishDrain, LeaveDead, LeaveDrain, LeaveTask, Enter, TurnBack, GiveBack, Drop}
use Rattle.sq_model.specs.declared.home_mode.HomeMode.{HomeMode}
use Rattle.sq_model.specs.declared.home_mode.HomeMode.TheVariants.{Accepting, Draining, Drained}
use Rattle.sq_model.specs.declared.item.Item.{Item}
use Rattle.sq_model.specs.declared.item.Reason.TheVariants.{Drain}
use Rattle.sq_model.specs.declared.place.Site.{Site}
use Rattle.sq_model.specs.declared.replies.EnteredRow.{EnteredRow}
use Rattle.sq_model.specs.declared.replies.HomeReply.{HomeReply}
use Rattle.sq_model.specs.declared.replies.HomeReply.TheVariants.{Done, Sent, Looked, Over, Counted, Left, NoLiveRow, NoOrigin, SourceClosed, Entered}
use Rattle.sq_model.specs.Rows.{Takes, is_at_rest, is_in_flight, unexpired}
use Rattle.sq_model.specs.Homes.{Contents, Home, Unopened, Serving, Closed, HomeStep, accepts, entered_row, is_draining, home_refusal, once_draining, returned_row, unexpired_rows}
use Rattle.sq_model.specs.Lineages.{home_ins, home_sends, rows_of, rows_with, sends_with}
use Rattle.sq_model.specs.Replays.{HomeEvent, Replays}
use Rattle.sq_model.specs.Systems.{HomeAt, OfDirectory, OfHome, OfLedger, Opening, RunFrom, System, Tag, opening}
use Rattle.sq_laws.specs.Drains.{AreAllInFlight, ComesInAsItWas, IsDrainedOrClosed, IsEmptyOnceDrained, IsSameMessage, LeavesByDrain, TakesNone}
use Rattle.sq_laws.proofs.LedgerLists.{all_get, all_set}
use Rattle.sq_laws.proofs.LineageLaws.{home_law}
use Rattle.sq_laws.proofs.Progress.{takes_one}
use Rattle.sq_laws.proofs.SharedLaws.{is_false}

-- ---- modes

accepting : (mode : HomeMode) → accepts mode ≡ true → mode ≡ Accepting
accepting Accepting e = refl
accepting Draining e = absurd cc
accepting Drained e = absurd cc

draining : (mode : HomeMode) → is_draining mode ≡ true → mode ≡ Draining
draining Accepting e = absurd cc
draining Draining e = refl
draining Drained e = absurd cc

still : (mode : HomeMode) → accepts mode ≡ false → once_draining mode ≡ mode
still Accepting e = absurd cc
still Draining e = refl
still Drained e = refl

once_none : (mode : HomeMode) → accepts mode ≡ false → accepts (once_draining mode) ≡ false
once_none mode e = rw (still mode e) e

was_drained : (mode : HomeMode) → once_draining mode ≡ Drained → mode ≡ Drained
was_drained Accepting e = absurd cc
was_drained Draining e = absurd cc
was_drained Drained e = refl

both : (b : Bool) → b ≡ true → b ≡ false → ⊥
both b t f = let same : true ≡ false = sym t ∙ f in absurd cc

drained_takes_none : (mode : HomeMode) → mode ≡ Drained → accepts mode ≡ false
drained_takes_none mode e = rw e refl

draining_takes_none : (mode : HomeMode) → mode ≡ Draining → accepts mode ≡ false
draining_takes_none mode e = rw e refl

-- ---- nothing comes in

pub sends_accepting : (site : Site) (its : Contents) (m : ℕ) (body : List ℕ) (delay : Option ℕ) (reply : HomeReply) (after : Home) → HomeStep site (Serving its) m (Send body delay) reply after → its.mode ≡ Accepting
unfolding HomeStep
sends_accepting site its m body delay (Sent sent) after h = accepting its.mode h.0.accepting
sends_accepting site its m body delay reply after h = elim h [ ]

pub enters_accepting : (site : Site) (its : Contents) (m : ℕ) (item : Item) (reply : HomeReply) (after : Home) → HomeStep site (Serving its) m (Enter item) reply after → its.mode ≡ Accepting
unfolding HomeStep
enters_accepting site its m item (Entered entered) after h = accepting its.mode h.1.accepting
enters_accepting site its m item reply after h = elim h [ ]

pub returns_accepting : (site : Site) (its : Contents) (m : ℕ) (item : Item) (reply : HomeReply) (after : Home) → HomeStep site (Serving its) m (GiveBack item) reply after → its.mode ≡ Accepting
unfolding HomeStep
returns_accepting site its m item (Entered entered) after h = accepting its.mode h.1.accepting
returns_accepting site its m item reply after h = elim h [ ]

pub send_refused : (site : Site) (its : Contents) (m : ℕ) (body : List ℕ) (delay : Option ℕ) → accepts its.mode ≡ false → home_refusal site (Serving its) m (Send body delay) ≡ Some HomeDraining
unfolding home_refusal
send_refused site its m body delay none = rw none refl

pub enter_refused : (site : Site) (its : Contents) (m : ℕ) (item : Item) → accepts its.mode ≡ false → home_refusal site (Serving its) m (Enter item) ≡ Some HomeDraining
unfolding home_refusal
enter_refused site its m item none = rw none refl

pub return_refused : (site : Site) (its : Contents) (m : ℕ) (item : Item) → accepts its.mode ≡ false → home_refusal site (Serving its) m (GiveBack item) ≡ Some HomeDraining
unfolding home_refusal
return_refused site its m item none = rw none refl

-- none is sent and none comes in
record BringsNone (x : MessageId) (call : HomeCall) (reply : HomeReply) : Type 0 where
  pub sent : sends_with x (home_sends reply) ≡ 0
  pub comes : rows_with x (home_ins call) ≡ 0

neither : (x : MessageId) (call : HomeCall) (reply : HomeReply) → home_sends reply ≡ [] → home_ins call ≡ [] → BringsNone x call reply
neither x call reply s i = record { sent = rw s refl; comes = rw i refl }

brings_none : (x : MessageId) (site : Site) (its : Contents) (m : ℕ) (call : HomeCall) (reply : HomeReply) (after : Home) → accepts its.mode ≡ false → HomeStep site (Serving its) m call reply after → BringsNone x call reply
unfolding HomeStep
brings_none x site its m (Configure t w) Done after none h = neither x _ _ refl refl
brings_none x site its m Close Done after none h = neither x _ _ refl refl
brings_none x site its m (Send body delay) (Sent sent) after none h = absurd (both (accepts its.mode) h.0.accepting none)
brings_none x site its m (Look max timeout) (Looked picked) after none h = neither x _ _ refl refl
brings_none x site its m (Look max timeout) Over after none h = neither x _ _ refl refl
brings_none x site its m (Delete receipt) Done after none h = neither x _ _ refl refl
brings_none x site its m (Change receipt timeout) Done after none h = neither x _ _ refl refl
brings_none x site its m Purge Done after none h = neither x _ _ refl refl
brings_none x site its m Count (Counted counts) after none h = neither x _ _ refl refl
brings_none x site its m StartDrain Done after none h = neither x _ _ refl refl
brings_none x site its m FinishDrain Done after none h = neither x _ _ refl refl
brings_none x site its m LeaveDead (Left item) after none h = neither x _ _ refl refl
brings_none x site its m LeaveDrain (Left item) after none h = neither x _ _ refl refl
brings_none x site its m (LeaveTask task) (Left item) after none h = neither x _ _ refl refl
brings_none x site its m (LeaveTask task) NoLiveRow after none h = neither x _ _ refl refl
brings_none x site its m (LeaveTask task) (NoOrigin serial) after none h = neither x _ _ refl refl
brings_none x site its m (Enter item) (Entered entered) after none h = absurd (both (accepts its.mode) h.1.accepting none)
brings_none x site its m (GiveBack item) (Entered entered) after none h = absurd (both (accepts its.mode) h.1.accepting none)
brings_none x site its m call reply after none h = elim h [ ]

pub holds_no_more : (x : MessageId) (site : Site) (its : Contents) (m : ℕ) (call : HomeCall) (reply : HomeReply) (after : Home) → accepts its.mode ≡ false → HomeStep site (Serving its) m call reply after
    → rows_with x (rows_of after) ≤ rows_with x its.rows
holds_no_more x site its m call reply after none h =
    let b = brings_none x site its m call reply after none h in omega (arith, home_law x site (Serving its) m call reply after h, b.sent, b.comes)

-- ---- a drained home is empty

none_unexpired : (its : Contents) (m : ℕ) → its.rows ≡ [] → unexpired_rows its m ≡ []
none_unexpired its m e = ap (unexpired its.settings m) e

none_taken : (row : Row) (before after : List Row) → [] ≡ before ++ row ∷ after → ⊥
none_taken row [] after e = absurd cc
none_taken row (x ∷ before) after e = absurd cc

rest_none : (its : Contents) (m : ℕ) (row : Row) (rest : List Row) → Takes row (unexpired_rows its m) rest → its.rows ≡ [] → rest ≡ []
rest_none its m row rest t e = absurd (none_taken row t.before t.after (sym (none_unexpired its m e) ∙ t.at))

-- with another list of rows, made of the unexpired ones
made_empty : (its : Contents) (m : ℕ) (after : Home) (f : List Row → List Row) → f [] ≡ [] → after ≡ Serving (record its { rows = f (unexpired_rows its m) }) → IsEmptyOnceDrained (Serving its) → IsEmptyOnceDrained after
made_empty its m after f empty e h = rw e (λ drained. ap f (none_unexpired its m (h drained)) ∙ empty)

configured_empty : (its : Contents) (t : Settings) (w : ℕ) (b : Bool) → IsEmptyOnceDrained (Serving its) → IsEmptyOnceDrained (if b then Serving (record its { settings = t; version = w }) else Serving its)
configured_empty its t w true h = h
configured_empty its t w false h = h

empty_step : (site : Site) (home : Home) (m : ℕ) (call : HomeCall) (reply : HomeReply) (after : Home) → HomeStep site home m call reply after → IsEmptyOnceDrained home → IsEmptyOnceDrained after
unfolding HomeStep
empty_step site Unopened m (Configure t w) Done after h e = rw h (λ drained. refl)
empty_step site (Serving its) m (Configure t w) Done after h e =
    rw h (configured_empty (record its { rows = unexpired_rows its m }) t w (nat_lt its.version w) (λ drained. none_unexpired its m (e drained)))
empty_step site Unopened m Close Done after h e = rw h tt
empty_step site (Serving its) m Close Done after h e = rw h tt
empty_step site (Serving its) m (Send body delay) (Sent sent) after h e = rw h.2 (λ drained. absurd (both (accepts its.mode) h.0.accepting (drained_takes_none its.mode drained)))
empty_step site (Serving its) m (Look max timeout) (Looked picked) after h e = made_empty its m after (map _) refl h.2 e
empty_step site (Serving its) m (Look max timeout) Over after h e = made_empty its m after (λ rows. rows) refl h.2 e
empty_step site (Serving its) m (Delete receipt) Done after h e = made_empty its m after (filter _) refl h.1 e
empty_step site (Serving its) m (Change receipt timeout) Done after h e = made_empty its m after (map _) refl h.3 e
empty_step site (Serving its) m Purge Done after h e = rw h (λ drained. refl)
empty_step site (Serving its) m Count (Counted counts) after h e = made_empty its m after (λ rows. rows) refl h.1 e
empty_step site (Serving its) m StartDrain Done after h e = rw h (λ drained. none_unexpired its m (e (was_drained its.mode drained)))
empty_step site (Serving its) m FinishDrain Done after h e = rw h.2 (λ drained. refl)
empty_step site (Serving its) m LeaveDead (Left item) after h e = rw h.3.2 (λ drained. rest_none its m item.row h.3.0 h.3.1 (e drained))
empty_step site (Serving its) m LeaveDrain (Left item) after h e = rw h.4.2 (λ drained. rest_none its m item.row h.4.0 h.4.1 (e drained))
empty_step site (Serving its) m (LeaveTask task) (Left item) after h e = rw h.2.2 (λ drained. rest_none its m item.row h.2.0 h.2.1 (e drained))
empty_step site (Serving its) m (LeaveTask task) NoLiveRow after h e = made_empty its m after (λ rows. rows) refl h.1 e
empty_step site (Serving its) m (LeaveTask task) (NoOrigin serial) after h e = made_empty its m after (λ rows. rows) refl h.1 e
empty_step site Closed m (LeaveTask task) SourceClosed after h e = rw h tt
empty_step site (Serving its) m (Enter item) (Entered entered) after h e = rw h.3 (λ drained. absurd (both (accepts its.mode) h.1.accepting (drained_takes_none its.mode drained)))
empty_step site Closed m (TurnBack item) Done after h e = rw h.1 tt
empty_step site (Serving its) m (GiveBack item) (Entered entered) after h e = rw h.3 (λ drained. absurd (both (accepts its.mode) h.1.accepting (drained_takes_none its.mode drained)))
empty_step site Closed m (Drop item) Done after h e = rw h.1 tt
empty_step site home m call reply after h e = elim h [ ]

pub empty_replay : (site : Site) (home : Home) (events : List HomeEvent) (after : Home) → Replays (HomeStep site) home events after → IsEmptyOnceDrained home → IsEmptyOnceDrained after
empty_replay site home [] after r e = rw r e
empty_replay site home (x ∷ es) after r e = empty_replay site r.0 es after r.2 (empty_step site home x.stamp.moment x.call x.reply r.0 r.1 e)

abbrev IsEmptyAt : HomeAt → Type 0
IsEmptyAt at = IsEmptyOnceDrained at.home

empty_run : (before : System) (ts : List Tag) (after : System) → RunFrom before ts after → AllByRecursion IsEmptyAt before.homes → AllByRecursion IsEmptyAt after.homes
empty_run before [] after r all = rw r all
empty_run before (OfDirectory e ∷ ts) after r all = empty_run r.0 ts after r.2 (rw r.1.homes all)
empty_run before (OfLedger e ∷ ts) after r all = empty_run r.0 ts after r.2 (rw r.1.homes all)
empty_run before (OfHome i e ∷ ts) after r all =
    let s = r.1 in
    let new : HomeAt = record { site = s.old.site; home = s.new } in
    empty_run r.0 ts after r.2 (rw s.homes (all_set IsEmptyAt before.homes i new (empty_step s.old.site s.old.home e.stamp.moment e.call e.reply s.new s.step (all_get IsEmptyAt before.homes i s.old s.in_list all)) all))

none_opened : (sites : List Site) → AllByRecursion IsEmptyAt (map (λ site. record { site = site; home = Unopened }) sites)
none_opened [] = tt
none_opened (site ∷ sites) = (tt, none_opened sites)

pub empty_in_run : (o : Opening) (ts : List Tag) (after : System) → RunFrom (opening o) ts after → AllByRecursion IsEmptyAt after.homes
empty_in_run o ts after r = empty_run (opening o) ts after r (none_opened o.sites)

-- ---- what leaves, and what comes in

taken_is_there : (row : Row) (rows rest : List Row) → Takes row rows rest → Contains rows row
taken_is_there row rows rest t = rw t.at (Contains-append_right t.before (row ∷ t.after) row (0, omega arith, refl))

pub leaves_at_rest : (site : Site) (its : Contents) (m : ℕ) (item : Item) (after : Home) → HomeStep site (Serving its) m LeaveDrain (Left item) after → LeavesByDrain site its m item after
unfolding HomeStep
leaves_at_rest site its m item after h = record {
  mode = draining its.mode h.2;
  there = taken_is_there item.row (unexpired_rows its m) h.4.0 h.4.1;
  at_rest = is_false (is_in_flight m item.row) h.3;
  because = h.0.because;
  source = h.0.from;
  target = h.1;
  forward = h.0.forward;
  others = h.4;
}

entered_same : (site : Site) (its : Contents) (m slot : ℕ) (item : Item) → item.reason ≡ Drain → IsSameMessage item.row (entered_row site.home its.next slot m item)
entered_same site its m slot item e = rw e (record { id = refl; lineage = refl; body = refl; enqueued = refl; visible_from = refl; receives = refl; last_receive = refl; origin = refl })

returned_same : (its : Contents) (m slot : ℕ) (item : Item) → item.reason ≡ Drain → IsSameMessage item.row (returned_row its.next slot m item)
returned_same its m slot item e = rw e (record { id = refl; lineage = refl; body = refl; enqueued = refl; visible_from = refl; receives = refl; last_receive = refl; origin = refl })

pub entered_as_it_was : (site : Site) (its : Contents) (m : ℕ) (item : Item) (entered : EnteredRow) (after : Home) → item.reason ≡ Drain → HomeStep site (Serving its) m (Enter item) (Entered entered) after → ComesInAsItWas its m item.row entered after
unfolding HomeStep
entered_as_it_was site its m item entered after e h = record {
  row = entered_row site.home its.next entered.slot m item;
  same = entered_same site its m entered.slot item e;
  serial = refl;
  slot = refl;
  last = h.3;
}

pub returned_as_it_was : (site : Site) (its : Contents) (m : ℕ) (item : Item) (entered : EnteredRow) (after : Home) → item.reason ≡ Drain → HomeStep site (Serving its) m (GiveBack item) (Entered entered) after → ComesInAsItWas its m item.row entered after
unfolding HomeStep
returned_as_it_was site its m item entered after e h = record { row = returned_row its.next entered.slot m item; same = returned_same its m entered.slot item e; serial = refl; slot = refl; last = h.3 }

-- ---- what a home that drains becomes

-- its mode is another one, or as it was
abbrev HasMode : (HomeMode → Type 0) → Home → Type 0
HasMode P (Serving its) = P its.mode
HasMode P Unopened = ⊥
HasMode P Closed = Unit {0}

-- what a drain keeps of a mode
record IsKept (P : HomeMode → Type 0) : Type 0 where
  pub refuses : (mode : HomeMode) → P mode → accepts mode ≡ false
  pub again : (mode : HomeMode) → P mode → P (once_draining mode)
  pub over : P Drained

mode_configured : (P : HomeMode → Type 0) (its : Contents) (t : Settings) (w : ℕ) (b : Bool) → P its.mode → HasMode P (if b then Serving (record its { settings = t; version = w }) else Serving its)
mode_configured P its t w true p = p
mode_configured P its t w false p = p

mode_step : (P : HomeMode → Type 0) → IsKept P → (site : Site) (home : Home) (m : ℕ) (call : HomeCall) (reply : HomeReply) (after : Home) → HomeStep site home m call reply after → HasMode P home → HasMode P after
unfolding HomeStep
mode_step P k site Unopened m (Configure t w) Done after h p = absurd p
mode_step P k site (Serving its) m (Configure t w) Done after h p = rw h (mode_configured P (record its { rows = unexpired_rows its m }) t w (nat_lt its.version w) p)
mode_step P k site Unopened m Close Done after h p = absurd p
mode_step P k site (Serving its) m Close Done after h p = rw h tt
mode_step P k site (Serving its) m (Send body delay) (Sent sent) after h p = absurd (both (accepts its.mode) h.0.accepting (k.refuses its.mode p))
mode_step P k site (Serving its) m (Look max timeout) (Looked picked) after h p = rw h.2 p
mode_step P k site (Serving its) m (Look max timeout) Over after h p = rw h.2 p
mode_step P k site (Serving its) m (Delete receipt) Done after h p = rw h.1 p
mode_step P k site (Serving its) m (Change receipt timeout) Done after h p = rw h.3 p
mode_step P k site (Serving its) m Purge Done after h p = rw h p
mode_step P k site (Serving its) m Count (Counted counts) after h p = rw h.1 p
mode_step P k site (Serving its) m StartDrain Done after h p = rw h (k.again its.mode p)
mode_step P k site (Serving its) m FinishDrain Done after h p = rw h.2 k.over
mode_step P k site (Serving its) m LeaveDead (Left item) after h p = rw h.3.2 p
mode_step P k site (Serving its) m LeaveDrain (Left item) after h p = rw h.4.2 p
mode_step P k site (Serving its) m (LeaveTask task) (Left item) after h p = rw h.2.2 p
mode_step P k site (Serving its) m (LeaveTask task) NoLiveRow after h p = rw h.1 p
mode_step P k site (Serving its) m (LeaveTask task) (NoOrigin serial) after h p = rw h.1 p
mode_step P k site Closed m (LeaveTask task) SourceClosed after h p = rw h tt
mode_step P k site (Serving its) m (Enter item) (Entered entered) after h p = absurd (both (accepts its.mode) h.1.accepting (k.refuses its.mode p))
mode_step P k site Closed m (TurnBack item) Done after h p = rw h.1 tt
mode_step P k site (Serving its) m (GiveBack item) (Entered entered) after h p = absurd (both (accepts its.mode) h.1.accepting (k.refuses its.mode p))
mode_step P k site Closed m (Drop item) Done after h p = rw h.1 tt
mode_step P k site home m call reply after h p = elim h [ ]

none_kept : IsKept (λ mode. accepts mode ≡ false)
none_kept = record { refuses = λ mode e. e; again = once_none; over = refl }

drained_kept : IsKept (λ mode. mode ≡ Drained)
drained_kept = record { refuses = drained_takes_none; again = λ mode e. rw e refl; over = refl }

takes_none : (home : Home) → HasMode (λ mode. accepts mode ≡ false) home → TakesNone home
takes_none (Serving its) p = p
takes_none Unopened p = p
takes_none Closed p = p

has_mode : (home : Home) → TakesNone home → HasMode (λ mode. accepts mode ≡ false) home
has_mode (Serving its) p = p
has_mode Unopened p = p
has_mode Closed p = p

drained_or_closed : (home : Home) → HasMode (λ mode. mode ≡ Drained) home → IsDrainedOrClosed home
drained_or_closed (Serving its) p = p
drained_or_closed Unopened p = p
drained_or_closed Closed p = p

none_step : (site : Site) (home : Home) (m : ℕ) (call : HomeCall) (reply : HomeReply) (after : Home) → HomeStep site home m call reply after → TakesNone home → TakesNone after
none_step site home m call reply after h p = takes_none after (mode_step (λ mode. accepts mode ≡ false) none_kept site home m call reply after h (has_mode home p))

pub draining_goes_on : (site : Site) (its : Contents) (m : ℕ) (call : HomeCall) (reply : HomeReply) (after : Home) → its.mode ≡ Draining → HomeStep site (Serving its) m call reply after → TakesNone after
draining_goes_on site its m call reply after e h = none_step site (Serving its) m call reply after h (draining_takes_none its.mode e)

pub drained_stays : (site : Site) (its : Contents) (m : ℕ) (call : HomeCall) (reply : HomeReply) (after : Home) → its.mode ≡ Drained → HomeStep site (Serving its) m call reply after → IsDrainedOrClosed after
drained_stays site its m call reply after e h = drained_or_closed after (mode_step (λ mode. mode ≡ Drained) drained_kept site (Serving its) m call reply after h e)

none_replay : (site : Site) (home : Home) (events : List HomeEvent) (after : Home) → TakesNone home → Replays (HomeStep site) home events after → TakesNone after
none_replay site home [] after p r = rw r p
none_replay site home (e ∷ es) after p r = none_replay site r.0 es after (none_step site home e.stamp.moment e.call e.reply r.0 r.1 p) r.2

pub none_for_good : (site : Site) (its : Contents) (events : List HomeEvent) (after : Home) → accepts its.mode ≡ false → Replays (HomeStep site) (Serving its) events after → TakesNone after
none_for_good site its events after p r = none_replay site (Serving its) events after p r

-- ---- a drain goes on

abbrev GoesOn : Site → Contents → ℕ → Type 0
GoesOn site its m = ((item : Item) × (after : Home) × HomeStep site (Serving its) m LeaveDrain (Left item) after) ⊎ (((after : Home) × HomeStep site (Serving its) m FinishDrain Done after) ⊎ AreAllInFlight its m)

in_flight : (b : Bool) → not b ≡ false → b ≡ true
in_flight true e = refl
in_flight false e = absurd cc

none_rests : (m : ℕ) (rows : List Row) → list_any (is_at_rest m) rows ≡ false → AllByRecursion (λ row. is_in_flight m row ≡ true) rows
none_rests m [] e = tt
none_rests m (row ∷ rows) e =
    elim (is_at_rest m row) as (λ b. is_at_rest m row ≡ b → (b || list_any (is_at_rest m) rows) ≡ false → AllByRecursion (λ r. is_in_flight m r ≡ true) (row ∷ rows)) [
      | true ↦ (λ at f. absurd cc)
      | false ↦ (λ at f. (in_flight (is_in_flight m row) at, none_rests m rows f))
    ] refl e

pub goes_on : (site : Site) (its : Contents) (m : ℕ) → its.mode ≡ Draining → GoesOn site its m
unfolding HomeStep
goes_on site its m e =
    let may : is_draining its.mode ≡ true = rw e refl in
    let rests = list_any (is_at_rest m) (unexpired_rows its m) in
    elim rests as (λ b. rests ≡ b → GoesOn site its m) [
      | true ↦ (λ at. let t = takes_one (is_at_rest m) (unexpired_rows its m) at in
          inl (
            record { number = 1; row = t.0; source = site.home.queue; target = site.home.queue; reason = Drain; homeward = false },
            _,
            (record { from = refl; because = refl; forward = refl }, refl, may, t.3, (t.1, t.2, refl)),
          ))
      | false ↦ (λ at. elim (unexpired_rows its m) as (λ rows. unexpired_rows its m ≡ rows → GoesOn site its m) [
        | [] ↦ (λ none. inr (inl (_, (may, none, refl))))
        | row ∷ rows ↦ (λ some. inr (inr (none_rests m (unexpired_rows its m) at, (row, subst (λ (xs : List Row). Contains xs row) (sym some) (0, omega arith, refl)))))
      ] refl)
    ] refl

pub asked_again : (site : Site) (its : Contents) (m : ℕ) (after : Home) → accepts its.mode ≡ false → HomeStep site (Serving its) m StartDrain Done after → after ≡ Serving (record its { rows = unexpired_rows its m })
unfolding HomeStep
asked_again site its m after none h = h ∙ ap (λ (mode : HomeMode). Serving (record its { mode = mode; rows = unexpired_rows its m })) (still its.mode none)
