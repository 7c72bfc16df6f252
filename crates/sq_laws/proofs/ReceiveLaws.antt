-- A row that was never received has receive number 0, and no other has: in a home, where what a drain brought in was so, and in a whole system.
use Rattle.std.proofs.Common.{◌≡◌, ℕ, ◌+◌, Bool, true, false, ◌&&◌, List, [], ◌∷◌, ◌++◌, map, refl, sym, ap, subst, arith, if◌then◌else◌, nat_lt, not, ◌==◌, unwrap_or, None}
use Rattle.std.specs.List.{All, AllByRecursion, list_any}
use Rattle.std.proofs.lemmas.List.Elements.{All-nil, All-cons, All-head, All-tail, All-filter, All-append, All-weaker, All-map, All-contains, Contains-append_right}
use Rattle.sq_base.specs.declared.ids.HomeId.{HomeId}
use Rattle.sq_base.specs.declared.row.Row.{Row}
use Rattle.sq_base.specs.declared.settings.Settings.{Settings}
use Rattle.sq_model.specs.declared.place.Site.{Site}
use Rattle.sq_model.specs.declared.item.Carried.{Carried}
use Rattle.sq_model.specs.declared.item.Item.{Item}
use Rattle.sq_model.specs.declared.item.Reason.{Reason}
use Rattle.sq_model.specs.declared.item.Reason.TheVariants.{DeadLetter, Task, Drain}
use Rattle.sq_model.specs.declared.calls.Receipt.{Receipt}
use Rattle.sq_model.specs.declared.calls.HomeCall.{HomeCall}
use Rattle.sq_model.specs.declared.calls.HomeCall.TheVariants.{Configure, Close, Send, Look, Delete, Change, Purge, Count, StartDrain, FinishDrain, LeaveDead, LeaveDrain, LeaveTask, Enter, TurnBack, GiveBack, Drop}
use Rattle.sq_model.specs.declared.ledger.LedgerCall.{LedgerCall}
use Rattle.sq_model.specs.declared.ledger.LedgerCall.TheVariants as asks
use Rattle.sq_model.specs.declared.ledger.LedgerReply.{LedgerReply}
use Rattle.sq_model.specs.declared.ledger.LedgerReply.TheVariants as answers
use Rattle.sq_model.specs.declared.replies.HomeReply.{HomeReply}
use Rattle.sq_model.specs.declared.replies.HomeReply.TheVariants.{Done, Sent, Looked, Over, Counted, Left, NoLiveRow, NoOrigin, SourceClosed, Entered}
use Rattle.sq_model.specs.Rows.{ms, unexpired, is_expired, is_live, serials_of, received, received_if, is_named, is_held, changed_if, Takes, IsCounted}
use Rattle.sq_model.specs.Homes.{Home, Unopened, Serving, Closed, HomeStep, carried, carried_anew, carried_back, sent_row, entered_row, returned_row, unexpired_rows}
use Rattle.sq_model.specs.Ledgers.{Ledger, LedgerStep, has_number, is_own, items_without, turned_if}
use Rattle.sq_model.specs.Lineages.{home_outs, rows_of}
use Rattle.sq_model.specs.Passages.{Alone, Leaves, ComesIn, GoesBack, IsDropped, Passage, kind_of, passage_of}
use Rattle.sq_model.specs.Replays.{HomeEvent, Replays}
use Rattle.sq_model.specs.Systems.{HomeAt, IsStep, LedgerGoes, OfDirectory, OfHome, OfLedger, Opening, RunFrom, System, Tag, is_alone, opening}
use Rattle.sq_laws.specs.Receives.{ComesInCounted, DrainsCameInCounted, IsHomeCounted, IsItemCounted, IsSystemCounted}
use Rattle.sq_laws.proofs.LedgerLists.{all_append, all_filtered, all_get, all_mapped, all_set, found_of_all, turned_row}

counted_unexpired : (s : Settings) (m : ℕ) (rows : List Row) → All IsCounted rows → All IsCounted (unexpired s m rows)
counted_unexpired s m rows all = All-filter (λ row. not (is_expired s m row)) IsCounted rows all

counted_push : (rows : List Row) (row : Row) → All IsCounted rows → IsCounted row → All IsCounted (rows ++ row ∷ [])
counted_push rows row all one = All-append IsCounted rows (row ∷ []) all (All-cons IsCounted row [] one (All-nil IsCounted))

counted_mapped : (f : Row → Row) (rows : List Row) → ((row : Row) → IsCounted row → IsCounted (f row)) → All IsCounted rows → All IsCounted (map f rows)
counted_mapped f rows keeps all = All-map IsCounted f rows (All-weaker IsCounted (λ row. IsCounted (f row)) keeps rows all)

counted_received : (s : Settings) (serials : List ℕ) (m until : ℕ) (row : Row) → IsCounted row → IsCounted (received_if s serials m until row)
counted_received s serials m until row counted =
    elim (is_live s m row && list_any (λ c. c == row.serial) serials) as (λ v. IsCounted (if v then received m until row else row)) [ true ↦ ((λ none. absurd cc), (λ zero. absurd (omega (arith, zero)))) | false ↦ counted ]

counted_changed : (m : ℕ) (receipt : Receipt) (until : ℕ) (row : Row) → IsCounted row → IsCounted (changed_if m receipt until row)
counted_changed m receipt until row counted = elim (is_held m receipt row) as (λ v. IsCounted (if v then record row { visible_from = until } else row)) [ true ↦ counted | false ↦ counted ]

counted_rest : (before : List Row) (row : Row) (after : List Row) → All IsCounted (before ++ row ∷ after) → All IsCounted (before ++ after)
counted_rest [] row after all = All-tail IsCounted row after all
counted_rest (x ∷ before) row after all =
    All-cons IsCounted x (before ++ after) (All-head IsCounted x (before ++ row ∷ after) all) (counted_rest before row after (All-tail IsCounted x (before ++ row ∷ after) all))

counted_left : (row : Row) (rows rest : List Row) → Takes row rows rest → All IsCounted rows → All IsCounted rest
counted_left row rows rest takes all = rw takes.left (counted_rest takes.before row takes.after (rw takes.at at all))

-- the row that is taken out
counted_taken : (row : Row) (rows rest : List Row) → Takes row rows rest → All IsCounted rows → IsCounted row
counted_taken row rows rest takes all = All-contains IsCounted rows row all (rw takes.at (Contains-append_right takes.before (row ∷ takes.after) row (0, omega arith, refl)))

-- a row with this receive number and this last receive
abbrev KeepsCount : Carried → Type 0
KeepsCount keeps = (keeps.last_receive ≡ None → keeps.receives ≡ 0) × (keeps.receives ≡ 0 → keeps.last_receive ≡ None)

anew_counted : (enqueued from : ℕ) → KeepsCount (carried_anew enqueued from)
anew_counted enqueued from = ((λ none. refl), (λ zero. refl))

-- a row that comes into a home was never received, or is that of a drain, and counted
carried_counted : (reason : Reason) (m : ℕ) (row : Row) → (reason ≡ Drain → IsCounted row) → KeepsCount (carried reason m row)
carried_counted DeadLetter m row counted = anew_counted row.enqueued m
carried_counted (Task task) m row counted = anew_counted m m
carried_counted Drain m row counted = counted refl

back_counted : (reason : Reason) (m : ℕ) (row : Row) → (reason ≡ Drain → IsCounted row) → KeepsCount (carried_back reason m row)
back_counted DeadLetter m row counted = anew_counted row.enqueued m
back_counted (Task task) m row counted = anew_counted row.enqueued m
back_counted Drain m row counted = counted refl

-- a step keeps it, where what comes in by a drain is counted
pub counted_step : (site : Site) (home : Home) (m : ℕ) (call : HomeCall) (reply : HomeReply) (after : Home) → HomeStep site home m call reply after → ComesInCounted (passage_of call) → All IsCounted (rows_of home) → All IsCounted (rows_of after)
unfolding HomeStep
counted_step site Unopened m (Configure t w) Done after h comes all = rw h (All-nil IsCounted)
counted_step site (Serving its) m (Configure t w) Done after h comes all =
    let kept = counted_unexpired its.settings m its.rows all in
    rw h (elim (nat_lt its.version w) as (λ b. All IsCounted (rows_of (if b then Serving (record its { settings = t; version = w; rows = unexpired_rows its m }) else Serving (record its { rows = unexpired_rows its m })))) [ true ↦ kept | false ↦ kept ])
counted_step site Unopened m Close Done after h comes all = rw h (All-nil IsCounted)
counted_step site (Serving its) m Close Done after h comes all = rw h (All-nil IsCounted)
counted_step site (Serving its) m (Send body delay) (Sent sent) after h comes all =
    rw h.2 (counted_push (unexpired_rows its m) (sent_row site.home its.next sent.slot m (m + ms (unwrap_or delay its.settings.delay)) body) (counted_unexpired its.settings m its.rows all) ((λ none. refl), (λ zero. refl)))
counted_step site (Serving its) m (Look max timeout) (Looked picked) after h comes all =
    let until : ℕ = m + ms (unwrap_or timeout its.settings.timeout) in
    rw h.2 (counted_mapped (received_if its.settings (serials_of picked) m until) (unexpired_rows its m) (counted_received its.settings (serials_of picked) m until) (counted_unexpired its.settings m its.rows all))
counted_step site (Serving its) m (Look max timeout) Over after h comes all = rw h.2 (counted_unexpired its.settings m its.rows all)
counted_step site (Serving its) m (Delete receipt) Done after h comes all = rw h.1 (All-filter (λ row. not (is_named receipt row)) IsCounted (unexpired_rows its m) (counted_unexpired its.settings m its.rows all))
counted_step site (Serving its) m (Change receipt timeout) Done after h comes all =
    rw h.3 (counted_mapped (changed_if m receipt (m + ms timeout)) (unexpired_rows its m) (counted_changed m receipt (m + ms timeout)) (counted_unexpired its.settings m its.rows all))
counted_step site (Serving its) m Purge Done after h comes all = rw h (All-nil IsCounted)
counted_step site (Serving its) m Count (Counted counts) after h comes all = rw h.1 (counted_unexpired its.settings m its.rows all)
counted_step site (Serving its) m StartDrain Done after h comes all = rw h (counted_unexpired its.settings m its.rows all)
counted_step site (Serving its) m FinishDrain Done after h comes all = rw h.2 (All-nil IsCounted)
counted_step site (Serving its) m LeaveDead (Left item) after h comes all = rw h.3.2 (counted_left item.row (unexpired_rows its m) h.3.0 h.3.1 (counted_unexpired its.settings m its.rows all))
counted_step site (Serving its) m LeaveDrain (Left item) after h comes all = rw h.4.2 (counted_left item.row (unexpired_rows its m) h.4.0 h.4.1 (counted_unexpired its.settings m its.rows all))
counted_step site (Serving its) m (LeaveTask task) (Left item) after h comes all = rw h.2.2 (counted_left item.row (unexpired_rows its m) h.2.0 h.2.1 (counted_unexpired its.settings m its.rows all))
counted_step site (Serving its) m (LeaveTask task) NoLiveRow after h comes all = rw h.1 (counted_unexpired its.settings m its.rows all)
counted_step site (Serving its) m (LeaveTask task) (NoOrigin serial) after h comes all = rw h.1 (counted_unexpired its.settings m its.rows all)
counted_step site Closed m (LeaveTask task) SourceClosed after h comes all = rw h (All-nil IsCounted)
counted_step site (Serving its) m (Enter item) (Entered entered) after h comes all =
    rw h.3 (counted_push (unexpired_rows its m) (entered_row site.home its.next entered.slot m item) (counted_unexpired its.settings m its.rows all) (carried_counted item.reason m item.row comes))
counted_step site Closed m (TurnBack item) Done after h comes all = rw h.1 (All-nil IsCounted)
counted_step site (Serving its) m (GiveBack item) (Entered entered) after h comes all =
    rw h.3 (counted_push (unexpired_rows its m) (returned_row its.next entered.slot m item) (counted_unexpired its.settings m its.rows all) (back_counted item.reason m item.row comes))
counted_step site Closed m (Drop item) Done after h comes all = rw h.1 (All-nil IsCounted)
counted_step site home m call reply after h comes all = elim h [ ]

-- and so does a history
pub counted_replay : (site : Site) (home : Home) (events : List HomeEvent) (after : Home) → Replays (HomeStep site) home events after → DrainsCameInCounted events → All IsCounted (rows_of home) → All IsCounted (rows_of after)
counted_replay site home [] after h comes all = rw h all
counted_replay site home (e ∷ es) after h comes all = counted_replay site h.0 es after h.2 comes.1 (counted_step site home e.stamp.moment e.call e.reply h.0 h.1 comes.0 all)

-- ---- a whole system

-- what goes from a home into transit stood in it
none_out : All IsCounted []
none_out = All-nil IsCounted

one_out : (row : Row) → IsCounted row → All IsCounted (row ∷ [])
one_out row counted = All-cons IsCounted row [] counted none_out

counted_out : (site : Site) (home : Home) (m : ℕ) (call : HomeCall) (reply : HomeReply) (after : Home) → HomeStep site home m call reply after → All IsCounted (rows_of home) → All IsCounted (home_outs reply)
unfolding HomeStep
counted_out site (Serving its) m LeaveDead (Left item) after h all = one_out item.row (counted_taken item.row (unexpired_rows its m) h.3.0 h.3.1 (counted_unexpired its.settings m its.rows all))
counted_out site (Serving its) m LeaveDrain (Left item) after h all = one_out item.row (counted_taken item.row (unexpired_rows its m) h.4.0 h.4.1 (counted_unexpired its.settings m its.rows all))
counted_out site (Serving its) m (LeaveTask task) (Left item) after h all = one_out item.row (counted_taken item.row (unexpired_rows its m) h.2.0 h.2.1 (counted_unexpired its.settings m its.rows all))
counted_out site Unopened m Close (Left item) after h all = elim h [ ]
counted_out site Closed m Close (Left item) after h all = elim h [ ]
counted_out site home m call (Left item) after h all = elim h [ ]
counted_out site home m call Done after h all = none_out
counted_out site home m call (Sent sent) after h all = none_out
counted_out site home m call (Looked picked) after h all = none_out
counted_out site home m call Over after h all = none_out
counted_out site home m call (Counted counts) after h all = none_out
counted_out site home m call NoLiveRow after h all = none_out
counted_out site home m call (NoOrigin serial) after h all = none_out
counted_out site home m call SourceClosed after h all = none_out
counted_out site home m call (Entered entered) after h all = none_out

-- what comes in from transit stood there
counted_in : (l : Ledger) (m : ℕ) (home : HomeId) (call : HomeCall) (reply : HomeReply) (after : Ledger) → LedgerStep l m (asks.AtHome home call) (answers.AtHome reply) after → AllByRecursion IsItemCounted l.items → ComesInCounted (passage_of call)
unfolding LedgerStep
counted_in l m home (Enter item) (Entered entered) after s all = λ drain. found_of_all IsItemCounted (has_number item.number) l.items item all s.1.0
counted_in l m home (GiveBack item) (Entered entered) after s all = λ drain. found_of_all IsItemCounted (has_number item.number) l.items item all s.1.0
counted_in l m home (Enter item) reply after s all = elim s [ ]
counted_in l m home (GiveBack item) reply after s all = elim s [ ]
counted_in l m home (Configure t w) reply after s all = tt
counted_in l m home Close reply after s all = tt
counted_in l m home (Send body delay) reply after s all = tt
counted_in l m home (Look max timeout) reply after s all = tt
counted_in l m home (Delete receipt) reply after s all = tt
counted_in l m home (Change receipt timeout) reply after s all = tt
counted_in l m home Purge reply after s all = tt
counted_in l m home Count reply after s all = tt
counted_in l m home StartDrain reply after s all = tt
counted_in l m home FinishDrain reply after s all = tt
counted_in l m home LeaveDead reply after s all = tt
counted_in l m home LeaveDrain reply after s all = tt
counted_in l m home (LeaveTask task) reply after s all = tt
counted_in l m home (TurnBack item) reply after s all = tt
counted_in l m home (Drop item) reply after s all = tt

-- what goes into transit by a step of the ledger
abbrev ledger_outs : LedgerReply → List Row
ledger_outs (answers.AtHome reply) = home_outs reply
ledger_outs (answers.Started number) = []
ledger_outs (answers.Cancelled moved) = []
ledger_outs (answers.Listed listed) = []
ledger_outs answers.Finished = []

same_items : (l after : Ledger) → after.items ≡ l.items → AllByRecursion IsItemCounted l.items → AllByRecursion IsItemCounted after.items
same_items l after e all = rw e all

more_items : (l after : Ledger) (item : Item) → after.items ≡ l.items ++ item ∷ [] → All IsCounted (item.row ∷ []) → AllByRecursion IsItemCounted l.items → AllByRecursion IsItemCounted after.items
more_items l after item e out all = rw e (all_append IsItemCounted l.items item all (All-head IsCounted item.row [] out))

fewer_items : (l after : Ledger) (number : ℕ) → after.items ≡ items_without number l.items → AllByRecursion IsItemCounted l.items → AllByRecursion IsItemCounted after.items
fewer_items l after number e all = rw e (all_filtered IsItemCounted (λ item. not (has_number number item)) l.items all)

turned_items : (l after : Ledger) (number : ℕ) → after.items ≡ map (turned_if number) l.items → AllByRecursion IsItemCounted l.items → AllByRecursion IsItemCounted after.items
turned_items l after number e all = rw e (all_mapped IsItemCounted IsItemCounted (turned_if number) l.items (λ item counted. subst IsCounted (sym (turned_row number item)) counted) all)

-- a step of the ledger keeps it, where what goes into transit is counted
counted_ledger : (l : Ledger) (m : ℕ) (call : LedgerCall) (reply : LedgerReply) (after : Ledger) → LedgerStep l m call reply after → All IsCounted (ledger_outs reply) → AllByRecursion IsItemCounted l.items → AllByRecursion IsItemCounted after.items
unfolding LedgerStep
counted_ledger l m (asks.AtHome home LeaveDead) (answers.AtHome (Left item)) after s out all = more_items l after item (ap (λ (x : Ledger). x.items) s.1.2) out all
counted_ledger l m (asks.AtHome home LeaveDrain) (answers.AtHome (Left item)) after s out all = more_items l after item (ap (λ (x : Ledger). x.items) s.2.2) out all
counted_ledger l m (asks.AtHome home (LeaveTask number)) (answers.AtHome (Left item)) after s out all = more_items l after item (ap (λ (x : Ledger). x.items) s.2.2) out all
counted_ledger l m (asks.AtHome home (LeaveTask number)) (answers.AtHome NoLiveRow) after s out all = same_items l after (ap (λ (x : Ledger). x.items) s.1) all
counted_ledger l m (asks.AtHome home (LeaveTask number)) (answers.AtHome (NoOrigin serial)) after s out all = same_items l after (ap (λ (x : Ledger). x.items) s.2) all
counted_ledger l m (asks.AtHome home (LeaveTask number)) (answers.AtHome SourceClosed) after s out all = same_items l after (ap (λ (x : Ledger). x.items) s.1) all
counted_ledger l m (asks.AtHome home (Enter item)) (answers.AtHome (Entered entered)) after s out all = fewer_items l after item.number (ap (λ (x : Ledger). x.items) s.1.1) all
counted_ledger l m (asks.AtHome home (TurnBack item)) (answers.AtHome Done) after s out all = turned_items l after item.number (ap (λ (x : Ledger). x.items) s.2) all
counted_ledger l m (asks.AtHome home (GiveBack item)) (answers.AtHome (Entered entered)) after s out all = fewer_items l after item.number (ap (λ (x : Ledger). x.items) s.1.1) all
counted_ledger l m (asks.AtHome home (Drop item)) (answers.AtHome Done) after s out all = fewer_items l after item.number (ap (λ (x : Ledger). x.items) s.1.1) all
counted_ledger l m (asks.StartTask source destination rate) (answers.Started number) after s out all = same_items l after (ap (λ (x : Ledger). x.items) s.4) all
counted_ledger l m (asks.CancelTask number) (answers.Cancelled moved) after s out all = same_items l after (ap (λ (x : Ledger). x.items) s.1) all
counted_ledger l m (asks.ListTasks source most) (answers.Listed listed) after s out all = same_items l after (ap (λ (x : Ledger). x.items) s.1) all
counted_ledger l m (asks.FinishTask number) answers.Finished after s out all = same_items l after (ap (λ (x : Ledger). x.items) s.2) all
counted_ledger l m call reply after s out all = elim s [ ]

-- a step of the ledger's own sends nothing into transit
own_outs : (l : Ledger) (m : ℕ) (call : LedgerCall) (reply : LedgerReply) (after : Ledger) → LedgerStep l m call reply after → is_own call ≡ true → All IsCounted (ledger_outs reply)
unfolding LedgerStep
own_outs l m (asks.AtHome home call) reply after s own = absurd cc
own_outs l m (asks.StartTask source destination rate) (answers.Started number) after s own = none_out
own_outs l m (asks.CancelTask number) (answers.Cancelled moved) after s own = none_out
own_outs l m (asks.ListTasks source most) (answers.Listed listed) after s own = none_out
own_outs l m (asks.FinishTask number) answers.Finished after s own = none_out
own_outs l m call reply after s own = elim s [ ]

-- a call that is a home's alone brings nothing in
alone_in : (p : Passage) → (kind_of p).alone ≡ true → ComesInCounted p
alone_in Alone a = tt
alone_in Leaves a = absurd cc
alone_in (ComesIn item) a = absurd cc
alone_in (GoesBack item) a = absurd cc
alone_in (IsDropped item) a = absurd cc

-- what comes into a home in a step of it, and what is in transit then
goes_in : (alone : Bool) (l : Ledger) (home : HomeId) (e : HomeEvent) (after : Ledger) → is_alone e.call ≡ alone → LedgerGoes alone l home e after → AllByRecursion IsItemCounted l.items → ComesInCounted (passage_of e.call)
goes_in true l home e after is goes all = alone_in (passage_of e.call) is
goes_in false l home e after is goes all = counted_in l e.stamp.moment home e.call e.reply after goes all

goes_counted : (alone : Bool) (l : Ledger) (home : HomeId) (e : HomeEvent) (after : Ledger) → LedgerGoes alone l home e after → All IsCounted (home_outs e.reply) → AllByRecursion IsItemCounted l.items → AllByRecursion IsItemCounted after.items
goes_counted true l home e after goes out all = rw goes all
goes_counted false l home e after goes out all = counted_ledger l e.stamp.moment (asks.AtHome home e.call) (answers.AtHome e.reply) after goes out all

system_step : (before : System) (t : Tag) (after : System) → IsStep before t after → IsSystemCounted before → IsSystemCounted after
system_step before (OfDirectory e) after s h = record { homes = rw s.homes h.homes; items = rw s.ledger h.items }
system_step before (OfLedger e) after s h = record {
  homes = rw s.homes h.homes;
  items = counted_ledger before.ledger e.stamp.moment e.call e.reply after.ledger s.step (own_outs before.ledger e.stamp.moment e.call e.reply after.ledger s.step s.own) h.items;
}
system_step before (OfHome i e) after s h =
    let here = all_get IsHomeCounted before.homes i s.old s.in_list h.homes in
    let comes = goes_in (is_alone e.call) before.ledger s.old.site.home e after.ledger refl s.ledger h.items in
    let out = counted_out s.old.site s.old.home e.stamp.moment e.call e.reply s.new s.step here in
    let new : HomeAt = record { site = s.old.site; home = s.new } in
    record {
      homes = rw s.homes (all_set IsHomeCounted before.homes i new (counted_step s.old.site s.old.home e.stamp.moment e.call e.reply s.new s.step comes here) h.homes);
      items = goes_counted (is_alone e.call) before.ledger s.old.site.home e after.ledger s.ledger out h.items;
    }

system_run : (before : System) (ts : List Tag) (after : System) → RunFrom before ts after → IsSystemCounted before → IsSystemCounted after
system_run before [] after r h = rw r h
system_run before (t ∷ ts) after r h = system_run r.0 ts after r.2 (system_step before t r.0 r.1 h)

none_held : (sites : List Site) → AllByRecursion IsHomeCounted (map (λ site. record { site = site; home = Unopened }) sites)
none_held [] = tt
none_held (site ∷ sites) = (none_out, none_held sites)

-- from the opening on
pub counted_run : (o : Opening) (ts : List Tag) (after : System) → RunFrom (opening o) ts after → IsSystemCounted after
counted_run o ts after r = system_run (opening o) ts after r (record { homes = none_held o.sites; items = tt })
