-- Each message of a run is in one place.
use Rattle.std.proofs.Common.{◌≡◌, ℕ, zero, suc, ◌+◌, ◌≤◌, Bool, true, false, cond, List, [], ◌∷◌, ◌++◌, map, refl, ap, arith, Some, slice_get, slice_set}
use Rattle.std.specs.Prelude.{nat_le, nat_lt, nat_eq, ◌&&◌, ◌==◌, count_by}
use Rattle.std.specs.List.{sum_by}
use Rattle.std.proofs.lemmas.Grind.{common_steps}
use Rattle.std.proofs.lemmas.List.Sums.{sum_by-append, sum_by-cons}
use Rattle.sq_base.specs.declared.message_id.MessageId.{MessageId}
use Rattle.sq_base.specs.declared.row.Row.{Row}
use Rattle.sq_base.specs.declared.settings.Settings.{Settings}
use Rattle.sq_model.specs.declared.place.Site.{Site}
use Rattle.sq_model.specs.declared.calls.HomeCall.{HomeCall}
use Rattle.sq_model.specs.declared.calls.HomeCall.TheVariants.{Configure, Close, Send, Look, Delete, Change, Purge, Count, StartDrain, FinishDrain, LeaveDead, LeaveDrain, LeaveTask, Enter, TurnBack, GiveBack, Drop}
use Rattle.sq_base.specs.declared.ids.HomeId.{HomeId}
use Rattle.sq_model.specs.declared.item.Item.{Item}
use Rattle.sq_model.specs.declared.ledger.LedgerCall.{LedgerCall}
use Rattle.sq_model.specs.declared.ledger.LedgerCall.TheVariants as asks
use Rattle.sq_model.specs.declared.ledger.LedgerReply.{LedgerReply}
use Rattle.sq_model.specs.declared.ledger.LedgerReply.TheVariants as answers
use Rattle.sq_model.specs.declared.replies.HomeReply.{HomeReply}
use Rattle.sq_model.specs.declared.replies.HomeReply.TheVariants.{Done, Sent, Looked, Over, Counted, Left, NoLiveRow, NoOrigin, SourceClosed, Entered}
use Rattle.sq_model.specs.Homes.{Contents, Home, Unopened, Serving, Closed, HomeStep, fresh_id, unexpired_rows}
use Rattle.sq_model.specs.Lineages.{Ending, Dropped, home_drops, home_ends, items_with, home_sends, home_outs, home_ins, rows_of, same_id, rows_with, ends_with, sends_with}
use Rattle.sq_model.specs.Ledgers.{Ledger, LedgerStep, IsLedger, item_of, items_without, turned_if, is_own}
use Rattle.sq_model.specs.Replays.{HomeEvent}
use Rattle.sq_model.specs.Systems.{HomeAt, System, Tag, OfDirectory, OfLedger, OfHome, IsStep, LedgerGoes, RunFrom, opening, is_alone, same_home, IsOnePlace, Opening}
use Rattle.sq_model.specs.Places.{step_ends, run_ends, tag_sends, run_sends, homes_with}
use Rattle.sq_laws.proofs.LineageLaws.{home_law, ends_append}
use Rattle.sq_laws.proofs.LedgerLists.{count_append, count_turned, count_without, turned_row}
use Rattle.sq_laws.proofs.LedgerLaws.{opens}
use Rattle.sq_laws.proofs.LedgerSteps.{step_keeps}

pub sends_append : (x : MessageId) (es fs : List MessageId) → sends_with x (es ++ fs) ≡ sends_with x es + sends_with x fs
sends_append x es fs = sum_by-append (λ e. cond (same_id x e) 1 0) es fs

-- one element is put in the place of another
pub sum_set : {X : Type 0} (f : X → ℕ) (xs : List X) (i : ℕ) (old new : X) → slice_get xs i ≡ Some old → sum_by f (slice_set xs i new) + f old ≡ sum_by f xs + f new
sum_set f [] i old new h = absurd cc
sum_set f (x ∷ xs) zero old new h = let same : x ≡ old = cc in rw (sum_by-cons f new xs, sum_by-cons f x xs, same) (omega arith)
sum_set f (x ∷ xs) (suc i) old new h = rw (sum_by-cons f x (slice_set xs i new), sum_by-cons f x xs) (omega (arith, sum_set f xs i old new h))

-- a call of a home alone takes nothing out into transit and brings nothing in
none_out : (site : Site) (home : Home) (m : ℕ) (call : HomeCall) (reply : HomeReply) (after : Home) → HomeStep site home m call reply after → is_alone call ≡ true → home_outs reply ≡ []
unfolding HomeStep
none_out site Closed m Close (Left item) after h a = elim h [ ]
none_out site home m Close (Left item) after h a = elim h [ ]
none_out site home m call (Left item) after h a = search
none_out site home m call reply after h a = refl

pub none_in : (call : HomeCall) → is_alone call ≡ true → home_ins call ≡ []
none_in Close a = refl
none_in call a = cc

-- and gives none up
pub none_dropped : (call : HomeCall) → is_alone call ≡ true → home_drops call ≡ []
none_dropped (Drop item) a = absurd cc
none_dropped call a = cc

-- how often a message comes into transit by a step of the ledger, and how often it leaves it
abbrev ins : MessageId → LedgerReply → ℕ
ins x (answers.AtHome reply) = rows_with x (home_outs reply)
ins x reply = 0

abbrev outs : MessageId → LedgerCall → ℕ
outs x (asks.AtHome home call) = rows_with x (home_ins call) + ends_with x (home_drops call)
outs x call = 0

row_one : (x : MessageId) (row : Row) → rows_with x (row ∷ []) ≡ cond (same_id x row.lineage) 1 0
row_one x row = omega (arith, sum_by-cons (λ (r : Row). cond (same_id x r.lineage) 1 0) row [])

end_one : (x : MessageId) (e : Ending) → ends_with x (e ∷ []) ≡ cond (same_id x e.line) 1 0
end_one x e = omega (arith, sum_by-cons (λ (r : Ending). cond (same_id x r.line) 1 0) e [])

-- one came in
items_push : (x : MessageId) (items : List Item) (item : Item) → items_with x (items ++ item ∷ []) ≡ items_with x items + cond (same_id x item.row.lineage) 1 0
items_push x items item = count_append (λ (i : Item). same_id x i.row.lineage) items item

-- one went out
items_less : (x : MessageId) (l : Ledger) (item : Item) → IsLedger l → item_of item.number l ≡ Some item → items_with x (items_without item.number l.items) + cond (same_id x item.row.lineage) 1 0 ≡ items_with x l.items
items_less x l item h found = count_without (λ i. same_id x i.row.lineage) 1 l.items l.next_item item h.items_rise found

-- one was turned
items_turned : (x : MessageId) (items : List Item) (number : ℕ) → items_with x (map (turned_if number) items) ≡ items_with x items
items_turned x items number = count_turned (λ i. same_id x i.row.lineage) number items (λ i. ap (λ (row : Row). same_id x row.lineage) (turned_row number i))

-- In a step of the ledger nothing is lost in transit and nothing is made twice.
transit_law : (x : MessageId) (l : Ledger) (m : ℕ) (call : LedgerCall) (reply : LedgerReply) (after : Ledger) → LedgerStep l m call reply after → IsLedger l
    → items_with x after.items + outs x call ≡ items_with x l.items + ins x reply
unfolding LedgerStep
transit_law x l m (asks.AtHome home LeaveDead) (answers.AtHome (Left item)) after s h = rw s.1.2 (omega (arith, items_push x l.items item, row_one x item.row))
transit_law x l m (asks.AtHome home LeaveDrain) (answers.AtHome (Left item)) after s h = rw s.2.2 (omega (arith, items_push x l.items item, row_one x item.row))
transit_law x l m (asks.AtHome home (LeaveTask number)) (answers.AtHome (Left item)) after s h = rw s.2.2 (omega (arith, items_push x l.items item, row_one x item.row))
transit_law x l m (asks.AtHome home (LeaveTask number)) (answers.AtHome NoLiveRow) after s h = rw s.1 (omega arith)
transit_law x l m (asks.AtHome home (LeaveTask number)) (answers.AtHome (NoOrigin serial)) after s h = rw s.2 (omega arith)
transit_law x l m (asks.AtHome home (LeaveTask number)) (answers.AtHome SourceClosed) after s h = rw s.1 (omega arith)
transit_law x l m (asks.AtHome home (Enter item)) (answers.AtHome (Entered entered)) after s h = rw s.1.1 (omega (arith, items_less x l item h s.1.0, row_one x item.row))
transit_law x l m (asks.AtHome home (TurnBack item)) (answers.AtHome Done) after s h = rw s.2 (omega (arith, items_turned x l.items item.number))
transit_law x l m (asks.AtHome home (GiveBack item)) (answers.AtHome (Entered entered)) after s h = rw s.1.1 (omega (arith, items_less x l item h s.1.0, row_one x item.row))
transit_law x l m (asks.AtHome home (Drop item)) (answers.AtHome Done) after s h =
    rw s.1.1 (omega (arith, items_less x l item h s.1.0, end_one x (record { line = item.row.lineage; cause = Dropped })))
transit_law x l m (asks.StartTask source destination rate) (answers.Started number) after s h = rw s.4 (omega arith)
transit_law x l m (asks.CancelTask number) (answers.Cancelled moved) after s h = rw s.1 (omega arith)
transit_law x l m (asks.ListTasks source most) (answers.Listed listed) after s h = rw s.1 (omega arith)
transit_law x l m (asks.FinishTask number) answers.Finished after s h = rw s.2 (omega arith)
transit_law x l m call reply after s h = elim s [ ]

-- a step of the ledger's own moves none
own_moves_none : (x : MessageId) (call : LedgerCall) → is_own call ≡ true → outs x call ≡ 0
own_moves_none x (asks.AtHome home call) own = absurd cc
own_moves_none x (asks.StartTask source destination rate) own = refl
own_moves_none x (asks.CancelTask number) own = refl
own_moves_none x (asks.ListTasks source most) own = refl
own_moves_none x (asks.FinishTask number) own = refl

own_brings_none : (x : MessageId) (l : Ledger) (m : ℕ) (call : LedgerCall) (reply : LedgerReply) (after : Ledger) → LedgerStep l m call reply after → is_own call ≡ true → ins x reply ≡ 0
unfolding LedgerStep
own_brings_none x l m (asks.AtHome home call) reply after s own = absurd cc
own_brings_none x l m (asks.StartTask source destination rate) (answers.Started number) after s own = refl
own_brings_none x l m (asks.CancelTask number) (answers.Cancelled moved) after s own = refl
own_brings_none x l m (asks.ListTasks source most) (answers.Listed listed) after s own = refl
own_brings_none x l m (asks.FinishTask number) answers.Finished after s own = refl
own_brings_none x l m call reply after s own = elim s [ ]

-- what a step of a home does to the messages in transit
goes_law : (x : MessageId) (alone : Bool) (l : Ledger) (site : Site) (home new : Home) (e : HomeEvent) (after : Ledger) → is_alone e.call ≡ alone → HomeStep site home e.stamp.moment e.call e.reply new → LedgerGoes alone l site.home e after → IsLedger l
    → items_with x after.items + rows_with x (home_ins e.call) + ends_with x (home_drops e.call) ≡ items_with x l.items + rows_with x (home_outs e.reply)
goes_law x true l site home new e after is s goes h =
    let out = none_out site home e.stamp.moment e.call e.reply new s is in
    rw (goes, none_in e.call is, none_dropped e.call is, out) (omega arith)
goes_law x false l site home new e after is s goes h = omega (arith, transit_law x l e.stamp.moment (asks.AtHome site.home e.call) (answers.AtHome e.reply) after goes h)

-- the ledger of a system stays one
goes_keeps : (alone : Bool) (l : Ledger) (home : HomeId) (e : HomeEvent) (after : Ledger) → LedgerGoes alone l home e after → IsLedger l → IsLedger after
goes_keeps true l home e after goes h = rw goes h
goes_keeps false l home e after goes h = step_keeps l e.stamp.moment (asks.AtHome home e.call) (answers.AtHome e.reply) after goes h

ledger_stays : (before : System) (t : Tag) (after : System) → IsStep before t after → IsLedger before.ledger → IsLedger after.ledger
ledger_stays before (OfDirectory e) after s h = rw s.ledger h
ledger_stays before (OfLedger e) after s h = step_keeps before.ledger e.stamp.moment e.call e.reply after.ledger s.step h
ledger_stays before (OfHome i e) after s h = goes_keeps (is_alone e.call) before.ledger s.old.site.home e after.ledger s.ledger h

-- at the end of a step: rows + items + endings = rows and items before + sends
step_law : (x : MessageId) (before : System) (t : Tag) (after : System) (s : IsStep before t after) → IsLedger before.ledger
    → homes_with x after.homes + items_with x after.ledger.items + ends_with x (step_ends before t after s) ≡ homes_with x before.homes + items_with x before.ledger.items + sends_with x (tag_sends t)
step_law x before (OfDirectory e) after s h = rw (s.homes, s.ledger) (omega arith)
step_law x before (OfLedger e) after s h =
    let law = transit_law x before.ledger e.stamp.moment e.call e.reply after.ledger s.step h in
    rw s.homes (omega (arith, law, own_moves_none x e.call s.own, own_brings_none x before.ledger e.stamp.moment e.call e.reply after.ledger s.step s.own))
step_law x before (OfHome i e) after s h =
    let law = home_law x s.old.site s.old.home e.stamp.moment e.call e.reply s.new s.step in
    let transit = goes_law x (is_alone e.call) before.ledger s.old.site s.old.home s.new e after.ledger refl s.step s.ledger h in
    let moved = sum_set (λ at. rows_with x (rows_of at.home)) before.homes i s.old (record { site = s.old.site; home = s.new }) s.in_list in
    rw s.homes (omega (arith, law, transit, moved, ends_append x (home_ends s.old.home e.stamp.moment e.call) (home_drops e.call)))

-- and of a run
pub run_law : (x : MessageId) (before : System) (ts : List Tag) (after : System) (r : RunFrom before ts after) → IsLedger before.ledger
    → homes_with x after.homes + items_with x after.ledger.items + ends_with x (run_ends before ts after r) ≡ homes_with x before.homes + items_with x before.ledger.items + sends_with x (run_sends ts)
run_law x before [] after r h = rw r (omega arith)
run_law x before (t ∷ ts) after r h =
    omega (
      arith,
      run_law x r.0 ts after r.2 (ledger_stays before t r.0 r.1 h),
      step_law x before t r.0 r.1 h,
      ends_append x (step_ends before t r.0 r.1) (run_ends r.0 ts after r.2),
      sends_append x (tag_sends t) (run_sends ts),
    )

-- 1 where a home may still give this serial
abbrev pub left_in : ℕ → Home → ℕ
left_in serial Unopened = 1
left_in serial (Serving its) = cond (nat_le its.next serial) 1 0
left_in serial Closed = 0

-- 1 where it may still give this id
abbrev pub unspent : MessageId → HomeAt → ℕ
unspent x at = cond (same_home (record { queue = x.queue; home = x.home }) at.site.home) (left_in x.serial at.home) 0

give_law : (serial n : ℕ) → cond (nat_eq n serial) 1 0 + cond (nat_le (n + 1) serial) 1 0 ≤ cond (nat_le n serial) 1 0
give_law serial n = grind (arith, common_steps)

one_le : (serial n : ℕ) → cond (nat_le n serial) 1 0 ≤ 1
one_le serial n = grind (arith, common_steps)

spent : (a b : Bool) (n serial : ℕ) → cond (a && b && nat_eq n serial) 1 0 + cond (a && b) (cond (nat_le (n + 1) serial) 1 0) 0 ≤ cond (a && b) (cond (nat_le n serial) 1 0) 0
spent true true n serial = give_law serial n
spent true false n serial = omega arith
spent false b n serial = omega arith

opened : (here : Bool) (serial : ℕ) → cond here (cond (nat_le 0 serial) 1 0) 0 ≤ cond here 1 0
opened true serial = one_le serial 0
opened false serial = omega arith

closed : (here : Bool) (n : ℕ) → cond here 0 0 ≤ n
closed true n = omega arith
closed false n = omega arith

sends_one : (x id : MessageId) → sends_with x (id ∷ []) ≡ cond (same_id x id) 1 0
sends_one x id = omega (arith, sum_by-cons (λ e. cond (same_id x e) 1 0) id [])

next_le : (here : Bool) (n serial : ℕ) → cond here (cond (nat_le (n + 1) serial) 1 0) 0 ≤ cond here (cond (nat_le n serial) 1 0) 0
next_le true n serial = omega (arith, give_law serial n)
next_le false n serial = omega arith

configured : (here newer : Bool) (serial : ℕ) (its : Contents) (t : Settings) (w : ℕ)
    → cond here (left_in serial (cond newer (Serving (record its { settings = t; version = w })) (Serving its))) 0 ≤ cond here (cond (nat_le its.next serial) 1 0) 0
configured here true serial its t w = omega arith
configured here false serial its t w = omega arith

-- a home gives no serial twice
serial_law : (x : MessageId) (site : Site) (home : Home) (m : ℕ) (call : HomeCall) (reply : HomeReply) (after : Home) → HomeStep site home m call reply after
    → sends_with x (home_sends reply) + unspent x (record { site = site; home = after }) ≤ unspent x (record { site = site; home = home })
unfolding HomeStep
serial_law x site Unopened m (Configure t w) Done after h = rw h (omega (arith, opened (same_home (record { queue = x.queue; home = x.home }) site.home) x.serial))
serial_law x site (Serving its) m (Configure t w) Done after h =
    rw h (omega (arith, configured (same_home (record { queue = x.queue; home = x.home }) site.home) (nat_lt its.version w) x.serial (record its { rows = unexpired_rows its m }) t w))
serial_law x site Unopened m Close Done after h = rw h (omega (arith, closed (same_home (record { queue = x.queue; home = x.home }) site.home) 0))
serial_law x site (Serving its) m Close Done after h = rw h (omega (arith, closed (same_home (record { queue = x.queue; home = x.home }) site.home) 0))
serial_law x site (Serving its) m (Send body delay) (Sent sent) after h =
    rw (h.2, h.1, sends_one x (fresh_id site.home its.next)) (spent (site.home.queue == x.queue) (site.home.home == x.home) its.next x.serial)
serial_law x site (Serving its) m (Look max timeout) (Looked picked) after h = rw h.2 (omega arith)
serial_law x site (Serving its) m (Look max timeout) Over after h = rw h.2 (omega arith)
serial_law x site (Serving its) m (Delete receipt) Done after h = rw h.1 (omega arith)
serial_law x site (Serving its) m (Change receipt timeout) Done after h = rw h.3 (omega arith)
serial_law x site (Serving its) m Purge Done after h = rw h (omega arith)
serial_law x site (Serving its) m Count (Counted counts) after h = rw h.1 (omega arith)
serial_law x site (Serving its) m StartDrain Done after h = rw h (omega arith)
serial_law x site (Serving its) m FinishDrain Done after h = rw h.2 (omega arith)
serial_law x site (Serving its) m LeaveDead (Left item) after h = rw h.3.2 (omega arith)
serial_law x site (Serving its) m LeaveDrain (Left item) after h = rw h.4.2 (omega arith)
serial_law x site (Serving its) m (LeaveTask task) (Left item) after h = rw h.2.2 (omega arith)
serial_law x site (Serving its) m (LeaveTask task) NoLiveRow after h = rw h.1 (omega arith)
serial_law x site (Serving its) m (LeaveTask task) (NoOrigin serial) after h = rw h.1 (omega arith)
serial_law x site Closed m (LeaveTask task) SourceClosed after h = rw h (omega arith)
serial_law x site (Serving its) m (Enter item) (Entered entered) after h = rw h.3 (omega (arith, next_le (same_home (record { queue = x.queue; home = x.home }) site.home) its.next x.serial))
serial_law x site Closed m (TurnBack item) Done after h = rw h.1 (omega arith)
serial_law x site (Serving its) m (GiveBack item) (Entered entered) after h = rw h.3 (omega (arith, next_le (same_home (record { queue = x.queue; home = x.home }) site.home) its.next x.serial))
serial_law x site Closed m (Drop item) Done after h = rw h.1 (omega arith)
serial_law x site home m call reply after h = elim h [ ]

-- no id is given twice
fresh_step : (x : MessageId) (before : System) (t : Tag) (after : System) → IsStep before t after
    → sends_with x (tag_sends t) + sum_by (unspent x) after.homes ≤ sum_by (unspent x) before.homes
fresh_step x before (OfDirectory e) after h = rw h.homes (omega arith)
fresh_step x before (OfLedger e) after h = rw h.homes (omega arith)
fresh_step x before (OfHome i e) after h =
    let picked = serial_law x h.old.site h.old.home e.stamp.moment e.call e.reply h.new h.step in
    let moved = sum_set (unspent x) before.homes i h.old (record { site = h.old.site; home = h.new }) h.in_list in
    rw h.homes (omega (arith, picked, moved))

fresh_law : (x : MessageId) (before : System) (ts : List Tag) (after : System) → RunFrom before ts after → sends_with x (run_sends ts) ≤ sum_by (unspent x) before.homes
fresh_law x before [] after r = omega arith
fresh_law x before (t ∷ ts) after r =
    omega (arith, fresh_law x r.0 ts after r.2, fresh_step x before t r.0 r.1, sends_append x (tag_sends t) (run_sends ts))

none_yet : (x : MessageId) (sites : List Site) → homes_with x (map (λ site. record { site = site; home = Unopened }) sites) ≡ 0
none_yet x [] = refl
none_yet x (site ∷ sites) =
    rw (sum_by-cons (λ (at : HomeAt). rows_with x (rows_of at.home)) (record { site = site; home = Unopened }) (map (λ site. record { site = site; home = Unopened }) sites)) (omega (arith, none_yet x sites))

-- at the opening each home may give each of its ids once
all_unspent : (x : MessageId) (sites : List Site) → sum_by (unspent x) (map (λ site. record { site = site; home = Unopened }) sites) ≡ count_by (λ site. same_home (record { queue = x.queue; home = x.home }) site.home) sites
all_unspent x [] = refl
all_unspent x (site ∷ sites) =
    rw (
      sum_by-cons (unspent x) (record { site = site; home = Unopened }) (map (λ site. record { site = site; home = Unopened }) sites),
      sum_by-cons (λ (s : Site). cond (same_home (record { queue = x.queue; home = x.home }) s.home) 1 0) site sites,
      all_unspent x sites,
    ) refl

-- a message that was sent is in one place, and another in none
pub one_place : (x : MessageId) (o : Opening) (ts : List Tag) (after : System) (r : RunFrom (opening o) ts after) → IsOnePlace o.sites
    → (homes_with x after.homes + items_with x after.ledger.items + ends_with x (run_ends (opening o) ts after r) ≡ sends_with x (run_sends ts)) × (sends_with x (run_sends ts) ≤ 1)
one_place x o ts after r once = (
  omega (arith, run_law x (opening o) ts after r (opens o.transit), none_yet x o.sites),
  omega (arith, fresh_law x (opening o) ts after r, all_unspent x o.sites, once (record { queue = x.queue; home = x.home })),
)
