-- In a step of a home no message is lost and none is made twice.
use Rattle.std.proofs.Common.{◌≡◌, ℕ, ◌+◌, Bool, true, false, not, cond, List, [], ◌∷◌, ◌++◌, map, refl, ap, arith, unwrap_or}
use Rattle.std.specs.Prelude.{nat_lt, ◌&&◌, ◌==◌, filter, if◌then◌else◌}
use Rattle.std.specs.List.{list_any}
use Rattle.std.proofs.lemmas.List.Sums.{sum_by-append, sum_by-cons, sum_by_push}
use Rattle.std.proofs.lemmas.List.Filters.{sum_by-filter_both}
use Rattle.sq_base.specs.declared.message_id.MessageId.{MessageId}
use Rattle.sq_base.specs.declared.row.Row.{Row}
use Rattle.sq_base.specs.declared.settings.Settings.{Settings}
use Rattle.sq_model.specs.declared.place.Site.{Site}
use Rattle.sq_model.specs.declared.calls.Receipt.{Receipt}
use Rattle.sq_model.specs.declared.calls.HomeCall.{HomeCall}
use Rattle.sq_model.specs.declared.calls.HomeCall.TheVariants.{Configure, Close, Send, Look, Delete, Change, Purge, Count, StartDrain, FinishDrain, LeaveDead, LeaveDrain, LeaveTask, Enter, TurnBack, GiveBack, Drop}
use Rattle.sq_model.specs.declared.replies.HomeReply.{HomeReply}
use Rattle.sq_model.specs.declared.replies.HomeReply.TheVariants.{Done, Sent, Looked, Over, Counted, Left, NoLiveRow, NoOrigin, SourceClosed, Entered}
use Rattle.sq_model.specs.Rows.{ms, is_expired, unexpired, is_live, is_named, is_held, serials_of, received, received_if, changed_if, Takes}
use Rattle.sq_model.specs.Homes.{Contents, Home, Unopened, Serving, Closed, HomeStep, sent_row, entered_row, returned_row, unexpired_rows}
use Rattle.sq_model.specs.Lineages.{Cause, Expired, Deleted, Purged, ClosedAway, Ending, ended, expired, home_ends, home_sends, home_outs, home_ins, rows_of, same_id, rows_with, ends_with, sends_with}

abbrev one : MessageId → Row → ℕ
one x row = cond (same_id x row.lineage) 1 0

-- each row stays or goes
pub rows_part : (x : MessageId) (p : Row → Bool) (rows : List Row) → rows_with x (filter p rows) + rows_with x (filter (λ row. not (p row)) rows) ≡ rows_with x rows
rows_part x p rows = sum_by-filter_both p (λ row. not (p row)) (λ row. refl) (one x) rows

ends_ended : (x : MessageId) (cause : Cause) (rows : List Row) → ends_with x (ended cause rows) ≡ rows_with x rows
ends_ended x cause [] = refl
ends_ended x cause (row ∷ rows) =
    rw (sum_by-cons (λ (e : Ending). cond (same_id x e.line) 1 0) (record { line = row.lineage; cause = cause }) (ended cause rows), sum_by-cons (one x) row rows, ends_ended x cause rows) refl

pub ends_append : (x : MessageId) (es fs : List Ending) → ends_with x (es ++ fs) ≡ ends_with x es + ends_with x fs
ends_append x es fs = sum_by-append (λ e. cond (same_id x e.line) 1 0) es fs

pub rows_push : (x : MessageId) (rows : List Row) (row : Row) → rows_with x (rows ++ row ∷ []) ≡ rows_with x rows + one x row
rows_push x rows row = sum_by_push (one x) rows row

-- a change of each row that keeps its lineage
pub rows_map : (x : MessageId) (f : Row → Row) (rows : List Row) → ((row : Row) → (f row).lineage ≡ row.lineage) → rows_with x (map f rows) ≡ rows_with x rows
rows_map x f [] same = refl
rows_map x f (row ∷ rows) same =
    rw (sum_by-cons (one x) (f row) (map f rows), sum_by-cons (one x) row rows, rows_map x f rows same, same row) refl

pub received_line : (s : Settings) (serials : List ℕ) (m until : ℕ) (row : Row) → (received_if s serials m until row).lineage ≡ row.lineage
received_line s serials m until row =
    elim (is_live s m row && list_any (λ c. c == row.serial) serials) as (λ b. (if b then received m until row else row).lineage ≡ row.lineage) [ true ↦ refl | false ↦ refl ]

pub changed_line : (m : ℕ) (receipt : Receipt) (until : ℕ) (row : Row) → (changed_if m receipt until row).lineage ≡ row.lineage
changed_line m receipt until row =
    elim (is_held m receipt row) as (λ b. (if b then record row { visible_from = until } else row).lineage ≡ row.lineage) [ true ↦ refl | false ↦ refl ]

-- what has expired goes, and nothing else
pub expire_law : (x : MessageId) (s : Settings) (m : ℕ) (rows : List Row) → rows_with x (unexpired s m rows) + ends_with x (ended Expired (expired s m rows)) ≡ rows_with x rows
expire_law x s m rows = omega (arith, rows_part x (is_expired s m) rows, ends_ended x Expired (expired s m rows))

-- what has expired goes, and then those that pass
take_law : (x : MessageId) (s : Settings) (m : ℕ) (rows : List Row) (p : Row → Bool) (cause : Cause)
    → rows_with x (filter (λ row. not (p row)) (unexpired s m rows)) + ends_with x (ended Expired (expired s m rows) ++ ended cause (filter p (unexpired s m rows))) ≡ rows_with x rows
take_law x s m rows p cause =
    omega (arith, expire_law x s m rows, rows_part x p (unexpired s m rows), ends_ended x cause (filter p (unexpired s m rows)), ends_append x (ended Expired (expired s m rows)) (ended cause (filter p (unexpired s m rows))))

-- what has expired goes, and then all
all_law : (x : MessageId) (s : Settings) (m : ℕ) (rows : List Row) (cause : Cause)
    → ends_with x (ended Expired (expired s m rows) ++ ended cause (unexpired s m rows)) ≡ rows_with x rows
all_law x s m rows cause =
    omega (arith, expire_law x s m rows, ends_ended x cause (unexpired s m rows), ends_append x (ended Expired (expired s m rows)) (ended cause (unexpired s m rows)))

-- what is taken out is one less
pub takes_law : (x : MessageId) (row : Row) (rows rest : List Row) → Takes row rows rest → rows_with x rows ≡ rows_with x rest + one x row
takes_law x row rows rest t =
    rw (t.at, t.left) (omega (arith, sum_by-append (one x) t.before (row ∷ t.after), sum_by-append (one x) t.before t.after, sum_by-cons (one x) row t.after))

configure_law : (x : MessageId) (b : Bool) (its : Contents) (t : Settings) (w : ℕ) → rows_with x (rows_of (if b then Serving (record its { settings = t; version = w }) else Serving its)) ≡ rows_with x its.rows
configure_law x true its t w = refl
configure_law x false its t w = refl

-- What is in the home after a step, left the system in it or went into transit, is what was there, was sent or came in.
pub home_law : (x : MessageId) (site : Site) (home : Home) (m : ℕ) (call : HomeCall) (reply : HomeReply) (after : Home) → HomeStep site home m call reply after
    → rows_with x (rows_of after) + ends_with x (home_ends home m call) + rows_with x (home_outs reply)
    ≡ rows_with x (rows_of home) + sends_with x (home_sends reply) + rows_with x (home_ins call)
unfolding HomeStep
home_law x site Unopened m (Configure t w) Done after h = rw h refl
home_law x site (Serving its) m (Configure t w) Done after h =
    rw h (omega (arith, expire_law x its.settings m its.rows, configure_law x (nat_lt its.version w) (record its { rows = unexpired_rows its m }) t w))
home_law x site Unopened m Close Done after h = rw h refl
home_law x site (Serving its) m Close Done after h = rw h (omega (arith, all_law x its.settings m its.rows ClosedAway))
home_law x site (Serving its) m (Send body delay) (Sent sent) after h =
    rw (h.2, h.1) (omega (arith, expire_law x its.settings m its.rows, rows_push x (unexpired_rows its m) (sent_row site.home its.next sent.slot m (m + ms (unwrap_or delay its.settings.delay)) body)))
home_law x site (Serving its) m (Look max timeout) (Looked picked) after h =
    let until = m + ms (unwrap_or timeout its.settings.timeout) in
    rw h.2 (omega (arith, expire_law x its.settings m its.rows, rows_map x (received_if its.settings (serials_of picked) m until) (unexpired_rows its m) (received_line its.settings (serials_of picked) m until)))
home_law x site (Serving its) m (Look max timeout) Over after h = rw h.2 (omega (arith, expire_law x its.settings m its.rows))
home_law x site (Serving its) m (Delete receipt) Done after h = rw h.1 (omega (arith, take_law x its.settings m its.rows (is_named receipt) Deleted))
home_law x site (Serving its) m (Change receipt timeout) Done after h =
    rw h.3 (omega (arith, expire_law x its.settings m its.rows, rows_map x (changed_if m receipt (m + ms timeout)) (unexpired_rows its m) (changed_line m receipt (m + ms timeout))))
home_law x site (Serving its) m Purge Done after h = rw h (omega (arith, all_law x its.settings m its.rows Purged))
home_law x site (Serving its) m Count (Counted counts) after h = rw h.1 (omega (arith, expire_law x its.settings m its.rows))
home_law x site (Serving its) m StartDrain Done after h = rw h (omega (arith, expire_law x its.settings m its.rows))
home_law x site (Serving its) m FinishDrain Done after h = rw h.2 (omega (arith, expire_law x its.settings m its.rows, ap (rows_with x) h.1))
home_law x site (Serving its) m LeaveDead (Left item) after h =
    rw h.3.2 (omega (arith, expire_law x its.settings m its.rows, takes_law x item.row (unexpired_rows its m) h.3.0 h.3.1))
home_law x site (Serving its) m LeaveDrain (Left item) after h =
    rw h.4.2 (omega (arith, expire_law x its.settings m its.rows, takes_law x item.row (unexpired_rows its m) h.4.0 h.4.1))
home_law x site (Serving its) m (LeaveTask task) (Left item) after h =
    rw h.2.2 (omega (arith, expire_law x its.settings m its.rows, takes_law x item.row (unexpired_rows its m) h.2.0 h.2.1))
home_law x site (Serving its) m (LeaveTask task) NoLiveRow after h = rw h.1 (omega (arith, expire_law x its.settings m its.rows))
home_law x site (Serving its) m (LeaveTask task) (NoOrigin serial) after h = rw h.1 (omega (arith, expire_law x its.settings m its.rows))
home_law x site Closed m (LeaveTask task) SourceClosed after h = rw h refl
home_law x site (Serving its) m (Enter item) (Entered entered) after h =
    rw h.3 (omega (arith, expire_law x its.settings m its.rows, rows_push x (unexpired_rows its m) (entered_row site.home its.next entered.slot m item)))
home_law x site Closed m (TurnBack item) Done after h = rw h.1 refl
home_law x site (Serving its) m (GiveBack item) (Entered entered) after h =
    rw h.3 (omega (arith, expire_law x its.settings m its.rows, rows_push x (unexpired_rows its m) (returned_row its.next entered.slot m item)))
home_law x site Closed m (Drop item) Done after h = rw h.1 refl
home_law x site home m call reply after h = elim h [ ]
