-- The entries that are read are as many as there are items, of the batch's kind, and have the ids of these.
use Rattle.std.proofs.Common.{◌≡◌, ◌∙◌, Bool, true, false, not, ℕ, ◌<◌, ◌≤◌, add-zero, append-nil, List, [], ◌∷◌, length, map, Option, Some, None, Result, Ok, Err, refl, sym, ap, subst, arith}
use Rattle.std.specs.Prelude.{◌==◌, nat_lt, ◌&&◌, ◌||◌, if◌then◌else◌, codes, ok_or, IfErr}
use Rattle.std.specs.List.{list_all, list_any}
use Rattle.std.specs.Str.{bytes_eq}
use Rattle.std.proofs.lemmas.List.Folds.{list_all-map}
use Rattle.serde_json.specs.Data.{Data, Items, no_items, item}
use Rattle.sq_base.specs.Names.{is_name}
use Rattle.sq_base.specs.declared.handle.Handle.{Handle}
use Rattle.sq_base.specs.declared.refusal.Refusal.{Refusal}
use Rattle.sq_base.specs.declared.refusal.Refusal.TheVariants.{InvalidAddress, InvalidParameterValue, UnsupportedOperation, EmptyBatchRequest, TooManyEntriesInBatchRequest, InvalidBatchEntryId, BatchEntryIdsNotDistinct, BatchRequestTooLong}
use Rattle.sq_calls.specs.Batches.{IsBatch, are_of, have_distinct_ids, have_id, is_of}
use Rattle.sq_calls.specs.BodyTexts.{body_limit}
use Rattle.sq_calls.specs.declared.batches.BatchKind.{BatchKind}
use Rattle.sq_calls.specs.declared.batches.BatchKind.TheVariants as kind
use Rattle.sq_calls.specs.declared.batches.Entry.{Entry}
use Rattle.sq_calls.specs.declared.batches.EntryAsk.{EntryAsk}
use Rattle.sq_calls.specs.declared.batches.EntryAsk.TheVariants as ask
use Rattle.sq_calls.specs.declared.calls.Call.TheVariants as call
use Rattle.sq_policy.specs.Amounts.{in_range_if, within}
use Rattle.sq_policy.specs.Reading.{◌>>=◌}
use Rattle.sq_policy.specs.declared.amount.Amount.{Amount}
use Rattle.sq_policy.specs.declared.amount.Amount.TheVariants.{Natural, Other}
use Rattle.sq_requests.specs.Actions.{body_text, has_attributes_at}
use Rattle.sq_requests.specs.Batches.{ask_of, batch_check, batch_of, bodies_length, change_ask, change_of_entry, delete_of_entry, entries_of, entry_id, entry_of, has_id, have_same_id, how_many, items_at, members_of, repeat_an_id, send_ask, send_of_entry}
use Rattle.sq_requests.specs.inside.Batches.{are_distinct, check_by, entry_by, lengths_of, AreFirst, IsRead}
use Rattle.sq_requests.specs.Lists.{all_items, any_item}
use Rattle.sq_requests.specs.Members.{amount_at, amount_if_at, receipt_handle_at, text_at, url_at}
use Rattle.sq_requests.specs.declared.batches.EntryMembers.{EntryMembers}
use Rattle.sq_requests.specs.declared.batches.ReadEntries.{ReadEntries}

-- ---- what an entry asks is of its kind

-- it is refused for what is out of its range, if at all
abbrev IsInRange : {A : Type 0} → Result A Refusal → Type 0
IsInRange r = IfErr r (λ e. e ≡ InvalidParameterValue)

or_out_of_range : {A : Type 0} (o : Option A) → IsInRange (ok_or o InvalidParameterValue)
or_out_of_range (Some x) = tt
or_out_of_range None = refl

some_range : (n : Result ℕ Refusal) → IsInRange n → IsInRange (n >>= λ x. Ok (Some x))
some_range (Ok n) h = tt
some_range (Err e) h = h

delay_range : (delay : Option Amount) → IsInRange (in_range_if 0 900 InvalidParameterValue delay)
delay_range None = tt
delay_range (Some Other) = refl
delay_range (Some (Natural n)) = some_range (ok_or (within 0 900 n) InvalidParameterValue) (or_out_of_range (within 0 900 n))

send_is : (has : Bool) (delay : Result (Option ℕ) Refusal) (body : Result (List ℕ) Refusal) → IsInRange delay → IsInRange body
    → is_of kind.Send (if has then Err UnsupportedOperation else (delay >>= λ d. body >>= λ t. Ok (ask.Send t d))) ≡ true
send_is true delay body in_range short = refl
send_is false (Ok d) (Ok t) in_range short = refl
send_is false (Ok d) (Err e) in_range short = rw short refl
send_is false (Err e) body in_range short = rw in_range refl

body_range : (long : Bool) (body : List ℕ) → IsInRange (if long then Err InvalidParameterValue else Ok body)
body_range true body = refl
body_range false body = tt

change_is : (handle : Option Handle) (n : Option ℕ) → is_of kind.Change (ok_or n InvalidParameterValue >>= λ t. Ok (ask.Change handle t)) ≡ true
change_is handle None = refl
change_is handle (Some n) = refl

change_of : (handle : Option Handle) (amount : Amount) → is_of kind.Change (change_ask handle amount) ≡ true
change_of handle (Natural n) = change_is handle (within 0 43200 n)
change_of handle Other = refl

sent_of : (body : Result (List ℕ) Refusal) (delay : Result (Option Amount) Refusal) (has : Result Bool Refusal) (a : Result EntryAsk Refusal)
    → (body >>= λ b. delay >>= λ d. has >>= λ h. Ok (send_ask h d b)) ≡ Ok a → is_of kind.Send a ≡ true
sent_of (Ok b) (Ok d) (Ok h) a is =
    let same : send_ask h d b ≡ a = cc in
    subst (λ (x : Result EntryAsk Refusal). is_of kind.Send x ≡ true) same (send_is h (in_range_if 0 900 InvalidParameterValue d) (body_text b) (delay_range d) (body_range _ b))
sent_of (Ok b) (Ok d) (Err e) a is = absurd (cc)
sent_of (Ok b) (Err e) has a is = absurd (cc)
sent_of (Err e) delay has a is = absurd (cc)

deleted_of : (handle : Result (Option Handle) Refusal) (a : Result EntryAsk Refusal) → (handle >>= λ h. Ok (Ok (ask.Delete h))) ≡ Ok a → is_of kind.Delete a ≡ true
deleted_of (Ok h) a is =
    let same : Ok (ask.Delete h) ≡ a = cc in
    subst (λ (x : Result EntryAsk Refusal). is_of kind.Delete x ≡ true) same refl
deleted_of (Err e) a is = absurd (cc)

changed_of : (handle : Result (Option Handle) Refusal) (amount : Result Amount Refusal) (a : Result EntryAsk Refusal) → (handle >>= λ h. amount >>= λ n. Ok (change_ask h n)) ≡ Ok a → is_of kind.Change a ≡ true
changed_of (Ok h) (Ok n) a is =
    let same : change_ask h n ≡ a = cc in
    subst (λ (x : Result EntryAsk Refusal). is_of kind.Change x ≡ true) same (change_of h n)
changed_of (Ok h) (Err e) a is = absurd (cc)
changed_of (Err e) amount a is = absurd (cc)

ask_is : (kind : BatchKind) (d : Data) (a : Result EntryAsk Refusal) → ask_of kind d ≡ Ok a → is_of kind a ≡ true
unfolding send_of_entry delete_of_entry change_of_entry
ask_is kind.Send d a h = sent_of (text_at (codes "MessageBody") d) (amount_if_at (codes "DelaySeconds") d) (has_attributes_at d) a h
ask_is kind.Delete d a h = deleted_of (receipt_handle_at d) a h
ask_is kind.Change d a h = changed_of (receipt_handle_at d) (amount_at (codes "VisibilityTimeout") d) a h

-- ---- an entry has the id and the ask that are read

entry_parts : (id : Result (List ℕ) Refusal) (asked : Result (Result EntryAsk Refusal) Refusal) (e : Entry) → (id >>= λ i. asked >>= λ a. Ok (record { id = i; ask = a })) ≡ Ok e → (id ≡ Ok e.id) × (asked ≡ Ok e.ask)
entry_parts (Ok i) (Ok a) e h =
    let same : record { id = i; ask = a } ≡ e = cc in
    (ap (λ (x : Entry). Ok x.id) same, ap (λ (x : Entry). Ok x.ask) same)
entry_parts (Ok i) (Err x) e h = absurd (cc)
entry_parts (Err x) asked e h = absurd (cc)

entry_read : (kind : BatchKind) (d : Data) (e : Entry) → entry_of kind d ≡ Ok e → (entry_id d ≡ Ok e.id) × (ask_of kind d ≡ Ok e.ask)
unfolding entry_of
entry_read kind d e h = entry_parts (entry_id d) (ask_of kind d) e h

-- ---- all entries

first_and_more : (first : Result Entry Refusal) (rest : Result (List Entry) Refusal) (es : List Entry) → (first >>= λ e. rest >>= λ more. Ok (e ∷ more)) ≡ Ok es
    → (e : Entry) × (more : List Entry) × (first ≡ Ok e) × (rest ≡ Ok more) × (es ≡ e ∷ more)
first_and_more (Ok e) (Ok more) es h = (e, more, refl, refl, cc)
first_and_more (Ok e) (Err x) es h = absurd (cc)
first_and_more (Err x) rest es h = absurd (cc)

none_read : (es : List Entry) (read : Result (List Entry) Refusal) → read ≡ Ok [] → read ≡ Ok es → es ≡ []
none_read es read none is = cc

pub as_many : (kind : BatchKind) (items : Items) (es : List Entry) → entries_of kind items ≡ Ok es → length es ≡ how_many items
as_many kind no_items es h = ap length (none_read es (Ok []) refl h)
as_many kind (item d rest) es h =
    let p = first_and_more (entry_of kind d) (entries_of kind rest) es h in
    let all = ap length p.4 in
    let others = as_many kind rest p.1 p.3 in
    omega (arith, all, others)

pub of_kind : (kind : BatchKind) (items : Items) (es : List Entry) → entries_of kind items ≡ Ok es → are_of kind es ≡ true
of_kind kind no_items es h = rw (none_read es (Ok []) refl h) refl
of_kind kind (item d rest) es h =
    let p = first_and_more (entry_of kind d) (entries_of kind rest) es h in
    let one = ask_is kind d p.0.ask (entry_read kind d p.0 p.2).1 in
    rw (p.4, one, of_kind kind rest p.1 p.3) refl

-- an item has the id of another one where the entries that are read have one id
same_ids : (kind : BatchKind) (d : Data) (e : Entry) (items : Items) (es : List Entry) → entry_id d ≡ Ok e.id → entries_of kind items ≡ Ok es → any_item (have_same_id d) items ≡ have_id e.id es
same_ids kind d e no_items es one h = rw (none_read es (Ok []) refl h) refl
same_ids kind d e (item other rest) es one h =
    let p = first_and_more (entry_of kind other) (entries_of kind rest) es h in
    rw (p.4, one, (entry_read kind other p.0 p.2).0, same_ids kind d e rest p.1 one p.3) refl

neither : (a b : Bool) → (a || not b) ≡ not (not a && b)
neither true b = refl
neither false b = refl

repeated : (kind : BatchKind) (items : Items) (es : List Entry) → entries_of kind items ≡ Ok es → repeat_an_id items ≡ not (have_distinct_ids es)
repeated kind no_items es h = rw (none_read es (Ok []) refl h) refl
repeated kind (item d rest) es h =
    let p = first_and_more (entry_of kind d) (entries_of kind rest) es h in
    let same = same_ids kind d p.0 rest p.1 (entry_read kind d p.0 p.2).0 p.3 in
    rw (p.4, same, repeated kind rest p.1 p.3) (neither (have_id p.0.id p.1) (have_distinct_ids p.1))

named : (kind : BatchKind) (items : Items) (es : List Entry) → entries_of kind items ≡ Ok es → all_items has_id items ≡ list_all (λ e. is_name e.id) es
named kind no_items es h = rw (none_read es (Ok []) refl h) refl
named kind (item d rest) es h =
    let p = first_and_more (entry_of kind d) (entries_of kind rest) es h in
    rw (p.4, (entry_read kind d p.0 p.2).0, named kind rest p.1 p.3) refl

-- ---- the checks of a batch

-- by what is found: no entry, too many, an id for each, one of them twice, too long
abbrev by_tests : (none many ids twice long : Bool) → Result (Unit {0}) Refusal
by_tests none many ids twice long =
    if none then Err EmptyBatchRequest
    else if many then Err TooManyEntriesInBatchRequest
    else if not ids then Err InvalidBatchEntryId
    else if twice then Err BatchEntryIdsNotDistinct
    else if long then Err BatchRequestTooLong
    else Ok tt

unrefused : (none many ids twice long : Bool) → by_tests none many ids twice long ≡ Ok tt → (none ≡ false) × (many ≡ false) × (twice ≡ false)
unrefused true many ids twice long h = absurd (cc)
unrefused false true ids twice long h = absurd (cc)
unrefused false false false twice long h = absurd (cc)
unrefused false false true true long h = absurd (cc)
unrefused false false true false long h = (refl, refl, refl)

is_not : (b : Bool) → not b ≡ false → b ≡ true
is_not true h = refl
is_not false h = absurd (cc)

some_few : (n : ℕ) → (n == 0) ≡ false → nat_lt 10 n ≡ false → (0 < n) × (n ≤ 10)
some_few n some few = (grind arith, grind arith)

-- entries that are not refused are a batch
pub is_batch : (kind : BatchKind) (items : Items) (es : List Entry) → entries_of kind items ≡ Ok es → batch_check kind items ≡ Ok tt → IsBatch kind es
unfolding batch_check
is_batch kind items es read ok =
    let tests = unrefused (how_many items == 0) (nat_lt 10 (how_many items)) (all_items has_id items) (repeat_an_id items) (nat_lt body_limit (bodies_length kind items)) ok in
    let count = some_few (how_many items) tests.0 tests.1 in
    let many = as_many kind items es read in
    (rw many count.0, rw many count.1, of_kind kind items es read, is_not (have_distinct_ids es) (sym (repeated kind items es read) ∙ tests.2))

-- ---- the entries that the members make

same_id : (id : List ℕ) (first : List EntryMembers) → have_id id (map entry_by first) ≡ list_any (λ other. bytes_eq id other.id.now) first
same_id id [] = refl
same_id id (one ∷ rest) = rw (same_id id rest) refl

distinct : (first : List EntryMembers) → have_distinct_ids (map entry_by first) ≡ are_distinct first
distinct [] = refl
distinct (one ∷ rest) = rw (same_id one.id.now rest, distinct rest) refl

pub reads_few : (kind : BatchKind) (items : Items) (first : List EntryMembers) → AreFirst kind items no_items first → entries_of kind items ≡ Ok (map entry_by first)
reads_few kind items first so = so.entries ∙ rw append-nil refl

checks_few : (kind : BatchKind) (items : Items) (read : ReadEntries) → nat_lt 10 (how_many items) ≡ false → read.has_more ≡ false → AreFirst kind items no_items read.first.items → batch_check kind items ≡ check_by read
unfolding batch_check
checks_few kind items read few all so =
    let es = map entry_by read.first.items in
    let is = reads_few kind items read.first.items so in
    let ids : all_items has_id items ≡ list_all (λ entry. is_name entry.id.now) read.first.items = named kind items es is ∙ list_all-map (λ (e : Entry). is_name e.id) entry_by read.first.items in
    let twice : repeat_an_id items ≡ not (are_distinct read.first.items) = repeated kind items es is ∙ ap not (distinct read.first.items) in
    let count : how_many items ≡ length read.first.items = so.count ∙ add-zero _ in
    let lengths : bodies_length kind items ≡ lengths_of read.first.items = so.lengths ∙ add-zero _ in
    rw (few, all, ids, twice, lengths, count) refl

checks_many : (kind : BatchKind) (items : Items) (read : ReadEntries) → nat_lt 10 (how_many items) ≡ true → read.has_more ≡ true → batch_check kind items ≡ check_by read
unfolding batch_check
checks_many kind items read many more =
    let some : (how_many items == 0) ≡ false = grind arith in
    rw (some, many, more) refl

checks_by : (kind : BatchKind) (items : Items) (read : ReadEntries) (has_more : Bool) → read.has_more ≡ has_more → IsRead kind items read → batch_check kind items ≡ check_by read
checks_by kind items read true is so = checks_many kind items read (sym so.more ∙ is) is
checks_by kind items read false is so = checks_few kind items read (sym so.more ∙ is) is (so.first is)

-- what is read of all items is checked as they are
pub checks : (kind : BatchKind) (items : Items) (read : ReadEntries) → IsRead kind items read → batch_check kind items ≡ check_by read
checks kind items read so = checks_by kind items read read.has_more refl so

all_kept : (read : ReadEntries) (has_more : Bool) → read.has_more ≡ has_more → check_by read ≡ Ok tt → has_more ≡ false
all_kept read true is ok = absurd (let refused : check_by read ≡ Err TooManyEntriesInBatchRequest = rw is refl in cc)
all_kept read false is ok = refl

-- ---- a batch

-- what comes once all members are read
pub batch_reads : (kind : BatchKind) (d : Data) (url : Option (List ℕ)) (items : Items) (read : ReadEntries) → Ok url ≡ url_at d → Ok items ≡ items_at (codes "Entries") d → IsRead kind items read
    → batch_of kind d ≡ (ok_or url InvalidAddress >>= λ queue. check_by read >>= λ checked. entries_of kind items >>= λ entries. Ok (call.Batch (record { queue = queue; kind = kind; entries = entries })))
unfolding batch_of members_of
batch_reads kind d url items read a b so = rw (← a, ← b, so.entries, checks kind items read so) refl

-- and once nothing refused it
pub reads_entries : (kind : BatchKind) (items : Items) (read : ReadEntries) → IsRead kind items read → Ok tt ≡ check_by read → entries_of kind items ≡ Ok (map entry_by read.first.items)
reads_entries kind items read so ok = reads_few kind items read.first.items (so.first (all_kept read read.has_more refl (sym ok)))

pub makes_batch : (kind : BatchKind) (items : Items) (read : ReadEntries) → IsRead kind items read → Ok tt ≡ check_by read → IsBatch kind (map entry_by read.first.items)
makes_batch kind items read so ok = is_batch kind items _ (reads_entries kind items read so ok) (checks kind items read so ∙ sym ok)
