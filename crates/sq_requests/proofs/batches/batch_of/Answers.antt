use Rattle.std.proofs.Common.{◌≡◌, refl, rules, Err}
use Rattle.sq_json.specs.View.{items_view, view}
use Rattle.sq_requests.specs.Batches.{batch_of, members_of}
use Rattle.sq_requests.proofs.EntriesLaws.{batch_reads, makes_batch, reads_entries}
use Rattle.sq_requests.proofs.RequestLaws.{reads_refused}
use Rattle.sq_requests.proofs.batches.batch_of.Goals as goal

pub returns-in_err-read : goal.returns-in_err-read
unfolding batch_of members_of
returns-in_err-read c =
    let refused : c.from_residual-in_err-read.result ≡ Err c.in_err-read.field-0.0 = search rules in
    rw (refused, c.in_err-read.ensures.err.0, ← c.in_ok-url.ensures, ← c.in_ok-items.ensures, c.in_err-read.ensures.err.1) refl

pub returns-in_err-queue : goal.returns-in_err-queue
returns-in_err-queue c =
    let refused : c.from_residual-in_err-queue.result ≡ Err c.in_err-queue.field-0.0 = search rules in
    let so = batch_reads c.args.kind (view c.args.value.now) c.in_ok-url.url (items_view c.in_ok-items.items) c.in_ok-read.read c.in_ok-url.ensures c.in_ok-items.ensures c.in_ok-read.ensures.ok in
    rw refused (reads_refused c.in_err-queue.field-0.0 _ (rw (so, ← c.in_err-queue.ensures.value) refl))

pub returns-in_err-batch_check : goal.returns-in_err-batch_check
returns-in_err-batch_check c =
    let refused : c.from_residual-in_err-batch_check.result ≡ Err c.in_err-batch_check.field-0.0 = search rules in
    let so = batch_reads c.args.kind (view c.args.value.now) c.in_ok-url.url (items_view c.in_ok-items.items) c.in_ok-read.read c.in_ok-url.ensures c.in_ok-items.ensures c.in_ok-read.ensures.ok in
    rw refused (reads_refused c.in_err-batch_check.field-0.0 _ (rw (so, ← c.in_ok-queue.ensures.value, ← c.in_err-batch_check.ensures) refl))

pub returns-in_err-entries : goal.returns-in_err-entries
returns-in_err-entries c =
    let refused : c.from_residual-in_err-entries.result ≡ Err c.in_err-entries.field-0.0 = search rules in
    let so = batch_reads c.args.kind (view c.args.value.now) c.in_ok-url.url (items_view c.in_ok-items.items) c.in_ok-read.read c.in_ok-url.ensures c.in_ok-items.ensures c.in_ok-read.ensures.ok in
    let read = reads_entries c.args.kind (items_view c.in_ok-items.items) c.in_ok-read.read c.in_ok-read.ensures.ok c.in_ok-batch_check.ensures in
    rw (refused, c.in_err-entries.ensures.err, so, ← c.in_ok-queue.ensures.value, ← c.in_ok-batch_check.ensures, read) tt

pub returns : goal.returns
returns c =
    let so = batch_reads c.args.kind (view c.args.value.now) c.in_ok-url.url (items_view c.in_ok-items.items) c.in_ok-read.read c.in_ok-url.ensures c.in_ok-items.ensures c.in_ok-read.ensures.ok in
    let read = reads_entries c.args.kind (items_view c.in_ok-items.items) c.in_ok-read.read c.in_ok-read.ensures.ok c.in_ok-batch_check.ensures in
    rw (so, ← c.in_ok-queue.ensures.value, ← c.in_ok-batch_check.ensures, read, c.in-Some.ensures.made, c.in_ok-entries.ensures.ok, c.as_slice.ensures.value) refl

pub unreachable-requires : goal.unreachable-requires
unreachable-requires c = c.in-None.ensures.refused (rw (c.in_ok-entries.ensures.ok, c.as_slice.ensures.value) (makes_batch c.args.kind (items_view c.in_ok-items.items) c.in_ok-read.read c.in_ok-read.ensures.ok c.in_ok-batch_check.ensures))
