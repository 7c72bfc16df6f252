-- What a call asks, by its action.
use Rattle.std.proofs.Common.{◌≡◌, ℕ, true, false, List, Some, None, Result, Ok, Err, refl, sym, subst}
use Rattle.std.specs.Prelude.{codes}
use Rattle.std.specs.Str.{bytes_eq}
use Rattle.std.proofs.lemmas.Slice.Eq.{bytes_eq-Decides}
use Rattle.serde_json.specs.Data.{Data}
use Rattle.sq_base.specs.declared.refusal.Refusal.{Refusal}
use Rattle.sq_base.specs.declared.refusal.Refusal.TheVariants.{NoMemory}
use Rattle.sq_calls.specs.declared.calls.Asked.TheVariants as asked
use Rattle.sq_calls.specs.declared.calls.Call.{Call}
use Rattle.sq_calls.specs.declared.turns.Turn.{Turn}
use Rattle.sq_policy.specs.Reading.{IsUnrefused, Reads, ◌>>=◌}
use Rattle.sq_requests.specs.Actions.{send_of}
use Rattle.sq_requests.specs.Batches.{batch_of}
use Rattle.sq_calls.specs.declared.batches.BatchKind.{BatchKind}
use Rattle.sq_requests.specs.Memory.{IsAsked, ReadsAsking}
use Rattle.sq_requests.specs.Queues.{create_of, create_asks, set_of, set_asks}
use Rattle.sq_requests.proofs.RequestLaws.{asks_refused}
use Rattle.sq_requests.specs.Requests.{asked_call, call_or_turn_of, batch_kind, plain_call_of, turn_of}
use Rattle.sq_requests.specs.inside.Requests.{call_asks, call_or_turn_asks}

pub reads_create : (action : List ℕ) (d : Data) (r : Result Call Refusal) → bytes_eq action (codes "CreateQueue") ≡ true → ReadsAsking (create_asks d) r (create_of d) → ReadsAsking (call_asks action d) r (asked_call action d)
unfolding asked_call call_asks
reads_create action d r is reads = rw is reads

pub reads_set : (action : List ℕ) (d : Data) (r : Result Call Refusal) → bytes_eq action (codes "CreateQueue") ≡ false → bytes_eq action (codes "SetQueueAttributes") ≡ true → ReadsAsking (set_asks d) r (set_of d)
    → ReadsAsking (call_asks action d) r (asked_call action d)
unfolding asked_call call_asks
reads_set action d r not is reads = rw (not, is) reads

-- a send and a batch ask for memory where nothing refuses them
asked_by : (read : Result Call Refusal) → IsUnrefused read → IsAsked (read >>= λ call. Ok true)
asked_by (Ok call) h = refl
asked_by (Err e) h = h

reads_asking : (read r : Result Call Refusal) → Reads r read → ReadsAsking (read >>= λ call. Ok true) r read
reads_asking read (Ok call) reads = reads
reads_asking read (Err NoMemory) reads = asked_by read reads
reads_asking read (Err e) reads = reads

sent : (d : Data) (r : Result Call Refusal) → Reads r (send_of d) → ReadsAsking (call_asks (codes "SendMessage") d) r (asked_call (codes "SendMessage") d)
unfolding asked_call call_asks
sent d r reads = reads_asking (send_of d) r reads

pub reads_send : (action : List ℕ) (d : Data) (r : Result Call Refusal) → bytes_eq action (codes "SendMessage") ≡ true → Reads r (send_of d) → ReadsAsking (call_asks action d) r (asked_call action d)
reads_send action d r is reads =
    let same = (bytes_eq-Decides action (codes "SendMessage")).0 is in
    subst (λ (a : List ℕ). ReadsAsking (call_asks a d) r (asked_call a d)) (sym same) (sent d r reads)

pub reads_batch : (action : List ℕ) (k : BatchKind) (d : Data) (r : Result Call Refusal) → bytes_eq action (codes "CreateQueue") ≡ false → bytes_eq action (codes "SetQueueAttributes") ≡ false → bytes_eq action (codes "SendMessage") ≡ false
    → batch_kind action ≡ Some k → Reads r (batch_of k d) → ReadsAsking (call_asks action d) r (asked_call action d)
unfolding asked_call call_asks
reads_batch action k d r create set send is reads = rw (create, set, send, is) (reads_asking (batch_of k d) r reads)

-- ---- calls that ask for no memory

plain_reads : (r : Result Call Refusal) → ReadsAsking (r >>= λ call. Ok false) r r
plain_reads (Ok call) = refl
plain_reads (Err NoMemory) = refl
plain_reads (Err e) = refl

pub reads_plain : (action : List ℕ) (d : Data) (r : Result Call Refusal) → bytes_eq action (codes "CreateQueue") ≡ false → bytes_eq action (codes "SetQueueAttributes") ≡ false → bytes_eq action (codes "SendMessage") ≡ false
    → batch_kind action ≡ None → r ≡ plain_call_of action d → ReadsAsking (call_asks action d) r (asked_call action d)
unfolding asked_call call_asks
reads_plain action d r create set send none is = rw is (rw (create, set, send, none) (plain_reads (plain_call_of action d)))

-- ---- a turn, or else a call

pub asks_a_turn : (action : List ℕ) (d : Data) (turn : Turn) → turn_of action d ≡ Some (Ok turn) → ReadsAsking (call_or_turn_asks action d) (Ok (asked.Turn turn)) (call_or_turn_of action d)
unfolding call_or_turn_of
asks_a_turn action d turn is = rw is refl

pub refuses_a_turn : (action : List ℕ) (d : Data) (e : Refusal) → turn_of action d ≡ Some (Err e) → ReadsAsking (call_or_turn_asks action d) (Err e) (call_or_turn_of action d)
unfolding call_or_turn_of call_or_turn_asks
refuses_a_turn action d e is = asks_refused e _ _ (rw is refl) (rw is refl)

pub asks_a_call : (action : List ℕ) (d : Data) (call : Call) → turn_of action d ≡ None → ReadsAsking (call_asks action d) (Ok call) (asked_call action d) → ReadsAsking (call_or_turn_asks action d) (Ok (asked.Call call)) (call_or_turn_of action d)
unfolding call_or_turn_of
asks_a_call action d call none reads = rw none (rw reads refl)

pub refuses_a_call : (action : List ℕ) (d : Data) (e : Refusal) → turn_of action d ≡ None → ReadsAsking (call_asks action d) (Err e) (asked_call action d) → ReadsAsking (call_or_turn_asks action d) (Err e) (call_or_turn_of action d)
unfolding call_or_turn_of call_or_turn_asks
refuses_a_call action d NoMemory none reads = rw none reads
refuses_a_call action d e none reads = rw none (rw reads refl)
