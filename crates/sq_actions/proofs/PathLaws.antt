-- Steps that are asked one after another, and the records that they leave.
use Rattle.std.proofs.Common.{◌≡◌, ◌∙◌, ℕ, ◌+◌, List, [], ◌∷◌, ◌++◌, length, refl, ap, sym, subst, inl, inr, arith, Result, Ok, Err}
use Rattle.std.specs.List.{All}
use Rattle.std.proofs.lemmas.List.{append-nil, append_assoc, length-append}
use Rattle.std.proofs.lemmas.List.Elements.{All-nil, All-cons, All-head, All-tail, All-append, All-weaker}
use Rattle.sq_base.specs.StampValue.{StampValue}
use Rattle.sq_base.specs.Stamps.{Below}
use Rattle.sq_base.specs.declared.refusal.Refusal.{Refusal}
use Rattle.sq_model.specs.RecordValues.{RecordValue, record_stamp, Journal}
use Rattle.sq_actions.specs.Asks.{Ask, Resolve, AskDirectory, AskHome, AskShared, Peek, Redriven, AskLedger, ReadTask, Gave, Found, Answered, Replied, Nothing, Peeked, Ends, Told, TaskFound, Done, AreOfStep, AreOf, IsNext, LeavesOf, Follow, Gains}
use Rattle.sq_directory.specs.Makers.{IsSeen}
use Rattle.sq_steps.specs.Journals.{having_seen}
use Rattle.sq_steps.proofs.JournalLaws.{later_first}
use Rattle.sq_actions.specs.Performs.{Path, Performs, LeavesRecords}
use Rattle.sq_directory.proofs.MakerLaws.{seen_below, seen_trans}

-- one step more
pub path_more : {S : Type 0} (stepped : S → Ask → Result Gave Refusal → S → Type 0) (s mid t : S) (ds : List Done) (d : Done) → Path stepped s ds mid → stepped mid d.ask d.answered t → Path stepped s (ds ++ d ∷ []) t
path_more {S} stepped s mid t [] d p h = (t, subst (λ (u : S). stepped u d.ask d.answered t) p h, refl)
path_more stepped s mid t (x ∷ ds) d p h = (p.0, p.1, path_more stepped p.0 mid t ds d p.2 h)

-- steps, and then others
pub path_append : {S : Type 0} (stepped : S → Ask → Result Gave Refusal → S → Type 0) (s mid t : S) (ds es : List Done) → Path stepped s ds mid → Path stepped mid es t → Path stepped s (ds ++ es) t
path_append {S} stepped s mid t [] es p q = subst (λ (u : S). Path stepped u es t) p q
path_append stepped s mid t (d ∷ ds) es p q = (p.0, p.1, path_append stepped p.0 mid t ds es p.2 q)

-- no step
pub answered_none : {S A : Type 0} (stepped : S → Ask → Result Gave Refusal → S → Type 0) (F : List Done → Result A Refusal → Type 0) (old : S) (answered : Result A Refusal) → F [] answered → Performs stepped F old answered old
answered_none stepped F old answered fits = record { trace = []; path = refl; fits = fits }

-- one step
pub answered_one : {S A : Type 0} (stepped : S → Ask → Result Gave Refusal → S → Type 0) (F : List Done → Result A Refusal → Type 0) (old mid new : S) (answered : Result A Refusal) (d : Done)
    → mid ≡ old → stepped mid d.ask d.answered new → F (d ∷ []) answered → Performs stepped F old answered new
answered_one {S} stepped F old mid new answered d same h fits = record {
  trace = d ∷ [];
  path = (new, subst (λ (s : S). stepped s d.ask d.answered new) same h, refl);
  fits = fits;
}

-- one step, and then others
pub answered_more : {S A : Type 0} (stepped : S → Ask → Result Gave Refusal → S → Type 0) (F G : List Done → Result A Refusal → Type 0) (old mid new : S) (answered : Result A Refusal) (d : Done)
    → stepped old d.ask d.answered mid → Performs stepped G mid answered new → ((rest : List Done) → G rest answered → F (d ∷ rest) answered) → Performs stepped F old answered new
answered_more stepped F G old mid new answered d h rest fits = record {
  trace = d ∷ rest.trace;
  path = (mid, h, rest.path);
  fits = fits rest.trace rest.fits;
}

-- nothing was changed
pub no_gain : (a b : Journal) → b ≡ a → Gains [] a b
no_gain a b same = record {
  added = ap (λ (x : Journal). x.records) same ∙ sym (append-nil a.records);
  follow = tt;
  above = All-nil (λ n. Below a.seen (record_stamp n));
  within = All-nil (λ n. IsSeen (record_stamp n) b.seen);
  saw = inl (sym (ap (λ (x : Journal). x.seen) same));
  counted = omega (arith, ap (λ (x : Journal). x.next) same);
  same_actor = ap (λ (x : Journal). x.actor) same;
}

-- a part was read
pub read_gain : (a b : Journal) (last : StampValue) → b ≡ having_seen a last → Gains [] a b
read_gain a b last same = record {
  added = ap (λ (x : Journal). x.records) same ∙ sym (append-nil a.records);
  follow = tt;
  above = All-nil (λ n. Below a.seen (record_stamp n));
  within = All-nil (λ n. IsSeen (record_stamp n) b.seen);
  saw = rw (ap (λ (x : Journal). x.seen) same) (later_first a.seen last);
  counted = omega (arith, ap (λ (x : Journal). x.next) same);
  same_actor = ap (λ (x : Journal). x.actor) same;
}

-- the next record was added
next_gain : (a b : Journal) (n : RecordValue) → IsNext a n b → Gains (n ∷ []) a b
next_gain a b n is = record {
  added = ap (λ (x : Journal). x.records) is.2;
  follow = (is.0, is.1, tt);
  above = All-cons (λ m. Below a.seen (record_stamp m)) n [] is.1 (All-nil (λ m. Below a.seen (record_stamp m)));
  within = All-cons (λ m. IsSeen (record_stamp m) b.seen) n [] (inl (sym (ap (λ (x : Journal). x.seen) is.2))) (All-nil (λ m. IsSeen (record_stamp m) b.seen));
  saw = rw (ap (λ (x : Journal). x.seen) is.2) (inr is.1);
  counted = omega (arith, ap (λ (x : Journal). x.next) is.2);
  same_actor = ap (λ (x : Journal). x.actor) is.2;
}

-- the records of a step
step_records : (ask : Ask) (answered : Result Gave Refusal) (a b : Journal) → LeavesOf ask answered a b → (ns : List RecordValue) × AreOfStep ask answered ns × Gains ns a b
step_records (Resolve name) (Ok (Found queue)) a b h = ([], refl, read_gain a b h.0 h.1)
step_records (AskDirectory call) (Ok (Answered reply)) a b h = (h.0 ∷ [], (h.0, h.1, refl), next_gain a b h.0 h.2)
step_records (AskHome name home act) (Ok (Replied reply)) a b h = (h.0 ∷ [], (h.0, h.1, refl), next_gain a b h.0 h.2)
step_records (AskShared name home what) (Ok (Replied reply)) a b h = (h.0 ∷ [], (h.0, h.1, refl), next_gain a b h.0 h.2)
step_records (AskShared name home what) (Ok Nothing) a b h = ([], refl, no_gain a b h)
step_records (Peek number) (Ok (Peeked next)) a b h = ([], refl, read_gain a b h.0 h.1)
step_records (Redriven source destination) (Ok (Ends ends)) a b h = ([], refl, read_gain a b h.0 h.1)
step_records (AskLedger what) (Ok (Told reply)) a b h = (h.0 ∷ [], (h.0, h.1, refl), next_gain a b h.0 h.2)
step_records (ReadTask number) (Ok (TaskFound found)) a b h = ([], refl, read_gain a b h.0 h.1)
step_records (Resolve name) (Err e) a b h = ([], refl, no_gain a b h)
step_records (AskDirectory call) (Err e) a b h = ([], refl, no_gain a b h)
step_records (AskHome name home act) (Err e) a b h = ([], refl, no_gain a b h)
step_records (AskShared name home what) (Err e) a b h = ([], refl, no_gain a b h)
step_records (Peek number) (Err e) a b h = ([], refl, no_gain a b h)
step_records (Redriven source destination) (Err e) a b h = ([], refl, no_gain a b h)
step_records (AskLedger what) (Err e) a b h = ([], refl, no_gain a b h)
step_records (ReadTask number) (Err e) a b h = ([], refl, no_gain a b h)
step_records ask answered a b h = elim h [ ]

follow_lower : (next next2 : ℕ) (seen seen2 : StampValue) (ns : List RecordValue) → next2 ≡ next → IsSeen seen seen2 → Follow next2 seen2 ns → Follow next seen ns
follow_lower next next2 seen seen2 [] e below f = tt
follow_lower next next2 seen seen2 (n ∷ ns) e below f = (f.0 ∙ e, seen_below seen seen2 (record_stamp n) below f.1, subst (λ (m : ℕ). Follow (m + 1) (record_stamp n) ns) e f.2)

follow_append : (next next2 : ℕ) (seen seen2 : StampValue) (xs ys : List RecordValue) → Follow next seen xs → All (λ n. IsSeen (record_stamp n) seen2) xs → IsSeen seen seen2 → next2 ≡ next + length xs → Follow next2 seen2 ys → Follow next seen (xs ++ ys)
follow_append next next2 seen seen2 [] ys f within below e g = follow_lower next next2 seen seen2 ys (omega (arith, e)) below g
follow_append next next2 seen seen2 (x ∷ xs) ys f within below e g =
    (f.0, f.1, follow_append (next + 1) next2 (record_stamp x) seen2 xs ys f.2 (All-tail (λ n. IsSeen (record_stamp n) seen2) x xs within) (All-head (λ n. IsSeen (record_stamp n) seen2) x xs within) (omega (arith, e)) g)

-- records that are gained one after another
pub gains_more : (a b c : Journal) (xs ys : List RecordValue) → Gains xs a b → Gains ys b c → Gains (xs ++ ys) a c
gains_more a b c xs ys h k = record {
  added = k.added ∙ ap (λ (ns : List RecordValue). ns ++ ys) h.added ∙ append_assoc a.records xs ys;
  follow = follow_append a.next b.next a.seen b.seen xs ys h.follow h.within h.saw h.counted k.follow;
  above = All-append (λ n. Below a.seen (record_stamp n)) xs ys h.above (All-weaker (λ n. Below b.seen (record_stamp n)) (λ n. Below a.seen (record_stamp n)) (λ n above. seen_below a.seen b.seen (record_stamp n) h.saw above) ys k.above);
  within = All-append (λ n. IsSeen (record_stamp n) c.seen) xs ys (All-weaker (λ n. IsSeen (record_stamp n) b.seen) (λ n. IsSeen (record_stamp n) c.seen) (λ n seen. seen_trans (record_stamp n) b.seen c.seen seen k.saw) xs h.within) k.within;
  saw = seen_trans a.seen b.seen c.seen h.saw k.saw;
  counted = omega (arith, h.counted, k.counted, length-append xs ys);
  same_actor = k.same_actor ∙ h.same_actor;
}

-- the records that steps leave, where each leaves its own
pub path_records : {S : Type 0} (stepped : S → Ask → Result Gave Refusal → S → Type 0) (journal : S → Journal) → ((s t : S) (ask : Ask) (answered : Result Gave Refusal) → stepped s ask answered t → LeavesOf ask answered (journal s) (journal t))
    → (s t : S) (ds : List Done) → Path stepped s ds t → (ns : List RecordValue) × AreOf ds ns × Gains ns (journal s) (journal t)
path_records stepped journal leaves s t [] p = ([], refl, no_gain (journal s) (journal t) (ap journal p))
path_records stepped journal leaves s t (d ∷ ds) p =
    let one = step_records d.ask d.answered (journal s) (journal p.0) (leaves s p.0 d.ask d.answered p.1) in
    let rest = path_records stepped journal leaves p.0 t ds p.2 in
    (one.0 ++ rest.0, (one.0, rest.0, one.1, rest.1, refl), gains_more (journal s) (journal p.0) (journal t) one.0 rest.0 one.2 rest.2)

-- a call's records are those of its steps
pub answered_records : {S A : Type 0} (stepped : S → Ask → Result Gave Refusal → S → Type 0) (journal : S → Journal) → ((s t : S) (ask : Ask) (answered : Result Gave Refusal) → stepped s ask answered t → LeavesOf ask answered (journal s) (journal t))
    → (F : List Done → Result A Refusal → Type 0) (old new : S) (answered : Result A Refusal) → Performs stepped F old answered new → LeavesRecords F (journal old) answered (journal new)
answered_records stepped journal leaves F old new answered h =
    let all = path_records stepped journal leaves old new h.trace h.path in
    record { trace = h.trace; records = all.0; are = all.1; gains = all.2; fits = h.fits }

-- Steps of what stands round a state, as steps of that state; what each step keeps is kept.
pub path_inside : {U B N : Type 0} (outer : U → Ask → Result Gave Refusal → U → Type 0) (inner : N → B → Ask → Result Gave Refusal → B → Type 0) (inside : U → B) (name : U → N)
    → ((s t : U) (ask : Ask) (answered : Result Gave Refusal) → outer s ask answered t → inner (name s) (inside s) ask answered (inside t) × (name t ≡ name s))
    → (s t : U) (ds : List Done) → Path outer s ds t → Path (inner (name s)) (inside s) ds (inside t) × (name t ≡ name s)
path_inside outer inner inside name f s t [] p = (ap inside p, ap name p)
path_inside {U} {B} {N} outer inner inside name f s t (d ∷ ds) p =
    let one = f s p.0 d.ask d.answered p.1 in
    let rest = path_inside outer inner inside name f p.0 t ds p.2 in
    ((inside p.0, one.0, subst (λ (n : N). Path (inner n) (inside p.0) ds (inside t)) one.1 rest.0), rest.1 ∙ one.1)

-- steps that fit one way fit another
pub fits_as : {S A : Type 0} (stepped : S → Ask → Result Gave Refusal → S → Type 0) (F G : List Done → Result A Refusal → Type 0) (old new : S) (answered : Result A Refusal) → Performs stepped G old answered new
    → ((ds : List Done) → G ds answered → F ds answered) → Performs stepped F old answered new
fits_as stepped F G old new answered h fits = record { trace = h.trace; path = h.path; fits = fits h.trace h.fits }
