-- One line more is answered.
use Rattle.std.proofs.Common.{inl, inr, ◌⊎◌, ◌≡◌, ℕ, zero, suc, ◌+◌, ◌<◌, ◌≤◌, List, [], ◌∷◌, ◌++◌, length, take, drop, Option, Some, None, refl, sym, ap, subst, ◌∙◌, append_assoc, arith, add-one, length-append}
use Rattle.std.specs.Prelude.{false, IfSome, option_map, slice_get}
use Rattle.std.specs.Io.KnownBytes.{Appends}
use Rattle.sq_lines.specs.Lines.{LinesValue, read_of, lines_of, lines_left, with_feeds, has_feed, FirstIsOver, FirstIsWithin, GoesOn}
use Rattle.sq_lines.specs.Replies.{PutsFirst, PutsPart}
use Rattle.sq_lines.specs.declared.lines.TheConstants.{LIMIT}
use Rattle.std.proofs.lemmas.List.{append-nil}
use Rattle.sq_wire.specs.declared.run.ServeFault.{ServeFault}
use Rattle.sq_wire.specs.declared.run.ServeFault.TheVariants.{Read, Write, NoMemory, TooLong}
use Rattle.sq_wire.specs.inside.Owed.{CutAt}
use Rattle.sq_wire.specs.Runs.{Answers, AllWithin, Writes, WritesNoMore, NextUnanswered, AreLeft, StopsAt}
use Rattle.sq_lines.proofs.WriteLaws.{appends_none, appends_more, feeds_append}
use Rattle.sq_lines.proofs.ReplyLaws.{puts_all, part_behind}

pub answers_more : {S : Type 0} (Replies : S → List ℕ → List ℕ → S → Type 0) (state : S) (lines texts : List (List ℕ)) (mid : S) (line text : List ℕ) (after : S)
    → Answers Replies state lines texts mid → Replies mid line text after → Answers Replies state (lines ++ line ∷ []) (texts ++ text ∷ []) after
answers_more {S} Replies state [] [] mid line text after a g = (after, subst (λ (s : S). Replies s line text after) a g, refl)
answers_more Replies state (l ∷ ls) (t ∷ ts) mid line text after a g = (a.0, a.1, answers_more Replies a.0 ls ts mid line text after a.2 g)
answers_more Replies state [] (t ∷ ts) mid line text after a g = absurd a
answers_more Replies state (l ∷ ls) [] mid line text after a g = absurd a

-- a text for each line
pub answers_each : {S : Type 0} (Replies : S → List ℕ → List ℕ → S → Type 0) (state : S) (lines texts : List (List ℕ)) (after : S) → Answers Replies state lines texts after → length texts ≡ length lines
answers_each Replies state [] [] after a = refl
answers_each Replies state (l ∷ ls) (t ∷ ts) after a = ap suc (answers_each Replies a.0 ls ts after a.2)
answers_each Replies state [] (t ∷ ts) after a = absurd a
answers_each Replies state (l ∷ ls) [] after a = absurd a

within_more : (lines : List (List ℕ)) (line : List ℕ) → AllWithin lines → length line ≤ LIMIT → AllWithin (lines ++ line ∷ [])
within_more [] line w le = (le, tt)
within_more (l ∷ ls) line w le = (w.0, within_more ls line w.1 le)

-- n lines of all are answered, and the others are left; these texts of their replies have not gone out
pub record SoFar {S : Type 0} (Replies : S → List ℕ → List ℕ → S → Type 0) (lines : List (List ℕ)) (left : Option (List (List ℕ))) (old new : Option (List ℕ)) (owed : List (List ℕ)) (state now : S) (n : ℕ) : Type 0 where
  pub out : List (List ℕ)
  pub left_is : left ≡ Some (drop n lines)
  pub in_list : n ≤ length lines
  pub within : AllWithin (take n lines)
  pub answers : Answers Replies state (take n lines) (out ++ owed) now
  pub appends : Appends old new (with_feeds out)

abbrev pub IsSoFar : {S : Type 0} → (S → List ℕ → List ℕ → S → Type 0) → Option (List (List ℕ)) → Option (List (List ℕ)) → Option (List ℕ) → Option (List ℕ) → List (List ℕ) → S → S → ℕ → Type 0
IsSoFar Replies all left old new owed state now n = IfSome all (λ lines. SoFar Replies lines left old new owed state now n)

pub so_far_none : {S : Type 0} (Replies : S → List ℕ → List ℕ → S → Type 0) (all : Option (List (List ℕ))) (old : Option (List ℕ)) (state : S) → IsSoFar Replies all all old old [] state state 0
so_far_none Replies None old state = tt
so_far_none Replies (Some lines) old state = record { out = []; left_is = refl; in_list = omega arith; within = tt; answers = refl; appends = appends_none old }

-- what stands first in what is left
pub record IsNext (lines : List (List ℕ)) (n : ℕ) (line : List ℕ) (rest : List (List ℕ)) : Type 0 where
  pub within : n < length lines
  pub taken : take (suc n) lines ≡ take n lines ++ line ∷ []
  pub dropped : drop (suc n) lines ≡ rest
  pub found : slice_get lines n ≡ Some line

next_is : (lines : List (List ℕ)) (n : ℕ) (line : List ℕ) (rest : List (List ℕ)) → drop n lines ≡ line ∷ rest → IsNext lines n line rest
next_is [] zero line rest e = absurd cc
next_is [] (suc n) line rest e = absurd cc
next_is (l ∷ ls) zero line rest e = let h : l ≡ line = cc in let t : ls ≡ rest = cc in record { within = omega arith; taken = ap (λ (x : List ℕ). x ∷ []) h; dropped = t; found = ap Some h }
next_is (l ∷ ls) (suc n) line rest e = let r = next_is ls n line rest e in record { within = omega (arith, r.within); taken = ap (λ (x : List (List ℕ)). l ∷ x) r.taken; dropped = r.dropped; found = r.found }

next_left : (lines : List (List ℕ)) (n : ℕ) (line : List ℕ) (left : Option (List (List ℕ))) → option_map (λ rest. line ∷ rest) left ≡ Some (drop n lines) → (rest : List (List ℕ)) × (left ≡ Some rest) × IsNext lines n line rest
next_left lines n line None e = absurd cc
next_left lines n line (Some rest) e = (rest, refl, next_is lines n line rest (let h : line ∷ rest ≡ drop n lines = cc in sym h))

all_taken : (lines : List (List ℕ)) (n : ℕ) → drop n lines ≡ [] → n ≤ length lines → (n ≡ length lines) × (take n lines ≡ lines)
all_taken [] zero e le = (refl, refl)
all_taken [] (suc n) e le = absurd (omega arith)
all_taken (l ∷ ls) zero e le = absurd cc
all_taken (l ∷ ls) (suc n) e le = let r = all_taken ls n e (omega arith) in (omega (arith, r.0), ap (λ (x : List (List ℕ)). l ∷ x) r.1)

length_taken : (lines : List (List ℕ)) (n : ℕ) → n ≤ length lines → length (take n lines) ≡ n
length_taken lines zero le = refl
length_taken [] (suc n) le = absurd (omega arith)
length_taken (l ∷ ls) (suc n) le = ap suc (length_taken ls n (omega arith))

-- some of what is owed goes out
so_far_put : {S : Type 0} (Replies : S → List ℕ → List ℕ → S → Type 0) (lines : List (List ℕ)) (left : Option (List (List ℕ))) (old new newer : Option (List ℕ)) (owed waiting : List (List ℕ)) (state now : S) (n : ℕ) → SoFar Replies lines left old new owed state now n
    → PutsFirst new newer owed waiting → SoFar Replies lines left old newer waiting state now n
so_far_put Replies lines left old new newer owed waiting state now n h p =
    let all : h.out ++ owed ≡ (h.out ++ p.gone) ++ waiting = ap (λ (o : List (List ℕ)). h.out ++ o) p.parts ∙ sym (append_assoc h.out p.gone waiting) in
    record {
      out = h.out ++ p.gone;
      left_is = h.left_is;
      in_list = h.in_list;
      within = h.within;
      answers = subst (λ (texts : List (List ℕ)). Answers Replies state (take n lines) texts now) all h.answers;
      appends = rw feeds_append (appends_more old new newer (with_feeds h.out) (with_feeds p.gone) h.appends p.appends);
    }

pub so_far_puts : {S : Type 0} (Replies : S → List ℕ → List ℕ → S → Type 0) (all left : Option (List (List ℕ))) (old new newer : Option (List ℕ)) (owed waiting : List (List ℕ)) (state now : S) (n : ℕ) → IsSoFar Replies all left old new owed state now n
    → PutsFirst new newer owed waiting → IsSoFar Replies all left old newer waiting state now n
so_far_puts Replies None left old new newer owed waiting state now n h p = tt
so_far_puts Replies (Some lines) left old new newer owed waiting state now n h p = so_far_put Replies lines left old new newer owed waiting state now n h p

-- all of it goes out
pub so_far_out : {S : Type 0} (Replies : S → List ℕ → List ℕ → S → Type 0) (all left : Option (List (List ℕ))) (old new newer : Option (List ℕ)) (owed : List (List ℕ)) (state now : S) (n : ℕ) → IsSoFar Replies all left old new owed state now n
    → Appends new newer (with_feeds owed) → IsSoFar Replies all left old newer [] state now n
so_far_out Replies all left old new newer owed state now n h a = so_far_puts Replies all left old new newer owed [] state now n h (puts_all new newer owed a)

pub so_far_clear : {S : Type 0} (Replies : S → List ℕ → List ℕ → S → Type 0) (all left : Option (List (List ℕ))) (old new : Option (List ℕ)) (owed : List (List ℕ)) (state now : S) (n : ℕ) → IsSoFar Replies all left old new owed state now n → owed ≡ [] → IsSoFar Replies all left old new [] state now n
so_far_clear Replies all left old new owed state now n h none = subst (λ (o : List (List ℕ)). IsSoFar Replies all left old new o state now n) none h

-- where nothing is owed, the replies so far are written
so_far_written : {S : Type 0} (Replies : S → List ℕ → List ℕ → S → Type 0) (lines : List (List ℕ)) (left : Option (List (List ℕ))) (old new : Option (List ℕ)) (state now : S) (n : ℕ) → SoFar Replies lines left old new [] state now n → Writes Replies old new state (take n lines) now
so_far_written Replies lines left old new state now n h = record { texts = h.out; answers = rw (append-nil h.out) at h.answers; appends = h.appends; within = h.within }

-- no line is left
pub so_far_done : {S : Type 0} (Replies : S → List ℕ → List ℕ → S → Type 0) (all left : Option (List (List ℕ))) (old new : Option (List ℕ)) (state now : S) (n : ℕ) → IsSoFar Replies all left old new [] state now n → IfSome left (λ lines. lines ≡ [])
    → IfSome all (λ lines. (n ≡ length lines) × Writes Replies old new state lines now)
so_far_done Replies None left old new state now n h e = tt
so_far_done Replies (Some lines) left old new state now n h e =
    let none : drop n lines ≡ [] = subst (λ (o : Option (List (List ℕ))). IfSome o (λ l. l ≡ [])) h.left_is e in
    let r = all_taken lines n none h.in_list in
    (r.0, subst (λ (l : List (List ℕ)). Writes Replies old new state l now) r.1 (so_far_written Replies lines left old new state now n h))

-- what stands first in what is left, where it is known
first_left : (lines : List (List ℕ)) (left rest : Option (List (List ℕ))) (n : ℕ) (line : List ℕ) → left ≡ Some (drop n lines) → IfSome left (λ all. option_map (λ more. line ∷ more) rest ≡ Some all) → (more : List (List ℕ)) × (rest ≡ Some more) × IsNext lines n line more
first_left lines left rest n line is e =
    next_left lines n line rest (subst (λ (o : Option (List (List ℕ))). IfSome o (λ l. option_map (λ more. line ∷ more) rest ≡ Some l)) is e)

-- one line more is answered, and its reply is owed
pub so_far_more : {S : Type 0} (Replies : S → List ℕ → List ℕ → S → Type 0) (all left rest : Option (List (List ℕ))) (old new : Option (List ℕ)) (owed : List (List ℕ)) (state now after : S) (n : ℕ) (line text : List ℕ) → IsSoFar Replies all left old new owed state now n
    → IfSome left (λ lines. option_map (λ more. line ∷ more) rest ≡ Some lines) → length line ≤ LIMIT → Replies now line text after → IsSoFar Replies all rest old new (owed ++ text ∷ []) state after (n + 1)
so_far_more Replies None left rest old new owed state now after n line text h e le g = tt
so_far_more Replies (Some lines) left rest old new owed state now after n line text h e le g =
    let r = first_left lines left rest n line h.left_is e in
    let more = answers_more Replies state (take n lines) (h.out ++ owed) now line text after h.answers g in
    rw add-one (record {
      out = h.out;
      left_is = r.1 ∙ ap Some (sym r.2.dropped);
      in_list = omega (arith, r.2.within);
      within = rw r.2.taken (within_more (take n lines) line h.within le);
      answers = rw (r.2.taken, ← append_assoc h.out owed (text ∷ [])) more;
      appends = h.appends;
    })

-- a write cut off what was owed
cut_written : {S : Type 0} (Replies : S → List ℕ → List ℕ → S → Type 0) (Unanswered : S → List ℕ → S → Type 0) (lines : List (List ℕ)) (left : Option (List (List ℕ))) (known old new newer : Option (List ℕ)) (owed : List (List ℕ)) (state now after : S) (n : ℕ) (f : ServeFault)
    → SoFar Replies lines left old new owed state now n → CutAt f n new newer owed → ((after ≡ now) × AreLeft (drop n lines) known) ⊎ (NextUnanswered Unanswered now lines n after × AreLeft (drop (suc n) lines) known) → StopsAt Replies Unanswered f lines known old newer state after
cut_written Replies Unanswered lines left known old new newer owed state now after n (Write m) h cut last =
    let each : length (h.out ++ owed) ≡ n = answers_each Replies state (take n lines) (h.out ++ owed) now h.answers ∙ length_taken lines n h.in_list in
    let place : length h.out + cut.0 ≡ m = omega (arith, length-append h.out owed, each, cut.1) in
    record {
      read = n;
      texts = h.out ++ owed;
      mid = now;
      in_list = h.in_list;
      within = h.within;
      answers = h.answers;
      puts = subst (λ (k : ℕ). PutsPart old newer (h.out ++ owed) k) place (part_behind old new newer h.out owed cut.0 h.appends cut.2);
      last = last;
    }
cut_written Replies Unanswered lines left known old new newer owed state now after n (Read m) h cut last = absurd cut
cut_written Replies Unanswered lines left known old new newer owed state now after n (NoMemory m) h cut last = absurd cut
cut_written Replies Unanswered lines left known old new newer owed state now after n (TooLong m) h cut last = absurd cut

pub so_far_cut : {S : Type 0} (Replies : S → List ℕ → List ℕ → S → Type 0) (Unanswered : S → List ℕ → S → Type 0) (all left : Option (List (List ℕ))) (known old new newer : Option (List ℕ)) (owed : List (List ℕ)) (state now : S) (n : ℕ) (f : ServeFault) (held : List ℕ)
    → IsSoFar Replies all left old new owed state now n → IfSome left (λ lines. lines_left held known ≡ Some lines) → CutAt f n new newer owed → IfSome all (λ lines. StopsAt Replies Unanswered f lines known old newer state now)
so_far_cut Replies Unanswered None left known old new newer owed state now n f held h kept cut = tt
so_far_cut Replies Unanswered (Some lines) left known old new newer owed state now n f held h kept cut =
    let left_is : lines_left held known ≡ Some (drop n lines) = subst (λ (o : Option (List (List ℕ))). IfSome o (λ l. lines_left held known ≡ Some l)) h.left_is kept in
    cut_written Replies Unanswered lines left known old new newer owed state now now n f h cut (inl (refl, record { held = held; left_is = left_is }))

-- the same after a line whose answer had no memory
pub so_far_cut_unanswered : {S : Type 0} (Replies : S → List ℕ → List ℕ → S → Type 0) (Unanswered : S → List ℕ → S → Type 0) (all left : Option (List (List ℕ))) (known old new newer : Option (List ℕ)) (owed : List (List ℕ)) (state now after : S) (n : ℕ) (line : List ℕ) (f : ServeFault) (held : List ℕ)
    → IsSoFar Replies all left old new owed state now n → IfSome left (λ lines. option_map (λ more. line ∷ more) (lines_left held known) ≡ Some lines) → length line ≤ LIMIT → Unanswered now line after → CutAt f n new newer owed
    → IfSome all (λ lines. StopsAt Replies Unanswered f lines known old newer state after)
so_far_cut_unanswered Replies Unanswered None left known old new newer owed state now after n line f held h e le g cut = tt
so_far_cut_unanswered Replies Unanswered (Some lines) left known old new newer owed state now after n line f held h e le g cut =
    let r = first_left lines left (lines_left held known) n line h.left_is e in
    let unanswered : NextUnanswered Unanswered now lines n after = record { line = line; next = r.2.found; within = le; line_unanswered = g } in
    cut_written Replies Unanswered lines left known old new newer owed state now after n f h cut (inr (unanswered, record { held = held; left_is = r.1 ∙ ap Some (sym r.2.dropped) }))

-- what is left is what is left
pub left_same : (left : Option (List (List ℕ))) → IfSome left (λ lines. left ≡ Some lines)
left_same None = tt
left_same (Some lines) = refl

-- what was written so far
pub so_far_stops : {S : Type 0} (Replies : S → List ℕ → List ℕ → S → Type 0) (all left : Option (List (List ℕ))) (old new : Option (List ℕ)) (state now : S) (n m : ℕ) → IsSoFar Replies all left old new [] state now n → n ≡ m
    → IfSome all (λ lines. Writes Replies old new state (take m lines) now × (m ≤ length lines))
so_far_stops Replies None left old new state now n m h e = tt
so_far_stops Replies (Some lines) left old new state now n m h e = (subst (λ (k : ℕ). Writes Replies old new state (take k lines) now) e (so_far_written Replies lines left old new state now n h), omega (arith, e, h.in_list))

some_left : (lines : List (List ℕ)) (n : ℕ) → 0 < length (drop n lines) → n < length lines
some_left [] zero lt = absurd (omega arith)
some_left [] (suc n) lt = absurd (omega arith)
some_left (l ∷ ls) zero lt = omega arith
some_left (l ∷ ls) (suc n) lt = let r = some_left ls n lt in omega (arith, r)

-- there was no memory for the next line
pub so_far_lost : {S : Type 0} (Replies : S → List ℕ → List ℕ → S → Type 0) (Unanswered : S → List ℕ → S → Type 0) (all left : Option (List (List ℕ))) (coming old new : Option (List ℕ)) (state now : S) (n : ℕ) (read : LinesValue) → IsSoFar Replies all left old new [] state now n
    → IfSome left (λ lines. 0 < length lines) → IfSome left (λ lines. lines_left (read_of read) coming ≡ Some lines) → has_feed read.begun ≡ false → FirstIsWithin LIMIT (lines_of (read_of read)) → GoesOn read.ahead
    → IfSome all (λ lines. WritesNoMore Replies Unanswered old new state lines coming n now)
so_far_lost Replies Unanswered None left coming old new state now n read h some kept unbroken within on = tt
so_far_lost Replies Unanswered (Some lines) left coming old new state now n read h some kept unbroken within on =
    let in_list : 0 < length (drop n lines) = subst (λ (o : Option (List (List ℕ))). IfSome o (λ l. 0 < length l)) h.left_is some in
    let left_is : lines_left (read_of read) coming ≡ Some (drop n lines) = subst (λ (o : Option (List (List ℕ))). IfSome o (λ l. lines_left (read_of read) coming ≡ Some l)) h.left_is kept in
    record {
      mid = now;
      writes = so_far_written Replies lines left old new state now n h;
      in_list = some_left lines n in_list;
      last = inl (refl, record { read = read; left_is = left_is; unbroken = unbroken; within = within; goes_on = on });
    }

-- there was none for the answer to the next line
pub so_far_loses : {S : Type 0} (Replies : S → List ℕ → List ℕ → S → Type 0) (Unanswered : S → List ℕ → S → Type 0) (all left rest : Option (List (List ℕ))) (coming old new : Option (List ℕ)) (state now after : S) (n : ℕ) (line : List ℕ) → IsSoFar Replies all left old new [] state now n
    → IfSome left (λ lines. option_map (λ more. line ∷ more) rest ≡ Some lines) → length line ≤ LIMIT → Unanswered now line after → IfSome all (λ lines. WritesNoMore Replies Unanswered old new state lines coming n after)
so_far_loses Replies Unanswered None left rest coming old new state now after n line h e le g = tt
so_far_loses Replies Unanswered (Some lines) left rest coming old new state now after n line h e le g =
    let r = first_left lines left rest n line h.left_is e in
    record { mid = now; writes = so_far_written Replies lines left old new state now n h; in_list = r.2.within; last = inr (record { line = line; next = r.2.found; within = le; line_unanswered = g }) }

-- the next line is too long
pub so_far_over : {S : Type 0} (Replies : S → List ℕ → List ℕ → S → Type 0) (all left : Option (List (List ℕ))) (old new : Option (List ℕ)) (state now : S) (n : ℕ) → IsSoFar Replies all left old new [] state now n → IfSome left (λ lines. FirstIsOver LIMIT lines)
    → IfSome all (λ lines. Writes Replies old new state (take n lines) now × FirstIsOver LIMIT (drop n lines))
so_far_over Replies None left old new state now n h e = tt
so_far_over Replies (Some lines) left old new state now n h e = (so_far_written Replies lines left old new state now n h, subst (λ (o : Option (List (List ℕ))). IfSome o (λ l. FirstIsOver LIMIT l)) h.left_is e)

-- what waits is no more than what was there
puts_few : (old new : Option (List ℕ)) (texts waiting : List (List ℕ)) → PutsFirst old new texts waiting → length waiting ≤ length texts
puts_few old new texts waiting p = omega (arith, ap length p.parts, length-append p.gone waiting)

-- of one line more, one reply more at most is owed
pub few_more : (old new newer : Option (List ℕ)) (owed waiting left : List (List ℕ)) (text : List ℕ) (n : ℕ) → length owed ≤ n → PutsFirst old new owed waiting → PutsFirst new newer (waiting ++ text ∷ []) left → length left ≤ n + 1
few_more old new newer owed waiting left text n few p q =
    let before = puts_few old new owed waiting p in
    let after = puts_few new newer (waiting ++ text ∷ []) left q in
    let more = length-append waiting (text ∷ []) in
    omega (arith, few, before, after, more)
