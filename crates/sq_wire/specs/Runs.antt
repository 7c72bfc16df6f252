-- Somebody who is asked line after line, whatever answers a line: `Replies` says which text a line may have for its reply, and what it leaves.
use Rattle.std.specs.Prelude.{ℕ, suc, List, [], ◌∷◌, ◌≡◌, ◌<◌, ◌≤◌, ◌⊎◌, false, length, take, drop, Option, slice_get, IfSome, Some}
use Rattle.std.specs.Io.KnownBytes.{Appends}
use Rattle.sq_lines.specs.Lines.{LinesValue, read_of, lines_of, lines_left, with_feeds, OneMore, FirstIsOver, FirstIsWithin, GoesOn, has_feed}
use Rattle.sq_lines.specs.Replies.{PutsPart}
use Rattle.sq_lines.specs.declared.counted.Counted.{Counted}
use Rattle.sq_lines.specs.declared.lines.TheConstants.{LIMIT}
use Rattle.sq_wire.specs.declared.run.ServeFault.{ServeFault}
use Rattle.sq_wire.specs.declared.run.ServeFault.TheVariants.{Read, Write, NoMemory, TooLong}

-- for each line in order a text that it may have for its reply, on what the lines before it left
abbrev pub Answers : {S : Type 0} → (S → List ℕ → List ℕ → S → Type 0) → S → List (List ℕ) → List (List ℕ) → S → Type 0
Answers Replies state [] [] after = after ≡ state
Answers {S} Replies state (line ∷ lines) (text ∷ texts) after = (mid : S) × Replies state line text mid × Answers Replies mid lines texts after
Answers Replies state [] (text ∷ texts) after = ⊥
Answers Replies state (line ∷ lines) [] after = ⊥

-- no line is too long
abbrev pub AllWithin : List (List ℕ) → Type 0
AllWithin [] = Unit {0}
AllWithin (line ∷ lines) = (length line ≤ LIMIT) × AllWithin lines

-- the replies to these lines were written, each with a line feed, and nothing else
pub record Writes {S : Type 0} (Replies : S → List ℕ → List ℕ → S → Type 0) (old new : Option (List ℕ)) (state : S) (lines : List (List ℕ)) (after : S) : Type 0 where
  pub texts : List (List ℕ)
  pub answers : Answers Replies state lines texts after
  pub appends : Appends old new (with_feeds texts)
  pub within : AllWithin lines

-- the next line was asked, and there was no memory for its answer
pub record NextUnanswered {S : Type 0} (Unanswered : S → List ℕ → S → Type 0) (state : S) (lines : List (List ℕ)) (n : ℕ) (after : S) : Type 0 where
  pub line : List ℕ
  pub next : slice_get lines n ≡ Some line
  pub within : length line ≤ LIMIT
  pub line_unanswered : Unanswered state line after

-- these lines are left: in bytes that were read, and in what is still to come
pub record AreLeft (lines : List (List ℕ)) (coming : Option (List ℕ)) : Type 0 where
  pub held : List ℕ
  pub left_is : lines_left held coming ≡ Some lines

-- The replies to the first n lines went out whole, and no more than a front of the next. So many lines were read, what they ask is done, and the others are left. Of one line more what it asks may be done, where there was no memory for its answer.
pub record WritesPart {S : Type 0} (Replies : S → List ℕ → List ℕ → S → Type 0) (Unanswered : S → List ℕ → S → Type 0) (old new : Option (List ℕ)) (state : S) (lines : List (List ℕ)) (coming : Option (List ℕ)) (n : ℕ) (after : S) : Type 0 where
  pub read : ℕ
  pub texts : List (List ℕ)
  pub mid : S
  pub in_list : read ≤ length lines
  pub within : AllWithin (take read lines)
  pub answers : Answers Replies state (take read lines) texts mid
  pub puts : PutsPart old new texts n
  pub last : ((after ≡ mid) × AreLeft (drop read lines) coming) ⊎ (NextUnanswered Unanswered mid lines read after × AreLeft (drop (suc read) lines) coming)

-- there was no memory for the next line: it goes on in bytes that were read, and is within the limit as far as it was read
pub record LacksNext (left : List (List ℕ)) (coming : Option (List ℕ)) : Type 0 where
  pub read : LinesValue
  pub left_is : lines_left (read_of read) coming ≡ Some left
  pub unbroken : has_feed read.begun ≡ false
  pub within : FirstIsWithin LIMIT (lines_of (read_of read))
  pub goes_on : GoesOn read.ahead

-- the replies to the first n lines were written, and of the next one, which is there, nothing
pub record WritesNoMore {S : Type 0} (Replies : S → List ℕ → List ℕ → S → Type 0) (Unanswered : S → List ℕ → S → Type 0) (old new : Option (List ℕ)) (state : S) (lines : List (List ℕ)) (coming : Option (List ℕ)) (n : ℕ) (after : S) : Type 0 where
  pub mid : S
  pub writes : Writes Replies old new state (take n lines) mid
  pub in_list : n < length lines
  pub last : ((after ≡ mid) × LacksNext (drop n lines) coming) ⊎ NextUnanswered Unanswered mid lines n after

-- what a fault says of what was written, where so much of the input is still to come
abbrev pub StopsAt : {S : Type 0} → (S → List ℕ → List ℕ → S → Type 0) → (S → List ℕ → S → Type 0) → ServeFault → List (List ℕ) → Option (List ℕ) → Option (List ℕ) → Option (List ℕ) → S → S → Type 0
StopsAt Replies Unanswered (Read n) lines coming old new state after = Writes Replies old new state (take n lines) after × (n ≤ length lines)
StopsAt Replies Unanswered (TooLong n) lines coming old new state after = Writes Replies old new state (take n lines) after × FirstIsOver LIMIT (drop n lines)
StopsAt Replies Unanswered (NoMemory n) lines coming old new state after = WritesNoMore Replies Unanswered old new state lines coming n after
StopsAt Replies Unanswered (Write n) lines coming old new state after = WritesPart Replies Unanswered old new state lines coming n after

-- all lines that come, so many, were answered, and nothing else went out
abbrev pub AllAnswered : {S : Type 0} → (S → List ℕ → List ℕ → S → Type 0) → Option (List ℕ) → Option (List ℕ) → Option (List ℕ) → S → S → ℕ → Type 0
AllAnswered Replies coming old new before after n = IfSome (lines_left [] coming) (λ lines. (n ≡ length lines) × Writes Replies old new before lines after)

-- lines were answered up to a fault; or there was no memory to begin, and nothing was touched
abbrev pub AnsweredTo : {S R W : Type 0} → (S → List ℕ → List ℕ → S → Type 0) → (S → List ℕ → S → Type 0) → (R → Option (List ℕ)) → Counted R → Counted R → (W → Option (List ℕ)) → Counted W → Counted W → S → S → ServeFault → Type 0
AnsweredTo Replies Unanswered remaining reader reader_after contents writer writer_after before after fault =
    ((fault ≡ NoMemory 0) × (reader_after ≡ reader) × (writer_after ≡ writer) × (after ≡ before))
    ⊎ IfSome (lines_left [] (remaining reader.inner)) (λ lines. StopsAt Replies Unanswered fault lines (remaining reader_after.inner) (contents writer.inner) (contents writer_after.inner) before after)

-- a fault of reading or writing is one failed call, but for one of reading after all lines that are answered at most; no other call failed
abbrev pub IsOfCall : ServeFault → ℕ → ℕ → ℕ → ℕ → Type 0
IsOfCall (Read n) r r2 w w2 = (OneMore r r2 ⊎ ((n ≡ 1099511627776) × (r2 ≡ r))) × (w2 ≡ w)
IsOfCall (Write n) r r2 w w2 = (r2 ≡ r) × OneMore w w2
IsOfCall (NoMemory n) r r2 w w2 = (r2 ≡ r) × (w2 ≡ w)
IsOfCall (TooLong n) r r2 w w2 = (r2 ≡ r) × (w2 ≡ w)
