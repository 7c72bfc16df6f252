-- The first line of what was read is the first line of all.
use Rattle.std.proofs.Common.{◌≡◌, ℕ, zero, suc, ◌+◌, ◌<◌, ◌≤◌, Bool, true, false, List, [], ◌∷◌, ◌++◌, length, take, drop, get_or, Option, Some, None, refl, sym, ap, subst, ◌∙◌, append_assoc, arith, add-one}
use Rattle.std.specs.Prelude.{◌==◌, ◌||◌, if◌then◌else◌, IfSome, MatchOption, option_map, is_some}
use Rattle.std.specs.Io.KnownBytes.{Consumes, IsAtEnd}
use Rattle.std.proofs.lemmas.Bool.{eqb-true}
use Rattle.std.proofs.lemmas.List.{append-nil}
use Rattle.memchr.specs.Find.{Nowhere, Passes, is_byte, IsFirstByte}
use Rattle.sq_lines.specs.Lines.{longer, lines_of, lines_left, has_feed, FirstIsOver, FirstIsWithin, GoesOn}

or_true : (b : Bool) → (b || true) ≡ true
or_true true = refl
or_true false = refl

true_is_not : true ≡ false → ⊥
true_is_not e = cc

-- one with none before and none in the rest
no_feed_with : (b : ℕ) (bs : List ℕ) → (b == 10) ≡ false → has_feed bs ≡ false → has_feed (b ∷ bs) ≡ false
unfolding has_feed
no_feed_with b bs first rest = rw (first, rest) refl

-- what a list without line feeds says of its first byte and the others
record IsFree (b : ℕ) (bs : List ℕ) : Type 0 where
  pub first : (b == 10) ≡ false
  pub rest : has_feed bs ≡ false

free_by : (b : ℕ) (bs : List ℕ) (t : Bool) → (b == 10) ≡ t → (t || has_feed bs) ≡ false → IsFree b bs
free_by b bs true e h = absurd cc
free_by b bs false e h = record { first = e; rest = h }

free_of : (b : ℕ) (bs : List ℕ) → has_feed (b ∷ bs) ≡ false → IsFree b bs
unfolding has_feed
free_of b bs h = free_by b bs (b == 10) refl h

pub no_feed_none : has_feed [] ≡ false
unfolding has_feed
no_feed_none = refl

-- no line feed in one part and none in the next
no_feed_more : (xs ys : List ℕ) → has_feed xs ≡ false → has_feed ys ≡ false → has_feed (xs ++ ys) ≡ false
no_feed_more [] ys p q = q
no_feed_more (b ∷ xs) ys p q = let f = free_of b xs p in no_feed_with b (xs ++ ys) f.first (no_feed_more xs ys f.rest q)

-- no line feed up to a place
abbrev Plain : List ℕ → ℕ → Type 0
Plain xs n = (k : ℕ) → k < n → (get_or xs k 0 == 10) ≡ false

plain_rest : (b : ℕ) (xs : List ℕ) (n : ℕ) → Plain (b ∷ xs) (suc n) → Plain xs n
plain_rest b xs n h k lt = h (suc k) (omega arith)

no_feed_front : (xs : List ℕ) (n : ℕ) → n ≤ length xs → Plain xs n → has_feed (take n xs) ≡ false
no_feed_front xs zero le h = no_feed_none
no_feed_front [] (suc n) le h = absurd (omega arith)
no_feed_front (b ∷ xs) (suc n) le h = no_feed_with b (take n xs) (h 0 (omega arith)) (no_feed_front xs n (omega arith) (plain_rest b xs n h))

not_passes : (b : Bool) → (b ≡ true → ⊥) → b ≡ false
not_passes true h = absurd (h refl)
not_passes false h = refl

plain_from : (xs : List ℕ) (n : ℕ) → Nowhere (Passes (is_byte 10) xs) 0 n → Plain xs n
plain_from xs n none k lt = not_passes (get_or xs k 0 == 10) (none k (omega arith) lt)

take_all : (xs : List ℕ) → take (length xs) xs ≡ xs
take_all [] = refl
take_all (x ∷ xs) = ap (λ (r : List ℕ). x ∷ r) (take_all xs)

-- no byte is a line feed
no_feed_here : (xs : List ℕ) → IsFirstByte (is_byte 10) xs None → has_feed xs ≡ false
no_feed_here xs none = subst (λ (r : List ℕ). has_feed r ≡ false) (take_all xs) (no_feed_front xs (length xs) (omega arith) (plain_from xs (length xs) none))

pub no_feed_found : (xs searched : List ℕ) (found : Option ℕ) → IsFirstByte (is_byte 10) searched found → found ≡ None → searched ≡ xs → has_feed xs ≡ false
no_feed_found xs searched found h none same = no_feed_here xs (rw (none, same) at h)

-- no line feed in all, where there is none in either part
pub no_feed_all : (begun ahead all : List ℕ) → has_feed begun ≡ false → has_feed ahead ≡ false → all ≡ begun ++ ahead → has_feed all ≡ false
no_feed_all begun ahead all plain free same = rw same (no_feed_more begun ahead plain free)

-- a first line feed parts what stands before it from the rest
pub record IsCut (xs : List ℕ) (at : ℕ) : Type 0 where
  pub within : at < length xs
  pub front : has_feed (take at xs) ≡ false
  pub parts : xs ≡ take at xs ++ (10 ∷ drop (at + 1) xs)

parts_at : (xs : List ℕ) (at : ℕ) → at < length xs → get_or xs at 0 ≡ 10 → xs ≡ take at xs ++ (10 ∷ drop (suc at) xs)
parts_at [] at lt e = absurd (omega arith)
parts_at (b ∷ xs) zero lt e = ap (λ (r : ℕ). r ∷ xs) e
parts_at (b ∷ xs) (suc at) lt e = ap (λ (r : List ℕ). b ∷ r) (parts_at xs at (omega arith) e)

pub cut_found : (xs : List ℕ) (at : ℕ) → IsFirstByte (is_byte 10) xs (Some at) → IsCut xs at
cut_found xs at h = record {
  within = h.0.high;
  front = no_feed_front xs at (omega (arith, h.0.high)) (plain_from xs at h.0.before);
  parts = rw add-one (parts_at xs at h.0.high (eqb-true _ _ h.1));
}

cut_lines : (xs rest : List ℕ) → has_feed xs ≡ false → lines_of (xs ++ (10 ∷ rest)) ≡ xs ∷ lines_of rest
unfolding lines_of
cut_lines [] rest none = refl
cut_lines (b ∷ xs) rest none =
    let f = free_of b xs none in
    let e = cut_lines xs rest f.rest in
    rw (f.first, e) refl

whole_line : (b : ℕ) (xs : List ℕ) → has_feed (b ∷ xs) ≡ false → lines_of (b ∷ xs) ≡ (b ∷ xs) ∷ []
unfolding lines_of
whole_line b [] none = let f = free_of b [] none in rw f.first refl
whole_line b (c ∷ xs) none =
    let f = free_of b (c ∷ xs) none in
    rw (f.first, whole_line c xs f.rest) refl

-- a line is cut off what was begun and what was read ahead
pub line_cut : (begun ahead line rest : List ℕ) (known : Option (List ℕ)) (at : ℕ) → has_feed begun ≡ false → IsCut ahead at → line ≡ begun ++ take at ahead → rest ≡ drop (at + 1) ahead
    → IfSome (lines_left (begun ++ ahead) known) (λ lines. option_map (λ more. line ∷ more) (lines_left rest known) ≡ Some lines)
line_cut begun ahead line rest None at none c l r = tt
line_cut begun ahead line rest (Some xs) at none c l r =
    let front : has_feed line ≡ false = subst (λ (x : List ℕ). has_feed x ≡ false) (sym l) (no_feed_more begun (take at ahead) none c.front) in
    let e : lines_of (line ++ (10 ∷ (rest ++ xs))) ≡ line ∷ lines_of (rest ++ xs) = cut_lines line (rest ++ xs) front in
    let behind : ahead ++ xs ≡ take at ahead ++ (10 ∷ (rest ++ xs)) =
    ap (λ (x : List ℕ). x ++ xs) c.parts ∙ (append_assoc (take at ahead) (10 ∷ drop (at + 1) ahead) xs ∙ ap (λ (x : List ℕ). take at ahead ++ (10 ∷ (x ++ xs))) (sym r)) in
    let all : (begun ++ ahead) ++ xs ≡ line ++ (10 ∷ (rest ++ xs)) =
    append_assoc begun ahead xs ∙ (ap (λ (x : List ℕ). begun ++ x) behind ∙ (sym (append_assoc begun (take at ahead) (10 ∷ (rest ++ xs))) ∙ ap (λ (x : List ℕ). x ++ (10 ∷ (rest ++ xs))) (sym l))) in
    ap Some (sym (ap lines_of all ∙ e))

-- a read that gave nothing, since nothing is left
pub record IsDone (old new : Option (List ℕ)) (got : List ℕ) : Type 0 where
  pub none : got ≡ []
  pub bytes : Consumes old new got
  pub end : IsAtEnd new

-- nothing comes
record IsOver (xs : List ℕ) (new : Option (List ℕ)) : Type 0 where
  pub none : xs ≡ []
  pub left : new ≡ Some []

over_of : (xs : List ℕ) (new : Option (List ℕ)) (got : List ℕ) → IsDone (Some xs) new got → IsOver xs new
over_of xs None got d = absurd d.bytes
over_of xs (Some ys) got d = record { none = let e : xs ≡ [] ++ ys = rw d.none at d.bytes in e ∙ d.end; left = ap Some d.end }

-- nothing was read, and nothing comes
pub line_none : (read : List ℕ) (old new : Option (List ℕ)) (got : List ℕ) → IsDone old new got → read ≡ [] → IfSome (lines_left read old) (λ lines. lines ≡ [])
unfolding lines_of
line_none read None new got d e = tt
line_none read (Some xs) new got d e = let o = over_of xs new got d in rw (e, o.none) refl

-- what was read is the last line
pub line_last : (read line : List ℕ) (old new : Option (List ℕ)) (got : List ℕ) → IsDone old new got → 0 < length read → has_feed read ≡ false → line ≡ read → IfSome (lines_left read old) (λ lines. option_map (λ more. line ∷ more) (lines_left [] new) ≡ Some lines)
unfolding lines_of
line_last [] line old new got d lt none l = absurd (omega arith)
line_last (b ∷ read) line None new got d lt none l = tt
line_last (b ∷ read) line (Some xs) new got d lt none l =
    let o = over_of xs new got d in
    let all : (b ∷ read) ++ xs ≡ b ∷ read = ap (λ (r : List ℕ). (b ∷ read) ++ r) o.none ∙ append-nil (b ∷ read) in
    let e : lines_of ((b ∷ read) ++ xs) ≡ (b ∷ read) ∷ [] = ap lines_of all ∙ whole_line b read none in
    let left : option_map (λ more. line ∷ more) (lines_left [] new) ≡ Some ((b ∷ read) ∷ []) = rw (o.left, l) refl in
    left ∙ ap Some (sym e)

-- what was read and what comes, after a read
pub lines_on : (read more : List ℕ) (old new : Option (List ℕ)) → Consumes old new more → IfSome (lines_left read old) (λ lines. lines_left (read ++ more) new ≡ Some lines)
lines_on read more None new h = tt
lines_on read more (Some xs) None h = absurd h
lines_on read more (Some xs) (Some ys) h = rw (h, append_assoc read more ys) refl

-- a fact of the lines that are left, where a loop has kept them
pub lines_kept : (P : List (List ℕ) → Type 0) (a b : Option (List (List ℕ))) → IfSome a (λ lines. b ≡ Some lines) → IfSome b P → IfSome a P
lines_kept P None b k h = tt
lines_kept P (Some x) b k h = subst (λ (o : Option (List (List ℕ))). IfSome o P) k h

over_longer : (b n : ℕ) (lines : List (List ℕ)) → FirstIsOver n lines → FirstIsOver (suc n) (longer b lines)
over_longer b n [] h = absurd h
over_longer b n (l ∷ ls) h = omega (arith, h)

over_one : (b : ℕ) (lines : List (List ℕ)) → FirstIsOver 0 (longer b lines)
over_one b [] = omega arith
over_one b (l ∷ ls) = omega arith

-- bytes without a line feed begin a line that is as long or longer
pub over_front : (n : ℕ) (xs rest : List ℕ) → has_feed xs ≡ false → n < length xs → FirstIsOver n (lines_of (xs ++ rest))
unfolding lines_of
over_front n [] rest none lt = absurd (omega arith)
over_front zero (b ∷ xs) rest none lt = let f = free_of b xs none in rw f.first (over_one b (lines_of (xs ++ rest)))
over_front (suc n) (b ∷ xs) rest none lt = let f = free_of b xs none in rw f.first (over_longer b n (lines_of (xs ++ rest)) (over_front n xs rest f.rest (omega arith)))

-- bytes that begin with more than n before any line feed
pub record BeginsOver (n : ℕ) (read : List ℕ) : Type 0 where
  pub front : List ℕ
  pub rest : List ℕ
  pub plain : has_feed front ≡ false
  pub long : n < length front
  pub parts : read ≡ front ++ rest

pub over_here : (n : ℕ) (read : List ℕ) → BeginsOver n read → FirstIsOver n (lines_of read)
over_here n read b = subst (λ (r : List ℕ). FirstIsOver n (lines_of r)) (sym b.parts) (over_front n b.front b.rest b.plain b.long)

-- the same of the lines that are left, where they are known
pub over_left : (n : ℕ) (read : List ℕ) (known : Option (List ℕ)) → BeginsOver n read → IfSome (lines_left read known) (λ lines. FirstIsOver n lines)
over_left n read None b = tt
over_left n read (Some xs) b =
    let all : read ++ xs ≡ b.front ++ (b.rest ++ xs) = ap (λ (r : List ℕ). r ++ xs) b.parts ∙ append_assoc b.front b.rest xs in
    subst (λ (r : List ℕ). FirstIsOver n (lines_of r)) (sym all) (over_front n b.front (b.rest ++ xs) b.plain b.long)

length_both : (xs ys : List ℕ) → length (xs ++ ys) ≡ length xs + length ys
length_both [] ys = omega arith
length_both (x ∷ xs) ys = omega (arith, length_both xs ys)

length_front : (xs : List ℕ) (n : ℕ) → n ≤ length xs → length (take n xs) ≡ n
length_front xs zero le = refl
length_front [] (suc n) le = absurd (omega arith)
length_front (x ∷ xs) (suc n) le = omega (arith, length_front xs n (omega arith))

-- a line that ends too far from its begin
pub over_cut : (n : ℕ) (begun ahead : List ℕ) (at : ℕ) → has_feed begun ≡ false → IsCut ahead at → n < length begun + at → BeginsOver n (begun ++ ahead)
over_cut n begun ahead at none c lt = record {
  front = begun ++ take at ahead;
  rest = 10 ∷ drop (at + 1) ahead;
  plain = no_feed_more begun (take at ahead) none c.front;
  long = let e = length_both begun (take at ahead) in let f = length_front ahead at (omega (arith, c.within)) in omega (arith, e, f);
  parts = ap (λ (x : List ℕ). begun ++ x) c.parts ∙ sym (append_assoc begun (take at ahead) (10 ∷ drop (at + 1) ahead));
}

-- a line that has no end yet and is too long
pub over_all : (n : ℕ) (begun ahead : List ℕ) → has_feed begun ≡ false → has_feed ahead ≡ false → n < length begun + length ahead → BeginsOver n (begun ++ ahead)
over_all n begun ahead none free lt = record {
  front = begun ++ ahead;
  rest = [];
  plain = no_feed_more begun ahead none free;
  long = let e = length_both begun ahead in omega (arith, e);
  parts = sym (append-nil (begun ++ ahead));
}

-- at the end of the input the line that was begun is the last one
pub line_end : {T : Type 0} (items : T → List ℕ) (begun : List ℕ) (old new : Option (List ℕ)) (got left : List ℕ) (last : Option T) → IsDone old new got → has_feed begun ≡ false → left ≡ []
    → MatchOption last (begun ≡ []) (λ line. (items line ≡ begun) × (0 < length begun))
    → IfSome (lines_left begun old) (λ lines. MatchOption last (lines ≡ []) (λ line. option_map (λ more. items line ∷ more) (lines_left left new) ≡ Some lines))
line_end items begun old new got left None d none l h = line_none begun old new got d h
line_end items begun old new got left (Some line) d none l h = rw l (line_last begun (items line) old new got d h.1 none h.0)

-- a line that ends near enough to its begin
pub within_cut : (n : ℕ) (begun ahead : List ℕ) (at : ℕ) → has_feed begun ≡ false → IsCut ahead at → length begun + at ≤ n → FirstIsWithin n (lines_of (begun ++ ahead))
within_cut n begun ahead at none c le =
    let front = begun ++ take at ahead in
    let rest = drop (at + 1) ahead in
    let all : begun ++ ahead ≡ front ++ (10 ∷ rest) = ap (λ (x : List ℕ). begun ++ x) c.parts ∙ sym (append_assoc begun (take at ahead) (10 ∷ rest)) in
    let cut : lines_of (begun ++ ahead) ≡ front ∷ lines_of rest = ap lines_of all ∙ cut_lines front rest (no_feed_more begun (take at ahead) none c.front) in
    subst (λ (l : List (List ℕ)). FirstIsWithin n l) (sym cut) (let e = length_both begun (take at ahead) in let f = length_front ahead at (omega (arith, c.within)) in omega (arith, e, f))

within_whole : (n : ℕ) (xs : List ℕ) → has_feed xs ≡ false → 0 < length xs → length xs ≤ n → FirstIsWithin n (lines_of xs)
within_whole n [] none lt le = absurd (omega arith)
within_whole n (b ∷ xs) none lt le = subst (λ (l : List (List ℕ)). FirstIsWithin n l) (sym (whole_line b xs none)) le

-- a line that has no end yet and is within n so far
pub within_all : (n : ℕ) (begun ahead : List ℕ) → has_feed begun ≡ false → has_feed ahead ≡ false → 0 < length ahead → length begun + length ahead ≤ n → FirstIsWithin n (lines_of (begun ++ ahead))
within_all n begun ahead none free lt le = let e = length_both begun ahead in within_whole n (begun ++ ahead) (no_feed_more begun ahead none free) (omega (arith, e)) (omega (arith, e))

longer_some : (b : ℕ) (lines : List (List ℕ)) → 0 < length (longer b lines)
longer_some b [] = omega arith
longer_some b (l ∷ ls) = omega arith

some_by : (t : Bool) (a b : List (List ℕ)) → 0 < length a → 0 < length b → 0 < length (if t then a else b)
some_by true a b p q = p
some_by false a b p q = q

-- a line is there where a byte is
lines_some : (xs : List ℕ) → 0 < length xs → 0 < length (lines_of xs)
unfolding lines_of
lines_some [] lt = absurd (omega arith)
lines_some (b ∷ xs) lt = some_by (b == 10) ([] ∷ lines_of xs) (longer b (lines_of xs)) (omega arith) (longer_some b (lines_of xs))

-- the same of the lines that are left, where they are known
pub lines_left_some : (begun ahead : List ℕ) (known : Option (List ℕ)) → 0 < length ahead → IfSome (lines_left (begun ++ ahead) known) (λ lines. 0 < length lines)
lines_left_some begun ahead None lt = tt
lines_left_some begun ahead (Some xs) lt = let e = length_both begun ahead in let f = length_both (begun ++ ahead) xs in lines_some ((begun ++ ahead) ++ xs) (omega (arith, e, f))

-- the same bytes, in parts that are equal
pub within_same : (n : ℕ) (a b c d : List ℕ) → (a ≡ c) × (b ≡ d) → FirstIsWithin n (lines_of (c ++ d)) → FirstIsWithin n (lines_of (a ++ b))
within_same n a b c d e h = rw (e.0, e.1) h

pub over_same : (n : ℕ) (a b c d : List ℕ) → (a ≡ c) × (b ≡ d) → FirstIsOver n (lines_of (c ++ d)) → FirstIsOver n (lines_of (a ++ b))
over_same n a b c d e h = rw (e.0, e.1) h

-- bytes that go on with a line
goes_on : (b : ℕ) (bs : List ℕ) → has_feed (b ∷ bs) ≡ false → GoesOn (b ∷ bs)
goes_on b bs none = let f = free_of b bs none in f.first

pub goes_on_all : (ahead left : List ℕ) → has_feed ahead ≡ false → 0 < length ahead → left ≡ ahead → GoesOn left
goes_on_all [] left none lt same = absurd (omega arith)
goes_on_all (b ∷ ahead) left none lt same = rw same (goes_on b ahead none)

pub goes_on_cut : (ahead left : List ℕ) (at : ℕ) → IsCut ahead at → 0 < at → left ≡ ahead → GoesOn left
goes_on_cut ahead left zero c lt same = absurd (omega arith)
goes_on_cut [] left (suc at) c lt same = absurd (let e = c.within in omega (arith, e))
goes_on_cut (b ∷ ahead) left (suc at) c lt same = rw same (goes_on b (take at ahead) c.front)

-- what has a line feed behind a front has one
feed_behind : (xs ys : List ℕ) → has_feed (xs ++ (10 ∷ ys)) ≡ true
unfolding has_feed
feed_behind [] ys = refl
feed_behind (b ∷ xs) ys = rw (feed_behind xs ys) (or_true (b == 10))

-- whether a line feed was found is whether one is there
pub feed_tells : (xs : List ℕ) (found : Option ℕ) → IsFirstByte (is_byte 10) xs found → is_some found ≡ has_feed xs
feed_tells xs None h = sym (no_feed_here xs h)
feed_tells xs (Some at) h =
    let c = cut_found xs at h in
    sym (subst (λ (x : List ℕ). has_feed x ≡ true) (sym c.parts) (feed_behind (take at xs) (drop (at + 1) xs)))

-- where no line feed is ahead now, none was at first, since nothing was read before
pub free_first : (now first : List ℕ) (R : Type 0) → has_feed now ≡ false → (has_feed first ≡ true → (now ≡ first) × R) → has_feed first ≡ false
free_first now first R none same = not_passes (has_feed first) (λ is. let e = ap has_feed (same is).0 in absurd (true_is_not (sym is ∙ (sym e ∙ none))))

pub feed_is_not : (xs : List ℕ) → has_feed xs ≡ true → has_feed xs ≡ false → ⊥
feed_is_not xs is none = true_is_not (sym is ∙ none)
