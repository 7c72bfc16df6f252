-- Which item stands where in a list of blocks.
use Rattle.std.proofs.Common.{◌≡◌, ◌∙◌, ℕ, zero, suc, ◌+◌, ◌-◌, ◌*◌, ◌<◌, ◌≤◌, List, [], ◌∷◌, ◌++◌, length, take, drop, Some, None, refl, ap, sym, subst, arith, append_assoc}
use Rattle.std.specs.Prelude.{slice_get, slice_set}
use Rattle.std.specs.Global.{Vec}
use Rattle.std.specs.List.{AllByRecursion, flat_map, remove}
use Rattle.std.proofs.Math.Seq.{take-append_seam}
use Rattle.std.proofs.lemmas.List.{length-append}
use Rattle.std.proofs.lemmas.List.Edits.{remove-append_left, remove-append_right}
use Rattle.std.proofs.lemmas.Option.{none-some, same_Some}
use Rattle.sq_log.specs.BlocksValue.{joined}

get_in : {T : Type 0} (xs ys : List T) (k : ℕ) → k < length xs → slice_get (xs ++ ys) k ≡ slice_get xs k
get_in [] ys k within = absurd (omega arith)
get_in (x ∷ xs) ys zero within = refl
get_in (x ∷ xs) ys (suc k) within = get_in xs ys k (omega arith)

get_past : {T : Type 0} (xs ys : List T) (k : ℕ) → slice_get (xs ++ ys) (length xs + k) ≡ slice_get ys k
get_past [] ys k = ap (λ (i : ℕ). slice_get ys i) (omega arith)
get_past (x ∷ xs) ys k = let index : length (x ∷ xs) + k ≡ suc (length xs + k) = omega arith in rw index (get_past xs ys k)

-- the list goes on after its first block
past_first : {T : Type 0} (block : Vec T) (whole : List (Vec T)) (last : List T) (k : ℕ) → slice_get (joined (block ∷ whole) last) (length block.items + k) ≡ slice_get (joined whole last) k
past_first block whole last k = rw (append_assoc block.items (flat_map (λ b. b.items) whole) last) (get_past block.items (joined whole last) k)

-- how many items there are
pub length_joined : {T : Type 0} (n : ℕ) (whole : List (Vec T)) (last : List T) → AllByRecursion (λ block. length block.items ≡ n) whole → length (joined whole last) ≡ length whole * n + length last
length_joined n [] last all = omega arith
length_joined n (block ∷ whole) last all =
    let rest = length_joined n whole last all.1 in
    let first = all.0 in
    rw (append_assoc block.items (flat_map (λ b. b.items) whole) last) (omega (arith, rest, first, length-append block.items (joined whole last)))

-- how many of them stand in whole blocks
pub length_whole : {T : Type 0} (n : ℕ) (whole : List (Vec T)) → AllByRecursion (λ block. length block.items ≡ n) whole → length (flat_map (λ block. block.items) whole) ≡ length whole * n
length_whole n whole all = let both = length_joined n whole [] all in omega (arith, both, length-append (flat_map (λ block. block.items) whole) [])

-- an item of a whole block
pub get_whole : {T : Type 0} (n : ℕ) (whole : List (Vec T)) (last : List T) (q r : ℕ) (block : Vec T) → AllByRecursion (λ b. length b.items ≡ n) whole → r < n → slice_get whole q ≡ Some block
    → slice_get (joined whole last) (q * n + r) ≡ slice_get block.items r
get_whole n [] last q r block all within at = absurd (none-some block at)
get_whole n (first ∷ whole) last zero r block all within at =
    let first_is : first ≡ block = same_Some first block at in
    let index : 0 * n + r ≡ r = omega arith in
    rw (index, append_assoc first.items (flat_map (λ b. b.items) whole) last, ← first_is) (get_in first.items (joined whole last) r (rw all.0 within))
get_whole n (first ∷ whole) last (suc q) r block all within at =
    let index : suc q * n + r ≡ length first.items + (q * n + r) = let first_len = all.0 in omega (arith, first_len) in
    rw index (past_first first whole last (q * n + r) ∙ get_whole n whole last q r block all.1 within at)

-- an item of the last block
pub get_last : {T : Type 0} (n : ℕ) (whole : List (Vec T)) (last : List T) (k : ℕ) → AllByRecursion (λ b. length b.items ≡ n) whole → slice_get (joined whole last) (length whole * n + k) ≡ slice_get last k
get_last n [] last k all = ap (λ (i : ℕ). slice_get last i) (omega arith)
get_last n (first ∷ whole) last k all =
    let index : suc (length whole) * n + k ≡ length first.items + (length whole * n + k) = let first_len = all.0 in omega (arith, first_len) in
    rw index (past_first first whole last (length whole * n + k) ∙ get_last n whole last k all.1)

-- there is no block at this index
pub past_whole : {X : Type 0} (xs : List X) (k : ℕ) → slice_get xs k ≡ None → length xs ≤ k
past_whole [] k none = omega arith
past_whole (x ∷ xs) zero none = absurd (none-some x (sym none))
past_whole (x ∷ xs) (suc k) none = let rest = past_whole xs k none in omega (arith, rest)

-- One of the blocks gives an item away, and gets one last.

-- the first item of a list, and the others
first_of : {T : Type 0} (xs : List T) (x : T) → slice_get xs 0 ≡ Some x → x ∷ remove xs 0 ≡ xs
first_of [] x at = absurd (none-some x at)
first_of (y ∷ ys) x at = let same = same_Some y x at in cc

-- what is joined goes on after its whole blocks
pub joined_last : {T : Type 0} (whole : List (Vec T)) (last : List T) → joined whole last ≡ joined whole [] ++ last
joined_last whole last = sym (append_assoc (flat_map (λ b. b.items) whole) [] last)

joined_more : {T : Type 0} (block : Vec T) (whole : List (Vec T)) (last : List T) → joined (block ∷ whole) last ≡ block.items ++ joined whole last
joined_more block whole last = append_assoc block.items (flat_map (λ b. b.items) whole) last

-- Blocks of which those before the last few are as they were, and those gave their first items away: what is carried is the first of these.
pub record Moves {T : Type 0} (left : ℕ) (old blocks : List (Vec T)) (item carried : T) : Type 0 where
  pub ahead : take left blocks ≡ take left old
  pub moved : carried ∷ joined (drop left blocks) [] ≡ joined (drop left old) (item ∷ [])

none_left : {T : Type 0} (old : List (Vec T)) (item : T) → item ∷ joined (drop (length old) old) [] ≡ joined (drop (length old) old) (item ∷ [])
none_left [] item = refl
none_left (block ∷ old) item = none_left old item

-- a block before those is there as it was
pub there_before : {X : Type 0} (xs ys : List X) (i : ℕ) (x : X) → take (suc i) xs ≡ take (suc i) ys → slice_get xs i ≡ Some x → slice_get ys i ≡ Some x
there_before [] ys i x same at = absurd (none-some x at)
there_before (x ∷ xs) [] i z same at = absurd cc
there_before (x ∷ xs) (y ∷ ys) zero z same at = let heads : x ≡ y = cc in cc
there_before (x ∷ xs) (y ∷ ys) (suc i) z same at = there_before xs ys i z (cc) at

-- and at last the one out of which an item is taken
pub moved_out : {T : Type 0} (n : ℕ) (old blocks : List (Vec T)) (at r : ℕ) (b new : Vec T) (item carried : T) → AllByRecursion (λ block. length block.items ≡ n) old → r < n → Moves (suc at) old blocks item carried
    → slice_get blocks at ≡ Some b → new.items ≡ remove b.items r ++ carried ∷ [] → joined (slice_set blocks at new) [] ≡ remove (joined old []) (at * n + r) ++ item ∷ []
moved_out n old [] at r b new item carried all within moves there put = absurd (none-some b there)
moved_out n [] (x ∷ xs) at r b new item carried all within moves there put = let ahead = moves.ahead in absurd cc
moved_out n (y ∷ ys) (x ∷ xs) zero r b new item carried all within moves there put =
    let same : b ≡ y = let ahead = moves.ahead in cc (same_Some x b there) in
    let index : 0 * n + r ≡ r = omega arith in
    let left : new.items ++ joined xs [] ≡ remove y.items r ++ joined ys (item ∷ []) = rw (put, same) (append_assoc (remove y.items r) (carried ∷ []) (joined xs []) ∙ ap (λ zs. remove y.items r ++ zs) moves.moved) in
    let right : remove (joined (y ∷ ys) []) r ++ item ∷ [] ≡ remove y.items r ++ joined ys (item ∷ []) =
    (rw (joined_more y ys [], remove-append_left y.items (joined ys []) r (rw all.0 within)) (append_assoc (remove y.items r) (joined ys []) (item ∷ []) ∙ ap (λ zs. remove y.items r ++ zs) (sym (joined_last ys (item ∷ []))))) in
    rw index (joined_more new xs [] ∙ left ∙ sym right)
moved_out n (y ∷ ys) (x ∷ xs) (suc at) r b new item carried all within moves there put =
    let heads : x ≡ y = let ahead = moves.ahead in cc in
    let tails : take (suc at) xs ≡ take (suc at) ys = let ahead = moves.ahead in cc in
    let rest = moved_out n ys xs at r b new item carried all.1 within (record { ahead = tails; moved = moves.moved }) there put in
    let index : suc at * n + r - n ≡ at * n + r = omega arith in
    let right : remove (joined (y ∷ ys) []) (suc at * n + r) ++ item ∷ [] ≡ y.items ++ (remove (joined ys []) (at * n + r) ++ item ∷ []) =
    (rw (joined_more y ys [], remove-append_right y.items (joined ys []) n (suc at * n + r) all.0 (omega arith), index) (append_assoc y.items (remove (joined ys []) (at * n + r)) (item ∷ []))) in
    joined_more x (slice_set xs at new) [] ∙ ap (λ (v : Vec _). v.items ++ joined (slice_set xs at new) []) heads ∙ ap (λ zs. y.items ++ zs) rest ∙ sym right

-- a list of which all was written over by another as long
pub written_whole : {X : Type 0} (xs ys : List X) (n : ℕ) → length xs ≡ n → length ys ≡ n → take n (xs ++ drop (length xs) ys) ≡ xs
written_whole xs ys n here there = rw (← here) (take-append_seam xs (drop (length xs) ys))

-- what is left where an item of the last block is taken out, and where one of a whole block is
pub without_last : {T : Type 0} (n : ℕ) (whole : List (Vec T)) (last : List T) (index : ℕ) → AllByRecursion (λ block. length block.items ≡ n) whole → length whole * n ≤ index
    → joined whole (remove last (index - length whole * n)) ≡ remove (joined whole last) index
without_last n whole last index all past = sym (remove-append_right (flat_map (λ block. block.items) whole) last (length whole * n) index (length_whole n whole all) past)

pub without_whole : {T : Type 0} (n : ℕ) (whole blocks : List (Vec T)) (last rest : List T) (first : T) (index : ℕ) → AllByRecursion (λ block. length block.items ≡ n) whole → index < length whole * n
    → slice_get last 0 ≡ Some first → rest ≡ remove last 0 → joined blocks [] ≡ remove (joined whole []) index ++ first ∷ [] → joined blocks rest ≡ remove (joined whole last) index
without_whole n whole blocks last rest first index all within taken left moved =
    let count = length_joined n whole [] all in
    let both : first ∷ rest ≡ last = ap (λ zs. first ∷ zs) left ∙ first_of last first taken in
    joined_last blocks rest ∙ ap (λ zs. zs ++ rest) moved ∙ append_assoc (remove (joined whole []) index) (first ∷ []) rest ∙ ap (λ zs. remove (joined whole []) index ++ zs) both
    ∙ sym (remove-append_left (joined whole []) last index (omega (arith, count, within))) ∙ ap (λ zs. remove zs index) (sym (joined_last whole last))

-- which item is taken out
pub get_before : {T : Type 0} (n : ℕ) (whole : List (Vec T)) (last : List T) (index : ℕ) → AllByRecursion (λ block. length block.items ≡ n) whole → index < length whole * n
    → slice_get (joined whole last) index ≡ slice_get (joined whole []) index
get_before n whole last index all within = let count = length_joined n whole [] all in rw (joined_last whole last) (get_in (joined whole []) last index (omega (arith, count, within)))

pub get_after : {T : Type 0} (n : ℕ) (whole : List (Vec T)) (last : List T) (index : ℕ) → AllByRecursion (λ block. length block.items ≡ n) whole → length whole * n ≤ index
    → slice_get (joined whole last) index ≡ slice_get last (index - length whole * n)
get_after n whole last index all past =
    let k = index - length whole * n in
    let at : length whole * n + k ≡ index = omega arith in
    subst (λ (i : ℕ). slice_get (joined whole last) i ≡ slice_get last k) at (get_last n whole last k all)
