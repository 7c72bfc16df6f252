-- Deadlines left and right of a node.
use Rattle.std.proofs.Common.{◌≡◌, ℕ, suc, ◌+◌, ◌-◌, ◌*◌, ◌<◌, ◌≤◌, Bool, true, false, not, List, [], ◌∷◌, ◌++◌, length, refl, sym, ap, ◌∙◌, arith}
use Rattle.std.specs.Prelude.{◌^◌, ◌==◌, ◌&&◌, if◌then◌else◌, count_by, nat_le, nat_lt}
use Rattle.std.specs.List.{insert, position_or_len, remove}
use Rattle.std.proofs.Math.Nat.{mul_assoc, mul-le-mul_left, mul_left_comm, pow-succ'}
use Rattle.std.proofs.lemmas.Grind.{common_steps}
use Rattle.std.proofs.lemmas.List.{length-append}
use Rattle.std.proofs.lemmas.List.Edits.{insert-append_right, remove-append_left, remove-append_right}
use Rattle.sq_deadline.specs.declared.deadline.Deadline.{Deadline}
use Rattle.sq_deadline.specs.Deadlines.{DeadlinesRise, is_above, is_due, key_of}
use Rattle.sq_deadline.specs.inside.Deadlines.{is_not_below}
use Rattle.sq_deadline.specs.declared.tree.Tree.{Tree}
use Rattle.sq_deadline.specs.declared.tree.Tree.TheVariants.{Empty, Full'}
use Rattle.sq_deadline.specs.Trees.{is_kept, is_level, listed, weight}
use Rattle.sq_deadline.specs.inside.Trees.{depth, is_below}
use Rattle.sq_deadline.proofs.OrderLaws.{counts_more, one_if, place_of, rise_later}

-- ---- in order on either side

pub rise_left : (low : ℕ) (left right : List Deadline) → DeadlinesRise low (left ++ right) → DeadlinesRise low left
rise_left low [] right h = tt
rise_left low (x ∷ left) right h = (h.0, h.1, rise_left (key_of x + 1) left right h.2)

rise_past : (low : ℕ) (left right : List Deadline) → DeadlinesRise low (left ++ right) → DeadlinesRise low right
rise_past low [] right h = h
rise_past low (x ∷ left) right h = rise_later low (key_of x + 1) right (omega (arith, h.0)) (rise_past (key_of x + 1) left right h.2)

pub rise_right : (low : ℕ) (left : List Deadline) (d : Deadline) (right : List Deadline) → DeadlinesRise low (left ++ d ∷ right) → DeadlinesRise 0 right
rise_right low left d right h = rise_later 0 (key_of d + 1) right (omega arith) (rise_past low left (d ∷ right) h).2

-- ---- how many are below a key

from_low : (low : ℕ) (left : List Deadline) (d : Deadline) (right : List Deadline) → DeadlinesRise low (left ++ d ∷ right) → low ≤ key_of d
from_low low left d right h = (rise_past low left (d ∷ right) h).0

below_too : (a b key : ℕ) → a + 1 ≤ b → nat_lt b key ≡ true → nat_lt a key ≡ true
below_too a b key le h = grind (arith, common_steps, h)

above_too : (a b key : ℕ) → a + 1 ≤ b → nat_lt a key ≡ false → nat_lt b key ≡ false
above_too a b key le h = grind (arith, common_steps, h)

one_more : (key : ℕ) (x : Deadline) (ds : List Deadline) → nat_lt (key_of x) key ≡ true → count_by (is_below key) (x ∷ ds) ≡ 1 + count_by (is_below key) ds
one_more key x ds h = let one : one_if (is_below key x) ≡ 1 = ap one_if h in omega (arith, one, counts_more (is_below key) x ds)

none_more : (key : ℕ) (x : Deadline) (ds : List Deadline) → nat_lt (key_of x) key ≡ false → count_by (is_below key) (x ∷ ds) ≡ count_by (is_below key) ds
none_more key x ds h = let none : one_if (is_below key x) ≡ 0 = ap one_if h in omega (arith, none, counts_more (is_below key) x ds)

-- none is, past one that is not
none_past : (key low : ℕ) (x : Deadline) (ds : List Deadline) → nat_lt (key_of x) key ≡ false → DeadlinesRise (key_of x + 1) ds → count_by (is_below key) ds ≡ 0
none_past key low x [] h rises = refl
none_past key low x (y ∷ ds) h rises = let past = above_too (key_of x) (key_of y) key rises.0 h in none_more key y ds past ∙ none_past key low y ds past rises.2

-- where the node is, all to its left are
pub counts_past : (key low : ℕ) (left : List Deadline) (d : Deadline) (right : List Deadline) → nat_lt (key_of d) key ≡ true → DeadlinesRise low (left ++ d ∷ right)
    → length left + 1 + count_by (is_below key) right ≡ count_by (is_below key) (left ++ d ∷ right)
counts_past key low [] d right h rises = sym (one_more key d right h)
counts_past key low (x ∷ left) d right h rises =
    let rest = counts_past key (key_of x + 1) left d right h rises.2 in
    let below = below_too (key_of x) (key_of d) key (from_low (key_of x + 1) left d right rises.2) h in
    omega (arith, rest, one_more key x (left ++ d ∷ right) below)

-- where it is not, none to its right is
pub counts_before : (key low : ℕ) (left : List Deadline) (d : Deadline) (right : List Deadline) → nat_lt (key_of d) key ≡ false → DeadlinesRise low (left ++ d ∷ right)
    → count_by (is_below key) left ≡ count_by (is_below key) (left ++ d ∷ right)
counts_before key low [] d right h rises = sym (none_more key d right h ∙ none_past key low d right h rises.2)
counts_before key low (x ∷ left) d right h rises =
    let rest = counts_before key (key_of x + 1) left d right h rises.2 in
    omega (arith, rest, counts_more (is_below key) x left, counts_more (is_below key) x (left ++ d ∷ right))

-- ---- one comes in or goes out at an index to the right

next_right : (a b : ℕ) → a < b → b - a ≡ suc (b - a - 1)
next_right a b lt = omega (arith, lt)

pub comes_in_right : (left : List Deadline) (d : Deadline) (right : List Deadline) (index : ℕ) (e : Deadline) → length left < index
    → insert (left ++ d ∷ right) index e ≡ left ++ d ∷ insert right (index - length left - 1) e
comes_in_right left d right index e lt = insert-append_right left (d ∷ right) (length left) index e refl (omega (arith, lt)) ∙ ap (λ (n : ℕ). left ++ insert (d ∷ right) n e) (next_right (length left) index lt)

pub goes_out_right : (left : List Deadline) (d : Deadline) (right : List Deadline) (index : ℕ) → length left < index
    → remove (left ++ d ∷ right) index ≡ left ++ d ∷ remove right (index - length left - 1)
goes_out_right left d right index lt = remove-append_right left (d ∷ right) (length left) index refl (omega (arith, lt)) ∙ ap (λ (n : ℕ). left ++ remove (d ∷ right) n) (next_right (length left) index lt)

no_further : (a b : ℕ) → a ≡ b → b - a ≡ 0
no_further a b is = omega (arith, is)

pub goes_out_between : (left : List Deadline) (d : Deadline) (right : List Deadline) (index : ℕ) → length left ≡ index → remove (left ++ d ∷ right) index ≡ left ++ right
goes_out_between left d right index is = remove-append_right left (d ∷ right) (length left) index refl (omega (arith, is)) ∙ ap (λ (n : ℕ). left ++ remove (d ∷ right) n) (no_further (length left) index is)

-- what is left where one goes out of a node's left side, of the node, or of its right side
pub ruleset goes_out = (remove-append_left, goes_out_between, goes_out_right)

-- ---- where the first is that is not below a key

first_not_below : (key low : ℕ) (p : Deadline → Bool) (ds : List Deadline) → ((e : Deadline) → p e ≡ not (is_below key e)) → DeadlinesRise low ds → count_by (is_below key) ds ≡ position_or_len p ds
first_not_below key low p [] same h = refl
first_not_below key low p (x ∷ ds) same h =
    elim (is_below key x) as (λ b. is_below key x ≡ b → count_by (is_below key) (x ∷ ds) ≡ position_or_len p (x ∷ ds)) [
      | true ↦ (λ e. let other : p x ≡ false = same x ∙ ap not e in rw other (one_more key x ds e ∙ ap (λ (n : ℕ). 1 + n) (first_not_below key (key_of x + 1) p ds same h.2)))
      | false ↦ (λ e. let first : p x ≡ true = same x ∙ ap not e in rw first (none_more key x ds e ∙ none_past key low x ds e h.2))
    ] refl

is_not_below_key : (a b : ℕ) → nat_le a b ≡ not (nat_lt b a)
is_not_below_key a b = grind (arith, common_steps)

is_above_key : (a b : ℕ) → nat_lt a b ≡ not (nat_lt b (a + 1))
is_above_key a b = grind (arith, common_steps)

pub place_is : (low : ℕ) (d : Deadline) (ds : List Deadline) → DeadlinesRise low ds → count_by (is_below (key_of d)) ds ≡ place_of d ds
place_is low d ds h = first_not_below (key_of d) low (is_not_below d) ds (λ e. is_not_below_key (key_of d) (key_of e)) h

pub above_is : (low : ℕ) (d : Deadline) (ds : List Deadline) → DeadlinesRise low ds → count_by (is_below (key_of d + 1)) ds ≡ position_or_len (is_above d) ds
above_is low d ds h = first_not_below (key_of d + 1) low (is_above d) ds (λ e. is_above_key (key_of d) (key_of e)) h

-- due is what is below the first key of the next moment
is_due_below : (m x s : ℕ) → s < 4294967296 → nat_lt (x * 4294967296 + s) ((m + 1) * 4294967296) ≡ nat_le x m
is_due_below m x s slot = grind (arith, common_steps)

pub due_is : (m low : ℕ) (ds : List Deadline) → DeadlinesRise low ds → count_by (is_below ((m + 1) * 4294967296)) ds ≡ count_by (is_due m) ds
due_is m low [] h = refl
due_is m low (x ∷ ds) h =
    let same : one_if (is_below ((m + 1) * 4294967296) x) ≡ one_if (is_due m x) = ap one_if (is_due_below m x.moment x.slot h.1) in
    omega (arith, same, due_is m (key_of x + 1) ds h.2, counts_more (is_below ((m + 1) * 4294967296)) x ds, counts_more (is_due m) x ds)

-- ---- how deep a tree is

heavier : (p q a b : ℕ) → p ≤ q * a → 4 * a ≤ 3 * b → 4 * p ≤ 3 * q * b
heavier p q a b le side =
    let most : q * (4 * a) ≤ q * (3 * b) = mul-le-mul_left q side in
    let left : q * (4 * a) ≡ 4 * (q * a) = mul_left_comm q 4 a in
    let right : q * (3 * b) ≡ 3 * q * b = mul_left_comm q 3 b ∙ sym (mul_assoc 3 q b) in
    omega (arith, le, most, left, right)

next_number : (n : ℕ) → n + 1 ≡ suc n
next_number n = omega arith

one_deeper : (depth weight more : ℕ) → 4 ^ depth ≤ 3 ^ depth * weight → 4 * weight ≤ 3 * more → 4 ^ (depth + 1) ≤ 3 ^ (depth + 1) * more
one_deeper depth weight more le side = rw (next_number depth, pow-succ' 4 depth, pow-succ' 3 depth) (heavier (4 ^ depth) (3 ^ depth) weight more le side)

lighter_left : (a b : ℕ) → nat_le a (3 * b) ≡ true → 4 * a ≤ 3 * (a + b)
lighter_left a b h = grind (arith, common_steps, h)

lighter_right : (a b : ℕ) → nat_le b (3 * a) ≡ true → 4 * b ≤ 3 * (a + b)
lighter_right a b h = grind (arith, common_steps, h)

both_sides : (left : List Deadline) (d : Deadline) (right : List Deadline) → length (left ++ d ∷ right) + 1 ≡ (length left + 1) + (length right + 1)
both_sides left d right = let all = length-append left (d ∷ right) in omega (arith, all)

-- each side of a node has at most three quarters of its weight
pub not_deep : (t : Tree) → is_kept t ≡ true → 4 ^ depth t ≤ 3 ^ depth t * weight t
not_deep Empty kept = omega arith
not_deep (Full' p left d count right) kept =
    let told : count == length (listed left) + 1 + length (listed right) && is_level left right && is_kept left && is_kept right ≡ true = kept in
    let level : is_level left right ≡ true = grind (arith, common_steps, told) in
    let left_kept : is_kept left ≡ true = grind (arith, common_steps, told) in
    let right_kept : is_kept right ≡ true = grind (arith, common_steps, told) in
    let heavy_left : nat_le (weight left) (3 * weight right) ≡ true = grind (arith, common_steps, level) in
    let heavy_right : nat_le (weight right) (3 * weight left) ≡ true = grind (arith, common_steps, level) in
    rw (both_sides (listed left) d (listed right)) (elim (nat_le (depth left) (depth right)) as (λ b. 4 ^ ((if b then depth right else depth left) + 1) ≤ 3 ^ ((if b then depth right else depth left) + 1) * (weight left + weight right)) [
      | true ↦ one_deeper (depth right) (weight right) (weight left + weight right) (not_deep right right_kept) (lighter_right (weight left) (weight right) heavy_right)
      | false ↦ one_deeper (depth left) (weight left) (weight left + weight right) (not_deep left left_kept) (lighter_left (weight left) (weight right) heavy_left)
    ])
