-- What was written grows by what was written then.
use Rattle.std.proofs.Common.{◌≡◌, ℕ, ◌+◌, ◌-◌, ◌≤◌, List, [], ◌∷◌, ◌++◌, length, take, drop, take-add, length-drop, Option, Some, None, sym, ap, ◌∙◌, append_assoc, refl, arith, zero, suc, zero-add}
use Rattle.std.specs.Io.KnownBytes.{Appends, Keeps}
use Rattle.std.proofs.Math.Nat.{suc-add}
use Rattle.std.proofs.lemmas.List.{append-nil}
use Rattle.std.proofs.Math.Seq.{take-length}
use Rattle.sq_lines.specs.Lines.{with_feeds}

pub appends_none : (a : Option (List ℕ)) → Appends a a []
appends_none None = tt
appends_none (Some xs) = sym (append-nil xs)

pub appends_more : (a b c : Option (List ℕ)) (xs ys : List ℕ) → Appends a b xs → Appends b c ys → Appends a c (xs ++ ys)
appends_more None b c xs ys p q = tt
appends_more (Some x) None c xs ys p q = absurd p
appends_more (Some x) (Some y) None xs ys p q = absurd q
appends_more (Some x) (Some y) (Some z) xs ys p q = rw (q, p) (append_assoc x xs ys)

pub appends_keeps : (a b c : Option (List ℕ)) (xs : List ℕ) → Appends a b xs → Keeps b c → Appends a c xs
appends_keeps None b c xs p q = tt
appends_keeps (Some x) None c xs p q = absurd p
appends_keeps (Some x) (Some y) None xs p q = absurd q
appends_keeps (Some x) (Some y) (Some z) xs p q = q ∙ p

-- all of a text is its front
pub appends_whole : (a b : Option (List ℕ)) (xs : List ℕ) → Appends a b xs → Appends a b (take (length xs) xs)
appends_whole a b xs p = rw take-length p

pub appends_on : (a b c : Option (List ℕ)) (text : List ℕ) (at n : ℕ) → Appends a b (take at text) → Appends b c (take n (drop at text)) → Appends a c (take (at + n) text)
appends_on a b c text at n p q = rw take-add (appends_more a b c (take at text) (take n (drop at text)) p q)

pub rest_whole : (text : List ℕ) (at : ℕ) → take (length text - at) (drop at text) ≡ drop at text
rest_whole text at = ap (λ (n : ℕ). take n (drop at text)) (sym (length-drop at text)) ∙ take-length (drop at text)

pub front_of : (text more : List ℕ) (n : ℕ) → n ≤ length text → take n (text ++ more) ≡ take n text
front_of text more zero le = refl
front_of [] more (suc n) le = absurd (omega arith)
front_of (x ∷ text) more (suc n) le = ap (λ (r : List ℕ). x ∷ r) (front_of text more n (omega arith))

-- ---- a text and its end, written in part

-- a front that ends in the second part
front_past : (text end : List ℕ) (n : ℕ) → take (length text + n) (text ++ end) ≡ text ++ take n end
front_past [] end n = ap (λ (k : ℕ). take k end) (zero-add n)
front_past (b ∷ text) end n = rw suc-add (ap (λ (r : List ℕ). b ∷ r) (front_past text end n))

abbrev PutsPart : Option (List ℕ) → Option (List ℕ) → List ℕ → Type 0
PutsPart old new all = (part : ℕ) × Appends old new (take part all)

-- or of its end
pub part_of_end : (old mid new : Option (List ℕ)) (text end : List ℕ) (n : ℕ) → Appends old mid text → Appends mid new (take n end) → PutsPart old new (text ++ end)
part_of_end old mid new text end n p q = (length text + n, rw front_past (appends_more old mid new text (take n end) p q))

-- or the flush behind them
pub part_unflushed : (old mid held new : Option (List ℕ)) (text end : List ℕ) → Appends old mid text → Appends mid held end → Keeps held new → PutsPart old new (text ++ end)
part_unflushed old mid held new text end p q k =
    (length (text ++ end), appends_whole old new (text ++ end) (appends_keeps old held new (text ++ end) (appends_more old mid held text end p q) k))

-- ---- several texts

pub feeds_append : (xs ys : List (List ℕ)) → with_feeds (xs ++ ys) ≡ with_feeds xs ++ with_feeds ys
feeds_append [] ys = refl
feeds_append (text ∷ xs) ys =
    ap (λ (o : List ℕ). text ++ 10 ∷ o) (feeds_append xs ys) ∙ sym (append_assoc text (10 ∷ with_feeds xs) (with_feeds ys))

-- one text more
pub feeds_more : (xs : List (List ℕ)) (text : List ℕ) → with_feeds (xs ++ text ∷ []) ≡ with_feeds xs ++ (text ++ 10 ∷ [])
feeds_more xs text = feeds_append xs (text ∷ [])
