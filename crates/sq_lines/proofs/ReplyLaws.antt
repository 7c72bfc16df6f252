-- Replies that wait, and how many of them went out.
use Rattle.std.proofs.Common.{◌≡◌, ℕ, zero, suc, ◌+◌, ◌-◌, ◌<◌, ◌≤◌, List, [], ◌∷◌, ◌++◌, length, map, take, drop, Option, Some, true, false, refl, sym, ap, ap₂, ◌∙◌, append_assoc, arith, inl, inr, length-append, zero-add, subst}
use Rattle.std.specs.Prelude.{slice_get, Bool, if◌then◌else◌}
use Rattle.std.specs.Io.KnownBytes.{Appends, Keeps}
use Rattle.std.proofs.lemmas.Bool.Decides.{leb_tells}
use Rattle.std.proofs.lemmas.List.{append-nil, map-append}
use Rattle.std.proofs.Math.Nat.{suc-add}
use Rattle.std.proofs.Math.Seq.{take-length, take-append_seam, take-append-add, drop-append-add}
use Rattle.sq_lines.specs.Lines.{with_feeds}
use Rattle.sq_lines.specs.Replies.{texts_of, AreTexts, PutsFirst, PutsPart, PutsShort}
use Rattle.sq_lines.specs.inside.Replies.{whole_in}
use Rattle.sq_lines.proofs.WriteLaws.{appends_more, appends_keeps, feeds_append, feeds_more, front_of}

-- texts are found by their lengths
texts_found : (texts : List (List ℕ)) → texts_of (map length texts) (with_feeds texts) ≡ texts
texts_found [] = refl
texts_found (t ∷ ts) =
    let first : take (length t) (t ++ 10 ∷ with_feeds ts) ≡ t = take-append_seam t (10 ∷ with_feeds ts) in
    let rest : drop (length t + 1) (t ++ 10 ∷ with_feeds ts) ≡ with_feeds ts = drop-append-add t (10 ∷ with_feeds ts) 1 in
    rw (first, rest, texts_found ts) refl

pub as_many : (lengths bytes : List ℕ) → length (texts_of lengths bytes) ≡ length lengths
as_many [] bytes = refl
as_many (n ∷ lengths) bytes = ap suc (as_many lengths (drop (n + 1) bytes))

-- one text more
pub record AreMore (lengths bytes : List ℕ) (texts : List (List ℕ)) : Type 0 where
  pub are : AreTexts lengths bytes
  pub texts_are : texts_of lengths bytes ≡ texts

pub are_more : (lengths bytes text : List ℕ) → AreTexts lengths bytes → AreMore (lengths ++ length text ∷ []) ((bytes ++ text) ++ 10 ∷ []) (texts_of lengths bytes ++ text ∷ [])
are_more lengths bytes text h =
    let old = texts_of lengths bytes in
    let new = old ++ text ∷ [] in
    let more = lengths ++ length text ∷ [] in
    let all = (bytes ++ text) ++ 10 ∷ [] in
    let bytes_are : all ≡ with_feeds new = append_assoc bytes text (10 ∷ []) ∙ (ap (λ (b : List ℕ). b ++ (text ++ 10 ∷ [])) h.all ∙ sym (feeds_more old text)) in
    let lengths_are : more ≡ map length new = ap (λ (l : List ℕ). l ++ length text ∷ []) h.each ∙ sym (map-append length old (text ∷ [])) in
    let found : texts_of more all ≡ new = ap₂ texts_of lengths_are bytes_are ∙ texts_found new in
    record {
      are = record { all = bytes_are ∙ ap with_feeds (sym found); each = lengths_are ∙ ap (map length) (sym found) };
      texts_are = found;
    }

-- so many bytes of texts are so many whole ones, and a front of the next
record CutIn (texts : List (List ℕ)) (n whole : ℕ) : Type 0 where
  pub text : List ℕ
  pub part : ℕ
  pub next : slice_get texts whole ≡ Some text
  pub short : part ≤ length text
  pub bytes : take n (with_feeds texts) ≡ with_feeds (take whole texts) ++ take part (text ++ 10 ∷ [])

-- a cut in the first text
cut_first : (t : List ℕ) (ts : List (List ℕ)) (n : ℕ) → n ≤ length t → CutIn (t ∷ ts) n 0
cut_first t ts n le =
    let within : n ≤ length (t ++ 10 ∷ []) = omega (arith, length-append t (10 ∷ [])) in
    record {
      text = t;
      part = n;
      next = refl;
      short = le;
      bytes = ap (take n) (sym (append_assoc t (10 ∷ []) (with_feeds ts))) ∙ front_of (t ++ 10 ∷ []) (with_feeds ts) n within;
    }

-- a cut in a later one
cut_later : (t : List ℕ) (ts : List (List ℕ)) (n whole : ℕ) → length t < n → CutIn ts (n - (length t + 1)) whole → CutIn (t ∷ ts) n (suc whole)
cut_later t ts n whole lt h =
    let j = n - (length t + 1) in
    let line = t ++ 10 ∷ [] in
    let front = with_feeds (take whole ts) in
    let cut = take h.part (h.text ++ 10 ∷ []) in
    let at : n ≡ length line + j = omega (arith, length-append t (10 ∷ [])) in
    record {
      text = h.text;
      part = h.part;
      next = h.next;
      short = h.short;
      bytes = ap (take n) (sym (append_assoc t (10 ∷ []) (with_feeds ts))) ∙ (ap (λ (k : ℕ). take k (line ++ with_feeds ts)) at ∙ (take-append-add line (with_feeds ts) j ∙ (ap (λ (o : List ℕ). line ++ o) h.bytes
          ∙ (append_assoc t (10 ∷ []) (front ++ cut) ∙ sym (append_assoc t (10 ∷ front) cut)))));
    }

cut_in : (texts : List (List ℕ)) (n : ℕ) → n < length (with_feeds texts) → CutIn texts n (whole_in (map length texts) n)
cut_in [] n lt = absurd (omega arith)
cut_in (t ∷ ts) n lt = elim (leb_tells n (length t)) as (λ _. CutIn (t ∷ ts) n (whole_in (map length (t ∷ ts)) n)) [
  | inl p ↦ rw p.0 (cut_first t ts n p.1)
  | inr p ↦ rw p.0 (cut_later t ts n (whole_in (map length ts) (n - (length t + 1))) p.1 (cut_in ts (n - (length t + 1)) (let e = length-append t (10 ∷ with_feeds ts) in omega (arith, e, p.1))))
]

-- a write of texts stopped after so many bytes
pub puts_cut : (old new : Option (List ℕ)) (lengths bytes : List ℕ) (n : ℕ) → AreTexts lengths bytes → n < length bytes → Appends old new (take n bytes) → PutsShort old new (texts_of lengths bytes) (whole_in lengths n)
puts_cut old new lengths bytes n h lt a =
    let texts = texts_of lengths bytes in
    let within : n < length (with_feeds texts) = rw (← h.all) lt in
    let c = cut_in texts n within in
    let went : Appends old new (take n (with_feeds texts)) = rw (← h.all) a in
    subst (λ (l : List ℕ). PutsShort old new texts (whole_in l n)) (sym h.each)
    (record { puts = record { text = c.text; part = c.part; next = c.next; appends = rw (← c.bytes) went }; short = inl c.short })

-- the last of texts
record LastOf (texts : List (List ℕ)) (n : ℕ) : Type 0 where
  pub text : List ℕ
  pub next : slice_get texts n ≡ Some text
  pub all : with_feeds texts ≡ with_feeds (take n texts) ++ (text ++ 10 ∷ [])

last_of : (texts : List (List ℕ)) (n : ℕ) → suc n ≡ length texts → LastOf texts n
last_of [] n e = absurd (omega arith)
last_of (t ∷ []) zero e = record { text = t; next = refl; all = refl }
last_of (t ∷ u ∷ ts) zero e = absurd (omega arith)
last_of (t ∷ ts) (suc n) e =
    let r = last_of ts n (omega arith) in
    record {
      text = r.text;
      next = r.next;
      all = ap (λ (o : List ℕ). t ++ 10 ∷ o) r.all ∙ sym (append_assoc t (10 ∷ with_feeds (take n ts)) (r.text ++ 10 ∷ []));
    }

-- the flush behind texts failed
pub puts_unflushed : (old mid new : Option (List ℕ)) (texts : List (List ℕ)) (n : ℕ) → suc n ≡ length texts → Appends old mid (with_feeds texts) → Keeps mid new → PutsShort old new texts n
puts_unflushed old mid new texts n e a k =
    let r = last_of texts n e in
    let whole : take (length (r.text ++ 10 ∷ [])) (r.text ++ 10 ∷ []) ≡ r.text ++ 10 ∷ [] = take-length (r.text ++ 10 ∷ []) in
    let went : Appends old new (with_feeds (take n texts) ++ (r.text ++ 10 ∷ [])) = rw (← r.all) (appends_keeps old mid new (with_feeds texts) a k) in
    record { puts = record { text = r.text; part = length (r.text ++ 10 ∷ []); next = r.next; appends = rw whole went }; short = inr e }

-- what stands at a place stands there still, where more come behind it
record Found (texts more : List (List ℕ)) (n : ℕ) (text : List ℕ) : Type 0 where
  pub next : slice_get (texts ++ more) n ≡ Some text
  pub before : take n (texts ++ more) ≡ take n texts

found_longer : (texts more : List (List ℕ)) (n : ℕ) (text : List ℕ) → slice_get texts n ≡ Some text → Found texts more n text
found_longer [] more zero text e = absurd cc
found_longer [] more (suc n) text e = absurd cc
found_longer (t ∷ ts) more zero text e = record { next = e; before = refl }
found_longer (t ∷ ts) more (suc n) text e = let r = found_longer ts more n text e in record { next = r.next; before = ap (λ (x : List (List ℕ)). t ∷ x) r.before }

-- a text went out in part, of texts that others come behind
pub part_of_more : (old new : Option (List ℕ)) (texts more : List (List ℕ)) (n : ℕ) → PutsPart old new texts n → PutsPart old new (texts ++ more) n
part_of_more old new texts more n h =
    let f = found_longer texts more n h.text h.next in
    record { text = h.text; part = h.part; next = f.next; appends = rw f.before h.appends }

record Behind (texts more : List (List ℕ)) (n : ℕ) (text : List ℕ) : Type 0 where
  pub next : slice_get (texts ++ more) (length texts + n) ≡ Some text
  pub before : take (length texts + n) (texts ++ more) ≡ texts ++ take n more

behind : (texts more : List (List ℕ)) (n : ℕ) (text : List ℕ) → slice_get more n ≡ Some text → Behind texts more n text
behind [] more n text e = record { next = rw zero-add e; before = rw zero-add refl }
behind (t ∷ ts) more n text e =
    let r = behind ts more n text e in
    record { next = rw suc-add r.next; before = rw suc-add (ap (λ (x : List (List ℕ)). t ∷ x) r.before) }

-- a text went out in part, behind others that went out before
pub part_behind : (old mid new : Option (List ℕ)) (texts more : List (List ℕ)) (n : ℕ) → Appends old mid (with_feeds texts) → PutsPart mid new more n → PutsPart old new (texts ++ more) (length texts + n)
part_behind old mid new texts more n a h =
    let b = behind texts more n h.text h.next in
    let cut = take h.part (h.text ++ 10 ∷ []) in
    let went : Appends old new ((with_feeds texts ++ with_feeds (take n more)) ++ cut) = rw append_assoc (appends_more old mid new (with_feeds texts) (with_feeds (take n more) ++ cut) a h.appends) in
    record { text = h.text; part = h.part; next = b.next; appends = rw (b.before, feeds_append) went }

-- a text of which a front went out, and no other
pub part_alone : (old new : Option (List ℕ)) (text : List ℕ) (part : ℕ) → Appends old new (take part (text ++ 10 ∷ [])) → PutsPart old new (text ∷ []) 0
part_alone old new text part a = record { text = text; part = part; next = refl; appends = a }

-- ---- what goes out, and what waits

pub puts_all : (old new : Option (List ℕ)) (texts : List (List ℕ)) → Appends old new (with_feeds texts) → PutsFirst old new texts []
puts_all old new texts a = record { gone = texts; parts = sym (append-nil texts); appends = a }

-- those that waited, and a text behind them
pub puts_behind : (old mid new : Option (List ℕ)) (texts : List (List ℕ)) (text : List ℕ) → Appends old mid (with_feeds texts) → Appends mid new (text ++ 10 ∷ []) → Appends old new (with_feeds (texts ++ text ∷ []))
puts_behind old mid new texts text a b = rw feeds_more (appends_more old mid new (with_feeds texts) (text ++ 10 ∷ []) a b)

-- ---- lists that grow within their capacity

pub appended : (ok : Bool) (new old more : List ℕ) → new ≡ (if ok then old ++ more else old) → ok ≡ true → new ≡ old ++ more
appended true new old more e is = e
appended false new old more e is = absurd cc

pub appended_len : (ok : Bool) (new old more : ℕ) → new ≡ (if ok then old + more else old) → ok ≡ true → new ≡ old + more
appended_len true new old more e is = e
appended_len false new old more e is = absurd cc
