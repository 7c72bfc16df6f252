-- What is read of a handle is spelled so, and what is spelled so is read.
use Rattle.std.proofs.Common.{◌≡◌, ◌⊎◌, inl, inr, ℕ, ◌<◌, ◌^◌, ◌/◌, ◌%◌, Bool, true, false, cond, List, [], ◌∷◌, ◌++◌, length, take, Option, Some, None, refl, sym, ap, subst, ◌∙◌, append_assoc, arith}
use Rattle.std.specs.Prelude.{nat_lt, nat_le, ◌&&◌, ◌==◌}
use Rattle.std.proofs.lemmas.Grind.{common_steps}
use Rattle.std.proofs.lemmas.Bool.{le-leb, lt-ltb, eqb-true}
use Rattle.std.proofs.lemmas.List.{append-nil, nil_from_length}
use Rattle.std.proofs.Math.Seq.{take-length}
use Rattle.sq_base.specs.declared.handle.Handle.{Handle}
use Rattle.sq_base.specs.Fields.{digit, field, ◌>>=◌, field_at, dash_at, part_at}
use Rattle.sq_base.specs.Handles.{numbers_text, handle_text, numbers_at, after_version, handle_at, Fits, IsHandleText, in_range}
use Rattle.sq_base.proofs.FieldLaws.{bind_some, some_is, test_some, field_takes, field_again, dash_takes}

part_takes : (w : ℕ) (bytes : List ℕ) (n : ℕ) (rest : List ℕ) → part_at w bytes ≡ Some (n, rest) → bytes ≡ field w n ++ (45 ∷ rest)
unfolding part_at
part_takes w bytes n rest e =
    let a = bind_some (field_at w bytes) (λ n. dash_at n.1 >>= λ rest. Some (n.0, rest)) (n, rest) e in
    let b = bind_some (dash_at a.0.1) (λ rest. Some (a.0.0, rest)) (n, rest) a.2 in
    let same = some_is (a.0.0, b.0) (n, rest) b.2 in
    let n-is : a.0.0 ≡ n = ap (λ (p : ℕ × List ℕ). p.0) same in
    let rest-is : b.0 ≡ rest = ap (λ (p : ℕ × List ℕ). p.1) same in
    let text = field_takes w bytes a.0.0 a.0.1 a.1 in
    let dash = dash_takes a.0.1 b.0 b.1 in
    text ∙ ap (λ (r : List ℕ). field w a.0.0 ++ r) dash ∙ ap (λ (x : ℕ). field w x ++ (45 ∷ b.0)) n-is ∙ ap (λ (r : List ℕ). field w n ++ (45 ∷ r)) rest-is

part_again : (w n : ℕ) (rest : List ℕ) → n < 16 ^ w → part_at w (field w n ++ (45 ∷ rest)) ≡ Some (n, rest)
unfolding part_at
part_again w n rest lt = rw (field_again w n (45 ∷ rest) lt) refl

guard2 : {A : Type 0} (b : Bool) (o : Option A) (y : A) → cond b o None ≡ Some y → (b ≡ true) × (o ≡ Some y)
guard2 true o y e = (refl, e)
guard2 false o y e = absurd cc

in_range_is : (h g : Handle) → in_range h ≡ Some g → h ≡ g
in_range_is h g e =
    let a = guard2 (nat_le 1 h.queue && nat_lt h.queue 281474976710656) _ g e in
    let b = guard2 (nat_lt h.home 16) _ g a.1 in
    let c = guard2 (nat_lt h.serial 4611686018427387904) _ g b.1 in
    (test_some (nat_le 1 h.receive && nat_le h.receive 4294967295) h g c.1).1

abbrev made : ℕ × List ℕ → ℕ × List ℕ → ℕ × List ℕ → ℕ × List ℕ → ℕ × List ℕ → Handle
made queue home slot serial receive = record { queue = queue.0; home = home.0; slot = slot.0; serial = serial.0; receive = receive.0 }

abbrev ended : ℕ × List ℕ → ℕ × List ℕ → ℕ × List ℕ → ℕ × List ℕ → ℕ × List ℕ → Option Handle
ended queue home slot serial receive = cond (length receive.1 == 0) (in_range (made queue home slot serial receive)) None

joined : (b0 b1 b2 b3 b4 f0 f1 f2 f3 f4 : List ℕ) → b0 ≡ f0 ++ (45 ∷ b1) → b1 ≡ f1 ++ (45 ∷ b2) → b2 ≡ f2 ++ (45 ∷ b3) → b3 ≡ f3 ++ (45 ∷ b4) → b4 ≡ f4
    → b0 ≡ f0 ++ (45 ∷ (f1 ++ (45 ∷ (f2 ++ (45 ∷ (f3 ++ (45 ∷ f4)))))))
joined b0 b1 b2 b3 b4 f0 f1 f2 f3 f4 e0 e1 e2 e3 e4 = cc (e0, e1, e2, e3, e4)

last_takes : (w : ℕ) (bytes : List ℕ) (n : ℕ) (rest : List ℕ) → field_at w bytes ≡ Some (n, rest) → rest ≡ [] → bytes ≡ field w n
last_takes w bytes n rest e nothing = field_takes w bytes n rest e ∙ ap (λ (x : List ℕ). field w n ++ x) nothing ∙ append-nil (field w n)

-- numbers that are read are spelled so
numbers_take : (bytes : List ℕ) (h : Handle) → numbers_at bytes ≡ Some h → bytes ≡ numbers_text h
unfolding numbers_at numbers_text
numbers_take bytes h e =
    let q = bind_some (part_at 12 bytes) (λ queue. part_at 3 queue.1 >>= λ home. part_at 8 home.1 >>= λ slot. part_at 16 slot.1 >>= λ serial. field_at 8 serial.1 >>= λ receive. ended queue home slot serial receive) h e in
    let m = bind_some (part_at 3 q.0.1) (λ home. part_at 8 home.1 >>= λ slot. part_at 16 slot.1 >>= λ serial. field_at 8 serial.1 >>= λ receive. ended q.0 home slot serial receive) h q.2 in
    let s = bind_some (part_at 8 m.0.1) (λ slot. part_at 16 slot.1 >>= λ serial. field_at 8 serial.1 >>= λ receive. ended q.0 m.0 slot serial receive) h m.2 in
    let n = bind_some (part_at 16 s.0.1) (λ serial. field_at 8 serial.1 >>= λ receive. ended q.0 m.0 s.0 serial receive) h s.2 in
    let r = bind_some (field_at 8 n.0.1) (λ receive. ended q.0 m.0 s.0 n.0 receive) h n.2 in
    let g = guard2 (length r.0.1 == 0) (in_range (made q.0 m.0 s.0 n.0 r.0)) h r.2 in
    let same = in_range_is (made q.0 m.0 s.0 n.0 r.0) h g.1 in
    let nothing : r.0.1 ≡ [] = nil_from_length r.0.1 (eqb-true (length r.0.1) 0 g.0) in
    let e4 : n.0.1 ≡ field 8 r.0.0 = last_takes 8 n.0.1 r.0.0 r.0.1 r.1 nothing in
    let e3 = part_takes 16 s.0.1 n.0.0 n.0.1 n.1 in
    let e2 = part_takes 8 m.0.1 s.0.0 s.0.1 s.1 in
    let e1 = part_takes 3 q.0.1 m.0.0 m.0.1 m.1 in
    let e0 = part_takes 12 bytes q.0.0 q.0.1 q.1 in
    subst (λ (x : Handle). bytes ≡ field 12 x.queue ++ (45 ∷ (field 3 x.home ++ (45 ∷ (field 8 x.slot ++ (45 ∷ (field 16 x.serial ++ (45 ∷ field 8 x.receive)))))))) {x = made q.0 m.0 s.0 n.0 r.0} same
    (joined bytes q.0.1 m.0.1 s.0.1 n.0.1 (field 12 q.0.0) (field 3 m.0.0) (field 8 s.0.0) (field 16 n.0.0) (field 8 r.0.0) e0 e1 e2 e3 e4)

in_range_again : (h : Handle) → Fits h → in_range h ≡ Some h
in_range_again h f =
    let a : nat_le 1 h.queue ≡ true = le-leb _ _ f.queue.0 in
    let b : nat_lt h.queue 281474976710656 ≡ true = lt-ltb _ _ f.queue.1 in
    let c : nat_lt h.home 16 ≡ true = lt-ltb _ _ f.home in
    let d : nat_lt h.serial 4611686018427387904 ≡ true = lt-ltb _ _ f.serial in
    let g : nat_le 1 h.receive ≡ true = le-leb _ _ f.receive.0 in
    let k : nat_le h.receive 4294967295 ≡ true = le-leb _ _ f.receive.1 in
    rw (a, b, c, d, g, k) refl

-- numbers that are spelled so are read
numbers_again : (h : Handle) → Fits h → numbers_at (numbers_text h) ≡ Some h
unfolding numbers_at numbers_text
numbers_again h f =
    let last : field_at 8 (field 8 h.receive) ≡ Some (h.receive, []) = ap (field_at 8) (sym (append-nil (field 8 h.receive))) ∙ field_again 8 h.receive [] (omega (arith, f.receive)) in
    rw (part_again 12 h.queue _ (omega (arith, f.queue)), part_again 3 h.home _ (omega (arith, f.home)), part_again 8 h.slot _ (omega (arith, f.slot)), part_again 16 h.serial _ (omega (arith, f.serial)), last) (in_range_again h f)

by_version : (p q : Bool) (b c : ℕ) (rest : List ℕ) → (b == 50) ≡ p → (c == 45) ≡ q
    → (b ∷ c ∷ rest ≡ 50 ∷ 45 ∷ after_version (b ∷ c ∷ rest)) ⊎ (b ∷ c ∷ rest ≡ after_version (b ∷ c ∷ rest))
by_version true true b c rest e f = inl (rw (e, f) (cc (eqb-true b 50 e, eqb-true c 45 f)))
by_version true false b c rest e f = inr (rw (e, f) refl)
by_version false q b c rest e f = inr (rw e refl)

-- a text is of version 2, or nothing stands before its numbers
version_of : (bytes : List ℕ) → (bytes ≡ 50 ∷ 45 ∷ after_version bytes) ⊎ (bytes ≡ after_version bytes)
version_of [] = inr refl
version_of (b ∷ []) = inr refl
version_of (b ∷ c ∷ rest) = by_version (b == 50) (c == 45) b c rest refl refl

spelled : (bytes numbers : List ℕ) (h : Handle) → (bytes ≡ 50 ∷ 45 ∷ numbers) ⊎ (bytes ≡ numbers) → numbers ≡ numbers_text h → IsHandleText h bytes
unfolding handle_text
spelled bytes numbers h (inl e) same = inl (cc (e, same))
spelled bytes numbers h (inr e) same = inr (cc (e, same))

-- what is read is spelled so, in one of the versions
pub handle_takes : (bytes : List ℕ) (h : Handle) → handle_at bytes ≡ Some h → IsHandleText h bytes
unfolding handle_at
handle_takes bytes h e = spelled bytes (after_version bytes) h (version_of bytes) (numbers_take (after_version bytes) h e)

-- a digit is no `-`
digit_is_no_dash : (d : ℕ) → d < 16 → (digit d == 45) ≡ false
digit_is_no_dash d below = grind (arith, common_steps)

passed : {A : Type 0} (p q : Bool) (x y : A) → q ≡ false → cond (p && q) x y ≡ y
passed true q x y e = rw e refl
passed false q x y e = refl

-- numbers stand in a text of version 1 with nothing before them
numbers_stand : (h : Handle) → after_version (numbers_text h) ≡ numbers_text h
unfolding numbers_text field
numbers_stand h =
    let second = h.queue / 16 / 16 / 16 / 16 / 16 / 16 / 16 / 16 / 16 / 16 % 16 in
    passed _ _ _ _ (digit_is_no_dash second (omega arith))

-- what is spelled so is read, in both versions
pub handle_again : (bytes : List ℕ) (h : Handle) → Fits h → IsHandleText h bytes → handle_at bytes ≡ Some h
unfolding handle_at handle_text
handle_again bytes h fits (inl e) = ap (λ (x : List ℕ). numbers_at (after_version x)) e ∙ numbers_again h fits
handle_again bytes h fits (inr e) = ap (λ (x : List ℕ). numbers_at (after_version x)) e ∙ ap numbers_at (numbers_stand h) ∙ numbers_again h fits

-- pieces written one after another, with a `-` between
pub written : (o a0 d0 a1 d1 a2 d2 a3 d3 a4 f0 f1 f2 f3 f4 : List ℕ)
    → take 12 a0 ≡ take 0 o ++ f0 → take 13 d0 ≡ take 12 a0 ++ 45 ∷ []
    → take 16 a1 ≡ take 13 d0 ++ f1 → take 17 d1 ≡ take 16 a1 ++ 45 ∷ []
    → take 25 a2 ≡ take 17 d1 ++ f2 → take 26 d2 ≡ take 25 a2 ++ 45 ∷ []
    → take 42 a3 ≡ take 26 d2 ++ f3 → take 43 d3 ≡ take 42 a3 ++ 45 ∷ []
    → take 51 a4 ≡ take 43 d3 ++ f4 → length a4 ≡ 51
    → a4 ≡ f0 ++ (45 ∷ (f1 ++ (45 ∷ (f2 ++ (45 ∷ (f3 ++ (45 ∷ f4)))))))
written o a0 d0 a1 d1 a2 d2 a3 d3 a4 f0 f1 f2 f3 f4 e0 e1 e2 e3 e4 e5 e6 e7 e8 len =
    let all : take 51 a4 ≡ a4 = sym (ap (λ (n : ℕ). take n a4) len) ∙ take-length a4 in
    let g : (t12 t13 t16 t17 t25 t26 t42 t43 t51 : List ℕ) → t12 ≡ f0 → t13 ≡ t12 ++ 45 ∷ [] → t16 ≡ t13 ++ f1 → t17 ≡ t16 ++ 45 ∷ [] → t25 ≡ t17 ++ f2 → t26 ≡ t25 ++ 45 ∷ [] → t42 ≡ t26 ++ f3 → t43 ≡ t42 ++ 45 ∷ [] → t51 ≡ t43 ++ f4 → t51 ≡ ((((((((f0 ++ 45 ∷ []) ++ f1) ++ 45 ∷ []) ++ f2) ++ 45 ∷ []) ++ f3) ++ 45 ∷ []) ++ f4)
    = λ t12 t13 t16 t17 t25 t26 t42 t43 t51 p0 p1 p2 p3 p4 p5 p6 p7 p8. cc in
    sym all ∙ g (take 12 a0) (take 13 d0) (take 16 a1) (take 17 d1) (take 25 a2) (take 26 d2) (take 42 a3) (take 43 d3) (take 51 a4) e0 e1 e2 e3 e4 e5 e6 e7 e8 ∙ simp append_assoc
