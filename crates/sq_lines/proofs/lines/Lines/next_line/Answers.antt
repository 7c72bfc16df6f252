use Rattle.std.proofs.Common.{◌≡◌, ◌++◌, rules, arith, refl, sym, subst, [], List, ℕ, false}
use Rattle.sq_lines.specs.Lines.{has_feed}
use Rattle.std.proofs.lemmas.List.{nil_from_length}
use Rattle.sq_lines.proofs.LineLaws.{IsDone, no_feed_none, no_feed_found, no_feed_all, cut_found, line_cut, line_end, lines_kept, lines_on, lines_left_some, over_cut, over_all, over_here, over_left, over_same, feed_is_not, free_first, goes_on_all, goes_on_cut, within_cut, within_all, within_same}
use Rattle.sq_lines.proofs.lines.Lines.next_line.Goals as goal

pub invariant_of-self : goal.invariant_of-self
invariant_of-self g c = (subst (λ (x : List ℕ). has_feed x ≡ false) (sym c.in-Ok.ensures.none) no_feed_none, search rules)

pub returns-in-Ok-clause-taken : goal.returns-in-Ok-clause-taken
returns-in-Ok-clause-taken g c =
    rw c.in-Ok.ensures.none (lines_kept _ _ _ c.loop-at.invariant.lines
    (line_cut _ _ _ _ _ _ c.loop-at.invariant.plain (cut_found _ _ (rw c.bytes.ensures at c.in-Some.ensures)) c.in-Ok.ensures.line c.in-Ok.ensures.rest))

pub returns-in-Err-clause-long : goal.returns-in-Err-clause-long
returns-in-Err-clause-long g c e =
    over_same _ _ _ _ _ c.in-Err.ensures.kept
    (over_here _ _ (over_cut _ _ _ _ c.loop-at.invariant.plain (cut_found _ _ (rw c.bytes.ensures at c.in-Some.ensures)) (c.in-Err.ensures.long e)))

pub returns-in-Err-clause-long_line : goal.returns-in-Err-clause-long_line
returns-in-Err-clause-long_line g c e =
    lines_kept _ _ _ c.loop-at.invariant.lines
    (over_left _ _ _ (over_cut _ _ _ _ c.loop-at.invariant.plain (cut_found _ _ (rw c.bytes.ensures at c.in-Some.ensures)) (c.in-Err.ensures.long e)))

pub returns-in-Err-add_ahead-clause-long : goal.returns-in-Err-add_ahead-clause-long
returns-in-Err-add_ahead-clause-long g c e =
    over_same _ _ _ _ _ c.in-Err-add_ahead.ensures.kept
    (over_here _ _ (over_all _ _ _ c.loop-at.invariant.plain (no_feed_found _ _ _ c.memchr.ensures (search rules) c.bytes.ensures) (c.in-Err-add_ahead.ensures.long e)))

pub returns-in-Err-add_ahead-clause-long_line : goal.returns-in-Err-add_ahead-clause-long_line
returns-in-Err-add_ahead-clause-long_line g c e =
    lines_kept _ _ _ c.loop-at.invariant.lines
    (over_left _ _ _ (over_all _ _ _ c.loop-at.invariant.plain (no_feed_found _ _ _ c.memchr.ensures (search rules) c.bytes.ensures) (c.in-Err-add_ahead.ensures.long e)))

pub invariant_of-self-in_default-fill : goal.invariant_of-self-in_default-fill
invariant_of-self-in_default-fill g c =
    (no_feed_all _ _ _ c.loop-at.invariant.plain (no_feed_found _ _ _ c.memchr.ensures (search rules) c.bytes.ensures) c.in_default-add_ahead.ensures.line, search rules)

pub invariant_of-self-then-count-eq0 : goal.invariant_of-self-then-count-eq0
invariant_of-self-then-count-eq0 g c = (subst (λ (x : List ℕ). has_feed x ≡ false) (sym c.last_line.ensures.none) no_feed_none, search rules)

pub returns-then-count-eq0-clause-taken : goal.returns-then-count-eq0-clause-taken
returns-then-count-eq0-clause-taken g c =
    let plain = no_feed_all _ _ _ c.loop-at.invariant.plain (no_feed_found _ _ _ c.memchr.ensures (search rules) c.bytes.ensures) c.in_default-add_ahead.ensures.line in
    let got : c.fill.new.self ≡ [] = nil_from_length _ (omega (arith, c.in-Ok-fill.ensures.count, c.if-count-eq0.true)) in
    let done : IsDone _ _ c.fill.new.self = record { none = got; bytes = c.in-Ok-fill.ensures.bytes; end = c.in-Ok-fill.ensures.end c.if-count-eq0.true } in
    let left : c.last_line.new.begun.items ++ c.fill.new.self ≡ [] = rw (c.last_line.ensures.none, got) refl in
    lines_kept _ _ _ (rw (← c.in_default-add_ahead.ensures.line) at c.loop-at.invariant.lines) (line_end (λ line. line.items) _ _ _ _ _ _ done plain left c.last_line.ensures.line)

pub loop-at-preserved : goal.loop-at-preserved
loop-at-preserved g c =
    let all = c.in_default-add_ahead.ensures.line in
    record {
      lines = rw all (lines_kept _ _ _ c.loop-at.invariant.lines (lines_on _ _ _ _ c.in-Ok-fill.ensures.bytes));
      plain = no_feed_all _ _ _ c.loop-at.invariant.plain (no_feed_found _ _ _ c.memchr.ensures (search rules) c.bytes.ensures) all;
      within = search rules;
      failed = search rules;
      unread = λ is. absurd (feed_is_not _ is (free_first _ _ _ (no_feed_found _ _ _ c.memchr.ensures (search rules) c.bytes.ensures) c.loop-at.invariant.unread));
    }

pub returns-in-Err-clause-memory_line : goal.returns-in-Err-clause-memory_line
returns-in-Err-clause-memory_line g c e =
    let cut = cut_found c.loop-at.self-inside.ahead c.in-Some.at (rw c.bytes.ensures at c.in-Some.ensures) in
    lines_kept _ _ _ c.loop-at.invariant.lines (lines_left_some _ c.loop-at.self-inside.ahead _ (omega (arith, cut.within)))

pub returns-in-Err-add_ahead-clause-memory_line : goal.returns-in-Err-add_ahead-clause-memory_line
returns-in-Err-add_ahead-clause-memory_line g c e = lines_kept _ _ _ c.loop-at.invariant.lines (lines_left_some _ _ _ (c.in-Err-add_ahead.ensures.some e))

pub returns-in-Err-clause-memory : goal.returns-in-Err-clause-memory
returns-in-Err-clause-memory g c e =
    within_same _ _ _ _ _ c.in-Err.ensures.kept
    (within_cut _ _ _ _ c.loop-at.invariant.plain (cut_found _ _ (rw c.bytes.ensures at c.in-Some.ensures)) (c.in-Err.ensures.fits e))

pub returns-in-Err-add_ahead-clause-memory : goal.returns-in-Err-add_ahead-clause-memory
returns-in-Err-add_ahead-clause-memory g c e =
    within_same _ _ _ _ _ c.in-Err-add_ahead.ensures.kept
    (within_all _ _ _ c.loop-at.invariant.plain (no_feed_found _ _ _ c.memchr.ensures (search rules) c.bytes.ensures) (c.in-Err-add_ahead.ensures.some e) (c.in-Err-add_ahead.ensures.fits e))

pub returns-in-Err-clause-wanted : goal.returns-in-Err-clause-wanted
returns-in-Err-clause-wanted g c e =
    goes_on_cut _ _ _ (cut_found _ _ (rw c.bytes.ensures at c.in-Some.ensures)) (c.in-Err.ensures.some e) c.in-Err.ensures.kept.1

pub returns-in-Err-add_ahead-clause-wanted : goal.returns-in-Err-add_ahead-clause-wanted
returns-in-Err-add_ahead-clause-wanted g c e =
    goes_on_all _ _ (no_feed_found _ _ _ c.memchr.ensures (search rules) c.bytes.ensures) (c.in-Err-add_ahead.ensures.some e) c.in-Err-add_ahead.ensures.kept.1

pub returns-in-Ok-clause-unbroken : goal.returns-in-Ok-clause-unbroken
returns-in-Ok-clause-unbroken g c = subst (λ (x : List ℕ). has_feed x ≡ false) (sym c.in-Ok.ensures.none) no_feed_none

pub returns-in_default-fill-clause-unbroken : goal.returns-in_default-fill-clause-unbroken
returns-in_default-fill-clause-unbroken g c =
    no_feed_all _ _ _ c.loop-at.invariant.plain (no_feed_found _ _ _ c.memchr.ensures (search rules) c.bytes.ensures) c.in_default-add_ahead.ensures.line

pub returns-then-count-eq0-clause-unbroken : goal.returns-then-count-eq0-clause-unbroken
returns-then-count-eq0-clause-unbroken g c = subst (λ (x : List ℕ). has_feed x ≡ false) (sym c.last_line.ensures.none) no_feed_none

pub returns-in_default-fill-clause-held : goal.returns-in_default-fill-clause-held
returns-in_default-fill-clause-held g c is =
    absurd (feed_is_not _ is (free_first _ _ _ (no_feed_found _ _ _ c.memchr.ensures (search rules) c.bytes.ensures) c.loop-at.invariant.unread))

pub returns-in_default-fill-clause-failed : goal.returns-in_default-fill-clause-failed
returns-in_default-fill-clause-failed g c is = free_first _ _ _ (no_feed_found _ _ _ c.memchr.ensures (search rules) c.bytes.ensures) c.loop-at.invariant.unread

pub returns-then-count-eq0-clause-held : goal.returns-then-count-eq0-clause-held
returns-then-count-eq0-clause-held g c is =
    absurd (feed_is_not _ is (free_first _ _ _ (no_feed_found _ _ _ c.memchr.ensures (search rules) c.bytes.ensures) c.loop-at.invariant.unread))
