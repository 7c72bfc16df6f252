use Rattle.std.proofs.Common.{arith, rules, refl, inl, inr, ◌≡◌}
use Rattle.sq_lines.specs.Lines.{read_of}
use Rattle.sq_wire.proofs.RunLaws.{so_far_none, so_far_puts, so_far_out, so_far_clear, so_far_done, so_far_more, so_far_stops, so_far_lost, so_far_loses, so_far_over, so_far_cut, so_far_cut_unanswered, few_more, left_same}
use Rattle.sq_wire.specs.declared.run.TheConstants.{TURNS}
use Rattle.sq_wire.proofs.run.answer_lines.Goals as goal

pub loop-answered-init : goal.loop-answered-init
loop-answered-init g c = record {
  so_far = rw (c.in-Ok.ensures, c.new-replies.ensures) (so_far_none _ _ _ _);
  few = rw c.new-replies.ensures (omega arith);
  kept = g.met.A.Answering.keeps_none _;
  reads = refl;
  writes = refl;
}

pub returns-in-Err-clause-err : goal.returns-in-Err-clause-err
returns-in-Err-clause-err g c = inr (so_far_cut _ _ _ _ _ _ _ _ _ _ _ _ _ (read_of c.loop-answered.lines) c.loop-answered.invariant.so_far (left_same _) c.in-Err.ensures.cut)

pub returns-in-Ok-None-clause-ok : goal.returns-in-Ok-None-clause-ok
returns-in-Ok-None-clause-ok g c =
    let put = so_far_puts _ _ _ _ _ _ _ _ _ _ _ c.loop-answered.invariant.so_far c.in_default-put_owed.ensures.ok in
    let next = rw c.in-Ok-None.field-0-is at c.in-Ok-None.ensures.taken in
    let none = c.in_default-put_owed.ensures.none (rw c.in-Ok-None.field-0-is at c.in-Ok-None.ensures.ended) in
    so_far_done _ _ _ _ _ _ _ _ (so_far_clear _ _ _ _ _ _ _ _ _ put none) next

pub returns-in-Err-Read-clause-err : goal.returns-in-Err-Read-clause-err
returns-in-Err-Read-clause-err g c =
    let put = so_far_puts _ _ _ _ _ _ _ _ _ _ _ c.loop-answered.invariant.so_far c.in_default-put_owed.ensures.ok in
    let none = c.in_default-put_owed.ensures.none (c.in-Err-Read.ensures.failed c.in-Err-Read.field-0-is) in
    inr (so_far_stops _ _ _ _ _ _ _ _ _ (so_far_clear _ _ _ _ _ _ _ _ _ put none) refl)

pub returns-in-Err-NoMemory-clause-err : goal.returns-in-Err-NoMemory-clause-err
returns-in-Err-NoMemory-clause-err g c =
    let put = so_far_puts _ _ _ _ _ _ _ _ _ _ _ c.loop-answered.invariant.so_far c.in_default-put_owed.ensures.ok in
    let next = c.in-Err-NoMemory.ensures in
    let is = c.in-Err-NoMemory.field-0-is in
    elim c.ended.ensures [
      | inl e ↦ rw e.0 (inr (so_far_lost _ _ _ _ _ _ _ _ _ _ c.next_line.new.self (so_far_out _ _ _ _ _ _ _ _ _ _ put e.1) (next.memory_line is) next.kept next.unbroken (next.memory is) (next.wanted is)))
      | inr cut ↦ inr (so_far_cut _ _ _ _ _ _ _ _ _ _ _ _ _ (read_of c.next_line.new.self) put next.kept cut.0)
    ]

pub returns-in-Err-TooLong-clause-err : goal.returns-in-Err-TooLong-clause-err
returns-in-Err-TooLong-clause-err g c =
    let put = so_far_puts _ _ _ _ _ _ _ _ _ _ _ c.loop-answered.invariant.so_far c.in_default-put_owed.ensures.ok in
    elim c.ended-in-Err-TooLong.ensures [
      | inl e ↦ rw e.0 (inr (so_far_over _ _ _ _ _ _ _ _ (so_far_out _ _ _ _ _ _ _ _ _ _ put e.1) (c.in-Err-TooLong.ensures.long_line c.in-Err-TooLong.field-0-is)))
      | inr cut ↦ inr (so_far_cut _ _ _ _ _ _ _ _ _ _ _ _ _ (read_of c.next_line.new.self) put c.in-Err-TooLong.ensures.kept cut.0)
    ]

pub returns-in_default-answer-clause-err : goal.returns-in_default-answer-clause-err
returns-in_default-answer-clause-err g c =
    let put = so_far_puts _ _ _ _ _ _ _ _ _ _ _ c.loop-answered.invariant.so_far c.in_default-put_owed.ensures.ok in
    let first = rw c.in-Ok-Some.field-0-is at c.in-Ok-Some.ensures.taken in
    let within = rw c.in-Ok-Some.field-0-is at c.in-Ok-Some.ensures.within in
    let unanswered = rw c.deref.ensures.value at c.in_default-answer.ensures.err in
    elim c.ended-in_default-answer.ensures [
      | inl e ↦ rw e.0 (inr (so_far_loses _ _ _ _ _ _ _ _ _ _ _ _ _ (so_far_out _ _ _ _ _ _ _ _ _ _ put e.1) first within unanswered))
      | inr cut ↦ inr (so_far_cut_unanswered _ _ _ _ _ _ _ _ _ _ _ _ _ _ _ (read_of c.next_line.new.self) put first within unanswered cut.0)
    ]

pub returns-in-Err-owe-clause-kept : goal.returns-in-Err-owe-clause-kept
returns-in-Err-owe-clause-kept g c = g.met.A.Answering.keeps_more _ _ _ c.loop-answered.invariant.kept c.in-Ok-answer.ensures.kept

pub returns-in-Err-owe-clause-err : goal.returns-in-Err-owe-clause-err
returns-in-Err-owe-clause-err g c =
    let put = so_far_puts _ _ _ _ _ _ _ _ _ _ _ c.loop-answered.invariant.so_far c.in_default-put_owed.ensures.ok in
    let more = so_far_more _ _ _ _ _ _ _ _ _ _ _ _ _ put (rw c.in-Ok-Some.field-0-is at c.in-Ok-Some.ensures.taken) (rw c.in-Ok-Some.field-0-is at c.in-Ok-Some.ensures.within) (rw c.deref.ensures.value at c.in-Ok-answer.ensures.ok) in
    inr (so_far_cut _ _ _ _ _ _ _ _ _ _ _ _ _ (read_of c.next_line.new.self) more (left_same _) (rw c.as_bytes.ensures at c.in-Err-owe.ensures.cut))

pub loop-answered-preserved : goal.loop-answered-preserved
loop-answered-preserved g c =
    let put = so_far_puts _ _ _ _ _ _ _ _ _ _ _ c.loop-answered.invariant.so_far c.in_default-put_owed.ensures.ok in
    let more = so_far_more _ _ _ _ _ _ _ _ _ _ _ _ _ put (rw c.in-Ok-Some.field-0-is at c.in-Ok-Some.ensures.taken) (rw c.in-Ok-Some.field-0-is at c.in-Ok-Some.ensures.within) (rw c.deref.ensures.value at c.in-Ok-answer.ensures.ok) in
    let owed = rw c.as_bytes.ensures at c.in_default-owe.ensures.ok in
    record {
      so_far = so_far_puts _ _ _ _ _ _ _ _ _ _ _ more owed;
      few = few_more _ _ _ _ _ _ _ _ c.loop-answered.invariant.few c.in_default-put_owed.ensures.ok owed;
      kept = g.met.A.Answering.keeps_more _ _ _ c.loop-answered.invariant.kept c.in-Ok-answer.ensures.kept;
      reads = search rules;
      writes = search rules;
    }

pub returns-clause-err : goal.returns-clause-err
returns-clause-err g c =
    let end : c.loop-answered.answered ≡ TURNS = omega arith in
    elim c.ended-2.ensures [
      | inl e ↦ rw e.0 (inr (so_far_stops _ _ _ _ _ _ _ _ _ (so_far_out _ _ _ _ _ _ _ _ _ _ c.loop-answered.invariant.so_far e.1) end))
      | inr cut ↦ inr (so_far_cut _ _ _ _ _ _ _ _ _ _ _ _ _ (read_of c.loop-answered.lines) (rw end at c.loop-answered.invariant.so_far) (left_same _) cut.0)
    ]
