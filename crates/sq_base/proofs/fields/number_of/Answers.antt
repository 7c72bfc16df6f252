use Rattle.std.proofs.Common.{◌≡◌, ◌∙◌, rules, arith, sym, None}
use Rattle.sq_base.proofs.FieldLaws.{number_more, number_stops, number_ends, power_bound, power_fits}
use Rattle.sq_base.proofs.fields.number_of.Goals as goal

pub returns-in_err-value-clause-value : goal.returns-in_err-value-clause-value
returns-in_err-value-clause-value c = let none : c.from_residual.result ≡ None = search rules in rw none (sym (c.loop-b.invariant.value ∙ number_stops c.loop-b.number c.args.digits.now c.loop-b.b-index c.loop-b-test.true (search rules)))

pub overflow_mul-number : goal.overflow_mul-number
overflow_mul-number c = let p = power_bound c.loop-b.number 0 c.loop-b.b-index c.loop-b.invariant.bound (omega arith) in let q = power_fits _ _ p (omega arith) in omega arith

pub overflow_add-number : goal.overflow_add-number
overflow_add-number c = let p = power_bound c.loop-b.number c.in_ok-value.value c.loop-b.b-index c.loop-b.invariant.bound c.in_ok-value.ensures.bound in let q = power_fits _ _ p (omega arith) in omega arith

pub loop-b-preserved : goal.loop-b-preserved
loop-b-preserved c = record {
  value = c.loop-b.invariant.value ∙ number_more c.loop-b.number c.in_ok-value.value c.args.digits.now c.loop-b.b-index c.loop-b-test.true (search rules);
  bound = power_bound _ _ _ c.loop-b.invariant.bound c.in_ok-value.ensures.bound;
}

pub returns-clause-value : goal.returns-clause-value
returns-clause-value c = sym (c.loop-b.invariant.value ∙ number_ends c.loop-b.number c.args.digits.now c.loop-b.b-index (omega arith))
