use Rattle.std.proofs.Common.{◌≡◌, rules, arith, length, ◌-◌, ℕ, ◌∙◌, ap, sym, ◌++◌, drop}
use Rattle.std.proofs.lemmas.List.{length-set}
use Rattle.sq_base.specs.Fields.{field}
use Rattle.sq_base.proofs.FieldLaws.{put_more}
use Rattle.sq_base.proofs.fields.put_field.Goals as goal

pub loop-left-preserved : goal.loop-left-preserved
loop-left-preserved c = record {
  within = search rules;
  text = rw (length-set c.loop-left.out (c.loop-left.left - 1) c.digit.result) (put_more _ c.loop-left.out c.loop-left.left c.loop-left.rest c.digit.result c.loop-left-test.true c.loop-left.invariant.within c.digit.ensures c.loop-left.invariant.text);
}

pub returns : goal.returns
unfolding field
returns c = let none : c.loop-left.left ≡ 0 = omega arith in let same : length c.loop-left.out ≡ length c.args.out.now = omega arith in sym (ap (λ (n : ℕ). field n c.args.number) (sym same) ∙ c.loop-left.invariant.text ∙ ap (λ (n : ℕ). field n c.loop-left.rest ++ drop n c.loop-left.out) none)
