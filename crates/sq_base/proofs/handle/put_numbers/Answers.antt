use Rattle.std.proofs.Common.{◌∙◌, rules}
use Rattle.sq_base.specs.Fields.{field}
use Rattle.sq_base.specs.Handles.{numbers_text}
use Rattle.sq_base.proofs.HandleLaws.{written}
use Rattle.sq_base.proofs.handle.put_numbers.Goals as goal

pub returns : goal.returns
unfolding numbers_text
returns c =
    let all = written c.args.out.now c.put_at.new.out c.put_dash.new.out c.put_at-2.new.out c.put_dash-2.new.out c.put_at-3.new.out c.put_dash-3.new.out c.put_at-4.new.out c.put_dash-4.new.out c.put_at-5.new.out
    (field 12 c.get.result) (field 3 c.get-2.result) (field 8 c.args.h.now.slot) (field 16 c.get-3.result) (field 8 c.get-4.result)
    c.put_at.ensures.written c.put_dash.ensures.written c.put_at-2.ensures.written c.put_dash-2.ensures.written c.put_at-3.ensures.written c.put_dash-3.ensures.written c.put_at-4.ensures.written c.put_dash-4.ensures.written c.put_at-5.ensures.written (search rules) in
    all ∙ cc (c.get.ensures.value, c.get-2.ensures.value, c.get-3.ensures.value, c.get-4.ensures.value)
