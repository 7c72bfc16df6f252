use Rattle.std.proofs.Common.{◌+◌, ◌-◌, rules, arith}
use Rattle.std.proofs.lemmas.Slice.{drop-put_mid}
use Rattle.sq_base.proofs.fields.put_at.Goals as goal

pub returns-clause-rest : goal.returns-clause-rest
returns-clause-rest c = drop-put_mid c.args.at (c.args.at + c.args.width - c.args.at) c.args.out.now c.put_field.new.out (c.args.at + c.args.width) (omega arith) (omega (arith, c.requires)) (search rules)
