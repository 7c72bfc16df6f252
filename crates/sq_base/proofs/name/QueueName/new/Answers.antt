use Rattle.std.proofs.Common.{rules, sym, ◌∙◌}
use Rattle.sq_base.proofs.NameLaws.{padded_name}
use Rattle.sq_base.proofs.name.QueueName.new.Goals as goal

pub invariant_of-result : goal.invariant_of-result
invariant_of-result c = padded_name c.args.text.now c.padded.result (search rules) c.if-text-gt80.false (sym c.has_name_bytes.ensures ∙ c.if-not-has_name_bytes.false) c.padded.ensures
