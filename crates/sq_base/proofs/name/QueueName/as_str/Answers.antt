use Rattle.std.proofs.lemmas.Str.{IsUtf8-from_ascii}
use Rattle.sq_base.proofs.NameLaws.{name_ascii}
use Rattle.sq_base.proofs.name.QueueName.as_str.Goals as goal

pub returns-in-Err : goal.returns-in-Err
returns-in-Err c = absurd (c.in-Err.ensures.cases.0 (IsUtf8-from_ascii _ (name_ascii _ (rw c.as_bytes.ensures.value c.as_bytes.ensures.name))))
