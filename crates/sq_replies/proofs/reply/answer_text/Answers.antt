use Rattle.std.proofs.Common.{◌∙◌, ap}
use Rattle.json.specs.Print.{print}
use Rattle.serde_json.proofs.Texts.{print-outline}
use Rattle.sq_replies.specs.Replies.{answer_data}
use Rattle.sq_replies.proofs.reply.answer_text.Goals as goal

pub returns : goal.returns
returns c = c.into_bytes.ensures ∙ ap print (rw c.in_ok-out.ensures at c.in_ok-write_answer.ensures) ∙ print-outline (answer_data c.args.answer.now)
