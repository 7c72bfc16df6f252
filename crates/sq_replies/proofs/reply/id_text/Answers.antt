use Rattle.std.proofs.Common.{◌∙◌, ap, List, ℕ}
use Rattle.uuid.specs.Text.{hyphenated_text, lower}
use Rattle.sq_replies.specs.Replies.{id_text}
use Rattle.sq_replies.proofs.reply.id_text.Goals as goal

pub returns : goal.returns
unfolding id_text
returns c = c.encode_lower.ensures.text ∙ ap (λ (bytes : List ℕ). hyphenated_text lower bytes) (c.hyphenated.ensures ∙ c.to_uuid.ensures)
