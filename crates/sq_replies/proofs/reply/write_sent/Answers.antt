use Rattle.std.proofs.Common.{◌≡◌, ◌∙◌}
use Rattle.sq_replies.proofs.TellLaws.{adds_more}
use Rattle.sq_replies.proofs.reply.write_sent.Goals as goal

pub returns : goal.returns
returns c =
    let digest : c.ascii_text.result.now ≡ c.args.digest.now = c.ascii_text.ensures ∙ c.digits.ensures.digits in
    rw (← c.id_text.ensures, ← digest) (adds_more c.end_text.result c.args.out.now c.begin_text.new.out c.end_text.new.out _ _ c.in_ok-begin_text.ensures c.end_text.ensures)
