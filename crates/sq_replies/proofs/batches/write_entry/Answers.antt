use Rattle.std.proofs.Common.{◌≡◌, ◌∙◌}
use Rattle.sq_replies.proofs.TellLaws.{adds_more}
use Rattle.sq_replies.proofs.batches.write_entry.Goals as goal

pub returns-in_ok-write_text-in-Sent : goal.returns-in_ok-write_text-in-Sent
returns-in_ok-write_text-in-Sent c =
    let digest : c.ascii_text.result.now ≡ c.in-Sent.digest = c.ascii_text.ensures ∙ c.digits.ensures.digits in
    rw (c.in-Sent.is, ← c.as_str.ensures, ← c.id_text.ensures, ← digest)
    (adds_more c.end_text.result c.args.out.now c.begin_text.new.out c.end_text.new.out _ _ c.in_ok-begin_text-in-Sent.ensures
    (adds_more c.end_text.result c.begin_text.new.out c.write_text.new.out c.end_text.new.out _ _ c.in_ok-write_text-in-Sent.ensures c.end_text.ensures))
