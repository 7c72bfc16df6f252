use Rattle.sq_replies.proofs.TellLaws.{adds_more}
use Rattle.sq_replies.proofs.batches.write_failed.Goals as goal

pub returns : goal.returns
returns c =
    rw (← c.name.ensures, ← c.as_str.ensures, ← c.is_senders_fault.ensures)
    (adds_more c.end_flag.result c.args.out.now c.begin_text.new.out c.end_flag.new.out _ _ c.in_ok-begin_text.ensures
    (adds_more c.end_flag.result c.begin_text.new.out c.write_text.new.out c.end_flag.new.out _ _ c.in_ok-write_text.ensures c.end_flag.ensures))
