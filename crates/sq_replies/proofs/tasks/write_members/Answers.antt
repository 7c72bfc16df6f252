use Rattle.sq_replies.proofs.TellLaws.{adds_more, adds_last}
use Rattle.sq_replies.proofs.tasks.write_members.Goals as goal

pub returns : goal.returns
returns c =
    let r = c.write_handle_if.result in
    let last = c.write_handle_if.new.out in
    rw (← c.failure_word.ensures, ← c.status_word.ensures)
    (adds_more r c.args.out.now c.write_number.new.out last _ _ c.in_ok-write_number.ensures
    (adds_more r c.write_number.new.out c.write_arn_if.new.out last _ _ c.in_ok-write_arn_if.ensures
    (adds_more r c.write_arn_if.new.out c.write_word_if.new.out last _ _ c.in_ok-write_word_if.ensures
    (adds_more r c.write_word_if.new.out c.write_rate_if.new.out last _ _ c.in_ok-write_rate_if.ensures
    (adds_more r c.write_rate_if.new.out c.write_arn.new.out last _ _ c.in_ok-write_arn.ensures
    (adds_more r c.write_arn.new.out c.write_number-2.new.out last _ _ c.in_ok-write_number-2.ensures
    (adds_more r c.write_number-2.new.out c.write_text.new.out last _ _ c.in_ok-write_text.ensures
    (adds_last r c.write_text.new.out last _ c.write_handle_if.ensures))))))))
