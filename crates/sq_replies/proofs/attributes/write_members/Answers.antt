use Rattle.sq_replies.proofs.TellLaws.{adds_more, adds_last}
use Rattle.sq_replies.proofs.attributes.write_members.Goals as goal

pub returns : goal.returns
returns c =
    let r = c.write_count_if-7.result in
    let last = c.write_count_if-7.new.out in
    rw (← c.get-delay.ensures.value, ← c.get-retention.ensures.value, ← c.get-wait_time.ensures.value, ← c.get-timeout.ensures.value)
    (adds_more r c.args.out.now c.write_count_if.new.out last _ _ c.in_ok-write_count_if.ensures
    (adds_more r c.write_count_if.new.out c.write_count_if-2.new.out last _ _ c.in_ok-write_count_if-2.ensures
    (adds_more r c.write_count_if-2.new.out c.write_count_if-3.new.out last _ _ c.in_ok-write_count_if-3.ensures
    (adds_more r c.write_count_if-3.new.out c.write_count_if-4.new.out last _ _ c.in_ok-write_count_if-4.ensures
    (adds_more r c.write_count_if-4.new.out c.write_count_if-5.new.out last _ _ c.in_ok-write_count_if-5.ensures
    (adds_more r c.write_count_if-5.new.out c.write_arn_if.new.out last _ _ c.in_ok-write_arn_if.ensures
    (adds_more r c.write_arn_if.new.out c.write_count_if-6.new.out last _ _ c.in_ok-write_count_if-6.ensures
    (adds_more r c.write_count_if-6.new.out c.write_policy_if.new.out last _ _ c.in_ok-write_policy_if.ensures
    (adds_more r c.write_policy_if.new.out c.write_policy_if-2.new.out last _ _ c.in_ok-write_policy_if-2.ensures
    (adds_last r c.write_policy_if-2.new.out last _ c.write_count_if-7.ensures))))))))))
