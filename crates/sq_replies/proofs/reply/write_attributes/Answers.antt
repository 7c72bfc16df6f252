use Rattle.std.proofs.Common.{◌∙◌, sym}
use Rattle.sq_replies.proofs.TellLaws.{adds_more, attributes_told}
use Rattle.sq_replies.proofs.reply.write_attributes.Goals as goal

pub returns : goal.returns
returns c =
    let r = c.end_object.result in
    let last = c.end_object.new.self in
    rw (attributes_told c.args.asked.now.receive_count c.args.asked.now.sent_timestamp c.args.row.now (sym c.is_any_asked.ensures ∙ c.if-not-is_any_asked.false))
    (adds_more r c.args.out.now c.begin_member.new.out last _ _ c.in_ok-begin_member.ensures
    (adds_more r c.begin_member.new.out c.write_count_if.new.out last _ _ c.in_ok-write_count_if.ensures
    (adds_more r c.write_count_if.new.out c.write_count_if-2.new.out last _ _ c.in_ok-write_count_if-2.ensures c.end_object.ensures)))
