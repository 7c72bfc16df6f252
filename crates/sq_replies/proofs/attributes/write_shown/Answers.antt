use Rattle.std.proofs.Common.{codes}
use Rattle.sq_replies.specs.Replies.{shown_texts}
use Rattle.sq_replies.proofs.TellLaws.{inner_texts}
use Rattle.sq_replies.proofs.attributes.write_shown.Goals as goal

pub returns : goal.returns
returns c =
    inner_texts c.end_object-2.result (codes "Attributes") (shown_texts c.args.shown.now)
    c.args.out.now c.begin_object.new.self c.begin_member.new.out c.write_members.new.out c.end_object.new.self c.end_object-2.new.self
    c.in_ok-begin_object.ensures c.in_ok-begin_member.ensures c.in_ok-write_members.ensures c.in_ok-end_object.ensures c.end_object-2.ensures
