use Rattle.std.proofs.Common.{◌≡◌, ◌∙◌, ap}
use Rattle.hex.specs.Hex.{encode_lower}
use Rattle.md5.specs.Md5.{md5}
use Rattle.sq_base.specs.Handles.{handle_text}
use Rattle.sq_replies.specs.Replies.{handle_of}
use Rattle.sq_replies.proofs.AsciiLaws.{handle_ascii}
use Rattle.sq_replies.proofs.TellLaws.{adds_more}
use Rattle.sq_replies.proofs.reply.write_parts.Goals as goal

pub ascii_text-requires-2 : goal.ascii_text-requires-2
ascii_text-requires-2 c = rw c.write_handle.ensures (handle_ascii _)

pub returns : goal.returns
returns c =
    let r = c.end_text.result in
    let last = c.end_text.new.out in
    let digest : c.ascii_text.result.now ≡ encode_lower (md5 c.args.row.now.body) = c.ascii_text.ensures ∙ c.digits.ensures.digits ∙ c.of-digest.ensures in
    let handle : c.ascii_text-2.result.now ≡ handle_text (handle_of c.args.home.now c.args.row.now) = c.ascii_text-2.ensures ∙ c.write_handle.ensures ∙ ap handle_text c.handle_of.ensures in
    rw (← handle, ← digest, ← c.id_text.ensures, ← c.as_str.ensures)
    (adds_more r c.args.out.now c.write_text.new.out last _ _ c.in_ok-write_text.ensures
    (adds_more r c.write_text.new.out c.write_text-2.new.out last _ _ c.in_ok-write_text-2.ensures
    (adds_more r c.write_text-2.new.out c.write_text-3.new.out last _ _ c.in_ok-write_text-3.ensures c.end_text.ensures)))
