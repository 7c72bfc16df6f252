-- Replies that hold little.
use Rattle.sq_model.specs.declared.replies.HomeReply.{HomeReply}
use Rattle.sq_model.specs.declared.replies.HomeReply.TheVariants as reply
use Rattle.sq_history.specs.declared.act.SmallReply.{SmallReply}
use Rattle.sq_history.specs.declared.act.SmallReply.TheVariants as small

-- what is told by a reply that holds little
abbrev pub small_reply : SmallReply → HomeReply
small_reply small.Done = reply.Done
small_reply (small.Sent sent) = reply.Sent sent
small_reply (small.Counted counts) = reply.Counted counts
small_reply small.NoLiveRow = reply.NoLiveRow
small_reply (small.NoOrigin serial) = reply.NoOrigin serial
small_reply small.SourceClosed = reply.SourceClosed
small_reply (small.Entered entered) = reply.Entered entered
