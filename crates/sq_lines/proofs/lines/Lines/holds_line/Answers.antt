use Rattle.std.proofs.Common.{◌∙◌, ap}
use Rattle.sq_lines.specs.Lines.{has_feed}
use Rattle.sq_lines.proofs.LineLaws.{feed_tells}
use Rattle.sq_lines.proofs.lines.Lines.holds_line.Goals as goal

pub returns : goal.returns
returns c = c.is_some.ensures ∙ (feed_tells _ _ c.memchr.ensures ∙ (ap has_feed c.bytes.ensures ∙ ap (λ l. has_feed l.ahead) c.self.view_is))
