use Rattle.std.proofs.Common.{◌≡◌, ◌∙◌, Some, None, Option, List, ℕ, sym}
use Rattle.std.specs.Prelude.{IfSome}
use Rattle.sq_base.specs.declared.handle.Handle.{Handle}
use Rattle.sq_base.specs.Handles.{handle_at, IsHandleText}
use Rattle.sq_base.proofs.HandleLaws.{handle_takes, handle_again}
use Rattle.sq_base.proofs.handle.read_handle.Goals as goal

found : (o : Option Handle) (bytes : List ℕ) → o ≡ handle_at bytes → IfSome o (λ h. IsHandleText h bytes)
found None bytes e = tt
found (Some h) bytes e = handle_takes bytes h (sym e)

pub returns-clause-found : goal.returns-clause-found
returns-clause-found c = found c.handle_of.result c.args.b.now c.handle_of.ensures

pub returns-clause-only : goal.returns-clause-only
returns-clause-only c = λ h fits e. c.handle_of.ensures ∙ handle_again c.args.b.now h fits e
