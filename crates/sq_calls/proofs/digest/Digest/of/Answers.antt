use Rattle.sq_calls.proofs.DigestLaws.{digest_ascii}
use Rattle.sq_calls.proofs.digest.Digest.of.Goals as goal

pub invariant_of-result : goal.invariant_of-result
invariant_of-result c = rw c.body_md5.ensures (digest_ascii _)
