use Rattle.sq_laws.proofs.DirectoryAnswers.{one_answer}
use Rattle.sq_laws.proofs.directory_laws.a_directory_has_one_answer.Goals as goal

pub returns : goal.returns
returns c = one_answer
