use Rattle.std.proofs.Common.{refl}
use Rattle.sq_program.specs.Streams.{stream}
use Rattle.sq_program.proofs.EndingLaws.{ends_written}
use Rattle.sq_program.proofs.program.carry_out.Goals as goal

pub returns-in-Err-Text : goal.returns-in-Err-Text
returns-in-Err-Text g c =
    let input = stream g.R.Read.remaining c.args.input.now c.args.input.now in
    let output = stream g.W.Write.contents c.args.output.now c.show.new.output in
    rw (c.in-Err-Text.is, c.in-Err-Text.field-0-is) (ends_written c.in-Err-Text.error input output c.show.result refl c.show.ensures)

pub returns-in-Err-Mistake : goal.returns-in-Err-Mistake
returns-in-Err-Mistake g c = rw (c.in-Err-Mistake.is, c.in-Err-Mistake.field-0-is, c.explain.ensures) (refl, refl)

pub returns-in-Err-NoMemory : goal.returns-in-Err-NoMemory
returns-in-Err-NoMemory g c = rw (c.in-Err-NoMemory.is, c.in-Err-NoMemory.field-0-is, c.no_memory.ensures) (refl, refl)
