-- How the program ends, by its exit status or by what is left to do, over what its words ask for and what becomes of its input and its output.
use Rattle.std.specs.Prelude.{zero, suc, ◌≡◌, None, Some}
use Rattle.sq_model.specs.Options.{IsServed}
use Rattle.sq_flags.specs.declared.flags.Mode.TheVariants.{Serve, Race}
use Rattle.sq_flags.specs.declared.flags.ServeMode.{ServeMode}
use Rattle.sq_flags.specs.declared.flags.RaceMode.{RaceMode}
use Rattle.sq_program.specs.declared.program.Next.{Next}
use Rattle.sq_program.specs.declared.program.Next.TheVariants as next
use Rattle.sq_program.specs.Endings.{MayRace}

-- the same of what serving asks for alone, and of a race
abbrev pub EndsServing : ServeMode → Next → Type 0
EndsServing mode (next.End zero) = ⊥
EndsServing mode (next.End (suc zero)) = IsServed mode.options × (mode.address ≡ None)
EndsServing mode (next.End (suc (suc zero))) = ¬ IsServed mode.options
EndsServing mode (next.End (suc (suc (suc n)))) = ⊥
EndsServing mode (next.Serve address asked) = IsServed mode.options × (mode.address ≡ Some address) × (asked ≡ mode)
EndsServing mode (next.Race asked) = ⊥

abbrev pub EndsRacing : RaceMode → Next → Type 0
EndsRacing mode (next.End zero) = ⊥
EndsRacing mode (next.End (suc zero)) = ⊥
EndsRacing mode (next.End (suc (suc zero))) = ¬ MayRace mode
EndsRacing mode (next.End (suc (suc (suc n)))) = ⊥
EndsRacing mode (next.Serve address asked) = ⊥
EndsRacing mode (next.Race asked) = MayRace mode × (asked ≡ mode)
