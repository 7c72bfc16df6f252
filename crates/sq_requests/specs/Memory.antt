-- Where reading asks for memory.
use Rattle.std.specs.Prelude.{◌≡◌, Bool, true, Result, Ok, Err}
use Rattle.sq_base.specs.declared.refusal.Refusal.{Refusal}
use Rattle.sq_base.specs.declared.refusal.Refusal.TheVariants.{NoMemory}

-- memory is asked for, and nothing was refused before
abbrev pub IsAsked : Result Bool Refusal → Type 0
IsAsked (Ok asks) = asks ≡ true
IsAsked (Err e) = e ≡ NoMemory

-- what was read is what reading gives, unless memory ran out where it is asked for
abbrev pub ReadsAsking : {A : Type 0} → Result Bool Refusal → Result A Refusal → Result A Refusal → Type 0
ReadsAsking {A} asks (Ok r) read = read ≡ Ok r
ReadsAsking {A} asks (Err NoMemory) read = IsAsked asks
ReadsAsking {A} asks (Err e) read = read ≡ Err e
