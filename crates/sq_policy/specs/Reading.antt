-- Results of reading.
use Rattle.std.specs.Prelude.{◌≡◌, ◌<◌, ℕ, List, length, Result, Ok, Err}
use Rattle.sq_base.specs.declared.refusal.Refusal.{Refusal}
use Rattle.sq_base.specs.declared.refusal.Refusal.TheVariants.{NoMemory}

infixl 10 ◌>>=◌
abbrev pub ◌>>=◌ : {A B : Type 0} → Result A Refusal → (A → Result B Refusal) → Result B Refusal
(Ok x) >>= f = f x
(Err e) >>= f = Err e

-- a result seen by its value
abbrev pub seen_as : {X Y E : Type 0} → (X → Y) → Result X E → Result Y E
seen_as f (Ok x) = Ok (f x)
seen_as f (Err e) = Err e

-- reading gives a value, and no refusal but that memory is out
abbrev pub IsUnrefused : {A : Type 0} → Result A Refusal → Type 0
IsUnrefused {A} (Ok r) = Unit {0}
IsUnrefused {A} (Err e) = e ≡ NoMemory

-- what was read is what reading gives, unless memory ran out, and then nothing else refused it
abbrev pub Reads : {A : Type 0} → Result A Refusal → Result A Refusal → Type 0
Reads {A} (Ok r) read = read ≡ Ok r
Reads {A} (Err NoMemory) read = IsUnrefused read
Reads {A} (Err e) read = read ≡ Err e

-- what was read of a text is what it means, unless memory ran out, as it may of any text that has a byte
abbrev pub ReadsText : {A : Type 0} → Result A Refusal → List ℕ → (List ℕ → Result A Refusal) → Type 0
ReadsText {A} (Ok r) text meaning = meaning text ≡ Ok r
ReadsText {A} (Err NoMemory) text meaning = 0 < length text
ReadsText {A} (Err e) text meaning = meaning text ≡ Err e
