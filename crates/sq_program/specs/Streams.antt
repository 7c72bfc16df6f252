-- What becomes of an input and of an output.
use Rattle.std.specs.Prelude.{ℕ, zero, suc, List, Option, ◌≡◌, ◌⊎◌, take}
use Rattle.std.specs.Io.KnownBytes.{Appends}
use Rattle.sq_lines.specs.Lines.{OneMore}
use Rattle.sq_lines.specs.declared.counted.Counted.{Counted}

-- A stream before and after: what tells its bytes, those to come of an input and those that went out of an output, and its
-- value at both moments, which counts its failed calls.
pub record Stream (T : Type 0) : Type 0 where
  pub bytes : T → Option (List ℕ)
  pub before : Counted T
  pub after : Counted T

abbrev pub stream : {T : Type 0} → (T → Option (List ℕ)) → Counted T → Counted T → Stream T
stream bytes before after = record { bytes = bytes; before = before; after = after }

-- it is as it was
abbrev pub IsUntouched : {T : Type 0} → Stream T → Type 0
IsUntouched s = s.after ≡ s.before

-- none of its calls failed
abbrev pub HasNoFault : {T : Type 0} → Stream T → Type 0
HasNoFault s = s.after.failed ≡ s.before.failed

-- one of its calls failed
abbrev pub HasOneFault : {T : Type 0} → Stream T → Type 0
HasOneFault s = OneMore s.before.failed s.after.failed

-- these bytes went out, and no others
abbrev pub PutsOut : {W : Type 0} → Stream W → List ℕ → Type 0
PutsOut output text = Appends (output.bytes output.before.inner) (output.bytes output.after.inner) text

-- a text of this kind went out
abbrev pub WrittenWhole : {W : Type 0} → (List ℕ → Type 0) → Stream W → Type 0
WrittenWhole IsText output = HasNoFault output × ((text : List ℕ) × IsText text × PutsOut output text)

-- there was no memory for such a text and nothing went out, or a call failed and a front of it did
abbrev pub WrittenInPart : {W : Type 0} → (List ℕ → Type 0) → Stream W → Type 0
WrittenInPart IsText output = IsUntouched output ⊎ (HasOneFault output × ((text : List ℕ) × (part : ℕ) × IsText text × PutsOut output (take part text)))

-- by the status, such a text was shown
abbrev pub EndsWritten : {W : Type 0} → (List ℕ → Type 0) → Stream W → ℕ → Type 0
EndsWritten IsText output zero = WrittenWhole IsText output
EndsWritten IsText output (suc zero) = WrittenInPart IsText output
EndsWritten IsText output (suc (suc n)) = ⊥
