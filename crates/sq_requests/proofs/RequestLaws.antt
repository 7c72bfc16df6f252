-- Reading a request.
use Rattle.std.proofs.Common.{◌≡◌, ℕ, Bool, true, false, List, [], ◌∷◌, length, refl, arith, Ok, Err, Result, Some, None, ◌<◌}
use Rattle.std.specs.Prelude.{◌||◌}
use Rattle.sq_base.specs.declared.refusal.Refusal.{Refusal}
use Rattle.sq_base.specs.declared.refusal.Refusal.TheVariants.{NoMemory}
use Rattle.json.specs.Json.{value}
use Rattle.json.specs.Lex.{lex, punctuate}
use Rattle.serde_json.specs.Data.{Data}
use Rattle.serde_json.specs.Read.{read}
use Rattle.std.specs.Str.{is_utf8}
use Rattle.sq_policy.specs.Reading.{Reads}
use Rattle.sq_requests.specs.Memory.{ReadsAsking}
use Rattle.sq_requests.specs.Requests.{line_request, request_of, ReadsLine}
use Rattle.sq_requests.specs.inside.Requests.{request_asks}
use Rattle.sq_requests.specs.declared.request.Request.{Request}

-- what is refused reads so
pub reads_refused : {A : Type 0} (e : Refusal) (read : Result A Refusal) → read ≡ Err e → Reads (Err e) read
reads_refused NoMemory read h = rw h refl
reads_refused e read h = h

-- and so where nothing asked for memory before
pub asks_refused : {A : Type 0} (e : Refusal) (asks : Result Bool Refusal) (read : Result A Refusal) → asks ≡ Err e → read ≡ Err e → ReadsAsking asks (Err e) read
asks_refused NoMemory asks read none h = rw none refl
asks_refused e asks read none h = h

-- a line that is read has a byte
none_read : read [] ≡ None
unfolding lex punctuate value
none_read = refl

some_byte : (line : List ℕ) (d : Data) → read line ≡ Some d → 0 < length line
some_byte [] d e = absurd (let none = none_read in cc)
some_byte (b ∷ line) d e = omega arith

-- what was read of a line's value is what was read of the line
pub reads_line : (line : List ℕ) (d : Data) (r : Result Request Refusal) → is_utf8 line ≡ true → read line ≡ Some d → ReadsAsking (request_asks d) r (request_of d) → ReadsLine r line
unfolding line_request
reads_line line d (Ok request) utf8 e h = rw (utf8, e) h
reads_line line d (Err NoMemory) utf8 e h = some_byte line d e
reads_line line d (Err refusal) utf8 e h = rw (utf8, e) h

or_right : (a b : Bool) → b ≡ true → (a || b) ≡ true
or_right true b e = refl
or_right false b e = e
