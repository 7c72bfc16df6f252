-- What is written of a policy is read as the policy.
use Rattle.std.proofs.Common.{◌≡◌, ◌∙◌, ℕ, ◌<◌, ◌≤◌, List, [], ◌∷◌, length, true, false, Some, None, Result, Ok, Err, lit≤, refl, sym, ap, subst, arith}
use Rattle.std.specs.Prelude.{nat_le, ◌==◌}
use Rattle.std.specs.List.{list_all}
use Rattle.std.proofs.lemmas.Bool.{le-leb}
use Rattle.std.proofs.lemmas.Grind.{common_steps}
use Rattle.json.specs.Json.{value}
use Rattle.json.specs.Lex.{lex, punctuate}
use Rattle.serde_json.specs.Data.{Data, depth}
use Rattle.serde_json.specs.Read.{read, max_depth}
use Rattle.serde_json.specs.Written.{compact_text, has_float}
use Rattle.sq_base.specs.Names.{is_name}
use Rattle.sq_base.specs.declared.refusal.Refusal.{Refusal}
use Rattle.sq_base.specs.declared.refusal.Refusal.TheVariants.{NoMemory}
use Rattle.sq_model.specs.declared.policy.AllowPolicy.{AllowPolicy}
use Rattle.sq_model.specs.declared.policy.AllowPolicy.TheVariants.{AllowAll, DenyAll, ByQueue}
use Rattle.sq_model.specs.declared.policy.RedrivePolicy.{RedrivePolicy}
use Rattle.sq_policy.specs.Amounts.{attribute_of}
use Rattle.sq_policy.specs.Reading.{Reads, ReadsText}
use Rattle.sq_policy.specs.PolicyTexts.{arn_name, arn_text, target_in, receives_in, redrive_in, sources_in, permission_in, allow_unlisted, allow_listed, allow_in, data_of, policy_of, redrive_data, sources_data, allow_data}
use Rattle.sq_policy.proofs.SourceLaws.{names_read, flat, no_float}

-- a text that is read has a byte
none_read : read [] ≡ None
unfolding lex punctuate value
none_read = refl

some_byte : (text : List ℕ) (d : Data) → read text ≡ Some d → (length text == 0) ≡ false
some_byte [] d e = absurd (let none = none_read in cc)
some_byte (b ∷ text) d e = grind (arith, common_steps)

pub policy_read : {A : Type 0} (policy_in : Data → Result A Refusal) (text : List ℕ) (d : Data) (policy : A) → read text ≡ Some d → policy_in d ≡ Ok policy → policy_of policy_in text ≡ Ok (Some policy)
unfolding data_of
policy_read policy_in text d policy e h = let some = some_byte text d e in rw (some, e, h) refl

-- a text with a value has a byte
has_byte : (text : List ℕ) (d : Data) → data_of text ≡ Ok (Some d) → 0 < length text
unfolding data_of
has_byte [] d e = absurd (cc)
has_byte (b ∷ text) d e = omega arith

-- what is refused is read so
pub reads_refused : {A : Type 0} (e : Refusal) (read : Result A Refusal) → read ≡ Err e → Reads (Err e) read
reads_refused NoMemory read h = rw h refl
reads_refused e read h = h

pub text_refused : {A : Type 0} (policy_in : Data → Result A Refusal) (text : List ℕ) (d : Data) (e : Refusal) → data_of text ≡ Ok (Some d) → Reads (Err e) (policy_in d) → ReadsText (Err e) text (policy_of policy_in)
text_refused policy_in text d NoMemory is h = has_byte text d is
text_refused policy_in text d e is h = rw (is, h) refl

pub redrive_read : (policy : RedrivePolicy) → arn_name (arn_text policy.target) ≡ Some policy.target → 1 ≤ policy.max_receives → policy.max_receives ≤ 1000 → redrive_in (redrive_data policy) ≡ Ok policy
unfolding redrive_in target_in receives_in attribute_of
redrive_read policy target least greatest =
    let low : nat_le 1 policy.max_receives ≡ true = le-leb _ _ least in
    let high : nat_le policy.max_receives 1000 ≡ true = le-leb _ _ greatest in
    rw (target, low, high) refl

pub sources_read : (names : List (List ℕ)) → list_all is_name names ≡ true → 1 ≤ length names → length names ≤ 10 → allow_in (sources_data names) ≡ Ok (ByQueue names)
unfolding allow_in permission_in allow_listed sources_in
sources_read names all least greatest =
    let low : nat_le 1 (length names) ≡ true = le-leb _ _ least in
    let high : nat_le (length names) 10 ≡ true = le-leb _ _ greatest in
    rw (names_read names all, low, high) refl

pub all_read : allow_in (allow_data AllowAll) ≡ Ok AllowAll
unfolding allow_in permission_in allow_unlisted
all_read = refl

pub deny_read : allow_in (allow_data DenyAll) ≡ Ok DenyAll
unfolding allow_in permission_in allow_unlisted
deny_read = refl

pub allow_shallow : (policy : AllowPolicy) → depth (allow_data policy) ≤ max_depth
allow_shallow AllowAll = lit≤ tt
allow_shallow DenyAll = lit≤ tt
allow_shallow (ByQueue names) = rw (flat names) (lit≤ tt)

pub allow_no_float : (policy : AllowPolicy) → has_float (allow_data policy) ≡ false
allow_no_float AllowAll = refl
allow_no_float DenyAll = refl
allow_no_float (ByQueue names) = rw (no_float names) refl

-- the text of a value that is the policy's
pub written : (text : List ℕ) (v d : Data) → v ≡ d → has_float d ≡ false → (has_float v ≡ false → text ≡ compact_text v) → text ≡ compact_text d
written text v d is plain h = h (ap has_float is ∙ plain) ∙ ap compact_text is

pub read_back : {A : Type 0} (policy_in : Data → Result A Refusal) (text : List ℕ) (v d : Data) (policy : A) → v ≡ d → depth d ≤ max_depth → (depth v ≤ max_depth → read text ≡ Some v) → policy_in d ≡ Ok policy → policy_of policy_in text ≡ Ok (Some policy)
read_back policy_in text v d policy is shallow h reads =
    policy_read policy_in text d policy (h (subst (λ (x : Data). depth x ≤ max_depth) (sym is) shallow) ∙ ap Some is) reads
