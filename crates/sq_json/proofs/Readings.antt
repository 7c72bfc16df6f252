-- What `fits` asks of the tokens of a value, and when a text is read.
use Rattle.std.proofs.Common.{◌≡◌, ℕ, zero, suc, ◌≤◌, List, [], ◌∷◌, ◌++◌, length, Bool, true, false, ◌&&◌, Option, Some, None, option_map, option_and_then, is_some, IsSome, refl, sym, ap, ◌∙◌, subst, arith, append_assoc, append-nil}
use Rattle.json.specs.Token.{Token}
use Rattle.json.specs.Lex.{lex, punctuate, tokens}
use Rattle.json.specs.Json as json
use Rattle.json.specs.Json.{value, if_last, document}
use Rattle.json.specs.Tree.{json_tokens, items_tokens, members_tokens, depth, items_depth, members_depth}
use Rattle.json.proofs.Printed.Trees.{value-json_tokens}
use Rattle.json.proofs.Nesting.{value-depth}
use Rattle.json.proofs.Unique.Spelling.{value-json_tokens_back, tokens-document}
use Rattle.serde_json.specs.Data.{Data, number, array, object, item, Members, no_members, put}
use Rattle.serde_json.specs.Read.{number_of, of_json, of_items, of_members, read}
use Rattle.sq_json.specs.inside.Fits.{fits}
use Rattle.sq_json.proofs.LookUps.{then_some}
use Rattle.sq_json.proofs.Views.{some_data}

both : (a b : Bool) → (a && b) ≡ true → (a ≡ true) × (b ≡ true)
both true b e = (refl, e)
both false b e = absurd (cc)

some_map : {A B : Type 0} (f : A → B) (o : Option A) → IsSome o → IsSome (option_map f o)
some_map f None h = absurd (cc)
some_map f (Some a) h = refl

map_some : {A B : Type 0} (f : A → B) (o : Option A) → IsSome (option_map f o) → IsSome o
map_some f None h = absurd (cc)
map_some f (Some a) h = refl

some_then : {A B : Type 0} (f : A → Option B) (o : Option A) → IsSome o → ((a : A) → IsSome (f a)) → IsSome (option_and_then f o)
some_then f None h each = absurd (cc)
some_then f (Some a) h each = each a

-- ---- what fits is read

mutual
  read_value : (j : json.Json) (depth_left : ℕ) (rest : List Token) → fits depth_left (json_tokens j ++ rest) ≡ true → (depth j ≤ depth_left) × IsSome (of_json j) × (fits depth_left rest ≡ true)
  read_value json.null depth_left rest e = (omega arith, refl, e)
  read_value (json.boolean b) depth_left rest e = (omega arith, refl, e)
  read_value (json.number s) depth_left rest e = let h = both (is_some (number_of s)) (fits depth_left rest) e in (omega arith, some_map number (number_of s) h.0, h.1)
  read_value (json.string s) depth_left rest e = (omega arith, refl, e)
  read_value (json.array js) zero rest e = absurd (cc)
  read_value (json.array js) (suc depth_left) rest e = let h = read_items js depth_left rest e in (omega (arith, h.0), some_map array (of_items js) h.1, h.2)
  read_value (json.object ms) zero rest e = absurd (cc)
  read_value (json.object ms) (suc depth_left) rest e = let h = read_members ms depth_left rest e in (omega (arith, h.0), some_map object (of_members ms no_members) (h.1 no_members), h.2)

  read_items : (js : json.Items) (depth_left : ℕ) (rest : List Token) → fits depth_left (items_tokens js ++ rest) ≡ true → (items_depth js ≤ depth_left) × IsSome (of_items js) × (fits (suc depth_left) rest ≡ true)
  read_items json.no_items depth_left rest e = (omega arith, refl, e)
  read_items (json.item j js) depth_left rest e =
      let first = read_value j depth_left (items_tokens js ++ rest) (ap (fits depth_left) (sym (append_assoc (json_tokens j) (items_tokens js) rest)) ∙ e) in
      let others = read_items js depth_left rest first.2 in
      (omega (arith, first.0, others.0), some_then (λ d. option_map (item d) (of_items js)) (of_json j) first.1 (λ d. some_map (item d) (of_items js) others.1), others.2)

  read_members : (ms : json.Members) (depth_left : ℕ) (rest : List Token) → fits depth_left (members_tokens ms ++ rest) ≡ true → (members_depth ms ≤ depth_left) × ((before : Members) → IsSome (of_members ms before)) × (fits (suc depth_left) rest ≡ true)
  read_members json.no_members depth_left rest e = (omega arith, λ before. refl, e)
  read_members (json.member k j ms) depth_left rest e =
      let first = read_value j depth_left (members_tokens ms ++ rest) (ap (fits depth_left) (sym (append_assoc (json_tokens j) (members_tokens ms) rest)) ∙ e) in
      let others = read_members ms depth_left rest first.2 in
      (omega (arith, first.0, others.0), λ before. some_then (λ d. of_members ms (put k d before)) (of_json j) first.1 (λ d. others.1 (put k d before)), others.2)

-- ---- what is read fits

first_some : {A B : Type 0} (f : A → Option B) (o : Option A) → IsSome (option_and_then f o) → (a : A) × (o ≡ Some a) × IsSome (f a)
first_some f None h = absurd (cc)
first_some f (Some a) h = (a, refl, h)

mutual
  fits_value : (j : json.Json) (depth_left : ℕ) (rest : List Token) → depth j ≤ depth_left → IsSome (of_json j) → fits depth_left (json_tokens j ++ rest) ≡ fits depth_left rest
  fits_value json.null depth_left rest h e = refl
  fits_value (json.boolean b) depth_left rest h e = refl
  fits_value (json.number s) depth_left rest h e = let is : is_some (number_of s) ≡ true = map_some number (number_of s) e in ap (λ b. b && fits depth_left rest) is
  fits_value (json.string s) depth_left rest h e = refl
  fits_value (json.array js) zero rest h e = absurd (omega arith)
  fits_value (json.array js) (suc depth_left) rest h e = fits_items js depth_left rest (omega arith) (map_some array (of_items js) e)
  fits_value (json.object ms) zero rest h e = absurd (omega arith)
  fits_value (json.object ms) (suc depth_left) rest h e = fits_members ms no_members depth_left rest (omega arith) (map_some object (of_members ms no_members) e)

  fits_items : (js : json.Items) (depth_left : ℕ) (rest : List Token) → items_depth js ≤ depth_left → IsSome (of_items js) → fits depth_left (items_tokens js ++ rest) ≡ fits (suc depth_left) rest
  fits_items json.no_items depth_left rest h e = refl
  fits_items (json.item j js) depth_left rest h e =
      let first = first_some (λ d. option_map (item d) (of_items js)) (of_json j) e in
      ap (fits depth_left) (append_assoc (json_tokens j) (items_tokens js) rest)
      ∙ fits_value j depth_left (items_tokens js ++ rest) (omega arith) (subst IsSome (sym first.1) refl)
      ∙ fits_items js depth_left rest (omega arith) (map_some (item first.0) (of_items js) first.2)

  fits_members : (ms : json.Members) (before : Members) (depth_left : ℕ) (rest : List Token) → members_depth ms ≤ depth_left → IsSome (of_members ms before) → fits depth_left (members_tokens ms ++ rest) ≡ fits (suc depth_left) rest
  fits_members json.no_members before depth_left rest h e = refl
  fits_members (json.member k j ms) before depth_left rest h e =
      let first = first_some (λ d. of_members ms (put k d before)) (of_json j) e in
      ap (fits depth_left) (append_assoc (json_tokens j) (members_tokens ms) rest)
      ∙ fits_value j depth_left (members_tokens ms ++ rest) (omega arith) (subst IsSome (sym first.1) refl)
      ∙ fits_members ms (put k first.0 before) depth_left rest (omega arith) first.2

-- ---- a text

abbrev whole : Option (json.Json × List Token) → Option json.Json
whole o = option_and_then (λ p. if_last p.0 p.1) o

pub read_fitting : (text : List ℕ) (j : json.Json) → document text ≡ Some j → fits 127 (tokens text) ≡ true → (d : Data) × (of_json j ≡ Some d) × (read text ≡ Some d)
read_fitting text j e f =
    let is : tokens text ≡ json_tokens j ++ [] = tokens-document text j e ∙ sym (append-nil _) in
    let h = read_value j 127 [] (ap (fits 127) (sym is) ∙ f) in
    let d = some_data (of_json j) h.1 in
    let at : value 127 (tokens text) ≡ Some (j, []) = ap (value 127) is ∙ value-json_tokens j 127 [] h.0 in
    (d.0, d.1, ap (λ o. option_and_then of_json (whole o)) at ∙ d.1)

last : (o : Option (json.Json × List Token)) (j : json.Json) → whole o ≡ Some j → o ≡ Some (j, [])
last None j e = absurd (cc)
last (Some (i, [])) j e = let same : i ≡ j = cc in ap (λ x. Some (x, [])) same
last (Some (i, t ∷ ts)) j e = absurd (cc)

-- a text that is read is a document that fits
pub read_is : (text : List ℕ) (d : Data) → read text ≡ Some d → IsSome (document text) × (fits 127 (tokens text) ≡ true)
read_is text d e =
    let j = then_some of_json (whole (value 127 (tokens text))) d e in
    let at = last (value 127 (tokens text)) j.0 j.1 in
    let shallow = value-depth 127 (tokens text) [] j.0 at in
    let is = value-json_tokens_back 127 (tokens text) [] j.0 at in
    let deeper : value 128 (tokens text) ≡ Some (j.0, []) = ap (value 128) is ∙ value-json_tokens j.0 128 [] (omega (arith, shallow)) in
    (subst IsSome (sym (ap whole deeper)) refl, ap (fits 127) is ∙ fits_value j.0 127 [] shallow (subst IsSome (sym j.2) refl))

none_or : {A : Type 0} (o : Option A) → ((a : A) → o ≡ Some a → ⊥) → o ≡ None
none_or None never = refl
none_or (Some a) never = absurd (never a refl)

pub no_document : (text : List ℕ) → document text ≡ None → read text ≡ None
no_document text e = none_or (read text) (λ d h. let some : IsSome (document text) = (read_is text d h).0 in subst (λ o. IsSome o → ⊥) (sym e) (λ x. cc) some)

pub no_fit : (text : List ℕ) → fits 127 (tokens text) ≡ false → read text ≡ None
no_fit text e = none_or (read text) (λ d h. let yes = (read_is text d h).1 in cc)

pub nothing_read : read [] ≡ None
unfolding lex punctuate value
nothing_read = refl

pub nothing_left : (text : List ℕ) → length text ≡ 0 → read text ≡ None
nothing_left [] e = nothing_read
nothing_left (x ∷ text) e = absurd (omega arith)
