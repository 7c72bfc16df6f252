-- A look-up in a value of the grammar finds what one in its data finds.
use Rattle.std.proofs.Common.{◌≡◌, ℕ, zero, suc, List, Bool, true, false, cond, Option, Some, None, option_map, option_and_then, Ordering, Less, Equal, Greater, nat_cmp, is_eq, ◌||◌, refl, sym, ap, subst, ◌∙◌}
use Rattle.std.specs.Ordering.{match_ordering}
use Rattle.std.specs.Cmp.Lexicographic.{slice_cmp}
use Rattle.std.specs.List.{list_any}
use Rattle.std.proofs.lemmas.Map.Text.{is_eq-slice_cmp}
use Rattle.std.specs.Str.{bytes_eq}
use Rattle.std.proofs.lemmas.Slice.Eq.{bytes_eq-Decides}
use Rattle.json.specs.Json as json
use Rattle.json.specs.Find as at_json
use Rattle.json.specs.Find.{later_or}
use Rattle.json.specs.Strict.{keys}
use Rattle.serde_json.specs.Data.{Num, Data, null, boolean, number, string, array, object, Items, no_items, item, Members, no_members, member, put}
use Rattle.serde_json.specs.Read.{number_of, of_json, of_items, of_members}
use Rattle.serde_json.specs.Find.{get_member, get_item, get, at, as_str, as_number, as_array, as_object}
use Rattle.sq_json.specs.View.{has_any, names_of}
use Rattle.serde_json.proofs.Views.{get_member-put, get_member-put_other}

-- ---- what is made of parts that are there

abbrev pub Made : {A B : Type 0} → (A → B) → Option A → B → Type 0
Made {A} f o b = (a : A) × (o ≡ Some a) × (b ≡ f a)

pub made : {A B : Type 0} (f : A → B) (o : Option A) (b : B) → option_map f o ≡ Some b → Made f o b
made f None b e = absurd (cc)
made f (Some a) b e = (a, refl, cc)

pub then_some : {A B : Type 0} (f : A → Option B) (o : Option A) (b : B) → option_and_then f o ≡ Some b → (a : A) × (o ≡ Some a) × (f a ≡ Some b)
then_some f None b e = absurd (cc)
then_some f (Some a) b e = (a, refl, e)

-- ---- members

-- the last member of a name, and else what was there before
abbrev Found : List ℕ → Members → Members → Option json.Json → Type 0
Found name before all None = get_member name all ≡ get_member name before
Found name before all (Some j) = (d : Data) × (of_json j ≡ Some d) × (get_member name all ≡ Some d)

differ : (xs ys : List ℕ) → bytes_eq xs ys ≡ false → ys ≡ xs → ⊥
differ xs ys e same = let yes = (bytes_eq-Decides xs ys).1 (sym same) in absurd (cc)

one_more : (name k : List ℕ) (j : json.Json) (d : Data) (before all : Members) → of_json j ≡ Some d → (later : Option json.Json) (b : Bool) → bytes_eq k name ≡ b
    → Found name (put k d before) all later → Found name before all (later_or later (cond b (Some j) None))
one_more name k j d before all is (Some i) b e h = h
one_more name k j d before all is None true e h =
    let same : k ≡ name = (bytes_eq-Decides k name).0 e in
    (d, is, h ∙ ap (λ n. get_member n (put k d before)) (sym same) ∙ get_member-put k d before)
one_more name k j d before all is None false e h = h ∙ get_member-put_other name k d before (differ k name e)

found_in : (name : List ℕ) (ms : json.Members) (before all : Members) → of_members ms before ≡ Some all → Found name before all (at_json.get_member name ms)
found_in name json.no_members before all e = let same : all ≡ before = cc in ap (get_member name) same
found_in name (json.member k j ms) before all e =
    let first = then_some (λ d. of_members ms (put k d before)) (of_json j) all e in
    one_more name k j first.0 before all first.1 (at_json.get_member name ms) (bytes_eq k name) refl (found_in name ms (put k first.0 before) all first.2)

has_any-match_ordering : (o : Ordering) (a b c : Members) → has_any a ≡ true → has_any b ≡ true → has_any c ≡ true → has_any (match_ordering o a b c) ≡ true
has_any-match_ordering Less a b c p q r = p
has_any-match_ordering Equal a b c p q r = q
has_any-match_ordering Greater a b c p q r = r

has_any-put : (k : List ℕ) (d : Data) (ms : Members) → has_any (put k d ms) ≡ true
has_any-put k d no_members = refl
has_any-put k d (member l e ms) = has_any-match_ordering _ (member k d (member l e ms)) (member l d ms) (member l e (put k d ms)) refl refl refl

pub has_any_kept : (ms : json.Members) (before all : Members) → has_any before ≡ true → of_members ms before ≡ Some all → has_any all ≡ true
has_any_kept json.no_members before all some e = let same : before ≡ all = cc in ap has_any (sym same) ∙ some
has_any_kept (json.member k j ms) before all some e =
    let first = then_some (λ d. of_members ms (put k d before)) (of_json j) all e in
    has_any_kept ms (put k first.0 before) all (has_any-put k first.0 before) first.2

-- ---- values

-- what was found is the data of what the grammar finds
abbrev pub Agrees : Option json.Json → Option Data → Type 0
Agrees None o = o ≡ None
Agrees (Some j) o = (d : Data) × (of_json j ≡ Some d) × (o ≡ Some d)

in_object : (name : List ℕ) (all : Members) (o : Option json.Json) → Found name no_members all o → Agrees o (get_member name all)
in_object name all None h = h
in_object name all (Some j) h = h

-- A relation that holds at each kind of value holds of a value and its data.
module _ (Related : json.Json → Data → Type 0) (at_null : Related json.null null) (at_boolean : (b : Bool) → Related (json.boolean b) (boolean b))
    (at_number : (s : List ℕ) (n : Num) → number_of s ≡ Some n → Related (json.number s) (number n)) (at_string : (s : List ℕ) → Related (json.string s) (string s))
    (at_array : (js : json.Items) (ds : Items) → of_items js ≡ Some ds → Related (json.array js) (array ds))
    (at_object : (ms : json.Members) (all : Members) → of_members ms no_members ≡ Some all → Related (json.object ms) (object all)) where
  each_kind : (j : json.Json) (d : Data) → of_json j ≡ Some d → Related j d
  each_kind json.null d e = let is : null ≡ d = cc in subst (Related json.null) is at_null
  each_kind (json.boolean b) d e = let is : boolean b ≡ d = cc in subst (Related (json.boolean b)) is (at_boolean b)
  each_kind (json.number s) d e = let is = made number (number_of s) d e in subst (Related (json.number s)) (sym is.2) (at_number s is.0 is.1)
  each_kind (json.string s) d e = let is : string s ≡ d = cc in subst (Related (json.string s)) is (at_string s)
  each_kind (json.array js) d e = let is = made array (of_items js) d e in subst (Related (json.array js)) (sym is.2) (at_array js is.0 is.1)
  each_kind (json.object ms) d e = let is = made object (of_members ms no_members) d e in subst (Related (json.object ms)) (sym is.2) (at_object ms is.0 is.1)

pub get_agrees : (name : List ℕ) (j : json.Json) (d : Data) → of_json j ≡ Some d → Agrees (at_json.get name j) (get name d)
get_agrees name =
    each_kind (λ j d. Agrees (at_json.get name j) (get name d)) refl (λ b. refl) (λ s n e. refl) (λ s. refl) (λ js ds e. refl)
    (λ ms all e. in_object name all (at_json.get_member name ms) (found_in name ms no_members all e))

pub as_str_agrees : (j : json.Json) (d : Data) → of_json j ≡ Some d → at_json.as_str j ≡ as_str d
as_str_agrees = each_kind (λ j d. at_json.as_str j ≡ as_str d) refl (λ b. refl) (λ s n e. refl) (λ s. refl) (λ js ds e. refl) (λ ms all e. refl)

pub as_number_agrees : (j : json.Json) (d : Data) → of_json j ≡ Some d → option_and_then number_of (at_json.as_number j) ≡ as_number d
as_number_agrees = each_kind (λ j d. option_and_then number_of (at_json.as_number j) ≡ as_number d) refl (λ b. refl) (λ s n e. e) (λ s. refl) (λ js ds e. refl) (λ ms all e. refl)

pub as_array_agrees : (j : json.Json) (d : Data) → of_json j ≡ Some d → option_and_then of_items (at_json.as_array j) ≡ as_array d
as_array_agrees = each_kind (λ j d. option_and_then of_items (at_json.as_array j) ≡ as_array d) refl (λ b. refl) (λ s n e. refl) (λ s. refl) (λ js ds e. e) (λ ms all e. refl)

pub as_object_agrees : (j : json.Json) (d : Data) → of_json j ≡ Some d → option_and_then (λ ms. of_members ms no_members) (at_json.as_object j) ≡ as_object d
as_object_agrees =
    each_kind (λ j d. option_and_then (λ ms. of_members ms no_members) (at_json.as_object j) ≡ as_object d) refl (λ b. refl) (λ s n e. refl) (λ s. refl) (λ js ds e. refl) (λ ms all e. e)

item_agrees : (n : ℕ) (js : json.Items) (ds : Items) → of_items js ≡ Some ds → Agrees (at_json.get_item n js) (get_item n ds)
item_agrees n json.no_items ds e = let is : ds ≡ no_items = cc in ap (get_item n) is
item_agrees zero (json.item j js) ds e =
    let cut = then_some (λ d. option_map (item d) (of_items js)) (of_json j) ds e in
    let others = made (item cut.0) (of_items js) ds cut.2 in
    (cut.0, cut.1, ap (get_item zero) others.2)
item_agrees (suc n) (json.item j js) ds e =
    let cut = then_some (λ d. option_map (item d) (of_items js)) (of_json j) ds e in
    let others = made (item cut.0) (of_items js) ds cut.2 in
    rw others.2 (item_agrees n js others.0 others.1)

pub at_agrees : (n : ℕ) (j : json.Json) (d : Data) → of_json j ≡ Some d → Agrees (at_json.at n j) (at n d)
at_agrees n = each_kind (λ j d. Agrees (at_json.at n j) (at n d)) refl (λ b. refl) (λ s k e. refl) (λ s. refl) (λ js ds e. item_agrees n js ds e) (λ ms all e. refl)

-- ---- names

twice : (a b : Bool) → (a || b) ≡ (a || (a || b))
twice true b = refl
twice false b = refl

swap : (a b c : Bool) → (a || (b || c)) ≡ (b || (a || c))
swap true true c = refl
swap true false c = refl
swap false true c = refl
swap false false c = refl

group : (a b c : Bool) → (b || (a || c)) ≡ ((a || b) || c)
group true true c = refl
group true false c = refl
group false b c = refl

module _ (test : List ℕ → Bool) where
  any_put_at : (o : Ordering) (k l : List ℕ) (d e : Data) (ms : Members) → slice_cmp nat_cmp k l ≡ o → list_any test (names_of (put k d ms)) ≡ (test k || list_any test (names_of ms))
      → list_any test (names_of (match_ordering o (member k d (member l e ms)) (member l d ms) (member l e (put k d ms)))) ≡ (test k || (test l || list_any test (names_of ms)))
  any_put_at Less k l d e ms is later = refl
  any_put_at Equal k l d e ms is later =
      let same : k ≡ l = (bytes_eq-Decides k l).0 (sym (is_eq-slice_cmp k l) ∙ ap is_eq is) in
      twice (test l) (list_any test (names_of ms)) ∙ ap (λ n. test n || (test l || list_any test (names_of ms))) (sym same)
  any_put_at Greater k l d e ms is later = ap (λ b. test l || b) later ∙ swap (test l) (test k) (list_any test (names_of ms))

  any_put : (k : List ℕ) (d : Data) (ms : Members) → list_any test (names_of (put k d ms)) ≡ (test k || list_any test (names_of ms))
  any_put k d no_members = refl
  any_put k d (member l e ms) = any_put_at (slice_cmp nat_cmp k l) k l d e ms refl (any_put k d ms)

  -- neither their order nor how often a name comes counts
  any_names : (ms : json.Members) (before all : Members) → of_members ms before ≡ Some all → list_any test (names_of all) ≡ (list_any test (keys ms) || list_any test (names_of before))
  any_names json.no_members before all e = let same : all ≡ before = cc in ap (λ ms. list_any test (names_of ms)) same
  any_names (json.member k j ms) before all e =
      let first = then_some (λ d. of_members ms (put k d before)) (of_json j) all e in
      any_names ms (put k first.0 before) all first.2
      ∙ ap (λ b. list_any test (keys ms) || b) (any_put k first.0 before) ∙ group (test k) (list_any test (keys ms)) (list_any test (names_of before))

  or_none : (b : Bool) → (b || false) ≡ b
  or_none true = refl
  or_none false = refl

  pub any_names_of : (ms : json.Members) (all : Members) → of_members ms no_members ≡ Some all → list_any test (keys ms) ≡ list_any test (names_of all)
  any_names_of ms all e = sym (or_none _) ∙ sym (any_names ms no_members all e)
