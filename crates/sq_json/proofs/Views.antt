-- The data that tokens begin with, whatever the depth at which they are read.
use Rattle.std.proofs.Common.{◌≡◌, ℕ, ◌<◌, ◌≤◌, List, [], ◌∷◌, ◌++◌, length, Bool, Option, Some, None, option_map, option_and_then, unwrap_or, is_some, IsSome, refl, sym, ap, ◌∙◌, subst, arith, length-append, append_assoc, le_refl, MatchOption}
use Rattle.std.specs.List.{list_any}
use Rattle.json.specs.Token.{Token}
use Rattle.json.specs.Json as json
use Rattle.json.specs.Json.{value, after_end_array, read_key}
use Rattle.json.specs.Strict.{keys}
use Rattle.json.specs.Tree.{json_tokens, items_tokens, members_tokens, depth, items_depth, members_depth}
use Rattle.json.specs.Find.{BeginsWith, InItems, InMembers, NextItem, NextMember, Finds}
use Rattle.json.specs.Find as at_json
use Rattle.json.proofs.Grammar.{closed_array, read_key_is, members_no_key}
use Rattle.json.proofs.Found.{items_close, items_go_on, members_close, members_go_on, not_found}
use Rattle.json.proofs.Printed.Trees.{value-json_tokens}
use Rattle.json.proofs.Unique.Spelling.{value-json_tokens_back}
use Rattle.serde_json.specs.Data.{Data, array, object, Items, no_items, item, Members, no_members, put}
use Rattle.serde_json.specs.Read.{number_of, of_json, of_items, of_members}
use Rattle.serde_json.specs.Find.{get, at, as_str, as_number, as_array, as_object}
use Rattle.sq_json.specs.View.{view, items_view, has_any, names_of, names_view, HasData, HasItems, HasNames}
use Rattle.sq_json.proofs.LookUps.{made, then_some, Agrees, get_agrees, at_agrees, as_str_agrees, as_number_agrees, as_array_agrees, as_object_agrees, has_any_kept, any_names_of}

-- ---- a value has more tokens than levels

mutual
  depth_at_most : (j : json.Json) → depth j < length (json_tokens j)
  depth_at_most json.null = omega arith
  depth_at_most (json.boolean b) = omega arith
  depth_at_most (json.number s) = omega arith
  depth_at_most (json.string s) = omega arith
  depth_at_most (json.array js) = omega (arith, items_depth_at_most js)
  depth_at_most (json.object ms) = omega (arith, members_depth_at_most ms)

  items_depth_at_most : (js : json.Items) → items_depth js < length (items_tokens js)
  items_depth_at_most json.no_items = omega arith
  items_depth_at_most (json.item j js) = omega (arith, depth_at_most j, items_depth_at_most js, length-append (json_tokens j) (items_tokens js))

  members_depth_at_most : (ms : json.Members) → members_depth ms < length (members_tokens ms)
  members_depth_at_most json.no_members = omega arith
  members_depth_at_most (json.member k j ms) = omega (arith, depth_at_most j, members_depth_at_most ms, length-append (json_tokens j) (members_tokens ms))

-- ---- values

spelled : (ts : List Token) (j : json.Json) (h : BeginsWith ts j) → ts ≡ json_tokens j ++ h.1
spelled ts j h = value-json_tokens_back h.0 ts h.1 j h.2

read_at_length : (ts : List Token) (j : json.Json) (h : BeginsWith ts j) → value (length ts) ts ≡ Some (j, h.1)
read_at_length ts j h =
    let is = spelled ts j h in
    let enough : depth j ≤ length ts = omega (arith, ap length is, length-append (json_tokens j) h.1, depth_at_most j) in
    ap (value (length ts)) is ∙ value-json_tokens j (length ts) h.1 enough

pub view_is : (ts : List Token) (j : json.Json) (d : Data) → BeginsWith ts j → of_json j ≡ Some d → view ts ≡ d
unfolding view
view_is ts j d h e = rw (read_at_length ts j h, e)

pub some_data : {A : Type 0} (o : Option A) → IsSome o → (a : A) × (o ≡ Some a)
some_data None h = absurd (cc)
some_data (Some a) h = (a, refl)

-- ---- items

-- they are their own tokens
spelled_end : (ts : List Token) (o : Option (List Token)) → after_end_array ts ≡ o → InItems ts json.no_items → (rest : List Token) × (ts ≡ items_tokens json.no_items ++ rest)
spelled_end ts None e h = let f = items_go_on ts json.no_items e h in absurd (no_end f.1 f.3 f.5)
  where
    no_end : (j : json.Json) (js : json.Items) → json.no_items ≡ json.item j js → ⊥
    no_end j js e = cc
spelled_end ts (Some r) e h = (r, closed_array ts r e)

abbrev Spelled : json.Items → Type 0
Spelled js = (ts : List Token) → InItems ts js → (rest : List Token) × (ts ≡ items_tokens js ++ rest)

spelled_more : (j : json.Json) (js : json.Items) (ts : List Token) (o : Option (List Token)) → after_end_array ts ≡ o → Spelled js → InItems ts (json.item j js)
    → (rest : List Token) × (ts ≡ items_tokens (json.item j js) ++ rest)
spelled_more j js ts None e again h =
    let f = items_go_on ts (json.item j js) e h in
    let same_item : f.1 ≡ j = cc in
    let same_rest : f.3 ≡ js = cc in
    let more = again f.2 (subst (InItems f.2) same_rest f.6) in
    (more.0, value-json_tokens_back f.0 ts f.2 f.1 f.4 ∙ ap (λ i. json_tokens i ++ f.2) same_item ∙ ap (λ l. json_tokens j ++ l) more.1 ∙ sym (append_assoc (json_tokens j) (items_tokens js) more.0))
spelled_more j js ts (Some r) e again h =
    let closed = items_close r (json.item j js) (subst (λ l. InItems l (json.item j js)) (closed_array ts r e) h) in
    absurd (cc)

items_spelled : (js : json.Items) → Spelled js
items_spelled json.no_items ts h = spelled_end ts (after_end_array ts) refl h
items_spelled (json.item j js) ts h = spelled_more j js ts (after_end_array ts) refl (items_spelled js) h

in_array : (ts : List Token) (js : json.Items) → InItems ts js → BeginsWith (Token.begin_array ∷ ts) (json.array js)
in_array ts js h =
    let s = items_spelled js ts h in
    let d = depth (json.array js) in
    (d, s.0, ap (λ l. value d (Token.begin_array ∷ l)) s.1 ∙ value-json_tokens (json.array js) d s.0 (le_refl d))

pub items_view_is : (ts : List Token) (js : json.Items) (ds : Items) → InItems ts js → of_items js ≡ Some ds → items_view ts ≡ ds
unfolding items_view
items_view_is ts js ds h e = ap (λ d. unwrap_or (as_array d) no_items) (view_is (Token.begin_array ∷ ts) (json.array js) (array ds) (in_array ts js h) (ap (option_map array) e))

-- ---- what a look-up in tokens tells of their data

agree : (r : Option (List Token)) (o : Option json.Json) (p : Option Data) → Finds r o → Agrees o p → option_map view r ≡ p
agree None o p finds h = sym (subst (λ o. Agrees o p) finds h)
agree (Some ts) o p finds h =
    let d = subst (λ o. Agrees o p) finds.1 h in
    ap Some (view_is ts finds.0 d.0 finds.2 d.1) ∙ sym d.2

-- A look that finds a value in a value.
module _ (f : json.Json → Option json.Json) (g : Data → Option Data) (agrees : (j : json.Json) (d : Data) → of_json j ≡ Some d → Agrees (f j) (g d)) where
  pub found_view : (ts : List Token) (r : Option (List Token)) → HasData ts → ((j : json.Json) → BeginsWith ts j → Finds r (f j)) → option_map view r ≡ g (view ts)
  found_view ts r h finds =
      let d = some_data (of_json h.0) h.2 in
      agree r (f h.0) (g d.0) (finds h.0 h.1) (agrees h.0 d.0 d.1) ∙ ap g (sym (view_is ts h.0 d.0 h.1 d.1))

  -- what was found has data
  pub found_HasData : (ts found : List Token) → HasData ts → ((j : json.Json) → BeginsWith ts j → Finds (Some found) (f j)) → HasData found
  found_HasData ts found h finds =
      let d = some_data (of_json h.0) h.2 in
      let found_at = finds h.0 h.1 in
      let e = subst (λ o. Agrees o (g d.0)) found_at.1 (agrees h.0 d.0 d.1) in
      (found_at.0, found_at.2, subst IsSome (sym e.1) refl)

pub get_view : (name : List ℕ) (ts : List Token) (r : Option (List Token)) → HasData ts → ((j : json.Json) → BeginsWith ts j → Finds r (at_json.get name j)) → option_map view r ≡ get name (view ts)
get_view name = found_view (at_json.get name) (get name) (get_agrees name)

pub get_HasData : (name : List ℕ) (ts found : List Token) → HasData ts → ((j : json.Json) → BeginsWith ts j → Finds (Some found) (at_json.get name j)) → HasData found
get_HasData name = found_HasData (at_json.get name) (get name) (get_agrees name)

pub at_view : (n : ℕ) (ts : List Token) (r : Option (List Token)) → HasData ts → ((j : json.Json) → BeginsWith ts j → Finds r (at_json.at n j)) → option_map view r ≡ at n (view ts)
at_view n = found_view (at_json.at n) (at n) (at_agrees n)

pub at_HasData : (n : ℕ) (ts found : List Token) → HasData ts → ((j : json.Json) → BeginsWith ts j → Finds (Some found) (at_json.at n j)) → HasData found
at_HasData n = found_HasData (at_json.at n) (at n) (at_agrees n)

-- a look that is made at the value that the tokens begin with
pub of_view : {A : Type 0} (f : json.Json → A) (g : Data → A) → ((j : json.Json) (d : Data) → of_json j ≡ Some d → f j ≡ g d) → (ts : List Token) (r : A) → HasData ts → ((j : json.Json) → BeginsWith ts j → r ≡ f j) → r ≡ g (view ts)
of_view f g both ts r h is =
    let d = some_data (of_json h.0) h.2 in
    is h.0 h.1 ∙ both h.0 d.0 d.1 ∙ ap g (sym (view_is ts h.0 d.0 h.1 d.1))

pub as_str_view : (ts : List Token) (r : Option (List ℕ)) → HasData ts → ((j : json.Json) → BeginsWith ts j → r ≡ at_json.as_str j) → r ≡ as_str (view ts)
as_str_view = of_view at_json.as_str as_str as_str_agrees

pub as_number_view : (ts : List Token) (r : Option (List ℕ)) → HasData ts → ((j : json.Json) → BeginsWith ts j → r ≡ at_json.as_number j) → option_and_then number_of r ≡ as_number (view ts)
as_number_view ts r h is = of_view (λ j. option_and_then number_of (at_json.as_number j)) as_number as_number_agrees ts (option_and_then number_of r) h (λ j begins. ap (option_and_then number_of) (is j begins))

-- what is known of the items that an array begins with
abbrev pub ItemsOf : Option (List Token) → json.Json → Type 0
ItemsOf r j = MatchOption r (at_json.as_array j ≡ None) (λ rest. (js : json.Items) × (j ≡ json.array js) × InItems rest js)

abbrev pub MembersOf : Option (List Token) → json.Json → Type 0
MembersOf r j = MatchOption r (at_json.as_object j ≡ None) (λ rest. (ms : json.Members) × (j ≡ json.object ms) × InMembers rest ms)

pub items_HasItems : (ts rest : List Token) → HasData ts → ((j : json.Json) → BeginsWith ts j → ItemsOf (Some rest) j) → HasItems rest
items_HasItems ts rest h is =
    let d = some_data (of_json h.0) h.2 in
    let i = is h.0 h.1 in
    let made_of = made array (of_items i.0) d.0 (ap of_json (sym i.1) ∙ d.1) in
    (i.0, i.2, subst IsSome (sym made_of.1) refl)

pub items_view_of : (ts : List Token) (r : Option (List Token)) → HasData ts → ((j : json.Json) → BeginsWith ts j → ItemsOf r j) → option_map items_view r ≡ as_array (view ts)
items_view_of ts None h is =
    let d = some_data (of_json h.0) h.2 in
    ap (option_and_then of_items) (sym (is h.0 h.1)) ∙ as_array_agrees h.0 d.0 d.1 ∙ ap as_array (sym (view_is ts h.0 d.0 h.1 d.1))
items_view_of ts (Some rest) h is =
    let d = some_data (of_json h.0) h.2 in
    let i = is h.0 h.1 in
    let made_of = made array (of_items i.0) d.0 (ap of_json (sym i.1) ∙ d.1) in
    ap Some (items_view_is rest i.0 made_of.0 i.2 made_of.1) ∙ ap as_array (sym made_of.2) ∙ ap as_array (sym (view_is ts h.0 d.0 h.1 d.1))

-- ---- a turn of the items

abbrev FirstHere : List Token → List Token → List Token → Type 0
FirstHere old ts new = (j : json.Json) × (d : Data) × (ds : Items) × (js : json.Items) × BeginsWith ts j × (of_json j ≡ Some d) × InItems new js × (of_items js ≡ Some ds) × (items_view old ≡ item d ds)

first_here : (old ts new : List Token) → HasItems old → NextItem old (Some ts) new → FirstHere old ts new
first_here old ts new h next =
    let all = some_data (of_items h.0) h.2 in
    let f = next h.0 h.1 in
    let cut = then_some (λ d. option_map (item d) (of_items f.1)) (of_json f.0) all.0 (ap of_items (sym f.2) ∙ all.1) in
    let others = made (item cut.0) (of_items f.1) all.0 cut.2 in
    (f.0, cut.0, others.0, f.1, f.3, cut.1, f.4, others.1, items_view_is old h.0 all.0 h.1 all.1 ∙ others.2)

pub next_HasData : (old ts new : List Token) → HasItems old → NextItem old (Some ts) new → HasData ts
next_HasData old ts new h next = let f = first_here old ts new h next in (f.0, f.4, subst IsSome (sym f.5) refl)

pub next_HasItems : (old ts new : List Token) → HasItems old → NextItem old (Some ts) new → HasItems new
next_HasItems old ts new h next = let f = first_here old ts new h next in (f.3, f.6, subst IsSome (sym f.7) refl)

pub next_view : (old new : List Token) (r : Option (List Token)) → HasItems old → NextItem old r new → MatchOption r (items_view old ≡ no_items) (λ ts. items_view old ≡ item (view ts) (items_view new))
next_view old new None h next =
    let all = some_data (of_items h.0) h.2 in
    let none : all.0 ≡ no_items = let e = ap of_items (sym (next h.0 h.1)) ∙ all.1 in cc in
    items_view_is old h.0 all.0 h.1 all.1 ∙ none
next_view old new (Some ts) h next =
    let f = first_here old ts new h next in
    f.8 ∙ ap (λ d. item d f.2) (sym (view_is ts f.0 f.1 f.4 f.5)) ∙ ap (item (view ts)) (sym (items_view_is new f.3 f.2 f.6 f.7))

-- ---- objects

pub members_view_of : (ts : List Token) (r : Option (List Token)) → HasData ts → ((j : json.Json) → BeginsWith ts j → MembersOf r j) → is_some r ≡ is_some (as_object (view ts))
members_view_of ts None h is =
    let d = some_data (of_json h.0) h.2 in
    ap (λ o. is_some (option_and_then (λ ms. of_members ms no_members) o)) (sym (is h.0 h.1)) ∙ ap is_some (as_object_agrees h.0 d.0 d.1) ∙ ap (λ d. is_some (as_object d)) (sym (view_is ts h.0 d.0 h.1 d.1))
members_view_of ts (Some rest) h is =
    let d = some_data (of_json h.0) h.2 in
    let i = is h.0 h.1 in
    let made_of = made object (of_members i.0 no_members) d.0 (ap of_json (sym i.1) ∙ d.1) in
    ap (λ d. is_some (as_object d)) (sym made_of.2) ∙ ap (λ d. is_some (as_object d)) (sym (view_is ts h.0 d.0 h.1 d.1))

pub no_object : (ts : List Token) → HasData ts → ((j : json.Json) → BeginsWith ts j → MembersOf None j) → None ≡ as_object (view ts)
no_object ts h is =
    let d = some_data (of_json h.0) h.2 in
    ap (option_and_then (λ ms. of_members ms no_members)) (sym (is h.0 h.1)) ∙ as_object_agrees h.0 d.0 d.1 ∙ ap as_object (sym (view_is ts h.0 d.0 h.1 d.1))

pub any_members : (ts inside new : List Token) (r : Option (List ℕ × List Token)) → HasData ts → ((j : json.Json) → BeginsWith ts j → MembersOf (Some inside) j) → NextMember inside r new
    → Some (is_some r) ≡ option_map has_any (as_object (view ts))
any_members ts inside new r h is next =
    let d = some_data (of_json h.0) h.2 in
    let i = is h.0 h.1 in
    let made_of = made object (of_members i.0 no_members) d.0 (ap of_json (sym i.1) ∙ d.1) in
    ap Some (any_here r i.0 made_of.0 made_of.1 (next i.0 i.2)) ∙ ap (λ d. option_map has_any (as_object d)) (sym made_of.2) ∙ ap (λ d. option_map has_any (as_object d)) (sym (view_is ts h.0 d.0 h.1 d.1))
  where
    any_here : (r : Option (List ℕ × List Token)) (ms : json.Members) (all : Members) → of_members ms no_members ≡ Some all
        → MatchOption r (ms ≡ json.no_members) (λ m. (j : json.Json) × (rest : json.Members) × (ms ≡ json.member m.0 j rest) × BeginsWith m.1 j × InMembers new rest) → is_some r ≡ has_any all
    any_here None ms all e none = let same : Some no_members ≡ Some all = ap (λ ms. of_members ms no_members) (sym none) ∙ e in let is : no_members ≡ all = cc in ap has_any is
    any_here (Some m) ms all e f =
        let cut = then_some (λ d. of_members f.1 (put m.0 d no_members)) (of_json f.0) all (ap (λ ms. of_members ms no_members) (sym f.2) ∙ e) in
        sym (has_any_kept f.1 (put m.0 cut.0 no_members) all refl cut.2)

pub is_some-map : {A B : Type 0} (f : A → B) (o : Option A) → is_some o ≡ is_some (option_map f o)
is_some-map f None = refl
is_some-map f (Some a) = refl

-- ---- names

members_end_here : (ts : List Token) (ms : json.Members) (s : List Token) → read_key ts ≡ Some (None, s) → InMembers ts ms → ms ≡ json.no_members
members_end_here ts ms s e h = members_close Token.end_object s ms (λ k. k) (subst (λ l. InMembers l ms) (read_key_is ts None s e) h)

no_key_here : (ts : List Token) (ms : json.Members) → read_key ts ≡ None → InMembers ts ms → ⊥
no_key_here ts ms e h = let none = members_no_key (value h.0) h.1 ts e in not_found (ms, h.2) (sym none ∙ h.3)

abbrev SpelledMembers : json.Members → Type 0
SpelledMembers ms = (ts : List Token) → InMembers ts ms → (rest : List Token) × (ts ≡ members_tokens ms ++ rest)

spelled_close : (ts : List Token) (o : Option (Option (List ℕ) × List Token)) → read_key ts ≡ o → InMembers ts json.no_members → (rest : List Token) × (ts ≡ members_tokens json.no_members ++ rest)
spelled_close ts None e h = absurd (no_key_here ts json.no_members e h)
spelled_close ts (Some (None, s)) e h = (s, read_key_is ts None s e)
spelled_close ts (Some (Some k, s)) e h =
    let f = members_go_on k s json.no_members (subst (λ l. InMembers l json.no_members) (read_key_is ts (Some k) s e) h) in
    absurd (no_end k f.1 f.3 f.5)
  where
    no_end : (k : List ℕ) (j : json.Json) (ms : json.Members) → json.no_members ≡ json.member k j ms → ⊥
    no_end k j ms e = cc

spelled_member : (n : List ℕ) (j : json.Json) (ms : json.Members) (ts : List Token) (o : Option (Option (List ℕ) × List Token)) → read_key ts ≡ o → SpelledMembers ms → InMembers ts (json.member n j ms)
    → (rest : List Token) × (ts ≡ members_tokens (json.member n j ms) ++ rest)
spelled_member n j ms ts None e again h = absurd (no_key_here ts (json.member n j ms) e h)
spelled_member n j ms ts (Some (None, s)) e again h = let closed = members_end_here ts (json.member n j ms) s e h in absurd (cc)
spelled_member n j ms ts (Some (Some k, s)) e again h =
    let f = members_go_on k s (json.member n j ms) (subst (λ l. InMembers l (json.member n j ms)) (read_key_is ts (Some k) s e) h) in
    let same_name : k ≡ n = cc in
    let same_member : f.1 ≡ j = cc in
    let same_rest : f.3 ≡ ms = cc in
    let more = again f.2 (subst (InMembers f.2) same_rest f.6) in
    let value_spelled = value-json_tokens_back f.0 s f.2 f.1 f.4 ∙ ap (λ i. json_tokens i ++ f.2) same_member ∙ ap (λ l. json_tokens j ++ l) more.1 ∙ sym (append_assoc (json_tokens j) (members_tokens ms) more.0) in
    (more.0, read_key_is ts (Some k) s e ∙ ap (λ l. Token.key k ∷ l) value_spelled ∙ ap (λ name. Token.key name ∷ ((json_tokens j ++ members_tokens ms) ++ more.0)) same_name)

members_spelled : (ms : json.Members) → SpelledMembers ms
members_spelled json.no_members ts h = spelled_close ts (read_key ts) refl h
members_spelled (json.member k j ms) ts h = spelled_member k j ms ts (read_key ts) refl (members_spelled ms) h

in_object : (ts : List Token) (ms : json.Members) → InMembers ts ms → BeginsWith (Token.begin_object ∷ ts) (json.object ms)
in_object ts ms h =
    let s = members_spelled ms ts h in
    let d = depth (json.object ms) in
    (d, s.0, ap (λ l. value d (Token.begin_object ∷ l)) s.1 ∙ value-json_tokens (json.object ms) d s.0 (le_refl d))

names_view_is : (ts : List Token) (ms : json.Members) → InMembers ts ms → names_view ts ≡ keys ms
unfolding names_view
names_view_is ts ms h = rw (read_at_length (Token.begin_object ∷ ts) (json.object ms) (in_object ts ms h)) refl

pub members_HasNames : (ts rest : List Token) → HasData ts → ((j : json.Json) → BeginsWith ts j → MembersOf (Some rest) j) → HasNames rest
members_HasNames ts rest h is = let i = is h.0 h.1 in (i.0, i.2)

pub names_of_view : (test : List ℕ → Bool) (ts : List Token) (r : Option (List Token)) → HasData ts → ((j : json.Json) → BeginsWith ts j → MembersOf r j)
    → option_map (λ names. list_any test (names_view names)) r ≡ option_map (λ ms. list_any test (names_of ms)) (as_object (view ts))
names_of_view test ts None h is = ap (option_map (λ ms. list_any test (names_of ms))) (no_object ts h is)
names_of_view test ts (Some rest) h is =
    let d = some_data (of_json h.0) h.2 in
    let i = is h.0 h.1 in
    let made_of = made object (of_members i.0 no_members) d.0 (ap of_json (sym i.1) ∙ d.1) in
    ap (λ names. Some (list_any test names)) (names_view_is rest i.0 i.2) ∙ ap Some (any_names_of test i.0 made_of.0 made_of.1)
    ∙ ap (λ d. option_map (λ ms. list_any test (names_of ms)) (as_object d)) (sym made_of.2 ∙ sym (view_is ts h.0 d.0 h.1 d.1))

pub next_HasNames : (old new : List Token) (m : List ℕ × List Token) → HasNames old → NextMember old (Some m) new → HasNames new
next_HasNames old new m h next = let f = next h.0 h.1 in (f.1, f.4)

pub next_name : (old new : List Token) (r : Option (List ℕ × List Token)) → HasNames old → NextMember old r new
    → MatchOption r (names_view old ≡ []) (λ m. names_view old ≡ m.0 ∷ names_view new)
next_name old new None h next = names_view_is old h.0 h.1 ∙ ap keys (next h.0 h.1)
next_name old new (Some m) h next =
    let f = next h.0 h.1 in
    names_view_is old h.0 h.1 ∙ ap keys f.2 ∙ ap (λ l. m.0 ∷ l) (sym (names_view_is new f.1 f.4))
