-- The rows of a home, found by serial and by age.
use Rattle.std.proofs.Common.{◌≡◌, ◌≢◌, ℕ, ◌+◌, ◌<◌, Bool, true, false, not, cond, List, [], ◌∷◌, ◌++◌, map, take, get_or, length, refl, arith, ap, sym, ◌∙◌, subst, inl, inr, Option, Some, None, append_assoc}
use Rattle.std.specs.Prelude.{◌⊎◌, ◌==◌, ◌||◌, ◌&&◌, nat_lt, filter, if◌then◌else◌, is_some, option_to_list}
use Rattle.std.specs.List.{fold, list_any, All, AllByRecursion}
use Rattle.std.specs.List.Sorted.{IsStrictlySortedBy}
use Rattle.std.specs.Map.{keys_of, values_of, lookup, remove_entry, set_value}
use Rattle.std.specs.Ordering.{nat_cmp, is_eq, ordering_then, match_ordering}
use Rattle.std.specs.declared.cmp.Ordering.TheVariants.{Less, Equal, Greater}
use Rattle.std.specs.BTreeMap.{is_at, insert_entry}
use Rattle.std.proofs.lemmas.Bool.{eqb-true}
use Rattle.std.proofs.lemmas.Bool.Decides.{eqb_tells}
use Rattle.std.proofs.lemmas.Grind.{common_steps}
use Rattle.std.proofs.lemmas.List.Elements.{All-head, All-tail}
use Rattle.std.proofs.lemmas.List.{append-nil}
use Rattle.std.proofs.lemmas.List.Sums.{fold-append}
use Rattle.std.proofs.lemmas.List.Folds.{list_any_more}
use Rattle.std.proofs.lemmas.Map.Keys.{sorted_head, sorted_tail}
use Rattle.sq_base.specs.declared.message_id.MessageId.{MessageId}
use Rattle.sq_base.specs.declared.row.Row.{Row}
use Rattle.sq_model.specs.declared.calls.Receipt.{Receipt}
use Rattle.sq_model.specs.declared.place.Place.{Place}
use Rattle.sq_model.specs.declared.place.Place.TheVariants as at
use Rattle.sq_model.specs.Lineages.{same_id}
use Rattle.sq_places.specs.declared.state.RowState.{RowState}
use Rattle.sq_places.specs.inside.RowStates.{is_past_retention, is_past, is_state_named, is_state_of, state_received, raised, looked, has_serial_of}
use Rattle.sq_places.specs.inside.RowIndexes.{age_cmp, age_of, HaveAges, AreIndexed}
use Rattle.sq_places.specs.inside.Audits.{taken, put, placed, AreSameEnds}
use Rattle.sq_places.specs.inside.AllPlaces.{after_move}

-- ---- keys

at_eq : (k q : ℕ) → is_at (nat_cmp k) q ≡ (q == k)
at_eq k q = grind (arith, common_steps)

-- whether a key is this one
at_tells : (k q : ℕ) → ((is_at (nat_cmp k) q ≡ true) × (k ≡ q)) ⊎ ((is_at (nat_cmp k) q ≡ false) × (k ≢ q))
at_tells k q = elim (eqb_tells q k) [ inl p ↦ inl (at_eq k q ∙ p.0, sym p.1) | inr p ↦ inr (at_eq k q ∙ p.0, λ e. p.1 (sym e)) ]

equal_is : (a b : ℕ) → nat_cmp a b ≡ Equal → a ≡ b
equal_is a b h = elim (at_tells a b) [ inl p ↦ p.1 | inr p ↦ (let e : true ≡ false = ap is_eq (sym h) ∙ p.0 in absurd cc) ]

less_is : (a b : ℕ) → nat_cmp a b ≡ Less → a < b
less_is a b h = grind (arith, common_steps, h)

-- these keys are higher
abbrev Above : ℕ → List (ℕ × RowState) → Type 0
Above k [] = Unit {0}
Above k (e ∷ es) = (k < e.0) × Above k es

above_all : (k : ℕ) (es : List (ℕ × RowState)) → AllByRecursion (λ q. nat_cmp k q ≡ Less) (keys_of es) → Above k es
above_all k [] h = tt
above_all k (e ∷ es) h = (less_is k e.0 h.0, above_all k es h.1)

above_head : (e : ℕ × RowState) (es : List (ℕ × RowState)) → IsStrictlySortedBy nat_cmp (keys_of (e ∷ es)) → Above e.0 es
above_head e es h = above_all e.0 es (sorted_head nat_cmp e.0 (keys_of es) h)

-- ---- a row is taken out

abbrev Rows : Type 0
Rows = List (ℕ × RowState)

-- what stays where the row of a serial leaves if it passes
abbrev pub left_of : (RowState → Bool) → ℕ → Rows → Rows
left_of p k es = if is_some (taken p (lookup (is_at (nat_cmp k)) es)) then remove_entry (is_at (nat_cmp k)) es else es

none_later : (p : RowState → Bool) (k : ℕ) → ((row : RowState) → p row ≡ true → row.serial ≡ k) → (ages : List (ℕ × ℕ)) (es : Rows) → HaveAges ages es → Above k es
    → (filter (λ row. not (p row)) (values_of es) ≡ values_of es) × (filter p (values_of es) ≡ [])
none_later p k only ages [] h a = (refl, refl)
none_later p k only ages (e ∷ es) h a =
    let rest = none_later p k only ages es h.2 a.1 in
    elim (p e.1) as (λ b. p e.1 ≡ b → (cond (not b) (e.1 ∷ filter (λ row. not (p row)) (values_of es)) (filter (λ row. not (p row)) (values_of es)) ≡ e.1 ∷ values_of es) × (cond b (e.1 ∷ filter p (values_of es)) (filter p (values_of es)) ≡ [])) [
      | true ↦ (λ q. absurd (omega (arith, only e.1 q, h.0, a.0)))
      | false ↦ (λ q. (ap (λ (rows : List RowState). e.1 ∷ rows) rest.0, rest.1))
    ] refl

abbrev Taken : (RowState → Bool) → ℕ → Rows → Type 0
Taken p k es = (values_of (left_of p k es) ≡ filter (λ row. not (p row)) (values_of es)) × (option_to_list (taken p (lookup (is_at (nat_cmp k)) es)) ≡ filter p (values_of es))

-- where the first row stands at the serial, or does not
abbrev TakenAt : (RowState → Bool) → ℕ → ℕ × RowState → Rows → Bool → Bool → Type 0
TakenAt p k e es at b =
    (values_of (if is_some (taken p (cond at (Some e.1) (lookup (is_at (nat_cmp k)) es))) then cond at es (e ∷ remove_entry (is_at (nat_cmp k)) es) else e ∷ es)
    ≡ cond (not b) (e.1 ∷ filter (λ row. not (p row)) (values_of es)) (filter (λ row. not (p row)) (values_of es)))
    × (option_to_list (taken p (cond at (Some e.1) (lookup (is_at (nat_cmp k)) es))) ≡ cond b (e.1 ∷ filter p (values_of es)) (filter p (values_of es)))

take_here : (p : RowState → Bool) (k : ℕ) (e : ℕ × RowState) (es : Rows) → filter (λ row. not (p row)) (values_of es) ≡ values_of es → filter p (values_of es) ≡ [] → TakenAt p k e es true (p e.1)
take_here p k e es kept none =
    elim (p e.1) as (λ b. (values_of (if is_some (if b then Some e.1 else None) then es else e ∷ es) ≡ cond (not b) (e.1 ∷ filter (λ row. not (p row)) (values_of es)) (filter (λ row. not (p row)) (values_of es)))
    × (option_to_list (if b then Some e.1 else None) ≡ cond b (e.1 ∷ filter p (values_of es)) (filter p (values_of es)))) [
      | true ↦ (sym kept, ap (λ (rows : List RowState). e.1 ∷ rows) (sym none))
      | false ↦ (ap (λ (rows : List RowState). e.1 ∷ rows) (sym kept), sym none)
    ]

take_there : (p : RowState → Bool) (k : ℕ) (e : ℕ × RowState) (es : Rows) → Taken p k es → TakenAt p k e es false false
take_there p k e es rest = (
  elim (is_some (taken p (lookup (is_at (nat_cmp k)) es))) as (λ b. values_of (if b then remove_entry (is_at (nat_cmp k)) es else es) ≡ filter (λ row. not (p row)) (values_of es)
      → values_of (if b then e ∷ remove_entry (is_at (nat_cmp k)) es else e ∷ es) ≡ e.1 ∷ filter (λ row. not (p row)) (values_of es)) [
        | true ↦ ap (λ (rows : List RowState). e.1 ∷ rows)
        | false ↦ ap (λ (rows : List RowState). e.1 ∷ rows)
      ] rest.0,
  rest.1,
)

-- only the row of this serial may pass
pub take_law : (p : RowState → Bool) (k : ℕ) → ((row : RowState) → p row ≡ true → row.serial ≡ k) → (ages : List (ℕ × ℕ)) (es : Rows) → IsStrictlySortedBy nat_cmp (keys_of es) → HaveAges ages es → Taken p k es
take_law p k only ages [] s h = (refl, refl)
take_law p k only ages (e ∷ es) s h =
    elim (at_tells k e.0) as (λ _. Taken p k (e ∷ es)) [
      | inl same ↦ (
          let later = none_later p k only ages es h.2 (subst (λ (n : ℕ). Above n es) (sym same.1) (above_head e es s)) in
          subst (λ (at : Bool). TakenAt p k e es at (p e.1)) (sym same.0) (take_here p k e es later.0 later.1))
      | inr other ↦ (
          let out : p e.1 ≡ false = elim (p e.1) as (λ b. p e.1 ≡ b → b ≡ false) [ true ↦ (λ q. absurd (other.1 (sym (h.0 ∙ only e.1 q)))) | false ↦ (λ q. refl) ] refl in
          let rest = take_law p k only ages es (sorted_tail nat_cmp e.0 (keys_of es) s) h.2 in
          subst (λ (at : Bool). TakenAt p k e es at (p e.1)) (sym other.0) (subst (λ (b : Bool). TakenAt p k e es false b) (sym out) (take_there p k e es rest)))
    ]

removed_ages : (test : ℕ → Bool) (ages : List (ℕ × ℕ)) (es : Rows) → HaveAges ages es → HaveAges ages (remove_entry test es)
removed_ages test ages [] h = tt
removed_ages test ages (e ∷ es) h = elim (test e.0) as (λ b. HaveAges ages (cond b es (e ∷ remove_entry test es))) [ true ↦ h.2 | false ↦ (h.0, h.1, removed_ages test ages es h.2) ]

pub left_ages : (p : RowState → Bool) (k : ℕ) (ages : List (ℕ × ℕ)) (es : Rows) → HaveAges ages es → HaveAges ages (left_of p k es)
left_ages p k ages es h = elim (is_some (taken p (lookup (is_at (nat_cmp k)) es))) as (λ b. HaveAges ages (if b then remove_entry (is_at (nat_cmp k)) es else es)) [ true ↦ removed_ages (is_at (nat_cmp k)) ages es h | false ↦ h ]

named_serial : (a b c : Bool) → (a && b && c) ≡ true → b ≡ true
named_serial true true c h = refl
named_serial true false c h = absurd cc
named_serial false b c h = absurd cc

pub only_named : (receipt : Receipt) (row : RowState) → is_state_named receipt row ≡ true → row.serial ≡ receipt.serial
only_named receipt row h = eqb-true _ _ (named_serial (row.slot == receipt.slot) (row.serial == receipt.serial) (row.receives == receipt.receive) h)

second : (a b : Bool) → (a && b) ≡ true → b ≡ true
second true b h = h
second false b h = absurd cc

pub only_of : (row : Row) (state : RowState) → is_state_of row state ≡ true → state.serial ≡ row.serial
only_of row state h = eqb-true _ _ (second (state.slot == row.slot) (state.serial == row.serial) h)

-- ---- a row is put in

pub added : (b c : Bool) → c ≡ true → cond b true c ≡ true
added true c h = refl
added false c h = h

pub put_law : (ages : List (ℕ × ℕ)) (es : Rows) (row : RowState) → HaveAges ages es → values_of (insert_entry nat_cmp es row.serial row) ≡ put row (values_of es)
put_law ages [] row h = refl
put_law ages (e ∷ es) row h =
    let rest = put_law ages es row h.2 in
    subst (λ (n : ℕ). values_of (match_ordering (nat_cmp row.serial n) ((row.serial, row) ∷ e ∷ es) ((e.0, row) ∷ es) (e ∷ insert_entry nat_cmp es row.serial row)) ≡ put row (values_of (e ∷ es))) (sym h.0)
    (elim (nat_cmp row.serial e.1.serial) as (λ o. values_of (match_ordering o ((row.serial, row) ∷ e ∷ es) ((e.0, row) ∷ es) (e ∷ insert_entry nat_cmp es row.serial row)) ≡ match_ordering o (row ∷ e.1 ∷ values_of es) (row ∷ values_of es) (e.1 ∷ put row (values_of es)))
    [ Less ↦ refl | Equal ↦ refl | Greater ↦ ap (λ (rows : List RowState). e.1 ∷ rows) rest ])

-- more ages
pub more_ages : (ages now : List (ℕ × ℕ)) → ((a : ℕ × ℕ) → list_any (is_at (age_cmp a)) ages ≡ true → list_any (is_at (age_cmp a)) now ≡ true) → (es : Rows) → HaveAges ages es → HaveAges now es
more_ages ages now more [] h = tt
more_ages ages now more (e ∷ es) h = (h.0, more (age_of e.1) h.1, more_ages ages now more es h.2)

pub put_ages : (ages : List (ℕ × ℕ)) (es : Rows) (row : RowState) → list_any (is_at (age_cmp (age_of row))) ages ≡ true → HaveAges ages es → HaveAges ages (insert_entry nat_cmp es row.serial row)
put_ages ages [] row age h = (refl, age, tt)
put_ages ages (e ∷ es) row age h =
    elim (nat_cmp row.serial e.0) as (λ o. nat_cmp row.serial e.0 ≡ o → HaveAges ages (match_ordering o ((row.serial, row) ∷ e ∷ es) ((e.0, row) ∷ es) (e ∷ insert_entry nat_cmp es row.serial row))) [
      | Less ↦ (λ q. (refl, age, h))
      | Equal ↦ (λ q. (sym (equal_is row.serial e.0 q), age, h.2))
      | Greater ↦ (λ q. (h.0, h.1, put_ages ages es row age h.2))
    ] refl

-- ---- a row is received

received_age : (row : RowState) → age_of (state_received row) ≡ age_of row
received_age row = elim (nat_lt row.receives 4294967295) as (λ b. age_of (if b then record row { receives = row.receives + 1 } else row) ≡ age_of row) [ true ↦ refl | false ↦ refl ]

raised_other : (k : ℕ) (row : RowState) → k ≢ row.serial → raised k row ≡ row
raised_other k row ne = elim (eqb_tells row.serial k) as (λ _. raised k row ≡ row) [ inl p ↦ absurd (ne (sym p.1)) | inr p ↦ ap (λ (b : Bool). if b then state_received row else row) p.0 ]

raised_this : (k : ℕ) (row : RowState) → k ≡ row.serial → raised k row ≡ state_received row
raised_this k row e = elim (eqb_tells row.serial k) as (λ _. raised k row ≡ state_received row) [ inl p ↦ ap (λ (b : Bool). if b then state_received row else row) p.0 | inr p ↦ absurd (p.1 (sym e)) ]

raised_later : (k : ℕ) (ages : List (ℕ × ℕ)) (es : Rows) → HaveAges ages es → Above k es → map (raised k) (values_of es) ≡ values_of es
raised_later k ages [] h a = refl
raised_later k ages (e ∷ es) h a =
    ap (λ (row : RowState). row ∷ map (raised k) (values_of es)) (raised_other k e.1 (λ q. omega (arith, q, h.0, a.0))) ∙ ap (λ (rows : List RowState). e.1 ∷ rows) (raised_later k ages es h.2 a.1)

-- what a look-up of the serial says of the rows after, where a row is written in its place
abbrev pub Raises : ℕ → Rows → (RowState → Rows) → Option RowState → Type 0
Raises k es written None = values_of es ≡ map (raised k) (values_of es)
Raises k es written (Some row) = values_of (written (state_received row)) ≡ map (raised k) (values_of es)

pub raise_law : (k : ℕ) (ages : List (ℕ × ℕ)) (es : Rows) → IsStrictlySortedBy nat_cmp (keys_of es) → HaveAges ages es → Raises k es (set_value (is_at (nat_cmp k)) es) (lookup (is_at (nat_cmp k)) es)
raise_law k ages [] s h = refl
raise_law k ages (e ∷ es) s h =
    let written : RowState → Rows = set_value (is_at (nat_cmp k)) es in
    let found : Option RowState = lookup (is_at (nat_cmp k)) es in
    elim (at_tells k e.0) as (λ _. Raises k (e ∷ es) (set_value (is_at (nat_cmp k)) (e ∷ es)) (lookup (is_at (nat_cmp k)) (e ∷ es))) [
      | inl same ↦ (
          let later = raised_later k ages es h.2 (subst (λ (n : ℕ). Above n es) (sym same.1) (above_head e es s)) in
          subst (λ (at : Bool). Raises k (e ∷ es) (λ row. cond at ((e.0, row) ∷ es) (e ∷ written row)) (cond at (Some e.1) found)) (sym same.0)
          (ap (λ (row : RowState). row ∷ values_of es) (sym (raised_this k e.1 (same.1 ∙ h.0))) ∙ ap (λ (rows : List RowState). raised k e.1 ∷ rows) (sym later)))
      | inr other ↦ (
          let first : raised k e.1 ≡ e.1 = raised_other k e.1 (λ q. other.1 (q ∙ sym h.0)) in
          subst (λ (at : Bool). Raises k (e ∷ es) (λ row. cond at ((e.0, row) ∷ es) (e ∷ written row)) (cond at (Some e.1) found)) (sym other.0)
          (elim found as (λ o. Raises k es written o → Raises k (e ∷ es) (λ row. e ∷ written row) o) [
            | None ↦ (λ q. ap (λ (row : RowState). row ∷ values_of es) (sym first) ∙ ap (λ (rows : List RowState). raised k e.1 ∷ rows) q)
            | Some row ↦ (λ q. ap (λ (r : RowState). r ∷ values_of (written (state_received row))) (sym first) ∙ ap (λ (rows : List RowState). raised k e.1 ∷ rows) q)
          ] (raise_law k ages es (sorted_tail nat_cmp e.0 (keys_of es) s) h.2)))
    ]

pub set_ages : (k : ℕ) (row : RowState) (ages : List (ℕ × ℕ)) (es : Rows) → lookup (is_at (nat_cmp k)) es ≡ Some row → HaveAges ages es → HaveAges ages (set_value (is_at (nat_cmp k)) es (state_received row))
set_ages k row ages [] is h = tt
set_ages k row ages (e ∷ es) is h =
    elim (is_at (nat_cmp k) e.0) as (λ at. cond at (Some e.1) (lookup (is_at (nat_cmp k)) es) ≡ Some row → HaveAges ages (cond at ((e.0, state_received row) ∷ es) (e ∷ set_value (is_at (nat_cmp k)) es (state_received row)))) [
      | true ↦ (λ q.
          let same : e.1 ≡ row = cc in
          let age : age_of e.1 ≡ age_of (state_received row) = ap age_of same ∙ sym (received_age row) in
          (h.0 ∙ ap (λ (a : ℕ × ℕ). a.1) age, subst (λ (a : ℕ × ℕ). list_any (is_at (age_cmp a)) ages ≡ true) age h.1, h.2))
      | false ↦ (λ q. (h.0, h.1, set_ages k row ages es q h.2))
    ] is

-- ---- the look

pub looked_none : (rows : List RowState) → map (looked []) rows ≡ rows
looked_none [] = refl
looked_none (row ∷ rows) = ap (λ (rs : List RowState). row ∷ rs) (looked_none rows)

looked_serial : (picked : List Row) (row : RowState) → (looked picked row).serial ≡ row.serial
looked_serial picked row = elim (has_serial_of row.serial picked) as (λ b. (if b then state_received row else row).serial ≡ row.serial) [ true ↦ ap (λ (a : ℕ × ℕ). a.1) (received_age row) | false ↦ refl ]

looked_same : (few more : List Row) (row : RowState) → has_serial_of row.serial more ≡ has_serial_of row.serial few → looked few row ≡ looked more row
looked_same few more row e = ap (λ (b : Bool). if b then state_received row else row) (sym e)

has_more : (serial : ℕ) (picked : List Row) (i : ℕ) (d : Row) → i < length picked → d ≡ get_or picked i d → has_serial_of serial (take (i + 1) picked) ≡ (has_serial_of serial (take i picked) || (d.serial == serial))
has_more serial picked i d lt is = list_any_more (λ (row : Row). row.serial == serial) picked i d lt ∙ ap (λ (row : Row). has_serial_of serial (take i picked) || (row.serial == serial)) (sym is)

or_false : (b : Bool) → (b || false) ≡ b
or_false true = refl
or_false false = refl

or_true : (b : Bool) → (b || true) ≡ true
or_true true = refl
or_true false = refl

-- one more of the rows that were given
raised_more : (picked : List Row) (i : ℕ) (d : Row) → i < length picked → d ≡ get_or picked i d → has_serial_of d.serial (take i picked) ≡ false → (row : RowState) → raised d.serial (looked (take i picked) row) ≡ looked (take (i + 1) picked) row
raised_more picked i d lt given none row =
    let s : ℕ = d.serial in
    let more = has_more row.serial picked i d lt given in
    elim (eqb_tells s row.serial) as (λ _. raised s (looked (take i picked) row) ≡ looked (take (i + 1) picked) row) [
      | inl same ↦ (
          let out : has_serial_of row.serial (take i picked) ≡ false = subst (λ (n : ℕ). has_serial_of n (take i picked) ≡ false) same.1 none in
          let now : has_serial_of row.serial (take (i + 1) picked) ≡ true = more ∙ ap (λ (b : Bool). has_serial_of row.serial (take i picked) || b) same.0 ∙ or_true _ in
          ap (λ (b : Bool). raised s (if b then state_received row else row)) out ∙ raised_this s row same.1
          ∙ sym (ap (λ (b : Bool). if b then state_received row else row) now))
      | inr other ↦ raised_other s (looked (take i picked) row) (λ q. other.1 (q ∙ looked_serial (take i picked) row))
          ∙ looked_same (take i picked) (take (i + 1) picked) row (more ∙ ap (λ (b : Bool). has_serial_of row.serial (take i picked) || b) other.0 ∙ or_false _)
    ]

pub look_more : (picked : List Row) (i : ℕ) (d : Row) → i < length picked → d ≡ get_or picked i d → has_serial_of d.serial (take i picked) ≡ false → (rows : List RowState) → map (raised d.serial) (map (looked (take i picked)) rows) ≡ map (looked (take (i + 1) picked)) rows
look_more picked i d lt given none [] = refl
look_more picked i d lt given none (row ∷ rows) = let first = raised_more picked i d lt given none row in let rest = look_more picked i d lt given none rows in cc

-- a serial that was there already
again : (picked : List Row) (i : ℕ) (d : Row) → i < length picked → d ≡ get_or picked i d → has_serial_of d.serial (take i picked) ≡ true → (row : RowState) → looked (take i picked) row ≡ looked (take (i + 1) picked) row
again picked i d lt given was row =
    let s : ℕ = d.serial in
    let more = has_more row.serial picked i d lt given in
    looked_same (take i picked) (take (i + 1) picked) row (elim (eqb_tells s row.serial) as (λ _. has_serial_of row.serial (take (i + 1) picked) ≡ has_serial_of row.serial (take i picked)) [
      | inl same ↦ (
          let is : has_serial_of row.serial (take i picked) ≡ true = subst (λ (n : ℕ). has_serial_of n (take i picked) ≡ true) same.1 was in
          more ∙ ap (λ (b : Bool). has_serial_of row.serial (take i picked) || b) same.0 ∙ or_true _ ∙ sym is)
      | inr other ↦ more ∙ ap (λ (b : Bool). has_serial_of row.serial (take i picked) || b) other.0 ∙ or_false _
    ])

pub look_again : (picked : List Row) (i : ℕ) (d : Row) → i < length picked → d ≡ get_or picked i d → has_serial_of d.serial (take i picked) ≡ true → (rows : List RowState) → map (looked (take i picked)) rows ≡ map (looked (take (i + 1) picked)) rows
look_again picked i d lt given was [] = refl
look_again picked i d lt given was (row ∷ rows) = let first = again picked i d lt given was row in let rest = look_again picked i d lt given was rows in cc

-- ---- what expires

expire_kept : (p : RowState → Bool) (k : ℕ) (es : Rows) → filter (λ row. not (p row)) (values_of (left_of p k es)) ≡ filter (λ row. not (p row)) (values_of es)
expire_kept p k [] = refl
expire_kept p k (e ∷ es) =
    let rest = expire_kept p k es in
    let Kept : List RowState = filter (λ row. not (p row)) (values_of es) in
    elim (is_at (nat_cmp k) e.0) as (λ at. filter (λ row. not (p row)) (values_of (if is_some (taken p (cond at (Some e.1) (lookup (is_at (nat_cmp k)) es))) then cond at es (e ∷ remove_entry (is_at (nat_cmp k)) es) else e ∷ es)) ≡ filter (λ row. not (p row)) (e.1 ∷ values_of es)) [
      | true ↦ elim (p e.1) as (λ b. p e.1 ≡ b → filter (λ row. not (p row)) (values_of (if is_some (if b then Some e.1 else None) then es else e ∷ es)) ≡ filter (λ row. not (p row)) (e.1 ∷ values_of es)) [
        | true ↦ (λ q. subst (λ (b : Bool). Kept ≡ cond (not b) (e.1 ∷ Kept) Kept) (sym q) refl)
        | false ↦ (λ q. refl)
      ] refl
      | false ↦ elim (is_some (taken p (lookup (is_at (nat_cmp k)) es))) as (λ b. filter (λ row. not (p row)) (values_of (if b then remove_entry (is_at (nat_cmp k)) es else es)) ≡ Kept
          → filter (λ row. not (p row)) (values_of (if b then e ∷ remove_entry (is_at (nat_cmp k)) es else e ∷ es)) ≡ filter (λ row. not (p row)) (e.1 ∷ values_of es)) [
            | true ↦ ap (λ (rows : List RowState). cond (not (p e.1)) (e.1 ∷ rows) rows)
            | false ↦ (λ q. refl)
          ] rest
    ]

-- the order of two that leave for one place does not matter
swapped : (x a b : MessageId) (to : Place) (place : Option Place) → after_move x (after_move x place (a, to)) (b, to) ≡ after_move x (after_move x place (b, to)) (a, to)
swapped x a b to place =
    elim (same_id x a) as (λ v. (if same_id x b then Some to else if v then Some to else place) ≡ (if v then Some to else if same_id x b then Some to else place)) [
      | true ↦ elim (same_id x b) as (λ w. (if w then Some to else Some to) ≡ Some to) [ true ↦ refl | false ↦ refl ]
      | false ↦ refl
    ]

-- one of those that leave is listed first
expire_first : (x : MessageId) (to : Place) (p : RowState → Bool) (k : ℕ) (es : Rows) (row : RowState) → taken p (lookup (is_at (nat_cmp k)) es) ≡ Some row → (place : Option Place)
    → fold (after_move x) place ((row.lineage, to) ∷ placed to (filter p (values_of (remove_entry (is_at (nat_cmp k)) es)))) ≡ fold (after_move x) place (placed to (filter p (values_of es)))
expire_first x to p k [] row is place = absurd cc
expire_first x to p k (e ∷ es) row is place =
    elim (is_at (nat_cmp k) e.0) as (λ at. taken p (cond at (Some e.1) (lookup (is_at (nat_cmp k)) es)) ≡ Some row
    → fold (after_move x) place ((row.lineage, to) ∷ placed to (filter p (values_of (cond at es (e ∷ remove_entry (is_at (nat_cmp k)) es))))) ≡ fold (after_move x) place (placed to (filter p (e.1 ∷ values_of es)))) [
      | true ↦ elim (p e.1) as (λ b. (if b then Some e.1 else None) ≡ Some row
          → fold (after_move x) place ((row.lineage, to) ∷ placed to (filter p (values_of es))) ≡ fold (after_move x) place (placed to (cond b (e.1 ∷ filter p (values_of es)) (filter p (values_of es))))) [
            | true ↦ (λ q. let same : row ≡ e.1 = cc in ap (λ (r : RowState). fold (after_move x) place ((r.lineage, to) ∷ placed to (filter p (values_of es)))) same)
            | false ↦ (λ q. absurd cc)
          ]
      | false ↦ (λ q. elim (p e.1) as (λ b.
          fold (after_move x) place ((row.lineage, to) ∷ placed to (cond b (e.1 ∷ filter p (values_of (remove_entry (is_at (nat_cmp k)) es))) (filter p (values_of (remove_entry (is_at (nat_cmp k)) es)))))
          ≡ fold (after_move x) place (placed to (cond b (e.1 ∷ filter p (values_of es)) (filter p (values_of es))))) [
            | true ↦ ap (λ (first : Option Place). fold (after_move x) first (placed to (filter p (values_of (remove_entry (is_at (nat_cmp k)) es))))) (swapped x row.lineage e.1.lineage to place)
                ∙ expire_first x to p k es row q (after_move x place (e.1.lineage, to))
            | false ↦ expire_first x to p k es row q place
          ])
    ] is

age_is : (a b : ℕ × ℕ) → is_at (age_cmp a) b ≡ true → (a.0 ≡ b.0) × (a.1 ≡ b.1)
age_is a b h =
    elim (nat_cmp a.0 b.0) as (λ o. nat_cmp a.0 b.0 ≡ o → is_eq (ordering_then o (nat_cmp a.1 b.1)) ≡ true → (a.0 ≡ b.0) × (a.1 ≡ b.1)) [
      | Less ↦ (λ q t. absurd cc)
      | Equal ↦ (λ q t. (equal_is a.0 b.0 q, elim (at_tells a.1 b.1) [ inl p ↦ p.1 | inr p ↦ (let e : true ≡ false = sym t ∙ p.0 in absurd cc) ]))
      | Greater ↦ (λ q t. absurd cc)
    ] refl h

-- another age than the first is among the rest
drop_age : (a age : ℕ × ℕ) (ages : List (ℕ × ℕ)) → (a.0 ≡ age.0 → a.1 ≡ age.1 → ⊥) → list_any (is_at (age_cmp a)) (age ∷ ages) ≡ true → list_any (is_at (age_cmp a)) ages ≡ true
drop_age a age ages apart h =
    elim (is_at (age_cmp a) age) as (λ b. is_at (age_cmp a) age ≡ b → (b || list_any (is_at (age_cmp a)) ages) ≡ true → list_any (is_at (age_cmp a)) ages ≡ true) [
      | true ↦ (λ q t. let is = age_is a age q in absurd (apart is.0 is.1))
      | false ↦ (λ q t. t)
    ] refl h

later_ages : (age : ℕ × ℕ) (ages : List (ℕ × ℕ)) (es : Rows) → Above age.1 es → HaveAges (age ∷ ages) es → HaveAges ages es
later_ages age ages [] a h = tt
later_ages age ages (e ∷ es) a h = (h.0, drop_age (age_of e.1) age ages (λ p q. omega (arith, q, h.0, a.0)) h.1, later_ages age ages es a.1 h.2)

-- once the row of a due age is out, no row needs that age
pub popped : (retention m : ℕ) (age : ℕ × ℕ) (ages : List (ℕ × ℕ)) (es : Rows) → is_past_retention retention m age.0 ≡ true → IsStrictlySortedBy nat_cmp (keys_of es) → HaveAges (age ∷ ages) es → HaveAges ages (left_of (is_past retention m) age.1 es)
popped retention m age ages [] due s h = tt
popped retention m age ages (e ∷ es) due s h =
    let L : Option RowState = lookup (is_at (nat_cmp age.1)) es in
    let R : Rows = remove_entry (is_at (nat_cmp age.1)) es in
    elim (at_tells age.1 e.0) as (λ _. HaveAges ages (left_of (is_past retention m) age.1 (e ∷ es))) [
      | inl same ↦ (
          let later = later_ages age ages es (subst (λ (n : ℕ). Above n es) (sym same.1) (above_head e es s)) h.2 in
          subst (λ (at : Bool). HaveAges ages (if is_some (taken (is_past retention m) (cond at (Some e.1) L)) then cond at es (e ∷ R) else e ∷ es)) (sym same.0)
          (elim (is_past retention m e.1) as (λ b. is_past retention m e.1 ≡ b → HaveAges ages (if is_some (if b then Some e.1 else None) then es else e ∷ es)) [
            | true ↦ (λ q. later)
            | false ↦ (λ q. (h.0, drop_age (age_of e.1) age ages (λ p r. (let t : true ≡ false = sym due ∙ ap (λ (n : ℕ). is_past_retention retention m n) (sym p) ∙ q in absurd cc)) h.1, later))
          ] refl))
      | inr other ↦ (
          let age_stays = drop_age (age_of e.1) age ages (λ p q. other.1 (sym (h.0 ∙ q))) h.1 in
          subst (λ (at : Bool). HaveAges ages (if is_some (taken (is_past retention m) (cond at (Some e.1) L)) then cond at es (e ∷ R) else e ∷ es)) (sym other.0)
          (elim (is_some (taken (is_past retention m) L)) as (λ b. HaveAges ages (if b then R else es) → HaveAges ages (if b then e ∷ R else e ∷ es)) [
            | true ↦ (λ r. (h.0, age_stays, r))
            | false ↦ (λ r. (h.0, age_stays, r))
          ] (popped retention m age ages es due (sorted_tail nat_cmp e.0 (keys_of es) s) h.2)))
    ]

not_due : (retention m : ℕ) (a : ℕ × ℕ) (ages : List (ℕ × ℕ)) → All (λ age. is_past_retention retention m age.0 ≡ false) ages → list_any (is_at (age_cmp a)) ages ≡ true → is_past_retention retention m a.0 ≡ false
not_due retention m a [] all h = absurd cc
not_due retention m a (age ∷ ages) all h =
    elim (is_at (age_cmp a) age) as (λ b. is_at (age_cmp a) age ≡ b → (b || list_any (is_at (age_cmp a)) ages) ≡ true → is_past_retention retention m a.0 ≡ false) [
      | true ↦ (λ q t. ap (λ (n : ℕ). is_past_retention retention m n) (age_is a age q).0 ∙ All-head (λ (n : ℕ × ℕ). is_past_retention retention m n.0 ≡ false) age ages all)
      | false ↦ (λ q t. not_due retention m a ages (All-tail (λ (n : ℕ × ℕ). is_past_retention retention m n.0 ≡ false) age ages all) t)
    ] refl h

-- where no age is due, no row is past
pub none_due : (retention m : ℕ) (ages : List (ℕ × ℕ)) (es : Rows) → All (λ age. is_past_retention retention m age.0 ≡ false) ages → HaveAges ages es
    → (filter (λ row. not (is_past retention m row)) (values_of es) ≡ values_of es) × (filter (is_past retention m) (values_of es) ≡ [])
none_due retention m ages [] all h = (refl, refl)
none_due retention m ages (e ∷ es) all h =
    let rest = none_due retention m ages es all h.2 in
    let stays : is_past retention m e.1 ≡ false = not_due retention m (age_of e.1) ages all h.1 in
    subst (λ (b : Bool). (cond (not b) (e.1 ∷ filter (λ row. not (is_past retention m row)) (values_of es)) (filter (λ row. not (is_past retention m row)) (values_of es)) ≡ e.1 ∷ values_of es)
    × (cond b (e.1 ∷ filter (is_past retention m) (values_of es)) (filter (is_past retention m) (values_of es)) ≡ [])) (sym stays)
    (ap (λ (rows : List RowState). e.1 ∷ rows) rest.0, rest.1)

-- at a turn of what expires, what is past is listed or still there
pub record Trims (retention m : ℕ) (old : List RowState) (was ends : List (MessageId × Place)) (ages : List (ℕ × ℕ)) (es : Rows) : Type 0 where
  pub indexed : AreIndexed ages es
  pub kept : filter (λ row. not (is_past retention m row)) (values_of es) ≡ filter (λ row. not (is_past retention m row)) old
  pub past : AreSameEnds (ends ++ placed at.Expired (filter (is_past retention m) (values_of es))) (was ++ placed at.Expired (filter (is_past retention m) old))

-- what a look-up of the serial of a due age says of the ends after
abbrev pub Reports : List (MessageId × Place) → List (MessageId × Place) → Option RowState → Type 0
Reports ends now None = now ≡ ends
Reports ends now (Some row) = now ≡ ends ++ (row.lineage, at.Expired) ∷ []

same_first : (retention m k : ℕ) (es : Rows) (ends now : List (MessageId × Place)) → Reports ends now (taken (is_past retention m) (lookup (is_at (nat_cmp k)) es))
    → AreSameEnds (now ++ placed at.Expired (filter (is_past retention m) (values_of (left_of (is_past retention m) k es)))) (ends ++ placed at.Expired (filter (is_past retention m) (values_of es)))
same_first retention m k es ends now =
    elim (taken (is_past retention m) (lookup (is_at (nat_cmp k)) es)) as (λ o. taken (is_past retention m) (lookup (is_at (nat_cmp k)) es) ≡ o → Reports ends now o
    → AreSameEnds (now ++ placed at.Expired (filter (is_past retention m) (values_of (if is_some o then remove_entry (is_at (nat_cmp k)) es else es)))) (ends ++ placed at.Expired (filter (is_past retention m) (values_of es)))) [
      | None ↦ (λ q t x place. ap (λ (es' : List (MessageId × Place)). fold (after_move x) place (es' ++ placed at.Expired (filter (is_past retention m) (values_of es)))) t)
      | Some row ↦ (λ q t x place.
          let rest : List (MessageId × Place) = placed at.Expired (filter (is_past retention m) (values_of (remove_entry (is_at (nat_cmp k)) es))) in
          ap (λ (es' : List (MessageId × Place)). fold (after_move x) place (es' ++ rest)) t
          ∙ ap (fold (after_move x) place) (append_assoc ends ((row.lineage, at.Expired) ∷ []) rest)
          ∙ fold-append (after_move x) place ends ((row.lineage, at.Expired) ∷ rest)
          ∙ expire_first x at.Expired (is_past retention m) k es row q (fold (after_move x) place ends)
          ∙ sym (fold-append (after_move x) place ends (placed at.Expired (filter (is_past retention m) (values_of es)))))
    ] refl

pub expire_more : (retention m : ℕ) (old : List RowState) (was ends now : List (MessageId × Place)) (age : ℕ × ℕ) (ages : List (ℕ × ℕ)) (es left : Rows) (out : Option RowState) → is_past_retention retention m age.0 ≡ true
    → out ≡ taken (is_past retention m) (lookup (is_at (nat_cmp age.1)) es) → left ≡ (if is_some out then remove_entry (is_at (nat_cmp age.1)) es else es) → IsStrictlySortedBy nat_cmp (keys_of left) → Reports ends now out
    → Trims retention m old was ends (age ∷ ages) es → Trims retention m old was now ages left
expire_more retention m old was ends now age ages es left out due is left_is sorted reports t =
    let same : left ≡ left_of (is_past retention m) age.1 es = left_is ∙ ap (λ (o : Option RowState). if is_some o then remove_entry (is_at (nat_cmp age.1)) es else es) is in
    let reported : Reports ends now (taken (is_past retention m) (lookup (is_at (nat_cmp age.1)) es)) = subst (Reports ends now) is reports in
    record {
      indexed = record { ordered = sorted; each = subst (HaveAges ages) (sym same) (popped retention m age ages es due t.indexed.ordered t.indexed.each) };
      kept = ap (λ (rows : Rows). filter (λ row. not (is_past retention m row)) (values_of rows)) same ∙ expire_kept (is_past retention m) age.1 es ∙ t.kept;
      past = λ x place. ap (λ (rows : Rows). fold (after_move x) place (now ++ placed at.Expired (filter (is_past retention m) (values_of rows)))) same ∙ same_first retention m age.1 es ends now reported x place ∙ t.past x place;
    }

-- nothing past is left
pub trim_ends : (retention m : ℕ) (old : List RowState) (was ends : List (MessageId × Place)) (ages : List (ℕ × ℕ)) (es : Rows) → All (λ age. is_past_retention retention m age.0 ≡ false) ages → Trims retention m old was ends ages es
    → (values_of es ≡ filter (λ row. not (is_past retention m row)) old) × AreSameEnds ends (was ++ placed at.Expired (filter (is_past retention m) old))
trim_ends retention m old was ends ages es all t =
    let none = none_due retention m ages es all t.indexed.each in
    (sym none.0 ∙ t.kept, λ x place. ap (fold (after_move x) place) (sym (append-nil ends) ∙ ap (λ (rows : List RowState). ends ++ placed at.Expired rows) (sym none.1)) ∙ t.past x place)
