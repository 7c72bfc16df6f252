use Rattle.std.proofs.Common.{◌≡◌, ◌∙◌, ap, sym, subst, Option, Some, None}
use Rattle.std.specs.Map.{values_of, lookup, set_value}
use Rattle.std.specs.Ordering.{nat_cmp}
use Rattle.std.specs.BTreeMap.{is_at}
use Rattle.std.specs.Option.{option_copied_mut}
use Rattle.sq_places.specs.declared.state.RowState.{RowState}
use Rattle.sq_places.proofs.IndexLaws.{Raises, raise_law, set_ages}
use Rattle.sq_places.proofs.home_rows.HomeRows.receive.Goals as goal
use Rattle.sq_places.proofs.home_rows.HomeRows.receive.Goals.{in-Some, in_default}

pub invariant_of-self : goal.invariant_of-self
invariant_of-self c = elim c.match-get_mut.branch [
  | in-Some w ↦
      let found : lookup (is_at (nat_cmp c.args.serial)) c.self.inside.rows.entries ≡ Some w.in-Some.row.now = sym c.get_mut.ensures.value ∙ ap option_copied_mut w.in-Some.is in
      let written = c.get_mut.follows.holds w.received.result in
      rw w.self-inside-is (record {
        ordered = written.4;
        each = rw (written.0, w.received.ensures) (set_ages c.args.serial w.in-Some.row.now c.self.inside.ages.keys c.self.inside.rows.entries found c.self.invariant.each);
      })
  | in_default w ↦ rw (w.self-inside-is, c.get_mut.follows.holds-at-none) c.self.invariant
]

pub returns : goal.returns
returns c =
    let es = c.self.inside.rows.entries in
    let law = raise_law c.args.serial c.self.inside.ages.keys es c.self.invariant.ordered c.self.invariant.each in
    let raises = λ (o : Option RowState). Raises c.args.serial es (set_value (is_at (nat_cmp c.args.serial)) es) o in
    elim c.match-get_mut.branch [
      | in-Some w ↦
          let found : lookup (is_at (nat_cmp c.args.serial)) es ≡ Some w.in-Some.row.now = sym c.get_mut.ensures.value ∙ ap option_copied_mut w.in-Some.is in
          rw (← c.self.view_is, w.self-inside-is) (ap values_of (c.get_mut.follows.holds _).0 ∙ rw w.received.ensures (subst raises found law))
      | in_default w ↦
          let none : lookup (is_at (nat_cmp c.args.serial)) es ≡ None = sym c.get_mut.ensures.value ∙ ap option_copied_mut w.in_default.is in
          rw (← c.self.view_is, w.self-inside-is, c.get_mut.follows.holds-at-none) (subst raises none law)
    ]
