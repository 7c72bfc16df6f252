use Rattle.std.proofs.Common.{sym, subst, refl, List, ℕ}
use Rattle.sq_places.specs.inside.RowIndexes.{HaveAges}
use Rattle.sq_places.proofs.IndexLaws.{Reports, Trims, popped, expire_more, trim_ends}
use Rattle.sq_places.proofs.home_rows.HomeRows.expire.Goals as goal

pub loop-age-preserved-in-Continue-1 : goal.loop-age-preserved-in-Continue-1
loop-age-preserved-in-Continue-1 c =
    let ends = c.loop-age.ends.items in
    let now = c.push.new.self.items in
    let es = c.loop-age.self-inside.rows.entries in
    let due = c.in-Some.ensures.due in
    expire_more c.args.retention c.args.moment c.args.self.now c.args.ends.now.items ends now c.in-Some.age c.pop_due.new.ages.keys es c.take.new.rows.entries c.take.result due.1
    c.take.ensures.taken c.take.ensures.rows (c.take.ensures.ordered c.loop-age.invariant.indexed.ordered) (subst (Reports ends now) (sym c.in-Some-take.is) c.in_ok-push.ensures.items)
    (subst (λ (ages : List (ℕ × ℕ)). Trims c.args.retention c.args.moment c.args.self.now c.args.ends.now.items ends ages es) due.0 c.loop-age.invariant)

pub loop-age-preserved : goal.loop-age-preserved
loop-age-preserved c =
    let ends = c.loop-age.ends.items in
    let es = c.loop-age.self-inside.rows.entries in
    let due = c.in-Some.ensures.due in
    expire_more c.args.retention c.args.moment c.args.self.now c.args.ends.now.items ends ends c.in-Some.age c.pop_due.new.ages.keys es c.take.new.rows.entries c.take.result due.1
    c.take.ensures.taken c.take.ensures.rows (c.take.ensures.ordered c.loop-age.invariant.indexed.ordered) (subst (Reports ends ends) (sym c.in_default-take.is) refl)
    (subst (λ (ages : List (ℕ × ℕ)). Trims c.args.retention c.args.moment c.args.self.now c.args.ends.now.items ends ages es) due.0 c.loop-age.invariant)

pub invariant_of-self : goal.invariant_of-self
invariant_of-self c =
    let es = c.loop-age.self-inside.rows.entries in
    let due = c.in-Some.ensures.due in
    let indexed = c.loop-age.invariant.indexed in
    record {
      ordered = c.take.ensures.ordered indexed.ordered;
      each = rw (c.take.ensures.rows, c.take.ensures.taken) (popped c.args.retention c.args.moment c.in-Some.age c.pop_due.new.ages.keys es due.1 indexed.ordered
          (subst (λ (ages : List (ℕ × ℕ)). HaveAges ages es) due.0 indexed.each));
    }

pub returns-clause-rows : goal.returns-clause-rows
returns-clause-rows c = (trim_ends c.args.retention c.args.moment c.args.self.now c.args.ends.now.items c.loop-age.ends.items c.loop-age.self-inside.ages.keys c.loop-age.self-inside.rows.entries c.in_default.ensures.none.1 c.loop-age.invariant).0

pub returns-clause-ends : goal.returns-clause-ends
returns-clause-ends c = (trim_ends c.args.retention c.args.moment c.args.self.now c.args.ends.now.items c.loop-age.ends.items c.loop-age.self-inside.ages.keys c.loop-age.self-inside.rows.entries c.in_default.ensures.none.1 c.loop-age.invariant).1
