-- Goals of `widen_within`: the widening of a polyhedron with a point by one that it lies in.
use Rattle.std.proofs.Common.{ap, ◌∙◌, ◌++◌}
use Rattle.lra_poly_widening.specs.Crates.lra_linear_spec.Kinds.{is_equality}
use Rattle.lra_systems.specs.LinearSystems.{constraints}
use Rattle.lra_poly_widening.specs.Rank.{kept_thresholds}
use Rattle.lra_poly_widening.proofs.{StayingLemmas.of_staying, WideningLemmas.not_exact, WideningLemmas.seen_columns, WideningLemmas.widened_made, WideningLemmas.widened_passed}
use Rattle.lra_poly_widening.proofs.widening.widen_within.Goals as goal

pub returns-then-is_exact-clause-widened : goal.returns-then-is_exact-clause-widened
returns-then-is_exact-clause-widened c =
    let p = c.args.p.now in
    let q = c.args.q.now in
    let given = constraints c.args.given.now in
    widened_made p q c.in_ok-made.made (constraints c.add_held.new.list) given c.add_held.new.list.dims c.in_ok-made.outcome c.in_ok-lost.lost (record {
      first = c.rows-rows.ensures.canonical;
      second = c.rows-others.ensures.canonical;
      dims = c.requires.second;
      some_point = c.requires.some;
      within = c.requires.within;
      rows = c.in_ok-add_held.ensures.rows ∙ ap (λ l. l ++ kept_thresholds p q given) c.in_ok-list.ensures.rows;
      list_dims = c.in_ok-add_held.ensures.dims;
      columns = seen_columns is_equality p.dims c.args.given.now.dims c.args.given.now c.rows-given.result.now c.rows-given.ensures.rows c.requires.given c.rows-given.ensures.widths;
      some = c.in_ok-made.ensures.some;
      becomes = c.in_ok-made.ensures.becomes;
      same = c.in_ok-lost.ensures.exact;
      passes = c.in_ok-lost.ensures.flagged;
    }) (c.is_exact.ensures.0 c.if-is_exact.true)

pub returns-clause-widened : goal.returns-clause-widened
returns-clause-widened c =
    let p = c.args.p.now in
    let q = c.args.q.now in
    let given = constraints c.args.given.now in
    widened_passed p q c.in_ok-made.made (constraints c.add_held.new.list) given c.add_held.new.list.dims c.in_ok-made.outcome c.in_ok-lost.lost (record {
      first = c.rows-rows.ensures.canonical;
      second = c.rows-others.ensures.canonical;
      dims = c.requires.second;
      some_point = c.requires.some;
      within = c.requires.within;
      rows = c.in_ok-add_held.ensures.rows ∙ ap (λ l. l ++ kept_thresholds p q given) c.in_ok-list.ensures.rows;
      list_dims = c.in_ok-add_held.ensures.dims;
      columns = seen_columns is_equality p.dims c.args.given.now.dims c.args.given.now c.rows-given.result.now c.rows-given.ensures.rows c.requires.given c.rows-given.ensures.widths;
      some = c.in_ok-made.ensures.some;
      becomes = c.in_ok-made.ensures.becomes;
      same = c.in_ok-lost.ensures.exact;
      passes = c.in_ok-lost.ensures.flagged;
    }) (not_exact c.is_exact.result c.in_ok-lost.lost c.is_exact.ensures c.if-is_exact.false)

pub returns-then-is_exact-clause-staying : goal.returns-then-is_exact-clause-staying
returns-then-is_exact-clause-staying c =
    let p = c.args.p.now in
    let q = c.args.q.now in
    let given = constraints c.args.given.now in
    let rows = c.in_ok-add_held.ensures.rows ∙ ap (λ l. l ++ kept_thresholds p q given) c.in_ok-list.ensures.rows in
    of_staying p q c.in_ok-made.made given c.add_held.new.list c.in_ok-made.outcome c.in_ok-add_held.ensures.dims rows c.in_ok-made.ensures.tried

pub returns-clause-staying : goal.returns-clause-staying
returns-clause-staying c =
    let p = c.args.p.now in
    let q = c.args.q.now in
    let given = constraints c.args.given.now in
    let rows = c.in_ok-add_held.ensures.rows ∙ ap (λ l. l ++ kept_thresholds p q given) c.in_ok-list.ensures.rows in
    of_staying p q c.in_ok-made.made given c.add_held.new.list c.in_ok-made.outcome c.in_ok-add_held.ensures.dims rows c.in_ok-made.ensures.tried
