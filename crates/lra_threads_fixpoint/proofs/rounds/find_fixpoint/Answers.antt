-- Goals of `find_fixpoint`: round by round.
use Rattle.std.proofs.Common.{◌∙◌, refl, subst, sym}
use Rattle.lra_threads_fixpoint.specs.{Intervals.IntervalTable, Intervals.TableWithin, Rounds.IsRound}
use Rattle.lra_threads_fixpoint.proofs.FallLemmas.{first_table, measure_falls, next_fits, next_is}
use Rattle.lra_threads_fixpoint.proofs.RoundLemmas.{said, denied, round_wide, first_reaches, last_round, next_round}
use Rattle.lra_threads_fixpoint.proofs.rounds.find_fixpoint.Goals as goal

pub rounds-init : goal.rounds-init
rounds-init g c =
    let count = g.T.Threads.threads c.args.threads.now in
    let shared = g.T.Threads.shared c.args.threads.now in
    let first = first_table count shared c.count.result c.globals.result c.in_ok-table.table.items c.in_ok-table.ensures c.count.ensures c.globals.ensures in
    record {
      reaches = first_reaches g.T.Threads.finding shared (g.T.Threads.finds c.args.threads.now) count 2 c.in_ok-table.table.items refl first.0;
      wide = first.1;
      long = first.2;
    }

pub returns-then-is_fixpoint : goal.returns-then-is_fixpoint
returns-then-is_fixpoint g c =
    let count = g.T.Threads.threads c.args.threads.now in
    let shared = g.T.Threads.shared c.args.threads.now in
    let finds = g.T.Threads.finds c.args.threads.now in
    let found = c.in_ok-round.round in
    let round = subst (λ (t : IntervalTable). IsRound g.T.Threads.finding shared finds count c.rounds.flag t found.found.items found.written.items found.flag)
    c.deref.ensures.value c.in_ok-round.ensures in
    let within = said c.is_fixpoint.result _ c.is_fixpoint.ensures c.if-is_fixpoint.true in
    let here = subst (λ (w : IntervalTable). TableWithin w c.deref-in-rounds-2.result.now) c.deref-in-rounds.ensures.value within in
    let in_table = subst (λ (t : IntervalTable). TableWithin found.written.items t) c.deref-in-rounds-2.ensures.value here in
    last_round g.T.Threads.finding shared finds count c.rounds.left c.rounds.flag c.rounds.table.items found.found.items found.written.items found.flag
    c.rounds.invariant.reaches round in_table

pub rounds-smaller : goal.rounds-smaller
rounds-smaller g c =
    let count = g.T.Threads.threads c.args.threads.now in
    let shared = g.T.Threads.shared c.args.threads.now in
    let finds = g.T.Threads.finds c.args.threads.now in
    let found = c.in_ok-round.round in
    let round = subst (λ (t : IntervalTable). IsRound g.T.Threads.finding shared finds count c.rounds.flag t found.found.items found.written.items found.flag)
    c.deref.ensures.value c.in_ok-round.ensures in
    let moves = denied c.is_fixpoint.result _ c.is_fixpoint.ensures c.if-is_fixpoint.false in
    let here = subst (λ (w : IntervalTable). ¬ TableWithin w c.deref-in-rounds-2.result.now) c.deref-in-rounds.ensures.value moves in
    let of_table = subst (λ (t : IntervalTable). ¬ TableWithin found.written.items t) c.deref-in-rounds-2.ensures.value here in
    let next = next_is c.rounds.left c.growth_with.result c.rounds.table.items found.written.items c.deref-in-rounds-3.result.now
    c.grow_table.new.table.items c.grow_table.ensures c.growth_with.ensures c.deref-in-rounds-3.ensures.value in
    let wide = round_wide g.T.Threads.finding shared finds count c.rounds.flag c.rounds.table.items found.found.items found.written.items found.flag round in
    measure_falls shared c.rounds.left c.saturating_sub-left.result c.rounds.table.items found.written.items c.grow_table.new.table.items
    c.saturating_sub-left.ensures next c.rounds.invariant.wide wide.0 (wide.1 ∙ sym c.rounds.invariant.long) of_table

pub rounds-preserved : goal.rounds-preserved
rounds-preserved g c =
    let count = g.T.Threads.threads c.args.threads.now in
    let shared = g.T.Threads.shared c.args.threads.now in
    let finds = g.T.Threads.finds c.args.threads.now in
    let found = c.in_ok-round.round in
    let round = subst (λ (t : IntervalTable). IsRound g.T.Threads.finding shared finds count c.rounds.flag t found.found.items found.written.items found.flag)
    c.deref.ensures.value c.in_ok-round.ensures in
    let moves = denied c.is_fixpoint.result _ c.is_fixpoint.ensures c.if-is_fixpoint.false in
    let here = subst (λ (w : IntervalTable). ¬ TableWithin w c.deref-in-rounds-2.result.now) c.deref-in-rounds.ensures.value moves in
    let of_table = subst (λ (t : IntervalTable). ¬ TableWithin found.written.items t) c.deref-in-rounds-2.ensures.value here in
    let next = next_is c.rounds.left c.growth_with.result c.rounds.table.items found.written.items c.deref-in-rounds-3.result.now
    c.grow_table.new.table.items c.grow_table.ensures c.growth_with.ensures c.deref-in-rounds-3.ensures.value in
    let fits = next_fits count shared c.rounds.left c.rounds.table.items found.written.items c.grow_table.new.table.items next c.rounds.invariant.wide
    c.rounds.invariant.long in
    record {
      reaches = next_round g.T.Threads.finding shared finds count c.rounds.left c.rounds.flag c.rounds.table.items found.found.items found.written.items
          found.flag c.saturating_sub-left.result c.grow_table.new.table.items c.rounds.invariant.reaches round of_table c.saturating_sub-left.ensures next;
      wide = fits.0;
      long = fits.1;
    }
