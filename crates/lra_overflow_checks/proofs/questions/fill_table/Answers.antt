-- Goals of `fill_table`: the verdicts on all of what is done of which it is asked.
use Rattle.std.proofs.{Common.◌<◌, Common.◌≤◌, Common.length, Common.refl, Common.sym, Common.subst, Common.arith, lemmas.Option.slice_get_read}
use Rattle.lra_overflow_checks.specs.Crates.{lra_analysis_spec.LiveLimit.most_live, lra_analysis_spec.Operations.lossy_operations}
use Rattle.lra_overflow_checks.proofs.TableSteps.{asked_more, none_fills, point_inside, unasked_more, whole_filled}
use Rattle.lra_overflow_checks.proofs.questions.fill_table.Goals.{then-asked+in_ok-verdict, else-asked}
use Rattle.lra_overflow_checks.proofs.questions.fill_table.Goals as goal

pub doings-init : goal.doings-init
doings-init g c = none_fills (lossy_operations g.D.Domain.abstraction) g.Q.Question.told c.args.values.now c.args.table.now.items

pub bounds-values-done : goal.bounds-values-done
bounds-values-done g c =
    point_inside g.Q.Question.asks c.args.doings.now c.doings.done-index c.done-item.result c.doings-test.true c.done-item.is
    (length c.args.values.now) c.in_ok-asked.asked c.in_ok-asked.ensures c.if-asked.true c.requires.below

pub offset_bounds-values-done : goal.offset_bounds-values-done
offset_bounds-values-done g c =
    let inside = point_inside g.Q.Question.asks c.args.doings.now c.doings.done-index c.done-item.result c.doings-test.true c.done-item.is
    (length c.args.values.now) c.in_ok-asked.asked c.in_ok-asked.ensures c.if-asked.true c.requires.below in
    omega (arith, inside)

pub answer_done-requires : goal.answer_done-requires
answer_done-requires g c =
    let inside = point_inside g.Q.Question.asks c.args.doings.now c.doings.done-index c.done-item.result c.doings-test.true c.done-item.is
    (length c.args.values.now) c.in_ok-asked.asked c.in_ok-asked.ensures c.if-asked.true c.requires.below in
    subst (λ (v : g.row.D.Denot). g.D.Domain.abstraction.dims v < most_live) (sym c.index-values-done.is)
    (c.requires.few c.done-item.result.point c.index-values-done.result inside)

pub fill-requires : goal.fill-requires
fill-requires g c =
    let inside = point_inside g.Q.Question.asks c.args.doings.now c.doings.done-index c.done-item.result c.doings-test.true c.done-item.is
    (length c.args.values.now) c.in_ok-asked.asked c.in_ok-asked.ensures c.if-asked.true c.requires.below in
    let long = c.requires.long in
    let kept = c.doings.invariant.long in
    omega (arith, inside, long, kept)

pub doings-preserved : goal.doings-preserved
doings-preserved g c = elim c.if-asked.branch [
  | then-asked+in_ok-verdict w ↦ (let inside = point_inside g.Q.Question.asks c.args.doings.now c.doings.done-index c.done-item.result c.doings-test.true
      c.done-item.is (length c.args.values.now) c.in_ok-asked.asked c.in_ok-asked.ensures w.if-asked.true c.requires.below in
      let long = c.requires.long in
      let kept = c.doings.invariant.long in
      rw w.table-is (asked_more g.Q.Question.asks c.args.doings.now c.doings.done-index c.done-item.result c.doings-test.true c.done-item.is
      (lossy_operations g.D.Domain.abstraction) g.Q.Question.told c.args.values.now c.args.table.now.items c.doings.table.items c.doings.invariant
      w.fill.new.table.items w.index-values-done.result w.in_ok-verdict.verdict c.in_ok-asked.asked c.in_ok-asked.ensures w.if-asked.true
      (slice_get_read c.args.values.now (length c.args.values.now) c.done-item.result.point w.index-values-done.result refl inside w.index-values-done.is)
      w.in_ok-verdict.ensures (omega (arith, inside, long, kept)) w.fill.ensures))
  | else-asked w ↦ rw w.table-is (unasked_more g.Q.Question.asks c.args.doings.now c.doings.done-index c.done-item.result c.doings-test.true c.done-item.is
      (lossy_operations g.D.Domain.abstraction) g.Q.Question.told c.args.values.now c.args.table.now.items c.doings.table.items c.doings.invariant
      c.in_ok-asked.asked c.in_ok-asked.ensures w.if-asked.false)
]

pub returns : goal.returns
returns g c =
    let all : length c.args.doings.now ≤ c.doings.done-index = omega (arith, c.doings-test.false) in
    whole_filled (lossy_operations g.D.Domain.abstraction) g.Q.Question.told c.args.values.now g.Q.Question.asks c.args.doings.now c.doings.done-index
    c.args.table.now.items c.doings.table.items all c.doings.invariant
