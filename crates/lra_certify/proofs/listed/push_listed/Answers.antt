-- Goals of `push_listed`: the lines of the assertions at these points.
use Rattle.std.proofs.{Common.◌+◌, Common.drop, Common.get_or, Common.arith, Common.string_bytes, lemmas.List.drop_all}
use Rattle.lra_certify.proofs.PathSteps.{list_next, number_has, listed_begin, listed_next, listed_stop, listed_end}
use Rattle.lra_certify.proofs.listed.push_listed.Goals as goal

pub loop-point-init : goal.loop-point-init
loop-point-init c = listed_begin c.args.ways.now c.args.proved.now (string_bytes c.args.text.now)

pub push_one-requires-clause-stay : goal.push_one-requires-clause-stay
push_one-requires-clause-stay c =
    c.requires.stay (get_or c.args.proved.now c.loop-point.point-index 0)
    (number_has c.args.proved.now c.loop-point.point-index c.loop-point-test.true)

pub loop-point-preserved : goal.loop-point-preserved
loop-point-preserved c =
    let proved = c.args.proved.now in
    let i = c.loop-point.point-index in
    let q = get_or proved i 0 in
    listed_next c.args.ways.now q (drop (i + 1) proved) (drop i proved) proved (list_next proved i c.loop-point-test.true)
    (string_bytes c.loop-point.text) (string_bytes c.args.text.now) c.loop-point.invariant (string_bytes c.push_one.new.text) c.in_ok-push_one.ensures.adds

pub returns-in_err-push_one-clause-failure : goal.returns-in_err-push_one-clause-failure
returns-in_err-push_one-clause-failure c =
    let proved = c.args.proved.now in
    let i = c.loop-point.point-index in
    let q = get_or proved i 0 in
    listed_stop c.args.ways.now q (drop (i + 1) proved) (drop i proved) proved (list_next proved i c.loop-point-test.true)
    (string_bytes c.loop-point.text) (string_bytes c.args.text.now) c.loop-point.invariant c.from_residual.result _ c.from_residual.ensures.1
    c.in_err-push_one.ensures.failure

pub returns-clause-adds : goal.returns-clause-adds
returns-clause-adds c =
    let proved = c.args.proved.now in
    let i = c.loop-point.point-index in
    let h = c.loop-point-test.false in
    listed_end c.args.ways.now (drop i proved) proved (string_bytes c.loop-point.text) (string_bytes c.args.text.now)
    (drop_all i proved (omega (arith, h))) c.loop-point.invariant
