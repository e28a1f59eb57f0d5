-- Goals of the functions that call each other around `settle_untried`: `returns`, `settle_once`, `into_one`, `settle_untried`.
use Rattle.std.proofs.{Common.◌<◌, Common.length, Common.arith, Common.rules, lemmas.Result.IfOk-weaker}
use Rattle.lra_powerset.specs.Laws.{fits_formed}
use Rattle.lra_powerset.proofs.AnswerLemmas.{fits_dims, further_fewer, further_fit, settled_further, settled_strained, strained_alike, strained_fit, strained_some}
use Rattle.lra_powerset.proofs.{AntichainLemmas.further_apart, CollapseLemmas.settled_ends}
use Rattle.lra_powerset.proofs.joins.+settle_untried.Goals as goal

pub settle_once-requires-clause-alike : goal.settle_once-requires-clause-alike
settle_once-requires-clause-alike g t c = (c.requires.fit.0, fits_dims g.D.Domain.abstraction c.requires.fit.0 c.args.parts.items c.requires.fit.1)

pub returns-in-Within : goal.returns-in-Within
returns-in-Within g t c =
    let once = rw c.in-Within.is at c.in_ok-exactness.ensures in
    λ n fit. settled_ends g.D.Domain.abstraction g.met.D.BaseDomain.base_laws n c.args.cap c.args.parts.items c.in-Within.exactness c.settle_once.new.parts.items once.0 once.1 fit

pub into_one-requires-clause-some : goal.into_one-requires-clause-some
into_one-requires-clause-some g t c =
    let once = rw c.in-Strained.is at c.in_ok-exactness.ensures in
    rw c.as_slice.ensures.value (strained_some g.D.Domain.abstraction c.args.cap c.args.parts.items c.settle_once.new.parts.items once)

pub into_one-requires-clause-formed : goal.into_one-requires-clause-formed
into_one-requires-clause-formed g t c =
    let once = rw c.in-Strained.is at c.in_ok-exactness.ensures in
    rw c.as_slice.ensures.value (fits_formed g.D.Domain.abstraction c.requires.fit.0 c.settle_once.new.parts.items
    (strained_fit g.D.Domain.abstraction g.met.D.BaseDomain.base_laws c.requires.fit.0 c.args.cap c.args.parts.items c.settle_once.new.parts.items once
    c.requires.fit.1))

pub into_one-requires-clause-alike : goal.into_one-requires-clause-alike
into_one-requires-clause-alike g t c =
    let once = rw c.in-Strained.is at c.in_ok-exactness.ensures in (
      c.requires.fit.0,
      rw c.as_slice.ensures.value
          (strained_alike g.D.Domain.abstraction g.met.D.BaseDomain.base_laws c.requires.fit.0 c.args.cap c.args.parts.items c.settle_once.new.parts.items once c.requires.fit.1),
    )

pub returns-in_ok-one-in-Strained : goal.returns-in_ok-one-in-Strained
returns-in_ok-one-in-Strained g t c =
    let once = rw c.in-Strained.is at c.in_ok-exactness.ensures in
    let one = rw c.as_slice.ensures.value at c.in_ok-one-in-Strained.ensures in
    λ n fit. settled_strained g.D.Domain.abstraction g.met.D.BaseDomain.base_laws n c.args.cap c.args.parts.items c.settle_once.new.parts.items c.in_ok-one-in-Strained.one.items c.requires.cap once
    one fit

pub returns-in-Further : goal.returns-in-Further
returns-in-Further g t c =
    let once = rw c.in-Further.is at c.in_ok-exactness.ensures in
    IfOk-weaker c.settle_untried.result _ _ (λ settled is n fit. settled_further g.D.Domain.abstraction g.met.D.BaseDomain.base_laws n
    c.args.cap c.args.parts.items c.settle_once.new.parts.items settled.1 settled.0.items once (λ k. is k) fit)
    c.settle_untried.ensures

pub settle_untried-requires : goal.settle_untried-requires
settle_untried-requires g t c κs within =
    let once = rw c.in-Further.is at c.in_ok-exactness.ensures in
    let fewer = further_fewer g.D.Domain.abstraction c.args.cap c.args.parts.items c.settle_once.new.parts.items once in
    let smaller : length c.settle_once.new.parts.items < t = omega (arith, fewer, c.decreases) in (
      search rules,
      (
        search rules,
        (
          search rules,
          (
            c.requires.cap,
            (
              (c.requires.fit.0, further_fit g.D.Domain.abstraction g.met.D.BaseDomain.base_laws c.requires.fit.0 c.args.cap c.args.parts.items c.settle_once.new.parts.items once c.requires.fit.1),
              further_apart g.D.Domain.abstraction c.args.cap c.args.parts.items c.settle_once.new.parts.items once,
            ),
          ),
        ),
      ),
    )
