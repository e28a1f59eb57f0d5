-- Goals of `push_states`: the lines of the points.
use Rattle.std.proofs.{Common.◌++◌, Common.suc, Common.refl, Common.drop, Common.map, Common.ap, Common.arith, Common.string_bytes, lemmas.List.drop_all, lemmas.List.Elements.All-nil}
use Rattle.lra_certify.specs.Crates.lra_certificate_spec.CertificateText.{states_text}
use Rattle.lra_verify.specs.PointViews.{state_view}
use Rattle.lra_certify.specs.Lines.{HasPointRows}
use Rattle.lra_certify.proofs.TextSteps.{states_so_far, fit_so_far, states_end, fit_all}
use Rattle.lra_certify.proofs.text.push_states.Goals as goal

pub loop-index-init : goal.loop-index-init
loop-index-init c = record { so_far = refl; fit = All-nil HasPointRows }

pub loop-index-preserved : goal.loop-index-preserved
loop-index-preserved c =
    let xs = c.args.states.now in
    let i = c.loop-index.index in
    record {
      so_far = states_so_far c.as_ref.result c.index-states-index.result c.as_ref.ensures.value xs i c.loop-index-test.true c.index-states-index.is
          (string_bytes c.loop-index.text) (string_bytes c.push_state.new.text) (string_bytes c.args.text.now ++ states_text 1 (map state_view xs))
          c.loop-index.invariant.so_far c.in_ok-push_state.ensures.text;
      fit = fit_so_far c.as_ref.result c.index-states-index.result c.as_ref.ensures.value xs i c.loop-index-test.true c.index-states-index.is
          c.loop-index.invariant.fit c.in_ok-push_state.ensures.fit;
    }

pub returns-clause-text : goal.returns-clause-text
returns-clause-text c =
    let xs = c.args.states.now in
    let i = c.loop-index.index in
    let h = c.loop-index-test.false in
    states_end (string_bytes c.loop-index.text) (string_bytes c.args.text.now ++ states_text 1 (map state_view xs)) (suc i) (map state_view (drop i xs))
    (ap (map state_view) (drop_all i xs (omega (arith, h)))) c.loop-index.invariant.so_far

pub returns-clause-fit : goal.returns-clause-fit
returns-clause-fit c =
    let h = c.loop-index-test.false in
    fit_all c.args.states.now c.loop-index.index (omega (arith, h)) c.loop-index.invariant.fit
