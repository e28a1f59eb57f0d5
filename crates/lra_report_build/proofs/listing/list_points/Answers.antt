-- Goals of `list_points`: the points of the report.
use Rattle.std.proofs.Common.{rules, arith, ◌≡◌, ◌∙◌, ◌+◌, ◌++◌, ◌∷◌, [], ap, length, length-append}
use Rattle.std.proofs.{lemmas.Iterator.Adapters.YieldsList-from_vec, lemmas.Iterator.Consumers.YieldsList-turn}
use Rattle.lra_report_build.specs.AnalysisResults.{state_of}
use Rattle.lra_report_build.proofs.Points.{point_listed, inside_sites, wide_state, states_taken}
use Rattle.lra_report_build.proofs.listing.list_points.Goals as goal

pub states-preserved : goal.states-preserved
states-preserved c =
    let state = c.in-Some.state in
    let taken = c.states.yielded in
    let sites = c.args.sites.now in
    let turn = YieldsList-turn (YieldsList-from_vec {s = c.into_iter-state-iterator.result} c.args.states.items (search rules) (search rules))
    taken c.states.state-iterator c.states.yielded_by c.next.result c.next.new.self state c.in-Some.is c.next.ensures.steps in
    let longer : length (taken ++ state ∷ []) ≡ length taken + 1 = (let e = length-append taken (state ∷ []) in omega (arith, e)) in
    let at : c.len-index.result ≡ length taken = c.len-index.ensures ∙ c.states.invariant.count in
    record {
      count = omega (arith, c.in_ok-push.ensures.len, c.states.invariant.count, longer);
      listed =
          point_listed c.args.globals.now c.args.labels.now.labels sites c.states.points.items c.push.new.self.items c.index-sites-index.result c.in_ok-list_point.field-0
          (length taken) (length (taken ++ state ∷ [])) c.len-index.result c.number_of.result state.items c.states.invariant.listed at c.number_of.ensures longer c.in_ok-push.ensures.items
          c.index-sites-index.is (inside_sites sites c.args.states.items (length taken) c.requires.states turn.0) c.in_ok-list_point.ensures
          (wide_state sites c.args.states.items c.index-sites-index.result state (length taken) c.len-index.result c.requires.states at c.index-sites-index.is turn.0 turn.1);
      states =
          states_taken c.states.points.items c.push.new.self.items c.in_ok-list_point.field-0 taken state c.states.invariant.states c.in_ok-push.ensures.items (ap state_of c.in_ok-list_point.ensures);
    }
