-- Goals of `of`: a path from a source with rows, as its lines are judged.
use Rattle.std.proofs.Common.{suc}
use Rattle.lra_certificate_lines.specs.Crates.{lra_path_disjuncts.TableDisjuncts.all_done, lra_systems.LinearSystems.constraints}
use Rattle.lra_certificate_lines.specs.SymbolicViews.{symbolic_view}
use Rattle.lra_certificate_lines.proofs.TrackSteps.{grounds_made, premises_counted}
use Rattle.lra_certificate_lines.proofs.path_checks.PathCheck.of.Goals as goal

pub returns-in_ok-grounds-in-Ok-clause-track : goal.returns-in_ok-grounds-in-Ok-clause-track
returns-in_ok-grounds-in-Ok-clause-track c =
    let g = c.in_ok-grounds-in-Ok in
    record {
      count = c.in-Some.ensures.1;
      facts = grounds_made c.dims.result c.args.rows.now.dims (constraints c.args.rows.now) (all_done c.args.path.now) c.in-Ok.walk g.grounds c.dims.ensures
          c.in-Ok.ensures.made c.in-Ok.ensures.wide g.ensures.premises g.ensures.dims g.ensures.forms;
    }

pub returns-in_ok-grounds-in-Ok-clause-whole : goal.returns-in_ok-grounds-in-Ok-clause-whole
returns-in_ok-grounds-in-Ok-clause-whole c =
    let g = c.in_ok-grounds-in-Ok in
    record {
      few = c.in-Some.ensures.0;
      grounds = record {
        are = g.ensures.are;
        many = premises_counted c.dims.result (all_done c.args.path.now) (symbolic_view c.in-Ok.walk) (constraints c.args.rows.now)
            (suc c.in-Ok.walk.tests.dims)
            g.grounds.premises c.in-Some.count c.in-Ok.ensures.made g.ensures.premises g.ensures.kinds c.in-Some.ensures.1;
      };
    }
