-- Goals of `from`: all segments from the source have come.
use Rattle.std.proofs.Common.{map}
use Rattle.lra_operations.specs.TreeViews.{site_view}
use Rattle.lra_paths.specs.Sources.{first_from}
use Rattle.lra_path_disjuncts.proofs.TableSteps.{within}
use Rattle.lra_paths.proofs.DepartureSteps.{from_leads}
use Rattle.lra_paths.proofs.paths.Paths.from.Goals as goal

pub push_all_departing-requires-clause-before : goal.push_all_departing-requires-clause-before
push_all_departing-requires-clause-before c = within c.depart.new.entries.items c.in_ok-departure.departure.before
    (first_from c.args.self.now.globals.now c.args.source) c.in_ok-departure.ensures.is.first

pub returns-clause-leads : goal.returns-clause-leads
returns-clause-leads c = from_leads c.args.self.now.globals.now (map site_view c.args.self.now.sites.now) c.args.source c.in_ok-departure.departure
    (record { entries = c.depart.new.entries; segments = c.new.result }) c.push_all_departing.new.source c.as_slice.result.now c.args.self.now.segments.items
    c.in_ok-departure.ensures.is c.new.ensures.items c.as_slice.ensures.value c.in_ok-push_all_departing.ensures
