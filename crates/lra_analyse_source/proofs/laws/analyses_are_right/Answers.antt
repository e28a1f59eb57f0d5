-- Goals of `analyses_are_right`: what a report says of an analysis over a domain holds in all runs, and the report
-- is one of its source, if the options name that domain and allow as many parts as the analysis had.
use Rattle.lra_analyse_source.proofs.Reports.{sound, is_report}
use Rattle.lra_analyse_source.proofs.laws.analyses_are_right.Goals as goal

pub returns-clause-sound : goal.returns-clause-sound
returns-clause-sound g c shown settings constants t r x agrees lists =
    sound g.D.Domain.abstraction g.met.D.Domain.laws shown settings constants t r lists x agrees

pub returns-clause-reports : goal.returns-clause-reports
returns-clause-reports g c shown o settings constants source t r x same some room agrees lists options accepted =
    is_report g.D.Domain.abstraction g.met.D.Domain.laws shown settings constants t r lists x agrees o source same some room options accepted
