-- Goals of `names_are_as_many`: at each point of a source as many names are printed as variables live there.
use Rattle.lra_front_end.proofs.Named.{names_as_many, shown_as_many}
use Rattle.lra_front_end.proofs.resolution_laws.names_are_as_many.Goals as goal

pub returns-clause-live : goal.returns-clause-live
returns-clause-live c t q s e = names_as_many t q s e

pub returns-clause-shown : goal.returns-clause-shown
returns-clause-shown c t q s e = shown_as_many t q s e
