-- Goals of `faultless_are_well_formed`: the program of a source without faults of names is well-formed.
use Rattle.lra_front_end.proofs.{Spelled.spelled_are_small, Whole.well_formed}
use Rattle.lra_front_end.proofs.resolution_laws.faultless_are_well_formed.Goals as goal

pub returns-clause-trees : goal.returns-clause-trees
returns-clause-trees c t small e = well_formed t small e

pub returns-clause-literals : goal.returns-clause-literals
returns-clause-literals c source tokens t lexed parsed = spelled_are_small source tokens t parsed.0 lexed parsed.1 parsed.2

pub returns-clause-read : goal.returns-clause-read
returns-clause-read c source tokens t lexed parsed e = well_formed t (spelled_are_small source tokens t parsed.0 lexed parsed.1 parsed.2) e

pub returns-clause-accepted : goal.returns-clause-accepted
returns-clause-accepted c source t a = well_formed t (spelled_are_small source a.tokens t a.parsed.0 a.lexed a.parsed.1 a.parsed.2) a.names
