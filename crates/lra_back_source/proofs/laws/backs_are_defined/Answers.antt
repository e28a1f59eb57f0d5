-- Goals of `backs_are_defined`: the laws.
use Rattle.lra_back_source.proofs.Strained.{unflagged_defined, flagged_strain}
use Rattle.lra_back_source.proofs.laws.backs_are_defined.Goals as goal

pub returns-clause-unflagged : goal.returns-clause-unflagged
returns-clause-unflagged c = unflagged_defined

pub returns-clause-flagged : goal.returns-clause-flagged
returns-clause-flagged c = flagged_strain
