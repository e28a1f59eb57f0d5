-- What multipliers of the code, and the answer to them, stand for.
use Rattle.lra_multipliers.specs.declared.columns.Answer.TheVariants.{Yes, No, Wide}
use Rattle.lra_multipliers.specs.{declared.columns.Answer.Answer, declared.multipliers.Multipliers.Multipliers}
use Rattle.lra_multipliers.specs.Multipliers as multipliers

abbrev pub answer_view : Answer → multipliers.Answer
answer_view Yes = multipliers.yes
answer_view No = multipliers.no
answer_view Wide = multipliers.wide

abbrev pub multipliers_view : Multipliers → multipliers.Multipliers
multipliers_view m = record { divisor = m.divisor; constant = m.constant; factors = m.factors.items }
