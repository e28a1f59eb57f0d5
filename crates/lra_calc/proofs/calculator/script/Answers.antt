-- Goals of `script`: what a script writes, or why it is refused.
use Rattle.std.proofs.Common.{arith, sym, subst, Err, None}
use Rattle.lra_base.specs.declared.refusals.Place.{Place}
use Rattle.lra_base.proofs.Limit.{limit_is, taken}
use Rattle.lra_calc.proofs.Crates.{lra_duality.GreatestValues.maximum_tells, lra_duality.InclusionLemmas.inclusion_tells, lra_linear_spec.Polyhedra.con_gen}
use Rattle.lra_script.specs.ScriptText.{lines}
use Rattle.lra_calc.specs.Script.{TooLong, Runs, AnswersTo}
use Rattle.lra_calc.proofs.{Endings.answers_by, Limit.answer_too_long, Limit.answer_not_long, OneEnd.one_end, OneRefusal.one_refusal, OneRefusal.never_widens}
use Rattle.lra_calc.proofs.calculator.script.Goals as goal

pub slice_bounds-place_after-end : goal.slice_bounds-place_after-end
slice_bounds-place_after-end c = taken 65536 c.args.bytes.now c.if-bytes-gt-GREATEST_LENGTH.true

pub place_after-place-requires : goal.place_after-place-requires
place_after-place-requires c = let e = taken 65536 c.args.bytes.now c.if-bytes-gt-GREATEST_LENGTH.true in omega arith

pub returns-then-bytes-gt-GREATEST_LENGTH-clause-answer : goal.returns-then-bytes-gt-GREATEST_LENGTH-clause-answer
returns-then-bytes-gt-GREATEST_LENGTH-clause-answer c =
    subst (λ (p : Place). AnswersTo c.args.bytes.now (Err (TooLong p))) (sym c.place_after-place.ensures)
    (answer_too_long 65536 c.args.bytes.now limit_is c.if-bytes-gt-GREATEST_LENGTH.true)

pub returns-clause-answer : goal.returns-clause-answer
returns-clause-answer c = answers_by c.run.result (Runs c.args.bytes.now) (AnswersTo c.args.bytes.now)
    (λ answer r. answer_not_long 65536 c.args.bytes.now answer limit_is c.if-bytes-gt-GREATEST_LENGTH.false r) c.run.ensures

pub returns-then-bytes-gt-GREATEST_LENGTH-clause-one_refusal : goal.returns-then-bytes-gt-GREATEST_LENGTH-clause-one_refusal
returns-then-bytes-gt-GREATEST_LENGTH-clause-one_refusal c = one_refusal c.args.bytes.now

pub returns-then-bytes-gt-GREATEST_LENGTH-clause-one_end : goal.returns-then-bytes-gt-GREATEST_LENGTH-clause-one_end
returns-then-bytes-gt-GREATEST_LENGTH-clause-one_end c = one_end (lines c.args.bytes.now) 1 None

pub returns-then-bytes-gt-GREATEST_LENGTH-clause-both : goal.returns-then-bytes-gt-GREATEST_LENGTH-clause-both
returns-then-bytes-gt-GREATEST_LENGTH-clause-both c = con_gen

pub returns-clause-one_refusal : goal.returns-clause-one_refusal
returns-clause-one_refusal c = one_refusal c.args.bytes.now

pub returns-clause-one_end : goal.returns-clause-one_end
returns-clause-one_end c = one_end (lines c.args.bytes.now) 1 None

pub returns-clause-both : goal.returns-clause-both
returns-clause-both c = con_gen

pub returns-then-bytes-gt-GREATEST_LENGTH-clause-without_widenings : goal.returns-then-bytes-gt-GREATEST_LENGTH-clause-without_widenings
returns-then-bytes-gt-GREATEST_LENGTH-clause-without_widenings c = λ never a h. never_widens c.args.bytes.now a never h

pub returns-then-bytes-gt-GREATEST_LENGTH-clause-inclusions : goal.returns-then-bytes-gt-GREATEST_LENGTH-clause-inclusions
returns-then-bytes-gt-GREATEST_LENGTH-clause-inclusions c = inclusion_tells

pub returns-then-bytes-gt-GREATEST_LENGTH-clause-maxima : goal.returns-then-bytes-gt-GREATEST_LENGTH-clause-maxima
returns-then-bytes-gt-GREATEST_LENGTH-clause-maxima c = maximum_tells

pub returns-clause-without_widenings : goal.returns-clause-without_widenings
returns-clause-without_widenings c = λ never a h. never_widens c.args.bytes.now a never h

pub returns-clause-inclusions : goal.returns-clause-inclusions
returns-clause-inclusions c = inclusion_tells

pub returns-clause-maxima : goal.returns-clause-maxima
returns-clause-maxima c = maximum_tells
