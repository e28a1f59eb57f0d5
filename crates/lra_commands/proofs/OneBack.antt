-- A source that isn't gone back over from an assertion is refused in one way.
use Rattle.std.proofs.Common.{refl, ap}
use Rattle.lra_commands.proofs.Crates.{lra_certificate_spec.OneProgram.as_said, lra_front_end.EachAnswer.each_answer}
use Rattle.lra_commands.specs.Crates.lra_resolution_spec.EntryPoint.{at_main}
use Rattle.lra_commands.specs.Crates.{lra_certificate_spec.Claims.program_of, lra_paths.Paths.HasTooManyPaths}
use Rattle.lra_certify_source.proofs.OneRefusal.{one_source}
use Rattle.lra_back_source.specs.declared.refusals.BackRefusal.TheVariants.{Source, NoAssertion, Paths}
use Rattle.lra_back_source.proofs.OneAnswer.{accepted, same_assertion}
use Rattle.lra_commands.specs.BackAnswer.{OneBackRefusal}

pub one_refusal : OneBackRefusal
one_refusal bytes p (Source r) (Source s) why also =
    let (causes, places) = (each_answer at_main bytes).1 r.cause s.cause r.place s.place why also in
    (λ i. Source (record { cause = causes i; place = places i }))
one_refusal bytes p (Source r) NoAssertion why (y, none) = accepted bytes p y r why
one_refusal bytes p (Source r) (Paths q) why (y, asserts, many) = accepted bytes p y r why
one_refusal bytes p NoAssertion (Source s) (x, none) also = accepted bytes p x s also
one_refusal bytes p NoAssertion NoAssertion why also = refl
one_refusal bytes p NoAssertion (Paths q) (x, none) (y, asserts, many) = absurd (none (same_assertion bytes p x y asserts))
one_refusal bytes p (Paths q) (Source s) (x, asserts, many) also = accepted bytes p x s also
one_refusal bytes p (Paths q) NoAssertion (x, asserts, many) (y, none) = absurd (none (same_assertion bytes p y x asserts))
one_refusal bytes p (Paths q) (Paths k) (x, asserts, many) (y, also, more) =
    ap Paths (one_source (program_of x) x.operations q k many (as_said (λ P g. HasTooManyPaths P g k) bytes x y more))
