-- Goals of `push_one`: the lines of an assertion.
use Rattle.std.proofs.Common.{◌∷◌, [], sym, subst, string_bytes, arith}
use Rattle.lra_certify.specs.{WrittenPaths.ListStops, WrittenPaths.IfStopped, declared.failures.CertifyFailure.CertifyFailure}
use Rattle.lra_certify.proofs.PathSteps.{one_listed, failed_assertion}
use Rattle.lra_certify.proofs.listed.push_one.Goals as goal

pub push_assertion-requires : goal.push_assertion-requires
push_assertion-requires c = let m = c.requires.ways.many in let h = c.requires.point in omega (arith, m, h)

pub returns-in-Ok-clause-adds : goal.returns-in-Ok-clause-adds
returns-in-Ok-clause-adds c =
    one_listed c.args.ways.now c.args.point (string_bytes c.args.text.now) (string_bytes c.push_assertion.new.text) (string_bytes c.push_denials.new.text)
    c.in_ok-push_assertion.ensures c.in-Ok.ensures.adds

pub returns-in-Err-clause-failure : goal.returns-in-Err-clause-failure
returns-in-Err-clause-failure c =
    subst (λ (e : CertifyFailure). IfStopped (ListStops c.args.ways.now (c.args.point ∷ [])) e) (sym c.at.ensures)
    (failed_assertion c.args.ways.now c.args.point c.in-Err.failure c.in-Err.ensures.failure)
