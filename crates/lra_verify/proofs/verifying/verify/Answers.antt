-- Goals of `verify`: what an input must get, by its program and the lines after its source.
use Rattle.std.proofs.Common.{arith, sym, subst}
use Rattle.lra_verify.specs.Crates.{lra_base.declared.refusals.Refusal.Refusal, lra_certificate_spec.Claims.VerifiesTo, lra_certificate_spec.Claims.source_refused}
use Rattle.lra_verify.proofs.RequiredAnswers.{program_sites, program_few, program_live, judged_numbers, judged_refusal, source_deserved}
use Rattle.lra_verify.proofs.verifying.verify.Goals as goal

pub judge-requires-clause-sites : goal.judge-requires-clause-sites
judge-requires-clause-sites c =
    let read = c.in-Ok.ensures in
    let low = c.if-bytes-gt-GREATEST_CERTIFICATE.false in
    program_sites c.args.bytes.now c.in_ok-head.field-0 c.in-Some.head (omega (arith, low)) c.in_ok-head.ensures.head c.in-Some.is c.in-Ok.front
    read.tree read.graph read.program

pub judge-requires-clause-many : goal.judge-requires-clause-many
judge-requires-clause-many c =
    let read = c.in-Ok.ensures in
    let low = c.if-bytes-gt-GREATEST_CERTIFICATE.false in
    program_few c.args.bytes.now c.in_ok-head.field-0 c.in-Some.head (omega (arith, low)) c.in_ok-head.ensures.head c.in-Some.is c.in-Ok.front
    read.tree read.graph read.program

pub judge-requires-clause-live : goal.judge-requires-clause-live
judge-requires-clause-live c =
    let read = c.in-Ok.ensures in
    let low = c.if-bytes-gt-GREATEST_CERTIFICATE.false in
    program_live c.args.bytes.now c.in_ok-head.field-0 c.in-Some.head (omega (arith, low)) c.in_ok-head.ensures.head c.in-Some.is c.in-Ok.front
    read.tree read.graph read.program

pub returns-in-Ok-clause-verified : goal.returns-in-Ok-clause-verified
returns-in-Ok-clause-verified c =
    let read = c.in-Ok.ensures in
    let low = c.if-bytes-gt-GREATEST_CERTIFICATE.false in
    judged_numbers c.args.bytes.now c.in_ok-head.field-0 c.in-Some.head (omega (arith, low)) c.in_ok-head.ensures.head c.in-Some.is c.in-Ok.front
    read.tree read.graph read.program c.judge.result c.judge.ensures

pub returns-in-Ok-clause-refused : goal.returns-in-Ok-clause-refused
returns-in-Ok-clause-refused c =
    let read = c.in-Ok.ensures in
    let low = c.if-bytes-gt-GREATEST_CERTIFICATE.false in
    judged_refusal c.args.bytes.now c.in_ok-head.field-0 c.in-Some.head (omega (arith, low)) c.in_ok-head.ensures.head c.in-Some.is c.in-Ok.front
    read.tree read.graph read.program c.judge.result c.judge.ensures

pub returns-in-Err-Refused-clause-refused : goal.returns-in-Err-Refused-clause-refused
returns-in-Err-Refused-clause-refused c =
    let e = c.in-Err-Refused in
    let low = c.if-bytes-gt-GREATEST_CERTIFICATE.false in
    subst (λ (r : Refusal). VerifiesTo c.args.bytes.now (source_refused r.cause r.place)) (sym e.refusal-is)
    (source_deserved c.args.bytes.now c.in_ok-head.field-0 c.in-Some.head (omega (arith, low)) c.in_ok-head.ensures.head c.in-Some.is
    e.refusal.cause e.refusal.place (rw e.field-0-is at e.ensures.refused))
