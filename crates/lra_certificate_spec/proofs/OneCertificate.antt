-- A text is that of at most one certificate that meets its program: its head reports the source, so both have one
-- program, and what comes after it the rest.
use Rattle.std.proofs.{Common.◌≡◌, Common.◌≤◌, Common.ℕ, Common.pos, Common.List, Common.length, Common.ap, Common.sym, Common.◌∙◌, Common.subst, Common.arith, Common.Some, lemmas.Option.same_Some}
use Rattle.lra_certificate_spec.specs.Crates.{lra_base.Places.greatest_length, lra_linear_spec.Range.InRange, lra_operations.Tree.Node, lra_program.Program.Program}
use Rattle.lra_paths.specs.Paths.{paths_of}
use Rattle.lra_certificate_spec.specs.Claims.{IsProgram, program_of, IsCertificate, OneCertificate}
use Rattle.lra_certificate_spec.specs.{CertificateText.body_text, Certificates.Certificate, Certificates.Certifies, Judged.Head, Judged.head_of}
use Rattle.lra_certificate_spec.proofs.{JudgedBothWays.few_points, OneProgram.as_said, OneText.one_body, WriteCertificate.head_read}

source_short : (source : List ℕ) → length source ≤ greatest_length → InRange (pos (length source))
unfolding greatest_length
source_short source h = omega (arith, h)

abbrev body_of : {bytes : List ℕ} → IsCertificate bytes → List ℕ
body_of x = body_text (paths_of (program_of x.program) x.program.operations) x.certificate

abbrev head_by : {bytes : List ℕ} → IsCertificate bytes → Head
head_by x = record { source = x.certificate.source; rest = body_of x }

head_is : (bytes : List ℕ) (x : IsCertificate bytes) → head_of bytes ≡ Some (head_by x)
head_is bytes x = ap head_of x.text ∙ head_read x.certificate.source (body_of x) (source_short x.certificate.source x.program.read.not_long)

-- with this source and this text after it
abbrev Over : List ℕ → Certificate → List ℕ → Type 0
Over body c source = (x : IsProgram source) × Certifies (program_of x) x.operations c × (body ≡ body_text (paths_of (program_of x) x.operations) c)

pub one_certificate : OneCertificate
one_certificate bytes x y =
    let c = x.certificate in
    let d = y.certificate in
    let P = program_of x.program in
    let g = x.program.operations in
    let heads = same_Some (head_by x) (head_by y) (sym (head_is bytes x) ∙ head_is bytes y) in
    let sources : c.source ≡ d.source = ap (λ (h : Head). h.source) heads in
    let rests : body_of x ≡ body_of y = ap (λ (h : Head). h.rest) heads in
    let other : Over (body_of x) d c.source = subst (λ (s : List ℕ). Over (body_of x) d s) (sym sources) (y.program, y.meets, rests) in
    let meets = as_said (λ (Q : Program) (n : Node). Certifies Q n d) c.source x.program other.0 other.1 in
    let text = as_said (λ (Q : Program) (n : Node). body_of x ≡ body_text (paths_of Q n) d) c.source x.program other.0 other.2 in
    one_body P g c d x.meets meets (let k = few_points x.program in omega (arith, k)) sources text
