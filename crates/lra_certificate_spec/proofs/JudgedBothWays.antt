-- The lines are accepted exactly if the input is a certificate that meets its program.
use Rattle.std.proofs.Common.{◌≡◌, ◌≤◌, ◌+◌, ◌^◌, ℕ, suc, pos, Bool, true, false, List, [], ◌∷◌, ◌++◌, length, ap, sym, ◌∙◌, arith, Option, Some, None, Ok, length-append}
use Rattle.std.proofs.lemmas.Bool.Decides.{nat_tests}
use Rattle.std.specs.Prelude.{if◌then◌else◌, nat_lt}
use Rattle.lra_certificate_spec.specs.Crates.lra_program.Sites.{Event, comes, one_call_more, event_sites, sites_of, events_of}
use Rattle.lra_certificate_spec.specs.Crates.lra_resolution_spec.Refuse.{greatest_live, greatest_points, limit_fault}
use Rattle.lra_certificate_spec.specs.Crates.{lra_base.declared.refusals.Refusal.Refusal, lra_linear_spec.Range.InRange, lra_syntax.Labels.labels_of}
use Rattle.lra_paths.specs.Paths.{paths_of}
use Rattle.lra_certificate_spec.specs.Claims.{IsProgram, program_of, IsVerified, JudgedSo, JudgedExactly}
use Rattle.lra_row_text.specs.Texts.{text_line}
use Rattle.lra_certificate_spec.specs.{CertificateText.numbered_text, CertificateText.head_text, CertificateText.body_text, Judged.Head}
use Rattle.lra_certificate_spec.proofs.{ReadCertificate.verified_of, WriteCertificate.judged_written, WriteCertificate.head_read}

-- ---- a program that is read has few points
not_none : (r : Refusal) → (let o : Option Refusal = Some r in o) ≡ None → ⊥
not_none r e = cc

within : (n : ℕ) → nat_lt greatest_points (suc n) ≡ false → suc n ≤ greatest_points
within n e = grind (arith, nat_tests)

few_by : (a b : Bool) (r s : Refusal) (o : Option Refusal) → (if a then Some r else (if b then Some s else o)) ≡ None → (b ≡ false) × (o ≡ None)
few_by true b r s o e = absurd (not_none r e)
few_by false true r s o e = absurd (not_none s e)
few_by false false r s o e = ((λ i. false), e)

pub few_points : {source : List ℕ} (x : IsProgram source) → length (sites_of (program_of x)) ≤ greatest_points
few_points x = let k = few_behind 0 (events_of (program_of x)) x.graph.within (omega arith) in omega (arith, k)
  where
    few_behind : (n : ℕ) (es : List Event) → limit_fault (labels_of x.tree) n es ≡ None → n ≤ greatest_points → n + length (event_sites es) ≤ greatest_points
    few_behind n [] e h = omega (arith, h)
    few_behind n (comes s ∷ es) e h =
        let b = few_by (nat_lt greatest_live s.live) (nat_lt greatest_points (suc n)) _ _ (limit_fault (labels_of x.tree) (suc n) es) e in
        let k = few_behind (suc n) es b.1 (within n b.0) in
        omega (arith, k)
    few_behind n (one_call_more at ∷ es) e h = absurd (not_none _ e)

-- ---- both ways
source_short : (source rest bytes : List ℕ) → bytes ≡ head_text source ++ rest → length bytes ≤ 2 ^ 24 → InRange (pos (length source))
source_short source rest bytes e h =
    let a = ap (λ (x : List ℕ). length x) e in
    let b = length-append (head_text source) rest in
    let c = length-append (text_line (numbered_text (Rattle.std.specs.Prelude.codes "certificate bytes") (length source))) (text_line source) in
    let d = length-append source (10 ∷ []) in
    omega (arith, a, b, c, d, h)

written_of : (bytes : List ℕ) (points proved : ℕ) → IsVerified bytes points proved → (h : Head) × (x : IsProgram h.source) × JudgedSo bytes h x points proved
written_of bytes points proved v =
    let c = v.is.certificate in
    let P = program_of v.is.program in
    let g = v.is.program.operations in
    let body = body_text (paths_of P g) c in
    let h : Head = record { source = c.source; rest = body } in (
      h,
      v.is.program,
      record {
        short = v.short;
        head = ap Rattle.lra_certificate_spec.specs.Judged.head_of v.is.text ∙ head_read c.source body (source_short c.source body bytes v.is.text v.short);
        few = v.is.few;
        taken = judged_written P g c v.is.meets (let k = few_points v.is.program in omega (arith, k)) ∙ (λ i. Ok (sym v.points_are i, sym v.proved_are i));
      },
    )

pub judged_exactly : JudgedExactly
judged_exactly bytes points proved = (verified_of bytes points proved, written_of bytes points proved)
