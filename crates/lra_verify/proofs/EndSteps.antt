-- The lines after those of the points, to the last, as the code states them.
use Rattle.std.proofs.Common.{◌≡◌, ◌≤◌, ◌<◌, ℕ, Bool, true, false, List, [], ◌∷◌, length, drop, Ok, refl, ap, ◌∙◌, arith, cond, length-drop}
use Rattle.std.proofs.{lemmas.List.drop_all, lemmas.List.Splits.length-slice_split}
use Rattle.std.specs.{List.slice_split, List.onto_first, Prelude.if◌then◌else◌, Prelude.codes}
use Rattle.lra_certificate_lines.specs.{LineViews.IsFault, declared.refusals.VerifyError.VerifyError}
use Rattle.lra_verify.specs.{EdgeViews.sources_by, EdgeViews.listed_by, EdgeViews.violations_by, EdgeViews.rest_by, EdgeViews.sites_in, declared.annotated.AnnotatedProgram.AnnotatedProgram}
use Rattle.lra_verify.specs.Crates.lra_certificate_spec.Judged.{Left, Judged, then_judged, takes, refuses, bad_line, is_nothing, judged_end, counted}
use Rattle.lra_verify.specs.Crates.lra_certificate_spec.Lines.{is_feed, pieces_at, line_number_at, left_at}
use Rattle.lra_certificate_lines.proofs.JudgedLines.{then_ok, then_err, fault_through}

-- ---- nothing comes after the last line
not_nothing : (first : Bool) (x : ℕ) (parts : List (List ℕ)) → 0 < length parts →
    is_nothing (cond first ([] ∷ parts) (onto_first x parts)) ≡ false
not_nothing true x [] h = absurd (omega (arith, h))
not_nothing true x (part ∷ parts) h = refl
not_nothing false x [] h = absurd (omega (arith, h))
not_nothing false x (part ∷ parts) h = refl

something : (rest : List ℕ) → 0 < length rest → is_nothing (slice_split is_feed rest) ≡ false
something [] h = absurd (omega (arith, h))
something (x ∷ xs) h = not_nothing (is_feed x) x (slice_split is_feed xs) (let n = length-slice_split is_feed xs in omega (arith, n))

module _ (bytes : List ℕ) (at next : ℕ) (took : takes (codes "end") (left_at bytes at) ≡ Ok (left_at bytes next)) where
  behind : judged_end (left_at bytes at) ≡ (if is_nothing (pieces_at bytes next) then Ok (left_at bytes next) else refuses (line_number_at bytes next) bad_line)
  behind = then_ok (takes (codes "end") (left_at bytes at)) (λ m. if is_nothing m.pieces then Ok m else refuses m.number bad_line) (left_at bytes next) took

  pub end_taken : next ≡ length bytes → judged_end (left_at bytes at) ≡ Ok (left_at bytes (length bytes))
  end_taken e =
      behind ∙
      ap (λ (rest : List ℕ). if is_nothing (slice_split is_feed rest) then Ok (left_at bytes next) else refuses (line_number_at bytes next) bad_line)
      (drop_all next bytes (omega (arith, e))) ∙
      ap (λ (n : ℕ). Ok (left_at bytes n)) e

  pub end_past : next ≤ length bytes → (next ≡ length bytes → ⊥) → judged_end (left_at bytes at) ≡ refuses (line_number_at bytes next) bad_line
  end_past h isnt =
      behind ∙
      ap (λ (b : Bool). if b then Ok (left_at bytes next) else refuses (line_number_at bytes next) bad_line)
      (something (drop next bytes) (let l = length-drop next bytes in omega (arith, l, h, isnt)))

pub end_fault : (l : Left) (e : VerifyError) → IsFault (takes (codes "end") l) e → IsFault (judged_end l) e
end_fault l e = fault_through (takes (codes "end") l) (judged_end l) e
    (then_err (takes (codes "end") l) (λ m. if is_nothing m.pieces then Ok m else refuses m.number bad_line))

-- ---- all that comes after the points
module _ (w : AnnotatedProgram) (l : Left) where
  abbrev listed : Left → Judged (ℕ × Left)
  listed m = listed_by (violations_by w) 0 (sites_in w) m

  abbrev ended : ℕ × Left → Judged (ℕ × ℕ)
  ended x = counted (length w.sites.now) x

  pub sources_fault : (e : VerifyError) → IsFault (sources_by w l) e → IsFault (rest_by w l) e
  sources_fault e = fault_through (sources_by w l) (rest_by w l) e (then_err (sources_by w l) (λ m. then_judged (listed m) ended))

  module _ (m : Left) (took : sources_by w l ≡ Ok m) where
    behind_sources : rest_by w l ≡ then_judged (listed m) ended
    behind_sources = then_ok (sources_by w l) (λ n. then_judged (listed n) ended) m took

    pub listed_fault : (e : VerifyError) → IsFault (listed m) e → IsFault (rest_by w l) e
    listed_fault e = fault_through (listed m) (rest_by w l) e (λ r is. behind_sources ∙ then_err (listed m) ended r is)

    module _ (proved : ℕ) (n : Left) (read : listed m ≡ Ok (proved, n)) where
      behind_listed : rest_by w l ≡ then_judged (judged_end n) (λ x. Ok (length w.sites.now, proved))
      behind_listed = behind_sources ∙ then_ok (listed m) ended (proved, n) read

      pub last_fault : (e : VerifyError) → IsFault (judged_end n) e → IsFault (rest_by w l) e
      last_fault e = fault_through (judged_end n) (rest_by w l) e
          (λ r is. behind_listed ∙ then_err (judged_end n) (λ x. Ok (length w.sites.now, proved)) r is)

      pub rest_told : (x : Left) → judged_end n ≡ Ok x → rest_by w l ≡ Ok (length w.sites.now, proved)
      rest_told x is = behind_listed ∙ then_ok (judged_end n) (λ y. Ok (length w.sites.now, proved)) x is
