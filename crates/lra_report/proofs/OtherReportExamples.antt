-- Reports that aren't those of a source. Which slip an example would catch stands beside it.
use Rattle.std.proofs.Common.{◌≡◌, ℕ, List, [], ◌∷◌, ap, subst, sym, arith}
use Rattle.std.specs.Prelude.{codes}
use Rattle.lra_options.specs.{declared.options.Domain.TheVariants.Poly, declared.options.Domain.TheVariants.Box, declared.options.Options.Options}
use Rattle.lra_row_text.specs.Part.{Part}
use Rattle.lra_report.specs.{Listing.AreParts, Listing.IsReportOf, Parts.ShowsPart}
use Rattle.lra_report.specs.Crates.lra_syntax.Grammar.{Spells}
use Rattle.lra_report.proofs.PartExamples.{box_with_generator}
use Rattle.lra_report.proofs.ReportTextExamples.{defaults, both, a_point, empty_main, one_variable}

-- a report under other options, one with more parts than it may have, and generators over boxes
apart : defaults Box ≡ defaults Poly → ⊥
apart e = let d : Box ≡ Poly = ap (λ (o : Options). o.domain) e in cc

other_options : (source : List ℕ) → IsReportOf Spells (defaults Poly) source one_variable → ⊥
other_options source h = apart h.options

one_part_more : (p q : Part) → AreParts (defaults Box) (record {
  number = 1;
  point = record { path = []; label = 1 };
  path = codes "main";
  place = record { line = 1; column = 16 };
  names = [];
  state = p ∷ q ∷ [];
}) → ⊥
one_part_more p q h = omega (arith, h.few)

-- so this is the report of no source, under no options
generators_over_boxes : (o : Options) (source : List ℕ) → IsReportOf Spells o source (record empty_main { options = defaults Box }) → ⊥
generators_over_boxes o source h =
    box_with_generator (subst (λ (p : Options). ShowsPart p.domain 0 (both [] (a_point 1 [] ∷ []))) (sym h.options) h.parts.0.tell.0)
