-- What is found with drops says of what is defined: without a flag it is that, and what is flagged first exceeds a
-- limit there.
use Rattle.std.proofs.Common.{◌≡◌, ℕ, List, Option, None}
use Rattle.lra_domain.specs.{Abstraction.Abstraction, Backward.BackwardAbstraction, Laws.Laws, declared.Exactness.TheVariants.Exact}
use Rattle.lra_program.specs.{Sites.Site, declared.program.GlobalVariable.GlobalVariable}
use Rattle.lra_operations.specs.Tree.{Node}
use Rattle.lra_back.proofs.Crates.lra_analysis_spec.Unflagged.{none_flagged, any_matters, exact_ones, strained_ones}
use Rattle.lra_back.specs.BackwardAnalysis.{BackwardAnalysis, IsBackwardAnalysis}
use Rattle.lra_back.specs.Operations.{exact_back_operations, lossy_back_operations, straining_back_operations}
use Rattle.lra_back.proofs.Moved.{TransfersBack, backs}

exact_back : {V H : Type 0} (m : Abstraction V H) (b : BackwardAbstraction V) → Laws m →
    TransfersBack (λ e. e ≡ Exact) (lossy_back_operations m b) (exact_back_operations m b)
exact_back m b laws = record {
  forward = exact_ones m laws;
  undone = λ step v e w k h. (k, h.0.exact k);
  met = λ u v e w k h. (k, h.0.exact k);
}

strained_back : {V H : Type 0} (m : Abstraction V H) (b : BackwardAbstraction V) → Laws m →
    TransfersBack (λ e. Unit {0}) (lossy_back_operations m b) (straining_back_operations m b)
strained_back m b laws = record {
  forward = strained_ones m laws;
  undone = λ step v e w k h. (h.0.exact, h.0.flagged);
  met = λ u v e w k h. (h.0.exact, h.0.flagged);
}

pub traced : {V H : Type 0} (m : Abstraction V H) (b : BackwardAbstraction V) → Laws m →
    (globals : List GlobalVariable) (sites : List Site) (g : Node) (forward : List V)
    (f : Option ℕ) (p : ℕ) (values : List V) (flag : Option ℕ) → BackwardAnalysis (lossy_back_operations m b) globals sites g forward f p values flag
    → IsBackwardAnalysis m b globals sites g forward f p values flag
traced {V} {H} m b laws globals sites g forward f p values flag found =
    let exact = backs V H (lossy_back_operations m b) (exact_back_operations m b) (λ e. e ≡ Exact) (λ f. f ≡ None) none_flagged (exact_back m b laws) in
    let strained = backs V H (lossy_back_operations m b) (straining_back_operations m b) (λ e. Unit {0}) (λ f. Unit {0}) any_matters (strained_back m b laws) in
    record {
      drops = found;
      written = λ is. exact globals sites g forward f p values flag is found;
      strained = strained globals sites g forward f p values flag tt found;
    }
