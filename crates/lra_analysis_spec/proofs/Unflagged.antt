-- What a derivation with drops says of the written iteration.
use Rattle.std.proofs.Common.{◌≡◌, ℕ, Option, None, Some, refl, inl, inr}
use Rattle.lra_domain.specs.Interference.{Interference, no_interference}
use Rattle.lra_domain.specs.{Abstraction.Abstraction, Laws.Laws, declared.Exactness.Exactness, declared.Exactness.TheVariants.Exact, declared.Exactness.TheVariants.Flagged}
use Rattle.lra_domain.proofs.WorseLaws.{exact_parts}
use Rattle.lra_analysis_spec.specs.Crates.lra_program.Program.{Program}
use Rattle.lra_operations.specs.Tree.{Node}
use Rattle.lra_analysis_spec.specs.UnderInterference.{absorbed, absorbed_exactly, absorbed_straining, IterationUnder, ExactIterationUnder, LossyIterationUnder, StrainsUnder}
use Rattle.lra_analysis_spec.specs.{Analysis.ExactIteration, Analysis.LossyIteration, Analysis.StrainsAtPoint, MovesOf.first_values, Operations.Operations, Operations.exact_operations}
use Rattle.lra_analysis_spec.specs.{Operations.lossy_operations, Operations.straining_operations, Pass.PassResult, Pass.noted, Pass.Absorption, Pass.nothing_absorbed, Plan.Plan}
use Rattle.lra_analysis_spec.proofs.Transfer.{Matters, Transfers, aligned, made, passes_among}

-- all exact, no flag
exact_before : (q : ℕ) (e : Exactness) (f : Option ℕ) → noted q e f ≡ None → (e ≡ Exact) × (f ≡ None)
exact_before q e (Some p) h = cc
exact_before q Exact None h = (refl, refl)
exact_before q Flagged None h = cc

pub none_flagged : Matters (λ e. e ≡ Exact) (λ f. f ≡ None)
none_flagged = record { parts = exact_parts; before = exact_before }

pub any_matters : Matters (λ e. Unit {0}) (λ f. Unit {0})
any_matters = record { parts = λ c d k. (tt, tt); before = λ q e f k. (tt, tt) }

pub exact_ones : {V H : Type 0} (m : Abstraction V H) → Laws m → Transfers (λ e. e ≡ Exact) (lossy_operations m) (exact_operations m)
exact_ones m laws = record {
  changed = λ step v e w k h. (k, h.0.exact k);
  joined = λ u v e w k h. (k, h.0.exact k);
  started = λ v rows h s. s.0.started;
  stays = λ h v mode s. laws.answers_yes h v mode s.0;
  grown = λ h v mode e next k g. (k, laws.answers_no h v mode (g.0.moved k), g.0.exact k);
  valued = λ h e v k s. (k, s.0.exact k);
  void = λ n cap v is. is.0;
}

pub strained_ones : {V H : Type 0} (m : Abstraction V H) → Laws m → Transfers (λ e. Unit {0}) (lossy_operations m) (straining_operations m)
strained_ones m laws = record {
  changed = λ step v e w k h. (h.0.exact, h.0.flagged);
  joined = λ u v e w k h. (h.0.exact, h.0.flagged);
  started = λ v rows h s. s.0.started;
  stays = λ h v mode s. laws.answers_yes h v mode s.0;
  grown = λ h v mode e next k g. (λ is. (laws.answers_no h v mode (g.0.moved is), g.0.exact is), λ is. elim (g.0.flagged is) [ inl a ↦ inl a.0 | inr b ↦ inr b ]);
  valued = λ h e v k s. (s.0.exact, s.0.flagged);
  void = λ n cap v is. is.0;
}

pub same_ones : {V H : Type 0} (ops : Operations V H) → Transfers (λ e. Unit {0}) ops ops
same_ones ops = record {
  changed = λ step v e w k h. h;
  joined = λ u v e w k h. h;
  started = λ v rows head is. is;
  stays = λ head v mode is. is;
  grown = λ head v mode e next k h. h;
  valued = λ head e v k is. is;
  void = λ n cap v is. is;
}

nothing_done : {V H : Type 0} (m : Abstraction V H) (v : V) (e : Exactness) (w : V) → absorbed no_interference m v e w → nothing_absorbed v e w
nothing_done m v Exact w h = (h.0.exact refl, refl)
nothing_done m v Flagged w h = absurd (h.0.flagged refl)

-- from a derivation to an iteration by other operations and with other interference, if the answers that matter agree
module _ {V H : Type 0} (m : Abstraction V H) (b : Operations V H) (Keeps : Exactness → Type 0) (Fine : Option ℕ → Type 0) (matters : Matters Keeps Fine)
    (moves : Transfers Keeps (lossy_operations m) b) (begins : (n cap : ℕ) (v : V) → m.top n cap v × m.well_formed v → b.top n cap v)
    (first second : Absorption V) (takes : (v : V) (e : Exactness) (w : V) → Keeps e → first v e w → second v e w) where
  iterates : (set : Plan) (P : Program) (g : Node) (r : PassResult V) → Fine r.flag → IterationUnder (lossy_operations m) first set P g r
      → IterationUnder (aligned (lossy_operations m) b) second set P g r
  iterates set P g r fine (whole, globals, e, universal, values, pass) =
      let p = passes_among V H (lossy_operations m) b Keeps Fine matters moves first second takes set g (noted 0 e None) globals r fine pass in
      let k = matters.before 0 e None p.0 in
      (whole, globals, e, begins 0 set.parts whole universal, made V H (lossy_operations m) b Keeps Fine matters moves (first_values 0 P.globals) whole e globals k.0 values, p.1)

module _ {V H : Type 0} (m : Abstraction V H) (laws : Laws m) where
  written : (first second : Absorption V) → ((v : V) (e : Exactness) (w : V) → e ≡ Exact → first v e w → second v e w) → (set : Plan) (P : Program) (g : Node)
      (r : PassResult V) → IterationUnder (lossy_operations m) first set P g r → r.flag ≡ None → IterationUnder (exact_operations m) second set P g r
  written first second takes set P g r derived is = iterates m (exact_operations m) (λ e. e ≡ Exact) (λ f. f ≡ None) none_flagged (exact_ones m laws)
      (λ n cap v h. h.0) first second takes set P g r is derived

  strained : (first second : Absorption V) → ((v : V) (e : Exactness) (w : V) → first v e w → second v e w) → (set : Plan) (P : Program) (g : Node)
      (r : PassResult V) → IterationUnder (lossy_operations m) first set P g r → IterationUnder (straining_operations m) second set P g r
  strained first second takes set P g r derived = iterates m (straining_operations m) (λ e. Unit {0}) (λ f. Unit {0}) any_matters (strained_ones m laws)
      (λ n cap v h. h.0) first second (λ v e w k h. takes v e w h) set P g r tt derived

  -- a derivation without a flag is the written iteration
  pub unflagged_is_written : (set : Plan) (P : Program) (g : Node) (r : PassResult V) → LossyIteration m set P g r → r.flag ≡ None → ExactIteration m set P g r
  unflagged_is_written = written nothing_absorbed nothing_absorbed (λ v e w k h. h)

  -- the first flagged operation exceeds a limit on the operands of the written iteration
  pub flagged_strains : (set : Plan) (P : Program) (g : Node) (r : PassResult V) (q : ℕ) → LossyIteration m set P g r → r.flag ≡ Some q → StrainsAtPoint m set P g q
  flagged_strains set P g r q derived is = (r, strained nothing_absorbed nothing_absorbed (λ v e w h. h) set P g r derived, is)

-- under interference, too
pub unflagged_is_written_among : {V H : Type 0} (o : Interference V) (m : Abstraction V H) → Laws m → (set : Plan) (P : Program) (g : Node) (r : PassResult V)
    → LossyIterationUnder o m set P g r → r.flag ≡ None → ExactIterationUnder o m set P g r
unflagged_is_written_among o m laws = written m laws (absorbed o m) (absorbed_exactly o) (λ v e w k h. (k, h.0.exact k))

pub flagged_strains_among : {V H : Type 0} (o : Interference V) (m : Abstraction V H) → Laws m →
    (set : Plan) (P : Program) (g : Node) (r : PassResult V) (q : ℕ)
    → LossyIterationUnder o m set P g r → r.flag ≡ Some q → StrainsUnder o m set P g q
flagged_strains_among o m laws set P g r q derived is =
    (r, strained m laws (absorbed o m) (absorbed_straining o) (λ v e w h. (h.0.exact, h.0.flagged)) set P g r derived, is)

-- without interference a derivation is one of a program that runs alone
pub derived_among_nobody : {V H : Type 0} (m : Abstraction V H) (set : Plan) (P : Program) (g : Node) (r : PassResult V) → LossyIterationUnder no_interference m set P g r → LossyIteration m set P g r
derived_among_nobody m set P g r = iterates m (lossy_operations m) (λ e. Unit {0}) (λ f. Unit {0}) any_matters (same_ones (lossy_operations m))
    (λ n cap v h. h) (absorbed no_interference m) nothing_absorbed (λ v e w k h. nothing_done m v e w h) set P g r tt
