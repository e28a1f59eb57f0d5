-- The mark of a tight octagon: what a change leaves of it, and a test that it lets pass.
use Rattle.std.proofs.Common.{◌≡◌, ◌≢◌, ◌<◌, ℕ, ℤ, List, Bool, Option, IsTrue, inl, inr, refl, sym, subst}
use Rattle.std.specs.Prelude.{◌⊎◌}
use Rattle.lra_linear_spec.specs.declared.ConKind.{ConKind}
use Rattle.lra_octagon.specs.Crates.lra_linear_forms.Form.{Form}
use Rattle.lra_domain.specs.{Abstraction.TransfersTo, Actions.assign, Actions.test, declared.Exactness.Exactness, declared.Exactness.TheVariants.Exact}
use Rattle.lra_dbm.specs.Cells.{Cells}
use Rattle.lra_octagon.specs.{Abstraction.octagon_abstraction, Content.CellsFit, Content.content, Content.has_store, Forms.shape, Least.IsTightOrNone, Single.one_tests, Tables.Tests}
use Rattle.lra_octagon.specs.{Tables.assignment_of, declared.assigning.Assignment.TheVariants.Shift, declared.forms.FormShape.TheVariants.Constant}
use Rattle.lra_octagon.proofs.{TightLemmas.assigns_tight, TightLemmas.tests_tight, TightLemmas.unshifted_tight, TightLemmas.varied_tight, TransferLemmas.covers_same}

-- a change is known to make a tight octagon: it is exact, and was made of a tight one or closes
abbrev pub MakesTight : Exactness → Bool → Bool → Bool → Type 0
MakesTight exactness was closes now = IsTrue now → (exactness ≡ Exact) × (IsTrue was ⊎ IsTrue closes)

pub assigned_mark : (n x : ℕ) (e : Form) (old new : Option Cells) (u : Exactness) (was closes now : Bool) → x < n
    → TransfersTo octagon_abstraction (assign x e) (content n old) u (content n new) → MakesTight u was closes now
    → (IsTrue was → IsTightOrNone n old) → (IsTrue closes → (flips : Bool) → assignment_of x (shape e) ≢ Shift flips)
    → IsTrue now → IsTightOrNone n new
assigned_mark n x e old new u was closes now place meets makes tight closed is =
    let known = makes is in
    let by = meets.exact known.0 in
    elim known.1 [
      | inl w ↦ assigns_tight n x e old new place by.1 (tight w)
      | inr w ↦ unshifted_tight n x e old new (closed w) by.1
    ]

pub tested_mark : (n : ℕ) (kind : ConKind) (e : Form) (old new : Option Cells) (u : Exactness) (was closes now : Bool)
    → TransfersTo octagon_abstraction (test kind e) (content n old) u (content n new) → MakesTight u was closes now
    → (IsTrue was → IsTightOrNone n old) → (IsTrue closes → shape e ≢ Constant)
    → IsTrue now → IsTightOrNone n new
tested_mark n kind e old new u was closes now meets makes tight closed is =
    let known = makes is in
    let by = meets.exact known.0 in
    elim known.1 [
      | inl w ↦ tests_tight n kind e old new by.1 (tight w)
      | inr w ↦ varied_tight n kind e old new (closed w) by.1
    ]

-- a test whose defined result is the octagon itself
pub meets_unchanged : (n : ℕ) (kind : ConKind) (e : Form) (a : Option Cells) → CellsFit n a → Tests kind n e a a
    → TransfersTo octagon_abstraction (test kind e) (content n a) Exact (content n a)
meets_unchanged n kind e a fit tests = record {
  formed = fit;
  keeps = λ s t h k. subst (λ (z : List ℤ). has_store n a z) (sym k.1) h;
  covers = λ v d. covers_same n v.cells a v d.0 (one_tests kind n e a v.cells a d.1 tests);
  exact = λ f. (refl, tests);
  flagged = λ f. absurd (cc);
}
