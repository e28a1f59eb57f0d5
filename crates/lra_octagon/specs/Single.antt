-- Each definition of octagons allows one thing.
use Rattle.std.proofs.Common.{◌≡◌, ◌∙◌, ◌+◌, ◌-◌, ℕ, List, Option, None, Some, sym, ap, subst}
use Rattle.std.specs.Prelude.{◌+ℤ◌}
use Rattle.lra_linear_spec.specs.declared.ConKind.{ConKind}
use Rattle.lra_linear_spec.specs.declared.ConKind.TheVariants.{Ge, Eq}
use Rattle.lra_octagon.specs.Crates.lra_linear_forms.Form.{Form}
use Rattle.lra_domain.specs.Actions.{Action, assign, forget, test, embed, remove_last}
use Rattle.lra_domain.specs.Laws.{SingleLaws}
use Rattle.lra_box.specs.{Refine.ge_tested, declared.interval.Interval.Interval}
use Rattle.lra_dbm.specs.Cells.{Cells, entries, first_entries, forgotten}
use Rattle.lra_dbm.specs.{Closure.IsClosure, Tight.Entries}
use Rattle.lra_dbm.proofs.Closures.{same_closure, same_entries_cells}
use Rattle.lra_octagon.specs.Laws.{one_closed, same_content, whole_cells}
use Rattle.lra_octagon.specs.Tables.{Assigns, AssignsTo, Becomes, BoundsTo, Forgets, OctagonTransfersTo, Tests, TestsTo}
use Rattle.lra_octagon.specs.Tables.{alone, assignment_of, at_least, bounded, equated, form_interval, intervals}
use Rattle.lra_octagon.specs.Tables.{minus_form, quotient}
use Rattle.lra_octagon.specs.declared.assigning.Assignment.TheVariants.{Equate, Shift, Bound}
use Rattle.lra_octagon.specs.declared.forms.FormShape.TheVariants.{Constant, One, Two, Other}
use Rattle.lra_octagon.specs.{Abstraction.octagon_abstraction, Content.OctagonContent, Forms.shape}
use Rattle.lra_octagon.specs.{declared.assigning.Assignment.Assignment, declared.forms.FormShape.FormShape}

pub one_becomes : (k n : ℕ) (f : Entries → Entries) (old a b : Option Cells) → Becomes k f n old a
    → Becomes k f n old b → a ≡ b
one_becomes k n f None a b p q = p ∙ sym q
one_becomes k n f (Some old) None b p q = absurd p
one_becomes k n f (Some old) (Some cs) None p q = absurd q
one_becomes k n f (Some old) (Some cs) (Some ds) p q =
    ap Some (same_entries_cells k cs ds p.0.full q.0.full (λ i j h l. p.1 i j ∙ sym (q.1 i j)))

pub one_forgets : (n x : ℕ) (old a b : Cells) → Forgets n x old a → Forgets n x old b → a ≡ b
one_forgets n x old a b p q =
    same_entries_cells n a b p.is.full q.is.full (λ i j h k. p.entries i j ∙ sym (q.entries i j))

one_assigned : (n x : ℕ) (e : Form) (a : Assignment) (old : Cells) (v w : Option Cells) → AssignsTo n x e a old v
    → AssignsTo n x e a old w → v ≡ w
one_assigned n x e (Shift flips) old None w p q = absurd p
one_assigned n x e (Shift flips) old (Some cs) None p q = absurd q
one_assigned n x e (Shift flips) old (Some cs) (Some ds) p q =
    ap Some (same_entries_cells n cs ds p.is.full q.is.full (λ i j h k. p.entries i j h k ∙ sym (q.entries i j h k)))
one_assigned n x e (Equate i) old v w p q = same_closure n (entries n (equated x i e.constant p.0)) v w p.2
    (subst (λ (c : Cells). IsClosure n (entries n (equated x i e.constant c)) w)
    (one_forgets n x old q.0 p.0 q.1 p.1) q.2)
one_assigned n x e Bound old v w p q =
    same_closure n (bounded (alone n x (form_interval n (entries n old) e)) (entries n p.0)) v w p.2
    (subst (λ (c : Cells). IsClosure n (bounded (alone n x (form_interval n (entries n old) e)) (entries n c)) w)
    (one_forgets n x old q.0 p.0 q.1 p.1) q.2)

one_assigns : (n x : ℕ) (e : Form) (old v w : Option Cells) → Assigns n x e old v → Assigns n x e old w → v ≡ w
one_assigns n x e None v w p q = p ∙ sym q
one_assigns n x e (Some old) v w p q = one_assigned n x e (assignment_of x (shape e)) old v w p q

one_bounds : (n : ℕ) (old : Cells) (is : Option (List Interval)) (v w : Option Cells) → BoundsTo n old is v
    → BoundsTo n old is w → v ≡ w
one_bounds n old None v w p q = p ∙ sym q
one_bounds n old (Some is) v w p q = same_closure n (bounded is (entries n old)) v w p q

one_tested : (n : ℕ) (e : Form) (s : FormShape) (old v w : Option Cells) → TestsTo n e s old v → TestsTo n e s old w →
    v ≡ w
one_tested n e s None v w p q = p ∙ sym q
one_tested n e Constant (Some old) v w p q = p ∙ sym q
one_tested n e (One m i) (Some old) v w p q =
    same_closure n (entries n (at_least i i (quotient e m +ℤ quotient e m) old)) v w p q
one_tested n e (Two m i j) (Some old) v w p q = same_closure n (entries n (at_least i j (quotient e m) old)) v w p q
one_tested n e Other (Some old) v w p q =
    one_bounds n old (ge_tested e.constant e.coefficients (Some (intervals n (entries n old)))) v w p q

pub one_tests : (kind : ConKind) (n : ℕ) (e : Form) (old v w : Option Cells) → Tests kind n e old v
    → Tests kind n e old w → v ≡ w
one_tests Ge n e old v w p q = one_tested n e (shape e) old v w p q
one_tests Eq n e old v w p q = one_tested n (minus_form e) (shape (minus_form e)) p.0 v w p.2
    (subst (λ (o : Option Cells). TestsTo n (minus_form e) (shape (minus_form e)) o w)
    (one_tested n e (shape e) old q.0 p.0 q.1 p.1) q.2)

one_step : (step : Action) (a v w : OctagonContent) → OctagonTransfersTo step a v → OctagonTransfersTo step a w → v ≡ w
one_step (assign x e) a v w p q =
    same_content v w a.dims p.0 q.0 (one_assigns a.dims x e a.cells v.cells w.cells p.1 q.1)
one_step (forget x) a v w p q =
    same_content v w a.dims p.0 q.0 (one_becomes a.dims a.dims (forgotten x) a.cells v.cells w.cells p.1 q.1)
one_step (test kind e) a v w p q =
    same_content v w a.dims p.0 q.0 (one_tests kind a.dims e a.cells v.cells w.cells p.1 q.1)
one_step (embed k) a v w p q =
    same_content v w (a.dims + k) p.0 q.0 (one_becomes (a.dims + k) a.dims (λ m. m) a.cells v.cells w.cells p.1 q.1)
one_step (remove_last k) a v w p q = same_content v w (a.dims - k) p.0 q.0
    (one_becomes (a.dims - k) a.dims (first_entries (a.dims - k)) a.cells v.cells w.cells p.1 q.1)

pub octagon_single : SingleLaws octagon_abstraction
octagon_single = record {
  one_top = λ n cap v w e f. same_content v w n e.0 f.0 (whole_cells n v.cells w.cells e.1 f.1);
  one_bottom = λ n cap v w e f. e ∙ sym f;
  one_transferred = one_step;
  one_joined = λ a b v w e f. e ∙ sym f;
  one_started = λ v given g h e f. e ∙ sym f;
  one_grown = λ h v mode i j e f. e ∙ sym f;
  one_valued = λ h v w e f. same_content v w h.dims e.0 f.0 (one_closed h.dims h.cells v.cells w.cells e.1 f.1);
}
