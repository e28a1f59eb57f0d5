-- Steps of the proofs on widening thresholds.
use Rattle.std.proofs.Common.{◌≡◌, ℕ, suc, ℤ, pos, negsuc, ◌*ℤ◌, List, [], ◌∷◌, ◌++◌, Option, Some, None, Bool, length, map, take, get_or, ◌+◌, ◌<◌, refl, sym, ap, subst, ◌∙◌, append_assoc}
use Rattle.std.proofs.lemmas.Option.{same_Some}
use Rattle.std.proofs.{Common.append-nil, lemmas.List.map-append, lemmas.List.map_more, lemmas.List.length-map}
use Rattle.std.specs.Prelude.{◌-ℤ◌, neg_ℤ}
use Rattle.lra_analysis_spec.proofs.FormLemmas.{fitting_same}
use Rattle.lra_linearize.specs.Crates.{lra_linear_forms.Form.Form, lra_linear_forms.Form.opposite_form, lra_linear_forms.declared.test.Test.Test, lra_linear_spec.declared.ConKind.ConKind}
use Rattle.lra_linearize.specs.Crates.{lra_linear_spec.declared.ConKind.TheVariants.Ge, lra_linear_spec.declared.ConKind.TheVariants.Eq, lra_program.Program.Cond, lra_program.ProgramViews.all_of}
use Rattle.lra_linearize.specs.Crates.{lra_program.ProgramViews.any_of, lra_program.ProgramViews.cond_view, lra_systems.LinearSystems.LinearSystem}
use Rattle.lra_base.specs.declared.operators.Comparison as declared
use Rattle.lra_base.specs.OperatorViews.{comparison_view}
use Rattle.lra_base.specs.declared.operators.Comparison.TheVariants.{Below, AtMost, Above, AtLeast, Equal, Differs}
use Rattle.lra_linearize.specs.Crates.lra_program.declared.program.Cond as declared_cond
use Rattle.lra_analysis_spec.specs.GuardThresholds.{row_of, test_rows, comparison_rows, guard_rows}
use Rattle.lra_analysis_spec.specs.Linear.{fitting, at_least_zero, comparison_test}
use Rattle.lra_linearize.specs.GuardThresholds.{HasMore}

-- more and more
pub more_none : (s : LinearSystem ConKind) → HasMore s s []
more_none s = record { dims = refl; are = sym (append-nil s.rows); kinds = sym (append-nil s.kinds) }

pub more_both : (s t u : LinearSystem ConKind) (xs ys : List (List ℤ)) → HasMore s t xs → HasMore t u ys → HasMore s u (xs ++ ys)
more_both s t u xs ys h k = record {
  dims = k.dims ∙ h.dims;
  are = k.are ∙ ap (λ (rs : List (List ℤ)). rs ++ ys) h.are ∙ append_assoc s.rows xs ys;
  kinds = k.kinds ∙ ap (λ (ks : List ConKind). ks ++ map (λ (r : List ℤ). Ge) ys) h.kinds ∙ append_assoc s.kinds (map (λ (r : List ℤ). Ge) xs) (map (λ (r : List ℤ). Ge) ys) ∙
      ap (λ (ks : List ConKind). s.kinds ++ ks) (sym (map-append (λ (r : List ℤ). Ge) xs ys));
}

-- the rows of a chain don't distinguish `&&` from `||`
pub any_rows : (live base : ℕ) (wanted : Bool) (c : Cond) (cs : List Cond) → guard_rows live base wanted (any_of c cs) ≡ guard_rows live base wanted (all_of c cs)
any_rows live base wanted c [] = refl
any_rows live base wanted c (d ∷ ds) = ap (λ (rs : List (List ℤ)). guard_rows live base wanted c ++ rs) (any_rows live base wanted d ds)

-- one more of a chain adds its rows
rows_behind : (live base : ℕ) (wanted : Bool) (c : Cond) (cs : List Cond) (d : Cond)
    → guard_rows live base wanted (all_of c (cs ++ d ∷ [])) ≡ guard_rows live base wanted (all_of c cs) ++ guard_rows live base wanted d
rows_behind live base wanted c [] d = refl
rows_behind live base wanted c (e ∷ es) d =
    ap (λ (rs : List (List ℤ)). guard_rows live base wanted c ++ rs) (rows_behind live base wanted e es d) ∙
    sym (append_assoc (guard_rows live base wanted c) (guard_rows live base wanted (all_of e es)) (guard_rows live base wanted d))

pub chain_more : (base : ℕ) (wanted : Bool) (c : Cond) (cs : List declared_cond.Cond) (i : ℕ) (x : declared_cond.Cond) (s t u : LinearSystem ConKind) →
    i < length cs → x ≡ get_or cs i x → HasMore s t (guard_rows s.dims base wanted (all_of c (map cond_view (take i cs)))) →
    HasMore t u (guard_rows t.dims base wanted (cond_view x)) → HasMore s u (guard_rows s.dims base wanted (all_of c (map cond_view (take (i + 1) cs))))
chain_more base wanted c cs i x s t u h is before one =
    let here : map cond_view (take (i + 1) cs) ≡ map cond_view (take i cs) ++ cond_view x ∷ [] =
    map_more cond_view cs i x h ∙ ap (λ (d : declared_cond.Cond). map cond_view (take i cs) ++ cond_view d ∷ []) (sym is) in
    let rows : guard_rows s.dims base wanted (all_of c (map cond_view (take (i + 1) cs))) ≡
    guard_rows s.dims base wanted (all_of c (map cond_view (take i cs))) ++ guard_rows s.dims base wanted (cond_view x) =
    ap (λ (ds : List Cond). guard_rows s.dims base wanted (all_of c ds)) here ∙ rows_behind s.dims base wanted c (map cond_view (take i cs)) (cond_view x) in
    let last : HasMore t u (guard_rows s.dims base wanted (cond_view x)) = subst (λ (n : ℕ). HasMore t u (guard_rows n base wanted (cond_view x))) before.dims one in
    subst (HasMore s u) (sym rows) (more_both s t u _ _ before last)

-- a test has as many coefficients as the difference
from_form_wide : (o : Option Form) (n : ℕ) → ((f : Form) → o ≡ Some f → length f.coefficients ≡ n) → (t : Test) → Some t ≡ at_least_zero o → length t.expr.coefficients ≡ n
from_form_wide None n wide t h = cc
from_form_wide (Some f) n wide t h = ap (λ (x : Test). length x.expr.coefficients) (same_Some t (record { expr = f; kind = Ge }) h) ∙ wide f refl

same_wide : (f g : Form) (n : ℕ) → fitting f ≡ Some g → length f.coefficients ≡ n → length g.coefficients ≡ n
same_wide f g n e h = sym (ap (λ (x : Form). length x.coefficients) (fitting_same f g e)) ∙ h

pub test_wide : (op : declared.Comparison) (d : Form) (t : Test) → Some t ≡ comparison_test (comparison_view op) d → length t.expr.coefficients ≡ length d.coefficients
test_wide Below d t h = from_form_wide _ _ (λ f e. same_wide (opposite_form d) f _ e (length-map d.coefficients neg_ℤ)) t h
test_wide AtMost d t h = from_form_wide _ _ (λ f e. same_wide (record { constant = negsuc 0 *ℤ d.constant; coefficients = map (λ c. negsuc 0 *ℤ c) d.coefficients }) f _ e
    (length-map d.coefficients (λ c. negsuc 0 *ℤ c))) t h
test_wide Above d t h = from_form_wide _ _ (λ f e. same_wide (record { constant = d.constant -ℤ pos 1; coefficients = d.coefficients }) f _ e refl) t h
test_wide AtLeast d t h = ap (λ (x : Test). length x.expr.coefficients) (same_Some t (record { expr = d; kind = Ge }) h)
test_wide Equal d t h = ap (λ (x : Test). length x.expr.coefficients) (same_Some t (record { expr = d; kind = Eq }) h)
test_wide Differs d t h = cc

pub row_width : (f : Form) (more : ℤ) → length (row_of f more) ≡ suc (length f.coefficients)
row_width f more = refl

-- the rows of other comparisons than `==` and `!=`
pub rows_by_test : (op : declared.Comparison) (d : Form) → (op ≡ Equal → ⊥) → (op ≡ Differs → ⊥) → comparison_rows (comparison_view op) (Some d) ≡ test_rows (comparison_test (comparison_view op) d)
rows_by_test Below d n m = refl
rows_by_test AtMost d n m = refl
rows_by_test Above d n m = refl
rows_by_test AtLeast d n m = refl
rows_by_test Equal d n m = absurd (n refl)
rows_by_test Differs d n m = absurd (m refl)
