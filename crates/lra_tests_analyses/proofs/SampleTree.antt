-- The tree of the worked example has each of its points once.
use Rattle.std.proofs.Common.{◌≡◌, ℕ, zero, suc, ◌<◌, ◌≤◌, List, [], ◌∷◌, length, map, Option, Some, None, Bool, cond, inl, inr, refl, sym, ap, ◌∙◌, subst, arith}
use Rattle.std.proofs.{lemmas.List.length-map, lemmas.Option.none-some, lemmas.Option.slice_get-map, lemmas.Option.slice_get_cases, lemmas.Option.slice_get_within}
use Rattle.std.specs.Prelude.{slice_get, option_map}
use Rattle.lra_tests_analyses.specs.Crates.lra_base.declared.number_types.NumberType.{NumberType}
use Rattle.lra_tests_analyses.specs.Crates.lra_fixpoint.Numbers.{one_if, values_in, checks_in, asserts_of, IsNumbered}
use Rattle.lra_program.specs.{Program.Expr, Program.Cond, Receivers.variable_at, Sites.Site, Step.append, Step.store_value}
use Rattle.lra_operations.specs.{Tree.Node, Tree.point, Tree.act, Tree.check, Tree.seq, Tree.choose, TreeViews.site_view}
use Rattle.lra_operations.specs.declared.tree.Site as coded
use Rattle.lra_tests_analyses.specs.Sample.{sample_asserts}
use Rattle.lra_tests_analyses.proofs.Crates.lra_fixpoint.Counting.{one_other}

abbrev pub sample_tree : NumberType → Expr → Cond → Cond → Cond → Node
sample_tree t e c d f =
    seq (point 0) (seq (act 0 (append t)) (seq (act 0 (store_value 0 (variable_at 0 t) e)) (seq (seq (point 1) (choose 1 0 c (seq (point 2) (check 2 0 d)) (seq (point 3) (check 3 0 f)))) (point 4))))

past : (sites : List Site) (k : ℕ) → slice_get sites k ≡ None → length sites ≤ k
past sites k none = elim (slice_get_cases sites k).1 [ inl found ↦ absurd (none-some found.0 (sym none ∙ found.2)) | inr behind ↦ behind.0 ]

flag_count : Option Bool → ℕ
flag_count None = 0
flag_count (Some b) = cond b 1 0

asserts_count : (o : Option Site) → asserts_of o ≡ flag_count (option_map (λ (s : Site). s.asserts) o)
unfolding flag_count
asserts_count None = refl
asserts_count (Some s) = refl

module _ (t : NumberType) (e : Expr) (c d f : Cond) where
  values_once : (k : ℕ) → k < 5 → values_in (sample_tree t e c d f) k ≡ 1
  unfolding one_if
  values_once zero h = refl
  values_once (suc zero) h = refl
  values_once (suc (suc zero)) h = refl
  values_once (suc (suc (suc zero))) h = refl
  values_once (suc (suc (suc (suc zero)))) h = refl
  values_once (suc (suc (suc (suc (suc k))))) h = absurd (omega (arith, h))

  no_more_values : (k : ℕ) → 5 ≤ k → values_in (sample_tree t e c d f) k ≡ 0
  no_more_values k h =
      let a = one_other 0 k (λ e. omega (arith, h, e)) in
      let b = one_other 1 k (λ e. omega (arith, h, e)) in
      let p = one_other 2 k (λ e. omega (arith, h, e)) in
      let q = one_other 3 k (λ e. omega (arith, h, e)) in
      let r = one_other 4 k (λ e. omega (arith, h, e)) in
      omega (arith, a, b, p, q, r)

  checks_once : (k : ℕ) → checks_in (sample_tree t e c d f) k ≡ flag_count (slice_get sample_asserts k)
  unfolding one_if flag_count
  checks_once zero = refl
  checks_once (suc zero) = refl
  checks_once (suc (suc zero)) = refl
  checks_once (suc (suc (suc zero))) = refl
  checks_once (suc (suc (suc (suc zero)))) = refl
  checks_once (suc (suc (suc (suc (suc k))))) =
      let p = one_other 2 (suc (suc (suc (suc (suc k))))) (λ e. omega (arith, e)) in
      let q = one_other 3 (suc (suc (suc (suc (suc k))))) (λ e. omega (arith, e)) in
      omega (arith, p, q)

pub sample_numbered : (T : List Site) (g : Node) (t : NumberType) (e : Expr) (c d f : Cond) → g ≡ sample_tree t e c d f → map (λ (s : Site). s.asserts) T ≡ sample_asserts → IsNumbered T g
sample_numbered T g t e c d f is are = subst (λ (h : Node). IsNumbered T h) (sym is) (record {
  values = λ k s there. values_once t e c d f k (let h = slice_get_within T k s there in omega (arith, long, h));
  no_values = λ k there. no_more_values t e c d f k (let h = past T k there in omega (arith, long, h));
  checks = λ k. checks_once t e c d f k ∙ sym (asserts_count (slice_get T k) ∙ ap flag_count (sym (slice_get-map (λ (s : Site). s.asserts) T k) ∙ ap (λ (bs : List Bool). slice_get bs k) are));
})
  where
    long : length T ≡ 5
    long = sym (length-map T (λ (s : Site). s.asserts)) ∙ ap length are

pub asserts_seen : (sites : List coded.Site) → map (λ (s : Site). s.asserts) (map site_view sites) ≡ map (λ (s : coded.Site). s.asserts) sites
asserts_seen [] = refl
asserts_seen (s ∷ sites) = ap (λ (bs : List Bool). s.asserts ∷ bs) (asserts_seen sites)
