-- Two rays of a cone that share few tight rows have a third ray that is tight wherever both are.
use Rattle.std.proofs.Common.{◌≡◌, ℕ, suc, ◌+◌, ◌-◌, ◌<◌, Bool, true, false, cond, List, [], ◌∷◌, length, get_or, refl, ap, sym, ◌∙◌, subst, arith, pos, ℤ, inl, inr}
use Rattle.std.proofs.{lemmas.Bool.and_from, lemmas.List.Elements.Contains-get_or}
use Rattle.std.specs.{List.Contains, Ordering.int_eq, Prelude.◌&&◌}
use Rattle.lra_cone.specs.Crates.lra_bits.TruthValues.{IsSubset, both, true_count}
use Rattle.lra_cone.specs.Crates.{lra_linear_spec.Descriptions.LinearRow, lra_linear_spec.Descriptions.system_of, lra_linear_spec.Vectors.entry, lra_linear_spec.Vectors.product}
use Rattle.lra_cone.proofs.Crates.lra_linear_spec.Membership.{contains_head, contains_none, contains_tail}
use Rattle.lra_double_description.specs.{Pairs.HasThird, Pairs.both_tight, Thirds.FewHaveThird}
use Rattle.lra_cone.specs.Cones.{ConeContent, IsCone, tight_values, saturation_rows}
use Rattle.lra_cone.proofs.ThirdRays.{AreTight, third_ray}
use Rattle.lra_cone.proofs.TightRows.{either_tight, row_at, rows_length, subset_from, tight_either, with_cases, zero_yes}

-- ---- the rows that are tight at both
abbrev is_common : List ℤ → List ℤ → LinearRow → Bool
is_common u d g = int_eq (product g.row u) (pos 0) && int_eq (product g.row d) (pos 0)

abbrev common_rows : List LinearRow → List ℤ → List ℤ → List (List ℤ)
common_rows [] u d = []
common_rows (g ∷ taken) u d = cond (is_common u d g) (g.row ∷ common_rows taken u d) (common_rows taken u d)

common_many : (taken : List LinearRow) (u d : List ℤ) → length (common_rows taken u d) ≡ true_count (both (tight_values taken u) (tight_values taken d))
common_many [] u d = refl
common_many (g ∷ taken) u d = by_test (is_common u d g) g.row (common_rows taken u d) (true_count (both (tight_values taken u) (tight_values taken d))) (common_many taken u d)
  where
    by_test : (b : Bool) (r : List ℤ) (rows : List (List ℤ)) (n : ℕ) → length rows ≡ n → length (cond b (r ∷ rows) rows) ≡ cond b (suc n) n
    by_test true r rows n e = ap suc e
    by_test false r rows n e = e

common_later : (b : Bool) (r : List ℤ) (rows : List (List ℤ)) (c : List ℤ) → Contains rows c → Contains (cond b (r ∷ rows) rows) c
common_later true r rows c k = contains_tail r c rows k
common_later false r rows c k = k

common_tight : (taken : List LinearRow) (u d : List ℤ) → AreTight (common_rows taken u d) (system_of taken) u d
common_tight [] u d x h s m e f = absurd (contains_none s m)
common_tight (g ∷ taken) u d x h s m e f =
    let rows = common_rows taken u d in
    elim (with_cases g.equal g.row (system_of taken) s m) [
      | inl y ↦
          let here : is_common u d g ≡ true = and_from (int_eq (product g.row u) (pos 0)) (int_eq (product g.row d) (pos 0))
          (zero_yes (product g.row u) (either_tight g.row s (entry u) y e)) (zero_yes (product g.row d) (either_tight g.row s (entry d) y f)) in
          tight_either g.row s (entry x) y (h g.row (subst (λ (b : Bool). Contains (cond b (g.row ∷ rows) rows) g.row) (sym here) (contains_head g.row rows)))
      | inr n ↦ common_tight taken u d x (λ c k. h c (common_later (is_common u d g) g.row rows c k)) s n e f
    ]

-- ---- two rays of a cone
pub few_common : (s : ConeContent) → IsCone s → (i j : ℕ) → i < length s.rays → j < length s.rays → true_count (both_tight (saturation_rows s.taken s.rays) i j) + length s.lines + 2 < suc s.dims →
    HasThird (saturation_rows s.taken s.rays) i j (both_tight (saturation_rows s.taken s.rays) i j)
few_common s k i j hi hj small =
    let rows = saturation_rows s.taken s.rays in
    let u = get_or s.rays i [] in
    let d = get_or s.rays j [] in
    let is : both_tight rows i j ≡ both (tight_values s.taken u) (tight_values s.taken d) =
    ap (λ (x : List Bool). both x (get_or rows j [])) (row_at s.taken s.rays i hi) ∙ ap (both (tight_values s.taken u)) (row_at s.taken s.rays j hj) in
    let t = third_ray (suc s.dims) (system_of s.taken) s.lines s.rays (common_rows s.taken u d) u d k.dual (Contains-get_or s.rays i [] hi) (Contains-get_or s.rays j [] hj)
    (omega (arith, small, common_many s.taken u d, ap true_count is)) (common_tight s.taken u d) in
    record {
      third = t.place;
      inside = omega (arith, t.inside, rows_length s.taken s.rays);
      not_up = λ e. t.not_up (ap (λ (n : ℕ). get_or s.rays n []) e);
      not_down = λ e. t.not_down (ap (λ (n : ℕ). get_or s.rays n []) e);
      covers = subst (λ (x : List Bool). IsSubset x (get_or rows t.place [])) (sym is)
          (subst (IsSubset (both (tight_values s.taken u) (tight_values s.taken d))) (sym (row_at s.taken s.rays t.place t.inside))
          (subset_from s.taken u d (get_or s.rays t.place []) t.tight));
    }

pub few_have_third : (s : ConeContent) (least : ℕ) → IsCone s → least ≡ s.dims - length s.lines - 1 → FewHaveThird (saturation_rows s.taken s.rays) least
few_have_third s least k is i j hi hj few =
    let many = rows_length s.taken s.rays in
    few_common s k i j (omega (arith, hi, many)) (omega (arith, hj, many)) (omega (arith, is, few))
