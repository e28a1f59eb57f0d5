-- Worked examples: a loop's variable that is at least 0 and at most 9, a value that is known, and a claim without multipliers.
use Rattle.std.proofs.Common.{◌≡◌, ℕ, suc, ℤ, pos, negsuc, ◌+ℤ◌, ◌*ℤ◌, ◌≤ℤ◌, ◌<ℤ◌, List, [], ◌∷◌, length, refl, sym, ◌∙◌, subst, inl, inr, arith}
use Rattle.std.proofs.lemmas.Int.{ints}
use Rattle.std.specs.declared.cmp.Ordering.TheVariants.{Less}
use Rattle.lra_farkas.specs.Crates.lra_linear_spec.Descriptions.{LinearRow, equality, inequality, Con, Holds}
use Rattle.lra_farkas.specs.Crates.{lra_linear_spec.Points.IsEmptySet, lra_linear_spec.RowOrder.row_cmp, lra_linear_spec.Vectors.entry}
use Rattle.lra_farkas.proofs.Crates.lra_linear_spec.Descriptions.{con_none, con_cons, con_head, con_tail}
use Rattle.lra_farkas.proofs.Crates.lra_linear_spec.Membership.{contains_none, contains_cases}
use Rattle.lra_farkas.proofs.Crates.lra_linear_spec.Ring.{ring, v, ◌⊕◌, ◌⊗◌}
use Rattle.lra_multipliers.specs.Multipliers.{IsFarkasCertificate}
use Rattle.lra_farkas.specs.MultiplierRows.{multiplier_rows, AreAsWide}
use Rattle.lra_farkas.proofs.ShownPoints.{points_show}

-- ---- from i >= 0 and 9 - i >= 0 it follows that 1 + i >= 0
abbrev below_ten : List LinearRow
below_ten = inequality (pos 0 ∷ pos 1 ∷ []) ∷ inequality (pos 9 ∷ negsuc 0 ∷ []) ∷ []

abbrev one_more : List ℤ
one_more = pos 1 ∷ pos 1 ∷ []

abbrev constant_column : LinearRow
constant_column = equality (negsuc 0 ∷ pos 1 ∷ pos 0 ∷ pos 9 ∷ [])

abbrev variable_column : LinearRow
variable_column = equality (negsuc 0 ∷ pos 0 ∷ pos 1 ∷ negsuc 0 ∷ [])

abbrev one_sign : LinearRow
one_sign = inequality (pos 0 ∷ pos 1 ∷ pos 0 ∷ pos 0 ∷ [])

abbrev least_sign : LinearRow
least_sign = inequality (pos 0 ∷ pos 0 ∷ pos 1 ∷ pos 0 ∷ [])

abbrev most_sign : LinearRow
most_sign = inequality (pos 0 ∷ pos 0 ∷ pos 0 ∷ pos 1 ∷ [])

-- the multiplier of 1 >= 0 has a factor in the column of the constants alone
pub counted_rows : multiplier_rows below_ten one_more ≡ constant_column ∷ variable_column ∷ one_sign ∷ least_sign ∷ most_sign ∷ []
counted_rows = refl

-- rows of one width
two_wide : (g h : LinearRow) (claim : List ℤ) → length claim ≡ 2 → length g.row ≡ 2 → length h.row ≡ 2 → AreAsWide (g ∷ h ∷ []) claim
two_wide g h claim e eg eh = record {
  some = omega (arith, e);
  each = λ f k. elim (contains_cases g f (h ∷ []) k) [
    | inl s ↦ subst (λ (x : LinearRow). length x.row ≡ length claim) s (omega (arith, e, eg))
    | inr d ↦ elim (contains_cases h f [] d) [
      | inl s ↦ subst (λ (x : LinearRow). length x.row ≡ length claim) s (omega (arith, e, eh))
      | inr n ↦ absurd (contains_none f n)
    ]
  ];
}

at_least : (n : ℕ) → pos 0 ≤ℤ pos n
at_least n = omega (arith, ints)

above : (n : ℕ) → pos 0 <ℤ pos (suc n)
above n = omega (arith, ints)

five_hold : (a b c d e : LinearRow) (x : List ℤ) → Holds a x → Holds b x → Holds c x → Holds d x → Holds e x → Con (a ∷ b ∷ c ∷ d ∷ e ∷ []) x
five_hold a b c d e x ha hb hc hd he =
    con_cons a (b ∷ c ∷ d ∷ e ∷ []) x ha (con_cons b (c ∷ d ∷ e ∷ []) x hb (con_cons c (d ∷ e ∷ []) x hc
    (con_cons d (e ∷ []) x hd (con_cons e [] x he (con_none x)))))

shown_by : (d : ℕ) (l0 l1 l2 : ℤ) → Con (constant_column ∷ variable_column ∷ one_sign ∷ least_sign ∷ most_sign ∷ []) (pos (suc d) ∷ l0 ∷ l1 ∷ l2 ∷ []) →
    IsFarkasCertificate below_ten one_more (record { divisor = pos (suc d); constant = l0; factors = l1 ∷ l2 ∷ [] })
shown_by d l0 l1 l2 h =
    (points_show below_ten one_more (record { divisor = pos (suc d); constant = l0; factors = l1 ∷ l2 ∷ [] })
    (two_wide (inequality (pos 0 ∷ pos 1 ∷ [])) (inequality (pos 9 ∷ negsuc 0 ∷ [])) one_more refl refl refl)).0 (record {
      is_point = record { width = refl; divisor = above d };
      meets = subst (λ (gs : List LinearRow). Con gs (pos (suc d) ∷ l0 ∷ l1 ∷ l2 ∷ [])) (sym counted_rows) h;
    })

-- nine times the claim is ten times the one premise and the other; the claim is 1 and the one premise
abbrev nine_times : List ℤ
nine_times = pos 9 ∷ pos 0 ∷ pos 10 ∷ pos 1 ∷ []

abbrev with_one : List ℤ
with_one = pos 1 ∷ pos 1 ∷ pos 1 ∷ pos 0 ∷ []

pub nine_times_shows : IsFarkasCertificate below_ten one_more (record { divisor = pos 9; constant = pos 0; factors = pos 10 ∷ pos 1 ∷ [] })
nine_times_shows = shown_by 8 (pos 0) (pos 10) (pos 1)
    (five_hold constant_column variable_column one_sign least_sign most_sign nine_times refl refl (at_least 0) (at_least 10) (at_least 1))

pub with_one_shows : IsFarkasCertificate below_ten one_more (record { divisor = pos 1; constant = pos 1; factors = pos 1 ∷ pos 0 ∷ [] })
with_one_shows = shown_by 0 (pos 1) (pos 1) (pos 0)
    (five_hold constant_column variable_column one_sign least_sign most_sign with_one refl refl (at_least 1) (at_least 1) (at_least 0))

-- points are in the order of their whole numbers, not of their coordinates: the multipliers 9 0 10 1 come first
pub first_by_numbers : row_cmp nine_times with_one ≡ Less
first_by_numbers = refl

-- ---- from x = 3 it follows that 3 - x >= 0: the multiplier of an equality has no row of its own
pub known_rows : multiplier_rows (equality (negsuc 2 ∷ pos 1 ∷ []) ∷ []) (pos 3 ∷ negsuc 0 ∷ []) ≡
    equality (negsuc 2 ∷ pos 1 ∷ negsuc 2 ∷ []) ∷ equality (pos 1 ∷ pos 0 ∷ pos 1 ∷ []) ∷ inequality (pos 0 ∷ pos 1 ∷ pos 0 ∷ []) ∷ []
known_rows = refl

-- ---- from i >= 0 it doesn't follow that i - 1 >= 0: no multipliers show it
abbrev at_least_zero : List LinearRow
at_least_zero = inequality (pos 0 ∷ pos 1 ∷ []) ∷ []

abbrev at_least_one : List ℤ
at_least_one = negsuc 0 ∷ pos 1 ∷ []

abbrev sum_column : LinearRow
sum_column = equality (pos 1 ∷ pos 1 ∷ pos 0 ∷ [])

abbrev other_column : LinearRow
other_column = equality (negsuc 0 ∷ pos 0 ∷ pos 1 ∷ [])

abbrev first_sign : LinearRow
first_sign = inequality (pos 0 ∷ pos 1 ∷ pos 0 ∷ [])

abbrev second_sign : LinearRow
second_sign = inequality (pos 0 ∷ pos 0 ∷ pos 1 ∷ [])

unshown_rows : multiplier_rows at_least_zero at_least_one ≡ sum_column ∷ other_column ∷ first_sign ∷ second_sign ∷ []
unshown_rows = refl

-- a divisor above 0 and a multiplier that isn't below 0 have no sum 0
apart : (d c : ℤ) → pos 0 <ℤ d → d +ℤ c ≡ pos 0 → pos 0 ≤ℤ c → ⊥
apart d c h e s = omega (arith, ints, h, e, s)

no_sum : (d c l : ℤ) → pos 0 <ℤ d → (pos 1 *ℤ d) +ℤ ((pos 1 *ℤ c) +ℤ ((pos 0 *ℤ l) +ℤ pos 0)) ≡ pos 0 →
    pos 0 ≤ℤ ((pos 0 *ℤ d) +ℤ ((pos 1 *ℤ c) +ℤ ((pos 0 *ℤ l) +ℤ pos 0))) → ⊥
no_sum d c l h e s =
    apart d c h
    (ring (v d ⊕ v c) (v (pos 1) ⊗ v d ⊕ (v (pos 1) ⊗ v c ⊕ (v (pos 0) ⊗ v l ⊕ v (pos 0)))) (omega arith) ∙ e)
    (subst (λ (z : ℤ). pos 0 ≤ℤ z) (ring (v (pos 0) ⊗ v d ⊕ (v (pos 1) ⊗ v c ⊕ (v (pos 0) ⊗ v l ⊕ v (pos 0)))) (v c) (omega arith)) s)

pub none_shows : IsEmptySet 2 (Con (multiplier_rows at_least_zero at_least_one))
none_shows x is_point held =
    let h = subst (λ (gs : List LinearRow). Con gs x) unshown_rows held in
    let rest = con_tail sum_column (other_column ∷ first_sign ∷ second_sign ∷ []) x h in
    let signs = con_tail other_column (first_sign ∷ second_sign ∷ []) x rest in
    no_sum (entry x 0) (entry x 1) (entry x 2) is_point.divisor
    (con_head sum_column (other_column ∷ first_sign ∷ second_sign ∷ []) x h) (con_head first_sign (second_sign ∷ []) x signs)
