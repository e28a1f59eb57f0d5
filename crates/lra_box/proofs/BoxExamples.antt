-- Worked examples of the tables.
use Rattle.std.proofs.Common.{◌≡◌, ℤ, pos, negsuc, [], ◌∷◌, None, Some, refl}
use Rattle.lra_box.specs.Crates.lra_linear_spec.declared.ConKind.TheVariants.{Ge, Eq}
use Rattle.lra_domain.specs.declared.Mode.TheVariants.{Widen}
use Rattle.lra_box.specs.{Bounds.full_interval, Bounds.form, Refine.tested, Tables.assigned_bounds, Tables.grown_bounds, Tables.joined_bounds, declared.interval.Interval.Interval}

abbrev between : ℤ → ℤ → Interval
between l h = record { low = Some l; high = Some h }

-- x - y of x in 0..3 and y in 1..5 lies in -5..2
assign_example : assigned_bounds 0 (form (pos 0) (pos 1 ∷ negsuc 0 ∷ []))
    (between (pos 0) (pos 3) ∷ between (pos 1) (pos 5) ∷ []) ≡ between (negsuc 4) (pos 2) ∷ between (pos 1) (pos 5) ∷ []
assign_example = refl

-- 2x - 7 >= 0 makes x at least 4
test_example : tested Ge (form (negsuc 6) (pos 2 ∷ [])) (Some (full_interval ∷ [])) ≡
    Some (record { low = Some (pos 4); high = None } ∷ [])
test_example = refl

-- x - 1 = 0 makes x = 1 of x in 0..5, and is empty on x in 3..5
equal_example : tested Eq (form (negsuc 0) (pos 1 ∷ [])) (Some (between (pos 0) (pos 5) ∷ [])) ≡
    Some (between (pos 1) (pos 1) ∷ [])
equal_example = refl

crossed_example : tested Eq (form (negsuc 0) (pos 1 ∷ [])) (Some (between (pos 3) (pos 5) ∷ [])) ≡ None
crossed_example = refl

-- if no variable occurs the constant decides
constant_example : tested Ge (form (negsuc 0) (pos 0 ∷ [])) (Some (full_interval ∷ [])) ≡ None
constant_example = refl

-- 0..0 widened by 1..1 loses its upper bound
widen_example : grown_bounds Widen (Some (between (pos 0) (pos 0) ∷ [])) (Some (between (pos 1) (pos 1) ∷ [])) ≡
    Some (record { low = Some (pos 0); high = None } ∷ [])
widen_example = refl

-- an empty operand gives the other
join_example : joined_bounds None (Some (between (pos 0) (pos 3) ∷ [])) ≡ Some (between (pos 0) (pos 3) ∷ [])
join_example = refl
