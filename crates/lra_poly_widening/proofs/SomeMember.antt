-- A test that some member passes finds one.
use Rattle.std.proofs.Common.{Bool, List, [], arith, false, refl, suc, true, ◌∷◌, ◌≡◌}
use Rattle.std.specs.{List.Contains, List.list_any, Prelude.◌||◌}

pub any_said : {A : Type 0} (t : A → Bool) (xs : List A) → list_any t xs ≡ true → (x : A) × Contains xs x × (t x ≡ true)
any_said t [] e = cc
any_said {A = A} t (y ∷ xs) e = by_test (t y) refl e (λ h. any_said t xs h)
  where
    by_test : (b : Bool) → t y ≡ b → (b || list_any t xs) ≡ true → (list_any t xs ≡ true → (x : A) × Contains xs x × (t x ≡ true)) → (x : A) × Contains (y ∷ xs) x × (t x ≡ true)
    by_test true q h rest = (y, (0, omega arith, refl), q)
    by_test false q h rest = let i = rest h in (i.0, (suc i.1.0, omega (arith, i.1.1), i.1.2), i.2)
