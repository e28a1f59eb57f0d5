-- Limits of one thread after another.
use Rattle.std.proofs.Common.{◌≡◌, ℕ, suc, ◌+◌, List, [], ◌∷◌, ◌++◌, length, Option, Some, None, Bool, true, false, refl, sym, ap, ◌∙◌, arith}
use Rattle.std.proofs.lemmas.Option.{none-some}
use Rattle.std.specs.Prelude.{nat_lt, if◌then◌else◌}
use Rattle.lra_base.specs.declared.refusals.Refusal.{Refusal}
use Rattle.lra_front_end.specs.Crates.lra_resolution_spec.Refuse.{greatest_live, greatest_points, limit_fault}
use Rattle.lra_front_end.specs.Crates.{lra_program.Sites.Event, lra_program.Sites.comes, lra_program.Sites.one_call_more, lra_program.Sites.event_sites, lra_syntax.Labels.Labelled}

then_case : (many full : Bool) (x y : Refusal) (f g : Option Refusal) → (f ≡ None → g ≡ None) → (if many then Some x else (if full then Some y else f)) ≡ None
    → (if many then Some x else (if full then Some y else g)) ≡ None
then_case true full x y f g h e = e
then_case false true x y f g h e = e
then_case false false x y f g h e = h e

-- what passes no limit, and what comes after it
passed_case : (many full : Bool) (x y : Refusal) (f g h : Option Refusal) → (f ≡ None → g ≡ h) → (if many then Some x else (if full then Some y else f)) ≡ None
    → (if many then Some x else (if full then Some y else g)) ≡ h
passed_case true full x y f g h s e = absurd (none-some x (sym e))
passed_case false true x y f g h s e = absurd (none-some y (sym e))
passed_case false false x y f g h s e = s e

pub fault_behind : (ls : List Labelled) (n : ℕ) (es fs : List Event) → limit_fault ls n es ≡ None
    → limit_fault ls n (es ++ fs) ≡ limit_fault ls (n + length (event_sites es)) fs
fault_behind ls n [] fs e = ap (λ k. limit_fault ls k fs) (omega arith)
fault_behind ls n (comes s ∷ es) fs e =
    passed_case (nat_lt greatest_live s.live) (nat_lt greatest_points (suc n)) _ _ (limit_fault ls (suc n) es) (limit_fault ls (suc n) (es ++ fs))
    (limit_fault ls (n + suc (length (event_sites es))) fs)
    (λ h. fault_behind ls (suc n) es fs h ∙ ap (λ k. limit_fault ls k fs) (omega arith)) e
fault_behind ls n (one_call_more at ∷ es) fs e = absurd (none-some _ (sym e))

-- what passes a limit does so whatever comes after it
stays_case : (many full : Bool) (x y r : Refusal) (f g : Option Refusal) → (f ≡ Some r → g ≡ Some r)
    → (if many then Some x else (if full then Some y else f)) ≡ Some r
    → (if many then Some x else (if full then Some y else g)) ≡ Some r
stays_case true full x y r f g h e = e
stays_case false true x y r f g h e = e
stays_case false false x y r f g h e = h e

pub fault_stays : (ls : List Labelled) (n : ℕ) (es fs : List Event) (r : Refusal) → limit_fault ls n es ≡ Some r → limit_fault ls n (es ++ fs) ≡ Some r
fault_stays ls n [] fs r e = absurd (none-some r e)
fault_stays ls n (comes s ∷ es) fs r e =
    stays_case (nat_lt greatest_live s.live) (nat_lt greatest_points (suc n)) _ _ r (limit_fault ls (suc n) es) (limit_fault ls (suc n) (es ++ fs))
    (fault_stays ls (suc n) es fs r) e
fault_stays ls n (one_call_more at ∷ es) fs r e = e

-- what passes no limit with others after it passes none alone
pub within_front : (ls : List Labelled) (n : ℕ) (es fs : List Event) → limit_fault ls n (es ++ fs) ≡ None → limit_fault ls n es ≡ None
within_front ls n [] fs e = refl
within_front ls n (comes s ∷ es) fs e =
    then_case (nat_lt greatest_live s.live) (nat_lt greatest_points (suc n)) _ _ (limit_fault ls (suc n) (es ++ fs)) (limit_fault ls (suc n) es)
    (within_front ls (suc n) es fs) e
within_front ls n (one_call_more at ∷ es) fs e = e
