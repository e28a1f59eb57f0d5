-- Points are written one after the other: what comes after what, and where a limit stops all.
use Rattle.std.proofs.Common.{◌≡◌, zero, suc, List, [], ◌∷◌, ◌++◌, length, Some, Bool, true, false, slice_get, refl, sym, subst, arith, length-append}
use Rattle.std.proofs.lemmas.Option.{none-some}
use Rattle.std.specs.Prelude.{nat_lt, if◌then◌else◌}
use Rattle.lra_program.specs.Sites.{Site, Event, comes, one_call_more}
use Rattle.lra_inline_steps.specs.Crates.lra_resolution_spec.Refuse.{greatest_live, greatest_points}
use Rattle.lra_inline_steps.specs.declared.points.Limit.TheVariants.{Variables, Points, Calls}
use Rattle.lra_inline_steps.specs.{Building.Begins, Limits.Progress, Limits.passed, Limits.stopped, Limits.add_points, declared.points.Limit.Limit}

abbrev pub chosen : Bool → Bool → Limit → Limit → Progress → Progress
chosen many full x y r = if many then stopped x else (if full then stopped y else r)

pub not_passed : (x : Limit) (U : List Site) → stopped x ≡ passed U → ⊥
not_passed x U e = cc

pub passed_same : (S U : List Site) → passed S ≡ passed U → S ≡ U
passed_same S U e = cc

pub chosen_then : (many full : Bool) (x y : Limit) (r r' w : Progress) (U : List Site) → chosen many full x y r ≡ passed U → (r ≡ passed U → r' ≡ w) → chosen many full x y r' ≡ w
chosen_then true full x y r r' w U e h = absurd (not_passed x U e)
chosen_then false true x y r r' w U e h = absurd (not_passed y U e)
chosen_then false false x y r r' w U e h = h e

pub chosen_passed : (many full : Bool) (x y : Limit) (r : Progress) (U : List Site) → chosen many full x y r ≡ passed U → r ≡ passed U
chosen_passed true full x y r U e = absurd (not_passed x U e)
chosen_passed false true x y r U e = absurd (not_passed y U e)
chosen_passed false false x y r U e = e

chosen_stopped : (many full : Bool) (x y z : Limit) (r r' : Progress) → (r ≡ stopped z → r' ≡ stopped z) → chosen many full x y r ≡ stopped z → chosen many full x y r' ≡ stopped z
chosen_stopped true full x y z r r' h e = e
chosen_stopped false true x y z r r' h e = e
chosen_stopped false false x y z r r' h e = h e

-- after what passes, all goes on from there
pub walk_then : (S : List Site) (es fs : List Event) (U : List Site) (r : Progress) → add_points S es ≡ passed U → add_points U fs ≡ r →
    add_points S (es ++ fs) ≡ r
walk_then S [] fs U r e f = subst (λ V. add_points V fs ≡ r) (sym (passed_same S U e)) f
walk_then S (comes s ∷ es) fs U r e f = chosen_then (nat_lt greatest_live s.live) (nat_lt greatest_points (suc (length S))) (Variables s.label) (Points s.label) (add_points (S ++ s ∷ []) es)
    (add_points (S ++ s ∷ []) (es ++ fs)) r U e
    (λ e'. walk_then (S ++ s ∷ []) es fs U r e' f)
walk_then S (one_call_more at ∷ es) fs U r e f = absurd (not_passed (Calls at) U e)

-- and if a limit stops, nothing follows
pub walk_stop : (S : List Site) (es fs : List Event) (x : Limit) → add_points S es ≡ stopped x → add_points S (es ++ fs) ≡ stopped x
walk_stop S [] fs x e = absurd (not_passed x S (sym e))
walk_stop S (comes s ∷ es) fs x e = chosen_stopped (nat_lt greatest_live s.live) (nat_lt greatest_points (suc (length S))) (Variables s.label) (Points s.label) x (add_points (S ++ s ∷ []) es)
    (add_points (S ++ s ∷ []) (es ++ fs)) (λ e'. walk_stop (S ++ s ∷ []) es fs x e') e
walk_stop S (one_call_more at ∷ es) fs x e = e

-- a point alone
pub point_added : (S U : List Site) (s : Site) → add_points S (comes s ∷ []) ≡ passed U → U ≡ S ++ s ∷ []
point_added S U s e = sym
    (passed_same (S ++ s ∷ []) U (chosen_passed (nat_lt greatest_live s.live) (nat_lt greatest_points (suc (length S))) (Variables s.label) (Points s.label) (passed (S ++ s ∷ [])) U e))

pub begins_same : (S : List Site) → Begins S S
begins_same S i x e = e

pub begins_with : (S : List Site) (s : Site) → Begins S (S ++ s ∷ [])
begins_with [] s i x e = absurd (none-some x e)
begins_with (y ∷ S) s zero x e = e
begins_with (y ∷ S) s (suc i) x e = begins_with S s i x e

pub last_there : (S : List Site) (s : Site) → slice_get (S ++ s ∷ []) (length S) ≡ Some s
last_there [] s = refl
last_there (y ∷ S) s = last_there S s

-- what was written stays
pub begins_walk : (S : List Site) (es : List Event) (U : List Site) → add_points S es ≡ passed U → Begins S U
begins_walk S [] U e i x f = subst (λ V. slice_get V i ≡ Some x) (passed_same S U e) f
begins_walk S (comes s ∷ es) U e i x f =
    begins_walk (S ++ s ∷ []) es U (chosen_passed (nat_lt greatest_live s.live) (nat_lt greatest_points (suc (length S))) (Variables s.label) (Points s.label) (add_points (S ++ s ∷ []) es) U e) i x
    (begins_with S s i x f)
begins_walk S (one_call_more at ∷ es) U e i x f = absurd (not_passed (Calls at) U e)

-- the point that was written
pub point_there : (S U T : List Site) (s : Site) → add_points S (comes s ∷ []) ≡ passed U → Begins U T → slice_get T (length S) ≡ Some s
point_there S U T s e b = b (length S) s (rw (point_added S U s e) (last_there S s))

pub one_longer : (S U : List Site) (s : Site) → add_points S (comes s ∷ []) ≡ passed U → length U ≡ suc (length S)
one_longer S U s e = rw (point_added S U s e, length-append) (omega arith)
