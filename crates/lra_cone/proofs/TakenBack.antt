-- A row that was added, and is removed again.
use Rattle.std.proofs.Common.{◌≡◌, ◌∙◌, ◌-◌, ◌++◌, ◌∷◌, [], ℕ, ℤ, List, ap, arith, length, subst, sym, take}
use Rattle.std.proofs.{Math.Seq.take-append_seam, lemmas.List.length-append}
use Rattle.lra_cone.specs.Crates.{lra_bits.Matrix.Matrix, lra_linear_spec.declared.ConKind.ConKind}
use Rattle.lra_systems.specs.LinearSystems.{LinearSystem, constraints}
use Rattle.lra_cone.specs.Cones.{IsCone, cone_saturation}

popped_again : {A : Type 0} (xs wider back : List A) (x : A) → wider ≡ xs ++ x ∷ [] → back ≡ take (length wider - 1) wider → back ≡ xs
popped_again {A = A} xs wider back x ew eb =
    let n = length-append xs (x ∷ []) in
    let fewer : length (xs ++ x ∷ []) - 1 ≡ length xs = omega (arith, n) in
    eb ∙ ap (λ (l : List A). take (length l - 1) l) ew ∙ ap (λ (k : ℕ). take k (xs ++ x ∷ [])) fewer ∙ take-append_seam xs (x ∷ [])

pub taken_again : (first wider back : LinearSystem ConKind) (row : List ℤ) (kind : ConKind) → wider.dims ≡ first.dims → wider.rows ≡ first.rows ++ row ∷ [] →
    wider.kinds ≡ first.kinds ++ kind ∷ [] →
    back.dims ≡ wider.dims → back.rows ≡ take (length wider.rows - 1) wider.rows → back.kinds ≡ take (length wider.kinds - 1) wider.kinds → back ≡ first
taken_again first wider back row kind dw rw_ kw db rb kb =
    ap (λ (n : ℕ). (let x : LinearSystem ConKind = record { dims = n; rows = back.rows; kinds = back.kinds } in x)) (db ∙ dw) ∙
    ap (λ (l : List (List ℤ)). (let x : LinearSystem ConKind = record { dims = first.dims; rows = l; kinds = back.kinds } in x))
    (popped_again first.rows wider.rows back.rows row rw_ rb) ∙
    ap (λ (l : List ConKind). (let x : LinearSystem ConKind = record { dims = first.dims; rows = first.rows; kinds = l } in x))
    (popped_again first.kinds wider.kinds back.kinds kind kw kb)

-- what a cone's fields hold
abbrev pub AreCone : LinearSystem ConKind → List (List ℤ) → List (List ℤ) → Matrix → Type 0
AreCone taken lines rays m = IsCone (record { dims = taken.dims; taken = constraints taken; lines = lines; rays = rays }) ×
    (m ≡ cone_saturation (constraints taken) rays)
    × (length taken.rows ≡ length taken.kinds)

pub kept_again : (taken back : LinearSystem ConKind) (lines rays seen : List (List ℤ)) (m n : Matrix) → back ≡ taken → seen ≡ rays → n ≡ m →
    AreCone taken lines rays
    m → AreCone back lines seen n
kept_again taken back lines rays seen m n et er em h =
    subst (λ (t : LinearSystem ConKind). AreCone t lines seen n) (sym et) (subst (λ (r : List (List ℤ)). AreCone taken lines r n) (sym er)
    (subst (AreCone taken lines rays) (sym em) h))
