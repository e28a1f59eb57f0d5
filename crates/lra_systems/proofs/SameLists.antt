-- Equal lists of constraints: equal rows, and equal kinds.
use Rattle.std.proofs.Common.{◌≡◌, ◌∙◌, ℤ, Bool, true, false, List, [], ◌∷◌, length, ap, sym, refl, arith}
use Rattle.std.proofs.lemmas.Bool.{false≢true}
use Rattle.std.specs.Prelude.{◌↔◌, IsTrue}
use Rattle.lra_linear_spec.specs.{Descriptions.LinearRow, Kinds.is_equality, declared.ConKind.ConKind}
use Rattle.lra_linear_spec.specs.declared.ConKind.TheVariants as con
use Rattle.lra_systems.specs.LinearSystems.{LinearSystem, constraints, rows_by_kind}

pub same_given : (rows others : List (List ℤ)) (kinds more : List ConKind) → length kinds ≡ length rows → length more ≡ length others →
    rows_by_kind is_equality rows kinds ≡ rows_by_kind is_equality others more → (rows ≡ others) × (kinds ≡ more)
same_given [] [] [] [] e f g = (refl, refl)
same_given [] [] (k ∷ kinds) more e f g = let wrong : ⊥ = cc in absurd wrong
same_given [] [] [] (k ∷ more) e f g = let wrong : ⊥ = cc in absurd wrong
same_given [] (o ∷ others) kinds [] e f g = let wrong : ⊥ = cc in absurd wrong
same_given [] (o ∷ others) kinds (k ∷ more) e f g = let wrong : ⊥ = cc in absurd wrong
same_given (r ∷ rows) others [] more e f g = let wrong : ⊥ = cc in absurd wrong
same_given (r ∷ rows) [] (k ∷ kinds) more e f g = let wrong : ⊥ = cc in absurd wrong
same_given (r ∷ rows) (o ∷ others) (k ∷ kinds) [] e f g = let wrong : ⊥ = cc in absurd wrong
same_given (r ∷ rows) (o ∷ others) (k ∷ kinds) (m ∷ more) e f g =
    let head_is = head_same g in
    let tail_is = same_given rows others kinds more (omega (arith, e)) (omega (arith, f)) (tail_same g) in (
      ap (λ (l : List ℤ). l ∷ rows) (ap (λ (x : LinearRow). x.row) head_is) ∙ ap (λ l. o ∷ l) tail_is.0,
      ap (λ x. x ∷ kinds) (kind_same k m (ap (λ (x : LinearRow). x.equal) head_is)) ∙
          ap (λ l. m ∷ l) tail_is.1,
    )
  where
    head_same : {x y : LinearRow} {xs ys : List LinearRow} → x ∷ xs ≡ y ∷ ys → x ≡ y
    head_same e = cc

    tail_same : {x y : LinearRow} {xs ys : List LinearRow} → x ∷ xs ≡ y ∷ ys → xs ≡ ys
    tail_same e = cc

    kind_same : (k m : ConKind) → is_equality k ≡ is_equality m → k ≡ m
    kind_same con.Ge con.Ge e = refl
    kind_same con.Eq con.Eq e = refl
    kind_same con.Ge con.Eq e = let wrong : ⊥ = cc in absurd wrong
    kind_same con.Eq con.Ge e = let wrong : ⊥ = cc in absurd wrong

both_same : (rows others : List (List ℤ)) (kinds more : List ConKind) → rows ≡ others → kinds ≡ more → rows_by_kind is_equality rows kinds ≡ rows_by_kind is_equality others more
both_same rows others kinds more e f = ap (λ l. rows_by_kind is_equality l kinds) e ∙ ap (rows_by_kind is_equality others) f

pub same_kinds_decide : (one two : LinearSystem ConKind) (rows others : List (List ℤ)) (kinds more : List ConKind) (a b : Bool) → rows ≡ one.rows → others ≡ two.rows → kinds ≡ one.kinds →
    more ≡ two.kinds →
    length kinds ≡ length one.rows → length more ≡ length two.rows → IsTrue a ↔ (rows ≡ others) → IsTrue b ↔ (kinds ≡ more) → a ≡ true → IsTrue b ↔ (constraints one ≡ constraints two)
same_kinds_decide one two rows others kinds more a b er eo ek em n m ha hb t = (
  λ u. both_same one.rows two.rows one.kinds two.kinds (sym er ∙ ha.0 t ∙ eo) (sym ek ∙ hb.0 u ∙ em),
  λ e. hb.1 (ek ∙ (same_given one.rows two.rows one.kinds two.kinds (ap length (sym ek) ∙ n) (ap length (sym em) ∙ m) e).1 ∙ sym em),
)

pub same_rows_decide : (one two : LinearSystem ConKind) (rows others : List (List ℤ)) (kinds more : List ConKind) (a : Bool) → rows ≡ one.rows → others ≡ two.rows → kinds ≡ one.kinds →
    more ≡ two.kinds →
    length kinds ≡ length one.rows → length more ≡ length two.rows → IsTrue a ↔ (rows ≡ others) → a ≡ false → IsTrue a ↔ (constraints one ≡ constraints two)
same_rows_decide one two rows others kinds more a er eo ek em n m ha f = (
  λ u. absurd (false≢true (sym f ∙ u)),
  λ e. ha.1 (er ∙ (same_given one.rows two.rows one.kinds two.kinds (ap length (sym ek) ∙ n) (ap length (sym em) ∙ m) e).0 ∙ sym eo),
)
