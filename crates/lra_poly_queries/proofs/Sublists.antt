-- Some constraints of a list, in their order.
use Rattle.std.proofs.Common.{List, [], ◌∷◌, ◌++◌, ap, get_or, inl, inr, refl, subst, sym}
use Rattle.std.specs.List.{Contains}
use Rattle.lra_poly_queries.specs.Crates.lra_linear_spec.Descriptions.{LinearRow}
use Rattle.lra_poly_queries.proofs.Crates.lra_linear_spec.Membership.{contains_cases, contains_head, contains_none, contains_tail, split_none}
use Rattle.lra_poly_queries.specs.Simplified.{IsSublist}

abbrev pub behind : {A : Type 0} → List A → List A
behind [] = []
behind (x ∷ xs) = xs

pub sublist_whole : (rows : List LinearRow) → IsSublist rows rows
sublist_whole [] = refl
sublist_whole (g ∷ rows) = inr (rows, refl, sublist_whole rows)

pub sublist_longer : (kept rows : List LinearRow) (g : LinearRow) → IsSublist kept rows → IsSublist kept (rows ++ g ∷ [])
sublist_longer kept [] g s = inl s
sublist_longer kept (h ∷ rows) g s = elim s [
  | inl a ↦ inl (sublist_longer kept rows g a)
  | inr b ↦ inr (b.0, b.1, sublist_longer b.0 rows g b.2)
]

pub sublist_pushed : (kept rows : List LinearRow) (g : LinearRow) → IsSublist kept rows →
    IsSublist (kept ++ g ∷ []) (rows ++ g ∷ [])
sublist_pushed kept [] g s = inr ([], ap (λ (l : List LinearRow). l ++ g ∷ []) s, refl)
sublist_pushed kept (h ∷ rows) g s = elim s [
  | inl a ↦ inl (sublist_pushed kept rows g a)
  | inr b ↦ inr (b.0 ++ g ∷ [], ap (λ (l : List LinearRow). l ++ g ∷ []) b.1, sublist_pushed b.0 rows g b.2)
]

-- one fewer
pub sublist_fewer : (front : List LinearRow) (g : LinearRow) (back rows : List LinearRow) → IsSublist (front ++ g ∷ back) rows →
    IsSublist (front ++ back) rows
sublist_fewer front g back [] s = absurd (split_none front g back (sym s))
sublist_fewer [] g back (h ∷ rows) s = elim s [
  | inl a ↦ inl (sublist_fewer [] g back rows a)
  | inr b ↦ inl (subst (λ (l : List LinearRow). IsSublist l rows) (sym (ap behind b.1)) b.2)
]
sublist_fewer (k ∷ front) g back (h ∷ rows) s = elim s [
  | inl a ↦ inl (sublist_fewer (k ∷ front) g back rows a)
  | inr b ↦ inr (
    front ++ back,
    ap (λ (f : LinearRow). f ∷ front ++ back) (ap (λ (l : List LinearRow). get_or l 0 k) b.1),
    sublist_fewer front g back rows (subst (λ (l : List LinearRow). IsSublist l rows) (sym (ap behind b.1)) b.2),
  )
]

-- each of them is one of the list
pub sublist_has : (kept rows : List LinearRow) (g : LinearRow) → IsSublist kept rows → Contains kept g → Contains rows g
sublist_has kept [] g s k = absurd (contains_none g (subst (λ (l : List LinearRow). Contains l g) s k))
sublist_has kept (h ∷ rows) g s k = elim s [
  | inl a ↦ contains_tail h g rows (sublist_has kept rows g a k)
  | inr b ↦ elim (contains_cases h g b.0 (subst (λ (l : List LinearRow). Contains l g) b.1 k)) [
    | inl e ↦ subst (Contains (h ∷ rows)) e (contains_head h rows)
    | inr d ↦ contains_tail h g rows (sublist_has b.0 rows g b.2 d)
  ]
]
