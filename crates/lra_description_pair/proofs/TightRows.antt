-- Rows that are tight at all rays of a cone, and the others.
use Rattle.std.proofs.Common.{◌≡◌, ℕ, zero, suc, ◌<◌, Bool, true, false, cond, List, [], ◌∷◌, ◌++◌, length, get_or, refl, ap, sym, ◌∙◌, subst, arith, pos, ℤ, inl, inr, ◌⊎◌}
use Rattle.std.proofs.lemmas.Bool.{false_from_ne_true}
use Rattle.std.proofs.{lemmas.Bool.cases_lt, lemmas.Bool.Decides.Decides-int_eq, lemmas.List.append-nil, lemmas.List.get_or_default, lemmas.List.Elements.Contains-get_or}
use Rattle.std.specs.{List.Contains, Ordering.int_eq}
use Rattle.lra_description_pair.specs.Crates.{lra_bits.TruthValues.value_at, lra_canonical.Reduced.IsReducedBy, lra_linear_spec.Descriptions.LinearRow, lra_linear_spec.Descriptions.rows_of}
use Rattle.lra_description_pair.specs.Crates.{lra_linear_spec.Strain.is_tight_at, lra_linear_spec.Strain.tight_rows, lra_linear_spec.Vectors.product}
use Rattle.lra_description_pair.proofs.Crates.lra_linear_spec.Membership.{contains_none, contains_cases, contains_head, contains_tail}
use Rattle.lra_description_pair.specs.OwnLists.{loose_rows, TellsTight, AllTellTight, AreReducedBy, AreParts}

-- ---- tight at all rays
pub tight_said : (rays : List (List ℤ)) (r : List ℤ) → is_tight_at rays r ≡ true → (t : List ℤ) → Contains rays t → product r t ≡ pos 0
tight_said [] r e t k = absurd (contains_none t k)
tight_said (x ∷ rays) r e t k = go (int_eq (product r x) (pos 0)) refl e (λ f m. tight_said rays r f t m)
  where
    go : (b : Bool) → int_eq (product r x) (pos 0) ≡ b → cond b (is_tight_at rays r) false ≡ true → (is_tight_at rays r ≡ true → Contains rays t → product r t ≡ pos 0) → product r t ≡ pos 0
    go true f e later = elim (contains_cases x t rays k) [ inl g ↦ ap (product r) (sym g) ∙ (Decides-int_eq (product r x) (pos 0)).0 f | inr m ↦ later e m ]
    go false f e later = cc

pub tight_from : (rays : List (List ℤ)) (r : List ℤ) → ((t : List ℤ) → Contains rays t → product r t ≡ pos 0) → is_tight_at rays r ≡ true
tight_from [] r h = refl
tight_from (x ∷ rays) r h =
    ap (λ (b : Bool). cond b (is_tight_at rays r) false) ((Decides-int_eq (product r x) (pos 0)).1 (h x (contains_head x rays))) ∙ tight_from rays r (λ t k. h t (contains_tail x t rays k))

-- ---- the rows
pub not_both : (b : Bool) → b ≡ false → b ≡ true → ⊥
not_both true e f = cc
not_both false e f = cc

pub tight_in : (rays rows : List (List ℤ)) (r : List ℤ) → Contains (tight_rows rays rows) r → Contains rows r × (is_tight_at rays r ≡ true)
tight_in rays [] r k = absurd (contains_none r k)
tight_in rays (x ∷ rows) r k = go (is_tight_at rays x) refl k (λ m. tight_in rays rows r m)
  where
    go : (b : Bool) → is_tight_at rays x ≡ b → Contains (cond b (x ∷ tight_rows rays rows) (tight_rows rays rows)) r →
        (Contains (tight_rows rays rows) r → Contains rows r × (is_tight_at rays r ≡ true)) → Contains (x ∷ rows) r × (is_tight_at rays r ≡ true)
    go true e m later = elim (contains_cases x r (tight_rows rays rows) m) [
      | inl f ↦ (subst (Contains (x ∷ rows)) f (contains_head x rows), subst (λ (y : List ℤ). is_tight_at rays y ≡ true) f e)
      | inr n ↦ let i = later n in (contains_tail x r rows i.0, i.1)
    ]
    go false e m later = let i = later m in (contains_tail x r rows i.0, i.1)

pub tight_has : (rays rows : List (List ℤ)) (r : List ℤ) → Contains rows r → is_tight_at rays r ≡ true → Contains (tight_rows rays rows) r
tight_has rays [] r k e = absurd (contains_none r k)
tight_has rays (x ∷ rows) r k e = go (is_tight_at rays x) refl (λ m. tight_has rays rows r m e)
  where
    go : (b : Bool) → is_tight_at rays x ≡ b → (Contains rows r → Contains (tight_rows rays rows) r) → Contains (cond b (x ∷ tight_rows rays rows) (tight_rows rays rows)) r
    go true f later = elim (contains_cases x r rows k) [
      | inl g ↦ subst (Contains (x ∷ tight_rows rays rows)) g (contains_head x (tight_rows rays rows))
      | inr m ↦ contains_tail x r
          (tight_rows rays rows) (later m)
    ]
    go false f later = elim (contains_cases x r rows k) [ inl g ↦ absurd (not_both (is_tight_at rays x) f (ap (is_tight_at rays) g ∙ e)) | inr m ↦ later m ]

pub loose_in : (rays rows : List (List ℤ)) (r : List ℤ) → Contains (loose_rows rays rows) r → Contains rows r × (is_tight_at rays r ≡ false)
loose_in rays [] r k = absurd (contains_none r k)
loose_in rays (x ∷ rows) r k = go (is_tight_at rays x) refl k (λ m. loose_in rays rows r m)
  where
    go : (b : Bool) → is_tight_at rays x ≡ b → Contains (cond b (loose_rows rays rows) (x ∷ loose_rows rays rows)) r →
        (Contains (loose_rows rays rows) r → Contains rows r × (is_tight_at rays r ≡ false)) → Contains (x ∷ rows) r × (is_tight_at rays r ≡ false)
    go true e m later = let i = later m in (contains_tail x r rows i.0, i.1)
    go false e m later = elim (contains_cases x r (loose_rows rays rows) m) [
      | inl f ↦ (subst (Contains (x ∷ rows)) f (contains_head x rows), subst (λ (y : List ℤ). is_tight_at rays y ≡ false) f e)
      | inr n ↦ let i = later n in (contains_tail x r rows i.0, i.1)
    ]

-- each row is the one or the other
pub either_row : (rays rows : List (List ℤ)) (r : List ℤ) → Contains rows r → Contains (tight_rows rays rows) r ⊎ Contains (loose_rows rays rows) r
either_row rays [] r k = absurd (contains_none r k)
either_row rays (x ∷ rows) r k = go (is_tight_at rays x) (λ m. either_row rays rows r m)
  where
    go : (b : Bool) → (Contains rows r → Contains (tight_rows rays rows) r ⊎ Contains (loose_rows rays rows) r) → Contains (cond b (x ∷ tight_rows rays rows) (tight_rows rays rows)) r ⊎
        Contains (cond b (loose_rows rays rows) (x ∷ loose_rows rays rows)) r
    go true later = elim (contains_cases x r rows k) [
      | inl e ↦ inl (subst (Contains (x ∷ tight_rows rays rows)) e (contains_head x (tight_rows rays rows)))
      | inr m ↦ elim (later m) [ inl i ↦ inl (contains_tail x r (tight_rows rays rows) i) | inr i ↦ inr i ]
    ]
    go false later = elim (contains_cases x r rows k) [
      | inl e ↦ inr (subst (Contains (x ∷ loose_rows rays rows)) e (contains_head x (loose_rows rays rows)))
      | inr m ↦ elim (later m) [ inl i ↦ inl i | inr i ↦ inr (contains_tail x r (loose_rows rays rows) i) ]
    ]

-- ---- the rows of a list
pub rows_has : (list : List LinearRow) (g : LinearRow) → Contains list g → Contains (rows_of list) g.row
rows_has [] g k = absurd (contains_none g k)
rows_has (x ∷ list) g k = elim (contains_cases x g list k) [
  | inl e ↦ subst (λ (y : LinearRow). Contains (rows_of (x ∷ list)) y.row) e (contains_head x.row (rows_of list))
  | inr m ↦ contains_tail x.row g.row (rows_of list) (rows_has list g m)
]

pub rows_from : (list : List LinearRow) (r : List ℤ) → Contains (rows_of list) r → (g : LinearRow) × Contains list g × (g.row ≡ r)
rows_from [] r k = absurd (contains_none r k)
rows_from (x ∷ list) r k = elim (contains_cases x.row r (rows_of list) k) [
  | inl e ↦ (x, contains_head x list, e)
  | inr m ↦ let i = rows_from list r m in (i.0, contains_tail x i.0 list i.1, i.2)
]

-- ---- reduced rows
pub reduced_from : (form rows ts : List (List ℤ)) → AreReducedBy form rows ts → (t : List ℤ) → Contains ts t → (r : List ℤ) × Contains rows r × IsReducedBy form r t
reduced_from form [] [] a t k = absurd (contains_none t k)
reduced_from form [] (x ∷ ts) a t k = absurd a
reduced_from form (r ∷ rows) [] a t k = absurd a
reduced_from form (r ∷ rows) (x ∷ ts) a t k = elim (contains_cases x t ts k) [
  | inl e ↦ (r, contains_head r rows, subst (IsReducedBy form r) e a.0)
  | inr m ↦ let i = reduced_from form rows ts a.1 t m in (i.0, contains_tail r i.0 rows i.1, i.2)
]

pub reduced_has : (form rows ts : List (List ℤ)) → AreReducedBy form rows ts → (r : List ℤ) → Contains rows r → (t : List ℤ) × Contains ts t × IsReducedBy form r t
reduced_has form [] ts a r k = absurd (contains_none r k)
reduced_has form (x ∷ rows) [] a r k = absurd a
reduced_has form (x ∷ rows) (t ∷ ts) a r k = elim (contains_cases x r rows k) [
  | inl e ↦ (t, contains_head t ts, subst (λ (y : List ℤ). IsReducedBy form y t) e a.0)
  | inr m ↦ let i = reduced_has form rows ts a.1 r m in (i.0, contains_tail t i.0 ts i.1, i.2)
]

pub reduced_at : (form rows ts : List (List ℤ)) → AreReducedBy form rows ts → (i : ℕ) → i < length ts → (i < length rows) × IsReducedBy form (get_or rows i []) (get_or ts i [])
reduced_at form [] [] a i h = absurd (omega (arith, h))
reduced_at form [] (x ∷ ts) a i h = absurd a
reduced_at form (r ∷ rows) [] a i h = absurd a
reduced_at form (r ∷ rows) (x ∷ ts) a zero h = (omega arith, a.0)
reduced_at form (r ∷ rows) (x ∷ ts) a (suc i) h = let n = reduced_at form rows ts a.1 i (omega (arith, h)) in (omega (arith, n.0), n.1)

-- ---- row by row
pub tight_append : (rays xs ys : List (List ℤ)) → tight_rows rays (xs ++ ys) ≡ tight_rows rays xs ++ tight_rows rays ys
tight_append rays [] ys = refl
tight_append rays (x ∷ xs) ys = go (is_tight_at rays x) (tight_append rays xs ys)
  where
    go : (b : Bool) → tight_rows rays (xs ++ ys) ≡ tight_rows rays xs ++ tight_rows rays ys →
        cond b (x ∷ tight_rows rays (xs ++ ys)) (tight_rows rays (xs ++ ys)) ≡ cond b (x ∷ tight_rows rays xs) (tight_rows rays xs) ++ tight_rows rays ys
    go true e = ap (λ (l : List (List ℤ)). x ∷ l) e
    go false e = e

pub loose_append : (rays xs ys : List (List ℤ)) → loose_rows rays (xs ++ ys) ≡ loose_rows rays xs ++ loose_rows rays ys
loose_append rays [] ys = refl
loose_append rays (x ∷ xs) ys = go (is_tight_at rays x) (loose_append rays xs ys)
  where
    go : (b : Bool) → loose_rows rays (xs ++ ys) ≡ loose_rows rays xs ++ loose_rows rays ys →
        cond b (loose_rows rays (xs ++ ys)) (x ∷ loose_rows rays (xs ++ ys)) ≡ cond b (loose_rows rays xs) (x ∷ loose_rows rays xs) ++ loose_rows rays ys
    go true e = e
    go false e = ap (λ (l : List (List ℤ)). x ∷ l) e

pub told_append : (rays : List (List ℤ)) (lines : ℕ) (rows : List (List ℤ)) (bits : List (List Bool)) (r : List ℤ) (b : List Bool) → AllTellTight rays lines rows bits → TellsTight rays lines r b →
    AllTellTight rays lines (rows ++ r ∷ []) (bits ++ b ∷ [])
told_append rays lines [] [] r b a t = (t, tt)
told_append rays lines [] (x ∷ bits) r b a t = absurd a
told_append rays lines (x ∷ rows) [] r b a t = absurd a
told_append rays lines (x ∷ rows) (y ∷ bits) r b a t = (a.0, told_append rays lines rows bits r b a.1 t)

pub reduced_append : (form rows ts : List (List ℤ)) (r t : List ℤ) → AreReducedBy form rows ts → IsReducedBy form r t → AreReducedBy form (rows ++ r ∷ []) (ts ++ t ∷ [])
reduced_append form [] [] r t a x = (x, tt)
reduced_append form [] (y ∷ ts) r t a x = absurd a
reduced_append form (z ∷ rows) [] r t a x = absurd a
reduced_append form (z ∷ rows) (y ∷ ts) r t a x = (a.0, reduced_append form rows ts r t a.1 x)

-- a row with these values is tight at all rays exactly if all are true
pub told_tight : (rays : List (List ℤ)) (lines : ℕ) (r : List ℤ) (bits : List Bool) → TellsTight rays lines r bits → ((k : ℕ) → k < length bits → value_at bits k ≡ true) → is_tight_at rays r ≡ true
told_tight rays lines r bits t h = tight_from rays r (λ x m. ap (product r) (sym m.2 ∙ get_or_default rays m.0 x [] m.1) ∙ (t.at_rays m.0 m.1).0 (h m.0 (omega (arith, m.1, t.many))))

pub tight_told : (rays : List (List ℤ)) (lines : ℕ) (r : List ℤ) (bits : List Bool) → TellsTight rays lines r bits → is_tight_at rays r ≡ true → (k : ℕ) → k < length bits → value_at bits k ≡ true
tight_told rays lines r bits t e k h = elim (cases_lt k (length rays)) [
  | inl l ↦ (t.at_rays k l).1 (tight_said rays r e (get_or rays k []) (Contains-get_or rays k [] l))
  | inr g ↦ t.at_lines k g h
]

-- ---- a row put to its part
pub part_tight : (rays : List (List ℤ)) (lines : ℕ) (rows tight loose new : List (List ℤ)) (bits : List (List Bool)) (r : List ℤ) (b : List Bool) → TellsTight rays lines r b →
    ((k : ℕ) → k < length b → value_at b k ≡ true) → new ≡ tight ++ r ∷ [] → AreParts rays lines rows tight loose bits → AreParts rays lines (rows ++ r ∷ []) new loose bits
part_tight rays lines rows tight loose new bits r b t h e a =
    let yes = told_tight rays lines r b t h in
    record {
      is_tight = e ∙ ap (λ (l : List (List ℤ)). l ++ r ∷ []) a.is_tight ∙ ap (λ (q : Bool). tight_rows rays rows ++ cond q (r ∷ []) []) (sym yes) ∙ sym (tight_append rays rows (r ∷ []));
      is_loose = a.is_loose ∙ sym (append-nil (loose_rows rays rows)) ∙ ap (λ (q : Bool). loose_rows rays rows ++ cond q [] (r ∷ [])) (sym yes) ∙ sym (loose_append rays rows (r ∷ []));
      told = a.told;
    }

pub part_loose : (rays : List (List ℤ)) (lines : ℕ) (rows tight loose new : List (List ℤ)) (bits after : List (List Bool)) (r : List ℤ) (b : List Bool) → TellsTight rays lines r b →
    ¬ ((k : ℕ) → k < length b → value_at b k ≡ true) → new ≡ loose ++ r ∷ [] → after ≡ bits ++ b ∷ [] → AreParts rays lines rows tight loose bits → AreParts rays lines (rows ++ r ∷ []) tight new after
part_loose rays lines rows tight loose new bits after r b t h e f a =
    let no : is_tight_at rays r ≡ false = false_from_ne_true (is_tight_at rays r) (λ y. h (tight_told rays lines r b t y)) in
    record {
      is_tight = a.is_tight ∙ sym (append-nil (tight_rows rays rows)) ∙ ap (λ (q : Bool). tight_rows rays rows ++ cond q (r ∷ []) []) (sym no) ∙ sym (tight_append rays rows (r ∷ []));
      is_loose = e ∙ ap (λ (l : List (List ℤ)). l ++ r ∷ []) a.is_loose ∙ ap (λ (q : Bool). loose_rows rays rows ++ cond q [] (r ∷ [])) (sym no) ∙ sym (loose_append rays rows (r ∷ []));
      told = subst (λ (l : List (List ℤ)). AllTellTight rays lines l after) (sym e) (subst (AllTellTight rays lines (loose ++ r ∷ [])) (sym f) (told_append rays lines loose bits r b a.told t));
    }
