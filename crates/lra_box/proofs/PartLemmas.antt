-- The rows of a box mean it.
use Rattle.std.proofs.Common.{◌≡◌, ℕ, zero, suc, ◌+◌, ◌<◌, ℤ, pos, negsuc, List, [], ◌∷◌, ◌++◌, length, replicate, drop, Option, None, Some, Bool, true, false, cond, ◌⊎◌, inl, inr, ◌↔◌, refl, ap, ◌∙◌}
use Rattle.std.proofs.{Common.subst, Common.append_assoc, Common.arith, Math.Seq.drop-cons, lemmas.Int.ints, lemmas.List.Elements.All-cons}
use Rattle.std.specs.{List.All, Prelude.◌+ℤ◌, Prelude.◌*ℤ◌, Prelude.neg_ℤ, Prelude.slice_set, Prelude.slice_index_or}
use Rattle.lra_box.specs.Crates.lra_linear_spec.Descriptions.{LinearRow, Holds, Con}
use Rattle.lra_box.specs.Crates.{lra_linear_spec.Kinds.is_equality, lra_linear_spec.Range.InRange, lra_linear_spec.Vectors.product, lra_linear_spec.declared.ConKind.ConKind}
use Rattle.lra_box.specs.Crates.{lra_linear_spec.declared.ConKind.TheVariants.Ge, lra_linear_spec.declared.ConKind.TheVariants.Eq, lra_systems.LinearSystems.rows_by_kind}
use Rattle.lra_box.proofs.Crates.lra_linear_spec.Membership.{contains_none, contains_head, contains_tail, contains_cases}
use Rattle.lra_box.proofs.Crates.lra_linear_spec.UnitRows.{set_in_range, zeros_in_range}
use Rattle.lra_domain.specs.Parts.{SomePartHolds}
use Rattle.lra_box.specs.Bounds.{BoundHolds, InInterval, InBounds}
use Rattle.lra_box.specs.Parts.{bound_row, is_single, is_single_ends, low_rows, high_rows, box_equalities, box_inequalities, box_parts}
use Rattle.lra_box.specs.{Content.BoundsFit, Tables.has_bounds, declared.interval.Interval.Interval, declared.interval.Side.TheVariants.Low, declared.interval.Side.TheVariants.High}

-- ---- what goes into the row

pub row_in_range : (n k : ℕ) (constant factor : ℤ) → InRange constant → InRange factor → All InRange (bound_row n k constant factor)
row_in_range n k constant factor c f = All-cons InRange constant (slice_set (replicate n (pos 0)) k factor) c (set_in_range (replicate n (pos 0)) k factor (zeros_in_range n) f)

-- ---- what the row is at a store

pub product_zeros : (n : ℕ) (s : List ℤ) → product (replicate n (pos 0)) s ≡ pos 0
product_zeros zero s = refl
product_zeros (suc n) [] = let p = product_zeros n [] in let z = zero_times (pos 0) in omega (arith, ints)
  where
    zero_times : (x : ℤ) → pos 0 *ℤ x ≡ pos 0
    zero_times x = grind (arith, ints)
product_zeros (suc n) (x ∷ xs) = let p = product_zeros n xs in let z = zero_times x in omega (arith, ints)
  where
    zero_times : (x : ℤ) → pos 0 *ℤ x ≡ pos 0
    zero_times x = grind (arith, ints)

product_place : (n k : ℕ) (f : ℤ) (s : List ℤ) → k < n → length s ≡ n → product (slice_set (replicate n (pos 0)) k f) s ≡ f *ℤ slice_index_or s k (pos 0)
product_place zero k f s h e = absurd (omega arith)
product_place (suc n) k f [] h e = absurd (omega arith)
product_place (suc n) zero f (x ∷ xs) h e = let p = product_zeros n xs in omega (arith, ints)
product_place (suc n) (suc k) f (x ∷ xs) h e = let p = product_place n k f xs (omega arith) (omega arith) in let z = zero_times x in omega (arith, ints)
  where
    zero_times : (x : ℤ) → pos 0 *ℤ x ≡ pos 0
    zero_times x = grind (arith, ints)

pub times_one : (c : ℤ) → c *ℤ pos 1 ≡ c
times_one (pos c) = grind (arith, ints)
times_one (negsuc c) = grind (arith, ints)

pub one_times : (c : ℤ) → pos 1 *ℤ c ≡ c
one_times (pos c) = grind (arith, ints)
one_times (negsuc c) = grind (arith, ints)

pub minus_times : (c : ℤ) → negsuc 0 *ℤ c ≡ neg_ℤ c
minus_times (pos zero) = grind (arith, ints)
minus_times (pos (suc c)) = grind (arith, ints)
minus_times (negsuc c) = grind (arith, ints)

-- a row of a bound at the store: its constant and its factor times the store's number
row_value : (n k : ℕ) (c f : ℤ) (s : List ℤ) → k < n → length s ≡ n → product (bound_row n k c f) (pos 1 ∷ s) ≡ c +ℤ (f *ℤ slice_index_or s k (pos 0))
row_value n k c f s h e = let p = product_place n k f s h e in let o = times_one c in omega (arith, ints)

-- ---- lists of rows of one kind

-- a list of constraints holds if the first and the rest hold
con_cons : (g : LinearRow) (gs : List LinearRow) (x : List ℤ) → Con (g ∷ gs) x ↔ (Holds g x × Con gs x)
con_cons g gs x = (
  λ h. (h g (contains_head g gs), λ k m. h k (contains_tail g k gs m)),
  λ h k m. elim (contains_cases g k gs m) [ inl e ↦ subst (λ r. Holds r x) e h.0 | inr d ↦ h.1 k d ],
)

abbrev pub RowHolds : ConKind → List ℤ → List ℤ → Type 0
RowHolds kind r s = Holds (record { row = r; equal = is_equality kind }) (pos 1 ∷ s)

abbrev pub AllHold : ConKind → List (List ℤ) → List ℤ → Type 0
AllHold kind [] s = Unit {0}
AllHold kind (r ∷ rs) s = RowHolds kind r s × AllHold kind rs s

pub hold_append : (kind : ConKind) (xs ys : List (List ℤ)) (s : List ℤ) → AllHold kind (xs ++ ys) s ↔ (AllHold kind xs s × AllHold kind ys s)
hold_append kind [] ys s = (λ h. (tt, h), λ h. h.1)
hold_append kind (x ∷ xs) ys s = let e = hold_append kind xs ys s in (λ h. ((h.0, (e.0 h.1).0), (e.0 h.1).1), λ h. (h.0.0, e.1 (h.0.1, h.1)))

pub rows_hold : (xs ys : List (List ℤ)) (s : List ℤ)
    → Con (rows_by_kind is_equality (xs ++ ys) (replicate (length xs) Eq ++ replicate (length ys) Ge)) (pos 1 ∷ s) ↔ (AllHold Eq xs s × AllHold Ge ys s)
rows_hold [] [] s = (λ h. (tt, tt), λ h k m. absurd (contains_none k m))
rows_hold [] (y ∷ ys) s =
    let e = rows_hold [] ys s in
    let c = con_cons (record { row = y; equal = is_equality Ge }) (rows_by_kind is_equality ys (replicate (length ys) Ge)) (pos 1 ∷ s) in
    (λ h. let p = c.0 h in (tt, (p.0, (e.0 p.1).1)), λ h. c.1 (h.1.0, e.1 (tt, h.1.1)))
rows_hold (x ∷ xs) ys s =
    let e = rows_hold xs ys s in
    let c = con_cons (record { row = x; equal = is_equality Eq }) (rows_by_kind is_equality (xs ++ ys) (replicate (length xs) Eq ++ replicate (length ys) Ge)) (pos 1 ∷ s) in
    (λ h. let p = c.0 h in ((p.0, (e.0 p.1).0), (e.0 p.1).1), λ h. c.1 (h.0.0, e.1 (h.0.1, h.1)))

-- ---- one interval

low_holds : (n k : ℕ) (o : Option ℤ) (s : List ℤ) → k < n → length s ≡ n → AllHold Ge (low_rows n k o) s ↔ BoundHolds Low o (slice_index_or s k (pos 0))
low_holds n k None s h e = (λ p. tt, λ p. tt)
low_holds n k (Some l) s h e =
    let v = row_value n k (neg_ℤ l) (pos 1) s h e in
    let o = one_times (slice_index_or s k (pos 0)) in
    (λ p. let q = p.0 in omega (arith, ints), λ p. (omega (arith, ints), tt))

high_holds : (n k : ℕ) (o : Option ℤ) (s : List ℤ) → k < n → length s ≡ n → AllHold Ge (high_rows n k o) s ↔ BoundHolds High o (slice_index_or s k (pos 0))
high_holds n k None s h e = (λ p. tt, λ p. tt)
high_holds n k (Some u) s h e =
    let v = row_value n k u (negsuc 0) s h e in
    let o = minus_times (slice_index_or s k (pos 0)) in
    (λ p. let q = p.0 in omega (arith, ints), λ p. (omega (arith, ints), tt))

-- the rows of an interval: its equality, or its inequalities
abbrev OneHolds : ℕ → ℕ → Interval → List ℤ → Type 0
OneHolds n k i s = AllHold Eq (cond (is_single i) (low_rows n k i.low) []) s × AllHold Ge (cond (is_single i) [] (low_rows n k i.low ++ high_rows n k i.high)) s

single_holds : (n k : ℕ) (a b : Option ℤ) (s : List ℤ) → k < n → length s ≡ n → is_single_ends a b ≡ true
    → AllHold Eq (low_rows n k a) s ↔ (BoundHolds Low a (slice_index_or s k (pos 0)) × BoundHolds High b (slice_index_or s k (pos 0)))
single_holds n k None b s h e t = cc
single_holds n k (Some a) None s h e t = cc
single_holds n k (Some a) (Some b) s h e t =
    let v = row_value n k (neg_ℤ a) (pos 1) s h e in
    let o = one_times (slice_index_or s k (pos 0)) in
    let same : a ≡ b = grind (arith, ints) in
    (λ p. let q = p.0 in (omega (arith, ints), omega (arith, ints)), λ p. let q = p.0 in let r = p.1 in (omega (arith, ints), tt))

interval_holds : (n k : ℕ) (i : Interval) (s : List ℤ) → k < n → length s ≡ n → OneHolds n k i s ↔ InInterval i (slice_index_or s k (pos 0))
interval_holds n k i s h e = by_test (is_single i) refl
  where
    by_test : (t : Bool) → is_single i ≡ t
        → (AllHold Eq (cond t (low_rows n k i.low) []) s × AllHold Ge (cond t [] (low_rows n k i.low ++ high_rows n k i.high)) s) ↔ InInterval i (slice_index_or s k (pos 0))
    by_test true t = let g = single_holds n k i.low i.high s h e t in (λ p. g.0 p.0, λ p. (g.1 p, tt))
    by_test false t =
        let a = hold_append Ge (low_rows n k i.low) (high_rows n k i.high) s in
        let l = low_holds n k i.low s h e in
        let u = high_holds n k i.high s h e in
        (λ p. let q = a.0 p.1 in (l.0 q.0, u.0 q.1), λ p. (tt, a.1 (l.1 p.0, u.1 p.1)))

-- ---- all intervals, from place k on

drop_done : (s : List ℤ) → drop (length s) s ≡ []
drop_done [] = refl
drop_done (x ∷ xs) = drop_done xs

from_place : (n k : ℕ) (is : List Interval) (s : List ℤ) → k + length is ≡ n → length s ≡ n
    → (AllHold Eq (box_equalities n k is) s × AllHold Ge (box_inequalities n k is) s) ↔ InBounds is (drop k s)
from_place n k [] s e l =
    let done : k ≡ length s = omega arith in
    let none : drop k s ≡ [] = rw done (drop_done s) in
    rw none (λ h. tt, λ h. (tt, tt))
from_place n k (i ∷ is) s e l =
    let place : k < length s = omega arith in
    let next : drop k s ≡ slice_index_or s k (pos 0) ∷ drop (suc k) s = drop-cons s k (pos 0) place in
    let a = hold_append Eq (cond (is_single i) (low_rows n k i.low) []) (box_equalities n (suc k) is) s in
    let b = hold_append Ge (cond (is_single i) [] (low_rows n k i.low ++ high_rows n k i.high)) (box_inequalities n (suc k) is) s in
    let one = interval_holds n k i s (omega arith) l in
    let rest = from_place n (suc k) is s (omega arith) l in
    rw next (
      λ h. let p = a.0 h.0 in let q = b.0 h.1 in (one.0 (p.0, q.0), rest.0 (p.1, q.1)),
      λ h. let p = one.1 h.0 in let q = rest.1 h.1 in (a.1 (p.0, q.0), b.1 (p.1, q.1)),
    )

-- a list of as many numbers as dimensions is a store exactly if all rows of some part hold
pub parts_mean : (n : ℕ) (b : Option (List Interval)) (s : List ℤ) → BoundsFit n b → length s ≡ n → has_bounds b s ↔ SomePartHolds (box_parts n b) s
parts_mean n None s f l = (λ h. h, λ h. h)
parts_mean n (Some is) s f l =
    let e = rows_hold (box_equalities n 0 is) (box_inequalities n 0 is) s in
    let g = from_place n 0 is s (omega arith) l in
    (λ h. inl (e.1 (g.1 h)), λ h. g.0 (e.0 (only h)))
  where
    only : {A : Type 0} → A ⊎ ⊥ → A
    only (inl a) = a
    only (inr b) = absurd b

-- ---- rows that are added one interval after another

pub rows_added : (rows added later whole new : List (List ℤ)) → new ≡ rows ++ added → rows ++ (added ++ later) ≡ whole → new ++ later ≡ whole
rows_added rows added later whole new e h = rw e (append_assoc rows added later ∙ h)

pub kinds_append : (kind : ConKind) (xs ys : List (List ℤ)) → replicate (length (xs ++ ys)) kind ≡ replicate (length xs) kind ++ replicate (length ys) kind
kinds_append kind [] ys = refl
kinds_append kind (x ∷ xs) ys = ap (λ ks. kind ∷ ks) (kinds_append kind xs ys)

pub kinds_added : (kind : ConKind) (kinds new whole : List ConKind) (added later : List (List ℤ)) → new ≡ kinds ++ replicate (length added) kind
    → kinds ++ replicate (length (added ++ later)) kind ≡ whole → new ++ replicate (length later) kind ≡ whole
kinds_added kind kinds new whole added later e h =
    let k = rw (kinds_append kind added later) at h in
    rw e (append_assoc kinds (replicate (length added) kind) (replicate (length later) kind) ∙ k)
