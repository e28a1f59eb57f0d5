-- Truth values set one after the other, and matrices with a further column.
use Rattle.std.proofs.Common.{◌≡◌, ℕ, zero, suc, ◌+◌, ◌-◌, not, ◌<◌, ◌≤◌, Bool, true, false, List, [], ◌∷◌, ◌++◌, length, map, replicate, get_or, set, take, refl, ap, sym, ◌∙◌, arith, pos, ℤ, inl}
use Rattle.std.proofs.lemmas.List.{ext_get_or, get_or-replicate, length-replicate, get_or-map, length-map, length-set, get_or-set_same, get_or-set_other, append_assoc, get_or_append_left}
use Rattle.std.proofs.{Common.inr, lemmas.Bool.cases_lt, lemmas.List.get_or-append_right, lemmas.List.length-append}
use Rattle.std.specs.Ordering.{int_eq}
use Rattle.lra_bits.specs.{Matrix.Matrix, TruthValues.value_at}
use Rattle.lra_bits.proofs.Lengthening.{lengthened_more}
use Rattle.lra_double_description.specs.Steps.{IsFilled, lengthened_rows, is_inside, outside_marks}
use Rattle.lra_double_description.specs.Crates.lra_linear_spec.Descriptions.{HoldsWith}
use Rattle.lra_double_description.proofs.PairLists.{accepted}

-- ---- values that were true, set one after the other
pub record AreSetTo (f : ℕ → Bool) (n k : ℕ) (values : List Bool) : Type 0 where
  pub count : length values ≡ n
  pub front : (j : ℕ) → j < k → value_at values j ≡ f j
  pub rest : (j : ℕ) → k ≤ j → j < n → value_at values j ≡ true

pub set_none : (f : ℕ → Bool) (n : ℕ) (values : List Bool) → values ≡ replicate n true → AreSetTo f n 0 values
set_none f n values e = record {
  count = ap length e ∙ length-replicate n true;
  front = λ j h. absurd (omega (arith, h));
  rest = λ j g h. ap (λ (x : List Bool). value_at x j) e ∙ get_or-replicate n j true false h;
}

pub set_more : (f : ℕ → Bool) (n k : ℕ) (values new : List Bool) (b : Bool) → k < n → b ≡ f k → new ≡ set values k b → AreSetTo f n k values → AreSetTo f n
    (k + 1) new
set_more f n k values new b h e s i = record {
  count = ap length s ∙ length-set values k b ∙ i.count;
  front = λ j m. ap (λ (x : List Bool). value_at x j) s ∙ elim (cases_lt j k) [
    | inl l ↦ get_or-set_other values k j b false (λ q. omega (arith, q, l)) ∙ i.front j l
    | inr g ↦ let q : j ≡ k = omega (arith, g, m) in ap (λ x. value_at (set values k b) x) q ∙ get_or-set_same values k b false (omega (arith, h, i.count)) ∙ e
        ∙ ap f (sym q)
  ];
  rest = λ j g m. ap (λ (x : List Bool). value_at x j) s ∙ get_or-set_other values k j b false (λ q. omega (arith, q, g)) ∙ i.rest j (omega (arith, g)) m;
}

pub tight_end : (products : List ℤ) (further k : ℕ) (values : List Bool) → k ≡ length products →
    AreSetTo (λ j. int_eq (get_or products j (pos 0)) (pos 0)) (length products + further) k values → values ≡ map (λ p. int_eq p (pos 0)) products ++
    replicate further true
tight_end products further k values e i =
    let marks = map (λ p. int_eq p (pos 0)) products in
    let same : length marks ≡ length products = length-map products (λ p. int_eq p (pos 0)) in
    ext_get_or false values (marks ++ replicate further true) (i.count ∙ sym
    (length-append marks (replicate further true) ∙ ap (λ n. n + length (replicate further true)) same ∙
    ap (λ n. length products + n) (length-replicate further true)))
    (λ j m. elim (cases_lt j k) [
      | inl l ↦ i.front j l ∙ sym (get_or_append_left marks (replicate further true) false j (omega (arith, l, e, same)) ∙
          get_or-map (λ p. int_eq p (pos 0)) products j (pos 0) false (omega (arith, l, e)))
      | inr g ↦ i.rest j g (omega (arith, m, i.count)) ∙ sym (get_or-append_right marks (replicate further true) (length products) j false same
          (omega (arith, g, e)) ∙
          get_or-replicate further (j - length products) true false (omega (arith, m, i.count, g, e)))
    ])

-- ---- a further column
pub lengthened_step : (first old new : Matrix) (rows : List (List Bool)) (last r x : List Bool) (b : Bool) (k : ℕ) → length last ≡ length rows → k < length
    rows →
    old ≡ record first { rows = first.rows ++ lengthened_rows (take k rows) (take k last) } → new ≡ record old { rows = old.rows ++ r ∷ [] } →
    r ≡ x ++ b ∷ [] → x ≡ get_or rows k [] → b ≡ value_at last k → new ≡ record first
    { rows = first.rows ++ lengthened_rows (take (k + 1) rows) (take (k + 1) last) }
lengthened_step first old new rows last r x b k e h i n q ex eb =
    n ∙ ap (λ (m : Matrix). record m { rows = m.rows ++ r ∷ [] }) i ∙
    ap (λ (ys : List (List Bool)). record { width = first.width; rows = ys })
    (append_assoc first.rows (lengthened_rows (take k rows) (take k last)) (r ∷ []) ∙ ap
    (λ (y : List Bool). first.rows ++ (lengthened_rows (take k rows) (take k last) ++ y ∷ []))
    (q ∙ ap (λ (y : List Bool). y ++ b ∷ []) ex ∙ ap (λ (y : Bool). get_or rows k [] ++ y ∷ []) eb) ∙ ap (λ (ys : List (List Bool)). first.rows ++ ys)
    (sym (lengthened_more rows last k e h)))

-- ---- marks, and places after them
pub filled_more : (f : ℕ → Bool) (n k : ℕ) (values new : List Bool) (b : Bool) → k < n → b ≡ f k → new ≡ set values k b → IsFilled f n k values → IsFilled f n
    (k + 1) new
filled_more f n k values new b h e s i = (
  ap length s ∙ length-set values k b ∙ i.0,
  λ j m. ap (λ (x : List Bool). value_at x j) s ∙ elim (cases_lt j k) [
    | inl l ↦ get_or-set_other values k j b false (λ q. omega (arith, q, l)) ∙ i.1 j l
    | inr g ↦ let q : j ≡ k = omega (arith, g, m) in ap (λ x. value_at (set values k b) x) q ∙ get_or-set_same values k b false (omega (arith, h, i.0)) ∙ e ∙
        ap f (sym q)
  ],
  λ j m. ap (λ (x : List Bool). value_at x j) s ∙ get_or-set_other values k j b false (λ q. omega (arith, q, m)) ∙ i.2 j (omega (arith, m)),
)

pub marks_more : (equal : Bool) (products : List ℤ) (further k : ℕ) (gone new : List Bool) (b : Bool) → k < length products →
    (b ≡ true → HoldsWith equal (get_or products k (pos 0))) ×
    (HoldsWith equal (get_or products k (pos 0)) → b ≡ true) → new ≡ set gone k (not b) →
    IsFilled (λ j. not (is_inside equal (get_or products j (pos 0)))) (length products + further) k gone →
    IsFilled (λ j. not (is_inside equal (get_or products j (pos 0)))) (length products + further) (k + 1) new
marks_more equal products further k gone new b h a s i =
    filled_more (λ j. not (is_inside equal (get_or products j (pos 0)))) (length products + further) k gone new (not b) (omega (arith, h))
    (ap not (accepted b equal (get_or products k (pos 0)) a)) s i

pub marks_end : (equal : Bool) (products : List ℤ) (further k : ℕ) (gone : List Bool) → k ≡ length products →
    IsFilled (λ j. not (is_inside equal (get_or products j (pos 0)))) (length products + further) k gone → gone ≡ outside_marks equal products ++ replicate
    further false
marks_end equal products further k gone e i =
    let marks = outside_marks equal products in
    let same : length marks ≡ length products = length-map products (λ p. not (is_inside equal p)) in
    ext_get_or false gone (marks ++ replicate further false) (i.0 ∙ sym
    (length-append marks (replicate further false) ∙ ap (λ n. n + length (replicate further false)) same ∙
    ap (λ n. length products + n) (length-replicate further false)))
    (λ j m. elim (cases_lt j k) [
      | inl l ↦ i.1 j l ∙ sym (get_or_append_left marks (replicate further false) false j (omega (arith, l, e, same)) ∙
          get_or-map (λ p. not (is_inside equal p)) products j (pos 0) false (omega (arith, l, e)))
      | inr g ↦ i.2 j g ∙ sym (get_or-append_right marks (replicate further false) (length products) j false same (omega (arith, g, e)) ∙ none_after further
          (j - length products))
    ])
  where
    none_after : (n j : ℕ) → get_or (replicate n false) j false ≡ false
    none_after zero j = refl
    none_after (suc n) zero = refl
    none_after (suc n) (suc j) = none_after n j
