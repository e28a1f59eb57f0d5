-- The rows of a cone as the code goes through them, and the numbers that pass as they are reduced.
use Rattle.std.specs.{List.Contains, Ordering.int_eq, Prelude.◌≢◌}
use Rattle.std.proofs.Common.{◌≡◌, ℕ, zero, suc, ◌+◌, ◌<◌, ◌≤◌, Bool, true, false, cond, nat_lt, ◌==◌, List, [], ◌∷◌, ◌++◌, length, get_or, take, refl, ap, sym, ◌∙◌, subst, arith, pos, ℤ, inl, inr}
use Rattle.std.proofs.lemmas.List.Elements.{All-contains, All-from_get_or, Contains-get_or, Contains-append_cases}
use Rattle.std.proofs.{lemmas.Bool.eqb-true, lemmas.Bool.Decides.Decides-int_eq, lemmas.List.take_all, lemmas.List.take_more, lemmas.List.get_or_default}
use Rattle.lra_description_pair.specs.Crates.lra_row.declared.error.RowError.TheVariants.{Excess, Memory}
use Rattle.lra_description_pair.specs.Crates.{lra_bits.Matrix.Matrix, lra_bits.Matrix.unmarked, lra_bits.TruthValues.value_at, lra_canonical.Echelons.HaveWidth, lra_canonical.Echelons.IsEchelonExcess}
use Rattle.lra_description_pair.specs.Crates.{lra_canonical.Reduced.IsReductionExcess, lra_canonical.Reduced.IsReducedBy, lra_double_description.Steps.IsFilled, lra_linear_spec.Descriptions.LinearRow}
use Rattle.lra_description_pair.specs.Crates.{lra_linear_spec.Descriptions.rows_of, lra_linear_spec.Echelon.IsEchelonOf, lra_linear_spec.Reduction.ReductionPasses, lra_linear_spec.Strain.tight_rows}
use Rattle.lra_description_pair.specs.Crates.{lra_linear_spec.Strain.IsOwnForm, lra_linear_spec.Vectors.product, lra_row.declared.error.RowError.RowError, lra_systems.LinearSystems.rows_by_kind}
use Rattle.lra_description_pair.proofs.Crates.lra_linear_spec.Membership.{contains_none, contains_cases, contains_head, contains_tail}
use Rattle.lra_description_pair.proofs.Crates.{lra_linear_spec.Descriptions.system_has, lra_linear_spec.Spans.echelon_rows_at_most}
use Rattle.lra_cone.specs.Cones.{ConeContent, IsCone, tight_values, saturation_rows, cone_saturation}
use Rattle.lra_cone.proofs.TightRows.{rows_length, row_at}
use Rattle.lra_description_pair.specs.OwnLists.{loose_rows, TellsTight, AllTellTight, AreReducedBy, AreParts, AnyReductionExcess, IsOwnExcess, tight_value}
use Rattle.lra_description_pair.proofs.TightRows.{tight_in, loose_in, rows_from, reduced_append}

pub filled_end : (f : ℕ → Bool) (n k : ℕ) (bits : List Bool) → k ≡ n → IsFilled f n k bits → IsFilled f n n bits
filled_end f n k bits e h = subst (λ (i : ℕ). IsFilled f n i bits) e h

-- ---- what the values of a row report
value_of : {K : Type 0} (equal : K → Bool) (rows : List (List ℤ)) (kinds : List K) (place : ℕ) (t : List ℤ) → length rows ≡ length kinds → place < length rows →
    value_at (tight_values (rows_by_kind equal rows kinds) t) place ≡ int_eq (product (get_or rows place []) t) (pos 0)
value_of equal [] kinds place t n h = absurd (omega (arith, h))
value_of equal (r ∷ rows) [] place t n h = absurd (omega (arith, n))
value_of equal (r ∷ rows) (k ∷ kinds) zero t n h = refl
value_of equal (r ∷ rows) (k ∷ kinds) (suc place) t n h = value_of equal rows kinds place t (omega (arith, n)) (omega (arith, h))

pub told_by : {K : Type 0} (equal : K → Bool) (taken : List LinearRow) (rows : List (List ℤ)) (kinds : List K) (rays : List (List ℤ)) (count n place : ℕ) (r : List ℤ) (bits : List Bool)
    (matrix : List (List Bool)) → rows_by_kind equal rows kinds ≡ taken → length rows ≡ length kinds → place < length rows → r ≡ get_or rows place [] →
    matrix ≡ saturation_rows taken rays → n ≡ length rays + count → IsFilled (tight_value matrix place) n n bits → TellsTight rays count r bits
told_by equal taken rows kinds rays count n place r bits matrix et many h er em en filled = record {
  many = filled.0 ∙ en;
  at_rays = λ j l.
      let e = at j l in (
        (λ y. (Decides-int_eq (product r (get_or rays j [])) (pos 0)).0 (sym e ∙ y)),
        (λ y. e ∙ (Decides-int_eq (product r (get_or rays j [])) (pos 0)).1 y),
      );
  at_lines = λ j g l. filled.1 j (omega (arith, l, filled.0)) ∙ ap (λ (b : Bool). cond b (value_at (get_or matrix j []) place) true) (past j (length matrix) (omega (arith, g, length_is)));
}
  where
    length_is : length matrix ≡ length rays
    length_is = ap length em ∙ rows_length taken rays

    past : (j m : ℕ) → m ≤ j → nat_lt j m ≡ false
    past j m h = grind arith

    inside : (j m : ℕ) → j < m → nat_lt j m ≡ true
    inside j m h = grind arith

    at : (j : ℕ) → j < length rays → value_at bits j ≡ int_eq (product r (get_or rays j [])) (pos 0)
    at j l =
        filled.1 j (omega (arith, l, en)) ∙ ap (λ (b : Bool). cond b (value_at (get_or matrix j []) place) true) (inside j (length matrix) (omega (arith, l, length_is))) ∙
        ap (λ (m : List (List Bool)). value_at (get_or m j []) place) em ∙ ap (λ (b : List Bool). value_at b place) (row_at taken rays j l) ∙
        ap (λ (t : List LinearRow). value_at (tight_values t (get_or rays j [])) place) (sym et) ∙
        value_of equal rows kinds place (get_or rays j []) many h ∙ ap (λ (y : List ℤ). int_eq (product y (get_or rays j [])) (pos 0)) (sym er)

pub rows_of_given : {K : Type 0} (equal : K → Bool) (rows : List (List ℤ)) (kinds : List K) → length rows ≡ length kinds → rows_of (rows_by_kind equal rows kinds) ≡ rows
rows_of_given equal [] kinds n = refl
rows_of_given equal (r ∷ rows) [] n = absurd (omega (arith, n))
rows_of_given equal (r ∷ rows) (k ∷ kinds) n = ap (λ (l : List (List ℤ)). r ∷ l) (rows_of_given equal rows kinds (omega (arith, n)))

-- ---- the numbers that pass
row_width : (s : ConeContent) → IsCone s → (r : List ℤ) → Contains (rows_of s.taken) r → length r ≡ suc s.dims
row_width s k r m = let g = rows_from s.taken r m in ap length (sym g.2) ∙ k.dual.system_widths g.0.row (system_has s.taken g.0 g.1)

pub tight_width : (s : ConeContent) → IsCone s → (rows : List (List ℤ)) → rows ≡ tight_rows s.rays (rows_of s.taken) → (r : List ℤ) → Contains rows r → length r ≡ suc s.dims
tight_width s k rows e r m = row_width s k r (tight_in s.rays (rows_of s.taken) r (subst (λ (l : List (List ℤ)). Contains l r) e m)).0

pub loose_width : (s : ConeContent) → IsCone s → (rows : List (List ℤ)) → rows ≡ loose_rows s.rays (rows_of s.taken) → (r : List ℤ) → Contains rows r → length r ≡ suc s.dims
loose_width s k rows e r m = row_width s k r (loose_in s.rays (rows_of s.taken) r (subst (λ (l : List (List ℤ)). Contains l r) e m)).0

pub all_width : (w : ℕ) (rows : List (List ℤ)) → ((r : List ℤ) → Contains rows r → length r ≡ w) → HaveWidth w rows
all_width w rows h = All-from_get_or (λ r. length r ≡ w) rows [] (λ i l. h (get_or rows i []) (Contains-get_or rows i [] l))

pub echelon_excess : (s : ConeContent) → IsCone s → (rows : List (List ℤ)) → rows ≡ tight_rows s.rays (rows_of s.taken) → (e : RowError) → IsEchelonExcess rows e → IsOwnExcess s e
echelon_excess s k rows er Memory x = tt
echelon_excess s k rows er (Excess e) x = record {
  form = x.form;
  is_form = own x.form x.is_form;
  start = x.start;
  from = elim x.from [
    | inl m ↦ inl (tight_in s.rays (rows_of s.taken) x.start (subst (λ (l : List (List ℤ)). Contains l x.start) er m)).0
    | inr o ↦ inr (inr (record { other = o.other; is_form = own o.other o.is_form; has = o.has; apart = o.apart }))
  ];
  passes = subst (λ (n : ℕ). ReductionPasses n x.form x.start e) (x.start_width (suc s.dims) (all_width (suc s.dims) rows (tight_width s k rows er))) x.passes;
}
  where
    own : (form : List (List ℤ)) → (first : ℕ) × IsEchelonOf form (take first rows) → IsOwnForm (rows_of s.taken) s.rays form
    own form f = record { first = f.0; is_form = subst (λ (l : List (List ℤ)). IsEchelonOf form (take f.0 l)) er f.1 }

pub reduction_excess : (s : ConeContent) → IsCone s → (tight loose form : List (List ℤ)) → tight ≡ tight_rows s.rays (rows_of s.taken) → loose ≡ loose_rows s.rays (rows_of s.taken) →
    IsEchelonOf form tight → HaveWidth (suc s.dims) form → (e : RowError) → AnyReductionExcess form loose e → IsOwnExcess s e
reduction_excess s k tight loose form et el f widths Memory x = tt
reduction_excess s k tight loose form et el f widths (Excess e) x = record {
  form = form;
  is_form = record { first = length tight; is_form = subst (IsEchelonOf form) (sym (take_all (length tight) tight (omega arith)) ∙ ap (take (length tight)) et) f };
  start = x.0;
  from = inl (loose_in s.rays (rows_of s.taken) x.0 (subst (λ (l : List (List ℤ)). Contains l x.0) el x.1)).0;
  passes = record {
    steps = x.2.steps;
    few = fewer (length x.2.steps) (length form) (suc s.dims) x.2.few (echelon_rows_at_most (suc s.dims) form f.pivots (λ t m. All-contains (λ r. length r ≡ suc s.dims) form t widths m) f.echelon
        (omega arith));
    last = x.2.last;
    follows = x.2.follows;
    line = x.2.line;
    has = x.2.has;
    cancels = x.2.cancels;
    passes = x.2.passes;
  };
}
  where
    fewer : (a b c : ℕ) → a < b → b ≤ c → a < c
    fewer a b c h l = omega (arith, h, l)

-- ---- a number that passes as one of the rows is reduced
pub some_excess : (form rows : List (List ℤ)) (i : ℕ) (r copied : List ℤ) (e : RowError) → i < length rows → r ≡ get_or rows i r → copied ≡ r → IsReductionExcess form copied e →
    AnyReductionExcess form rows e
some_excess form rows i r copied (Excess e) h g c x = (r, (i, h, sym g), subst (λ (y : List ℤ). IsReductionExcess form y (Excess e)) c x)
some_excess form rows i r copied Memory h g c x = tt

pub reduced_more : (form rows : List (List ℤ)) (i : ℕ) (r t : List ℤ) (all new : List (List ℤ)) → i < length rows → r ≡ get_or rows i r → new ≡ all ++ t ∷ [] → IsReducedBy form r t →
    AreReducedBy form (take i rows) all → AreReducedBy form (take (i + 1) rows) new
reduced_more form rows i r t all new h e f x a =
    subst (λ (l : List (List ℤ)). AreReducedBy form l new) (sym (take_more rows i r h ∙ ap (λ (y : List ℤ). take i rows ++ y ∷ []) (sym e)))
    (subst (AreReducedBy form (take i rows ++ r ∷ [])) (sym f) (reduced_append form (take i rows) all r t a x))

pub width_more : (w : ℕ) (form rows : List (List ℤ)) (i : ℕ) (r t : List ℤ) (all new : List (List ℤ)) → i < length rows → r ≡ get_or rows i r → new ≡ all ++ t ∷ [] → HaveWidth w rows →
    IsReducedBy form r t → HaveWidth w all → HaveWidth w new
width_more w form rows i r t all new h e f widths x a =
    all_width w new (λ y m. elim (Contains-append_cases all (t ∷ []) y (subst (λ (l : List (List ℤ)). Contains l y) f m)) [
      | inl n ↦ All-contains (λ z. length z ≡ w) all y a n
      | inr n ↦ elim (contains_cases t y [] n) [
        | inl q ↦ ap length (sym q) ∙ x.same_length ∙ All-contains (λ z. length z ≡ w) rows r widths (i, h, sym e)
        | inr z ↦ absurd (contains_none y z)
      ]
    ])

pub given_length : {K : Type 0} (equal : K → Bool) (rows : List (List ℤ)) (kinds : List K) → length rows ≡ length kinds → length (rows_by_kind equal rows kinds) ≡ length rows
given_length equal [] kinds n = refl
given_length equal (r ∷ rows) [] n = absurd (omega (arith, n))
given_length equal (r ∷ rows) (k ∷ kinds) n = ap suc (given_length equal rows kinds (omega (arith, n)))

pub taken_length : {K : Type 0} (equal : K → Bool) (s : ConeContent) (m : Matrix) (listed rows : List (List ℤ)) (kinds : List K) (place : ℕ) → m ≡ cone_saturation s.taken s.rays →
    rows_by_kind equal rows kinds ≡ s.taken → listed ≡ rows → length kinds ≡ length rows → place < length listed → place < m.width
taken_length equal s m listed rows kinds place em et el n h =
    let a = ap (λ (x : Matrix). x.width) em in
    let b = ap length (sym et) ∙ given_length equal rows kinds (sym n) in
    let d = ap length el in
    omega (arith, h, a, b, d)

pub kept_widths : (w : ℕ) (marks : List Bool) (rows : List (List ℤ)) (kept : List (List ℤ)) → kept ≡ unmarked marks rows → HaveWidth w rows → HaveWidth w kept
kept_widths w marks rows kept e h = all_width w kept (λ r m. All-contains (λ z. length z ≡ w) rows r h (unmarked_in marks rows r (subst (λ (l : List (List ℤ)). Contains l r) e m)))
  where
    unmarked_in : (marks : List Bool) (rows : List (List ℤ)) (r : List ℤ) → Contains (unmarked marks rows) r → Contains rows r
    unmarked_in marks [] r m = m
    unmarked_in [] (x ∷ rows) r m = m
    unmarked_in (true ∷ marks) (x ∷ rows) r m = contains_tail x r rows (unmarked_in marks rows r m)
    unmarked_in (false ∷ marks) (x ∷ rows) r m = elim (contains_cases x r (unmarked marks rows) m)
        [ inl e ↦ subst (Contains (x ∷ rows)) e (contains_head x rows) | inr n ↦ contains_tail x r rows (unmarked_in marks rows r n) ]

-- ---- the parts, row by row
pub told_row : {K : Type 0} (equal : K → Bool) (s : ConeContent) (listed rows : List (List ℤ)) (kinds : List K) (place n : ℕ) (r copied : List ℤ) (bits : List Bool) (m : Matrix) →
    m ≡ cone_saturation s.taken s.rays → rows_by_kind equal rows kinds ≡ s.taken → listed ≡ rows → length kinds ≡ length rows → place < length listed → r ≡ get_or listed place r → copied ≡ r →
    n ≡ length s.rays + length s.lines → IsFilled (tight_value m.rows place) n n bits → TellsTight s.rays (length s.lines) copied bits
told_row equal s listed rows kinds place n r copied bits m em et el nk h er ec en filled =
    told_by equal s.taken rows kinds s.rays (length s.lines) n place copied bits m.rows et (sym nk) (subst (λ (l : List (List ℤ)). place < length l) el h)
    (ec ∙ er ∙ get_or_default listed place r [] h ∙ ap (λ (l : List (List ℤ)). get_or l place []) el) (ap (λ (x : Matrix). x.rows) em) en filled

-- the rows as the code lists them
pub rows_listed : {K : Type 0} (equal : K → Bool) (taken : List LinearRow) (listed rows : List (List ℤ)) (kinds : List K) → rows_by_kind equal rows kinds ≡ taken → listed ≡ rows →
    length kinds ≡ length rows →
    listed ≡ rows_of taken
rows_listed equal taken listed rows kinds et el nk = el ∙ sym (rows_of_given equal rows kinds (sym nk)) ∙ ap rows_of et

pub row_told : (listed rows : List (List ℤ)) (place : ℕ) (r copied : List ℤ) → listed ≡ rows → place < length listed → r ≡ get_or listed place r → copied ≡ r → copied ≡ get_or rows place []
row_told listed rows place r copied el h er ec = ec ∙ er ∙ get_or_default listed place r [] h ∙ ap (λ (l : List (List ℤ)). get_or l place []) el

pub parts_next : (rays : List (List ℤ)) (lines : ℕ) (rows : List (List ℤ)) (i : ℕ) (r : List ℤ) (tight loose : List (List ℤ)) (bits : List (List Bool)) → i < length rows →
    r ≡ get_or rows i [] → AreParts rays lines (take i rows ++ r ∷ []) tight loose bits → AreParts rays lines (take (i + 1) rows) tight loose bits
parts_next rays lines rows i r tight loose bits h e a =
    subst (λ (l : List (List ℤ)). AreParts rays lines l tight loose bits) (ap (λ (y : List ℤ). take i rows ++ y ∷ []) e ∙ sym (take_more rows i [] h)) a

pub parts_none : (rays : List (List ℤ)) (lines : ℕ) (tight loose : List (List ℤ)) (bits : List (List Bool)) → tight ≡ [] → loose ≡ [] → bits ≡ [] → AreParts rays lines [] tight loose bits
parts_none rays lines tight loose bits et el eb = record {
  is_tight = et;
  is_loose = el;
  told = subst (λ (l : List (List ℤ)). AllTellTight rays lines l bits) (sym el) (subst (AllTellTight rays lines []) (sym eb) tt);
}

pub parts_all : (rays : List (List ℤ)) (lines : ℕ) (rows : List (List ℤ)) (i : ℕ) (tight loose : List (List ℤ)) (bits : List (List Bool)) → length rows ≤ i →
    AreParts rays lines (take i rows) tight loose bits → AreParts rays lines rows tight loose bits
parts_all rays lines rows i tight loose bits h a = subst (λ (l : List (List ℤ)). AreParts rays lines l tight loose bits) (take_all i rows h) a

told_length : (rays : List (List ℤ)) (lines : ℕ) (rows : List (List ℤ)) (bits : List (List Bool)) → AllTellTight rays lines rows bits → length bits ≡ length rows
told_length rays lines [] [] a = refl
told_length rays lines [] (b ∷ bits) a = absurd a
told_length rays lines (r ∷ rows) [] a = absurd a
told_length rays lines (r ∷ rows) (b ∷ bits) a = ap suc (told_length rays lines rows bits a.1)

pub reduced_length : (form rows ts : List (List ℤ)) → AreReducedBy form rows ts → length ts ≡ length rows
reduced_length form [] [] a = refl
reduced_length form [] (t ∷ ts) a = absurd a
reduced_length form (r ∷ rows) [] a = absurd a
reduced_length form (r ∷ rows) (t ∷ ts) a = ap suc (reduced_length form rows ts a.1)

pub as_many : (rays : List (List ℤ)) (lines : ℕ) (form loose reduced : List (List ℤ)) (bits : List (List Bool)) → AllTellTight rays lines loose bits →
    AreReducedBy form loose reduced → length bits ≡ length reduced
as_many rays lines form loose reduced bits a b = told_length rays lines loose bits a ∙ sym (reduced_length form loose reduced b)

-- no row, and some
pub none_of : {A : Type 0} (xs : List A) (n : ℕ) (b : Bool) → length xs ≡ n → b ≡ (n == 0) → b ≡ true → xs ≡ []
none_of {A = A} xs n b l e t = nothing xs (l ∙ eqb-true n 0 (sym e ∙ t))
  where
    nothing : (xs : List A) → length xs ≡ 0 → xs ≡ []
    nothing [] h = refl
    nothing (x ∷ xs) h = absurd (omega (arith, h))

pub some_of : {A : Type 0} (xs : List A) (n : ℕ) (b : Bool) → length xs ≡ n → b ≡ (n == 0) → b ≡ false → xs ≢ []
some_of {A = A} xs n b l e f h = let z : n ≡ 0 = sym l ∙ ap length h in let s : b ≡ (0 == 0) = e ∙ ap (λ (m : ℕ). m == 0) z in cc

pub no_rows : (xs own : List (List ℤ)) (b : Bool) → b ≡ (length xs == 0) → b ≡ true → xs ≡ own → own ≡ []
no_rows xs own b e t s = sym s ∙ none_of xs (length xs) b refl e t

pub some_rows : {K : Type 0} (equal : K → Bool) (listed rows : List (List ℤ)) (kinds : List K) (taken : List LinearRow) → rows_by_kind equal rows kinds ≡ taken → listed ≡ rows →
    length kinds ≡ length rows →
    0 < length taken → 0 < length listed
some_rows equal listed rows kinds taken et el n h = let a = ap length et in let b = given_length equal rows kinds (sym n) in let d = ap length el in omega (arith, h, a, b, d)
