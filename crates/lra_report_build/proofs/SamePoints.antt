-- The rows and generators that show two lists describe the points of the lists.
use Rattle.std.proofs.Common.{◌≡◌, ◌∙◌, ℕ, zero, suc, ℤ, pos, negsuc, ◌+ℤ◌, ◌*ℤ◌, ◌≤ℤ◌, Bool, true, false, cond, List, [], ◌∷◌, map, inl, inr, refl, sym, ap, subst, arith}
use Rattle.std.proofs.lemmas.Int.{ints}
use Rattle.std.specs.Prelude.{get_or}
use Rattle.lra_report_build.specs.Crates.lra_linear_spec.Descriptions.{LinearRow, IsGenerator, AreGenerators, lines_of, rays_of, HoldsWith, Holds, Con, Gen}
use Rattle.lra_report_build.specs.Crates.lra_linear_spec.Vectors.{entry, product, sum_of, signed_sum}
use Rattle.lra_report_build.specs.Crates.{lra_linear_spec.Kinds.constraint_kind, lra_linear_spec.declared.GenKind.GenKind, lra_linear_spec.declared.GenKind.TheVariants.Line}
use Rattle.lra_report_build.proofs.Crates.lra_linear_spec.Membership.{contains_none, contains_head, contains_tail, contains_cases}
use Rattle.lra_row_text.specs.{Part.ReportGenerator, Shown.report_row, Shown.report_generator, ShownDescriptions.generator_kind, ShownDescriptions.shown_constraint, ShownDescriptions.shown_generator}
use Rattle.lra_report.specs.Parts.{RationalPoint, RowHoldsAt, LiesInPart, IsFactor, AreFactors, IsGenerated}

-- a point as a row of the lists
abbrev pub as_row : RationalPoint → List ℤ
as_row x = pos x.divisor ∷ x.numerators

-- ---- rows
row_to : (row : List ℤ) (b : Bool) (x : RationalPoint) → RowHoldsAt (report_row row (constraint_kind b)) x → HoldsWith b (product row (as_row x))
row_to [] true x h = refl
row_to [] false x h = omega (arith, ints)
row_to (c ∷ cs) true x h = h
row_to (c ∷ cs) false x h = h

row_from : (row : List ℤ) (b : Bool) (x : RationalPoint) → HoldsWith b (product row (as_row x)) → RowHoldsAt (report_row row (constraint_kind b)) x
row_from [] true x h = omega (arith, ints)
row_from [] false x h = omega (arith, ints)
row_from (c ∷ cs) true x h = h
row_from (c ∷ cs) false x h = h

pub within_con : (rows : List LinearRow) (x : RationalPoint) → LiesInPart (map shown_constraint rows) x → Con rows (as_row x)
within_con [] x h g k = absurd (contains_none g k)
within_con (r ∷ rows) x h g k = elim (contains_cases r g rows k) [
  | inl e ↦ subst (λ (z : LinearRow). Holds z (as_row x)) e (row_to r.row r.equal x h.0)
  | inr d ↦ within_con rows x h.1 g d
]

pub con_within : (rows : List LinearRow) (x : RationalPoint) → Con rows (as_row x) → LiesInPart (map shown_constraint rows) x
con_within [] x h = tt
con_within (r ∷ rows) x h = (row_from r.row r.equal x (h r (contains_head r rows)), con_within rows x (λ g k. h g (contains_tail r g rows k)))

-- ---- columns of generators
kind_of_report : (row : List ℤ) (k : GenKind) → (report_generator row k).kind ≡ k
kind_of_report [] k = refl
kind_of_report (d ∷ zs) k = refl

divisor_is : (row : List ℤ) (b : Bool) (k : GenKind) → IsGenerator (record { row = row; equal = b }) → pos (report_generator row k).divisor ≡ entry row 0
divisor_is [] b k h = refl
divisor_is (pos n ∷ zs) b k h = refl
divisor_is (negsuc n ∷ zs) b k (inl h) = absurd (let above = h.1 in omega (arith, ints, above))
divisor_is (negsuc n ∷ zs) b k (inr h) = absurd (omega (arith, ints, h))

get_entry : (zs : List ℤ) (j : ℕ) → get_or zs j (pos 0) ≡ entry zs j
get_entry [] j = refl
get_entry (z ∷ zs) zero = refl
get_entry (z ∷ zs) (suc j) = get_entry zs j

number_is : (row : List ℤ) (k : GenKind) (j : ℕ) → get_or (report_generator row k).numbers j (pos 0) ≡ entry row (suc j)
number_is [] k j = refl
number_is (d ∷ zs) k j = get_entry zs j

abbrev column : List LinearRow → ℕ → List ℤ
column gs j = map (λ (g : LinearRow). entry g.row j) gs

divisors_are : (gs : List LinearRow) → AreGenerators gs → map (λ (g : ReportGenerator). pos g.divisor) (map shown_generator gs) ≡ column gs 0
divisors_are [] are = refl
divisors_are (g ∷ gs) are =
    ap (λ z. z ∷ map (λ (g : ReportGenerator). pos g.divisor) (map shown_generator gs))
    (divisor_is g.row g.equal (generator_kind g.equal (entry g.row 0)) (are g (contains_head g gs)))
    ∙ ap (λ zs. entry g.row 0 ∷ zs) (divisors_are gs (λ x k. are x (contains_tail g x gs k)))

numbers_are : (gs : List LinearRow) (j : ℕ) → map (λ (g : ReportGenerator). get_or g.numbers j (pos 0)) (map shown_generator gs) ≡ column gs (suc j)
numbers_are [] j = refl
numbers_are (g ∷ gs) j =
    ap (λ z. z ∷ map (λ (g : ReportGenerator). get_or g.numbers j (pos 0)) (map shown_generator gs))
    (number_is g.row (generator_kind g.equal (entry g.row 0)) j)
    ∙ ap (λ zs. entry g.row (suc j) ∷ zs) (numbers_are gs j)

-- ---- factors
-- a point's and a ray's factor isn't negative
kind_nonneg : (w z : ℤ) → IsFactor (generator_kind false w) z → pos 0 ≤ℤ z
kind_nonneg (pos zero) z h = h
kind_nonneg (pos (suc n)) z h = h
kind_nonneg (negsuc n) z h = h

nonneg_kind : (w z : ℤ) → pos 0 ≤ℤ z → IsFactor (generator_kind false w) z
nonneg_kind (pos zero) z h = h
nonneg_kind (pos (suc n)) z h = h
nonneg_kind (negsuc n) z h = h

factor_nonneg : (row : List ℤ) (z : ℤ) → IsFactor (shown_generator (record { row = row; equal = false })).kind z → pos 0 ≤ℤ z
factor_nonneg row z h = kind_nonneg (entry row 0) z (subst (λ k. IsFactor k z) (kind_of_report row (generator_kind false (entry row 0))) h)

nonneg_factor : (row : List ℤ) (z : ℤ) → pos 0 ≤ℤ z → IsFactor (shown_generator (record { row = row; equal = false })).kind z
nonneg_factor row z h = subst (λ k. IsFactor k z) (sym (kind_of_report row (generator_kind false (entry row 0)))) (nonneg_kind (entry row 0) z h)

line_factor : (row : List ℤ) (z : ℤ) → IsFactor (shown_generator (record { row = row; equal = true })).kind z
line_factor row z = subst (λ k. IsFactor k z) (sym (kind_of_report row Line)) tt

-- ---- one list of factors, or one for lines and one for points and rays
add_left : (a b c d : ℤ) → b +ℤ c ≡ d → (a +ℤ b) +ℤ c ≡ a +ℤ d
add_left a b c d e = omega (arith, ints, e)

add_right : (a b c d : ℤ) → b +ℤ c ≡ d → b +ℤ (a +ℤ c) ≡ a +ℤ d
add_right a b c d e = omega (arith, ints, e)

record Halves (lines rays : List (List ℤ)) (total : ℕ → ℤ) : Type 0 where
  free : List ℤ
  factors : List ℕ
  same : (j : ℕ) → signed_sum free lines j +ℤ sum_of factors rays j ≡ total j

halve_first : (row : List ℤ) (b : Bool) (z : ℤ) (lines rays : List (List ℤ)) (total : ℕ → ℤ) → IsFactor
    (shown_generator (record { row = row; equal = b })).kind z → Halves lines rays total
    → Halves (cond b (row ∷ lines) lines) (cond b rays (row ∷ rays)) (λ j. (z *ℤ entry row j) +ℤ total j)
halve_first row true z lines rays total f h = record {
  free = z ∷ h.free;
  factors = h.factors;
  same = λ j. add_left (z *ℤ entry row j) (signed_sum h.free lines j) (sum_of h.factors rays j) (total j) (h.same j);
}
halve_first row false (pos n) lines rays total f h = record {
  free = h.free;
  factors = n ∷ h.factors;
  same = λ j. add_right (pos n *ℤ entry row j) (signed_sum h.free lines j) (sum_of h.factors rays j) (total j) (h.same j);
}
halve_first row false (negsuc n) lines rays total f h = absurd (let not_below = factor_nonneg row (negsuc n) f in omega (arith, ints, not_below))

halves : (gs : List LinearRow) (zs : List ℤ) → AreFactors (map shown_generator gs) zs → Halves (lines_of gs) (rays_of gs) (λ j. product zs (column gs j))
halves [] [] h = record { free = []; factors = []; same = λ j. refl }
halves [] (z ∷ zs) h = absurd h
halves (g ∷ gs) [] h = absurd h
halves (g ∷ gs) (z ∷ zs) h = halve_first g.row g.equal z (lines_of gs) (rays_of gs) (λ j. product zs (column gs j)) h.0 (halves gs zs h.1)

record Whole (shown : List ReportGenerator) (columns : ℕ → List ℤ) (total : ℕ → ℤ) : Type 0 where
  factors : List ℤ
  are : AreFactors shown factors
  same : (j : ℕ) → product factors (columns j) ≡ total j

-- the totals of lines and of points and rays
abbrev both_sums : List ℤ → List ℕ → List (List ℤ) → List (List ℤ) → ℕ → ℤ
both_sums free factors lines rays j = signed_sum free lines j +ℤ sum_of factors rays j

none_first : (a b c : ℤ) → a ≡ pos 0 +ℤ c → (pos 0 *ℤ b) +ℤ a ≡ pos 0 +ℤ c
none_first a b c e = omega (arith, ints, e)

none_second : (a b c : ℤ) → a ≡ c +ℤ pos 0 → (pos 0 *ℤ b) +ℤ a ≡ c +ℤ pos 0
none_second a b c e = omega (arith, ints, e)

join_first : (row : List ℤ) (b : Bool) (rest : List ReportGenerator) (columns : ℕ → List ℤ) (lines rays : List (List ℤ)) (free : List ℤ) (factors : List ℕ)
    → ((fs : List ℤ) (ns : List ℕ) → Whole rest columns (both_sums fs ns lines rays))
    → Whole (shown_generator (record { row = row; equal = b }) ∷ rest) (λ j. entry row j ∷ columns j)
    (both_sums free factors (cond b (row ∷ lines) lines) (cond b rays (row ∷ rays)))
join_first row true rest columns lines rays [] factors later = let w = later [] factors in record {
  factors = pos 0 ∷ w.factors;
  are = (line_factor row (pos 0), w.are);
  same = λ j. none_first (product w.factors (columns j)) (entry row j) (sum_of factors rays j) (w.same j);
}
join_first row true rest columns lines rays (z ∷ zs) factors later = let w = later zs factors in record {
  factors = z ∷ w.factors;
  are = (line_factor row z, w.are);
  same = λ j. sym (add_left (z *ℤ entry row j) (signed_sum zs lines j) (sum_of factors rays j) (product w.factors (columns j)) (sym (w.same j)));
}
join_first row false rest columns lines rays free [] later = let w = later free [] in record {
  factors = pos 0 ∷ w.factors;
  are = (nonneg_factor row (pos 0) (omega (arith, ints)), w.are);
  same = λ j. none_second (product w.factors (columns j)) (entry row j) (signed_sum free lines j) (w.same j);
}
join_first row false rest columns lines rays free (n ∷ ns) later = let w = later free ns in record {
  factors = pos n ∷ w.factors;
  are = (nonneg_factor row (pos n) (omega (arith, ints)), w.are);
  same = λ j. sym (add_right (pos n *ℤ entry row j) (signed_sum free lines j) (sum_of ns rays j) (product w.factors (columns j)) (sym (w.same j)));
}

nothing : (zs : List ℤ) (fs : List ℕ) (j : ℕ) → pos 0 ≡ signed_sum zs [] j +ℤ sum_of fs [] j
nothing [] [] j = refl
nothing [] (f ∷ fs) j = refl
nothing (z ∷ zs) [] j = refl
nothing (z ∷ zs) (f ∷ fs) j = refl

whole : (gs : List LinearRow) (free : List ℤ) (factors : List ℕ) →
    Whole (map shown_generator gs) (column gs) (both_sums free factors (lines_of gs) (rays_of gs))
whole [] free factors = record { factors = []; are = tt; same = nothing free factors }
whole (g ∷ gs) free factors = join_first g.row g.equal (map shown_generator gs) (column gs) (lines_of gs) (rays_of gs) free factors (whole gs)

-- ---- what is generated
pub generated_gen : (gs : List LinearRow) → AreGenerators gs → (x : RationalPoint) → IsGenerated (map shown_generator gs) x → Gen gs (as_row x)
generated_gen gs are x h = record { multiple = h.multiple; positive = h.positive; free = s.free; factors = s.factors; is_sum = columns }
  where
    s : Halves (lines_of gs) (rays_of gs) (λ j. product h.factors (column gs j))
    s = halves gs h.factors h.are_factors

    columns : (j : ℕ) → pos h.multiple *ℤ entry (as_row x) j ≡ signed_sum s.free (lines_of gs) j +ℤ sum_of s.factors (rays_of gs) j
    columns zero = h.divisor ∙ ap (product h.factors) (divisors_are gs are) ∙ sym (s.same 0)
    columns (suc j) =
        ap (λ z. pos h.multiple *ℤ z) (sym (get_entry x.numerators j)) ∙ h.numerators j ∙ ap (product h.factors) (numbers_are gs j) ∙ sym (s.same (suc j))

pub gen_generated : (gs : List LinearRow) → AreGenerators gs → (x : RationalPoint) → Gen gs (as_row x) → IsGenerated (map shown_generator gs) x
gen_generated gs are x h =
    let w = whole gs h.free h.factors in
    record {
      multiple = h.multiple;
      positive = h.positive;
      factors = w.factors;
      are_factors = w.are;
      divisor = h.is_sum 0 ∙ sym (w.same 0) ∙ ap (product w.factors) (sym (divisors_are gs are));
      numerators = λ j.
          ap (λ z. pos h.multiple *ℤ z) (get_entry x.numerators j) ∙ h.is_sum (suc j) ∙ sym (w.same (suc j)) ∙ ap (product w.factors) (sym (numbers_are gs j));
    }
