-- The canonical list of the own kind: the form of the tight rows and the others, reduced by it, have the solutions of the rows, and
-- without the redundant ones they are the canonical description of what the rows generate.
use Rattle.std.proofs.Common.{◌≡◌, ℕ, zero, suc, ◌+◌, ◌<◌, ◌≤◌, Bool, true, false, List, [], ◌∷◌, ◌++◌, length, get_or, refl, ap, sym, ◌∙◌, subst, arith, pos, ℤ, ◌+ℤ◌, ◌*ℤ◌, ◌≤ℤ◌, inl, inr}
use Rattle.std.proofs.lemmas.List.Elements.{Contains-append_cases, Contains-append_left, Contains-append_right, Contains-get_or, All-contains}
use Rattle.std.proofs.{Common.◌⊎◌, lemmas.Int.ints, lemmas.List.length-append}
use Rattle.std.specs.List.{Contains}
use Rattle.lra_description_pair.specs.Crates.lra_canonical.Irredundant.{IsSaturation, IsIrredundant, Solutions}
use Rattle.lra_description_pair.specs.Crates.lra_linear_spec.Cones.{Generated, Solves, both_ways, all_rows}
use Rattle.lra_description_pair.specs.Crates.lra_linear_spec.Descriptions.{LinearRow, Gen, rows_as, rows_of, system_of}
use Rattle.lra_description_pair.specs.Crates.lra_linear_spec.Vectors.{entry, dot, product, negated}
use Rattle.lra_description_pair.specs.Crates.{lra_bits.Matrix.Matrix, lra_canonical.Echelons.HaveWidth, lra_canonical.Echelons.SameEqualities, lra_canonical.Reduced.IsEchelonForm}
use Rattle.lra_description_pair.specs.Crates.{lra_canonical.Reduced.SolvesAll, lra_canonical.Reduced.IsReducedBy, lra_linear_spec.Strain.is_tight_at, lra_linear_spec.Strain.tight_rows}
use Rattle.lra_description_pair.proofs.Crates.lra_canonical.Solutions.{farkas, all_widths, solves_all, spanned_solved, reduced_same}
use Rattle.lra_description_pair.proofs.Crates.lra_linear_spec.Descriptions.{FromGiven, system_from, system_has, system_has_negated, gen_generated, generated_gen}
use Rattle.lra_description_pair.proofs.Crates.lra_linear_spec.Membership.{contains_none, contains_cases, contains_head, contains_tail}
use Rattle.lra_description_pair.proofs.Crates.lra_linear_spec.Products.{negated_dot, product_comm, dot_same, dot_scale, dot_plus, dot_zero_row}
use Rattle.lra_description_pair.proofs.Crates.{lra_linear_spec.LinearMaps.generated_nonneg, lra_linear_spec.LinearMaps.generated_through, lra_linear_spec.Lines.in_lines}
use Rattle.lra_description_pair.proofs.Crates.{lra_linear_spec.Lines.signed_from, lra_linear_spec.OneSpelling.given_from, lra_linear_spec.Ring.ring, lra_linear_spec.Ring.v, lra_linear_spec.Ring.◌⊕◌}
use Rattle.lra_description_pair.proofs.Crates.{lra_linear_spec.Ring.◌⊗◌, lra_linear_spec.Signs.between_opposites, lra_linear_spec.Signs.no_product, lra_linear_spec.Signs.opposite_of_zero}
use Rattle.lra_cone.specs.Cones.{ConeContent, IsCone}
use Rattle.lra_descriptions.proofs.SeveralKinds.{system_append, system_rays, system_lines}
use Rattle.lra_cone.proofs.Stepped.{line_tight}
use Rattle.lra_description_pair.specs.OwnLists.{loose_rows, TellsTight, AllTellTight, AreReducedBy, IsOwnList}
use Rattle.lra_description_pair.proofs.TightRows.{tight_said, tight_from, tight_in, loose_in, either_row, rows_has, rows_from, reduced_from, reduced_has, reduced_at}

-- the generators of the cone
abbrev pub cone_generators : ConeContent → List LinearRow
cone_generators s = rows_as false s.rays ++ rows_as true s.lines

pub generators_system : (s : ConeContent) → system_of (cone_generators s) ≡ all_rows s.lines s.rays
generators_system s = system_append (rows_as false s.rays) (rows_as true s.lines) ∙ ap (λ (x : List (List ℤ)). x ++ system_of (rows_as true s.lines)) (system_rays s.rays) ∙
    ap (λ (x : List (List ℤ)). s.rays ++ x) (system_lines s.lines)

-- what the code has made: the form of the tight rows, and the others reduced by it
pub record Made (s : ConeContent) (form reduced : List (List ℤ)) : Type 0 where
  pub cone : IsCone s
  pub is_form : IsEchelonForm form
  pub form_widths : HaveWidth (suc s.dims) form
  pub same : SameEqualities (tight_rows s.rays (rows_of s.taken)) form
  pub are_reduced : AreReducedBy form (loose_rows s.rays (rows_of s.taken)) reduced

-- ---- what a row is to the cone
-- a row is one of the system
row_solved : (s : ConeContent) (r : List ℤ) → Contains (rows_of s.taken) r → Contains (system_of s.taken) r
row_solved s r m = let g = rows_from s.taken r m in subst (Contains (system_of s.taken)) g.2 (system_has s.taken g.0 g.1)

-- a tight row has product 0 with all of the cone
tight_everywhere : (s : ConeContent) → IsCone s → (r : List ℤ) → Contains (tight_rows s.rays (rows_of s.taken)) r → (t : List ℤ) → Contains (all_rows s.lines s.rays) t → product r t ≡ pos 0
tight_everywhere s k r m t n =
    let i = tight_in s.rays (rows_of s.taken) r m in
    elim (Contains-append_cases s.rays (both_ways s.lines) t n) [
      | inl a ↦ tight_said s.rays r i.1 t a
      | inr a ↦ let x = signed_from s.lines t a in line_tight s k t x.line x.has x.sign r (row_solved s r i.0)
    ]

form_everywhere : (s : ConeContent) (form reduced : List (List ℤ)) → Made s form reduced → (t : List ℤ) → Contains (all_rows s.lines s.rays) t →
    SolvesAll form t
form_everywhere s form reduced made t n = (made.same t).0 (λ r m. tight_everywhere s made.cone r m t n)

-- a row with product 0 with all that generates u has product 0 with u
zero_product : (rows : List (List ℤ)) (r u : List ℤ) → ((t : List ℤ) → Contains rows t → product r t ≡ pos 0) → Generated rows (entry u) → product r u ≡ pos 0
zero_product rows r u h g =
    between_opposites (product r u) (dot (negated r) (entry u)) (negated_dot r (entry u))
    (generated_nonneg r rows (entry u) (λ t m. at_least (product r t) (h t m)) g)
    (generated_nonneg (negated r) rows (entry u) (λ t m. opposite_of_zero (product r t) (dot (negated r) (entry t)) (negated_dot r (entry t)) (h t m)) g)
  where
    at_least : (z : ℤ) → z ≡ pos 0 → pos 0 ≤ℤ z
    at_least z e = omega (arith, ints, e)

-- ---- the same solutions
pub to_solutions : (s : ConeContent) (form reduced : List (List ℤ)) → Made s form reduced → (u : List ℤ) → length u ≡ suc s.dims → Solves (system_of s.taken) (entry u) → Solutions form reduced u
to_solutions s form reduced made u l h =
    let g : Generated (all_rows s.lines s.rays) (entry u) = made.cone.dual.solutions u l h in
    let solves : SolvesAll form u = (made.same u).0 (λ r m. zero_product (all_rows s.lines s.rays) r u (tight_everywhere s made.cone r m) g) in (
      solves,
      λ t m.
          let i = reduced_from form (loose_rows s.rays (rows_of s.taken)) reduced made.are_reduced t m in
          (reduced_same form i.0 t i.2 u solves).0 (h i.0 (row_solved s i.0 (loose_in s.rays (rows_of s.taken) i.0 i.1).0)),
    )

-- an equality is tight
equality_tight : (s : ConeContent) → IsCone s → (g : LinearRow) → Contains s.taken g → g.equal ≡ true → is_tight_at s.rays g.row ≡ true
equality_tight s k g m e = tight_from s.rays g.row (λ t n.
    let here = Contains-append_left s.rays (both_ways s.lines) t n in
    between_opposites (product g.row t) (product (negated g.row) t) (negated_dot g.row (entry t)) (k.dual.meets t here g.row (system_has s.taken g m))
    (k.dual.meets t here (negated g.row) (system_has_negated s.taken g m e)))

pub from_solutions : (s : ConeContent) (form reduced : List (List ℤ)) → Made s form reduced → (u : List ℤ) → Solutions form reduced u → Solves (system_of s.taken) (entry u)
from_solutions s form reduced made u h c m =
    let f = system_from s.taken c m in
    elim (either_row s.rays (rows_of s.taken) f.given.row (rows_has s.taken f.given f.has)) [
      | inl t ↦ tight_case f (((made.same u).1 h.0) f.given.row t)
      | inr t ↦ elim f.sign [
        | inl e ↦ subst (λ (y : List ℤ). pos 0 ≤ℤ product y u) (sym e) (loose_case f.given.row t)
        | inr e ↦ absurd (never (is_tight_at s.rays f.given.row) (equality_tight s made.cone f.given f.has e.0) (loose_in s.rays (rows_of s.taken) f.given.row t).1)
      ]
    ]
  where
    never : (b : Bool) → b ≡ true → b ≡ false → ⊥
    never true e f = cc
    never false e f = cc

    zero_nonneg : (z : ℤ) → z ≡ pos 0 → pos 0 ≤ℤ z
    zero_nonneg z e = omega (arith, ints, e)

    tight_case : (f : FromGiven s.taken c) → product f.given.row u ≡ pos 0 → pos 0 ≤ℤ product c u
    tight_case f z = elim f.sign [
      | inl e ↦ zero_nonneg (product c u) (ap (λ (y : List ℤ). product y u) e ∙ z)
      | inr e ↦ opposite_of_zero (product f.given.row u) (product c u) (ap (λ (y : List ℤ). product y u) e.1 ∙ negated_dot f.given.row (entry u)) z
    ]

    loose_case : (r : List ℤ) → Contains (loose_rows s.rays (rows_of s.taken)) r → pos 0 ≤ℤ product r u
    loose_case r t =
        let i = reduced_has form (loose_rows s.rays (rows_of s.taken)) reduced made.are_reduced r t in
        (reduced_same form r i.0 i.2 u h.0).1 (h.1 i.0 i.1)

described : (s : ConeContent) (form reduced : List (List ℤ)) → Made s form reduced → (u : List ℤ) → length u ≡ suc s.dims → (Solutions form reduced u → Gen (cone_generators s) u) ×
    (Gen (cone_generators s) u → Solutions form reduced u)
described s form reduced made u l = (
  (λ h. generated_gen (cone_generators s) (entry u) (subst (λ (x : List (List ℤ)). Generated x (entry u)) (sym (generators_system s))
      (made.cone.dual.solutions u l (from_solutions s form reduced made u h)))),
  (λ g.
      let generated : Generated (all_rows s.lines s.rays) (entry u) = subst (λ (x : List (List ℤ)). Generated x (entry u)) (generators_system s) (gen_generated (cone_generators s) (entry u) g) in
      to_solutions s form reduced made u l (λ c m. generated_nonneg c (all_rows s.lines s.rays) (entry u) (λ t n. made.cone.dual.meets t n c m) generated)),
)

-- ---- the matrix
-- where form rows vanish, a row and what it is reduced to vanish together
reduced_product : (form : List (List ℤ)) (r t u : List ℤ) → IsReducedBy form r t → SolvesAll form u → (product t u ≡ pos 0 → product r u ≡ pos 0) × (product r u ≡ pos 0 → product t u ≡ pos 0)
reduced_product form r t u x h =
    let a = x.along in
    let z : dot u a.line ≡ pos 0 = spanned_solved form a.line u a.on_line h in
    let both : pos a.times *ℤ dot u (entry t) ≡ pos a.other *ℤ dot u (entry r) =
    sym (dot_scale u (pos a.times) (entry t)) ∙ dot_same u (λ j. pos a.times *ℤ entry t j) (λ j. (pos a.other *ℤ entry r j) +ℤ a.line j) a.is_sum ∙
    dot_plus u (pos a.other) (entry r) a.line ∙ ap (λ y. (pos a.other *ℤ dot u (entry r)) +ℤ y) z ∙
    ring (v (pos a.other) ⊗ v (dot u (entry r)) ⊕ v (pos 0)) (v (pos a.other) ⊗ v (dot u (entry r))) (omega arith) in (
      (λ e. product_comm r u ∙ no_product a.other (dot u (entry r)) a.other_positive (sym both ∙ ap (λ y. pos a.times *ℤ y) (product_comm u t ∙ e) ∙
          ring (v (pos a.times) ⊗ v (pos 0)) (v (pos 0)) (omega arith))),
      (λ e. product_comm t u ∙ no_product a.times (dot u (entry t)) a.positive (both ∙ ap (λ y. pos a.other *ℤ y) (product_comm u r ∙ e) ∙
          ring (v (pos a.other) ⊗ v (pos 0)) (v (pos 0)) (omega arith))),
    )

told_at : (rays : List (List ℤ)) (lines : ℕ) (rows : List (List ℤ)) (bits : List (List Bool)) → AllTellTight rays lines rows bits → (i : ℕ) → i < length rows →
    TellsTight rays lines (get_or rows i []) (get_or bits i [])
told_at rays lines [] bits a i h = absurd (omega (arith, h))
told_at rays lines (r ∷ rows) [] a i h = absurd a
told_at rays lines (r ∷ rows) (b ∷ bits) a zero h = a.0
told_at rays lines (r ∷ rows) (b ∷ bits) a (suc i) h = told_at rays lines rows bits a.1 i (omega (arith, h))

given_length : (b : Bool) (rows : List (List ℤ)) → length (rows_as b rows) ≡ length rows
given_length b [] = refl
given_length b (r ∷ rows) = ap suc (given_length b rows)

pub many_generators : (s : ConeContent) → length (cone_generators s) ≡ length s.rays + length s.lines
many_generators s = length-append (rows_as false s.rays) (rows_as true s.lines) ∙ ap (λ (n : ℕ). n + length (rows_as true s.lines)) (given_length false s.rays) ∙
    ap (λ (n : ℕ). length s.rays + n) (given_length true s.lines)

-- the generator at a place is a ray or a line
generator_at : (rays lines : List (List ℤ)) (j : ℕ) (g : LinearRow) → j < length rays + length lines →
    ((j < length rays) × ((get_or (rows_as false rays ++ rows_as true lines) j g).row ≡ get_or rays j [])) ⊎
    ((length rays ≤ j) × Contains lines (get_or (rows_as false rays ++ rows_as true lines) j g).row)
generator_at [] [] j g h = absurd (omega (arith, h))
generator_at [] (l ∷ lines) zero g h = inr (omega arith, contains_head l lines)
generator_at [] (l ∷ lines) (suc j) g h = elim (generator_at [] lines j g (omega (arith, h)))
    [ inl x ↦ absurd (omega (arith, x.0)) | inr x ↦ inr (omega arith, contains_tail l (get_or (rows_as true lines) j g).row lines x.1) ]
generator_at (r ∷ rays) lines zero g h = inl (omega arith, refl)
generator_at (r ∷ rays) lines (suc j) g h = elim (generator_at rays lines j g (omega (arith, h))) [ inl x ↦ inl (omega (arith, x.0), x.1) | inr x ↦ inr (omega (arith, x.0), x.1) ]

generator_in : (s : ConeContent) (g : LinearRow) → Contains (cone_generators s) g → Contains (all_rows s.lines s.rays) g.row
generator_in s g m = elim (Contains-append_cases (rows_as false s.rays) (rows_as true s.lines) g m) [
  | inl i ↦ Contains-append_left s.rays (both_ways s.lines) g.row (given_from false s.rays g i).1
  | inr i ↦ Contains-append_right s.rays (both_ways s.lines) g.row (in_lines s.lines g.row (given_from true s.lines g i).1)
]

-- ---- the reduced rows as `drop_redundant` asks for them
pub is_saturation : (s : ConeContent) (form reduced : List (List ℤ)) (matrix : Matrix) → Made s form reduced → HaveWidth (suc s.dims) reduced →
    AllTellTight s.rays (length s.lines) (loose_rows s.rays (rows_of s.taken)) matrix.rows →
    IsSaturation (suc s.dims) form (cone_generators s) reduced matrix
is_saturation s form reduced matrix made widths told = record {
  is_form = made.is_form;
  form_widths = made.form_widths;
  row_widths = widths;
  widths = λ g m. made.cone.dual.row_widths g.row (generator_in s g m);
  described = λ u l. described s form reduced made u l;
  reduced = λ r line m n. (reduced_from form loose reduced made.are_reduced r m).2.zeros line n;
  lowest = λ r m. elim (reduced_from form loose reduced made.are_reduced r m).2.lowest [ inl p ↦ p | inr z ↦ absurd (not_tight r m (λ g n. dot_zero_row r (entry g.row) z)) ];
  loose = not_tight;
  columns = λ i h. let t = at i h in t.1.many ∙ sym (many_generators s);
  tight = λ i j g h l.
      let t = at i h in
      let both = reduced_product form (get_or loose i []) (get_or reduced i []) in
      let here = generator_at s.rays s.lines j g (omega (arith, l, many_generators s)) in
      let x = get_or (cone_generators s) j g in
      elim here [
        | inl ray ↦
            let solves : SolvesAll form x.row = subst (SolvesAll form) (sym ray.1) (form_everywhere s form reduced made (get_or s.rays j [])
            (Contains-append_left s.rays (both_ways s.lines) (get_or s.rays j []) (Contains-get_or s.rays j [] ray.0))) in
            let told_here = t.1.at_rays j ray.0 in
            let p = both x.row t.0.1 solves in (
              (λ e. p.1 (ap (product (get_or loose i [])) ray.1 ∙ told_here.0 e)),
              (λ e. told_here.1 (ap (product (get_or loose i [])) (sym ray.1) ∙ p.0 e)),
            )
        | inr line ↦
            let on : Contains (all_rows s.lines s.rays) x.row = Contains-append_right s.rays (both_ways s.lines) x.row (in_lines s.lines x.row line.1) in
            let solves : SolvesAll form x.row = form_everywhere s form reduced made x.row on in
            let row : Contains loose (get_or loose i []) = Contains-get_or loose i [] t.0.0 in
            let zero_here : product (get_or loose i []) x.row ≡ pos 0 = line_tight s made.cone x.row x.row line.1 (inl refl) (get_or loose i [])
            (row_solved s (get_or loose i []) (loose_in s.rays (rows_of s.taken) (get_or loose i []) row).0) in (
              (λ e. (both x.row t.0.1 solves).1 zero_here),
              (λ e. t.1.at_lines j line.0 (omega (arith, l, many_generators s, t.1.many))),
            )
      ];
}
  where
    loose : List (List ℤ)
    loose = loose_rows s.rays (rows_of s.taken)

    at : (i : ℕ) → i < length reduced → ((i < length loose) × IsReducedBy form (get_or loose i []) (get_or reduced i [])) ×
        TellsTight s.rays (length s.lines) (get_or loose i []) (get_or matrix.rows i [])
    at i h = let r = reduced_at form loose reduced made.are_reduced i h in (r, told_at s.rays (length s.lines) loose matrix.rows told i r.0)

    never : (b : Bool) → b ≡ true → b ≡ false → ⊥
    never true e f = cc
    never false e f = cc

    given_has : (rows : List (List ℤ)) (r : List ℤ) → Contains rows r → Contains (rows_as false rows) (record { row = r; equal = false })
    given_has [] r k = absurd (contains_none r k)
    given_has (x ∷ rows) r k = elim (contains_cases x r rows k) [
      | inl e ↦ subst (λ (y : List ℤ). Contains (rows_as false (x ∷ rows)) (record { row = y; equal = false })) e
          (contains_head (let g : LinearRow = record { row = x; equal = false } in g) (rows_as false rows))
      | inr m ↦ contains_tail (let g : LinearRow = record { row = x; equal = false } in g) (let g : LinearRow = record { row = r; equal = false } in g) (rows_as false rows) (given_has rows r m)
    ]

    not_tight : (r : List ℤ) → Contains reduced r → ¬ ((g : LinearRow) → Contains (cone_generators s) g → product r g.row ≡ pos 0)
    not_tight r m h =
        let i = reduced_from form loose reduced made.are_reduced r m in
        never (is_tight_at s.rays i.0)
        (tight_from s.rays i.0 (λ t n.
        (reduced_product form i.0 r t i.2 (form_everywhere s form reduced made t (Contains-append_left s.rays (both_ways s.lines) t n))).0
        (h (record { row = t; equal = false }) (Contains-append_left (rows_as false s.rays) (rows_as true s.lines) (record { row = t; equal = false }) (given_has s.rays t n)))))
        (loose_in s.rays (rows_of s.taken) i.0 i.1).1

-- ---- what is left is the canonical list
pub own_canonical : (s : ConeContent) (form reduced kept : List (List ℤ)) → Made s form reduced → HaveWidth (suc s.dims) kept → IsIrredundant (suc s.dims) form reduced kept → IsOwnList s form kept
own_canonical s form reduced kept made widths x = record {
  canonical = x.canonical;
  widths = wide;
  same = λ u. (
    (λ g. generated_through (all_rows form kept) (system_of s.taken) u (λ t m. farkas w (all_rows form kept) t wide (made.cone.dual.system_widths t m)
        (λ q l h. from_solutions s form reduced made q ((x.same q l).1 (shown q h)) t m)) g),
    (λ g. generated_through (system_of s.taken) (all_rows form kept) u (λ t m. made.cone.dual.consequences t (wide t m)
        (λ q n. subst (λ z. pos 0 ≤ℤ z) (product_comm t q) (solved t m q (made.cone.dual.row_widths q n) (λ c i. made.cone.dual.meets q n c i)))) g),
  );
}
  where
    w : ℕ
    w = suc s.dims

    wide : (t : List ℤ) → Contains (all_rows form kept) t → length t ≡ w
    wide = all_widths w form kept (λ t m. All-contains (λ r. length r ≡ w) form t made.form_widths m) (λ t m. All-contains (λ r. length r ≡ w) kept t widths m)

    shown : (q : List ℤ) → Solves (all_rows form kept) (entry q) → Solutions form kept q
    shown q h = (solves_all form kept q h, λ r m. h r (Contains-append_left kept (both_ways form) r m))

    at_least : (z : ℤ) → z ≡ pos 0 → pos 0 ≤ℤ z
    at_least z e = omega (arith, ints, e)

    solved : (t : List ℤ) → Contains (all_rows form kept) t → (q : List ℤ) → length q ≡ w → Solves (system_of s.taken) (entry q) → pos 0 ≤ℤ product t q
    solved t m q l h =
        let y = (x.same q l).0 (to_solutions s form reduced made q l h) in
        elim (Contains-append_cases kept (both_ways form) t m) [
          | inl i ↦ y.1 t i
          | inr i ↦ let z = signed_from form t i in elim z.sign [
            | inl e ↦ at_least (product t q) (ap (λ (k : List ℤ). product k q) e ∙ y.0 z.line z.has)
            | inr e ↦ opposite_of_zero (product z.line q) (product t q) (ap (λ (k : List ℤ). product k q) e ∙ negated_dot z.line (entry q)) (y.0 z.line z.has)
          ]
        ]
