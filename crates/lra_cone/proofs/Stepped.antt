-- The cone after a step: both cases give the canonical description of the rows with the one added, and its matrix.
use Rattle.std.proofs.Common.{◌≡◌, ℕ, suc, ◌<◌, ◌≤◌, Bool, true, false, cond, not, List, [], ◌∷◌, ◌++◌, length, get_or, map, replicate, refl, ap, sym, ◌∙◌, subst, arith, pos, ℤ, neg_ℤ, ◌<ℤ◌, ◌≤ℤ◌}
use Rattle.std.proofs.lemmas.List.{get_or-map, length-map, get_or_default, length-append, length-replicate}
use Rattle.std.proofs.lemmas.List.Elements.{Contains-append_cases, Contains-append_left, Contains-append_right, Contains-get_or}
use Rattle.std.proofs.{Common.inl, Common.inr, Common.◌⊎◌, lemmas.Bool.Decides.Decides-int_eq, lemmas.Int.ints}
use Rattle.std.specs.{List.Contains, List.All, Ordering.int_eq, Prelude.Some, Prelude.None}
use Rattle.lra_cone.specs.Crates.{lra_bits.Matrix.Matrix, lra_bits.Matrix.unmarked, lra_linear_spec.Canonical.IsCanonical, lra_linear_spec.ConeStrain.IsIntersection}
use Rattle.lra_cone.specs.Crates.{lra_linear_spec.ConeStrain.row_limit, lra_linear_spec.Cones.all_rows, lra_linear_spec.Cones.both_ways, lra_linear_spec.Cones.with_row}
use Rattle.lra_cone.specs.Crates.{lra_linear_spec.Descriptions.LinearRow, lra_linear_spec.Descriptions.system_of, lra_linear_spec.Vectors.product, lra_linear_spec.Vectors.negated}
use Rattle.lra_cone.proofs.Crates.lra_linear_spec.Membership.{contains_cases, contains_head, contains_tail}
use Rattle.lra_cone.proofs.Crates.{lra_linear_spec.DoubleDescription.LineCase, lra_linear_spec.FlatRows.flats_from, lra_linear_spec.FlatRows.member_primitive, lra_linear_spec.LineCase.line_case_kept}
use Rattle.lra_cone.proofs.Crates.{lra_linear_spec.LineCase.line_case_dual, lra_linear_spec.Lines.signed_from, lra_linear_spec.Lines.in_lines, lra_linear_spec.Lines.in_lines_negated}
use Rattle.lra_cone.proofs.Crates.{lra_linear_spec.Products.negated_length, lra_linear_spec.Products.dot_negated, lra_linear_spec.Products.negated_twice, lra_linear_spec.Signs.between_opposites}
use Rattle.lra_cone.specs.{Cones.ConeContent, Cones.IsCone, Cones.tight_values, Cones.saturation_rows, Cones.cone_saturation, Strains.TooManyRays}
use Rattle.lra_double_description.specs.Pairs.{HaveOneWidth, IsAdjacentPair, ArePairs, AreCombined, pair_tight_rows, IsCut}
use Rattle.lra_double_description.specs.Steps.{IsLastAcross, IsTurned, AreFlatLines, AreFlatRays, lengthened_rows, flat_matrix, outside_marks, is_inside, inside_count}
use Rattle.lra_double_description.specs.{declared.line_step.Across.Across, declared.pairs.Pair.Pair, declared.ray_step.Cut.Cut}
use Rattle.lra_cone.proofs.Taking.{to_end, from_end, line_case, flat_rows, values_line, kept_rows}
use Rattle.lra_cone.proofs.TightRows.{values_end, rows_length, rows_append, rows_unmarked, row_at, values_length}
use Rattle.lra_cone.proofs.{Cutting.inside_rays, Cutting.unmarked_are, Cutting.cut_case, Cutting.pair_rows, RayCase.RayCase, RayCase.system_same, RayCase.new_canonical, RayCase.new_met}

abbrev pub taken_last : ConeContent → LinearRow → List (List ℤ) → List (List ℤ) → ConeContent
taken_last s g lines rays = record { dims = s.dims; taken = s.taken ++ g ∷ []; lines = lines; rays = rays }

-- what is met is what the rows with the one added describe
pub cone_of : (s : ConeContent) (g : LinearRow) (lines rays : List (List ℤ)) → IsCone s → IsIntersection (suc s.dims) g.equal g.row (all_rows s.lines s.rays) (all_rows lines rays) →
    IsCanonical lines rays →
    length rays ≤ row_limit → IsCone (taken_last s g lines rays)
cone_of s g lines rays k met canonical few = record {
  dual = system_same (suc s.dims) (with_row g.equal g.row (system_of s.taken)) (system_of (s.taken ++ g ∷ [])) (all_rows lines rays) (to_end s.taken g) (from_end s.taken g)
      (met (system_of s.taken) k.dual);
  canonical = canonical;
  few = few;
}

-- ---- with a line across
among : (b : Bool) (l : List ℤ) (flat : List (List ℤ)) (t : List ℤ) → Contains (cond b flat (l ∷ flat)) t → Contains flat t ⊎ (t ≡ l)
among true l flat t m = inl m
among false l flat t m = elim (contains_cases l t flat m) [ inl e ↦ inr (sym e) | inr n ↦ inl n ]

case_widths : (w : ℕ) (equal : Bool) (c : List ℤ) (lines rays new_lines new_rays : List (List ℤ)) → LineCase equal c lines rays new_lines new_rays →
    ((t : List ℤ) → Contains (all_rows lines rays) t → length t ≡ w) →
    (t : List ℤ) → Contains (all_rows new_lines new_rays) t → length t ≡ w
case_widths w equal c lines rays new_lines new_rays x old t m = elim (Contains-append_cases new_rays (both_ways new_lines) t m) [
  | inl i ↦ elim (among equal x.signed x.flat_rays t (subst (λ (y : List (List ℤ)). Contains y t) x.are_rays i)) [
    | inl j ↦ let o = flats_from c x.signed rays x.flat_rays x.rays_flat t j in o.flat.same_length ∙ old o.row (Contains-append_left rays (both_ways lines) o.row o.has)
    | inr e ↦ ap length e ∙ elim x.sign [ inl f ↦ ap length f ∙ middle | inr f ↦ ap length f ∙ negated_length x.line ∙ middle ]
  ]
  | inr i ↦
      let l = signed_from new_lines t i in
      let here = new_line l.line (subst (λ (y : List (List ℤ)). Contains y l.line) x.are_lines l.has) in
      elim l.sign [ inl f ↦ ap length f ∙ here | inr f ↦ ap length f ∙ negated_length l.line ∙ here ]
]
  where
    old_line : (r : List ℤ) → Contains (x.before ++ x.line ∷ x.after) r → length r ≡ w
    old_line r m = old r (Contains-append_right rays (both_ways lines) r (in_lines lines r (subst (λ (y : List (List ℤ)). Contains y r) (sym x.is_lines) m)))

    middle : length x.line ≡ w
    middle = old_line x.line (Contains-append_right x.before (x.line ∷ x.after) x.line (contains_head x.line x.after))

    new_line : (r : List ℤ) → Contains (x.new_before ++ x.after) r → length r ≡ w
    new_line r m = elim (Contains-append_cases x.new_before x.after r m) [
      | inl i ↦ let o = flats_from c x.signed x.before x.new_before x.lines_flat r i in o.flat.same_length ∙ old_line o.row (Contains-append_left x.before (x.line ∷ x.after) o.row o.has)
      | inr i ↦ old_line r (Contains-append_right x.before (x.line ∷ x.after) r (contains_tail x.line r x.after i))
    ]

pub line_met : (s : ConeContent) (g : LinearRow) (lines rays : List (List ℤ)) → IsCone s → length g.row ≡ suc s.dims →
    LineCase g.equal g.row s.lines s.rays lines rays →
    IsIntersection (suc s.dims) g.equal g.row (all_rows s.lines s.rays) (all_rows lines rays)
line_met s g lines rays k w x = λ system d. line_case_dual (suc s.dims) g.equal g.row s.lines s.rays lines rays x w k.dual.row_widths
    (case_widths (suc s.dims) g.equal g.row s.lines s.rays lines rays x k.dual.row_widths) system d

pub line_canonical : (s : ConeContent) (g : LinearRow) (lines rays : List (List ℤ)) → IsCone s → LineCase g.equal g.row s.lines s.rays lines rays →
    IsCanonical lines rays
line_canonical s g lines rays k x = line_case_kept (suc s.dims) g.equal g.row s.lines s.rays lines rays x k.canonical

-- each row added is tight at a line, in either direction
pub line_tight : (s : ConeContent) → IsCone s → (l line : List ℤ) → Contains s.lines line → (l ≡ line) ⊎ (l ≡ negated line) → (c : List ℤ) → Contains (system_of s.taken) c → product c l ≡ pos 0
line_tight s k l line m sign c i =
    let at : (q : List ℤ) → Contains (both_ways s.lines) q → pos 0 ≤ℤ product c q = λ q o. k.dual.meets q (Contains-append_right s.rays (both_ways s.lines) q o) c i in
    let z : product c line ≡ pos 0 = between_opposites (product c line) (product c (negated line)) (dot_negated c line) (at line (in_lines s.lines line m))
    (at (negated line) (in_lines_negated s.lines line m)) in
    elim sign [ inl e ↦ ap (product c) e ∙ z | inr e ↦ ap (product c) e ∙ dot_negated c line ∙ ap neg_ℤ z ]

pub line_matrix : (s : ConeContent) (g : LinearRow) (lines rays : List (List ℤ)) → IsCone s → LineCase g.equal g.row s.lines s.rays lines rays →
    flat_matrix g.equal (cone_saturation s.taken s.rays) ≡ cone_saturation (s.taken ++ g ∷ []) rays
line_matrix s g lines rays k x =
    let l = x.signed in
    let has : Contains s.lines x.line = subst (λ (y : List (List ℤ)). Contains y x.line) (sym x.is_lines) (Contains-append_right x.before (x.line ∷ x.after) x.line (contains_head x.line x.after)) in
    let tight = line_tight s k l x.line has x.sign in
    let others : saturation_rows (s.taken ++ g ∷ []) x.flat_rays ≡ lengthened_rows (saturation_rows s.taken s.rays) (replicate (length (saturation_rows s.taken s.rays)) true) =
    flat_rows s.taken g l s.rays x.flat_rays x.above tight x.rays_flat in
    let of_line : tight_values (s.taken ++ g ∷ []) l ≡ replicate (length s.taken) true ++ false ∷ [] =
    values_end s.taken g l ∙ ap (λ (y : List Bool). y ++ int_eq (product g.row l) (pos 0) ∷ []) (values_line s.taken l tight) ∙
    ap (λ (b : Bool). replicate (length s.taken) true ++ b ∷ []) (not_zero (product g.row l) x.above) in
    ap (λ (r : List (List Bool)). record { width = suc (length s.taken); rows = r }) (by_kind g.equal l x.flat_rays others of_line ∙ ap (saturation_rows (s.taken ++ g ∷ [])) (sym x.are_rays)) ∙
    ap (λ (n : ℕ). record { width = n; rows = saturation_rows (s.taken ++ g ∷ []) rays }) (sym (end_length s.taken))
  where
    not_zero : (z : ℤ) → pos 0 <ℤ z → int_eq z (pos 0) ≡ false
    not_zero z h = go (int_eq z (pos 0)) refl
      where
        never : (z : ℤ) → pos 0 <ℤ z → z ≡ pos 0 → ⊥
        never z h e = omega (arith, ints, h, e)

        go : (b : Bool) → int_eq z (pos 0) ≡ b → b ≡ false
        go true e = absurd (never z h ((Decides-int_eq z (pos 0)).0 e))
        go false e = refl

    end_length : (taken : List LinearRow) → length (taken ++ g ∷ []) ≡ suc (length taken)
    end_length [] = refl
    end_length (y ∷ taken) = ap suc (end_length taken)

    by_kind : (b : Bool) (l : List ℤ) (flat : List (List ℤ)) → saturation_rows (s.taken ++ g ∷ []) flat ≡
        lengthened_rows (saturation_rows s.taken s.rays) (replicate (length (saturation_rows s.taken s.rays)) true) →
        tight_values (s.taken ++ g ∷ []) l ≡ replicate (length s.taken) true ++ false ∷ [] →
        cond b (lengthened_rows (saturation_rows s.taken s.rays) (replicate (length (saturation_rows s.taken s.rays)) true))
        ((replicate (length s.taken) true ++ false ∷ []) ∷ lengthened_rows (saturation_rows s.taken s.rays) (replicate (length (saturation_rows s.taken s.rays)) true)) ≡
        saturation_rows (s.taken ++ g ∷ []) (cond b flat (l ∷ flat))
    by_kind true l flat e f = sym e
    by_kind false l flat e f = ap (λ (y : List Bool). y ∷ lengthened_rows (saturation_rows s.taken s.rays) (replicate (length (saturation_rows s.taken s.rays)) true)) (sym f) ∙
        ap (λ (y : List (List Bool)). tight_values (s.taken ++ g ∷ []) l ∷ y) (sym e)

-- ---- without one
both_flat : (c : List ℤ) (lines : List (List ℤ)) → ((l : List ℤ) → Contains lines l → product c l ≡ pos 0) → (l : List ℤ) → Contains (both_ways lines) l → product c l ≡ pos 0
both_flat c lines h l m =
    let x = signed_from lines l m in
    elim x.sign [ inl e ↦ ap (product c) e ∙ h x.line x.has | inr e ↦ ap (product c) e ∙ dot_negated c x.line ∙ ap neg_ℤ (h x.line x.has) ]

pub ray_met : (s : ConeContent) (g : LinearRow) (rays : List (List ℤ)) → IsCone s → length g.row ≡ suc s.dims → ((l : List ℤ) → Contains s.lines l → product g.row l ≡ pos 0) →
    RayCase g.equal g.row (system_of s.taken) s.rays rays →
    IsIntersection (suc s.dims) g.equal g.row (all_rows s.lines s.rays) (all_rows s.lines rays)
ray_met s g rays k w flat x = new_met (suc s.dims) g.row (system_of s.taken) s.lines s.rays k.dual k.canonical g.equal rays (both_flat g.row s.lines flat) x w

pub ray_canonical : (s : ConeContent) (g : LinearRow) (rays : List (List ℤ)) → IsCone s → ((l : List ℤ) → Contains s.lines l → product g.row l ≡ pos 0) →
    RayCase g.equal g.row (system_of s.taken) s.rays rays →
    IsCanonical s.lines rays
ray_canonical s g rays k flat x = new_canonical (suc s.dims) g.row (system_of s.taken) s.lines s.rays k.dual k.canonical g.equal rays (both_flat g.row s.lines flat) x

-- ---- as the code reaches the cases
pub flatten_case : (s : ConeContent) (g : LinearRow) (place : ℕ) (line : Across) (of_lines of_rays : List ℤ) (lines rays : List (List ℤ)) → IsCone s → of_lines ≡ map (product g.row) s.lines →
    of_rays ≡ map (product g.row) s.rays → IsLastAcross of_lines (length of_lines) (Some place) →
    IsTurned (get_or s.lines place []) place (get_or of_lines place (pos 0)) line → AreFlatLines line of_lines s.lines lines → AreFlatRays g.equal line of_rays s.rays rays →
    LineCase g.equal g.row s.lines s.rays lines rays
flatten_case s g place line of_lines of_rays lines rays k el er last t fl fr =
    let many : length of_lines ≡ length s.lines = ap length el ∙ length-map s.lines (product g.row) in
    let inside : place < length s.lines = omega (arith, last.0, many) in
    let at : (i : ℕ) → i < length s.lines → get_or of_lines i (pos 0) ≡ product g.row (get_or s.lines i []) = λ i h. ap (λ (x : List ℤ). get_or x i (pos 0)) el ∙
    get_or-map (product g.row) s.lines i [] (pos 0) h in
    line_case g.equal g.row s.lines s.rays lines rays place line inside (subst (λ z. IsTurned (get_or s.lines place []) place z line) (at place inside) t)
    (λ i l h. sym (at i h) ∙ last.2 i l (omega (arith, h, many))) (λ r m. member_primitive s.lines k.canonical.pivots r k.canonical.echelon m) k.canonical.lowest
    (subst (λ (x : List ℤ). AreFlatLines line x s.lines lines) el fl) (subst (λ (x : List ℤ). AreFlatRays g.equal line x s.rays rays) er fr)

-- the line is one direction, and its opposite the other
pub turned_down : (line : List ℤ) (place : ℕ) (p : ℤ) (across : Across) → IsTurned line place p across → across.down ≡ negated across.up
turned_down line place p across t = elim t.sign [
  | inl s ↦ s.1 ∙ ap negated (sym s.0)
  | inr s ↦ s.1 ∙ sym (negated_twice line) ∙ ap negated (sym s.0)
]

pub turned_up_width : (line : List ℤ) (place : ℕ) (p : ℤ) (across : Across) → IsTurned line place p across → length across.up ≡ length line
turned_up_width line place p across t = elim t.sign [ inl s ↦ ap length s.0 | inr s ↦ ap length s.0 ∙ negated_length line ]

pub turned_down_width : (line : List ℤ) (place : ℕ) (p : ℤ) (across : Across) → IsTurned line place p across → length across.down ≡ length line
turned_down_width line place p across t = elim t.sign [ inl s ↦ ap length s.1 ∙ negated_length line | inr s ↦ ap length s.1 ]

-- the widths of the rows of a cone
pub line_width : (s : ConeContent) → IsCone s → (l : List ℤ) → Contains s.lines l → length l ≡ suc s.dims
line_width s k l m = k.dual.row_widths l (Contains-append_right s.rays (both_ways s.lines) l (in_lines s.lines l m))

pub ray_width : (s : ConeContent) → IsCone s → (r : List ℤ) → Contains s.rays r → length r ≡ suc s.dims
ray_width s k r m = k.dual.row_widths r (Contains-append_left s.rays (both_ways s.lines) r m)

pub all_lines_width : (s : ConeContent) (w : ℕ) (list : List (List ℤ)) → IsCone s → w ≡ suc s.dims → list ≡ s.lines → All (λ r. w ≡ length r) list
all_lines_width s w list k e el = subst (All (λ r. w ≡ length r)) (sym el) (λ i d h. e ∙ sym (line_width s k (get_or s.lines i d) (Contains-get_or s.lines i d h)))

pub all_rays_width : (s : ConeContent) (w : ℕ) (list : List (List ℤ)) → IsCone s → w ≡ suc s.dims → list ≡ s.rays → All (λ r. w ≡ length r) list
all_rays_width s w list k e el = subst (All (λ r. w ≡ length r)) (sym el) (λ i d h. e ∙ sym (ray_width s k (get_or s.rays i d) (Contains-get_or s.rays i d h)))

pub rays_have_one_width : (s : ConeContent) (list : List (List ℤ)) → IsCone s → list ≡ s.rays → HaveOneWidth list
rays_have_one_width s list k e = subst HaveOneWidth (sym e) (λ i j h l. ray_width s k (get_or s.rays i []) (Contains-get_or s.rays i [] h) ∙
    sym (ray_width s k (get_or s.rays j []) (Contains-get_or s.rays j [] l)))

-- too many rays
pub too_many_rays : (s : ConeContent) (g : LinearRow) (lines rays : List (List ℤ)) (count : ℕ) → IsCone s → length g.row ≡ suc s.dims → LineCase g.equal g.row s.lines s.rays lines rays →
    count ≡ length rays →
    row_limit < count → TooManyRays s g.equal g.row count
too_many_rays s g lines rays count k w x e h = record {
  new_lines = lines;
  new_rays = rays;
  met = line_met s g lines rays k w x;
  canonical = line_canonical s g lines rays k x;
  are = sym e;
  long = h;
}

-- ---- the case without a line, and its matrix
pub cut_taken : (s : ConeContent) (g : LinearRow) (products : List ℤ) (m : Matrix) (cut : Cut) → IsCone s → products ≡ map (product g.row) s.rays → m ≡ cone_saturation s.taken s.rays →
    IsCut g.equal products s.rays m cut →
    RayCase g.equal g.row (system_of s.taken) s.rays (unmarked cut.gone (s.rays ++ cut.rays.items))
cut_taken s g products m cut k ep em x =
    let pairs : ArePairs (map (product g.row) s.rays) (saturation_rows s.taken s.rays) (length (map (product g.row) s.rays)) 0 x.pairs =
    subst (λ (q : List ℤ). ArePairs q (saturation_rows s.taken s.rays) (length q) 0 x.pairs) ep (subst (λ (y : Matrix). ArePairs products y.rows (length products) 0 x.pairs) em x.are_pairs) in
    let sums : AreCombined (map (product g.row) s.rays) s.rays x.pairs cut.rays.items = subst (λ (q : List ℤ). AreCombined q s.rays x.pairs cut.rays.items) ep x.combined in
    let are : unmarked cut.gone (s.rays ++ cut.rays.items) ≡ inside_rays g.equal g.row s.rays ++ cut.rays.items =
    ap (λ (b : List Bool). unmarked b (s.rays ++ cut.rays.items)) (x.marks ∙ ap (λ (q : List ℤ). outside_marks g.equal q ++ replicate (length x.pairs) false) ep) ∙
    unmarked_are g.equal g.row s.rays cut.rays.items (length x.pairs) in
    subst (RayCase g.equal g.row (system_of s.taken) s.rays) (sym are) (cut_case (suc s.dims) g.row s.taken s.lines s.rays k.dual k.canonical g.equal x.pairs cut.rays.items pairs sums)

pub cut_matrix : (s : ConeContent) (g : LinearRow) (products : List ℤ) (m : Matrix) (cut : Cut) (made : Matrix) → IsCone s → products ≡ map (product g.row) s.rays →
    m ≡ cone_saturation s.taken s.rays →
    (x : IsCut g.equal products s.rays m cut) →
    made ≡ record { width = suc m.width; rows = unmarked cut.gone (lengthened_rows m.rows (map (λ p. int_eq p (pos 0)) products) ++ pair_tight_rows x.pairs) } →
    made ≡ cone_saturation (s.taken ++ g ∷ []) (unmarked cut.gone (s.rays ++ cut.rays.items))
cut_matrix s g products m cut made k ep em x is =
    let sums : AreCombined (map (product g.row) s.rays) s.rays x.pairs cut.rays.items = subst (λ (q : List ℤ). AreCombined q s.rays x.pairs cut.rays.items) ep x.combined in
    let each : (p : Pair) → Contains x.pairs p → IsAdjacentPair (map (product g.row) s.rays) (saturation_rows s.taken s.rays) p =
    λ p i. subst (λ (q : List ℤ). IsAdjacentPair q (saturation_rows s.taken s.rays) p) ep (subst (λ (y : Matrix). IsAdjacentPair products y.rows p) em (x.are_pairs.each p i)) in
    let later = pair_rows (suc s.dims) g.row s.taken s.lines s.rays k.dual k.canonical x.pairs cut.rays.items g refl each sums in
    let all : List LinearRow = s.taken ++ g ∷ [] in
    is ∙ ap (λ (y : Matrix). record { width = suc y.width; rows = unmarked cut.gone (lengthened_rows y.rows (map (λ p. int_eq p (pos 0)) products) ++ pair_tight_rows x.pairs) }) em ∙
    ap (λ (q : List ℤ). record { width = suc (length s.taken); rows = unmarked cut.gone (lengthened_rows (saturation_rows s.taken s.rays) (map (λ p. int_eq p (pos 0)) q) ++ pair_tight_rows x.pairs) })
    ep ∙
    ap (λ (y : List (List Bool)). record { width = suc (length s.taken); rows = unmarked cut.gone (y ++ pair_tight_rows x.pairs) }) (sym (kept_rows s.taken g s.rays)) ∙
    ap (λ (y : List (List Bool)). record { width = suc (length s.taken); rows = unmarked cut.gone (saturation_rows all s.rays ++ y) }) later ∙
    ap (λ (y : List (List Bool)). record { width = suc (length s.taken); rows = unmarked cut.gone y }) (sym (rows_append all s.rays cut.rays.items)) ∙
    ap (λ (y : List (List Bool)). record { width = suc (length s.taken); rows = y }) (rows_unmarked all cut.gone (s.rays ++ cut.rays.items)) ∙
    ap (λ (n : ℕ). record { width = n; rows = saturation_rows all (unmarked cut.gone (s.rays ++ cut.rays.items)) }) (sym (end_length s.taken g))
  where
    end_length : (taken : List LinearRow) (g : LinearRow) → length (taken ++ g ∷ []) ≡ suc (length taken)
    end_length [] g = refl
    end_length (y ∷ taken) g = ap suc (end_length taken g)

pub cone_again : (s : ConeContent) (g : LinearRow) (lines rays : List (List ℤ)) (n : ℕ) (taken : List LinearRow) → n ≡ s.dims → taken ≡ s.taken ++ g ∷ [] → IsCone (taken_last s g lines rays) →
    IsCone (record { dims = n; taken = taken; lines = lines; rays = rays })
cone_again s g lines rays n taken e f k =
    subst (λ (m : ℕ). IsCone (record { dims = m; taken = taken; lines = lines; rays = rays })) (sym e)
    (subst (λ (t : List LinearRow). IsCone (record { dims = s.dims; taken = t; lines = lines; rays = rays })) (sym f) k)

-- ---- sizes
pub saturation_equal : (taken : List LinearRow) (rays : List (List ℤ)) (m : Matrix) → m ≡ cone_saturation taken rays → All (λ r. length r ≡ m.width) m.rows
saturation_equal taken rays m e =
    subst (λ (y : Matrix). All (λ r. length r ≡ y.width) y.rows) (sym e)
    (λ i d h. let l : i < length rays = omega (arith, h, rows_length taken rays) in ap length (get_or_default (saturation_rows taken rays) i d [] h ∙ row_at taken rays i l) ∙
    values_length taken (get_or rays i []))

pub combined_length : (products : List ℤ) (rays : List (List ℤ)) (pairs : List Pair) (ts : List (List ℤ)) → AreCombined products rays pairs ts → length ts ≡ length pairs
combined_length products rays [] [] a = refl
combined_length products rays [] (t ∷ ts) a = absurd a
combined_length products rays (p ∷ pairs) [] a = absurd a
combined_length products rays (p ∷ pairs) (t ∷ ts) a = ap suc (combined_length products rays pairs ts a.1)

pub cut_marks : (equal : Bool) (products : List ℤ) (rays : List (List ℤ)) (m : Matrix) (cut : Cut) (list : List (List ℤ)) → length products ≡ length rays → IsCut equal products rays m cut →
    list ≡ rays ++ cut.rays.items → length cut.gone ≡ length list
cut_marks equal products rays m cut list e x l =
    let a = length-append (outside_marks equal products) (replicate (length x.pairs) false) in
    let b = length-append rays cut.rays.items in
    omega (
      arith,
      ap length x.marks,
      ap length l,
      a,
      b,
      e,
      length-map products (λ p. not (is_inside equal p)),
      length-replicate (length x.pairs) false,
      combined_length products rays x.pairs cut.rays.items x.combined,
    )

pub inside_length : (equal : Bool) (c : List ℤ) (rays : List (List ℤ)) → length (inside_rays equal c rays) ≡ inside_count equal (map (product c) rays)
inside_length equal c [] = refl
inside_length equal c (r ∷ rays) = by_test (is_inside equal (product c r)) (inside_length equal c rays)
  where
    by_test : (b : Bool) → length (inside_rays equal c rays) ≡ inside_count equal (map (product c) rays) →
        length (cond b (r ∷ inside_rays equal c rays) (inside_rays equal c rays)) ≡ cond b (suc (inside_count equal (map (product c) rays))) (inside_count equal (map (product c) rays))
    by_test true e = ap suc e
    by_test false e = e

pub cut_few : (s : ConeContent) (g : LinearRow) (products : List ℤ) (m : Matrix) (cut : Cut) → products ≡ map (product g.row) s.rays → IsCut g.equal products s.rays m cut →
    length (unmarked cut.gone (s.rays ++ cut.rays.items)) ≤ row_limit
cut_few s g products m cut ep x =
    let are : unmarked cut.gone (s.rays ++ cut.rays.items) ≡ inside_rays g.equal g.row s.rays ++ cut.rays.items =
    ap (λ (b : List Bool). unmarked b (s.rays ++ cut.rays.items)) (x.marks ∙ ap (λ (q : List ℤ). outside_marks g.equal q ++ replicate (length x.pairs) false) ep) ∙
    unmarked_are g.equal g.row s.rays cut.rays.items (length x.pairs) in
    let n = length-append (inside_rays g.equal g.row s.rays) cut.rays.items in
    omega (arith, ap length are, n, inside_length g.equal g.row s.rays, ap (inside_count g.equal) ep, combined_length products s.rays x.pairs cut.rays.items x.combined, x.few)

-- ---- what `products` and the case without a line ask
pub lines_have_width : (s : ConeContent) (w : ℕ) (list : List (List ℤ)) → IsCone s → w ≡ suc s.dims → list ≡ s.lines → All (λ r. length r ≡ w) list
lines_have_width s w list k e el = subst (All (λ r. length r ≡ w)) (sym el) (λ i d h. line_width s k (get_or s.lines i d) (Contains-get_or s.lines i d h) ∙ sym e)

pub rays_have_width : (s : ConeContent) (w : ℕ) (list : List (List ℤ)) → IsCone s → w ≡ suc s.dims → list ≡ s.rays → All (λ r. length r ≡ w) list
rays_have_width s w list k e el = subst (All (λ r. length r ≡ w)) (sym el) (λ i d h. ray_width s k (get_or s.rays i d) (Contains-get_or s.rays i d h) ∙ sym e)

pub none_across : (c : List ℤ) (lines : List (List ℤ)) (products : List ℤ) → products ≡ map (product c) lines → IsLastAcross products (length products) None → All (λ l. product c l ≡ pos 0) lines
none_across c lines products e h = λ i d l.
    ap (product c) (get_or_default lines i d [] l) ∙ sym (get_or-map (product c) lines i [] (pos 0) l) ∙ ap (λ (x : List ℤ). get_or x i (pos 0)) (sym e) ∙
    h i (omega (arith, l, ap length e, length-map lines (product c)))
