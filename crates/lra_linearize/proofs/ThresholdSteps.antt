-- Steps of the proofs on the rows that thresholds give.
use Rattle.std.proofs.Common.{◌≡◌, ◌∙◌, ◌+◌, ◌<◌, ◌≤◌, ℕ, zero, suc, ℤ, not, List, [], ◌∷◌, ◌++◌, fold, length, map, take, get_or, refl, sym, ap, subst, append_assoc, append-nil, arith, FitsSigned}
use Rattle.std.proofs.Common.{pos, to_z, of_z, ◌+ℤ◌}
use Rattle.std.proofs.{lemmas.Int.ints, lemmas.Int.to_z-of_z, lemmas.List.length-map, lemmas.List.map-append, lemmas.List.map_more, lemmas.List.take_all, lemmas.List.Elements.filter-append}
use Rattle.std.specs.{Int.w64, Int.w128, List.filter, List.flat_map, Prelude.◌-ℤ◌, Prelude.neg_ℤ}
use Rattle.lra_linearize.specs.Crates.lra_program.ProgramViews.{all_of, any_of, cond_view}
use Rattle.lra_linearize.specs.Crates.{lra_linear_forms.Form.Form, lra_linear_spec.declared.ConKind.ConKind, lra_linear_spec.declared.ConKind.TheVariants.Ge, lra_operations.TreeViews.node_view}
use Rattle.lra_linearize.specs.Crates.{lra_operations.TreeViews.row, lra_program.Program.Cond, lra_systems.LinearSystems.LinearSystem}
use Rattle.lra_linearize.specs.Crates.lra_operations.declared.tree.Node as declared
use Rattle.lra_linearize.specs.Crates.lra_operations.Tree as graph
use Rattle.lra_linearize.specs.Crates.lra_program.declared.program.Cond as declared_cond
use Rattle.lra_analysis_spec.specs.Thresholds.{all_threshold_rows, condition_rows, constant_rows, is_among, round_rows, row_against, constant_rows_at, rows_from, rows_in, rows_once}
use Rattle.lra_analysis_spec.specs.{GuardThresholds.inequalities, GuardThresholds.row_of, Linear.variable_form, Thresholds.with_threshold_row}
use Rattle.lra_linearize.specs.{GuardThresholds.HasMore, Thresholds.HasTaken}
use Rattle.lra_linearize.proofs.GuardThresholdSteps.{more_both}

-- ---- numbers of a row: those of a form with a constant of 64 bits have 128
word_in_128 : (x : ℤ) → FitsSigned w64 x → to_z w128 (of_z w128 (to_z w64 (of_z w64 x))) ≡ x
word_in_128 x fits = ap (λ (z : ℤ). to_z w128 (of_z w128 z)) (to_z-of_z w64 x fits) ∙ to_z-of_z w128 x (grind (arith, ints))

opposite_in_128 : (x : ℤ) → FitsSigned w64 x → to_z w128 (of_z w128 (pos 0 -ℤ to_z w128 (of_z w128 (to_z w64 (of_z w64 x))))) ≡ neg_ℤ x
opposite_in_128 x fits =
    let minus : pos 0 -ℤ x ≡ neg_ℤ x = omega (arith, ints) in
    ap (λ (z : ℤ). to_z w128 (of_z w128 (pos 0 -ℤ z))) (word_in_128 x fits) ∙ ap (λ (z : ℤ). to_z w128 (of_z w128 z)) minus ∙ to_z-of_z w128 (neg_ℤ x) (grind (arith, ints))

pub difference_in_128 : (x y : ℤ) → FitsSigned w64 x → FitsSigned w64 y
    → to_z w128 (of_z w128 (to_z w128 (of_z w128 (to_z w64 (of_z w64 x))) +ℤ to_z w128 (of_z w128 (pos 0 -ℤ to_z w128 (of_z w128 (to_z w64 (of_z w64 y))))))) ≡ x +ℤ neg_ℤ y
difference_in_128 x y fits fit =
    ap (λ (z : ℤ). to_z w128 (of_z w128 (z +ℤ to_z w128 (of_z w128 (pos 0 -ℤ to_z w128 (of_z w128 (to_z w64 (of_z w64 y)))))))) (word_in_128 x fits) ∙
    ap (λ (z : ℤ). to_z w128 (of_z w128 (x +ℤ z))) (opposite_in_128 y fit) ∙ to_z-of_z w128 (x +ℤ neg_ℤ y) (grind (arith, ints))

pub against_in_128 : (x y : ℤ) → FitsSigned w64 x → FitsSigned w64 y
    → to_z w128 (of_z w128 (to_z w128 (of_z w128 (pos 0 -ℤ to_z w128 (of_z w128 (to_z w64 (of_z w64 x))))) +ℤ to_z w128 (of_z w128 (to_z w64 (of_z w64 y))))) ≡ neg_ℤ x +ℤ y
against_in_128 x y fits fit =
    ap (λ (z : ℤ). to_z w128 (of_z w128 (z +ℤ to_z w128 (of_z w128 (to_z w64 (of_z w64 y)))))) (opposite_in_128 x fits) ∙
    ap (λ (z : ℤ). to_z w128 (of_z w128 (neg_ℤ x +ℤ z))) (word_in_128 y fit) ∙ to_z-of_z w128 (neg_ℤ x +ℤ y) (grind (arith, ints))

-- ---- rows that are added
folded_both : (so : List (List ℤ)) (xs ys : List (List ℤ)) → fold with_threshold_row so (xs ++ ys) ≡ fold with_threshold_row (fold with_threshold_row so xs) ys
folded_both so [] ys = refl
folded_both so (x ∷ xs) ys = folded_both (with_threshold_row so x) xs ys

pub taken_both : (s t u : LinearSystem ConKind) (xs ys : List (List ℤ)) → HasTaken s t xs → HasTaken t u ys → HasTaken s u (xs ++ ys)
taken_both s t u xs ys h k = record {
  dims = k.dims ∙ h.dims;
  are = k.are ∙ ap (λ (rows : List (List ℤ)). fold with_threshold_row rows ys) h.are ∙ sym (folded_both s.rows xs ys);
  kinds = λ e. k.kinds (h.kinds e);
}

pub against_width : (f : Form) (more : ℤ) → length (row_against f more) ≡ suc (length f.coefficients)
against_width f more = ap suc (length-map f.coefficients neg_ℤ)

-- ---- rows that come after unless they are the loop's own
pub added_both : (own : List (List ℤ)) (s t u : LinearSystem ConKind) (xs ys : List (List ℤ)) → HasMore s t (filter (λ x. not (is_among own x)) xs)
    → HasMore t u (filter (λ x. not (is_among own x)) ys) → HasMore s u (filter (λ x. not (is_among own x)) (xs ++ ys))
added_both own s t u xs ys h k = subst (HasMore s u) (sym (filter-append (λ x. not (is_among own x)) xs ys)) (more_both s t u _ _ h k)

-- ---- conditions: the rows of a chain don't distinguish `&&` from `||`
pub any_taken : (live base : ℕ) (c : Cond) (cs : List Cond) → condition_rows live base (any_of c cs) ≡ condition_rows live base (all_of c cs)
any_taken live base c [] = refl
any_taken live base c (d ∷ ds) = ap (λ (rs : List (List ℤ)). condition_rows live base c ++ rs) (any_taken live base d ds)

rows_behind : (live base : ℕ) (c : Cond) (cs : List Cond) (d : Cond) → condition_rows live base (all_of c (cs ++ d ∷ [])) ≡ condition_rows live base (all_of c cs) ++ condition_rows live base d
rows_behind live base c [] d = refl
rows_behind live base c (e ∷ es) d =
    ap (λ (rs : List (List ℤ)). condition_rows live base c ++ rs) (rows_behind live base e es d) ∙
    sym (append_assoc (condition_rows live base c) (condition_rows live base (all_of e es)) (condition_rows live base d))

pub chain_taken : (base : ℕ) (c : Cond) (cs : List declared_cond.Cond) (i : ℕ) (x : declared_cond.Cond) (s t u : LinearSystem ConKind) →
    i < length cs → x ≡ get_or cs i x → HasTaken s t (condition_rows s.dims base (all_of c (map cond_view (take i cs)))) →
    HasTaken t u (condition_rows t.dims base (cond_view x)) → HasTaken s u (condition_rows s.dims base (all_of c (map cond_view (take (i + 1) cs))))
chain_taken base c cs i x s t u h is before one =
    let here : map cond_view (take (i + 1) cs) ≡ map cond_view (take i cs) ++ cond_view x ∷ [] =
    map_more cond_view cs i x h ∙ ap (λ (d : declared_cond.Cond). map cond_view (take i cs) ++ cond_view d ∷ []) (sym is) in
    let rows : condition_rows s.dims base (all_of c (map cond_view (take (i + 1) cs))) ≡
    condition_rows s.dims base (all_of c (map cond_view (take i cs))) ++ condition_rows s.dims base (cond_view x) =
    ap (λ (ds : List Cond). condition_rows s.dims base (all_of c ds)) here ∙ rows_behind s.dims base c (map cond_view (take i cs)) (cond_view x) in
    let last : HasTaken t u (condition_rows s.dims base (cond_view x)) = subst (λ (n : ℕ). HasTaken t u (condition_rows n base (cond_view x))) before.dims one in
    subst (HasTaken s u) (sym rows) (taken_both s t u _ _ before last)

-- ---- trees
-- of a row of trees, and of the last
pub row_rows : (live : ℕ) (gs : List graph.Node) (h : graph.Node) → rows_in live (row gs h) ≡ flat_map (rows_in live) gs ++ rows_in live h
row_rows live [] h = refl
row_rows live (g ∷ gs) h =
    ap (λ (rs : List (List ℤ)). rows_in live g ++ rs) (row_rows live gs h) ∙ sym (append_assoc (rows_in live g) (flat_map (rows_in live) gs) (rows_in live h))

flat_behind : (live : ℕ) (gs : List graph.Node) (g : graph.Node) → flat_map (rows_in live) (gs ++ g ∷ []) ≡ flat_map (rows_in live) gs ++ rows_in live g
flat_behind live [] g = append-nil (rows_in live g)
flat_behind live (f ∷ gs) g =
    ap (λ (rs : List (List ℤ)). rows_in live f ++ rs) (flat_behind live gs g) ∙ sym (append_assoc (rows_in live f) (flat_map (rows_in live) gs) (rows_in live g))

-- one tree more of a row
pub trees_taken : (gs : List declared.Node) (i : ℕ) (x : declared.Node) (s t u : LinearSystem ConKind) → i < length gs → x ≡ get_or gs i x
    → HasTaken s t (flat_map (rows_in s.dims) (map node_view (take i gs))) → HasTaken t u (rows_in t.dims (node_view x))
    → HasTaken s u (flat_map (rows_in s.dims) (map node_view (take (i + 1) gs)))
trees_taken gs i x s t u h is before one =
    let here : map node_view (take (i + 1) gs) ≡ map node_view (take i gs) ++ node_view x ∷ [] =
    map_more node_view gs i x h ∙ ap (λ (g : declared.Node). map node_view (take i gs) ++ node_view g ∷ []) (sym is) in
    let rows = ap (flat_map (rows_in s.dims)) here ∙ flat_behind s.dims (map node_view (take i gs)) (node_view x) in
    let last : HasTaken t u (rows_in s.dims (node_view x)) = subst (λ (n : ℕ). HasTaken t u (rows_in n (node_view x))) before.dims one in
    subst (HasTaken s u) (sym rows) (taken_both s t u _ _ before last)

-- all of a row, and the last
pub row_taken : (gs : List declared.Node) (h : graph.Node) (i : ℕ) (s t u : LinearSystem ConKind) → length gs ≤ i → HasTaken s t (flat_map (rows_in s.dims) (map node_view (take i gs)))
    → HasTaken t u (rows_in t.dims h) → HasTaken s u (rows_in s.dims (row (map node_view gs) h))
row_taken gs h i s t u past before one =
    let whole : HasTaken s t (flat_map (rows_in s.dims) (map node_view gs)) =
    subst (λ (fs : List declared.Node). HasTaken s t (flat_map (rows_in s.dims) (map node_view fs))) (take_all i gs past) before in
    let last : HasTaken t u (rows_in s.dims h) = subst (λ (n : ℕ). HasTaken t u (rows_in n h)) before.dims one in
    subst (HasTaken s u) (sym (row_rows s.dims (map node_view gs) h)) (taken_both s t u _ _ whole last)

-- a condition, and what comes after it
pub then_taken : (s t u : LinearSystem ConKind) (xs : List (List ℤ)) (ys : ℕ → List (List ℤ)) → HasTaken s t xs → HasTaken t u (ys t.dims) → HasTaken s u (xs ++ ys s.dims)
then_taken s t u xs ys a b = taken_both s t u xs (ys s.dims) a (subst (λ (n : ℕ). HasTaken t u (ys n)) a.dims b)

-- a loop gives its condition's rows and those of a round
pub iterate_rows : (live q base : ℕ) (c : Cond) (a : graph.Node) → rows_in live (graph.iterate q base c a) ≡ condition_rows live base c ++ round_rows live a
iterate_rows live q base c graph.empty = refl
iterate_rows live q base c (graph.probe here what) = refl
iterate_rows live q base c (graph.point p) = refl
iterate_rows live q base c (graph.act p op) = refl
iterate_rows live q base c (graph.check p b d) = refl
iterate_rows live q base c (graph.seq a b) = refl
iterate_rows live q base c (graph.choose p b d x y) = refl
iterate_rows live q base c (graph.iterate p b d x) = refl
iterate_rows live q base c (graph.catch p k x) = refl
iterate_rows live q base c (graph.leave n k) = refl
iterate_rows live q base c (graph.select p b e arms) = refl

-- ---- constants
-- one variable more
rows_from_more : (live : ℕ) (constants : List ℤ) (place n : ℕ) → rows_from live constants place (suc n) ≡ rows_from live constants place n ++ constant_rows_at live constants (place + n)
rows_from_more live constants place zero = append-nil (constant_rows_at live constants place) ∙ ap (constant_rows_at live constants) (sym (plus_zero place))
  where
    plus_zero : (k : ℕ) → k + 0 ≡ k
    plus_zero k = omega arith
rows_from_more live constants place (suc n) =
    ap (λ (rs : List (List ℤ)). constant_rows_at live constants place ++ rs) (rows_from_more live constants (suc place) n) ∙
    sym (append_assoc (constant_rows_at live constants place) (rows_from live constants (suc place) n) (constant_rows_at live constants (suc place + n))) ∙
    ap (λ (k : ℕ). (constant_rows_at live constants place ++ rows_from live constants (suc place) n) ++ constant_rows_at live constants k) (moved place n)
  where
    moved : (p k : ℕ) → suc p + k ≡ p + suc k
    moved p k = omega arith

all_from_more : (live : ℕ) (constants : List ℤ) (n : ℕ) → rows_from live constants 0 (n + 1) ≡ rows_from live constants 0 n ++ constant_rows_at live constants n
all_from_more live constants n =
    ap (rows_from live constants 0) (let one : n + 1 ≡ suc n = omega arith in one) ∙ rows_from_more live constants 0 n ∙
    ap (λ (k : ℕ). rows_from live constants 0 n ++ constant_rows_at live constants k) (let none : 0 + n ≡ n = omega arith in none)

pub variables_added : (own : List (List ℤ)) (constants : List ℤ) (n : ℕ) (s t u : LinearSystem ConKind)
    → HasMore s t (filter (λ x. not (is_among own x)) (rows_from s.dims constants 0 n)) → HasMore t u (filter (λ x. not (is_among own x)) (constant_rows_at t.dims constants n))
    → HasMore s u (filter (λ x. not (is_among own x)) (rows_from s.dims constants 0 (n + 1)))
variables_added own constants n s t u before one =
    let last = subst (λ (k : ℕ). HasMore t u (filter (λ x. not (is_among own x)) (constant_rows_at k constants n))) before.dims one in
    subst (λ (rs : List (List ℤ)). HasMore s u (filter (λ x. not (is_among own x)) rs)) (sym (all_from_more s.dims constants n))
    (added_both own s t u (rows_from s.dims constants 0 n) (constant_rows_at s.dims constants n) before last)

-- one constant more
rows_at_behind : (live : ℕ) (before : List ℤ) (t : ℤ) (place : ℕ) → constant_rows_at live (before ++ t ∷ []) place ≡ constant_rows_at live before place ++ constant_rows_at live (t ∷ []) place
rows_at_behind live [] t place = refl
rows_at_behind live (u ∷ us) t place =
    ap (λ (rs : List (List ℤ)). row_of (variable_form live place) (neg_ℤ u) ∷ row_against (variable_form live place) u ∷ rs) (rows_at_behind live us t place)

constants_more : (own : List (List ℤ)) (place : ℕ) (before : List ℤ) (t : ℤ) (s u v : LinearSystem ConKind)
    → HasMore s u (filter (λ x. not (is_among own x)) (constant_rows_at s.dims before place)) → HasMore u v (filter (λ x. not (is_among own x)) (constant_rows_at s.dims (t ∷ []) place))
    → HasMore s v (filter (λ x. not (is_among own x)) (constant_rows_at s.dims (before ++ t ∷ []) place))
constants_more own place before t s u v a b =
    subst (λ (rs : List (List ℤ)). HasMore s v (filter (λ x. not (is_among own x)) rs)) (sym (rows_at_behind s.dims before t place))
    (added_both own s u v (constant_rows_at s.dims before place) (constant_rows_at s.dims (t ∷ []) place) a b)

pub constant_added : (own : List (List ℤ)) (place : ℕ) (before : List ℤ) (t : ℤ) (n : ℕ) (v : Form) (s u w : LinearSystem ConKind) → n ≡ s.dims → v ≡ variable_form n place
    → HasMore s u (filter (λ x. not (is_among own x)) (constant_rows_at s.dims before place))
    → HasMore u w (filter (λ x. not (is_among own x)) (row_of v (neg_ℤ t) ∷ row_against v t ∷ []))
    → HasMore s w (filter (λ x. not (is_among own x)) (constant_rows_at s.dims (before ++ t ∷ []) place))
constant_added own place before t n v s u w same is a b =
    constants_more own place before t s u w a
    (subst (λ (f : Form). HasMore u w (filter (λ x. not (is_among own x)) (row_of f (neg_ℤ t) ∷ row_against f t ∷ []))) (is ∙ ap (λ (k : ℕ). variable_form k place) same) b)

-- ---- the whole
-- from an empty list
pub once_is : (live : ℕ) (s t : LinearSystem ConKind) (rows : List (List ℤ)) → s.dims ≡ live → s.rows ≡ [] → s.kinds ≡ [] → HasTaken s t rows → t ≡ inequalities live (rows_once rows)
once_is live s t rows dims none kinds h =
    let are : t.rows ≡ rows_once rows = h.are ∙ ap (λ (so : List (List ℤ)). fold with_threshold_row so rows) none in
    let all : t.kinds ≡ map (λ (r : List ℤ). Ge) t.rows = h.kinds (kinds ∙ ap (map (λ (r : List ℤ). Ge)) (sym none)) in
    same t live (rows_once rows) (h.dims ∙ dims) are all
  where
    same : (t : LinearSystem ConKind) (n : ℕ) (rs : List (List ℤ)) → t.dims ≡ n → t.rows ≡ rs → t.kinds ≡ map (λ (r : List ℤ). Ge) t.rows →
        t ≡ inequalities n rs
    same t n rs a b c =
        ap (λ (ks : List ConKind). let l : LinearSystem ConKind = record { dims = t.dims; rows = t.rows; kinds = ks } in l) c ∙ ap (λ (k : ℕ). inequalities k t.rows) a ∙ ap (inequalities n) b

-- of a condition and of a round
pub own_is : (live base : ℕ) (c : Cond) (a : graph.Node) (s t u : LinearSystem ConKind) → s.dims ≡ live → s.rows ≡ [] → s.kinds ≡ [] → HasTaken s t (condition_rows s.dims base c)
    → HasTaken t u (round_rows t.dims a) → u ≡ inequalities live (rows_once (condition_rows live base c ++ round_rows live a))
own_is live base c a s t u dims none kinds first behind =
    once_is live s u (condition_rows live base c ++ round_rows live a) dims none kinds
    (subst (λ (n : ℕ). HasTaken s u (condition_rows n base c ++ round_rows n a)) dims (then_taken s t u (condition_rows s.dims base c) (λ n. round_rows n a) first behind))

-- the loop's own, and then those of constants
pub whole_is : (live n : ℕ) (constants : List ℤ) (own : List (List ℤ)) (s t : LinearSystem ConKind) → n ≡ live → s ≡ inequalities live own
    → HasMore s t (filter (λ x. not (is_among s.rows x)) (rows_from s.dims constants 0 n)) →
    t ≡ inequalities live (all_threshold_rows own (constant_rows live constants))
whole_is live n constants own s t all is more =
    let rest = filter (λ x. not (is_among own x)) (constant_rows live constants) in
    let so_many : HasMore s t (filter (λ x. not (is_among s.rows x)) (rows_from s.dims constants 0 live)) =
    subst (λ (k : ℕ). HasMore s t (filter (λ x. not (is_among s.rows x)) (rows_from s.dims constants 0 k))) all more in
    let told : HasMore (inequalities live own) t rest = subst (λ (l : LinearSystem ConKind). HasMore l t (filter (λ x. not (is_among l.rows x)) (rows_from l.dims constants 0 live))) is so_many in
    same t live (own ++ rest) told.dims told.are (told.kinds ∙ sym (map-append (λ (r : List ℤ). Ge) own rest))
  where
    same : (t : LinearSystem ConKind) (n : ℕ) (rs : List (List ℤ)) → t.dims ≡ n → t.rows ≡ rs → t.kinds ≡ map (λ (r : List ℤ). Ge) rs → t ≡ inequalities n rs
    same t n rs a b c =
        ap (λ (ks : List ConKind). let l : LinearSystem ConKind = record { dims = t.dims; rows = t.rows; kinds = ks } in l) c ∙
        ap (λ (k : ℕ). let l : LinearSystem ConKind = record { dims = k; rows = t.rows; kinds = map (λ (r : List ℤ). Ge) rs } in l) a ∙
        ap (λ (xs : List (List ℤ)). let l : LinearSystem ConKind = record { dims = n; rows = xs; kinds = map (λ (r : List ℤ). Ge) rs } in l) b
