-- Where going back begins: the one segment from a point to where its assertion is false.
use Rattle.std.proofs.Common.{◌≡◌, ℕ, suc, List, [], ◌∷◌, ◌++◌, map, take, drop, Option, None, Some, Bool, true, false, ◌&&◌, cond, nat_eq, refl, sym, ap, ◌∙◌, slice_get, flat_map, filter}
use Rattle.std.proofs.{lemmas.Grind.flat_map-append, lemmas.List.append-nil, lemmas.List.map-append, lemmas.List.take-append-drop, lemmas.List.Elements.filter-append}
use Rattle.lra_program.specs.{Program.Cond, Step.test}
use Rattle.lra_operations.specs.Tree.{Node}
use Rattle.lra_back.specs.Crates.lra_path_segments.Segments.{SegmentStep, does, Segment, violates}
use Rattle.lra_back.specs.Crates.lra_path_segments.TreeSegmentViews.{move_view, seen, tree_segment_view}
use Rattle.lra_back.specs.Crates.lra_path_segments.TreeSegments.{AreSegmentsOf, End, exits, reaches, TreeSegment, met, segments_at}
use Rattle.lra_back.specs.Crates.lra_path_segments.declared.segments.TreeSegment.{TreeSegment as DeclaredStretch}
use Rattle.lra_paths.specs.Paths.{same_goal}
use Rattle.lra_back.specs.{BackwardAnalysis.IsAsserted, BackwardAnalysis.violation_segment, BackwardCalls.violates_at, BackwardCalls.is_violation, BackwardCalls.is_source}
use Rattle.lra_back.proofs.PathSteps.{drop_at}

-- of all segments those to where the assertion at the point is false
abbrev pub denials : ℕ → List Segment → List Segment
denials p xs = filter (λ segment. nat_eq segment.source p && same_goal segment.to_goal.goal (violates p)) xs

abbrev pub denials_in : ℕ → List TreeSegment → List Segment
denials_in p ss = denials p (flat_map met ss)

-- of one segment
on : (b : Bool) (x : Segment) → b ≡ true → cond b (x ∷ []) [] ≡ x ∷ []
on true x is = refl
on false x is = cc

-- one with these operations
one_at : (p : ℕ) (source : Option ℕ) (ops : List SegmentStep) (end : End) → (is_source p source && violates_at p end) ≡ true
    → (x : Segment) × (denials p (segments_at source ops end) ≡ x ∷ []) × (x.to_goal.ops ≡ ops)
one_at p None ops end is = cc
one_at p (Some q) ops (exits h) is =
    let never : (nat_eq q p && false) ≡ true → ⊥ = elim (nat_eq q p) as (λ b. (b && false) ≡ true → ⊥) [ true ↦ λ e. cc | false ↦ λ e. cc ] in
    absurd (never is)
one_at p (Some q) ops (reaches goal) is = (
  record { source = q; to_goal = record { ops = ops; goal = goal } },
  on (nat_eq q p && same_goal goal (violates p)) (record { source = q; to_goal = record { ops = ops; goal = goal } }) is,
  refl,
)

denials_append : (p : ℕ) (xs ys : List TreeSegment) → denials_in p (xs ++ ys) ≡ denials_in p xs ++ denials_in p ys
denials_append p xs ys =
    ap (denials p) (flat_map-append met xs ys)
    ∙ filter-append (λ segment. nat_eq segment.source p && same_goal segment.to_goal.goal (violates p)) (flat_map met xs) (flat_map met ys)

single : (p : ℕ) (s : TreeSegment) → denials_in p (s ∷ []) ≡ denials p (met s)
single p s = ap (denials p) (append-nil (met s))

-- what is asserted there is among all
asserted_in : (p : ℕ) (ss : List TreeSegment) (g : Node) (base : ℕ) (c : Cond) → AreSegmentsOf ss g → IsAsserted g p base c →
    denials_in p ss ≡ violation_segment p base c ∷ []
asserted_in p ss g base c ways asserted = ap (denials p) ways.reaches ∙ asserted

head_same : (x y : Segment) (xs : List Segment) → x ∷ xs ≡ y ∷ [] → x ≡ y
head_same x y xs same = cc

-- and the first that is found has these operations
pub first_found : (p : ℕ) (ways : List DeclaredStretch) (i : ℕ) (x : DeclaredStretch) (g : Node) (base : ℕ) (c : Cond) → slice_get ways i ≡ Some x
    → denials_in p (seen (take i ways)) ≡ [] → is_violation p (tree_segment_view x) ≡ true → AreSegmentsOf (seen ways) g → IsAsserted g p base c
    → map move_view x.moves.items ≡ does (test base c false) ∷ []
first_found p ways i x g base c at none is tree asserted =
    let s = tree_segment_view x in
    let one = one_at p s.source s.ops s.end is in
    let later = seen (drop (suc i) ways) in
    let parts : seen ways ≡ seen (take i ways) ++ (s ∷ later) =
    ap seen (sym (take-append-drop i ways)) ∙ map-append tree_segment_view (take i ways) (drop i ways)
    ∙ ap (λ xs. seen (take i ways) ++ seen xs) (drop_at ways i x at) in
    let all : denials_in p (seen ways) ≡ one.0 ∷ denials_in p later =
    ap (denials_in p) parts ∙ denials_append p (seen (take i ways)) (s ∷ later)
    ∙ ap (λ xs. xs ++ denials_in p (s ∷ later)) none ∙ denials_append p (s ∷ []) later
    ∙ ap (λ xs. xs ++ denials_in p later) (single p s ∙ one.1) in
    let same = head_same one.0 (violation_segment p base c) (denials_in p later) (sym all ∙ asserted_in p (seen ways) g base c tree asserted) in
    sym one.2 ∙ ap (λ (z : Segment). z.to_goal.ops) same
