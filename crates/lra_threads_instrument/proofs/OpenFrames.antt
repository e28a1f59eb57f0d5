-- A tree that is instrumented along a list of open places: each step leaves what the whole becomes, and fewer steps.
use Rattle.std.proofs.Common.{◌≡◌, ◌∙◌, ℕ, ◌+◌, ◌*◌, ◌<◌, ◌≤◌, List, [], ◌∷◌, ◌++◌, length, map, reverse, Box, Vec, Global, ap, refl, sym, arith}
use Rattle.std.proofs.{lemmas.List.nil_from_length, lemmas.List.reverse-append, lemmas.List.reverse-reverse, lemmas.List.Sums.sum_by_push}
use Rattle.std.specs.Prelude as outcome
use Rattle.std.specs.{List.sum_by, Prelude.IfOk}
use Rattle.lra_threads_instrument.specs.Crates.{lra_analysis_spec.Instrumented.instrumented, lra_analysis_spec.Instrumented.instrumented_arms, lra_base.declared.case_labels.CaseLabel.CaseLabel}
use Rattle.lra_program.specs.{ProgramViews.expr_view, declared.program.Expr.Expr}
use Rattle.lra_operations.specs.TreeViews.{arm_view, arms_before, arms_of, node_view, row}
use Rattle.lra_operations.specs.{Parts.whole_of, Sizes.arm_sizes, Sizes.arms_tree_sizes, Sizes.whole_size, declared.tree.Arm.Arm, declared.tree.Node.Node, declared.tree.Parts.Parts}
use Rattle.lra_operations.specs.declared.tree.Arm.TheVariants as armed
use Rattle.lra_operations.specs.declared.tree.Node.TheVariants as at
use Rattle.lra_operations.specs.declared.tree.Parts.TheVariants as parts
use Rattle.lra_operations.specs.Tree as graph
use Rattle.lra_operations.proofs.ArmViews.{entry_seen, tree_seen}
use Rattle.lra_threads_instrument.specs.declared.stack.Row as of_row
use Rattle.lra_threads_instrument.specs.declared.stack.Selection as of_select
use Rattle.lra_threads_instrument.specs.declared.stack.Next as next
use Rattle.lra_threads_instrument.specs.Instrumented.{all_around, arms_of_left, around, row_of_left, row_whole, selection_whole, standing}
use Rattle.lra_threads_instrument.specs.StepsLeft.{all_left, next_left, place_left, row_left, selection_left, tree_left, InstrumentStepLeads}
use Rattle.lra_threads_instrument.specs.declared.stack.InstrumentFrame.TheVariants.{Row, Last, Arm as arm_place}
use Rattle.lra_threads_instrument.specs.declared.stack.Next.TheVariants.{Opens, Gives, Selects}
use Rattle.lra_threads_instrument.specs.declared.stack.InstrumentFrame as place
use Rattle.lra_threads_instrument.proofs.PartViews.{arm_size_of, left_of, parts_size, parts_view, seen_as, some_left, view_of}
use Rattle.lra_threads_instrument.proofs.Sums.{arms_pushed, arms_reversed, wholes_reversed}

-- places ----------------------------------------------------------------------------------------------------------------------

-- the last place is the innermost
around_last : (n : ℕ) (ps : List place.InstrumentFrame) (p : place.InstrumentFrame) (g : graph.Node) →
    all_around n (ps ++ p ∷ []) g ≡ all_around n ps (around n p g)
around_last n [] p g = refl
around_last n (q ∷ ps) p g = ap (around n q) (around_last n ps p g)

around_pushed : (n : ℕ) (ps qs : List place.InstrumentFrame) (p : place.InstrumentFrame) (g : graph.Node) → qs ≡ ps ++ p ∷ [] →
    all_around n qs g ≡ all_around n ps (around n p g)
around_pushed n ps qs p g is = ap (λ xs. all_around n xs g) is ∙ around_last n ps p g

left_pushed : (ps qs : List place.InstrumentFrame) (p : place.InstrumentFrame) → qs ≡ ps ++ p ∷ [] → all_left qs ≡ all_left ps + place_left p
left_pushed ps qs p is = ap all_left is ∙ sum_by_push place_left ps p

-- one opens, and a tree in it is next
pub opened_in : (n : ℕ) (ps qs : List place.InstrumentFrame) (p : place.InstrumentFrame) (g : Node) → qs ≡ ps ++ p ∷ []
    → InstrumentStepLeads n ps (around n p (instrumented n (node_view g))) (1 + place_left p + tree_left g) qs (Opens g)
opened_in n ps qs p g is = record { same = around_pushed n ps qs p (instrumented n (node_view g)) is; falls = omega (arith, left_pushed ps qs p is) }

-- the innermost is filled by a tree
pub filled : (n : ℕ) (ps qs now : List place.InstrumentFrame) (p : place.InstrumentFrame) (g : Node) (x : next.Next) → qs ≡ ps ++ p ∷ []
    → InstrumentStepLeads n ps (around n p (node_view g)) (1 + place_left p) now x → InstrumentStepLeads n qs (node_view g) 1 now x
filled n ps qs now p g x is led = record {
  same = led.same ∙ sym (around_pushed n ps qs p (node_view g) is);
  falls = omega (arith, led.falls, left_pushed ps qs p is);
}

-- the same tree, in no fewer steps
pub led_on : (n : ℕ) (ps qs : List place.InstrumentFrame) (g h : graph.Node) (k l : ℕ) (x : next.Next) → g ≡ h → k ≤ l → InstrumentStepLeads n ps g k qs x →
    InstrumentStepLeads n ps h l qs x
led_on n ps qs g h k l x is few led = record { same = led.same ∙ ap (all_around n ps) is; falls = omega (arith, led.falls, few) }

pub leads_on : {E : Type 0} (r : outcome.Result next.Next E) (n : ℕ) (ps qs : List place.InstrumentFrame) (g h : graph.Node) (k l : ℕ) → g ≡ h → k ≤ l
    → IfOk r (λ x. InstrumentStepLeads n ps g k qs x) → IfOk r (λ x. InstrumentStepLeads n ps h l qs x)
leads_on (outcome.Ok x) n ps qs g h k l is few led = led_on n ps qs g h k l x is few led
leads_on (outcome.Err e) n ps qs g h k l is few led = led

-- what is next stands for the same tree, and takes fewer steps
pub stands : (n : ℕ) (ps : List place.InstrumentFrame) (g : graph.Node) (k : ℕ) (x : next.Next) → standing n x ≡ g → next_left x < k →
    InstrumentStepLeads n ps g k ps x
stands n ps g k x is few = record { same = ap (all_around n ps) is; falls = omega (arith, few) }

-- trees -----------------------------------------------------------------------------------------------------------------------

-- this one is instrumented
pub leaf_leads : (n : ℕ) (ps : List place.InstrumentFrame) (p : Parts) (g h : Node) → whole_of p ≡ g → node_view h ≡ instrumented n (parts_view p)
    → InstrumentStepLeads n ps (instrumented n (node_view g)) (tree_left g) ps (Gives h)
leaf_leads n ps p g h is made =
    stands n ps (instrumented n (node_view g)) (tree_left g) (Gives h) (made ∙ ap (instrumented n) (sym (seen_as p g is))) (some_left p g is)

-- a tree in this one is next, or a row or arms
pub parts_lead : {E : Type 0} (r : outcome.Result next.Next E) (n : ℕ) (ps qs : List place.InstrumentFrame) (p : Parts) (g : Node) (h : graph.Node) (k : ℕ)
    → whole_of p ≡ g → h ≡ instrumented n (parts_view p) → k ≤ 2 * parts_size p → IfOk r (λ x. InstrumentStepLeads n ps h k qs x)
    → IfOk r (λ x. InstrumentStepLeads n ps (instrumented n (node_view g)) (tree_left g) qs x)
parts_lead r n ps qs p g h k is made few led =
    leads_on r n ps qs h (instrumented n (node_view g)) k (tree_left g) (made ∙ ap (instrumented n) (sym (seen_as p g is))) (omega (arith, few, left_of p g is))
    led

-- its arms are next
pub select_leads : (n : ℕ) (ps : List place.InstrumentFrame) (q base : ℕ) (e : Expr) (arms : Vec Arm Global) (g : Node) (s : of_select.Selection)
    → whole_of (parts.Select q base e arms) ≡ g
    → selection_whole n s ≡ graph.select q base (expr_view e) (instrumented_arms n (arms_of (map arm_view arms.items)))
    → selection_left s ≡ 2 + 2 * arms_tree_sizes (map arm_sizes arms.items) →
    InstrumentStepLeads n ps (instrumented n (node_view g)) (tree_left g) ps (Selects s)
select_leads n ps q base e arms g s is made size =
    let p = parts.Select q base e arms in
    stands n ps (instrumented n (node_view g)) (tree_left g) (Selects s) (made ∙ ap (instrumented n) (sym (seen_as p g is)))
    (omega (arith, size, left_of p g is))

-- rows ------------------------------------------------------------------------------------------------------------------------

row_more : (gs : List Node) (g : Node) (h : graph.Node) → row (map node_view (gs ++ g ∷ [])) h ≡ row (map node_view gs) (graph.seq (node_view g) h)
row_more [] g h = refl
row_more (f ∷ gs) g h = ap (graph.seq (node_view f)) (row_more gs g h)

reversed_last : {X : Type 0} (xs : List X) (x : X) → reverse (xs ++ x ∷ []) ≡ x ∷ reverse xs
reversed_last xs x = reverse-append xs (x ∷ [])

-- the next of those that are left
left_next : (n : ℕ) (left behind : List Node) (g last : Node) → left ≡ behind ++ g ∷ []
    → row_of_left n left last ≡ graph.seq (instrumented n (node_view g)) (row_of_left n behind last)
left_next n left behind g last is = ap (λ xs. instrumented n (row (map node_view xs) (node_view last))) (ap reverse is ∙ reversed_last behind g)

pub row_next : (n : ℕ) (done : Vec Node Global) (left behind : Vec Node Global) (last : Box Node Global) (g : Node) → left.items ≡ behind.items ++ g ∷ []
    → around n (Row (record { done = done; left = behind; last = last })) (instrumented n (node_view g)) ≡
    row_whole n (record { done = done; left = left; last = last })
row_next n done left behind last g is = ap (row (map node_view done.items)) (sym (left_next n left.items behind.items g last.value is))

pub row_fewer : (done : Vec Node Global) (left behind : Vec Node Global) (last : Box Node Global) (g : Node) → left.items ≡ behind.items ++ g ∷ []
    → 1 + row_left (record { done = done; left = behind; last = last }) + tree_left g ≤ 1 + row_left (record { done = done; left = left; last = last })
row_fewer done left behind last g is = omega (arith, ap (sum_by whole_size) is ∙ sum_by_push whole_size behind.items g)

-- the last tree of a row
pub row_ends : (n : ℕ) (done left : Vec Node Global) (last : Box Node Global) (g : Node) → g ≡ last.value → length left.items ≡ 0
    → around n (Last done) (instrumented n (node_view g)) ≡ row_whole n (record { done = done; left = left; last = last })
row_ends n done left last g is none =
    ap (λ (x : Node). row (map node_view done.items) (instrumented n (node_view x))) is ∙
    ap (λ (xs : List Node). row (map node_view done.items) (instrumented n (row (map node_view (reverse xs)) (node_view last.value))))
    (sym (nil_from_length left.items none))

pub row_ends_fewer : (done left : Vec Node Global) (last : Box Node Global) (g : Node) → g ≡ last.value
    → 1 + place_left (Last done) + tree_left g ≤ 1 + row_left (record { done = done; left = left; last = last })
row_ends_fewer done left last g is = omega (arith, ap whole_size is)

-- a row of which nothing is instrumented
pub row_begins : (n : ℕ) (done trees left : Vec Node Global) (last : Box Node Global) → done.items ≡ [] → left.items ≡ reverse trees.items
    → row_whole n (record { done = done; left = left; last = last }) ≡ instrumented n (row (map node_view trees.items) (node_view last.value))
row_begins n done trees left last none is =
    ap (λ (xs : List Node). row (map node_view xs) (row_of_left n left.items last.value)) none ∙
    ap (λ (xs : List Node). instrumented n (row (map node_view xs) (node_view last.value))) (ap reverse is ∙ reverse-reverse trees.items)

pub row_begins_fewer : (done trees left : Vec Node Global) (last : Box Node Global) → left.items ≡ reverse trees.items
    → 1 + row_left (record { done = done; left = left; last = last }) ≤ 3 + 2 * (sum_by whole_size trees.items + whole_size last.value)
row_begins_fewer done trees left last is = omega (arith, ap (sum_by whole_size) is ∙ wholes_reversed trees.items)

-- one more of a row is instrumented
pub row_filled : (n : ℕ) (r s : of_row.Row) (g : Node) → s.done.items ≡ r.done.items ++ g ∷ [] → s.left ≡ r.left → s.last ≡ r.last
    → row_whole n s ≡ around n (Row r) (node_view g)
row_filled n r s g done left last =
    ap (λ (xs : List Node). row (map node_view xs) (row_of_left n s.left.items s.last.value)) done ∙
    row_more r.done.items g (row_of_left n s.left.items s.last.value) ∙
    ap (λ (v : Vec Node Global). row (map node_view r.done.items) (graph.seq (node_view g) (row_of_left n v.items s.last.value))) left ∙
    ap (λ (b : Box Node Global). row (map node_view r.done.items) (graph.seq (node_view g) (row_of_left n r.left.items b.value))) last

-- arms ------------------------------------------------------------------------------------------------------------------------

arms_more : (arms : List Arm) (a : Arm) (h : graph.Arms) → arms_before (map arm_view (arms ++ a ∷ [])) h ≡ arms_before (map arm_view arms) (arm_view a h)
arms_more [] a h = refl
arms_more (b ∷ arms) a h = ap (arm_view b) (arms_more arms a h)

arms_next : (n : ℕ) (left behind : List Arm) (a : Arm) → left ≡ behind ++ a ∷ []
    → arms_of_left n left ≡ instrumented_arms n (arm_view a (arms_of (map arm_view (reverse behind))))
arms_next n left behind a is = ap (λ xs. instrumented_arms n (arms_of (map arm_view xs))) (ap reverse is ∙ reversed_last behind a)

-- the next of those that are left is a label
entry_next : (n : ℕ) (left behind : List Arm) (a : Arm) (l : CaseLabel) → left ≡ behind ++ a ∷ [] → armed.Entry l ≡ a
    → arms_of_left n left ≡ graph.entry l (arms_of_left n behind)
entry_next n left behind a l is here =
    arms_next n left behind a is ∙ ap (instrumented_arms n) (entry_seen a l (arms_of (map arm_view (reverse behind))) (sym here))

-- or a tree
tree_next : (n : ℕ) (left behind : List Arm) (a : Arm) (g : Node) → left ≡ behind ++ a ∷ [] → armed.Tree g ≡ a
    → arms_of_left n left ≡ graph.arm (instrumented n (node_view g)) (arms_of_left n behind)
tree_next n left behind a g is here =
    arms_next n left behind a is ∙ ap (instrumented_arms n) (tree_seen a g (arms_of (map arm_view (reverse behind))) (sym here))

module _ (q base : ℕ) (e : Expr) where
  abbrev Of : Vec Arm Global → Vec Arm Global → of_select.Selection
  Of done left = record { point = q; base = base; value = e; done = done; left = left }

  with_arms : List Arm → graph.Arms → graph.Node
  with_arms done h = graph.select q base (expr_view e) (arms_before (map arm_view done) h)

  pub entry_stands : (n : ℕ) (done more left behind : Vec Arm Global) (a : Arm) (l : CaseLabel) → left.items ≡ behind.items ++ a ∷ [] → armed.Entry l ≡ a
      → more.items ≡ done.items ++ armed.Entry l ∷ [] → selection_whole n (Of more behind) ≡ selection_whole n (Of done left)
  entry_stands n done more left behind a l is here put =
      ap (λ (xs : List Arm). graph.select q base (expr_view e) (arms_before (map arm_view xs) (arms_of_left n behind.items))) put ∙
      ap (graph.select q base (expr_view e)) (arms_more done.items (armed.Entry l) (arms_of_left n behind.items) ∙
      ap (arms_before (map arm_view done.items)) (entry_seen (armed.Entry l) l (arms_of_left n behind.items) refl ∙
      sym (entry_next n left.items behind.items a l is here)))

  pub entry_falls : (done more left behind : Vec Arm Global) (a : Arm) (l : CaseLabel) → left.items ≡ behind.items ++ a ∷ [] → armed.Entry l ≡ a
      → selection_left (Of more behind) < selection_left (Of done left)
  entry_falls done more left behind a l is here = omega (
    arith,
    ap (λ xs. arms_tree_sizes (map arm_sizes xs)) is ∙ arms_pushed behind.items a,
  )

  pub tree_stands : (n : ℕ) (done left behind : Vec Arm Global) (a : Arm) (g : Node) → left.items ≡ behind.items ++ a ∷ [] → armed.Tree g ≡ a
      → around n (arm_place (Of done behind)) (instrumented n (node_view g)) ≡ selection_whole n (Of done left)
  tree_stands n done left behind a g is here =
      ap (λ h. graph.select q base (expr_view e) (arms_before (map arm_view done.items) h)) (sym (tree_next n left.items behind.items a g is here))

  pub tree_fewer : (done left behind : Vec Arm Global) (a : Arm) (g : Node) → left.items ≡ behind.items ++ a ∷ [] → armed.Tree g ≡ a
      → 1 + place_left (arm_place (Of done behind)) + tree_left g ≤ selection_left (Of done left)
  tree_fewer done left behind a g is here = omega (
    arith,
    ap (λ xs. arms_tree_sizes (map arm_sizes xs)) is ∙ arms_pushed behind.items a,
    ap (λ (x : Arm). (arm_sizes x).0) (sym here) ∙ ap (λ (p : ℕ × ℕ). p.0) (arm_size_of g),
  )

  -- all of them are instrumented
  pub arms_end : (n : ℕ) (done left : Vec Arm Global) → length left.items ≡ 0 → standing n (Gives (at.Select q base e done)) ≡ selection_whole n (Of done left)
  arms_end n done left none = view_of (parts.Select q base e done) ∙
      ap (λ (xs : List Arm). graph.select q base (expr_view e) (arms_before (map arm_view done.items) (arms_of_left n xs)))
      (sym (nil_from_length left.items none))

  -- none of them is instrumented
  pub arms_begin : (n : ℕ) (done arms left : Vec Arm Global) → done.items ≡ [] → left.items ≡ reverse arms.items
      → selection_whole n (Of done left) ≡ graph.select q base (expr_view e) (instrumented_arms n (arms_of (map arm_view arms.items)))
  arms_begin n done arms left none is =
      ap (λ (xs : List Arm). graph.select q base (expr_view e) (arms_before (map arm_view xs) (arms_of_left n left.items))) none ∙
      ap (λ (xs : List Arm). graph.select q base (expr_view e) (instrumented_arms n (arms_of (map arm_view xs)))) (ap reverse is ∙ reverse-reverse arms.items)

  pub arms_begin_left : (done arms left : Vec Arm Global) → left.items ≡ reverse arms.items
      → selection_left (Of done left) ≡ 2 + 2 * arms_tree_sizes (map arm_sizes arms.items)
  arms_begin_left done arms left is = ap (λ k. 2 + 2 * k) (ap (λ xs. arms_tree_sizes (map arm_sizes xs)) is ∙ arms_reversed arms.items)

-- one more of the arms is instrumented
pub arm_filled : (n : ℕ) (s t : of_select.Selection) (g : Node) → t.point ≡ s.point → t.base ≡ s.base → t.value ≡ s.value → t.left ≡ s.left
    → t.done.items ≡ s.done.items ++ armed.Tree g ∷ [] → selection_whole n t ≡ around n (arm_place s) (node_view g)
arm_filled n s t g at_point at_base of_value left done =
    ap (λ (xs : List Arm). graph.select t.point t.base (expr_view t.value) (arms_before (map arm_view xs) (arms_of_left n t.left.items))) done ∙
    ap (graph.select t.point t.base (expr_view t.value)) (arms_more s.done.items (armed.Tree g) (arms_of_left n t.left.items) ∙
    ap (arms_before (map arm_view s.done.items)) (tree_seen (armed.Tree g) g (arms_of_left n t.left.items) refl)) ∙
    rw (at_point, at_base, of_value, left) refl

-- what fills a place ----------------------------------------------------------------------------------------------------------

pub place_leads : {E : Type 0} (r : outcome.Result next.Next E) (n : ℕ) (ps qs : List place.InstrumentFrame) (p at_place : place.InstrumentFrame) (g : Node)
    (h : graph.Node)
    (k : ℕ) → at_place ≡ p → h ≡ around n p (node_view g) → k ≤ 1 + place_left p → IfOk r (λ x. InstrumentStepLeads n ps h k qs x)
    → IfOk r (λ x. InstrumentStepLeads n ps (around n at_place (node_view g)) (1 + place_left at_place) qs x)
place_leads r n ps qs p at_place g h k is made few led =
    leads_on r n ps qs h (around n at_place (node_view g)) k (1 + place_left at_place)
    (made ∙ ap (λ (x : place.InstrumentFrame). around n x (node_view g)) (sym is))
    (omega (arith, few, ap place_left is)) led

pub place_stands : (n : ℕ) (ps : List place.InstrumentFrame) (p at_place : place.InstrumentFrame) (g : Node) (x : next.Next) → at_place ≡ p
    → standing n x ≡ around n p (node_view g) → next_left x < 1 + place_left p →
    InstrumentStepLeads n ps (around n at_place (node_view g)) (1 + place_left at_place) ps x
place_stands n ps p at_place g x is made few =
    stands n ps (around n at_place (node_view g)) (1 + place_left at_place) x (made ∙ ap (λ (y : place.InstrumentFrame). around n y (node_view g)) (sym is))
    (omega (arith, few, ap place_left is))

-- nothing is open: the whole is instrumented
pub nothing_open : (n : ℕ) (ps : List place.InstrumentFrame) (x : next.Next) (g : Node) → x ≡ Gives g → length ps ≡ 0
    → node_view g ≡ all_around n ps (standing n x)
nothing_open n ps x g is none =
    sym (ap (λ (xs : List place.InstrumentFrame). all_around n xs (standing n x)) (nil_from_length ps none) ∙ ap (standing n) is)
