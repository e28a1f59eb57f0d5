-- A tree that is gone along by a list of what is due: its segments come last of those that are there, and each step
-- leaves fewer steps.
use Rattle.std.proofs.Common.{rules, Box, Vec, Global, ◌≡◌, ◌∙◌, Bool, true, false, ℕ, ◌+◌, ◌<◌, List, [], ◌∷◌, ◌++◌, length, map, refl, sym, ap, subst, arith, append-nil}
use Rattle.std.proofs.{lemmas.List.map-append, lemmas.List.nil_from_length, lemmas.List.Sums.sum_by_push}
use Rattle.std.specs.Prelude as outcome
use Rattle.std.specs.{List.list_any, Prelude.OnOk}
use Rattle.lra_path_segments.specs.Crates.{lra_base.CaseLabels.is_same_case, lra_base.declared.case_labels.CaseLabel.CaseLabel, lra_base.declared.case_labels.CaseLabel.TheVariants.Default}
use Rattle.lra_path_segments.specs.Crates.{lra_program.ProgramViews.expr_view, lra_program.declared.program.Cond.Cond, lra_program.declared.program.Expr.Expr}
use Rattle.lra_operations.specs.TreeViews.{arm_view, arms_before, arms_of, node_view, row}
use Rattle.lra_operations.specs.declared.tree.Node.{the_lemmas as node_lemmas, Node-F, out-Node, roll-Node, roll-out-Node}
use Rattle.lra_operations.specs.{Tree.Node, Tree.Arms, Tree.no_arms, Tree.entry, Tree.arm, declared.probes.Probe.Probe, declared.tree.Arm.Arm}
use Rattle.lra_operations.specs.declared.tree.Arm.TheVariants as armed
use Rattle.lra_operations.specs.declared.tree.Exit as declared_exit
use Rattle.lra_operations.specs.declared.tree.Node as declared
use Rattle.lra_operations.specs.declared.tree.Op as declared_op
use Rattle.lra_operations.specs.declared.tree.Node.TheVariants as at
use Rattle.lra_operations.proofs.ArmViews.{entry_view, tree_view}
use Rattle.lra_linearize.proofs.TreeViews.{select_view, seq_view}
use Rattle.lra_path_segments.specs.Tasks.{arm_steps, arms_on, arms_size, joined_last, labelled_last, stack_on, stack, top, below, row_on, effect, run, steps_in_row, steps_of, task_size, all_left}
use Rattle.lra_path_segments.specs.TreeSegmentViews.{arms_seen, seen, selection_view}
use Rattle.lra_path_segments.specs.TreeSegments.{AreSegmentsOf, TreeSegment, from_labels, labelled, nothing_done, past_all, selected, sequenced, tree_segments, arms_segments}
use Rattle.lra_path_segments.specs.{Labels.labels_in, Segments.SegmentStep, Segments.goes_in, declared.segments.Selection.Selection, declared.trees.Task.Task}
use Rattle.lra_path_segments.proofs.{ArmSteps.each_arm, ArmSteps.view_last, SegmentSteps.are_ways}
use Rattle.lra_path_segments.specs.declared.segments.TreeSegment as declared_stretch

abbrev V : Type 0
V = Vec declared_stretch.TreeSegment Global

-- the segments that are there -----------------------------------------------------------------------------------------

stack_more : (s : List (List TreeSegment)) (vs : List V) (v : V) → stack_on s (vs ++ v ∷ []) ≡ seen v.items ∷ stack_on s vs
stack_more s [] v = refl
stack_more s (w ∷ vs) v = stack_more (seen w.items ∷ s) vs v

pub stack_push : (vs ws : List V) (v : V) → ws ≡ vs ++ v ∷ [] → stack ws ≡ seen v.items ∷ stack vs
stack_push vs ws v e = ap stack e ∙ stack_more [] vs v

-- one comes out, or there was none
pub top_of : (vs ws : List V) (v : V) → ws ≡ vs ++ v ∷ [] → seen v.items ≡ top (stack ws)
top_of vs ws v e = sym (ap top (stack_push vs ws v e))

pub below_of : (vs ws : List V) (v : V) → ws ≡ vs ++ v ∷ [] → stack vs ≡ below (stack ws)
below_of vs ws v e = sym (ap below (stack_push vs ws v e))

pub top_of_none : (ws : List V) (xs : List declared_stretch.TreeSegment) → length ws ≡ 0 → xs ≡ [] → seen xs ≡ top (stack ws)
top_of_none ws xs e f = ap seen f ∙ sym (ap (λ u. top (stack u)) (nil_from_length ws e))

pub below_of_none : (vs ws : List V) → length ws ≡ 0 → ws ≡ vs ++ [] → stack vs ≡ below (stack ws)
below_of_none vs ws e f =
    let none = nil_from_length ws e in
    ap stack (sym (f ∙ append-nil vs) ∙ none) ∙ sym (ap (λ u. below (stack u)) none)

-- what is due --------------------------------------------------------------------------------------------------------------

run_more : (ds : List Task) (d : Task) (s : List (List TreeSegment)) → run (ds ++ d ∷ []) s ≡ run ds (effect d s)
run_more [] d s = refl
run_more (e ∷ ds) d s = ap (effect e) (run_more ds d s)

pub run_push : (ds es : List Task) (d : Task) → es ≡ ds ++ d ∷ [] → (s : List (List TreeSegment)) → run es s ≡ run ds (effect d s)
run_push ds es d e s = ap (λ u. run u s) e ∙ run_more ds d s

-- rows -----------------------------------------------------------------------------------------------------------------------

row_more : (gs : List Node) (g : Node) (s : List (List TreeSegment)) → row_on (gs ++ g ∷ []) s ≡ row_on gs (sequenced (tree_segments g) (top s) ∷ below s)
row_more [] g s = refl
row_more (h ∷ gs) g s = ap (λ u. sequenced (tree_segments h) (top u) ∷ below u) (row_more gs g s)

pub row_made : (gs : List Node) (h : Node) (s : List (List TreeSegment)) → row_on gs (tree_segments h ∷ s) ≡ tree_segments (row gs h) ∷ s
row_made [] h s = refl
row_made (g ∷ gs) h s = ap (λ u. sequenced (tree_segments g) (top u) ∷ below u) (row_made gs h s)

-- the last tree of a row stands before what is there
pub row_opened : (gs hs : List declared.Node) (g : declared.Node) (s : List (List TreeSegment)) → gs ≡ hs ++ g ∷ []
    → row_on (map node_view gs) s ≡ row_on (map node_view hs) (sequenced (tree_segments (node_view g)) (top s) ∷ below s)
row_opened gs hs g s e = ap (λ u. row_on u s) (ap (map node_view) e ∙ map-append node_view hs (g ∷ [])) ∙ row_more (map node_view hs) (node_view g) s

-- three are due in place of a row
pub row_runs : {T E : Type 0} (r : outcome.Result T E) (ds es fs gs : List Task) (trees before : List declared.Node) (last : declared.Node) → trees ≡ before ++
    last ∷ []
    → ((s : List (List TreeSegment)) → run es s ≡ run ds (row_on (map node_view before) s))
    → ((s : List (List TreeSegment)) → run fs s ≡ run es (sequenced (top s) (top (below s)) ∷ below (below s)))
    → OnOk r ((s : List (List TreeSegment)) → run gs s ≡ run fs (tree_segments (node_view last) ∷ s))
    → OnOk r ((s : List (List TreeSegment)) → run gs s ≡ run ds (row_on (map node_view trees) s))
row_runs (outcome.Ok v) ds es fs gs trees before last is h k i = λ s.
    let w = tree_segments (node_view last) in
    i s ∙ k (w ∷ s) ∙ h (sequenced w (top s) ∷ below s) ∙ ap (run ds) (sym (row_opened trees before last s is))
row_runs (outcome.Err e) ds es fs gs trees before last is h k i = tt

-- steps ------------------------------------------------------------------------------------------------------------------------

steps_empty : steps_of at.Empty ≡ 1
steps_empty = search (rules, node_lemmas)

steps_point : (q : ℕ) → steps_of (at.Point q) ≡ 1
steps_point q = search (rules, node_lemmas)

steps_aside : (q : ℕ) (what : Probe) → steps_of (at.Probe q what) ≡ 1
steps_aside q what = search (rules, node_lemmas)

steps_act : (q : ℕ) (o : declared_op.Op) → steps_of (at.Act q o) ≡ 1
steps_act q o = search (rules, node_lemmas)

steps_check : (q base : ℕ) (c : Cond) → steps_of (at.Check q base c) ≡ 1
steps_check q base c = search (rules, node_lemmas)

steps_seq : (gs : Vec declared.Node Global) (b : Box declared.Node Global) → steps_of (at.Seq gs b) ≡ 2 +
    (steps_in_row (map steps_of gs.items) + steps_of b.value)
steps_seq gs b = search (rules, node_lemmas)

steps_choose : (q base : ℕ) (c : Cond) (a b : Box declared.Node Global) → steps_of (at.Choose q base c a b) ≡ 2 + (steps_of a.value + steps_of b.value)
steps_choose q base c a b = search (rules, node_lemmas)

steps_iterate : (q base : ℕ) (c : Cond) (a : Box declared.Node Global) → steps_of (at.Iterate q base c a) ≡ 2 + steps_of a.value
steps_iterate q base c a = search (rules, node_lemmas)

steps_catch : (q : ℕ) (k : declared_exit.Exit) (a : Box declared.Node Global) → steps_of (at.Catch q k a) ≡ 2 + steps_of a.value
steps_catch q k a = search (rules, node_lemmas)

steps_leave : (n : ℕ) (k : declared_exit.Exit) → steps_of (at.Leave n k) ≡ 1
steps_leave n k = search (rules, node_lemmas)

steps_select : (q base : ℕ) (e : Expr) (arms : Vec Arm Global) → steps_of (at.Select q base e arms) ≡ 3 + steps_in_row (map arm_steps arms.items)
steps_select q base e arms = search (rules, node_lemmas)

steps_entry : (l : CaseLabel) → arm_steps (armed.Entry l) ≡ 0
steps_entry l = search (rules, node_lemmas)

steps_tree : (g : declared.Node) → arm_steps (armed.Tree g) ≡ steps_of g
steps_tree g = search (rules, node_lemmas)

-- trees with no tree in them -----------------------------------------------------------------------------------------------------

module _ (n : declared.Node)
    (no_seq : (gs : Vec declared.Node Global) (b : Box declared.Node Global) → n ≡ at.Seq gs b → ⊥)
    (no_choose : (q base : ℕ) (c : Cond) (a b : Box declared.Node Global) → n ≡ at.Choose q base c a b → ⊥)
    (no_iterate : (q base : ℕ) (c : Cond) (a : Box declared.Node Global) → n ≡ at.Iterate q base c a → ⊥)
    (no_catch : (q : ℕ) (k : declared_exit.Exit) (a : Box declared.Node Global) → n ≡ at.Catch q k a → ⊥)
    (no_select : (q base : ℕ) (e : Expr) (arms : Vec Arm Global) → n ≡ at.Select q base e arms → ⊥) where
  opened_is_leaf : (o : Node-F Arm declared.Node) → n ≡ roll-Node o → steps_of n ≡ 1
  unfolding roll-Node denote.Hole.Carrier.roll
  opened_is_leaf Node-F.Empty e = ap steps_of e ∙ steps_empty
  opened_is_leaf (Node-F.Point q) e = ap steps_of e ∙ steps_point q
  opened_is_leaf (Node-F.Probe q what) e = ap steps_of e ∙ steps_aside q what
  opened_is_leaf (Node-F.Act q o) e = ap steps_of e ∙ steps_act q o
  opened_is_leaf (Node-F.Check q base c) e = ap steps_of e ∙ steps_check q base c
  opened_is_leaf (Node-F.Seq gs b) e = absurd (no_seq gs b e)
  opened_is_leaf (Node-F.Choose q base c a b) e = absurd (no_choose q base c a b e)
  opened_is_leaf (Node-F.Iterate q base c a) e = absurd (no_iterate q base c a e)
  opened_is_leaf (Node-F.Catch q k a) e = absurd (no_catch q k a e)
  opened_is_leaf (Node-F.Leave m k) e = ap steps_of e ∙ steps_leave m k
  opened_is_leaf (Node-F.Select q base x arms) e = absurd (no_select q base x arms e)

  pub rest_is_leaf : steps_of n ≡ 1
  rest_is_leaf = opened_is_leaf (out-Node n) (sym (roll-out-Node n))

three_steps : (k n : ℕ) → n ≡ 3 + k → n ≡ 2 + (1 + k)
three_steps k n is = omega (arith, is)

more_steps : (n k : ℕ) → n ≡ 1 → n ≡ 2 + k → ⊥
more_steps n k one is = omega (arith, one, is)

module _ (n : declared.Node) (leaf : steps_of n ≡ 1) (no_empty : n ≡ at.Empty → ⊥) (no_point : (q : ℕ) → n ≡ at.Point q → ⊥)
    (no_aside : (q : ℕ) (what : Probe) → n ≡ at.Probe q what → ⊥)
    (no_act : (q : ℕ) (o : declared_op.Op) → n ≡ at.Act q o → ⊥)
    (no_check : (q base : ℕ) (c : Cond) → n ≡ at.Check q base c → ⊥)
    (no_leave : (m : ℕ) (k : declared_exit.Exit) → n ≡ at.Leave m k → ⊥) where
  opened_is_none : (o : Node-F Arm declared.Node) → n ≡ roll-Node o → ⊥
  unfolding roll-Node denote.Hole.Carrier.roll
  opened_is_none Node-F.Empty e = no_empty e
  opened_is_none (Node-F.Point q) e = no_point q e
  opened_is_none (Node-F.Probe q what) e = no_aside q what e
  opened_is_none (Node-F.Act q o) e = no_act q o e
  opened_is_none (Node-F.Check q base c) e = no_check q base c e
  opened_is_none (Node-F.Seq gs b) e = more_steps (steps_of n) _ leaf (ap steps_of e ∙ steps_seq gs b)
  opened_is_none (Node-F.Choose q base c a b) e = more_steps (steps_of n) _ leaf (ap steps_of e ∙ steps_choose q base c a b)
  opened_is_none (Node-F.Iterate q base c a) e = more_steps (steps_of n) _ leaf (ap steps_of e ∙ steps_iterate q base c a)
  opened_is_none (Node-F.Catch q k a) e = more_steps (steps_of n) _ leaf (ap steps_of e ∙ steps_catch q k a)
  opened_is_none (Node-F.Leave m k) e = no_leave m k e
  opened_is_none (Node-F.Select q base x arms) e = more_steps (steps_of n) _ leaf (ap steps_of e ∙ three_steps (steps_in_row (map arm_steps arms.items))
      (steps_of (at.Select q base x arms)) (steps_select q base x arms))

  pub no_leaf : ⊥
  no_leaf = opened_is_none (out-Node n) (sym (roll-out-Node n))

pub leaf_falls : {T E : Type 0} (r : outcome.Result T E) (n : declared.Node) (ds : List Task) → steps_of n ≡ 1 → OnOk r (all_left ds < all_left ds + steps_of n)
leaf_falls (outcome.Ok v) n ds leaf = omega (arith, leaf)
leaf_falls (outcome.Err e) n ds leaf = tt

-- trees with trees in them -------------------------------------------------------------------------------------------------------

-- the tree, and then this
pub both_run : {T E : Type 0} (r : outcome.Result T E) (ds es fs : List Task) (f : List (List TreeSegment) → List (List TreeSegment)) (w : List TreeSegment)
    → ((u : List (List TreeSegment)) → run es u ≡ run ds (f u)) → OnOk r ((u : List (List TreeSegment)) → run fs u ≡ run es (w ∷ u))
    → OnOk r ((u : List (List TreeSegment)) → run fs u ≡ run ds (f (w ∷ u)))
both_run (outcome.Ok v) ds es fs f w h k = λ u. k u ∙ h (w ∷ u)
both_run (outcome.Err e) ds es fs f w h k = tt

-- a row's last tree, and then the others
pub seq_runs : {T E : Type 0} (r : outcome.Result T E) (n : declared.Node) (ds fs : List Task) (s : List (List TreeSegment)) (gs : Vec declared.Node Global)
    (b : Box declared.Node Global) → n ≡ at.Seq gs b
    → OnOk r ((u : List (List TreeSegment)) → run fs u ≡ run ds (row_on (map node_view gs.items) (tree_segments (node_view b.value) ∷ u)))
    → OnOk r (run fs s ≡ run ds (tree_segments (node_view n) ∷ s))
seq_runs (outcome.Ok v) n ds fs s gs b is k =
    k s ∙ ap (run ds) (row_made (map node_view gs.items) (node_view b.value) s ∙ ap (λ g. tree_segments g ∷ s) (sym (ap node_view is ∙ seq_view gs b)))
seq_runs (outcome.Err e) n ds fs s gs b is k = tt

-- arms ------------------------------------------------------------------------------------------------------------------------------

module _ (go : CaseLabel → SegmentStep) where
  -- an arm before others
  one_arm : (a : Arm) (x y : Arms) (s t : List (List TreeSegment)) → arms_on go x s ≡ arms_on go y t → arms_on go (arm_view a x) s ≡ arms_on go (arm_view a y) t
  one_arm a x y s t same = each_arm (λ b. arms_on go (arm_view b x) s ≡ arms_on go (arm_view b y) t)
      (λ l. ap (λ f. arms_on go (f x) s) (entry_view l) ∙ ap (labelled_last (go l)) same ∙ sym (ap (λ f. arms_on go (f y) t) (entry_view l)))
      (λ g. ap (λ f. arms_on go (f x) s) (tree_view g) ∙ ap (joined_last (tree_segments (node_view g))) same ∙ sym (ap (λ f. arms_on go (f y) t) (tree_view g)))
      a

  arms_joined : (xs : List Arm) (h : Arms) (s : List (List TreeSegment)) → arms_on go (arms_before (map arm_view xs) h) s
      ≡ arms_on go (arms_of (map arm_view xs)) (arms_on go h s)
  arms_joined [] h s = refl
  arms_joined (a ∷ xs) h s = one_arm a (arms_before (map arm_view xs) h) (arms_of (map arm_view xs)) s (arms_on go h s) (arms_joined xs h s)

  -- the last arm stands before what is there
  pub arms_opened : (xs ys : List Arm) (a : Arm) (s : List (List TreeSegment)) → xs ≡ ys ++ a ∷ []
      → arms_on go (arms_of (map arm_view xs)) s ≡ arms_on go (arms_of (map arm_view ys)) (arms_on go (arm_view a no_arms) s)
  arms_opened xs ys a s is = ap (λ h. arms_on go h s) (view_last xs ys a is) ∙ arms_joined ys (arm_view a no_arms) s

  pub arms_made : (past : List TreeSegment) (arms : Arms) (s : List (List TreeSegment)) → arms_on go arms (nothing_done ∷ past ∷ s)
      ≡ arms_segments arms ∷ from_labels go past arms ∷ s
  arms_made past no_arms s = refl
  arms_made past (entry l arms) s = ap (labelled_last (go l)) (arms_made past arms s)
  arms_made past (arm a arms) s = ap (joined_last (tree_segments a)) (arms_made past arms s)

-- two are due in place of arms
pub arms_run : {T E : Type 0} (r : outcome.Result T E) (ds es fs : List Task) (selection : Selection) (arms before : List Arm) (last : Arm)
    → arms ≡ before ++ last ∷ [] → ((s : List (List TreeSegment)) → run es s ≡ run ds (arms_on (selection_view selection) (arms_of (map arm_view before)) s))
    → OnOk r ((s : List (List TreeSegment)) → run fs s ≡ run es (arms_on (selection_view selection) (arm_view last no_arms) s))
    → OnOk r ((s : List (List TreeSegment)) → run fs s ≡ run ds (arms_on (selection_view selection) (arms_of (map arm_view arms)) s))
arms_run (outcome.Ok v) ds es fs selection arms before last is h k = λ s.
    k s ∙ h (arms_on (selection_view selection) (arm_view last no_arms) s) ∙ ap (run ds) (sym (arms_opened (selection_view selection) arms before last s is))
arms_run (outcome.Err e) ds es fs selection arms before last is h k = tt

-- one arm is due
pub entry_run : {T E : Type 0} (r : outcome.Result T E) (ds es : List Task) (selection : Selection) (a : Arm) (l : CaseLabel) → a ≡ armed.Entry l
    → OnOk r ((s : List (List TreeSegment)) → run es s ≡ run ds (labelled_last (selection_view selection l) s))
    → OnOk r ((s : List (List TreeSegment)) → run es s ≡ run ds (arms_on (selection_view selection) (arm_view a no_arms) s))
entry_run (outcome.Ok v) ds es selection a l is h = λ s.
    h s ∙ ap (run ds) (sym (ap (λ b. arms_on (selection_view selection) (arm_view b no_arms) s) is
    ∙ ap (λ f. arms_on (selection_view selection) (f no_arms) s) (entry_view l)))
entry_run (outcome.Err e) ds es selection a l is h = tt

pub tree_run : {T E : Type 0} (r : outcome.Result T E) (ds es : List Task) (selection : Selection) (a : Arm) (g : declared.Node) → a ≡ armed.Tree g
    → OnOk r ((s : List (List TreeSegment)) → run es s ≡ run ds (joined_last (tree_segments (node_view g)) s))
    → OnOk r ((s : List (List TreeSegment)) → run es s ≡ run ds (arms_on (selection_view selection) (arm_view a no_arms) s))
tree_run (outcome.Ok v) ds es selection a g is h = λ s.
    h s ∙ ap (run ds) (sym (ap (λ b. arms_on (selection_view selection) (arm_view b no_arms) s) is
    ∙ ap (λ f. arms_on (selection_view selection) (f no_arms) s) (tree_view g)))
tree_run (outcome.Err e) ds es selection a g is h = tt

pub entry_size : {T E : Type 0} (r : outcome.Result T E) (ds es : List Task) (a : Arm) (l : CaseLabel) → a ≡ armed.Entry l
    → OnOk r (all_left es ≡ all_left ds + 1) → OnOk r (all_left es ≡ all_left ds + (1 + arm_steps a))
entry_size (outcome.Ok v) ds es a l is h = let none = ap arm_steps is ∙ steps_entry l in omega (arith, none, h)
entry_size (outcome.Err e) ds es a l is h = tt

pub tree_size : {T E : Type 0} (r : outcome.Result T E) (ds es : List Task) (a : Arm) (g : declared.Node) → a ≡ armed.Tree g
    → OnOk r (all_left es ≡ all_left ds + 1 + steps_of g) → OnOk r (all_left es ≡ all_left ds + (1 + arm_steps a))
tree_size (outcome.Ok v) ds es a g is h = let same = ap arm_steps is ∙ steps_tree g in omega (arith, same, h)
tree_size (outcome.Err e) ds es a g is h = tt

arms_steps : (xs ys : List Arm) (a : Arm) → xs ≡ ys ++ a ∷ [] → arms_size xs ≡ arms_size ys + (arm_steps a + 2)
arms_steps xs ys a is =
    ap arms_size is ∙ ap (λ ns. 1 + steps_in_row ns) (map-append arm_steps ys (a ∷ []))
    ∙ ap (λ n. 1 + n) (sum_by_push (λ n. n + 2) (map arm_steps ys) (arm_steps a)) ∙ one_more (steps_in_row (map arm_steps ys)) (arm_steps a + 2)
  where
    one_more : (m n : ℕ) → 1 + (m + n) ≡ (1 + m) + n
    one_more m n = omega arith

pub arms_fall : {T E : Type 0} (r : outcome.Result T E) (ds es fs : List Task) (arms before : List Arm) (last : Arm) → arms ≡ before ++ last ∷ []
    → all_left es ≡ all_left ds + arms_size before → OnOk r (all_left fs ≡ all_left es + (1 + arm_steps last))
    → OnOk r (all_left fs < all_left ds + arms_size arms)
arms_fall (outcome.Ok v) ds es fs arms before last is h k = let size = arms_steps arms before last is in omega (arith, size, h, k)
arms_fall (outcome.Err e) ds es fs arms before last is h k = tt

-- all of them are due, after them nothing is done
pub selection_run : {T E : Type 0} (r : outcome.Result T E) (ds es fs : List Task) (selection : Selection) (s t u : List (List TreeSegment))
    (past : List TreeSegment)
    → t ≡ past ∷ s → u ≡ nothing_done ∷ t
    → ((v : List (List TreeSegment)) → run es v ≡ run ds (selected (top v) (top (below v)) ∷ below (below v)))
    → OnOk r ((v : List (List TreeSegment)) → run fs v ≡ run es (arms_on (selection_view selection) (arms_seen selection) v))
    → OnOk r (run fs u ≡ run ds (selected (arms_segments (arms_seen selection)) (from_labels (selection_view selection) past (arms_seen selection)) ∷ s))
selection_run (outcome.Ok v) ds es fs selection s t u past a b h k =
    let go = selection_view selection in
    let arms = arms_seen selection in
    k u ∙ h (arms_on go arms u)
    ∙ ap (λ w. run ds (selected (top w) (top (below w)) ∷ below (below w)))
    (ap (arms_on go arms) (b ∙ ap (λ w. nothing_done ∷ w) a) ∙ arms_made go past arms s)
selection_run (outcome.Err e) ds es fs selection s t u past a b h k = tt

-- past all labels, if none of them is `default`
module _ {T E : Type 0} (r : outcome.Result T E) (go : CaseLabel → SegmentStep) (b : Bool) (arms : List Arm) (s t : List (List TreeSegment)) where
  pub past_none : (xs : List declared_stretch.TreeSegment) → b ≡ list_any (is_same_case Default) (labels_in arms) → b ≡ true → xs ≡ []
      → OnOk r (t ≡ seen xs ∷ s) → OnOk r (t ≡ past_all go (list_any (is_same_case Default) (labels_in arms)) ∷ s)
  past_none xs is so none h = subst (λ u. OnOk r (t ≡ u ∷ s)) (ap seen none ∙ ap (past_all go) (sym so ∙ is)) h

  pub past_one : b ≡ list_any (is_same_case Default) (labels_in arms) → b ≡ false → OnOk r (t ≡ past_all go false ∷ s)
      → OnOk r (t ≡ past_all go (list_any (is_same_case Default) (labels_in arms)) ∷ s)
  past_one is so h = subst (λ d. OnOk r (t ≡ past_all go d ∷ s)) (sym so ∙ is) h

-- they are those of the tree
pub select_runs : {T E : Type 0} (r : outcome.Result T E) (n : declared.Node) (ds fs : List Task) (s t : List (List TreeSegment)) (q base : ℕ) (x : Expr)
    (arms : Vec Arm Global) → n ≡ at.Select q base x arms
    → OnOk r (run fs t ≡ run ds (tree_segments (node_view (at.Select q base x arms)) ∷ s)) → OnOk r (run fs t ≡ run ds (tree_segments (node_view n) ∷ s))
select_runs r n ds fs s t q base x arms is h = subst (λ m. OnOk r (run fs t ≡ run ds (tree_segments (node_view m) ∷ s))) (sym is) h

pub select_shown : {T E : Type 0} (r : outcome.Result T E) (ds fs : List Task) (s t : List (List TreeSegment)) (q base : ℕ) (x : Expr) (arms : Vec Arm Global)
    → OnOk r (run fs t ≡ run ds (selected (arms_segments (arms_of (map arm_view arms.items)))
    (from_labels (goes_in base (expr_view x) (arms_of (map arm_view arms.items)))
    (past_all (goes_in base (expr_view x) (arms_of (map arm_view arms.items))) (list_any (is_same_case Default) (labels_in arms.items)))
    (arms_of (map arm_view arms.items))) ∷ s))
    → OnOk r (run fs t ≡ run ds (tree_segments (node_view (at.Select q base x arms)) ∷ s))
select_shown r ds fs s t q base x arms h =
    subst (λ g. OnOk r (run fs t ≡ run ds (tree_segments g ∷ s))) (sym (select_view q base x arms)) h

pub selection_falls : {T E : Type 0} (r : outcome.Result T E) (n : declared.Node) (ds es : List Task) (q base : ℕ) (x : Expr) (arms : Vec Arm Global)
    → n ≡ at.Select q base x arms → OnOk r (all_left es ≡ all_left ds + (1 + arms_size arms.items)) → OnOk r (all_left es < all_left ds + steps_of n)
selection_falls (outcome.Ok v) n ds es q base x arms is h = let size = ap steps_of is ∙ steps_select q base x arms in omega (arith, size, h)
selection_falls (outcome.Err e) n ds es q base x arms is h = tt

-- the last stays, and its beginnings are after the label
pub one_labelled : {T E : Type 0} (r : outcome.Result T E) (step : SegmentStep) (s t u v w : List (List TreeSegment)) (row later all : List TreeSegment) →
    row ≡ top s
    → t ≡ below s → later ≡ top t → u ≡ below t → all ≡ labelled step row later → v ≡ all ∷ u → OnOk r (w ≡ row ∷ v) → OnOk r (w ≡ labelled_last step s)
one_labelled r step s t u v w row later all a b c d is one h =
    let second = c ∙ ap top b in
    let rest = d ∙ ap below b in
    subst (λ z. OnOk r (w ≡ z)) (ap (λ z. row ∷ z) (one ∙ ap (λ z. z ∷ u) (is ∙ ap (λ z. labelled step row z) second))
    ∙ ap (λ z. z ∷ labelled step z (top (below s)) ∷ u) a ∙ ap (λ z. top s ∷ labelled step (top s) (top (below s)) ∷ z) rest) h

-- segments that come last ---------------------------------------------------------------------------------------------

-- a list of one, of two
pub first_put : (xs ys : List declared_stretch.TreeSegment) (x : TreeSegment) → xs ≡ [] → seen ys ≡ seen xs ++ x ∷ [] → seen ys ≡ x ∷ []
first_put xs ys x none is = is ∙ ap (λ u. seen u ++ x ∷ []) none

pub second_put : (ys zs : List declared_stretch.TreeSegment) (x y : TreeSegment) → seen ys ≡ x ∷ [] → seen zs ≡ seen ys ++ y ∷ [] → seen zs ≡ x ∷ y ∷ []
second_put ys zs x y one is = is ∙ ap (λ u. u ++ y ∷ []) one

module _ {T E : Type 0} (r : outcome.Result T E) where
  pub put_as : (s t : List (List TreeSegment)) (xs w : List TreeSegment) → xs ≡ w → OnOk r (t ≡ xs ∷ s) → OnOk r (t ≡ w ∷ s)
  put_as s t xs w is h = subst (λ u. OnOk r (t ≡ u ∷ s)) is h

  -- what is made of the last, or of the last two, stands in their place
  pub one_used : (f : List TreeSegment → List TreeSegment) (s t v : List (List TreeSegment)) (x w : List TreeSegment) → x ≡ top s → t ≡ below s → w ≡ f x →
      OnOk r (v ≡ w ∷ t)
      → OnOk r (v ≡ f (top s) ∷ below s)
  one_used f s t v x w a b is h = subst (λ u. OnOk r (v ≡ u)) (ap (λ y. y ∷ t) (is ∙ ap f a) ∙ ap (λ y. f (top s) ∷ y) b) h

  pub two_used : (f : List TreeSegment → List TreeSegment → List TreeSegment) (s t u v : List (List TreeSegment)) (x y w : List TreeSegment) → x ≡ top s →
      t ≡ below s → y ≡ top t
      → u ≡ below t → w ≡ f x y
      → OnOk r (v ≡ w ∷ u) → OnOk r (v ≡ f (top s) (top (below s)) ∷ below (below s))
  two_used f s t u v x y w a b c d is h =
      let second = c ∙ ap top b in
      let rest = d ∙ ap below b in
      subst (λ z. OnOk r (v ≡ z)) (ap (λ z. z ∷ u) (is ∙ ap (λ z. f z y) a ∙ ap (λ z. f (top s) z) second) ∙ ap (λ z. f (top s) (top (below s)) ∷ z) rest) h

-- one step, and all of them ------------------------------------------------------------------------------------------------------------

-- what is due next was the last of the list
pub step_runs : (before left later : List Task) (d : Task) (s t : List (List TreeSegment)) (w : List TreeSegment) → left ≡ before ++ d ∷ [] →
    run left s ≡ w ∷ []
    → run later t ≡ run before (effect d s) → run later t ≡ w ∷ []
step_runs before left later d s t w e i h = h ∙ sym (run_push before left d e s) ∙ i

pub step_falls : (before left later : List Task) (d : Task) → left ≡ before ++ d ∷ [] → all_left later < all_left before + task_size d →
    all_left later < all_left
    left
step_falls before left later d e h = let size = ap all_left e ∙ sum_by_push task_size before d in omega (arith, size, h)

pub run_first : (ds es : List Task) (d : Task) (vs : List V) (w : List TreeSegment) → es ≡ ds ++ d ∷ [] → ds ≡ [] → vs ≡ [] → effect d [] ≡ w ∷ [] → run es
    (stack vs) ≡ w ∷ []
run_first ds es d vs w e none empty is = run_push ds es d e (stack vs) ∙ ap (λ u. run u (effect d (stack vs))) none ∙ ap (λ u. effect d (stack u)) empty ∙ is

pub run_last : (ds : List Task) (vs : List V) (xs : List declared_stretch.TreeSegment) (w : List TreeSegment) → length ds ≡ 0 → run ds (stack vs) ≡ w ∷ [] →
    seen xs ≡
    top (stack vs) → seen xs ≡ w
run_last ds vs xs w none i h = h ∙ ap top (sym (ap (λ u. run u (stack vs)) (nil_from_length ds none)) ∙ i)

-- the tree segments of a tree are its segments
pub ways_made : (xs : List declared_stretch.TreeSegment) (g : Node) → seen xs ≡ tree_segments g → AreSegmentsOf (seen xs) g
ways_made xs g is = subst (λ ss. AreSegmentsOf ss g) (sym is) (are_ways g)
