-- What each form of a tree of operations is seen as.
use Rattle.std.proofs.Common.{rules, Box, Vec, Global, ◌≡◌, ◌∙◌, ◌++◌, ◌+◌, ◌<◌, ◌≤◌, ℕ, ℤ, List, ◌∷◌, length, map, take, drop, get_or, refl, ap, subst, sym}
use Rattle.std.proofs.lemmas.List.{drop_all, drop_more}
use Rattle.std.specs.Prelude as outcome_or
use Rattle.std.specs.{List.flat_map, Prelude.OnOk}
use Rattle.lra_linearize.specs.Crates.lra_operations.TreeViews.{exit_view, node_view, op_view, row, ArmPart, arm_view, arms_of}
use Rattle.lra_linearize.specs.Crates.lra_operations.declared.tree.Arm.TheVariants.{Entry, Tree}
use Rattle.lra_linearize.specs.Crates.lra_operations.declared.tree.Node.{Node, Empty, Point, Probe, Act, Check, Seq, Choose, Iterate, Catch, Leave, Select, the_lemmas}
use Rattle.lra_linearize.specs.Crates.lra_program.ProgramViews.{cond_view, expr_view}
use Rattle.lra_linearize.specs.Crates.{lra_linear_spec.declared.ConKind.ConKind, lra_operations.declared.tree.Arm.Arm, lra_operations.declared.tree.Exit.Exit, lra_operations.declared.tree.Op.Op}
use Rattle.lra_linearize.specs.Crates.{lra_program.declared.program.Cond.Cond, lra_program.declared.program.Expr.Expr, lra_systems.LinearSystems.LinearSystem}
use Rattle.lra_linearize.specs.Crates.lra_operations.declared.probes.Probe as aside
use Rattle.lra_base.specs.declared.case_labels.CaseLabel.{CaseLabel}
use Rattle.lra_linearize.specs.Crates.lra_operations.Tree as graph
use Rattle.lra_linearize.proofs.Crates.lra_operations.ArmViews.{entry_view, tree_view}
use Rattle.lra_analysis_spec.specs.Thresholds.{round_rows, rows_in, rows_in_arms}
use Rattle.lra_linearize.specs.Thresholds.{HasTaken}
use Rattle.lra_linearize.proofs.ThresholdSteps.{row_taken, then_taken}

pub empty_view : node_view Empty ≡ graph.empty
empty_view = search (rules, the_lemmas)

pub point_view : (q : ℕ) → node_view (Point q) ≡ graph.point q
point_view q = search (rules, the_lemmas)

pub aside_view : (q : ℕ) (what : aside.Probe) → node_view (Probe q what) ≡ graph.probe q what
aside_view q what = search (rules, the_lemmas)

pub act_view : (q : ℕ) (o : Op) → node_view (Act q o) ≡ graph.act q (op_view o)
act_view q o = search (rules, the_lemmas)

pub check_view : (q base : ℕ) (c : Cond) → node_view (Check q base c) ≡ graph.check q base (cond_view c)
check_view q base c = search (rules, the_lemmas)

pub seq_view : (gs : Vec Node Global) (last : Box Node Global) → node_view (Seq gs last) ≡ row (map node_view gs.items) (node_view last.value)
seq_view gs last = search (rules, the_lemmas)

pub choose_view : (q base : ℕ) (c : Cond) (a b : Box Node Global) → node_view (Choose q base c a b) ≡ graph.choose q base (cond_view c) (node_view a.value) (node_view b.value)
choose_view q base c a b = search (rules, the_lemmas)

pub iterate_view : (q base : ℕ) (c : Cond) (a : Box Node Global) → node_view (Iterate q base c a) ≡ graph.iterate q base (cond_view c) (node_view a.value)
iterate_view q base c a = search (rules, the_lemmas)

pub catch_view : (q : ℕ) (k : Exit) (a : Box Node Global) → node_view (Catch q k a) ≡ graph.catch q (exit_view k) (node_view a.value)
catch_view q k a = search (rules, the_lemmas)

pub leave_view : (n : ℕ) (k : Exit) → node_view (Leave n k) ≡ graph.leave n (exit_view k)
leave_view n k = search (rules, the_lemmas)

pub select_view : (q base : ℕ) (e : Expr) (arms : Vec Arm Global)
    → node_view (Select q base e arms) ≡ graph.select q base (expr_view e) (arms_of (map arm_view arms.items))
select_view q base e arms = search (rules, the_lemmas)

-- rows of a tree as it is seen
pub taken_seen : {T E : Type 0} (r : outcome_or.Result T E) (s t : LinearSystem ConKind) (n : ℕ) (g h : graph.Node) → g ≡ h →
    OnOk r (HasTaken s t (rows_in n h))
    → OnOk r (HasTaken s t (rows_in n g))
taken_seen r s t n g h is taken = subst (λ (x : graph.Node). OnOk r (HasTaken s t (rows_in n x))) (sym is) taken

-- the rows of what stands before are there, those of what is added last come after them
pub last_taken : {T E : Type 0} (r : outcome_or.Result T E) (s t u : LinearSystem ConKind) (xs : List (List ℤ)) (ys : ℕ → List (List ℤ)) → HasTaken s t xs
    → OnOk r (HasTaken t u (ys t.dims)) → OnOk r (HasTaken s u (xs ++ ys s.dims))
last_taken (outcome_or.Ok v) s t u xs ys a b = then_taken s t u xs ys a b
last_taken (outcome_or.Err e) s t u xs ys a b = tt

-- the rows are these, stated differently
pub taken_as : {T E : Type 0} (r : outcome_or.Result T E) (s t : LinearSystem ConKind) (xs ys : List (List ℤ)) → xs ≡ ys → OnOk r (HasTaken s t ys) → OnOk r (HasTaken s t xs)
taken_as r s t xs ys is taken = subst (λ (x : List (List ℤ)). OnOk r (HasTaken s t x)) (sym is) taken

-- the trees of a row are there, and the last after them
pub row_ends : {T E : Type 0} (r : outcome_or.Result T E) (gs : List Node) (h : graph.Node) (i : ℕ) (s t u : LinearSystem ConKind) → length gs ≤ i
    → HasTaken s t (flat_map (rows_in s.dims) (map node_view (take i gs))) → OnOk r (HasTaken t u (rows_in t.dims h)) → OnOk r (HasTaken s u (rows_in s.dims (row (map node_view gs) h)))
row_ends (outcome_or.Ok v) gs h i s t u past before one = row_taken gs h i s t u past before one
row_ends (outcome_or.Err e) gs h i s t u past before one = tt

-- a round of two: the step's rows are there, the body's come after them
pub two_rounds : {T E : Type 0} (r : outcome_or.Result T E) (s t u : LinearSystem ConKind) (n : Node) (gs : Vec Node Global) (last : Box Node Global) (inner : Node) (step : List Node)
    → n ≡ Seq gs last → gs.items ≡ inner ∷ step → HasTaken s t (rows_in s.dims (row (map node_view step) (node_view last.value)))
    → OnOk r (HasTaken t u (rows_in t.dims (node_view inner))) → OnOk r (HasTaken s u (round_rows s.dims (node_view n)))
two_rounds r s t u n gs last inner step is two first behind =
    let seen = ap node_view is ∙ seq_view gs last ∙ ap (λ (xs : List Node). row (map node_view xs) (node_view last.value)) two in
    taken_as r s u _ _ (ap (round_rows s.dims) seen)
    (last_taken r s t u (rows_in s.dims (row (map node_view step) (node_view last.value))) (λ k. rows_in k (node_view inner)) first behind)

-- the rows of an arm, before those of the arms after it
pub entry_rows : (n : ℕ) (a : Arm) (l : CaseLabel) (h : graph.Arms) → a ≡ Entry l → rows_in_arms n (arm_view a h) ≡ rows_in_arms n h
entry_rows n a l h is = ap (λ (x : Arm). rows_in_arms n (arm_view x h)) is ∙ ap (λ (f : ArmPart). rows_in_arms n (f h)) (entry_view l)

tree_rows : (n : ℕ) (a : Arm) (g : Node) (h : graph.Arms) → a ≡ Tree g → rows_in_arms n (arm_view a h) ≡ rows_in n (node_view g) ++ rows_in_arms n h
tree_rows n a g h is = ap (λ (x : Arm). rows_in_arms n (arm_view x h)) is ∙ ap (λ (f : ArmPart). rows_in_arms n (f h)) (tree_view g)

pub entry_taken : (s all : LinearSystem ConKind) (a : Arm) (l : CaseLabel) (h : graph.Arms) → a ≡ Entry l → HasTaken s all (rows_in_arms s.dims h)
    → HasTaken s all (rows_in_arms s.dims (arm_view a h))
entry_taken s all a l h is taken = subst (HasTaken s all) (sym (entry_rows s.dims a l h is)) taken

pub tree_taken : {T E : Type 0} (r : outcome_or.Result T E) (s t all : LinearSystem ConKind) (a : Arm) (g : Node) (h : graph.Arms) → a ≡ Tree g
    → OnOk r (HasTaken s t (rows_in s.dims (node_view g)))
    → OnOk r (HasTaken t all (rows_in_arms t.dims h) → HasTaken s all (rows_in_arms s.dims (arm_view a h)))
tree_taken (outcome_or.Ok v) s t all a g h is one =
    λ taken. subst (HasTaken s all) (sym (tree_rows s.dims a g h is)) (then_taken s t all (rows_in s.dims (node_view g)) (λ n. rows_in_arms n h) one taken)
tree_taken (outcome_or.Err e) s t all a g h is one = tt

pub taken_dims : {T E : Type 0} (r : outcome_or.Result T E) (s t : LinearSystem ConKind) (rows : List (List ℤ)) → OnOk r (HasTaken s t rows)
    → OnOk r (t.dims ≡ s.dims)
taken_dims (outcome_or.Ok v) s t rows taken = taken.dims
taken_dims (outcome_or.Err e) s t rows taken = tt

-- what the arms from here on take in comes after what those before took in
pub record IsTakenFrom (s t : LinearSystem ConKind) (arms behind : List Arm) : Type 0 where
  pub dims : t.dims ≡ s.dims
  pub rest : (all : LinearSystem ConKind) → HasTaken t all (rows_in_arms t.dims (arms_of (map arm_view behind)))
      → HasTaken s all (rows_in_arms s.dims (arms_of (map arm_view arms)))

pub none_taken : (s : LinearSystem ConKind) (arms : List Arm) → IsTakenFrom s s arms (drop 0 arms)
none_taken s arms = record { dims = refl; rest = λ all taken. taken }

pub one_arm_taken : (s t u : LinearSystem ConKind) (arms : List Arm) (i : ℕ) (x : Arm) → i < length arms → x ≡ get_or arms i x →
    IsTakenFrom s t arms (drop i arms)
    → u.dims ≡ t.dims
    → ((behind : graph.Arms) (all : LinearSystem ConKind) → HasTaken u all (rows_in_arms u.dims behind) →
    HasTaken t all (rows_in_arms t.dims (arm_view x behind)))
    → IsTakenFrom s u arms (drop (i + 1) arms)
one_arm_taken s t u arms i x h is before same one = record {
  dims = same ∙ before.dims;
  rest = λ all taken. before.rest all (subst (λ (xs : List Arm). HasTaken t all (rows_in_arms t.dims (arms_of (map arm_view xs)))) (sym next)
      (one (arms_of (map arm_view (drop (i + 1) arms))) all taken));
}
  where
    next : drop i arms ≡ x ∷ drop (i + 1) arms
    next = drop_more arms i x h ∙ ap (λ (y : Arm). y ∷ drop (i + 1) arms) (sym is)

pub arms_taken : (s t : LinearSystem ConKind) (arms : List Arm) (i : ℕ) → length arms ≤ i → IsTakenFrom s t arms (drop i arms)
    → HasTaken s t (rows_in_arms s.dims (arms_of (map arm_view arms)))
arms_taken s t arms i past so = so.rest t (subst (λ (xs : List Arm). HasTaken t t (rows_in_arms t.dims (arms_of (map arm_view xs))))
    (sym (drop_all i arms past))
    (record { dims = refl; are = refl; kinds = λ are. are }))
