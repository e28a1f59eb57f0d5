-- Steps of the proofs on the pass.
use Rattle.std.proofs.Common.{rules, Box, Vec, Global, map, ◌≡◌, ℕ, zero, suc, ◌+◌, ◌*◌, ◌<◌, List, [], ◌∷◌, ◌++◌, Option, false, refl, sym, ap, subst, ◌∙◌, inl, inr, arith}
use Rattle.std.proofs.{lemmas.List.Elements.Contains-append_cases, lemmas.List.Sums.sum_by-cons}
use Rattle.std.specs.{List.Contains, List.sum_by, Prelude.◌⊎◌, Prelude.IfOk, Prelude.true}
use Rattle.std.specs.Prelude as outcome_or
use Rattle.lra_pass_results.specs.Crates.lra_analysis_spec.Pass.{Filters, jumps_of, PassEntry, PassResult, noted, goes_on, jumps, in_turn, jumps_caught, DescendingIteration}
use Rattle.lra_pass_results.specs.Crates.lra_program.ProgramViews.{cond_view, expr_view}
use Rattle.lra_pass_results.specs.Crates.{lra_analysis_spec.Live.live_after, lra_analysis_spec.Operations.lossy_operations, lra_analysis_spec.Plan.Plan, lra_analysis_spec.UnderInterference.LossyPass}
use Rattle.lra_pass_results.specs.Crates.{lra_domain.Abstraction.Abstraction, lra_domain.Interference.Interference, lra_domain.declared.Exactness.Exactness, lra_program.Program.Cond}
use Rattle.lra_pass_results.specs.Crates.lra_program.declared.program.Cond as declared_cond
use Rattle.lra_operations.specs.declared.probes.Probe as declared_aside
use Rattle.lra_operations.specs.declared.tree.Exit as declared_exit
use Rattle.lra_operations.specs.declared.tree.Op as declared_op
use Rattle.lra_operations.specs.TreeViews.{exit_view, node_view, row, arm_view, arms_of}
use Rattle.lra_operations.specs.declared.tree.Node.{Node, Empty, Point, Probe, Act, Check, Seq, Choose, Iterate, Catch, Leave, Select, the_lemmas}
use Rattle.lra_operations.specs.{Tree.Exit, Tree.broken, Tree.continued, Tree.returned, declared.tree.Arm.Arm, declared.tree.Arm.TheVariants.Tree as TreeArm}
use Rattle.lra_pass_results.specs.Crates.lra_program.declared.program.Expr as declared_expr
use Rattle.lra_operations.specs.Tree as graph
use Rattle.lra_pass_results.specs.Outcome.{headed, AllHave, AreBranchesJoined, Catches, JumpsFit, HasGrown, IsPassed, LeavesWith}
use Rattle.lra_pass_results.specs.{Dimensions.JumpsWith, Dimensions.TreeFits, Steps.arm_steps, Steps.arms_steps, Steps.node_steps, Steps.row_steps}
use Rattle.lra_pass_results.proofs.Crates.lra_linearize.TreeViews.{catch_view, choose_view, iterate_view, select_view, seq_view}

-- how many steps a pass of each takes
pub empty_steps : (n : ℕ) → node_steps n Empty ≡ 1
empty_steps n = search (rules, the_lemmas)

pub point_steps : (n q : ℕ) → node_steps n (Point q) ≡ 1
point_steps n q = search (rules, the_lemmas)

pub aside_steps : (n q : ℕ) (what : declared_aside.Probe) → node_steps n (Probe q what) ≡ 2
aside_steps n q what = search (rules, the_lemmas)

pub act_steps : (n q : ℕ) (o : declared_op.Op) → node_steps n (Act q o) ≡ 1
act_steps n q o = search (rules, the_lemmas)

pub check_steps : (n q base : ℕ) (c : declared_cond.Cond) → node_steps n (Check q base c) ≡ 1
check_steps n q base c = search (rules, the_lemmas)

pub leave_steps : (n l : ℕ) (k : declared_exit.Exit) → node_steps n (Leave l k) ≡ 1
leave_steps n l k = search (rules, the_lemmas)

each_step : {X : Type 0} (f : X → ℕ) (xs : List X) → sum_by suc (map f xs) ≡ sum_by (λ x. suc (f x)) xs
each_step f [] = refl
each_step f (x ∷ xs) = sum_by-cons suc (f x) (map f xs) ∙ ap (λ k. suc (f x) + k) (each_step f xs)
    ∙ sym (sum_by-cons (λ y. suc (f y)) x xs)

seq_sum : (n : ℕ) (gs : Vec Node Global) (last : Box Node Global) →
    node_steps n (Seq gs last) ≡ 1 + (sum_by suc (map (node_steps n) gs.items) + suc (node_steps n last.value))
seq_sum n gs last = search (rules, the_lemmas)

seq_steps : (n : ℕ) (gs : Vec Node Global) (last : Box Node Global) →
    node_steps n (Seq gs last) ≡ 1 + row_steps n gs.items last.value
seq_steps n gs last = seq_sum n gs last ∙ ap (λ k. 1 + (k + suc (node_steps n last.value))) (each_step (node_steps n) gs.items)

choose_steps : (n q base : ℕ) (c : declared_cond.Cond) (a b : Box Node Global) →
    node_steps n (Choose q base c a b) ≡ 3 + (node_steps n a.value + node_steps n b.value)
choose_steps n q base c a b = search (rules, the_lemmas)

iterate_steps : (n q base : ℕ) (c : declared_cond.Cond) (a : Box Node Global) →
    node_steps n (Iterate q base c a) ≡ 2 + n * suc (node_steps n a.value)
iterate_steps n q base c a = search (rules, the_lemmas)

catch_steps : (n q : ℕ) (k : declared_exit.Exit) (a : Box Node Global) →
    node_steps n (Catch q k a) ≡ 2 + node_steps n a.value
catch_steps n q k a = search (rules, the_lemmas)

select_sum : (n q base : ℕ) (e : declared_expr.Expr) (arms : Vec Arm Global)
    → node_steps n (Select q base e arms) ≡ 2 + sum_by suc (map (arm_steps n) arms.items)
select_sum n q base e arms = search (rules, the_lemmas)

select_steps : (n q base : ℕ) (e : declared_expr.Expr) (arms : Vec Arm Global) → node_steps n (Select q base e arms) ≡ 2 + arms_steps n arms.items
select_steps n q base e arms = select_sum n q base e arms ∙ ap (λ k. 2 + k) (each_step (arm_steps n) arms.items)

pub tree_steps_of : (n : ℕ) (g : Node) → arm_steps n (TreeArm g) ≡ suc (node_steps n g)
tree_steps_of n g = search (rules, the_lemmas)

-- the same of a tree that is one of these forms, by the trees in it
module _ (g : Node) (xs : List Arm) (arms : Vec Arm Global) (q base : ℕ) (e : declared_expr.Expr) (one : xs ≡ arms.items) (is : g ≡ Select q base e arms) where
  pub select_shown : node_view g ≡ graph.select q base (expr_view e) (arms_of (map arm_view xs))
  select_shown = ap node_view is ∙ select_view q base e arms ∙ ap (λ (z : List Arm). graph.select q base (expr_view e) (arms_of (map arm_view z))) (sym one)

  pub select_taken : (n : ℕ) → node_steps n g ≡ 2 + arms_steps n xs
  select_taken n = ap (node_steps n) is ∙ select_steps n q base e arms ∙ ap (λ (z : List Arm). 2 + arms_steps n z) (sym one)

module _ (g y : Node) (xs : List Node) (gs : Vec Node Global) (last : Box Node Global) (one : xs ≡ gs.items) (two : y ≡ last.value) (is : g ≡ Seq gs last) where
  pub seq_shown : node_view g ≡ row (map node_view xs) (node_view y)
  seq_shown = ap node_view is ∙ seq_view gs last ∙ ap (λ (z : List Node). row (map node_view z) (node_view last.value)) (sym one) ∙ ap (λ z. row (map node_view xs) (node_view z)) (sym two)

  pub seq_taken : (n : ℕ) → node_steps n g ≡ 1 + row_steps n xs y
  seq_taken n = ap (node_steps n) is ∙ seq_steps n gs last ∙ ap (λ (z : List Node). 1 + row_steps n z last.value) (sym one) ∙ ap (λ z. 1 + row_steps n xs z) (sym two)

module _ (g x y : Node) (a b : Box Node Global) (one : x ≡ a.value) (two : y ≡ b.value) where
  module _ (q base : ℕ) (c : declared_cond.Cond) (is : g ≡ Choose q base c a b) where
    pub choose_shown : node_view g ≡ graph.choose q base (cond_view c) (node_view x) (node_view y)
    choose_shown = ap node_view is ∙ choose_view q base c a b ∙ ap (λ z. graph.choose q base (cond_view c) (node_view z) (node_view b.value)) (sym one)
        ∙ ap (λ z. graph.choose q base (cond_view c) (node_view x) (node_view z)) (sym two)

    pub choose_taken : (n : ℕ) → node_steps n g ≡ 3 + (node_steps n x + node_steps n y)
    choose_taken n = ap (node_steps n) is ∙ choose_steps n q base c a b ∙ ap (λ z. 3 + (node_steps n z + node_steps n b.value)) (sym one) ∙ ap (λ z. 3 + (node_steps n x + node_steps n z)) (sym two)

module _ (g x : Node) (a : Box Node Global) (one : x ≡ a.value) where
  module _ (q base : ℕ) (c : declared_cond.Cond) (is : g ≡ Iterate q base c a) where
    pub iterate_shown : node_view g ≡ graph.iterate q base (cond_view c) (node_view x)
    iterate_shown = ap node_view is ∙ iterate_view q base c a ∙ ap (λ z. graph.iterate q base (cond_view c) (node_view z)) (sym one)

    pub iterate_taken : (n : ℕ) → node_steps n g ≡ 2 + n * suc (node_steps n x)
    iterate_taken n = ap (node_steps n) is ∙ iterate_steps n q base c a ∙ ap (λ z. 2 + n * suc (node_steps n z)) (sym one)

  module _ (q : ℕ) (k : declared_exit.Exit) (is : g ≡ Catch q k a) where
    pub catch_shown : node_view g ≡ graph.catch q (exit_view k) (node_view x)
    catch_shown = ap node_view is ∙ catch_view q k a ∙ ap (λ z. graph.catch q (exit_view k) (node_view z)) (sym one)

    pub catch_taken : (n : ℕ) → node_steps n g ≡ 2 + node_steps n x
    catch_taken n = ap (node_steps n) is ∙ catch_steps n q k a ∙ ap (λ z. 2 + node_steps n z) (sym one)

no_element : {X : Type 0} (u : X) → Contains [] u → ⊥
no_element u h = let below : h.0 < 0 = h.1 in omega arith

one_element : {X : Type 0} (v u : X) → Contains (v ∷ []) u → u ≡ v
one_element v u (zero, below, is) = sym is
one_element v u (suc k, below, is) = absurd (omega arith)

pub in_both : {X : Type 0} (P Q : X → Type 0) (xs ys : List X) (u : X) → (Contains xs u → P u) → (Contains ys u → Q u) → Contains (xs ++ ys) u → P u ⊎ Q u
in_both P Q xs ys u p q h = elim (Contains-append_cases xs ys u h) [ inl x ↦ inl (p x) | inr y ↦ inr (q y) ]

module _ {V H : Type 0} (m : Abstraction V H) where
  -- without a jump
  pub going_on_fits : (g : graph.Node) (n : ℕ) (xs : List (PassEntry V)) (v : V) (f : Option ℕ) → JumpsFit m g n (goes_on xs v f)
  going_on_fits g n xs v f = fits
    where
      fits : (k : Exit) (u : V) → Contains (jumps_of k (goes_on xs v f)) u → JumpsWith g n k (m.dims u)
      fits broken u h = absurd (no_element u h)
      fits continued u h = absurd (no_element u h)
      fits returned u h = absurd (no_element u h)

  -- one after the other
  pub seq_fits : (a b : graph.Node) (n : ℕ) (s t r : PassResult V) (v : V) (f : Option ℕ) → r ≡ in_turn s t v f → JumpsFit m a n s → JumpsFit m b (live_after a n) t → JumpsFit m (graph.seq a b) n r
  seq_fits a b n s t r v f is one two = subst (λ (x : PassResult V). JumpsFit m (graph.seq a b) n x) (sym is) fits
    where
      fits : (k : Exit) (u : V) → Contains (jumps_of k (in_turn s t v f)) u → JumpsWith (graph.seq a b) n k (m.dims u)
      fits broken u h = in_both (λ x. JumpsWith a n broken (m.dims x)) (λ x. JumpsWith b (live_after a n) broken (m.dims x)) s.breaks t.breaks u (one broken u) (two broken u) h
      fits continued u h = in_both (λ x. JumpsWith a n continued (m.dims x)) (λ x. JumpsWith b (live_after a n) continued (m.dims x)) s.continues t.continues u (one continued u) (two continued u) h
      fits returned u h = in_both (λ x. JumpsWith a n returned (m.dims x)) (λ x. JumpsWith b (live_after a n) returned (m.dims x)) s.returns t.returns u (one returned u) (two returned u) h

  pub choose_fits : (q base : ℕ) (c : Cond) (a b : graph.Node) (n : ℕ) (s t r : PassResult V) (v : V) (f : Option ℕ) → r ≡ in_turn s t v f → JumpsFit m a n s → JumpsFit m b n t
      → JumpsFit m (graph.choose q base c a b) n r
  choose_fits q base c a b n s t r v f is one two = subst (λ (x : PassResult V). JumpsFit m (graph.choose q base c a b) n x) (sym is) fits
    where
      fits : (k : Exit) (u : V) → Contains (jumps_of k (in_turn s t v f)) u → JumpsWith (graph.choose q base c a b) n k (m.dims u)
      fits broken u h = in_both (λ x. JumpsWith a n broken (m.dims x)) (λ x. JumpsWith b n broken (m.dims x)) s.breaks t.breaks u (one broken u) (two broken u) h
      fits continued u h = in_both (λ x. JumpsWith a n continued (m.dims x)) (λ x. JumpsWith b n continued (m.dims x)) s.continues t.continues u (one continued u) (two continued u) h
      fits returned u h = in_both (λ x. JumpsWith a n returned (m.dims x)) (λ x. JumpsWith b n returned (m.dims x)) s.returns t.returns u (one returned u) (two returned u) h

  -- the jumps of another result
  pub same_jumps_fit : (g : graph.Node) (n : ℕ) (s r : PassResult V) → r.breaks ≡ s.breaks → r.continues ≡ s.continues → r.returns ≡ s.returns → JumpsFit m g n s → JumpsFit m g n r
  same_jumps_fit g n s r breaks continues returns inner = fits
    where
      fits : (k : Exit) (u : V) → Contains (jumps_of k r) u → JumpsWith g n k (m.dims u)
      fits broken u h = inner broken u (subst (λ (vs : List V). Contains vs u) breaks h)
      fits continued u h = inner continued u (subst (λ (vs : List V). Contains vs u) continues h)
      fits returned u h = inner returned u (subst (λ (vs : List V). Contains vs u) returns h)

  -- after a catch
  behind_fits : (q : ℕ) (j : Exit) (a : graph.Node) (n : ℕ) (s : PassResult V) (w : V) (f : Option ℕ) → JumpsFit m a n s → (k : Exit) (u : V) → Contains (jumps_of k (jumps_caught j s w f)) u
      → JumpsWith (graph.catch q j a) n k (m.dims u)
  behind_fits q broken a n s w f inner broken u h = absurd (no_element u h)
  behind_fits q broken a n s w f inner continued u h = (λ e. cc, inner continued u h)
  behind_fits q broken a n s w f inner returned u h = (λ e. cc, inner returned u h)
  behind_fits q continued a n s w f inner broken u h = (λ e. cc, inner broken u h)
  behind_fits q continued a n s w f inner continued u h = absurd (no_element u h)
  behind_fits q continued a n s w f inner returned u h = (λ e. cc, inner returned u h)
  behind_fits q returned a n s w f inner broken u h = (λ e. cc, inner broken u h)
  behind_fits q returned a n s w f inner continued u h = (λ e. cc, inner continued u h)
  behind_fits q returned a n s w f inner returned u h = absurd (no_element u h)

  pub catch_fits : (q : ℕ) (j : Exit) (a : graph.Node) (n : ℕ) (s r : PassResult V) → JumpsFit m a n s → Catches m q j s r → JumpsFit m (graph.catch q j a) n r
  catch_fits q j a n s r inner (w, e, joined, is) = subst (λ (x : PassResult V). JumpsFit m (graph.catch q j a) n x) (sym is) (behind_fits q j a n s w (noted q e s.flag) inner)

  -- a jump
  leave_fits : (l : ℕ) (j : Exit) (n : ℕ) (v w : V) (f : Option ℕ) → m.dims v ≡ n → (k : Exit) (u : V) → Contains (jumps_of k (jumps j v w f)) u → JumpsWith (graph.leave l j) n k (m.dims u)
  leave_fits l broken n v w f is broken u h = (refl, ap m.dims (one_element v u h) ∙ is)
  leave_fits l broken n v w f is continued u h = absurd (no_element u h)
  leave_fits l broken n v w f is returned u h = absurd (no_element u h)
  leave_fits l continued n v w f is broken u h = absurd (no_element u h)
  leave_fits l continued n v w f is continued u h = (refl, ap m.dims (one_element v u h) ∙ is)
  leave_fits l continued n v w f is returned u h = absurd (no_element u h)
  leave_fits l returned n v w f is broken u h = absurd (no_element u h)
  leave_fits l returned n v w f is continued u h = absurd (no_element u h)
  leave_fits l returned n v w f is returned u h = (refl, ap m.dims (one_element v u h) ∙ is)

  pub jump_fits : (l : ℕ) (j : Exit) (v w : V) (f : Option ℕ) (r : PassResult V) → r ≡ jumps j v w f → JumpsFit m (graph.leave l j) (m.dims v) r
  jump_fits l j v w f r is = subst (λ (x : PassResult V). JumpsFit m (graph.leave l j) (m.dims v) x) (sym is) (leave_fits l j (m.dims v) v w f refl)

  pub jump_normal : (k : Exit) (v w : V) (f : Option ℕ) → (jumps k v w f).normal ≡ w
  jump_normal broken v w f = refl
  jump_normal continued v w f = refl
  jump_normal returned v w f = refl

  pub jump_dims : (l : ℕ) (j : Exit) (v w : V) (f : Option ℕ) (r : PassResult V) → r ≡ jumps j v w f → m.dims w ≡ l → m.dims r.normal ≡ l
  jump_dims l j v w f r is dims = ap (λ (x : PassResult V). m.dims x.normal) is ∙ ap m.dims (jump_normal j v w f) ∙ dims

  -- what comes out has as many dimensions as the others
  all_have : (n : ℕ) (vs : List V) → ((u : V) → Contains vs u → m.dims u ≡ n) → AllHave m n vs
  all_have n [] h = tt
  all_have n (v ∷ vs) h = (h v (0, omega arith, refl), all_have n vs (λ u i. h u (suc i.0, omega (arith, i.1), i.2)))

  pub caught_have : (q : ℕ) (k : Exit) (a : graph.Node) (n : ℕ) (s : PassResult V) → TreeFits (graph.catch q k a) n → JumpsFit m a n s → m.dims s.normal ≡ live_after a n
      → AllHave m (m.dims s.normal) (jumps_of k s)
  caught_have q k a n s fits jumps dims = all_have (m.dims s.normal) (jumps_of k s) (λ u h. fits.1 (m.dims u) (jumps k u h) ∙ sym dims)

module _ {V H : Type 0} (o : Interference V) (m : Abstraction V H) (set : Plan) where
  -- after a catch
  pub catch_passes : (q : ℕ) (j : Exit) (a : graph.Node) (f : Option ℕ) (v : V) (s r : PassResult V) → LossyPass o m set a f v s → Catches m q j s r
      → LossyPass o m set (graph.catch q j a) f v r
  catch_passes q j a f v s r pass (w, e, joined, is) = (w, e, s, pass, joined, is)

  -- a loop
  pub loop_passed : (q base : ℕ) (c : Cond) (a : graph.Node) (f : Option ℕ) (first u top : V) (s t r : PassResult V)
      → HasGrown o m set q base c a first f u s →
      DescendingIteration V H (lossy_operations m) q base c (LossyPass o m set a) set.narrow first u s top (headed q top t)
      → LeavesWith m q base c top t r
      → m.dims top ≡ m.dims first → m.dims r.normal ≡ m.dims top → JumpsFit m a (m.dims first) t → IsPassed o m set (graph.iterate q base c a) f first r
  loop_passed q base c a f first u top s t r (h, later, started, grows) narrows (out, e, leaves, is) dims left inner = record {
    pass = (h, later, u, top, out, s, headed q top t, e, started, grows, narrows, leaves, is);
    dims = left ∙ dims;
    jumps = subst (λ (x : PassResult V). JumpsFit m (graph.iterate q base c a) (m.dims first) x) (sym is)
        (same_jumps_fit m (graph.iterate q base c a) (m.dims first) t _ refl refl refl inner);
  }

  -- a choice
  pub choice_passed : (q base : ℕ) (c : Cond) (a b : graph.Node) (f : Option ℕ) (v on off : V) (d e : Exactness) (s t r : PassResult V)
      → Filters (lossy_operations m) base c true v d on → m.dims on ≡ m.dims v → IsPassed o m set a (noted q d f) on s
      → Filters (lossy_operations m) base c false v e off → m.dims off ≡ m.dims v → IsPassed o m set b (noted q e s.flag) off t
      → AreBranchesJoined m q s t r → m.dims r.normal ≡ m.dims s.normal → IsPassed o m set (graph.choose q base c a b) f v r
  choice_passed q base c a b f v on off d e s t r holds wide one fails wide' two (w, i, joined, is) left = record {
    pass = (on, off, w, d, e, i, s, t, holds, one.pass, fails, two.pass, joined, is);
    dims = left ∙ one.dims ∙ ap (live_after a) wide;
    jumps = choose_fits m q base c a b (m.dims v) s t r w (noted q i t.flag) is
        (subst (λ (n : ℕ). JumpsFit m a n s) wide one.jumps) (subst (λ (n : ℕ). JumpsFit m b n t) wide' two.jumps);
  }

  -- both ends have as many dimensions
  pub ends_meet : (q base : ℕ) (c : Cond) (a b : graph.Node) (f g : Option ℕ) (n : ℕ) (on off : V) (s t : PassResult V)
      → TreeFits (graph.choose q base c a b) n → m.dims on ≡ n
      → m.dims off ≡ n
      → IsPassed o m set a f on s → IsPassed o m set b g off t → m.dims s.normal ≡ m.dims t.normal
  ends_meet q base c a b f g n on off s t fits wide wide' one two =
      one.dims ∙ ap (live_after a) wide ∙ sym fits.2 ∙ ap (live_after b) (sym wide') ∙ sym two.dims

-- from both that hold of a result
pub if_both : {T E : Type 0} (R : outcome_or.Result T E) (P Q S : T → Type 0) → ((x : T) → P x → Q x → S x) → IfOk R P
    → IfOk R Q → IfOk R S
if_both (outcome_or.Ok x) P Q S f p q = f x p q
if_both (outcome_or.Err e) P Q S f p q = tt
