-- A tree that is gone along by a list of what is due: each step leaves less of it, and what is done is listed.
use Rattle.std.proofs.Common.{rules, Box, Vec, Global, ◌≡◌, ◌∙◌, ℕ, ◌+◌, ◌*◌, ◌<◌, List, [], ◌∷◌, ◌++◌, map, Option, None, true, refl, sym, ap, subst, append_assoc, arith}
use Rattle.std.proofs.{lemmas.List.append-nil, lemmas.List.Sums.sum_by-cons, lemmas.List.Sums.sum_by_push, lemmas.Result.IfOk-weaker, lemmas.Result.on_ok_weaker}
use Rattle.std.specs.Prelude as outcome
use Rattle.std.specs.{List.sum_by, Prelude.IfOk, Prelude.OnOk}
use Rattle.lra_operations_list.specs.Crates.lra_operations.CheckedOperations.{OpAtPoint, fresh_after, fresh_of}
use Rattle.lra_operations_list.specs.Crates.lra_operations.Sizes.{sizes, whole_size, arm_sizes, arms_tree_sizes}
use Rattle.lra_operations_list.specs.Crates.lra_operations.Tree.{Node, empty, point, act, check, seq, choose, iterate, catch, leave, select, Arms, no_arms, entry, arm}
use Rattle.lra_operations_list.specs.Crates.lra_operations.TreeViews.{exit_view, node_view, op_view, row, ArmPart, arm_view, arms_of}
use Rattle.lra_operations_list.specs.Crates.lra_operations.declared.tree.Node.{the_lemmas as node_lemmas}
use Rattle.lra_operations_list.specs.Crates.lra_program.ProgramViews.{cond_view, expr_view}
use Rattle.lra_operations_list.specs.Crates.{lra_base.declared.case_labels.CaseLabel.CaseLabel, lra_base.declared.number_types.NumberType.NumberType, lra_operations.declared.tree.Arm.Arm}
use Rattle.lra_operations_list.specs.Crates.{lra_operations.declared.tree.Arm.TheVariants.Entry, lra_operations.declared.tree.Arm.TheVariants.Tree, lra_program.Receivers.nobody}
use Rattle.lra_operations_list.specs.Crates.{lra_program.Step.store_value, lra_program.Step.test, lra_program.declared.program.Cond.Cond, lra_program.declared.program.Expr.Expr}
use Rattle.lra_operations_list.specs.Due.{due_view, due_before, all_due, apart_before, due_size, all_left, fresh_at, own_done, own_of, trees_of, IsOnWay, IsOpened}
use Rattle.lra_operations_list.specs.{TreeOperations.done_of, TreeOperations.done_in, TreeOperations.done_in_arms, declared.trees.Due.Due}
use Rattle.lra_operations_list.specs.Crates.lra_operations.declared.tree.Exit as declared_exit
use Rattle.lra_operations_list.specs.Crates.lra_operations.declared.tree.Node as declared
use Rattle.lra_operations_list.specs.Crates.lra_operations.declared.tree.Op as declared_op
use Rattle.lra_operations_list.specs.Crates.lra_operations.declared.tree.Node.TheVariants as at
use Rattle.lra_linearize.proofs.TreeViews.{act_view, catch_view, check_view, choose_view, empty_view, iterate_view, leave_view, point_view, select_view, seq_view}
use Rattle.lra_operations_list.proofs.Crates.lra_operations.ArmViews.{arms_first, entry_view, tree_view}

-- what is due ------------------------------------------------------------------------------------------------------------

before_push : (g : Node) (ds : List Due) (d : Due) → due_before g (ds ++ d ∷ []) ≡ seq (due_view d) (due_before g ds)
before_push g [] d = refl
before_push g (e ∷ ds) d = before_push (seq (due_view e) g) ds d

pub due_push : (ds es : List Due) (d : Due) → es ≡ ds ++ d ∷ [] → all_due es ≡ seq (due_view d) (all_due ds)
due_push ds es d e = ap all_due e ∙ before_push empty ds d

pub left_push : (ds es : List Due) (d : Due) → es ≡ ds ++ d ∷ [] → all_left es ≡ all_left ds + due_size d
left_push ds es d e = ap all_left e ∙ sum_by_push due_size ds d

-- the trees in a tree ------------------------------------------------------------------------------------------------------

-- what each does itself, and what is new after that
own_empty : (fresh : Option NumberType) → own_of fresh at.Empty ≡ ([], fresh)
own_empty fresh = search (rules, node_lemmas)

own_point : (q : ℕ) (fresh : Option NumberType) → own_of fresh (at.Point q) ≡ ([], None)
own_point q fresh = search (rules, node_lemmas)

own_act : (q : ℕ) (o : declared_op.Op) (fresh : Option NumberType) → own_of fresh (at.Act q o) ≡ (done_of q fresh (op_view o), fresh_of (op_view o))
own_act q o fresh = search (rules, node_lemmas)

own_check : (q base : ℕ) (c : Cond) (fresh : Option NumberType) → own_of fresh (at.Check q base c) ≡ (done_of q None (test base (cond_view c) true), None)
own_check q base c fresh = search (rules, node_lemmas)

own_seq : (gs : Vec declared.Node Global) (b : Box declared.Node Global) (fresh : Option NumberType) → own_of fresh (at.Seq gs b) ≡ ([], fresh)
own_seq gs b fresh = search (rules, node_lemmas)

own_choose : (q base : ℕ) (c : Cond) (a b : Box declared.Node Global) (fresh : Option NumberType)
    → own_of fresh (at.Choose q base c a b) ≡ (done_of q None (test base (cond_view c) true), None)
own_choose q base c a b fresh = search (rules, node_lemmas)

own_iterate : (q base : ℕ) (c : Cond) (a : Box declared.Node Global) (fresh : Option NumberType)
    → own_of fresh (at.Iterate q base c a) ≡ (done_of q None (test base (cond_view c) true), None)
own_iterate q base c a fresh = search (rules, node_lemmas)

own_catch : (q : ℕ) (k : declared_exit.Exit) (a : Box declared.Node Global) (fresh : Option NumberType) → own_of fresh (at.Catch q k a) ≡ ([], None)
own_catch q k a fresh = search (rules, node_lemmas)

own_leave : (n : ℕ) (k : declared_exit.Exit) (fresh : Option NumberType) → own_of fresh (at.Leave n k) ≡ ([], None)
own_leave n k fresh = search (rules, node_lemmas)

own_select : (q base : ℕ) (e : Expr) (arms : Vec Arm Global) (fresh : Option NumberType)
    → own_of fresh (at.Select q base e arms) ≡ (done_of q None (store_value base nobody (expr_view e)), None)
own_select q base e arms fresh = search (rules, node_lemmas)

module _ (fresh : Option NumberType) (n : declared.Node) where
  asks_as : (k : declared.Node) (xs : List OpAtPoint) (later : Option NumberType) → n ≡ k → own_of fresh k ≡ (xs, later) → own_done fresh n ≡ xs
  asks_as k xs later is own = ap (own_done fresh) is ∙ ap (λ (x : List OpAtPoint × Option NumberType). x.0) own

  pub asks_act : (q : ℕ) (o : declared_op.Op) → n ≡ at.Act q o → own_done fresh n ≡ done_of q fresh (op_view o)
  asks_act q o is = asks_as (at.Act q o) (done_of q fresh (op_view o)) (fresh_of (op_view o)) is (own_act q o fresh)

  pub asks_check : (q base : ℕ) (c : Cond) → n ≡ at.Check q base c → own_done fresh n ≡ done_of q None (test base (cond_view c) true)
  asks_check q base c is = asks_as (at.Check q base c) (done_of q None (test base (cond_view c) true)) None is (own_check q base c fresh)

  pub asks_choose : (q base : ℕ) (c : Cond) (a b : Box declared.Node Global) → n ≡ at.Choose q base c a b
      → own_done fresh n ≡ done_of q None (test base (cond_view c) true)
  asks_choose q base c a b is = asks_as (at.Choose q base c a b) (done_of q None (test base (cond_view c) true)) None is (own_choose q base c a b fresh)

  pub asks_iterate : (q base : ℕ) (c : Cond) (a : Box declared.Node Global) → n ≡ at.Iterate q base c a
      → own_done fresh n ≡ done_of q None (test base (cond_view c) true)
  asks_iterate q base c a is = asks_as (at.Iterate q base c a) (done_of q None (test base (cond_view c) true)) None is (own_iterate q base c a fresh)

  pub asks_select : (q base : ℕ) (e : Expr) (arms : Vec Arm Global) → n ≡ at.Select q base e arms
      → own_done fresh n ≡ done_of q None (store_value base nobody (expr_view e))
  asks_select q base e arms is =
      asks_as (at.Select q base e arms) (done_of q None (store_value base nobody (expr_view e))) None is (own_select q base e arms fresh)

  pub empty_asks : n ≡ at.Empty → own_done fresh n ≡ []
  empty_asks is = asks_as at.Empty [] fresh is (own_empty fresh)

  pub point_asks : (q : ℕ) → n ≡ at.Point q → own_done fresh n ≡ []
  point_asks q is = asks_as (at.Point q) [] None is (own_point q fresh)

  pub seq_asks : (gs : Vec declared.Node Global) (b : Box declared.Node Global) → n ≡ at.Seq gs b → own_done fresh n ≡ []
  seq_asks gs b is = asks_as (at.Seq gs b) [] fresh is (own_seq gs b fresh)

  pub catch_asks : (q : ℕ) (k : declared_exit.Exit) (a : Box declared.Node Global) → n ≡ at.Catch q k a → own_done fresh n ≡ []
  catch_asks q k a is = asks_as (at.Catch q k a) [] None is (own_catch q k a fresh)

  pub leave_asks : (m : ℕ) (k : declared_exit.Exit) → n ≡ at.Leave m k → own_done fresh n ≡ []
  leave_asks m k is = asks_as (at.Leave m k) [] None is (own_leave m k fresh)

  -- and then
  new_as : (k : declared.Node) (xs : List OpAtPoint) (later : Option NumberType) → n ≡ k → own_of fresh k ≡ (xs, later) → later ≡ fresh_at fresh n
  new_as k xs later is own = sym (ap (fresh_at fresh) is ∙ ap (λ (x : List OpAtPoint × Option NumberType). x.1) own)

  pub empty_new : n ≡ at.Empty → fresh ≡ fresh_at fresh n
  empty_new is = new_as at.Empty [] fresh is (own_empty fresh)

  pub seq_new : (gs : Vec declared.Node Global) (b : Box declared.Node Global) → n ≡ at.Seq gs b → fresh ≡ fresh_at fresh n
  seq_new gs b is = new_as (at.Seq gs b) [] fresh is (own_seq gs b fresh)

  pub act_new : (q : ℕ) (o : declared_op.Op) → n ≡ at.Act q o → fresh_of (op_view o) ≡ fresh_at fresh n
  act_new q o is = new_as (at.Act q o) (done_of q fresh (op_view o)) (fresh_of (op_view o)) is (own_act q o fresh)

  pub point_new : (q : ℕ) → n ≡ at.Point q → None ≡ fresh_at fresh n
  point_new q is = new_as (at.Point q) [] None is (own_point q fresh)

  pub check_new : (q base : ℕ) (c : Cond) → n ≡ at.Check q base c → None ≡ fresh_at fresh n
  check_new q base c is = new_as (at.Check q base c) (done_of q None (test base (cond_view c) true)) None is (own_check q base c fresh)

  pub choose_new : (q base : ℕ) (c : Cond) (a b : Box declared.Node Global) → n ≡ at.Choose q base c a b → None ≡ fresh_at fresh n
  choose_new q base c a b is = new_as (at.Choose q base c a b) (done_of q None (test base (cond_view c) true)) None is (own_choose q base c a b fresh)

  pub iterate_new : (q base : ℕ) (c : Cond) (a : Box declared.Node Global) → n ≡ at.Iterate q base c a → None ≡ fresh_at fresh n
  iterate_new q base c a is = new_as (at.Iterate q base c a) (done_of q None (test base (cond_view c) true)) None is (own_iterate q base c a fresh)

  pub catch_new : (q : ℕ) (k : declared_exit.Exit) (a : Box declared.Node Global) → n ≡ at.Catch q k a → None ≡ fresh_at fresh n
  catch_new q k a is = new_as (at.Catch q k a) [] None is (own_catch q k a fresh)

  pub leave_new : (m : ℕ) (k : declared_exit.Exit) → n ≡ at.Leave m k → None ≡ fresh_at fresh n
  leave_new m k is = new_as (at.Leave m k) [] None is (own_leave m k fresh)

  pub select_new : (q base : ℕ) (e : Expr) (arms : Vec Arm Global) → n ≡ at.Select q base e arms → None ≡ fresh_at fresh n
  select_new q base e arms is =
      new_as (at.Select q base e arms) (done_of q None (store_value base nobody (expr_view e))) None is (own_select q base e arms fresh)

-- the trees in arms ask what the arms ask
done_arms : (fresh : Option NumberType) (arms : Arms) → done_in fresh (trees_of arms) ≡ done_in_arms fresh arms
done_arms fresh no_arms = refl
done_arms fresh (entry l arms) = done_arms fresh arms
done_arms fresh (arm a arms) = ap (λ (xs : List OpAtPoint). done_in fresh a ++ xs) (done_arms (fresh_after fresh a) arms)

-- after it the others are due
opens : (n : declared.Node) (g : Node) (own : Option NumberType → List OpAtPoint × Option NumberType) (old new : List Due) → node_view n ≡ g
    → ((fresh : Option NumberType) → own_of fresh n ≡ own fresh)
    → ((fresh : Option NumberType) → done_in fresh (seq g (all_due old)) ≡ (own fresh).0 ++ done_in (own fresh).1 (all_due new)) → IsOpened n old new
opens n g own old new seen is asks = λ fresh.
    ap (λ (h : Node). done_in fresh (seq h (all_due old))) seen ∙ asks fresh
    ∙ sym (ap (λ (x : List OpAtPoint × Option NumberType). x.0 ++ done_in x.1 (all_due new)) (is fresh))

module _ (old : List Due) where
  empty_opened : IsOpened at.Empty old old
  empty_opened = opens at.Empty empty (λ fresh. ([], fresh)) old old empty_view own_empty (λ fresh. refl)

  point_opened : (q : ℕ) → IsOpened (at.Point q) old old
  point_opened q = opens (at.Point q) (point q) (λ fresh. ([], None)) old old (point_view q) (own_point q) (λ fresh. refl)

  act_opened : (q : ℕ) (o : declared_op.Op) → IsOpened (at.Act q o) old old
  act_opened q o = opens (at.Act q o) (act q (op_view o)) (λ fresh. (done_of q fresh (op_view o), fresh_of (op_view o))) old old (act_view q o) (own_act q o)
      (λ fresh. refl)

  check_opened : (q base : ℕ) (c : Cond) → IsOpened (at.Check q base c) old old
  check_opened q base c = opens (at.Check q base c) (check q base (cond_view c)) (λ fresh. (done_of q None (test base (cond_view c) true), None)) old old
      (check_view q base c) (own_check q base c) (λ fresh. refl)

  leave_opened : (n : ℕ) (k : declared_exit.Exit) → IsOpened (at.Leave n k) old old
  leave_opened n k = opens (at.Leave n k) (leave n (exit_view k)) (λ fresh. ([], None)) old old (leave_view n k) (own_leave n k) (λ fresh. refl)

  module _ (new : List Due) where
    seq_opened : (gs : Vec declared.Node Global) (b : Box declared.Node Global)
        → all_due new ≡ seq (row (map node_view gs.items) (node_view b.value)) (all_due old)
        → IsOpened (at.Seq gs b) old new
    seq_opened gs b e = opens (at.Seq gs b) (row (map node_view gs.items) (node_view b.value)) (λ fresh. ([], fresh)) old new (seq_view gs b) (own_seq gs b)
        (λ fresh. ap (done_in fresh) (sym e))

    choose_opened : (q base : ℕ) (c : Cond) (a b : Box declared.Node Global)
        → all_due new ≡ apart_before (node_view a.value) (apart_before (node_view b.value) (all_due old)) → IsOpened (at.Choose q base c a b) old new
    choose_opened q base c a b e =
        let own = done_of q None (test base (cond_view c) true) in
        opens (at.Choose q base c a b) (choose q base (cond_view c) (node_view a.value) (node_view b.value)) (λ fresh. (own, None)) old new
        (choose_view q base c a b) (own_choose q base c a b)
        (λ fresh. append_assoc (own ++ done_in None (node_view a.value)) (done_in None (node_view b.value)) (done_in None (all_due old))
        ∙ append_assoc own (done_in None (node_view a.value)) (done_in None (node_view b.value) ++ done_in None (all_due old))
        ∙ ap (λ (h : Node). own ++ done_in None h) (sym e))

    iterate_opened : (q base : ℕ) (c : Cond) (a : Box declared.Node Global) → all_due new ≡ apart_before (node_view a.value) (all_due old)
        → IsOpened (at.Iterate q base c a) old new
    iterate_opened q base c a e =
        let own = done_of q None (test base (cond_view c) true) in
        opens (at.Iterate q base c a) (iterate q base (cond_view c) (node_view a.value)) (λ fresh. (own, None)) old new
        (iterate_view q base c a) (own_iterate q base c a)
        (λ fresh. append_assoc own (done_in None (node_view a.value)) (done_in None (all_due old)) ∙ ap (λ (h : Node). own ++ done_in None h) (sym e))

    catch_opened : (q : ℕ) (k : declared_exit.Exit) (a : Box declared.Node Global) → all_due new ≡ apart_before (node_view a.value) (all_due old)
        → IsOpened (at.Catch q k a) old new
    catch_opened q k a e = opens (at.Catch q k a) (catch q (exit_view k) (node_view a.value)) (λ fresh. ([], None)) old new (catch_view q k a) (own_catch q k a)
        (λ fresh. ap (done_in None) (sym e))

    select_opened : (q base : ℕ) (e : Expr) (arms : Vec Arm Global) → all_due new ≡ apart_before (trees_of (arms_of (map arm_view arms.items))) (all_due old)
        → IsOpened (at.Select q base e arms) old new
    select_opened q base e arms is =
        let own = done_of q None (store_value base nobody (expr_view e)) in
        let all = arms_of (map arm_view arms.items) in
        opens (at.Select q base e arms) (select q base (expr_view e) all) (λ fresh. (own, None)) old new (select_view q base e arms) (own_select q base e arms)
        (λ fresh. append_assoc own (done_in_arms None all) (done_in None (all_due old))
        ∙ ap (λ (xs : List OpAtPoint). own ++ (xs ++ done_in None (all_due old))) (sym (done_arms None all))
        ∙ ap (λ (h : Node). own ++ done_in None h) (sym is))

-- the way ----------------------------------------------------------------------------------------------------------------

-- a row's first tree, and then the others, which are due after it
pub row_asks : (fresh : Option NumberType) (v r h : Node) (ts xs : List declared.Node) (x l : declared.Node) → v ≡ row (map node_view ts) (node_view l)
    → ts ≡ x ∷ xs
    → h ≡ seq (row (map node_view xs) (node_view l)) r → done_in fresh (seq v r) ≡ done_in fresh (seq (node_view x) h)
row_asks fresh v r h ts xs x l view is due =
    let f = node_view x in
    let g = row (map node_view xs) (node_view l) in
    let seen : v ≡ seq f g = view ∙ ap (λ (ys : List declared.Node). row (map node_view ys) (node_view l)) is in
    ap (λ (w : Node). done_in fresh (seq w r)) seen
    ∙ append_assoc (done_in fresh f) (done_in (fresh_after fresh f) g) (done_in (fresh_after (fresh_after fresh f) g) r)
    ∙ ap (λ (w : Node). done_in fresh (seq f w)) (sym due)

pub last_asks : (fresh : Option NumberType) (v r : Node) (ts : List declared.Node) (l : declared.Node) → v ≡ row (map node_view ts) (node_view l) → ts ≡ []
    → done_in fresh (seq v r) ≡ done_in fresh (seq (node_view l) r)
last_asks fresh v r ts l view is =
    ap (λ (w : Node). done_in fresh (seq w r)) (view ∙ ap (λ (ys : List declared.Node). row (map node_view ys) (node_view l)) is)

-- arms: the first of them
pub no_arms_ask : (fresh : Option NumberType) (r : Node) (arms : List Arm) → arms ≡ []
    → done_in fresh (seq (trees_of (arms_of (map arm_view arms))) r) ≡ done_in fresh r
no_arms_ask fresh r arms is = ap (λ (xs : List Arm). done_in fresh (seq (trees_of (arms_of (map arm_view xs))) r)) is

pub entry_asks : (fresh : Option NumberType) (r h : Node) (arms behind : List Arm) (a : Arm) (l : CaseLabel) → arms ≡ a ∷ behind → a ≡ Entry l
    → h ≡ seq (trees_of (arms_of (map arm_view behind))) r → done_in fresh (seq (trees_of (arms_of (map arm_view arms))) r) ≡ done_in fresh h
entry_asks fresh r h arms behind a l is entry_is due =
    let all = arms_of (map arm_view behind) in
    let seen : arms_of (map arm_view arms) ≡ entry l all =
    arms_first arms behind a is ∙ ap (λ (x : Arm). arm_view x all) entry_is ∙ ap (λ (f : ArmPart). f all) (entry_view l) in
    ap (λ (x : Arms). done_in fresh (seq (trees_of x) r)) seen ∙ ap (done_in fresh) (sym due)

pub tree_asks : (fresh : Option NumberType) (r h : Node) (arms behind : List Arm) (a : Arm) (n : declared.Node) → arms ≡ a ∷ behind → a ≡ Tree n
    → h ≡ seq (trees_of (arms_of (map arm_view behind))) r → done_in fresh (seq (trees_of (arms_of (map arm_view arms))) r) ≡ done_in fresh
    (seq (node_view n) h)
tree_asks fresh r h arms behind a n is tree_is due =
    let all = arms_of (map arm_view behind) in
    let f = node_view n in
    let g = trees_of all in
    let seen : arms_of (map arm_view arms) ≡ arm f all =
    arms_first arms behind a is ∙ ap (λ (x : Arm). arm_view x all) tree_is ∙ ap (λ (p : ArmPart). p all) (tree_view n) in
    ap (λ (x : Arms). done_in fresh (seq (trees_of x) r)) seen
    ∙ append_assoc (done_in fresh f) (done_in (fresh_after fresh f) g) (done_in (fresh_after (fresh_after fresh f) g) r)
    ∙ ap (λ (w : Node). done_in fresh (seq f w)) (sym due)

pub way_by : (n : declared.Node) (fresh later : Option NumberType) (old new : List Due) (t u : List OpAtPoint) → IsOpened n old new
    → later ≡ fresh_at fresh n → u ≡ t ++ own_done fresh n → IsOnWay fresh (seq (node_view n) (all_due old)) later (all_due new) t u
way_by n fresh later old new t u opened behind listed = record {
  done = own_done fresh n;
  is = opened fresh ∙ ap (λ (k : Option NumberType). own_done fresh n ++ done_in k (all_due new)) (sym behind);
  listed = listed;
}

-- what is done, stated differently
pub listed_as : {T E : Type 0} (r : outcome.Result T E) (xs ys t u : List OpAtPoint) → xs ≡ ys → OnOk r (u ≡ t ++ ys) → OnOk r (u ≡ t ++ xs)
listed_as r xs ys t u e h = subst (λ (zs : List OpAtPoint). OnOk r (u ≡ t ++ zs)) (sym e) h

pub lists_none : (t xs : List OpAtPoint) → xs ≡ [] → t ≡ t ++ xs
lists_none t xs e = sym (append-nil t) ∙ ap (λ (zs : List OpAtPoint). t ++ zs) (sym e)

-- the same is done
way_as : (fresh later : Option NumberType) (f g h : Node) (t u : List OpAtPoint) → done_in fresh f ≡ done_in fresh g → IsOnWay fresh g later h t u
    → IsOnWay fresh f later h t u
way_as fresh later f g h t u e way = record { done = way.done; is = e ∙ way.is; listed = way.listed }

pub way_if : {E : Type 0} (r : outcome.Result (Option NumberType) E) (fresh : Option NumberType) (f g h : Node) (t u : List OpAtPoint)
    → done_in fresh f ≡ done_in fresh g → IfOk r (λ later. IsOnWay fresh g later h t u) → IfOk r (λ later. IsOnWay fresh f later h t u)
way_if r fresh f g h t u e way = IfOk-weaker r (λ later. IsOnWay fresh g later h t u) (λ later. IsOnWay fresh f later h t u)
    (λ later. way_as fresh later f g h t u e) way

pub apart_way : (fresh : Option NumberType) (v h : Node) (t : List OpAtPoint) → v ≡ point 0 → IsOnWay fresh (seq v h) None h t t
apart_way fresh v h t e = record { done = []; is = ap (λ (w : Node). done_in fresh (seq w h)) e; listed = sym (append-nil t) }

-- nothing is done at a label
pub same_way : (fresh : Option NumberType) (f h : Node) (t : List OpAtPoint) → done_in fresh f ≡ done_in fresh h → IsOnWay fresh f fresh h t t
same_way fresh f h t e = record { done = []; is = e; listed = sym (append-nil t) }

-- the whole is due
pub way_first : (g : Node) (ds es : List Due) (d : Due) (t : List OpAtPoint) → es ≡ ds ++ d ∷ [] → ds ≡ [] → due_view d ≡ g
    → IsOnWay None g None (all_due es) t t
way_first g ds es d t e none is = record {
  done = [];
  is = sym (append-nil (done_in None g)) ∙ ap (λ (h : Node). done_in None (seq h empty)) (sym is)
      ∙ ap (done_in None) (sym (due_push ds es d e ∙ ap (λ (fs : List Due). seq (due_view d) (all_due fs)) none));
  listed = sym (append-nil t);
}

-- a step of what is next is one of the whole
pub next_way : (g : Node) (ds es : List Due) (d : Due) (t u : List OpAtPoint) (fresh : Option NumberType) → es ≡ ds ++ d ∷ []
    → IsOnWay None g fresh (all_due es) t u → (later : Option NumberType) (fs : List Due) (w : List OpAtPoint)
    → IsOnWay fresh (seq (due_view d) (all_due ds)) later (all_due fs) u w → IsOnWay None g later (all_due fs) t w
next_way g ds es d t u fresh next way later fs w step = record {
  done = way.done ++ step.done;
  is = way.is ∙ ap (λ (h : Node). way.done ++ done_in fresh h) (due_push ds es d next) ∙ ap (λ (xs : List OpAtPoint). way.done ++ xs) step.is
      ∙ sym (append_assoc way.done step.done (done_in later (all_due fs)));
  listed = step.listed ∙ ap (λ (xs : List OpAtPoint). xs ++ step.done) way.listed ∙ append_assoc t way.done step.done;
}

-- at the end the whole is done
pub way_whole : (g : Node) (es : List Due) (later : Option NumberType) (t u : List OpAtPoint) → es ≡ [] → t ≡ [] → IsOnWay None g later (all_due es) t u
    → u ≡ done_in None g
way_whole g es later t u e none way = way.listed ∙ ap (λ (xs : List OpAtPoint). xs ++ way.done) none ∙
    sym (way.is ∙ ap (λ (ds : List Due). way.done ++ done_in later (all_due ds)) e ∙ append-nil way.done)

-- sizes ------------------------------------------------------------------------------------------------------------------

whole_of_seq : (gs : Vec declared.Node Global) (b : Box declared.Node Global)
    → whole_size (at.Seq gs b) ≡ 2 + (sum_by (λ (g : ℕ × ℕ). g.0) (map sizes gs.items) + whole_size b.value)
whole_of_seq gs b = search (rules, node_lemmas)

sums : (gs : List declared.Node) → sum_by (λ (g : ℕ × ℕ). g.0) (map sizes gs) ≡ sum_by whole_size gs
sums [] = refl
sums (g ∷ gs) =
    sum_by-cons (λ (x : ℕ × ℕ). x.0) (sizes g) (map sizes gs) ∙ ap (λ (n : ℕ). whole_size g + n) (sums gs) ∙ sym (sum_by-cons whole_size g gs)

seq_size : (gs : Vec declared.Node Global) (b : Box declared.Node Global) → whole_size (at.Seq gs b) ≡ 2 + (sum_by whole_size gs.items + whole_size b.value)
seq_size gs b = whole_of_seq gs b ∙ ap (λ (n : ℕ). 2 + (n + whole_size b.value)) (sums gs.items)

choose_size : (q base : ℕ) (c : Cond) (a b : Box declared.Node Global) → whole_size (at.Choose q base c a b) ≡ 2 + (whole_size a.value + whole_size b.value)
choose_size q base c a b = search (rules, node_lemmas)

iterate_size : (q base : ℕ) (c : Cond) (a : Box declared.Node Global) → whole_size (at.Iterate q base c a) ≡ 2 + whole_size a.value
iterate_size q base c a = search (rules, node_lemmas)

catch_size : (q : ℕ) (k : declared_exit.Exit) (a : Box declared.Node Global) → whole_size (at.Catch q k a) ≡ 2 + whole_size a.value
catch_size q k a = search (rules, node_lemmas)

select_size : (q base : ℕ) (e : Expr) (arms : Vec Arm Global) → whole_size (at.Select q base e arms) ≡ 2 + arms_tree_sizes (map arm_sizes arms.items)
select_size q base e arms = search (rules, node_lemmas)

tree_arm_size : (n : declared.Node) → arm_sizes (Tree n) ≡ sizes n
tree_arm_size n = search (rules, node_lemmas)

-- a tree with none in it
empty_size : whole_size at.Empty ≡ 1
empty_size = search (rules, node_lemmas)

point_size : (q : ℕ) → whole_size (at.Point q) ≡ 1
point_size q = search (rules, node_lemmas)

act_size : (q : ℕ) (o : declared_op.Op) → whole_size (at.Act q o) ≡ 1
act_size q o = search (rules, node_lemmas)

check_size : (q base : ℕ) (c : Cond) → whole_size (at.Check q base c) ≡ 1
check_size q base c = search (rules, node_lemmas)

leave_size : (n : ℕ) (k : declared_exit.Exit) → whole_size (at.Leave n k) ≡ 1
leave_size n k = search (rules, node_lemmas)

leaf_falls : (n k : declared.Node) (a : ℕ) → n ≡ k → whole_size k ≡ 1 → a < a + 2 * whole_size n
leaf_falls n k a is size = let one : whole_size n ≡ 1 = ap whole_size is ∙ size in omega (arith, one)

pub both_left : {T E : Type 0} (r : outcome.Result T E) (left between new x y : ℕ) → between ≡ left + 1 + 2 * y → OnOk r (new ≡ between + 1 + 2 * x)
    → OnOk r (new ≡ left + 2 + 2 * (x + y))
both_left r left between new x y e h = on_ok_weaker {P = new ≡ between + 1 + 2 * x} {Q = new ≡ left + 2 + 2 * (x + y)} r (sum e) h
  where
    sum : between ≡ left + 1 + 2 * y → new ≡ between + 1 + 2 * x → new ≡ left + 2 + 2 * (x + y)
    sum e d = omega (arith, e, d)

-- in a step
pub apart_falls : (n size : ℕ) → size ≡ 1 → n < n + size
apart_falls n size e = omega (arith, e)

pub last_falls : {T E : Type 0} (r : outcome.Result T E) (new left size sum w : ℕ) → size ≡ 1 + (2 * sum + 2 * w) → OnOk r (new < left + 2 * w)
    → OnOk r (new < left + size)
last_falls r new left size sum w e h = on_ok_weaker {P = new < left + 2 * w} {Q = new < left + size} r (more e) h
  where
    more : size ≡ 1 + (2 * sum + 2 * w) → new < left + 2 * w → new < left + size
    more e less = omega (arith, e, less)

pub row_falls : {T E : Type 0} (r : outcome.Result T E) (new between left size w : ℕ) (ts xs : List declared.Node) (x : declared.Node)
    → size ≡ 1 + (2 * sum_by whole_size ts + 2 * w) → ts ≡ x ∷ xs → between ≡ left + 1 + 2 * (sum_by whole_size xs + w)
    → OnOk r (new < between + 2 * whole_size x) → OnOk r (new < left + size)
row_falls r new between left size w ts xs x e is d h =
    on_ok_weaker {P = new < between + 2 * whole_size x} {Q = new < left + size} r (more e (ap (sum_by whole_size) is ∙ sum_by-cons whole_size x xs) d) h
  where
    more : size ≡ 1 + (2 * sum_by whole_size ts + 2 * w) → sum_by whole_size ts ≡ whole_size x + sum_by whole_size xs
        → between ≡ left + 1 + 2 * (sum_by whole_size xs + w) → new < between + 2 * whole_size x → new < left + size
    more e sum d less = omega (arith, e, sum, d, less)

-- along arms
pub none_falls : (left : ℕ) (size : ℕ) → left < left + (1 + 2 * size)
none_falls left size = omega arith

pub entry_falls : (new left : ℕ) (arms behind : List Arm) (a : Arm) → arms ≡ a ∷ behind → new ≡ left + 1 + 2 * arms_tree_sizes (map arm_sizes behind)
    → new < left + (1 + 2 * arms_tree_sizes (map arm_sizes arms))
entry_falls new left arms behind a is e =
    let all = ap (λ (xs : List Arm). arms_tree_sizes (map arm_sizes xs)) is in
    omega (arith, all, e)

pub tree_falls : {T E : Type 0} (r : outcome.Result T E) (new between left : ℕ) (arms behind : List Arm) (a : Arm) (n : declared.Node) → arms ≡ a ∷ behind
    → a ≡ Tree n
    → between ≡ left + 1 + 2 * arms_tree_sizes (map arm_sizes behind) → OnOk r (new < between + 2 * whole_size n)
    → OnOk r (new < left + (1 + 2 * arms_tree_sizes (map arm_sizes arms)))
tree_falls r new between left arms behind a n is tree_is e h =
    let all = ap (λ (xs : List Arm). arms_tree_sizes (map arm_sizes xs)) is in
    let own = ap (λ (x : Arm). (arm_sizes x).0) tree_is ∙ ap (λ (p : ℕ × ℕ). p.0) (tree_arm_size n) in
    on_ok_weaker {P = new < between + 2 * whole_size n} {Q = new < left + (1 + 2 * arms_tree_sizes (map arm_sizes arms))} r
    (λ less. omega (arith, all, own, e, less)) h

-- arms, and after them a point
pub selection_due : {T E : Type 0} (r : outcome.Result T E) (old between new g : Node) → between ≡ seq (point 0) old → OnOk r (new ≡ seq g between)
    → OnOk r (new ≡ apart_before g old)
selection_due r old between new g e h = on_ok_weaker {P = new ≡ seq g between} {Q = new ≡ apart_before g old} r (λ is. is ∙ ap (seq g) e) h

pub selection_left : {T E : Type 0} (r : outcome.Result T E) (left between new size : ℕ) → between ≡ left + 1 → OnOk r (new ≡ between + 1 + 2 * size)
    → OnOk r (new ≡ left + 2 + 2 * size)
selection_left r left between new size e h = on_ok_weaker {P = new ≡ between + 1 + 2 * size} {Q = new ≡ left + 2 + 2 * size} r (λ is. omega (arith, e, is)) h

pub fewer_left : (ds es fs : List Due) (d : Due) → es ≡ ds ++ d ∷ [] → all_left fs < all_left ds + due_size d → all_left fs < all_left es
fewer_left ds es fs d e less = let sum = left_push ds es d e in omega (arith, sum, less)

-- ---- a tree that is opened, after calls that may fail
module _ {T E : Type 0} (r : outcome.Result T E) (n : declared.Node) (old new : List Due) where
  seen_opened : (k : declared.Node) (so : Type 0) → n ≡ k → (so → IsOpened k old new) → OnOk r so → OnOk r (IsOpened n old new)
  seen_opened k so is opened h = on_ok_weaker {P = so} {Q = IsOpened n old new} r (λ e. subst (λ (x : declared.Node). IsOpened x old new) (sym is) (opened e)) h

  seen_falls : (k : declared.Node) (size left : ℕ) → n ≡ k → whole_size k ≡ size → left < all_left old + 2 * size → OnOk r (all_left new ≡ left)
      → OnOk r (all_left new < all_left old + 2 * whole_size n)
  seen_falls k size left is whole less h = on_ok_weaker {P = all_left new ≡ left} {Q = all_left new < all_left old + 2 * whole_size n} r (falls is whole less) h
    where
      falls : n ≡ k → whole_size k ≡ size → left < all_left old + 2 * size → all_left new ≡ left → all_left new < all_left old + 2 * whole_size n
      falls is whole less e = let all : whole_size n ≡ size = ap whole_size is ∙ whole in omega (arith, all, less, e)

  module _ (gs : Vec declared.Node Global) (b : Box declared.Node Global) (is : n ≡ at.Seq gs b) where
    pub seq_opens : OnOk r (all_due new ≡ seq (row (map node_view gs.items) (node_view b.value)) (all_due old)) → OnOk r (IsOpened n old new)
    seq_opens = seen_opened (at.Seq gs b) _ is (seq_opened old new gs b)

    pub seq_falls : OnOk r (all_left new ≡ all_left old + 1 + 2 * (sum_by whole_size gs.items + whole_size b.value))
        → OnOk r (all_left new < all_left old + 2 * whole_size n)
    seq_falls = seen_falls (at.Seq gs b) (2 + (sum_by whole_size gs.items + whole_size b.value)) _ is (seq_size gs b) (omega arith)

  module _ (q base : ℕ) (c : Cond) (a b : Box declared.Node Global) (is : n ≡ at.Choose q base c a b) where
    pub choose_opens : OnOk r (all_due new ≡ apart_before (node_view a.value) (apart_before (node_view b.value) (all_due old))) → OnOk r (IsOpened n old new)
    choose_opens = seen_opened (at.Choose q base c a b) _ is (choose_opened old new q base c a b)

    pub choose_falls : OnOk r (all_left new ≡ all_left old + 2 + 2 * (whole_size a.value + whole_size b.value))
        → OnOk r (all_left new < all_left old + 2 * whole_size n)
    choose_falls = seen_falls (at.Choose q base c a b) (2 + (whole_size a.value + whole_size b.value)) _ is (choose_size q base c a b) (omega arith)

  module _ (q base : ℕ) (c : Cond) (a : Box declared.Node Global) (is : n ≡ at.Iterate q base c a) where
    pub iterate_opens : OnOk r (all_due new ≡ apart_before (node_view a.value) (all_due old)) → OnOk r (IsOpened n old new)
    iterate_opens = seen_opened (at.Iterate q base c a) _ is (iterate_opened old new q base c a)

    pub iterate_falls : OnOk r (all_left new ≡ all_left old + 1 + 2 * whole_size a.value) → OnOk r (all_left new < all_left old + 2 * whole_size n)
    iterate_falls = seen_falls (at.Iterate q base c a) (2 + whole_size a.value) _ is (iterate_size q base c a) (omega arith)

  module _ (q : ℕ) (k : declared_exit.Exit) (a : Box declared.Node Global) (is : n ≡ at.Catch q k a) where
    pub catch_opens : OnOk r (all_due new ≡ apart_before (node_view a.value) (all_due old)) → OnOk r (IsOpened n old new)
    catch_opens = seen_opened (at.Catch q k a) _ is (catch_opened old new q k a)

    pub catch_falls : OnOk r (all_left new ≡ all_left old + 1 + 2 * whole_size a.value) → OnOk r (all_left new < all_left old + 2 * whole_size n)
    catch_falls = seen_falls (at.Catch q k a) (2 + whole_size a.value) _ is (catch_size q k a) (omega arith)

  module _ (q base : ℕ) (e : Expr) (arms : Vec Arm Global) (is : n ≡ at.Select q base e arms) where
    pub select_opens : OnOk r (all_due new ≡ apart_before (trees_of (arms_of (map arm_view arms.items))) (all_due old)) → OnOk r (IsOpened n old new)
    select_opens = seen_opened (at.Select q base e arms) _ is (select_opened old new q base e arms)

    pub select_falls : OnOk r (all_left new ≡ all_left old + 2 + 2 * arms_tree_sizes (map arm_sizes arms.items))
        → OnOk r (all_left new < all_left old + 2 * whole_size n)
    select_falls = seen_falls (at.Select q base e arms) (2 + arms_tree_sizes (map arm_sizes arms.items)) _ is (select_size q base e arms) (omega arith)

-- a tree with none in it
module _ (n : declared.Node) (left : List Due) where
  abbrev pub Rests : Type 0
  Rests = IsOpened n left left × (all_left left < all_left left + 2 * whole_size n)

  leaf_rests : (k : declared.Node) → n ≡ k → IsOpened k left left → whole_size k ≡ 1 → Rests
  leaf_rests k is opened size = (subst (λ (x : declared.Node). IsOpened x left left) (sym is) opened, leaf_falls n k (all_left left) is size)

  pub empty_rests : n ≡ at.Empty → Rests
  empty_rests is = leaf_rests at.Empty is (empty_opened left) empty_size

  pub point_rests : (q : ℕ) → n ≡ at.Point q → Rests
  point_rests q is = leaf_rests (at.Point q) is (point_opened left q) (point_size q)

  pub act_rests : (q : ℕ) (o : declared_op.Op) → n ≡ at.Act q o → Rests
  act_rests q o is = leaf_rests (at.Act q o) is (act_opened left q o) (act_size q o)

  pub check_rests : (q base : ℕ) (c : Cond) → n ≡ at.Check q base c → Rests
  check_rests q base c is = leaf_rests (at.Check q base c) is (check_opened left q base c) (check_size q base c)

  pub leave_rests : (m : ℕ) (k : declared_exit.Exit) → n ≡ at.Leave m k → Rests
  leave_rests m k is = leaf_rests (at.Leave m k) is (leave_opened left m k) (leave_size m k)
