-- Places that are open, from the outermost on: one more, one less; and the next step at the innermost leads to the whole.
use Rattle.std.proofs.Common.{◌≡◌, ℕ, ◌+◌, ◌≤◌, Some, List, [], ◌∷◌, ◌++◌, map, length, Result, Ok, Err, IfOk, refl, sym, ap, ◌∙◌, subst}
use Rattle.std.proofs.lemmas.List.{map-append}
use Rattle.lra_inline_steps.specs.Crates.lra_base.Limits.{greatest_live}
use Rattle.lra_program.specs.ProgramViews.{expr_view, call_view, item_view, items_of, case_view, cases_of}
use Rattle.lra_program.specs.{Program.Program, Program.BlockItems, Program.switch, Program.Cases, Sites.Site, Sites.plain_site, Sites.call_events, Step.truncate_to}
use Rattle.lra_operations.specs.declared.tree.Node as code
use Rattle.lra_operations.specs.declared.tree.Arm as code_arm
use Rattle.lra_operations.specs.{Tree.Node, Tree.point, Tree.act, Tree.seq, Tree.arm, TreeViews.node_view, TreeViews.arm_view}
use Rattle.lra_inline_steps.specs.Stack.{InlineTask, inline_task, a_stmt, all_items, part_view, Closes, Forks, ItemsLoop, SwitchLoop, IsInlineFrame, IsWritten, AreInlineFrames, InliningIsUnderWay}
use Rattle.lra_inline_steps.specs.Stack.{InlineStepLeads, Stops, StopsAs, StandsAs}
use Rattle.lra_inline_steps.specs.{Building.StmtStands, Building.CallStands, Building.WritesBody, Inlining.body_of, Inlining.WritesCallOf, Limits.add_points, Limits.passed, Limits.stopped}
use Rattle.lra_inline_steps.specs.{declared.frame.Frame.Frame, declared.frame.Repeated.Repeated, declared.points.InlineError.InlineError, declared.points.Limit.Limit, declared.stack.Branches.Branches}
use Rattle.lra_inline_steps.specs.{declared.stack.CalledFrom.CalledFrom, declared.stack.CaseRow.CaseRow, declared.stack.InlineFrame.InlineFrame, declared.stack.ItemRow.ItemRow}
use Rattle.lra_inline_steps.specs.declared.stack.Next as next_type
use Rattle.lra_inline_steps.specs.declared.stack.Next.TheVariants as next
use Rattle.lra_inline_steps.specs.declared.stack.Part as part_type
use Rattle.lra_inline_steps.specs.declared.stack.Part.TheVariants as part
use Rattle.lra_inline_steps.specs.declared.stack.Written as written
use Rattle.lra_inline_steps.specs.declared.stack.InlineContext as place_type
use Rattle.lra_inline_steps.specs.declared.stack.InlineContext.TheVariants as place
use Rattle.lra_inline_steps.specs.declared.stack.Forked as forked_type
use Rattle.lra_inline_steps.specs.declared.stack.Forked.TheVariants as forked
use Rattle.lra_inline_steps.proofs.Shown.{shown_tree}

module _ (P : Program) where
  pub open_more : (whole under n : InlineTask) (os : List InlineFrame) (o : InlineFrame) → AreInlineFrames P whole under os → IsInlineFrame P under n o →
      AreInlineFrames P whole n (os ++ o ∷ [])
  open_more whole under n [] o e i = (n, subst (λ z. IsInlineFrame P z n o) e i, refl)
  open_more whole under n (x ∷ os) o (k, h, a) i = (k, h, open_more k under n os o a i)

  pub open_less : (whole n : InlineTask) (os : List InlineFrame) (o : InlineFrame) → AreInlineFrames P whole n (os ++ o ∷ []) →
      (u : InlineTask) × AreInlineFrames P whole u os × IsInlineFrame P u n o
  open_less whole n [] o (k, h, e) = (whole, refl, subst (λ z. IsInlineFrame P whole z o) (sym e) h)
  open_less whole n (x ∷ os) o (k, h, a) = let l = open_less k n os o a in (l.0, (k, h, l.1), l.2)

  -- the limit that the part under way passes is that of the whole
  pub all_stopped : (whole under : InlineTask) (os : List InlineFrame) → AreInlineFrames P whole under os → (l : Limit) → Stops P under l → Stops P whole l
  all_stopped whole under [] e l s = subst (λ z. Stops P z l) e s
  all_stopped whole under (x ∷ os) (k, h, a) l s = h.stops l (all_stopped k under os a l s)

  -- the next step -----------------------------------------------------------------------------------------------------------

  module _ (whole under : InlineTask) (f : Frame) (path : List ℕ) (n : ℕ) (V : List Site) where
    -- after the first of two parts
    module _ (g : Node) (w : IsWritten P under g n V) (other : ℕ → List Site → InlineTask) (form : Node → Node → Node) (k : Forks P whole under other form)
      where
        pub fork_closes : Closes P whole (other n V) (form g) whole.frame.live
        fork_closes h m U y = k.writes g h n m V U w y

        pub fork_stops : (l : Limit) → Stops P (other n V) l → Stops P whole l
        fork_stops l s = k.stops g n V l w s

    pub false_next : (b : Branches) (g : code.Node) → IsInlineFrame P whole under (record { frame = f; place = place.Forked (forked.OnTrue b) })
        → IsWritten P under (node_view g) n V → path ≡ under.path
        → InlineStepLeads P whole (next.Opens (record { frame = f; place = place.Forked (forked.OnFalse b.point b.cond g) }) f (part.Stmt b.on_false)) path V
    false_next b g o w e = rw (e ∙ o.path, o.frame) (
      record {
        frame = refl;
        path = refl;
        continues = fork_closes (node_view g) w _ _ o.continues;
        stops = fork_stops (node_view g) w _ _ o.continues;
      },
      o.continues.stands (node_view g) n V w,
    )

    pub body_next : (q : ℕ) (x : Repeated) (g : code.Node) → IsInlineFrame P whole under (record { frame = f; place = place.Forked (forked.Step q x) })
        → IsWritten P under (node_view g) n V → path ≡ under.path
        → IsInlineFrame P whole (inline_task (a_stmt (body_of x)) path (record f { breaks = Some f.live; continues = Some f.live }) V)
        (record { frame = f; place = place.Forked (forked.Body q x.cond g) })
        × StmtStands P (record f { breaks = Some f.live; continues = Some f.live }) (body_of x)
    body_next q x g o w e = rw (e ∙ o.path, o.frame) (
      record {
        frame = refl;
        path = refl;
        continues = fork_closes (node_view g) w _ _ o.continues;
        stops = fork_stops (node_view g) w _ _ o.continues;
      },
      o.continues.stands (node_view g) n V w,
    )

    pub rounds_next : (q : ℕ) (x : Repeated) (g : code.Node) → IsInlineFrame P whole under (record { frame = f; place = place.Init q x })
        → IsWritten P under (node_view g) n V → path ≡ under.path
        → InlineStepLeads P whole (next.Opens (record { frame = f; place = place.Around q g }) (record f { live = n }) (part.Rounds q x)) path V
    rounds_next q x g o w e = rw (e ∙ o.path, o.frame) (
      record {
        frame = refl;
        path = refl;
        continues = fork_closes (node_view g) w _ _ o.continues;
        stops = fork_stops (node_view g) w _ _ o.continues;
      },
      o.continues.stands (node_view g) n V w,
    )

    -- the whole is written, as a tree that is made of the part's
    pub closed : (form : Frame → Node → Node) (live : Frame → ℕ) (g : Node) (x : code.Node) → f ≡ whole.frame → under.path ≡ whole.path → path ≡ under.path
        → Closes P whole under (form whole.frame) (live whole.frame) → IsWritten P under g n V → node_view x ≡ form f g
        → InlineStepLeads P whole (next.Written (record { node = x; live = live f })) path V
    closed form live g x e i j k w a = rw (a, e) (k g n V w, j ∙ i)

    -- after one of the items
    due_is : (q : InlineTask) → q.path ≡ whole.path → q.frame ≡ whole.frame → q.part ≡ whole.part → q.before ≡ whole.before → q ≡ whole
    due_is q a b d e = rw (← a, ← b, ← d, ← e) refl

    pub row_next : (x : ItemRow) (p : code.Node) (gs : List code.Node) (b : Result next_type.Next InlineError)
        → IsInlineFrame P whole under (record { frame = f; place = place.Items x }) → IsWritten P under (node_view p) n V → path ≡ under.path → gs ≡ x.parts.items ++ p ∷ []
        → ((at : List ℕ) (S U : List Site) (all : BlockItems) → ItemsLoop P at f S all (items_of (map item_view x.rest.now)) (map node_view gs) n U
        → IfOk b (λ k. InlineStepLeads P (inline_task (all_items all) at f S) k at U))
        → IfOk b (λ k. InlineStepLeads P whole k path V)
    row_next x p gs b o w e pushed h =
        let k = o.continues in
        let pieces : map node_view x.parts.items ++ node_view p ∷ [] ≡ map node_view gs = sym (ap (map node_view) pushed ∙ map-append node_view x.parts.items (p ∷ [])) in
        let loop : ItemsLoop P whole.path whole.frame whole.before k.all (items_of (map item_view x.rest.now)) (map node_view gs) n V =
        subst (λ z. ItemsLoop P whole.path whole.frame whole.before k.all (items_of (map item_view x.rest.now)) z n V) pieces (k.writes (node_view p) n V w) in
        let done = h whole.path whole.before V k.all (subst (λ z. ItemsLoop P whole.path z whole.before k.all (items_of (map item_view x.rest.now)) (map node_view gs) n V) (sym o.frame) loop) in
        subst (λ z. IfOk b (λ y. InlineStepLeads P z y path V)) (due_is (inline_task (all_items k.all) whole.path f whole.before) refl o.frame (sym k.is) refl)
        (subst (λ z. IfOk b (λ y. InlineStepLeads P (inline_task (all_items k.all) whole.path f whole.before) y z V)) (sym (e ∙ o.path)) done)

    -- after one of the statements of a `switch`
    pub cases_next : (x : CaseRow) (p : code.Node) (arms : List code_arm.Arm) (b : Result next_type.Next InlineError)
        → IsInlineFrame P whole under (record { frame = f; place = place.Cases x }) → IsWritten P under (node_view p) n V → path ≡ under.path
        → arms ≡ x.arms.items ++ code_arm.Tree p ∷ []
        → ((at : List ℕ) (S U : List Site) (label : ℕ) (all : Cases)
        → SwitchLoop P at f S x.point label (expr_view x.value.now) all (cases_of (map case_view x.rest.now)) (map arm_view arms) U
        → IfOk b (λ k. InlineStepLeads P (inline_task (a_stmt (switch label (expr_view x.value.now) all)) at f S) k at U))
        → IfOk b (λ k. InlineStepLeads P whole k path V)
    cases_next x p arms b o w e pushed h =
        let k = o.continues in
        let v = expr_view x.value.now in
        let rest = cases_of (map case_view x.rest.now) in
        let all = a_stmt (switch k.at v k.all) in
        let pieces : map arm_view x.arms.items ++ arm (node_view p) ∷ [] ≡ map arm_view arms = sym (ap (map arm_view) pushed
        ∙ map-append arm_view x.arms.items (code_arm.Tree p ∷ []) ∙ ap (λ z. map arm_view x.arms.items ++ z ∷ []) (shown_tree p)) in
        let loop : SwitchLoop P whole.path whole.frame whole.before x.point k.at v k.all rest (map arm_view arms) V =
        subst (λ z. SwitchLoop P whole.path whole.frame whole.before x.point k.at v k.all rest z V) pieces (k.writes (node_view p) n V w) in
        let done = h whole.path whole.before V k.at k.all (subst (λ z. SwitchLoop P whole.path z whole.before x.point k.at v k.all rest (map arm_view arms) V)
        (sym o.frame) loop) in
        subst (λ z. IfOk b (λ y. InlineStepLeads P z y path V)) (due_is (inline_task all whole.path f whole.before) refl o.frame (sym k.is) refl)
        (subst (λ z. IfOk b (λ y. InlineStepLeads P (inline_task all whole.path f whole.before) y z V)) (sym (e ∙ o.path)) done)

    -- after a block's items
    pub block_closes : (end : ℕ) (g : Node) (x : code.Node) (U : List Site) → IsInlineFrame P whole under (record { frame = f; place = place.Block end }) → IsWritten P under g n V → path ≡ under.path
        → add_points V (plain_site path end n ∷ []) ≡ passed U
        → node_view x ≡ seq g (seq (point (length V)) (act (length V) (truncate_to f.live))) →
        InlineStepLeads P whole (next.Written (record { node = x; live = f.live })) path U
    block_closes end g x U o w e at a =
        let k = o.continues.writes g n V U w (subst (λ z. add_points V (plain_site z end n ∷ []) ≡ passed U) (e ∙ o.path) at) in
        (rw (a, o.frame) k, e ∙ o.path)

    pub block_stops : (end : ℕ) (g : Node) (l : Limit) → IsInlineFrame P whole under (record { frame = f; place = place.Block end }) → IsWritten P under g n V → path ≡ under.path
        → add_points V (plain_site path end n ∷ []) ≡ stopped l → Stops P whole l
    block_stops end g l o w e at = o.continues.stops g n V l w (subst (λ z. add_points V (plain_site z end n ∷ []) ≡ stopped l) (e ∙ o.path) at)

    -- after a called function's body
    module _ (from : CalledFrom) (g : Node) (o : IsInlineFrame P whole under (record { frame = f; place = place.Callee from })) (w : IsWritten P under g n V)
      where
        pub callee_few : f.live ≤ greatest_live + 1
        callee_few = subst (λ z. z.live ≤ greatest_live + 1) (sym o.frame) o.continues.few

        pub callee_stands : CallStands P f (call_view from.call.now)
        callee_stands = subst (λ z. CallStands P z (call_view from.call.now)) (sym o.frame) o.continues.stands

        pub callee_within : path ≡ under.path → path ≡ from.call.now.label ∷ from.path
        callee_within e = e ∙ o.path ∙ ap (λ z. from.call.now.label ∷ z) (sym o.continues.path)

        -- the body, as the code sees it
        body_there : WritesBody P from.path f from.caller.receiver (call_view from.call.now) whole.before g n V
        body_there = subst (λ z. WritesBody P z f from.caller.receiver (call_view from.call.now) whole.before g n V) (sym o.continues.path)
            (subst (λ z. WritesBody P whole.path z from.caller.receiver (call_view from.call.now) whole.before g n V) (sym o.frame) (o.continues.writes g n V w))

        whole_call : (h : Node) (U : List Site) → WritesCallOf P from.path f from.caller whole.before (call_view from.call.now) h U → IsWritten P whole h f.live U
        whole_call h U y = rw o.continues.is (
          subst (λ z. WritesCallOf P z whole.frame from.caller whole.before (call_view from.call.now) h U) o.continues.path
              (subst (λ z. WritesCallOf P from.path z from.caller whole.before (call_view from.call.now) h U) o.frame y),
          ap (λ z. z.live) o.frame,
        )

        pub callee_closes : (x : code.Node) (p : List ℕ) (U : List Site) → p ≡ from.path
            → ((S : List Site) → WritesBody P from.path f from.caller.receiver (call_view from.call.now) S g n V
            → WritesCallOf P from.path f from.caller S (call_view from.call.now) (node_view x) U)
            → InlineStepLeads P whole (next.Written (record { node = x; live = f.live })) p U
        callee_closes x p U back h = (whole_call (node_view x) U (h whole.before body_there), back ∙ o.continues.path)

        pub callee_stops : (l : Limit)
            → ((S : List Site) → WritesBody P from.path f from.caller.receiver (call_view from.call.now) S g n V
            → add_points S (call_events P f.calls_left from.path f.live (call_view from.call.now)) ≡ stopped l)
            → Stops P whole l
        callee_stops l h = rw o.continues.is (
            subst (λ z. add_points whole.before (call_events P whole.frame.calls_left z whole.frame.live (call_view from.call.now)) ≡ stopped l) o.continues.path
            (subst (λ (z : Frame). add_points whole.before (call_events P z.calls_left from.path z.live (call_view from.call.now)) ≡ stopped l) o.frame (h whole.before body_there)))

  -- a place that is known by an equation
  pub opened : (whole under : InlineTask) (f : Frame) (p p' : place_type.InlineContext) → p ≡ p' → IsInlineFrame P whole under (record { frame = f; place = p }) →
      IsInlineFrame P whole under (record { frame = f; place = p' })
  opened whole under f p p' e o = subst (λ z. IsInlineFrame P whole under (record { frame = f; place = z })) e o

  pub forked_seen : (whole under : InlineTask) (f : Frame) (x x' : forked_type.Forked) → x ≡ x' →
      IsInlineFrame P whole under (record { frame = f; place = place.Forked x })
      → IsInlineFrame P whole under (record { frame = f; place = place.Forked x' })
  forked_seen whole under f x x' e o = subst (λ z. IsInlineFrame P whole under (record { frame = f; place = place.Forked z })) e o

  -- what is made of its parts, if only the memory may fail
  pub closed_ok : (b : Result (next_type.Next) InlineError) (X : code.Node → Type 0) (Y : next_type.Next → Type 0) {E : Type 0} (a : Result code.Node E) (live : ℕ)
      → IfOk b (λ k. (g : code.Node) × (a ≡ Ok g) × (k ≡ next.Written (record { node = g; live = live })))
      → IfOk a X → ((g : code.Node) → X g → Y (next.Written (record { node = g; live = live }))) → IfOk b Y
  closed_ok (Ok k) X Y a live (g, e, i) x f = subst Y (sym i) (f g (subst (λ z. IfOk z X) e x))
  closed_ok (Err d) X Y a live h x f = tt

  -- the loop ------------------------------------------------------------------------------------------------------------------

  module _ (whole : InlineTask) (os : List InlineFrame) (k : next_type.Next) (path : List ℕ) (V : List Site) (way : InliningIsUnderWay P whole os k path V)
    where
      module _ (o : InlineFrame) (r : Frame) (p : part_type.Part) (is : k ≡ next.Opens o r p) where
        into : IsInlineFrame P way.0 (inline_task (part_view p) path r V) o × StandsAs P (part_view p) r
        into = subst (λ z. InlineStepLeads P way.0 z path V) is way.2

        pub part_stands : StandsAs P (part_view p) r
        part_stands = into.1

        -- the place is one more
        pub one_more : (os' : List InlineFrame) (k' : next_type.Next) (path' : List ℕ) (V' : List Site) → os' ≡ os ++ o ∷ [] → InlineStepLeads P (inline_task (part_view p) path r V) k' path' V'
            → InliningIsUnderWay P whole os' k' path' V'
        one_more os' k' path' V' e l = (
          inline_task (part_view p) path r V,
          subst (λ z. AreInlineFrames P whole (inline_task (part_view p) path r V) z) (sym e) (open_more whole way.0 (inline_task (part_view p) path r V) os o way.1 into.0),
          l,
        )

        pub part_stopped : (l : Limit) → StopsAs P (part_view p) path r V l → Stops P whole l
        part_stopped l s = all_stopped whole way.0 os way.1 l (into.0.stops l s)

      module _ (w : written.Written) (is : k ≡ next.Written w) where
        there : IsWritten P way.0 (node_view w.node) w.live V × (path ≡ way.0.path)
        there = subst (λ z. InlineStepLeads P way.0 z path V) is way.2

        -- the innermost place is after its part
        pub behind : (os' : List InlineFrame) (o : InlineFrame) → os ≡ os' ++ o ∷ [] →
            (u : InlineTask) × (n : InlineTask) × AreInlineFrames P whole u os' × IsInlineFrame P u n o × IsWritten P n (node_view w.node) w.live V × (path ≡ n.path)
        behind os' o e = let l = open_less whole way.0 os' o (subst (λ z. AreInlineFrames P whole way.0 z) e way.1) in (l.0, way.0, l.1, l.2, there.0, there.1)

        -- no place is left
        pub all_written : os ≡ [] → IsWritten P whole (node_view w.node) w.live V
        all_written e = subst (λ z. IsWritten P z (node_view w.node) w.live V) (subst (λ z. AreInlineFrames P whole way.0 z) e way.1) there.0
