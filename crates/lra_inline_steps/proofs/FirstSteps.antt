-- The first step into a form leads to the whole: where a place opens, with what is written of the part in it the whole is
-- written, and the limit that the part passes is the whole's.
use Rattle.std.proofs.Common.{◌≡◌, ℕ, suc, ◌≤◌, List, [], ◌∷◌, length, Some, None, false, refl, sym, ◌∙◌, subst, arith, Bor}
use Rattle.lra_inline_steps.specs.Crates.lra_base.Limits.{greatest_live}
use Rattle.lra_program.specs.Program as program
use Rattle.lra_program.specs.Program.{Variable, Expr, value, result, assign, write, call, if, block, return, BlockItems, Program}
use Rattle.lra_program.specs.Sites.{Site, Event, plain_site, live_after_items, stmt_events, items_events}
use Rattle.lra_program.specs.{ProgramViews.element_view, ProgramViews.cond_view, ProgramViews.stmt_view, Receivers.variable_at, Receivers.waiting_in, Receivers.nobody, Step.append, Step.store_value}
use Rattle.lra_program.specs.{Step.push_for, Value.index_of, declared.program.Element.Element, declared.program.Stmt.Stmt, declared.receivers.Receiver.Receiver}
use Rattle.lra_operations.specs.Tree.{Node, point, act, seq}
use Rattle.lra_inline_steps.specs.Building.{inside, StmtStands, ItemsStand, ItemStands, GivenStands, WritesStmt, WritesRvalue, WritesCall, WritesItem}
use Rattle.lra_inline_steps.specs.Inlining.{body_of, step_of, loop_of, for_of}
use Rattle.lra_inline_steps.specs.Stack.{inline_task, a_stmt, a_declaration, all_items, a_call, all_rounds, IsInlineFrame, StandsAs}
use Rattle.lra_inline_steps.specs.{Limits.add_points, Limits.stopped, declared.frame.Caller.Caller, declared.frame.Frame.Frame, declared.frame.Repeated.Repeated, declared.stack.Branches.Branches}
use Rattle.lra_inline_steps.specs.declared.stack.InlineContext.TheVariants as place
use Rattle.lra_inline_steps.specs.declared.stack.Forked.TheVariants as forked
use Rattle.lra_inline_steps.proofs.Standing.{block_stands, assign_stands, write_stands, call_stands, true_stands, false_stands, return_stands, body_stands, step_stands, init_stands, for_again}
use Rattle.lra_inline_steps.proofs.Stopping.{second_stopped, third_stopped, middle_stopped, for_at_begin, for_at_round}
use Rattle.lra_inline_steps.proofs.Writing.{Pointed, site, block_written, assign_written, write_called, call_written, if_written, rounds_written, loop_written, for_written, call_returned}
use Rattle.lra_inline_steps.proofs.Writing.{fresh_written, given_written, value_written, result_given}
use Rattle.lra_inline_steps.proofs.{ItemRows.declared_item, ItemRows.given_stops, ItemRows.given_item_stands, Standing.result_stands, Walking.walk_stop}

-- a caller whose call's value is for no element
abbrev alone : ℕ → Receiver → Caller
alone q y = record { point = q; receiver = y; element = None }

module _ (P : Program) (path : List ℕ) (r : Frame) (S : List Site) where
  abbrev on : program.Stmt → List Event
  on s = stmt_events (inside P path r) path r.live s

  abbrev own : ℕ → List Event
  own at = plain_site path at r.live ∷ []

  -- a block
  pub block_opens : (b : BlockItems) (end : ℕ) → StmtStands P r (block b end)
      → IsInlineFrame P (inline_task (a_stmt (block b end)) path r S) (inline_task (all_items b) path r S) (record { frame = r; place = place.Block end })
      × ItemsStand P r b
  block_opens b end s = (
    record {
      frame = refl;
      path = refl;
      continues = record {
        writes = λ g n V U w e. (block_written P path r S V U (length V) n end b g _ _ w.0 w.1 refl e refl refl, refl);
        stops = λ g n V l w h. second_stopped S V (items_events (inside P path r) path r.live b) (plain_site path end (live_after_items r.live b) ∷ []) l
            w.0.walked
            (subst (λ z. add_points V (plain_site path end z ∷ []) ≡ stopped l) w.1 h);
      };
      stops = λ l h. walk_stop S (items_events (inside P path r) path r.live b) (plain_site path end (live_after_items r.live b) ∷ []) l h;
    },
    block_stands P r b end s,
  )

  -- after the point of a statement
  module _ (V : List Site) (at q : ℕ) (number : q ≡ length S) (pointed : Pointed S (site P path r at r.live false) V) where
    pub if_opens : (b : Branches) (a : Stmt) → b.point ≡ q → StmtStands P r (if at (cond_view b.cond.now) (stmt_view a) (stmt_view b.on_false.now))
        → IsInlineFrame P (inline_task (a_stmt (if at (cond_view b.cond.now) (stmt_view a) (stmt_view b.on_false.now))) path r S)
        (inline_task (a_stmt (stmt_view a)) path r V)
        (record { frame = r; place = place.Forked (forked.OnTrue b) })
        × StmtStands P r (stmt_view a)
    if_opens b a is s =
        let c = cond_view b.cond.now in
        let x = stmt_view a in
        let y = stmt_view b.on_false.now in (
          record {
            frame = refl;
            path = refl;
            continues = record {
              stands = λ g n W w. false_stands P r at c x y s;
              writes = λ g h n k W U w z. (if_written P path r S V W U b.point at c x y g h _ _ (is ∙ number) pointed w.0 z.0 refl refl, refl);
              stops = λ g n W l w h. third_stopped S V W (own at) (on x) (on y) l pointed w.0.walked h;
            };
            stops = λ l h. middle_stopped S V (own at) (on x) (on y) l pointed h;
          },
          true_stands P r at c x y s,
        )

    pub loop_opens : (x : Repeated) → StmtStands P r (loop_of at x)
        → IsInlineFrame P (inline_task (a_stmt (loop_of at x)) path r S)
        (inline_task (a_stmt (step_of x)) path (record r { breaks = None; continues = None }) V)
        (record { frame = r; place = place.Forked (forked.Step q x) })
        × StmtStands P (record r { breaks = None; continues = None }) (step_of x)
    loop_opens x s =
        let c = cond_view x.cond.now in
        let a = body_of x in
        let t = step_of x in (
          record {
            frame = refl;
            path = refl;
            continues = record {
              stands = λ g n W w. body_stands P r at c a t s;
              writes = λ g h n k W U w z. (loop_written P path r S V U q at c a t _ number pointed (rounds_written P path r V W U q c a t h g _ w.0 z.0 refl), refl);
              stops = λ g n W l w h. third_stopped S V W (own at) (on t) (on a) l pointed w.0.walked h;
            };
            stops = λ l h. middle_stopped S V (own at) (on t) (on a) l pointed h;
          },
          step_stands P r at c a t s,
        )

    -- the value that a call gives
    pub assign_opens : (x : Variable) (c : program.Call) (k : ℕ) (y : Receiver) → k ≡ index_of r.base x.slot → y ≡ variable_at k x.number_type → StmtStands P r
        (assign at x (result c)) → r.live ≤ greatest_live
        → IsInlineFrame P (inline_task (a_stmt (assign at x (result c))) path r S) (inline_task (a_call (alone q y) c) path r V)
        (record { frame = r; place = place.Given q })
        × StandsAs P (a_call (alone q y) c) r
    assign_opens x c k y is gets s few = (
      record {
        frame = refl;
        path = refl;
        continues = λ g n U w. (
          assign_written P path r S V U q at k x (result c) g _ number pointed is
              (subst (λ z. WritesRvalue P path r q z V (result c) g U) gets (result_given P path r V U q y c g w.0)) refl,
          refl,
        );
        stops = λ l h. second_stopped S V (own at) (inside P path r path r.live c) l pointed h;
      },
      (result_stands P r c (assign_stands P r at x (result c) s), omega (arith, few)),
    )

    pub value_assigned : (x : Variable) (e : Expr) (k : ℕ) (y : Receiver) → k ≡ index_of r.base x.slot → y ≡ variable_at k x.number_type → (h g : Node) → h ≡
        act q (store_value r.base y e) → g ≡ seq (point q) h
        → WritesStmt P path r S (assign at x (value e)) g V
    value_assigned x e k y is gets h g a b = assign_written P path r S V V q at k x (value e) h g number pointed is
        (subst (λ z. WritesRvalue P path r q z V (value e) h V) gets (value_written P path r V q y e h a)) b

    -- an element's value that a call gives; its index waits
    pub write_opens : (x : Bor Element) (c : program.Call) (y : Receiver) → y ≡ waiting_in x.now.array
        → StmtStands P r (write at (element_view x.now) (result c))
        → r.live ≤ greatest_live
        → IsInlineFrame P (inline_task (a_stmt (write at (element_view x.now) (result c))) path r S)
        (inline_task (a_call (record { point = q; receiver = y; element = Some x }) c) path r V) (record { frame = r; place = place.Given q })
        × StandsAs P (a_call (record { point = q; receiver = y; element = Some x }) c) r
    write_opens x c y gets s few = (
      record {
        frame = refl;
        path = refl;
        continues = λ g n U w. (
          write_called P path r S V U q at (element_view x.now) c g _ number pointed
              (subst (λ z. WritesCall P path r q z (push_for r.base (element_view x.now)) V c g U) gets w.0) refl,
          refl,
        );
        stops = λ l h. second_stopped S V (own at) (inside P path r path r.live c) l pointed h;
      },
      (result_stands P r c (write_stands P r at (element_view x.now) (result c) s), omega (arith, few)),
    )

    pub call_opens : (c : program.Call) (y : Receiver) → y ≡ nobody → StmtStands P r (call at c) → r.live ≤ greatest_live
        → IsInlineFrame P (inline_task (a_stmt (call at c)) path r S) (inline_task (a_call (alone q y) c) path r V)
        (record { frame = r; place = place.Given q })
        × StandsAs P (a_call (alone q y) c) r
    call_opens c y gets s few = (
      record {
        frame = refl;
        path = refl;
        continues = λ g n U w. (
          call_written P path r S V U q at c g _ number pointed
              (subst (λ z. WritesRvalue P path r q z V (result c) g U) gets (result_given P path r V U q y c g w.0)) refl,
          refl,
        );
        stops = λ l h. second_stopped S V (own at) (inside P path r path r.live c) l pointed h;
      },
      (call_stands P r at c s, omega (arith, few)),
    )

    pub return_opens : (c : program.Call) → StmtStands P r (return at (Some (result c))) → r.live ≤ greatest_live
        → IsInlineFrame P (inline_task (a_stmt (return at (Some (result c)))) path r S) (inline_task (a_call (alone q r.receiver) c) path r V)
        (record { frame = r; place = place.Returned q })
        × StandsAs P (a_call (alone q r.receiver) c) r
    return_opens c s few = (
      record {
        frame = refl;
        path = refl;
        continues = λ g n U w. (call_returned P path r V q s.back_low S at _ number pointed U c g (result_given P path r V U q r.receiver c g w.0) refl, refl);
        stops = λ l h. second_stopped S V (own at) (inside P path r path r.live c) l pointed h;
      },
      (result_stands P r c (return_stands P r at (Some (result c)) s), omega (arith, few)),
    )

  -- a declarator
  module _ (d : program.Declarator) (V : List Site) (q n : ℕ) where
    pub fresh_declared : (h g : Node) → q ≡ length S → Pointed S (site P path r d.label r.live false) V → n ≡ suc r.live → d.rvalue ≡ None → h ≡ act q
        (append d.number_type) → g ≡ seq (point q) h
        → WritesItem P path r S (program.declaration d) g n V
    fresh_declared h g number pointed same given a b = declared_item P path r S d V V q n h g number same pointed
        (rw given (fresh_written P path r V q d.number_type h a)) b

    pub value_declared : (e : Expr) (y : Receiver) (h g : Node) → y ≡ variable_at r.live d.number_type → q ≡ length S → Pointed S
        (site P path r d.label r.live false) V → n ≡ suc r.live → d.rvalue ≡ Some (value e)
        → h ≡ act q (store_value r.base y e) → g ≡ seq (point q) (seq (act q (append d.number_type)) h) → WritesItem P path r S (program.declaration d) g n V
    value_declared e y h g gets number pointed same given a b = declared_item P path r S d V V q n (seq (act q (append d.number_type)) h) g number same pointed
        (rw given (given_written P path r V V q n d.number_type (value e) h _ same
        (subst (λ z. WritesRvalue P path (record r { live = n }) q z V (value e) h V) gets (value_written P path (record r { live = n }) V q y e h a)) refl)) b

  -- one whose value a call gives
  pub declaration_opens : (d : program.Declarator) (V : List Site) (q n : ℕ) (c : program.Call) (y : Receiver) → y ≡ variable_at r.live d.number_type → q ≡
      length S → Pointed S (site P path r d.label r.live false) V → n ≡ suc r.live
      → d.rvalue ≡ Some (result c)
      → ItemStands P r (program.declaration d) → r.live ≤ greatest_live
      → IsInlineFrame P (inline_task (a_declaration d) path r S) (inline_task (a_call (alone q y) c) path (record r { live = n }) V)
      (record { frame = r; place = place.Declared q d.number_type })
      × StandsAs P (a_call (alone q y) c) (record r { live = n })
  declaration_opens d V q n c y gets number pointed same given s few = (
    record {
      frame = refl;
      path = refl;
      continues = λ g m U w. subst (λ z. WritesItem P path r S (program.declaration d) (seq (point q) (seq (act q (append d.number_type)) g)) z U) (sym w.1)
          (declared_item P path r S d V U q n (seq (act q (append d.number_type)) g) _ number same pointed
          (rw given (given_written P path r V U q n d.number_type (result c) g _ same
          (subst (λ z. WritesRvalue P path (record r { live = n }) q z V (result c) g U) gets
          (result_given P path (record r { live = n }) V U q y c g w.0)) refl)) refl);
      stops = λ l h. given_stops P path r S d V n pointed same l (rw given h);
    },
    (result_stands P (record r { live = n }) c (subst (λ z. GivenStands P (record r { live = n }) z) given (given_item_stands P path r S d n same s)), omega (arith, few, same)),
  )

  -- a `for`: its point, at which its variables live already
  pub for_opens : (b : BlockItems) (x : Repeated) (V : List Site) (at q n : ℕ) → q ≡ length S → n ≡ live_after_items r.live b → Pointed S (site P path r at n false) V → StmtStands P r (for_of at b x)
      → IsInlineFrame P (inline_task (a_stmt (for_of at b x)) path r S) (inline_task (all_items b) path r V) (record { frame = r; place = place.Init q x })
      × ItemsStand P r b
  for_opens b x V at q n number same pointed s =
      let c = cond_view x.cond.now in
      let a = body_of x in
      let t = step_of x in (
        record {
          frame = refl;
          path = refl;
          continues = record {
            stands = λ g m W w.
                let again = for_again P r at b c a t m w.1 s in
                (body_stands P (record r { live = m }) at c a t again, step_stands P (record r { live = m }) at c a t again);
            writes = λ g h m k W U w z.
                (for_written P path r S V W U q at m b c a t g h _ _ number w.1 (subst (λ y. Pointed S (site P path r at y false) V) (same ∙ sym w.1) pointed) w.0 z refl refl, refl);
            stops = λ g m W l w h. for_at_round P path r S b at c a t V W m l w.1 (subst (λ y. Pointed S (site P path r at y false) V) (same ∙ sym w.1) pointed) w.0.walked h;
          };
          stops = λ l h. for_at_begin P path r S b at c a t V n l same pointed h;
        },
        init_stands P r at b c a t s,
      )

  -- the rounds of a loop
  pub rounds_open : (q : ℕ) (x : Repeated) → StandsAs P (all_rounds q (cond_view x.cond.now) (body_of x) (step_of x)) r
      → IsInlineFrame P (inline_task (all_rounds q (cond_view x.cond.now) (body_of x) (step_of x)) path r S)
      (inline_task (a_stmt (step_of x)) path (record r { breaks = None; continues = None }) S)
      (record { frame = r; place = place.Forked (forked.Step q x) })
      × StmtStands P (record r { breaks = None; continues = None }) (step_of x)
  rounds_open q x s =
      let c = cond_view x.cond.now in
      let a = body_of x in
      let t = step_of x in (
        record {
          frame = refl;
          path = refl;
          continues = record {
            stands = λ g n W w. s.0;
            writes = λ g h n k W U w z. rounds_written P path r S W U q c a t h g _ w.0 z.0 refl;
            stops = λ g n W l w h. second_stopped S W (on t) (on a) l w.0.walked h;
          };
          stops = λ l h. walk_stop S (on t) (on a) l h;
        },
        s.1,
      )
