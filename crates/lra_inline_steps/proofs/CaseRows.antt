-- The cases of a `switch` one after the other: what is written of them so far.
use Rattle.std.proofs.Common.{◌≡◌, ℕ, false, ◌+◌, ◌<◌, List, [], ◌∷◌, ◌++◌, length, map, refl, sym, ap, ◌∙◌, subst, append_assoc, append-nil, arith}
use Rattle.std.proofs.lemmas.List.{map-append}
use Rattle.lra_inline_steps.specs.Crates.lra_base.declared.case_labels.CaseLabel.{CaseLabel}
use Rattle.lra_program.specs.Program as program
use Rattle.lra_program.specs.{Program.Call, Program.no_cases, Program.labelled, Program.stated, Program.switch, ProgramViews.expr_view, ProgramViews.stmt_view, ProgramViews.case_view}
use Rattle.lra_program.specs.{ProgramViews.cases_of, Sites.Site, Sites.plain_site, Sites.stmt_events, Sites.cases_events, declared.program.CaseItem.CaseItem, declared.program.Stmt.Stmt}
use Rattle.lra_program.specs.declared.program.CaseItem as code_case
use Rattle.lra_operations.specs.declared.tree.Arm as code_arm
use Rattle.lra_operations.specs.{Inlined.switch_node, Tree.Node, Tree.Arms, Tree.no_arms, Tree.entry, Tree.arm, Tree.seq, Tree.point, TreeViews.ArmPart, TreeViews.arm_view, TreeViews.arms_before}
use Rattle.lra_inline_steps.specs.Building.{inside, StmtStands, cases_frame, WritesStmt}
use Rattle.lra_inline_steps.specs.Stack.{inline_task, a_stmt, SwitchLoop, IsInlineFrame, labelled_all, entry_part, PassesLabels}
use Rattle.lra_inline_steps.specs.{Limits.stopped, Steps.stmt_steps, Steps.cases_steps, declared.frame.Frame.Frame, declared.stack.CaseRow.CaseRow}
use Rattle.lra_inline_steps.specs.declared.stack.InlineContext.TheVariants as place
use Rattle.lra_inline_steps.proofs.Standing.{switch_stands, labelled_stand, first_case_stands, other_cases_stand}
use Rattle.lra_inline_steps.proofs.Writing.{Pointed, site, no_cases_written, labelled_written, stated_written, switch_written}
use Rattle.lra_inline_steps.proofs.{Shown.shown_label, Shown.shown_stated, Shown.shown_entry, Walking.walk_then, Walking.walk_stop}

-- more after them
arms_joined : (fs gs : List ArmPart) (h : Arms) → arms_before (fs ++ gs) h ≡ arms_before fs (arms_before gs h)
arms_joined [] gs h = refl
arms_joined (f ∷ fs) gs h = ap f (arms_joined fs gs h)

module _ (P : program.Program) (path : List ℕ) (r : Frame) (S : List Site) (q at : ℕ) (e : program.Expr) (all : program.Cases) where
  abbrev here : Frame
  here = cases_frame r

  abbrev Loop : program.Cases → List ArmPart → List Site → Type 0
  Loop rest arms V = SwitchLoop P path r S q at e all rest arms V

  -- after its own point
  pub cases_begin : (arms : List code_arm.Arm) (V : List Site) → arms ≡ [] → q ≡ length S → Pointed S (site P path r at r.live false) V
      → StmtStands P r (switch at e all) → Loop all (map arm_view arms) V
  cases_begin arms V none i pointed s = subst (λ (z : List code_arm.Arm). Loop all (map arm_view z) V) (sym none) (record {
    stands = switch_stands P r at e all s;
    writes = λ h U w. switch_written P path r S V U q at e all h (seq (point q) (switch_node q r.base e h)) i pointed w refl;
    stops = λ l h. walk_then S (plain_site path at r.live ∷ []) (cases_events (inside P path r) path r.live all) V (stopped l) pointed h;
  })

  -- past one label, and past some
  label_passed : (rest : program.Cases) (arms : List ArmPart) (V : List Site) (l : CaseLabel) → Loop (labelled l rest) arms V
      → Loop rest (arms ++ entry_part l ∷ []) V
  label_passed rest arms V l x = record {
    stands = labelled_stand P here l rest x.stands;
    writes = λ h U w. subst (λ z. WritesStmt P path r S (switch at e all) (seq (point q) (switch_node q r.base e z)) U) (sym (arms_joined arms
        (entry_part l ∷ []) h))
        (x.writes (entry l h) U (labelled_written P path here V U l rest h w));
    stops = x.stops;
  }

  labels_passed : (labels : List CaseLabel) (rest : program.Cases) (arms : List ArmPart) (V : List Site) → Loop (labelled_all labels rest) arms V
      → Loop rest (arms ++ map entry_part labels) V
  labels_passed [] rest arms V x = subst (λ z. Loop rest z V) (sym (append-nil arms)) x
  labels_passed (l ∷ labels) rest arms V x = subst (λ z. Loop rest z V) (append_assoc arms (entry_part l ∷ []) (map entry_part labels)) (labels_passed labels rest
      (arms ++ entry_part l ∷ []) V (label_passed (labelled_all labels rest) arms V l x))

  -- those that the code passes
  pub passed_on : (before after : List code_arm.Arm) (cases : List CaseItem) (left : program.Cases) (V : List Site)
      → PassesLabels before after cases left
      → Loop (cases_of (map case_view cases)) (map arm_view before) V → Loop left (map arm_view after) V
  passed_on before after cases left V (labels, is, arms) x = subst (λ z. Loop left z V) (sym arms)
      (labels_passed labels left (map arm_view before) V (subst (λ z. Loop z (map arm_view before) V) is x))

  -- a statement is written after them
  case_step : (a : program.Stmt) (rest : program.Cases) (arms : List ArmPart) (V W : List Site) (g : Node) → WritesStmt P path here V a g W
      → Loop (stated a rest) arms V → Loop rest (arms ++ arm g ∷ []) W
  case_step a rest arms V W g w x = record {
    stands = other_cases_stand P here a rest x.stands;
    writes = λ h U y. subst (λ z. WritesStmt P path r S (switch at e all) (seq (point q) (switch_node q r.base e z)) U) (sym (arms_joined arms (arm g ∷ []) h))
        (x.writes (arm g h) U (stated_written P path here V W U a rest g h w y));
    stops = λ l h. x.stops l (walk_then V (stmt_events (inside P path r) path r.live a) (cases_events (inside P path r) path r.live rest) W
        (stopped l) w.walked h);
  }

  -- all are written
  pub cases_end : (arms : List ArmPart) (V : List Site) → Loop no_cases arms V
      → WritesStmt P path r S (switch at e all) (seq (point q) (switch_node q r.base e (arms_before arms no_arms))) V
  cases_end arms V x = x.writes no_arms V (no_cases_written P path here V)

-- the next statement is under way: the place is open, and the statement stands in it
pub case_next : (P : program.Program) (path : List ℕ) (r : Frame) (S : List Site) (at : ℕ) (all : program.Cases) (x : CaseRow) (a : program.Stmt)
    (V : List Site)
    → SwitchLoop P path r S x.point at (expr_view x.value.now) all (stated a (cases_of (map case_view x.rest.now))) (map arm_view x.arms.items) V
    → IsInlineFrame P (inline_task (a_stmt (switch at (expr_view x.value.now) all)) path r S) (inline_task (a_stmt a) path (cases_frame r) V)
    (record { frame = r; place = place.Cases x }) × StmtStands P (cases_frame r) a
case_next P path r S at all x a V loop =
    let e = expr_view x.value.now in
    let others = cases_of (map case_view x.rest.now) in (
      record {
        frame = refl;
        path = refl;
        continues = record {
          at = at;
          all = all;
          is = refl;
          writes = λ g n W w. case_step P path r S x.point at e all a others
              (map arm_view x.arms.items) V W g w.0 loop;
        };
        stops = λ l h. loop.stops l (walk_stop V (stmt_events (inside P path r) path r.live a) (cases_events (inside P path r) path r.live others) l h);
      },
      first_case_stands P (cases_frame r) a others loop.stands,
    )

-- the code that passes labels -----------------------------------------------------------------------------------------

labelled_more : (labels : List CaseLabel) (l : CaseLabel) (cs : program.Cases) → labelled_all (labels ++ l ∷ []) cs ≡ labelled_all labels (labelled l cs)
labelled_more [] l cs = refl
labelled_more (k ∷ labels) l cs = ap (λ z. labelled k z) (labelled_more labels l cs)

pub none_passed : (arms : List code_arm.Arm) (cases : List CaseItem) → PassesLabels arms arms cases (cases_of (map case_view cases))
none_passed arms cases = ([], refl, sym (append-nil (map arm_view arms)))

module _ (before now : List code_arm.Arm) (cases rest : List CaseItem) (so_far : PassesLabels before now cases (cases_of (map case_view rest))) where
  -- what is left is known
  left_is : (left : program.Cases) → cases_of (map case_view rest) ≡ left → PassesLabels before now cases left
  left_is left e = subst (λ z. PassesLabels before now cases z) e so_far

  pub no_case_left : rest ≡ [] → PassesLabels before now cases no_cases
  no_case_left e = left_is no_cases (ap (λ z. cases_of (map case_view z)) e)

  module _ (first : CaseItem) (behind : List CaseItem) (is : rest ≡ first ∷ behind) where
    abbrev others : program.Cases
    others = cases_of (map case_view behind)

    pub one_label_more : (l : CaseLabel) (after : List code_arm.Arm) → first ≡ code_case.Label l → after ≡ now ++ code_arm.Entry l ∷ []
        → PassesLabels before after cases others
    one_label_more l after e pushed =
        let left = ap (λ z. cases_of (map case_view z)) is ∙ ap (λ z. case_view z others) e ∙ shown_label l others in
        let parts = ap (map arm_view) pushed ∙ map-append arm_view now (code_arm.Entry l ∷ []) ∙ ap (λ z. map arm_view now ++ z ∷ []) (shown_entry l) in
        let longer = append_assoc (map arm_view before) (map entry_part so_far.0) (entry_part l ∷ []) ∙ ap (λ z. map arm_view before ++ z) (sym (map-append entry_part so_far.0
        (l ∷ []))) in (
          so_far.0 ++ l ∷ [],
          so_far.1 ∙ ap (labelled_all so_far.0) left ∙ sym (labelled_more so_far.0 l others),
          parts ∙ ap (λ z. z ++ entry_part l ∷ []) so_far.2 ∙ longer,
        )

    pub statement_left : (s : Stmt) → first ≡ code_case.Stated s → PassesLabels before now cases (stated (stmt_view s) others)
    statement_left s e = left_is (stated (stmt_view s) others) (ap (λ z. cases_of (map case_view z)) is ∙ ap (λ z. case_view z others) e
        ∙ shown_stated s others)

-- labels take no steps
module _ (called : Call → ℕ) where
  labels_free : (labels : List CaseLabel) (cs : program.Cases) → cases_steps called (labelled_all labels cs) ≡ cases_steps called cs
  labels_free [] cs = refl
  labels_free (l ∷ labels) cs = labels_free labels cs

  steps_left : (before after : List code_arm.Arm) (cases : List CaseItem) (left : program.Cases) → PassesLabels before after cases left
      → cases_steps called (cases_of (map case_view cases)) ≡ cases_steps called left
  steps_left before after cases left (labels, is, arms) = ap (cases_steps called) is ∙ labels_free labels left

  module _ (before after : List code_arm.Arm) (cases : List CaseItem) (left : program.Cases) (passed : PassesLabels before after cases left) where
    -- one is left if no statement is
    pub none_steps : left ≡ no_cases → 0 < cases_steps called (cases_of (map case_view cases))
    none_steps e =
        let one : cases_steps called (cases_of (map case_view cases)) ≡ 1 = steps_left before after cases left passed ∙ ap (cases_steps called) e in
        omega (arith, one)

    pub fewer_steps : (a : program.Stmt) (cs : program.Cases) → left ≡ stated a cs
        → cases_steps called cs + stmt_steps called a < cases_steps called (cases_of (map case_view cases))
    fewer_steps a cs e =
        let more : cases_steps called (cases_of (map case_view cases)) ≡ 1 + (stmt_steps called a + cases_steps called cs) =
        steps_left before after cases left passed ∙ ap (cases_steps called) e in
        omega (arith, more)

-- the `switch`'s own step comes before them
pub own_step_more : (m n : ℕ) → m < n → m < 1 + n
own_step_more m n fewer = omega (arith, fewer)
