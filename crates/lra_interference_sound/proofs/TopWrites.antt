-- What the step from an item with a point gives, and what of it stands in the shapes of trees.
use Rattle.std.proofs.Common.{◌≡◌, ℕ, suc, ◌+◌, List, [], ◌∷◌, Some, Bool, true, false, ◌⊎◌, inl, inr, refl}
use Rattle.std.specs.Prelude.{cond}
use Rattle.lra_interference_sound.specs.Crates.lra_operations.Tree.{Node, Arms, no_arms, entry, arm}
use Rattle.lra_interference_sound.specs.Crates.lra_program.Step.{State, havoc, truncate_to, run_op, CallContext, Item, run, declare, declare_array, all, end_of, next_round, cases, end_switch, end_for}
use Rattle.lra_interference_sound.specs.Crates.{lra_base.CaseLabels.is_same_case, lra_base.declared.case_labels.CaseLabel.CaseLabel, lra_operations.Inlined.loop_node}
use Rattle.lra_interference_sound.specs.Crates.{lra_operations.Traces.VisitsPoint, lra_program.Program.Cond, lra_program.Program.Program, lra_program.Run.Point, lra_program.Step.return_frame}
use Rattle.lra_interference_sound.specs.Crates.{lra_program.Step.leave_call, lra_program.Traces.Trace, lra_program.declared.receivers.Receiver.Receiver}
use Rattle.lra_interference_sound.proofs.Crates.lra_operations.ArmRows.{arms_row, row_behind}
use Rattle.lra_inline_sound.proofs.{Landing.IsBare, Shapes.tail_node, Shapes.Round, Shapes.rounds_first}
use Rattle.lra_analysis_spec.specs.Instrumented as opened
use Rattle.lra_interleavings.specs.Writes.{OpWrites, StepWrites}

-- at a function's end: what is given after it, before a further point is met
abbrev pub EndGives : ℕ → State → ℕ → List Item → State → Type 0
EndGives x t n [] s = ⊥
EndGives x t n (run a ∷ k) s = ⊥
EndGives x t n (declare d ∷ k) s = ⊥
EndGives x t n (declare_array at a ∷ k) s = ⊥
EndGives x t n (all a ∷ k) s = ⊥
EndGives x t n (end_of at m ∷ k) s = ⊥
EndGives x t n (next_round step again m ∷ k) s = ⊥
EndGives x t n (cases cs ∷ k) s = ⊥
EndGives x t n (end_switch m ∷ k) s = ⊥
EndGives x t n (end_for m ∷ k) s = ⊥
EndGives x t n (return_frame b ∷ k) s = (u : State) × (run_op (truncate_to n) s ≡ Some u) × OpWrites x t (havoc b.receiver) u
EndGives x t n (leave_call ∷ k) s = ⊥

abbrev pub TopGives : ℕ → State → Program → List Item → CallContext → State → Type 0
TopGives x t P [] h s = ⊥
TopGives x t P (run a ∷ k) h s = StepWrites x t P (run a ∷ k) h s
TopGives x t P (declare d ∷ k) h s = StepWrites x t P (declare d ∷ k) h s
TopGives x t P (declare_array at a ∷ k) h s = StepWrites x t P (declare_array at a ∷ k) h s
TopGives x t P (all a ∷ k) h s = ⊥
TopGives x t P (end_of at n ∷ k) h s = EndGives x t n k s
TopGives x t P (next_round step again n ∷ k) h s = ⊥
TopGives x t P (cases cs ∷ k) h s = ⊥
TopGives x t P (end_switch n ∷ k) h s = ⊥
TopGives x t P (end_for n ∷ k) h s = ⊥
TopGives x t P (return_frame b ∷ k) h s = ⊥
TopGives x t P (leave_call ∷ k) h s = ⊥

pub no_end : (x : ℕ) (t : State) (n : ℕ) (k : List Item) (s : State) → IsBare k → EndGives x t n k s → ⊥
no_end x t n [] s b e = e
no_end x t n (run a ∷ k) s b e = e
no_end x t n (declare d ∷ k) s b e = e
no_end x t n (declare_array at a ∷ k) s b e = e
no_end x t n (all a ∷ k) s b e = e
no_end x t n (end_of at m ∷ k) s b e = e
no_end x t n (next_round step again m ∷ k) s b e = e
no_end x t n (cases cs ∷ k) s b e = e
no_end x t n (end_switch m ∷ k) s b e = e
no_end x t n (end_for m ∷ k) s b e = e
no_end x t n (return_frame c ∷ k) s b e = b
no_end x t n (leave_call ∷ k) s b e = e

pub neither : ⊥ ⊎ ⊥ → ⊥
neither (inl x) = x
neither (inr x) = x

pub asked_only : {A : Type 0} → A ⊎ ⊥ → A
asked_only (inl x) = x
asked_only (inr x) = absurd x

pub any_only : {A : Type 0} → ⊥ ⊎ A → A
any_only (inl x) = absurd x
any_only (inr x) = x

module _ (name : ℕ → Point) (may : State → State → Type 0) where
  abbrev Given : Node → ℕ → Trace Point → ℕ → Trace Point → Type 0
  Given g x a q b = opened.WritesVariable name may g a q x b

  -- a function's end
  pub tail_gives : (r n params x : ℕ) (to : Receiver) (a b d : Trace Point) → VisitsPoint name may r a b
      → ((u : State) × (run_op (truncate_to (n + params)) b.state ≡ Some u) × OpWrites x d.state (havoc to) u) → d.events ≡ b.events
      → Given (tail_node r n to params) x a r d
  tail_gives r n params x to a b d m (u, cuts, gives) e =
      inr (b, m, inr (record { state = u; events = b.events }, (cuts, refl), inl (refl, gives.0, (gives.1, e))))

  module _ (x : ℕ) where
    arms_give : (l : CaseLabel) (arms : Arms) (a : Trace Point) (q : ℕ) (b : Trace Point) → Given (arms_row arms) x a q b
        → opened.ArmsWriteVariable name may l true arms a q x b
    arms_give l no_arms a q b g = g
    arms_give l (entry k arms) a q b g = arms_give l arms a q b g
    arms_give l (arm g' arms) a q b (inl g) = inl g
    arms_give l (arm g' arms) a q b (inr (m, e, g)) = inr (m, e, arms_give l arms m q b g)

    entered_gives : (l : CaseLabel) (arms : Arms) (t : Bool)
        → ((a : Trace Point) (q : ℕ) (b : Trace Point) → Given (row_behind l arms) x a q b → opened.ArmsWriteVariable name may l false arms a q x b)
        → (a : Trace Point) (q : ℕ) (b : Trace Point) → Given (cond t (arms_row arms) (row_behind l arms)) x a q b →
        opened.ArmsWriteVariable name may l t arms a q x b
    entered_gives l arms true each a q b g = arms_give l arms a q b g
    entered_gives l arms false each a q b g = each a q b g

    -- after a label
    pub row_gives : (l : CaseLabel) (arms : Arms) (a : Trace Point) (q : ℕ) (b : Trace Point) → Given (row_behind l arms) x a q b
        → opened.ArmsWriteVariable name may l false arms a q x b
    row_gives l no_arms a q b g = g
    row_gives l (entry k arms) a q b g = entered_gives l arms (is_same_case l k) (row_gives l arms) a q b g
    row_gives l (arm g' arms) a q b g = row_gives l arms a q b g

  -- a loop's round more, at the start
  pub loop_gives : (q base : ℕ) (c : Cond) (g step : Node) (x : ℕ) (a v : Trace Point) (r : ℕ) (d : Trace Point) → Round name may q base c g step a v
      → Given (loop_node q base c g step) x v r d → Given (loop_node q base c g step) x a r d
  loop_gives q base c g step x a v r d round (n, m, rounds, w, tests, given) =
      (suc n, m, rounds_first name may (Round name may q base c g step) n a v m round rounds, w, tests, given)
