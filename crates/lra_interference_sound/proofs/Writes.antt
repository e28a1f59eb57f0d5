-- What a run of a whole program gives, its tree gives, on the same trace.
use Rattle.std.proofs.Common.{◌≡◌, ℕ, ℤ, List, [], ◌∷◌, length, Some, None, ◌⊎◌, inl, inr, refl, sym, ap, ◌∙◌, subst}
use Rattle.lra_interference_sound.specs.Crates.lra_program.Program.{Program, Stmt, absent, nothing, block, assign, write, call, if, loop, for, break, continue, return, assert, assume, switch}
use Rattle.lra_interference_sound.specs.Crates.lra_program.Run.{start, label_on, Point}
use Rattle.lra_interference_sound.specs.Crates.lra_program.Step.{State, Config, ReturnFrame, Item, CallContext, run, declare, declare_array, all, end_of, next_round, cases, end_switch, end_for}
use Rattle.lra_interference_sound.specs.Crates.lra_program.Step.{return_frame, leave_call, havoc}
use Rattle.lra_interference_sound.specs.Crates.lra_program.Traces.{TraceEvent, visit, Trace, with_visit, Becomes, TracedSteps}
use Rattle.lra_interference_sound.specs.Crates.{lra_operations.Agree.IsInlinedTree, lra_operations.TracesAgree.KeepsWidth, lra_operations.Tree.Node, lra_program.Sites.sites_of}
use Rattle.lra_inline_sound.proofs.{Landing.IsBare, Reached.found}
use Rattle.lra_interleavings.specs.{ThreadModular.WritesThere, Writes.OpWrites, Writes.StepWrites}
use Rattle.lra_interference_sound.specs.WritesAgree.{TreeWrites, AllWritesAgree}
use Rattle.lra_interference_sound.proofs.{Guarded.Ends, Guarded.behind_end, TopWrites.TopGives, WriteHits.Hit, WriteHits.gifts}

module _ (may : State → State → Type 0) (keeps : KeepsWidth may) (x : ℕ) where
  module _ (P : Program) (g : Node) (is : IsInlinedTree P g) (draws : List ℤ) (a : Trace Point) where
    -- at a point
    at_point : (n : ℕ) (c : Config) (xs : List (TraceEvent Point)) (s : State) (label : ℕ) → label_on c.items ≡ Some label →
        TracedSteps may P n (start P draws) [] c xs
        → may c.state s
        → TopGives x a.state P c.items c.here s → a.events ≡ visit (record { path = c.here.path; label = label }) c.state ∷ xs
        → (q : ℕ) × TreeWrites may P g draws q x a
    at_point n c xs s label on w m gives met =
        let hit = found may keeps P g is c xs label draws n w on (Hit may x P (sites_of P) c xs label)
        (gifts may keeps x P (sites_of P) c xs label on) in
        (hit.number, hit.leads s a m gives met)

    -- what is on top has a point, or is a function's end
    abbrev Top : List Item → CallContext → State → Type 0
    Top k h s = ((label : ℕ) × (label_on k ≡ Some label) × TopGives x a.state P k h s) ⊎
        ((b : ReturnFrame) × (r : List Item) × (k ≡ return_frame b ∷ r) × OpWrites x a.state (havoc b.receiver) s)

    top_statement : (b : Stmt) (k : List Item) (h : CallContext) (s : State) → StepWrites x a.state P (run b ∷ k) h s → Top (run b ∷ k) h s
    top_statement absent k h s (inl v) = absurd v
    top_statement absent k h s (inr v) = absurd v
    top_statement (nothing at) k h s v = inl (at, refl, v)
    top_statement (block body end) k h s (inl v) = absurd v
    top_statement (block body end) k h s (inr v) = absurd v
    top_statement (assign at y e) k h s v = inl (at, refl, v)
    top_statement (write at y e) k h s v = inl (at, refl, v)
    top_statement (call at q) k h s v = inl (at, refl, v)
    top_statement (if at q t e) k h s v = inl (at, refl, v)
    top_statement (loop at q t step) k h s v = inl (at, refl, v)
    top_statement (for at init q t step) k h s (inl v) = absurd v
    top_statement (for at init q t step) k h s (inr v) = absurd v
    top_statement (break at) k h s v = inl (at, refl, v)
    top_statement (continue at) k h s v = inl (at, refl, v)
    top_statement (return at e) k h s v = inl (at, refl, v)
    top_statement (assert at q) k h s v = inl (at, refl, v)
    top_statement (assume at q) k h s v = inl (at, refl, v)
    top_statement (switch at e cs) k h s v = inl (at, refl, v)

    top : (k : List Item) (h : CallContext) (s : State) → StepWrites x a.state P k h s → Top k h s
    top [] h s (inl v) = absurd v
    top [] h s (inr v) = absurd v
    top (run b ∷ k) h s v = top_statement b k h s v
    top (declare d ∷ k) h s v = inl (d.label, refl, v)
    top (declare_array at z ∷ k) h s v = inl (at, refl, v)
    top (all b ∷ k) h s (inl v) = absurd v
    top (all b ∷ k) h s (inr v) = absurd v
    top (end_of at n ∷ k) h s (inl v) = absurd v
    top (end_of at n ∷ k) h s (inr v) = absurd v
    top (next_round step again n ∷ k) h s (inl v) = absurd v
    top (next_round step again n ∷ k) h s (inr v) = absurd v
    top (cases cs ∷ k) h s (inl v) = absurd v
    top (cases cs ∷ k) h s (inr v) = absurd v
    top (end_switch n ∷ k) h s (inl v) = absurd v
    top (end_switch n ∷ k) h s (inr v) = absurd v
    top (end_for n ∷ k) h s (inl v) = absurd v
    top (end_for n ∷ k) h s (inr v) = absurd v
    top (return_frame b ∷ k) h s (inl v) = absurd v
    top (return_frame b ∷ k) h s (inr v) = inr (b, k, refl, v)
    top (leave_call ∷ k) h s (inl v) = absurd v
    top (leave_call ∷ k) h s (inr v) = absurd v

    -- after a function's end
    at_mark : (c : Config) (xs : List (TraceEvent Point)) (b : ReturnFrame) (r : List Item) → c.items ≡ return_frame b ∷ r →
        OpWrites x a.state (havoc b.receiver) c.state
        → a.events ≡ xs
        → Ends P may (start P draws) [] c xs → (q : ℕ) × TreeWrites may P g draws q x a
    at_mark c xs b r k o met (inl (same, none)) = absurd (not_first (ap (λ (d : Config). d.items) same ∙ k))
      where
        not_first : all P.main.body ∷ end_of P.main.end (length P.globals) ∷ [] ≡ return_frame b ∷ r → ⊥
        not_first e = cc
    at_mark c xs b r k o met (inr end) =
        let t = end.there in
        let items : t.items ≡ end_of end.from.label end.from.kept ∷ return_frame b ∷ r =
        end.from.items ∙ ap (λ is. end_of end.from.label end.from.kept ∷ is) k in
        let on : label_on t.items ≡ Some end.from.label = ap label_on items in
        let gives : TopGives x a.state P (end_of end.from.label end.from.kept ∷ return_frame b ∷ r) t.here end.past = (c.state, end.from.cuts, o) in
        at_point end.steps t end.before end.past end.from.label on end.walk (subst (λ l. Becomes may l t.state end.past) on end.changed)
        (subst (λ is. TopGives x a.state P is t.here end.past) (sym items) gives)
        (met ∙ end.met ∙ ap (λ l. with_visit l t.here.path t.state end.before) on)

    gives_so : WritesThere may P draws x a → (q : ℕ) × TreeWrites may P g draws q x a
    gives_so (n, c, xs, s, d, w, becomes, next_is, gives, met) = by (top c.items c.here s gives)
      where
        covered : (b : ReturnFrame) (r : List Item) → c.items ≡ return_frame b ∷ r → IsBare c.items → ⊥
        covered b r k bare = subst IsBare k bare

        by : Top c.items c.here s → (q : ℕ) × TreeWrites may P g draws q x a
        by (inl (label, on, v)) =
            at_point n c xs s label on w (subst (λ l. Becomes may l c.state s) on becomes) v (met ∙ ap (λ l. with_visit l c.here.path c.state xs) on)
        by (inr (b, r, k, o)) =
            let silent : label_on c.items ≡ None = ap label_on k in
            let same : s ≡ c.state = subst (λ l. Becomes may l c.state s) silent becomes in
            at_mark c xs b r k (subst (λ (u : State). OpWrites x a.state (havoc b.receiver) u) same o)
            (met ∙ ap (λ l. with_visit l c.here.path c.state xs) silent)
            (behind_end P may n (start P draws) c [] xs (tt, tt) (covered b r k) w)

pub writes_agree : AllWritesAgree
writes_agree may keeps P g is draws x a given = gives_so may keeps x P g is draws a given
