-- What the tree of a whole program reaches, some run reaches, on the same trace.
use Rattle.std.proofs.{Common.◌≡◌, Common.ℕ, Common.ℤ, Common.List, Common.[], Common.◌∷◌, Common.length, Common.false, Common.inl, Common.inr, Common.refl, lemmas.Option.none-some}
use Rattle.lra_inline_sound.specs.Crates.{lra_program.Program.Program, lra_program.Run.begun, lra_program.Run.Point, lra_program.Run.start, lra_program.Sites.Site, lra_program.Sites.sites_of}
use Rattle.lra_inline_sound.specs.Crates.{lra_program.Step.State, lra_program.Step.Item, lra_program.Step.all, lra_program.Step.end_of, lra_program.Traces.Trace}
use Rattle.lra_operations.specs.{Agree.IsInlinedTree, Inlined.move, Inlined.IsSiteAt, Inlined.InlineItems, Inlined.main_frame, Inlined.main_inline_state, Traces.Stop, Traces.by_jump, Traces.to_point}
use Rattle.lra_operations.specs.{Traces.to_failure, Traces.to_end, Traces.stopped, Traces.RunsUpTo, TracesAgree.KeepsWidth, TracesAgree.point_at, Tree.Node, Tree.seq, Tree.point}
use Rattle.lra_inline_sound.proofs.Does.{Fulfils, Stands, Denied, later, stands_here, does_all}
use Rattle.lra_inline_sound.proofs.{Landing.config, Landing.Matches, Lengths.begun_length, Lengths.length_all, Split.trail}

abbrev bottom : Program → List Item
bottom P = end_of P.main.end (length P.globals) ∷ []

bottom_matches : (P : Program) → Matches (main_frame P) (bottom P)
bottom_matches P = record { breaks = λ m e. absurd (none-some m e); continues = λ m e. absurd (none-some m e); backs = refl }

module _ (may : State → State → Type 0) (keeps : KeepsWidth may) where
  module _ (P : Program) (T : List Site) (body : Node) (last live : ℕ) (d : InlineItems P T (main_inline_state P) P.main.body body live last)
      (has : IsSiteAt T (move (main_inline_state P) live last) P.main.end) where
    fulfils : (a : Trace Point) (z : Stop) (b : Trace Point) → length a.state.store ≡ length P.globals → RunsUpTo (point_at T) may (seq body (point last)) a (stopped z) b
        → Fulfils may keeps P T (main_frame P).here (bottom P) (stopped z) b (config (all P.main.body ∷ bottom P) (main_frame P).here a.state) a.events
    fulfils a z b l (inl x) = (does_all may keeps P T d).runs (bottom P) a (stopped z) b (bottom_matches P) l x
    fulfils a (by_jump j) b l (inr (m, e, x)) = absurd x.0
    fulfils a (to_point q) b l (inr (m, e, (i, x))) =
        later may keeps P T (main_frame P).here (bottom P) (stopped (to_point q)) b (config (all P.main.body ∷ bottom P) (main_frame P).here a.state)
        (config (bottom P) (main_frame P).here m.state) a.events m.events
        ((does_all may keeps P T d).runs (bottom P) a to_end m (bottom_matches P) l e)
        (rw i (stands_here may keeps P T (move (main_inline_state P) live last) P.main.end false (bottom P) m b has refl ((length_all (point_at T) may keeps d).ends a m to_end l e) x))
    fulfils a (to_failure q) b l (inr (m, e, x)) = absurd x.0

  module _ (P : Program) (g : Node) (is : IsInlinedTree P g) (draws : List ℤ) where
    pub performed : (q : ℕ) (b : Trace Point) → RunsUpTo (point_at (sites_of P)) may g (trail (begun P draws) []) (stopped (to_point q)) b
        → Stands may keeps P (sites_of P) (start P draws) [] q b
    performed q b x = fulfils P (sites_of P) is.body is.last is.live is.inlined is.ends (trail (begun P draws) []) (to_point q) b
        (begun_length P draws) (rw is.parts at x)

    pub failed : (q : ℕ) (b : Trace Point) → RunsUpTo (point_at (sites_of P)) may g (trail (begun P draws) []) (stopped (to_failure q)) b
        → Denied may keeps P (sites_of P) (start P draws) [] q b
    failed q b x = fulfils P (sites_of P) is.body is.last is.live is.inlined is.ends (trail (begun P draws) []) (to_failure q) b
        (begun_length P draws) (rw is.parts at x)
