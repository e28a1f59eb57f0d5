-- What is sought where a run of a whole program stands is found in its tree; so what the run reaches, its tree reaches,
-- on the same trace.
use Rattle.std.proofs.Common.{◌≡◌, ℕ, zero, suc, ℤ, List, [], ◌∷◌, length, Some, false, refl, arith}
use Rattle.std.proofs.lemmas.Option.{none-some}
use Rattle.lra_inline_sound.specs.Crates.lra_program.Step.{State, Config, run_op, truncate_to, end_of}
use Rattle.lra_inline_sound.specs.Crates.{lra_program.Program.Program, lra_program.Run.begun, lra_program.Run.start, lra_program.Run.label_on, lra_program.Run.Point, lra_program.Run.IsOn}
use Rattle.lra_inline_sound.specs.Crates.{lra_program.Sites.Site, lra_program.Sites.sites_of, lra_program.Traces.TraceEvent, lra_program.Traces.Trace, lra_program.Traces.TracedSteps}
use Rattle.lra_operations.specs.Inlined.{move, IsSiteAt, InlineItems, main_frame, main_inline_state}
use Rattle.lra_operations.specs.{Agree.IsInlinedTree, TracesAgree.KeepsWidth, TracesAgree.point_at, Tree.broken, Tree.continued, Tree.returned, Tree.Node, Tree.seq, Tree.point}
use Rattle.lra_inline_sound.proofs.Split.{trail, Splits, hits, ended, jumped, all_below, enters, plain, IsSought}
use Rattle.lra_inline_sound.proofs.{Landing.config, Landing.go_some, Lengths.begun_length, Lengths.length_all, NextOperations.Question, Stops.Hit, Stops.stops}

module _ (may : State → State → Type 0) (keeps : KeepsWidth may) (P : Program) (T : List Site) (c : Config) (zs : List (TraceEvent Point)) (p : ℕ)
    (on : label_on c.items ≡ Some p) (H : Node → Trace Point → Type 0) (F : IsSought may P T c zs H) (body : Node) (last live : ℕ)
    (d : InlineItems P T (main_inline_state P) P.main.body body live last) (has : IsSiteAt T (move (main_inline_state P) live last) P.main.end) where
  -- main's end is there, or nothing follows it
  at_end : (m : Trace Point) (n : ℕ) → length m.state.store ≡ live
      → TracedSteps may P n (config (end_of P.main.end (length P.globals) ∷ []) (main_frame P).here m.state) m.events c zs
      → H (point last) m
  at_end m zero l t = F.main_end (move (main_inline_state P) live last) (length P.globals) P.main.end has m l t
  at_end m (suc n) l t =
      let x = enters may keeps P T c zs p on H F (end_of P.main.end (length P.globals) ∷ []) (move (main_inline_state P) live last) P.main.end false n m has l
      refl t in
      let y = go_some [] (main_frame P).here (run_op (truncate_to (length P.globals)) x.past.state) x.goal x.step in
      let z = plain may keeps P T c zs p on H F (config [] (main_frame P).here y.0) x.past.events n refl (rw y.2 x.rest) in
      absurd (none-some z.1 z.3)

  whole : (a : Trace Point) (n : ℕ) → length a.state.store ≡ length P.globals
      → Splits may keeps P T c zs p on H F (main_frame P).here (end_of P.main.end (length P.globals) ∷ []) n body a → H (seq body (point last)) a
  whole a n l (hits x) = F.closed.first body (point last) a x
  whole a n l (ended j m i e t) = F.closed.second body (point last) a m e (at_end m j ((length_all (point_at T) may keeps d).ends a m _ l e) t)
  whole a n l (jumped j broken m e i x b t) = absurd (none-some e b)
  whole a n l (jumped j continued m e i x b t) = absurd (none-some e b)
  whole a n l (jumped j returned m e i x b t) = absurd (none-some e b)

module _ (may : State → State → Type 0) (keeps : KeepsWidth may) where
  -- what is sought is found
  pub found : (P : Program) (g : Node) → IsInlinedTree P g → (c : Config) (zs : List (TraceEvent Point)) (p : ℕ) (draws : List ℤ) (n : ℕ)
      → TracedSteps may P n (start P draws) [] c zs → label_on c.items ≡ Some p
      → (H : Node → Trace Point → Type 0) → IsSought may P (sites_of P) c zs H → H g (trail (begun P draws) [])
  found P g is c zs p draws n w on H F =
      let cut = (all_below may keeps P (sites_of P) c zs p on H F (suc n)).every (main_inline_state P) P.main.body is.body is.live is.last is.inlined
      (end_of P.main.end (length P.globals) ∷ []) (trail (begun P draws) []) n
      (record { breaks = λ m e. absurd (none-some m e); continues = λ m e. absurd (none-some m e); backs = refl }) (begun_length P draws)
      (omega arith) w in
      rw is.parts (whole may keeps P (sites_of P) c zs p on H F is.body is.last is.live is.inlined is.ends (trail (begun P draws) []) n
      (begun_length P draws) cut)

  -- the tree reaches each point at which a run stands, and fails where the run fails
  module _ (Q : Question) where
    pub reached : (P : Program) (g : Node) → IsInlinedTree P g → (c : Config) (zs : List (TraceEvent Point)) (p : Point) (draws : List ℤ) (n : ℕ)
        → TracedSteps may P n (start P draws) [] c zs → IsOn c p
        → Hit may Q P (sites_of P) c zs p.label g (trail (begun P draws) [])
    reached P g is c zs p draws n w on = found P g is c zs p.label draws n w on.label (Hit may Q P (sites_of P) c zs p.label)
        (stops may Q P (sites_of P) c zs p.label on.label)
