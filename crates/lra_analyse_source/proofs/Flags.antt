-- The first flagged point of a program's iteration is a point of the program.
use Rattle.std.proofs.Common.{◌≡◌, ℕ, zero, suc, ◌-◌, ◌<◌, List, [], ◌∷◌, length, Option, Some, None, Bool, sym, subst}
use Rattle.std.proofs.lemmas.Option.{slice_get_within}
use Rattle.std.specs.Prelude.{⊤}
use Rattle.lra_analyse_source.specs.Crates.lra_analysis_spec.Pass.{Absorption, nothing_absorbed, PassResult, noted, Transformer, LoopRoundFrom, AscendingIteration, DescendingIteration, PassUnder}
use Rattle.lra_analyse_source.specs.Crates.lra_analysis_spec.Pass.{ArmsPassUnder}
use Rattle.lra_analyse_source.specs.Crates.lra_operations.Inlined.{InlineState, move, IsSiteWith, InlineStmt, InlineItems, InlineDeclarator, InlineLoop, InlineRvalue, as_nothing, as_block, as_absent}
use Rattle.lra_analyse_source.specs.Crates.lra_operations.Inlined.{as_assign, as_call, as_if, as_loop, as_for, as_break, as_continue, as_return, as_return_value, as_return_call, as_end, as_end_value}
use Rattle.lra_analyse_source.specs.Crates.lra_operations.Inlined.{as_end_call, as_assert, as_assume, as_none, as_declaration, as_statement, as_fresh, as_given, is_loop, as_value, as_result, is_call}
use Rattle.lra_analyse_source.specs.Crates.lra_operations.Inlined.{InlineCall, as_array, as_write, as_write_call, InlineCases, as_switch, as_no_cases, as_labelled, as_stated}
use Rattle.lra_analyse_source.specs.Crates.lra_operations.Tree.{Node, empty, probe, point, act, check, seq, choose, iterate, catch, leave, select, Arms, no_arms, entry, arm}
use Rattle.lra_analyse_source.specs.Crates.lra_operations.declared.probes.Probe.TheVariants.{InterferencePoint, RecordWrite}
use Rattle.lra_analyse_source.specs.Crates.lra_program.Program.{Expr, Cond, Call, Rvalue, Stmt, Cases, BlockItems, Program}
use Rattle.lra_analyse_source.specs.Crates.{lra_analysis_spec.Analysis.Iteration, lra_analysis_spec.Operations.Operations, lra_analysis_spec.Plan.Plan, lra_analysis_spec.Plan.Widening}
use Rattle.lra_analyse_source.specs.Crates.{lra_analysis_spec.UnderInterference.IterationUnder, lra_base.declared.number_types.NumberType.NumberType, lra_domain.declared.Exactness.Exactness}
use Rattle.lra_analyse_source.specs.Crates.{lra_domain.declared.Exactness.TheVariants.Exact, lra_domain.declared.Exactness.TheVariants.Flagged, lra_operations.Agree.IsInlinedTree}
use Rattle.lra_analyse_source.specs.Crates.{lra_program.Sites.Site, lra_program.Sites.sites_of, lra_program.Step.Op, lra_program.Value.Argument, lra_program.declared.receivers.Receiver.Receiver}
use Rattle.lra_analyse_source.proofs.Crates.lra_analysis_spec.Transfer.{jump_flag, behind_flag}
use Rattle.lra_fixpoint.specs.Numbers.{ArmsAreBelow, AreBelow}

-- the first flagged point, if there is one, is below n
abbrev pub IsBelow : ℕ → Option ℕ → Type 0
IsBelow n None = ⊤
IsBelow n (Some q) = q < n

-- trees --------------------------------------------------------------------------------------------------------------

module _ (P : Program) (T : List Site) where
  site_below : (s : InlineState) (at : ℕ) (b : Bool) → IsSiteWith T s at b → s.next < length T
  site_below s at b has = slice_get_within T s.next _ has

  abbrev Below : Node → Type 0
  Below g = AreBelow (length T) g

  -- a loop's own point, and its tree
  abbrev LoopBelow : Node → ℕ → Type 0
  LoopBelow g q = (q < length T) × Below g

  mutual
    below_one : {spot : InlineState} {s : Stmt} {g : Node} {q : ℕ} → InlineStmt P T spot s g q → Below g
    below_one (as_nothing i) = tt
    below_one (as_block {s = spot} {end = end} {n = n'} {q = q'} d i) = (below_all d, (tt, site_below (move spot n' q') end _ i))
    below_one as_absent = tt
    below_one (as_assign {s = spot} {at = at} i d) = (tt, below_gives d (site_below spot at _ i))
    below_one (as_write {s = spot} {at = at} i) = (tt, site_below spot at _ i)
    below_one (as_write_call {s = spot} {at = at} i d) = (tt, below_calls d (site_below spot at _ i))
    below_one (as_call {s = spot} {at = at} i d) = (tt, below_gives d (site_below spot at _ i))
    below_one (as_if {s = spot} {at = at} i d e) = (tt, (site_below spot at _ i, below_one d, below_one e))
    below_one (as_loop d) = (below_loop d).1
    below_one (as_for d e) = let l = below_loop e in (below_all d, (l.1, l.0))
    below_one (as_break {s = spot} {at = at} i l j) = (tt, (site_below spot at _ j, tt))
    below_one (as_continue {s = spot} {at = at} i l j) = (tt, (site_below spot at _ j, tt))
    below_one (as_return {s = spot} {at = at} i l j) = (tt, (site_below spot at _ j, (site_below spot at _ j, tt)))
    below_one (as_return_value {s = spot} {at = at} i l j) = (tt, (site_below spot at _ j, (site_below spot at _ j, tt)))
    below_one (as_return_call {s = spot} {at = at} i l j d) = (tt, (below_gives d (site_below spot at _ j), (site_below spot at _ j, tt)))
    below_one (as_end i j) = (tt, tt)
    below_one (as_end_value {s = spot} {at = at} i j) = (tt, (site_below spot at _ j, tt))
    below_one (as_end_call {s = spot} {at = at} i j d) = (tt, (below_gives d (site_below spot at _ j), tt))
    below_one (as_assert {s = spot} {at = at} i) = (tt, site_below spot at _ i)
    below_one (as_assume {s = spot} {at = at} i) = (tt, site_below spot at _ i)
    below_one (as_switch {s = spot} {at = at} i d) = let l = site_below spot at _ i in (tt, (l, (l, below_cases d)))

    below_cases : {spot : InlineState} {cs : Cases} {arms : Arms} {q : ℕ} → InlineCases P T spot cs arms q → ArmsAreBelow (length T) arms
    below_cases as_no_cases = tt
    below_cases (as_labelled d) = below_cases d
    below_cases (as_stated d e) = (below_one d, below_cases e)

    below_all : {spot : InlineState} {s : BlockItems} {g : Node} {n q : ℕ} → InlineItems P T spot s g n q → Below g
    below_all as_none = tt
    below_all (as_declaration {s = spot} i j e) = ((tt, below_declares j (site_below spot _ _ i)), below_all e)
    below_all (as_array {s = spot} {at = at} i e) = ((tt, site_below spot at _ i), below_all e)
    below_all (as_statement d e) = (below_one d, below_all e)

    below_declares : {spot : InlineState} {r : ℕ} {t : NumberType} {e : Option Rvalue} {g : Node} {q : ℕ} → InlineDeclarator P T spot r t e g q →
        spot.next < length T → Below
        g
    below_declares as_fresh l = l
    below_declares (as_given d) l = (l, below_gives d l)

    below_loop : {spot : InlineState} {r : ℕ} {s : Stmt} {g : Node} {q : ℕ} → InlineLoop P T spot r s g q → LoopBelow g spot.next
    below_loop (is_loop {s = spot} {at = at} i d e) = let l = site_below spot at _ i in (l, (l, (l, ((l, below_one e), below_one d))))

    below_gives : {spot : InlineState} {r : ℕ} {x : Receiver} {e : Rvalue} {g : Node} {q : ℕ} → InlineRvalue P T spot r x e g q → spot.next < length T → Below g
    below_gives as_value l = l
    below_gives (as_result d) l = below_calls d l

    below_calls : {spot : InlineState} {r : ℕ} {x : Receiver} {gives : List Argument → Op} {c : Call} {g : Node} {q : ℕ} → InlineCall P T spot r x gives c g q →
        spot.next < length T → Below g
    below_calls (is_call {q = r'} i j d h) l = let m = slice_get_within T r' _ h in (l, (l, (below_all d, (tt, (m, (m, m))))))

pub graph_below : (P : Program) (g : Node) → IsInlinedTree P g → AreBelow (length (sites_of P)) g
graph_below P g graph = subst (λ (h : Node). AreBelow (length (sites_of P)) h) (sym graph.parts) (below_all P (sites_of P) graph.inlined, tt)

-- passes -------------------------------------------------------------------------------------------------------------

noted_below : (n q : ℕ) (e : Exactness) (f : Option ℕ) → q < n → IsBelow n f → IsBelow n (noted q e f)
noted_below n q e (Some p) l b = b
noted_below n q Exact None l b = tt
noted_below n q Flagged None l b = l

module _ (V H : Type 0) (ops : Operations V H) (admission : Absorption V) (n : ℕ) where
  flag_is : (f g : Option ℕ) → f ≡ g → IsBelow n g → IsBelow n f
  flag_is f g e b = subst (λ (h : Option ℕ). IsBelow n h) (sym e) b

  result_is : (r s : PassResult V) → r ≡ s → IsBelow n s.flag → IsBelow n r.flag
  result_is r s e b = subst (λ (x : PassResult V). IsBelow n x.flag) (sym e) b

  module _ (q base : ℕ) (c : Cond) (body : Transformer V) (l : q < n) (inside : (f : Option ℕ) (v : V) (r : PassResult V) → body f v r → IsBelow n f → IsBelow n r.flag) where
    round_below : (f : Option ℕ) (v : V) (r : PassResult V) → LoopRoundFrom V H ops q base c body f v r → IsBelow n f → IsBelow n r.flag
    round_below f v r (w, e, s, on, turn, is) b =
        subst (λ (x : PassResult V). IsBelow n x.flag) (sym is) (inside (noted q e f) w s turn (noted_below n q e f l b))

    grows_below : (widening : Widening) (left : ℕ) (f : Option ℕ) (h : H) (later : List H) (v : V) (r : PassResult V) → AscendingIteration V H ops q base c body widening left f h later v r →
        IsBelow n f → IsBelow n r.flag
    grows_below widening left f h [] v r ((e, valued, turn), stays) b = round_below (noted q e f) v r turn (noted_below n q e f l b)
    grows_below widening left f h (next ∷ later) v r (u, s, e, (d, valued, turn), grown, rest) b =
        grows_below widening (left - 1) (noted q e s.flag) next later v r rest
        (noted_below n q e s.flag l (round_below (noted q d f) u s turn (noted_below n q d f l b)))

    narrows_below : (more : ℕ) (first u : V) (s : PassResult V) (v : V) (r : PassResult V) → DescendingIteration V H ops q base c body more first u s v r → IsBelow n s.flag → IsBelow n r.flag
    narrows_below zero first u s v r (same, is) b = subst (λ (x : PassResult V). IsBelow n x.flag) (sym is) b
    narrows_below (suc more) first u s v r (next, t, e, joined, turn, rest) b =
        narrows_below more first next t v r rest (round_below (noted q e s.flag) next t turn (noted_below n q e s.flag l b))

  mutual
    pub pass_below : (set : Plan) (g : Node) (f : Option ℕ) (v : V) (r : PassResult V) → PassUnder V H ops admission set g f v r → AreBelow n g → IsBelow n f → IsBelow n r.flag
    pass_below set empty f v r is a b = result_is r _ is b
    pass_below set (probe q InterferencePoint) f v r (w, e, done, is) a b = result_is r _ is (noted_below n q e f a b)
    pass_below set (probe q (RecordWrite place)) f v r is a b = result_is r _ is b
    pass_below set (point q) f v r is a b = result_is r _ is b
    pass_below set (act q op) f v r (w, e, done, is) a b = result_is r _ is (noted_below n q e f a b)
    pass_below set (check q base c) f v r (u, w, d, e, off, on, is) a b = result_is r _ is (noted_below n q e (noted q d f) a (noted_below n q d f a b))
    pass_below set (seq x y) f v r (s, t, one, two, is) a b =
        result_is r _ is (pass_below set y s.flag s.normal t two a.1 (pass_below set x f v s one a.0 b))
    pass_below set (choose q base c x y) f v r (on, off, w, d, e, i, s, t, is_on, one, is_off, two, joined, is) a b =
        result_is r _ is (noted_below n q i t.flag a.0 (pass_below set y (noted q e s.flag) off t two a.2
        (noted_below n q e s.flag a.0 (pass_below set x (noted q d f) on s one a.1 (noted_below n q d f a.0 b)))))
    pass_below set (iterate q base c x) f v r (h, later, u, top, out, s, t, e, started, grown, narrowed, off, is) a b =
        let g = grows_below q base c (PassUnder V H ops admission set x) a.0 (λ f' v' r' p k. pass_below set x f' v' r' p a.1 k) set.widening set.delay f h later u s grown b
        in
        let m = narrows_below q base c (PassUnder V H ops admission set x) a.0 (λ f' v' r' p k. pass_below set x f' v' r' p a.1 k) set.narrow v u s top t narrowed g in
        result_is r _ is (noted_below n q e t.flag a.0 m)
    pass_below set (catch q j x) f v r (w, e, s, one, joined, is) a b =
        result_is r _ is (flag_is _ (noted q e s.flag) (behind_flag j s w (noted q e s.flag)) (noted_below n q e s.flag a.0 (pass_below set x f v s one a.1 b)))
    pass_below set (leave m j) f v r (w, nothing, is) a b = result_is r _ is (flag_is _ f (jump_flag j v w f) b)
    pass_below set (select q base e arms) f v r (other, x, none, pass) a b = arms_below set q base e _ v other arms (noted q x f) None r pass a.0 a.1
        (noted_below n q x f a.0 b)

    arms_below : (set : Plan) (q base : ℕ) (e : Expr) (d : Bool) (v other : V) (arms : Arms) (f : Option ℕ) (o : Option V) (r : PassResult V)
        → ArmsPassUnder V H ops admission set q base e d v other arms f o r → q < n → ArmsAreBelow n arms → IsBelow n f → IsBelow n r.flag
    arms_below set q base e d v other no_arms f o r (w, x, out, is) l a b = result_is r _ is (noted_below n q x f l b)
    arms_below set q base e d v other (entry k arms) f o r (u, w, x, y, enters, joins, rest) l a b =
        arms_below set q base e d v other arms (noted q y (noted q x f)) (Some w) r rest l a (noted_below n q y (noted q x f) l (noted_below n q x f l b))
    arms_below set q base e d v other (arm g arms) f o r (w, s, t, from, one, rest, is) l a b =
        result_is r _ is (arms_below set q base e d v other arms s.flag (Some s.normal) t rest l a.1 (pass_below set g f w s one a.0 b))

  pub iteration_among_below : (set : Plan) (P : Program) (g : Node) (r : PassResult V) → 0 < n → AreBelow n g → IterationUnder ops admission set P g r → IsBelow n r.flag
  iteration_among_below set P g r low below (none, first, e, universal, values, pass) =
      pass_below set g (noted 0 e None) first r pass below (noted_below n 0 e None low tt)

pub iteration_below : (V H : Type 0) (ops : Operations V H) (n : ℕ) (set : Plan) (P : Program) (g : Node) (r : PassResult V) → 0 < n → AreBelow n g
    → Iteration ops set P g r → IsBelow n r.flag
iteration_below V H ops n = iteration_among_below V H ops nothing_absorbed n
