-- What a run of each shape of tree is made of, with its trace.
use Rattle.std.proofs.Common.{◌≡◌, ◌≢◌, ℕ, zero, suc, ◌+◌, List, true, false, length, ◌⊎◌, inl, inr, refl, ap}
use Rattle.lra_inline_sound.specs.Crates.lra_program.Step.{State, Op, truncate_to, havoc, arguments_for}
use Rattle.lra_inline_sound.specs.Crates.{lra_program.Program.Cond, lra_program.Program.Call, lra_program.Program.Function, lra_program.Receivers.result_receiver, lra_program.Run.Point}
use Rattle.lra_inline_sound.specs.Crates.{lra_program.Traces.Trace, lra_program.Value.Argument, lra_program.declared.receivers.Receiver.Receiver}
use Rattle.lra_operations.specs.Inlined.{InlineState, loop_node, callee_node}
use Rattle.lra_operations.specs.Traces.{Stop, by_jump, to_point, to_failure, RunExtent, to_end, stopped, RunsUpTo, VisitsAndTests, TrailRounds, Performs, VisitsPoint}
use Rattle.lra_operations.specs.Tree.{Exit, broken, continued, returned, Node, point, act, seq, catch, leave}

-- a call's receiver, as the called function's body has it, what it gives, and to how many parameters
abbrev pub inner : Function → Receiver → Receiver
inner fn x = result_receiver fn.result_type x

abbrev pub given : Function → Call → List Argument
given fn c = arguments_for fn.parameters c.arguments

abbrev pub width : Function → ℕ
width fn = length fn.parameters

abbrev pub tail_node : ℕ → ℕ → Receiver → ℕ → Node
tail_node r n x params = seq (point r) (seq (act r (truncate_to (n + params))) (seq (act r (havoc x)) (act r (truncate_to n))))

module _ (name : ℕ → Point) (may : State → State → Type 0) where
  abbrev G : Node → Trace Point → RunExtent → Trace Point → Type 0
  G = RunsUpTo name may

  -- a stop in the first part, or the second part's outcome
  abbrev pub GoesSeq : Node → Node → Trace Point → RunExtent → Trace Point → Type 0
  GoesSeq a b s u t = ((z : Stop) × (u ≡ stopped z) × G a s (stopped z) t) ⊎ ((m : Trace Point) × G a s to_end m × G b m u t)

  pub seq_inv : (a b : Node) (s : Trace Point) (u : RunExtent) (t : Trace Point) → G (seq a b) s u t → GoesSeq a b s u t
  seq_inv a b s to_end t e = inr e
  seq_inv a b s (stopped z) t (inl e) = inl (z, refl, e)
  seq_inv a b s (stopped z) t (inr e) = inr e

  pub seq_join : (a b : Node) (s m : Trace Point) (u : RunExtent) (t : Trace Point) → G a s to_end m → G b m u t → G (seq a b) s u t
  seq_join a b s m to_end t x y = (m, x, y)
  seq_join a b s m (stopped z) t x y = inr (m, x, y)

  pub act_inv : (q : ℕ) (op : Op) (s : Trace Point) (u : RunExtent) (t : Trace Point) → G (act q op) s u t → (u ≡ to_end) × Performs op s t
  act_inv q op s to_end t e = (refl, e)
  act_inv q op s (stopped z) t e = absurd e

  pub leave_inv : (n : ℕ) (k : Exit) (s : Trace Point) (u : RunExtent) (t : Trace Point) → G (leave n k) s u t → (u ≡ stopped (by_jump k)) × (t ≡ s)
  leave_inv n k s to_end t e = absurd e
  leave_inv n k s (stopped z) t (e, f) = (ap stopped e, f)

  pub act_seq : (q : ℕ) (op : Op) (a : Node) (s : Trace Point) (u : RunExtent) (t : Trace Point) → G (seq (act q op) a) s u t → (m : Trace Point) × Performs op s m × G a m u t
  act_seq q op a s to_end t (m, e, x) = (m, e, x)
  act_seq q op a s (stopped z) t (inl x) = absurd x
  act_seq q op a s (stopped z) t (inr (m, e, x)) = (m, e, x)

  -- the point itself, or what is after it
  pub point_seq : (q : ℕ) (a : Node) (s : Trace Point) (u : RunExtent) (t : Trace Point) → G (seq (point q) a) s u t
      → ((u ≡ stopped (to_point q)) × (t ≡ s)) ⊎ ((m : Trace Point) × VisitsPoint name may q s m × G a m u t)
  point_seq q a s to_end t (m, e, x) = inr (m, e, x)
  point_seq q a s (stopped (by_jump j)) t (inl (e, i)) = absurd e
  point_seq q a s (stopped (to_point p)) t (inl (e, i)) = inl (ap (λ n. stopped (to_point n)) e, i)
  point_seq q a s (stopped (to_failure p)) t (inl (e, i)) = absurd e
  point_seq q a s (stopped z) t (inr (m, e, x)) = inr (m, e, x)

  -- what ends by a jump alone, after a change
  pub jump_inv : (q : ℕ) (op : Op) (n : ℕ) (k : Exit) (s : Trace Point) (u : RunExtent) (t : Trace Point) → G (seq (act q op) (leave n k)) s u t → (u ≡ stopped (by_jump k)) × Performs op s t
  jump_inv q op n k s u t e =
      let one = act_seq q op (leave n k) s u t e in
      let two = leave_inv n k one.0 u t one.2 in
      (two.0, rw two.1 one.1)

  pub jump_join : (q : ℕ) (op : Op) (n : ℕ) (k : Exit) (s t : Trace Point) → Performs op s t → G (seq (act q op) (leave n k)) s (stopped (by_jump k)) t
  jump_join q op n k s t e = inr (t, e, (refl, refl))

  -- the callee reaches its end
  pub record EndsBody (r n : ℕ) (x : Receiver) (params : ℕ) (g : Node) (u t : Trace Point) : Type 0 where
    pub before : Trace Point
    pub past : Trace Point
    pub cut : Trace Point
    pub set : Trace Point
    pub body : G g u to_end before
    pub passed : VisitsPoint name may r before past
    pub cuts : Performs (truncate_to (n + params)) past cut
    pub sets : Performs (havoc x) cut set
    pub back : Performs (truncate_to n) set t

  -- of a call at the spot; r is the point of the callee's end
  pub data GoesCall (spot : InlineState) (r : ℕ) (x : Receiver) (params : ℕ) (g : Node) (w : Trace Point) (t : Trace Point) : RunExtent → Type 0
    where
      call_returned : G g w (stopped (by_jump returned)) t → GoesCall spot r x params g w t to_end
      call_ended : EndsBody r spot.live x params g w t → GoesCall spot r x params g w t to_end
      call_stopped : (z : Stop) → z ≢ by_jump returned → G g w (stopped z) t → GoesCall spot r x params g w t (stopped z)
      call_at_end : G g w to_end t → GoesCall spot r x params g w t (stopped (to_point r))

  -- the operation gives the arguments
  module _ (spot : InlineState) (r : ℕ) (x : Receiver) (op : Op) (params : ℕ) (g : Node) where
    abbrev call_tree : Node
    call_tree = callee_node spot.next r spot.live x op params g

    tail_stop : (w m t : Trace Point) (z : Stop) → G g w to_end m → G (tail_node r spot.live x params) m (stopped z) t
        → GoesCall spot r x params g w t (stopped z)
    tail_stop w m t (by_jump j) b (inl e) = absurd e.0
    tail_stop w m t (to_point p) b (inl (e, i)) = rw e (call_at_end (rw i b))
    tail_stop w m t (to_failure p) b (inl e) = absurd e.0
    tail_stop w m t z b (inr (m', f, inl h)) = absurd h
    tail_stop w m t z b (inr (m', f, inr (m'', h, inl i))) = absurd i
    tail_stop w m t z b (inr (m', f, inr (m'', h, inr (m''', i, j)))) = absurd j

    no_tail_jump : (m : Trace Point) (j : Exit) (t : Trace Point) → G (tail_node r spot.live x params) m (stopped (by_jump j)) t → ⊥
    no_tail_jump m j t (inl e) = e.0
    no_tail_jump m j t (inr (m', f, inl h)) = h
    no_tail_jump m j t (inr (m', f, inr (m'', h, inl i))) = i
    no_tail_jump m j t (inr (m', f, inr (m'', h, inr (m''', i, k)))) = k

    pub call_inv : (s : Trace Point) (u : RunExtent) (t : Trace Point) → G call_tree s u t
        → (w : Trace Point) × Performs op s w × GoesCall spot r x params g w t u
    call_inv s to_end t (w, e, inl (m, b, (p, f, (a, ea, (d, eb, ec))))) =
        (w, e, call_ended (record { before = m; past = p; cut = a; set = d; body = b; passed = f; cuts = ea; sets = eb; back = ec }))
    call_inv s to_end t (w, e, inr (inl b)) = (w, e, call_returned b)
    call_inv s to_end t (w, e, inr (inr (m, b, c))) = absurd (no_tail_jump m returned t c)
    call_inv s (stopped z) t (inl e) = absurd e
    call_inv s (stopped z) t (inr (w, e, (d, inl b))) = (w, e, call_stopped z d b)
    call_inv s (stopped z) t (inr (w, e, (d, inr (m, b, c)))) = (w, e, tail_stop w m t z b c)

    pub call_ends : (s w t : Trace Point) → Performs op s w → EndsBody r spot.live x params g w t → G call_tree s to_end t
    call_ends s w t e b = (w, e, inl (b.before, b.body, (b.past, b.passed, (b.cut, b.cuts, (b.set, b.sets, b.back)))))

  -- one round of a loop
  abbrev pub Round : ℕ → ℕ → Cond → Node → Node → Trace Point → Trace Point → Type 0
  Round q base c g step u v = (w : Trace Point) × VisitsAndTests name may q base c true u w × G (seq (catch q continued g) step) w to_end v

  abbrev pub EndsBodyRound : Node → Trace Point → Trace Point → Type 0
  EndsBodyRound g w m = G g w to_end m ⊎ G g w (stopped (by_jump continued)) m

  pub rounds_first : (one : Trace Point → Trace Point → Type 0) (n : ℕ) (s m t : Trace Point) → one s m → TrailRounds one n m t → TrailRounds one (suc n) s t
  rounds_first one zero s m t o r = (s, refl, rw r o)
  rounds_first one (suc n) s m t o (u, r, l) = (u, rounds_first one n s m u o r, l)

  -- the last, unfinished round: a stop in the body, or in the step
  abbrev pub LeavesRound : Node → Node → Trace Point → Stop → Trace Point → Type 0
  LeavesRound g step w z t = ((z ≢ by_jump continued) × G g w (stopped z) t) ⊎ ((m : Trace Point) × EndsBodyRound g w m × G step m (stopped z) t)

  -- after whole rounds
  pub data EndsLoop (q base : ℕ) (c : Cond) (g step : Node) (m t : Trace Point) : RunExtent → Type 0 where
    loop_done : VisitsAndTests name may q base c false m t → EndsLoop q base c g step m t to_end
    loop_at : t ≡ m → EndsLoop q base c g step m t (stopped (to_point q))
    loop_broken : (w : Trace Point) → VisitsAndTests name may q base c true m w → LeavesRound g step w (by_jump broken) t → EndsLoop q base c g step m t to_end
    loop_left : (w : Trace Point) (z : Stop) → VisitsAndTests name may q base c true m w → LeavesRound g step w z t → z ≢ by_jump broken → EndsLoop q base c g step m t (stopped z)

  module _ (q base : ℕ) (c : Cond) (g step : Node) where
    abbrev loop_tree : Node
    loop_tree = loop_node q base c g step

    pub loop_inv : (s : Trace Point) (u : RunExtent) (t : Trace Point) → G loop_tree s u t → (n : ℕ) × (m : Trace Point) × TrailRounds (Round q base c g step) n s m × EndsLoop q base c g step m t u
    loop_inv s to_end t (inl (n, m, r, e)) = (n, m, r, loop_done e)
    loop_inv s to_end t (inr (n, m, r, inl e)) = absurd e.0
    loop_inv s to_end t (inr (n, m, r, inr (w, e, l))) = (n, m, r, loop_broken w e l)
    loop_inv s (stopped (by_jump j)) t (d, (n, m, r, inl e)) = absurd e.0
    loop_inv s (stopped (to_point p)) t (d, (n, m, r, inl (e, i))) = (n, m, r, rw e (loop_at i))
    loop_inv s (stopped (to_failure p)) t (d, (n, m, r, inl e)) = absurd e.0
    loop_inv s (stopped z) t (d, (n, m, r, inr (w, e, l))) = (n, m, r, loop_left w z e l d)

    pub loop_join : (s : Trace Point) (n : ℕ) (m : Trace Point) (u : RunExtent) (t : Trace Point) → TrailRounds (Round q base c g step) n s m → EndsLoop q base c g step m t u → G loop_tree s u t
    loop_join s n m _ t r (loop_done e) = inl (n, m, r, e)
    loop_join s n m _ t r (loop_at e) = (λ i. cc, (n, m, r, inl (refl, e)))
    loop_join s n m _ t r (loop_broken w e l) = inr (n, m, r, inr (w, e, l))
    loop_join s n m _ t r (loop_left w z e l d) = (d, (n, m, r, inr (w, e, l)))

    -- a round more, at the start
    pub loop_first : (s v : Trace Point) (u : RunExtent) (t : Trace Point) → Round q base c g step s v → G loop_tree v u t → G loop_tree s u t
    loop_first s v u t o e =
        let r = loop_inv v u t e in
        loop_join s (suc r.0) r.1 u t (rounds_first (Round q base c g step) r.0 s v r.1 o r.2) r.3
