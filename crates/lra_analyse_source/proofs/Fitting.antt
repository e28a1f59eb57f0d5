-- The tree of a well-formed program whose points have few variables fits the iteration.
use Rattle.std.proofs.Common.{◌≡◌, ◌≢◌, ℕ, suc, ◌+◌, ◌-◌, ◌≤◌, ◌<◌, List, [], ◌∷◌, length, Option, Some, None, Bool, true, inl, inr, refl, sym, ap, ◌∙◌, subst, arith}
use Rattle.std.proofs.lemmas.Option.{none-some, same_Some}
use Rattle.std.specs.{List.AllByRecursion, List.Contains, Prelude.slice_get}
use Rattle.lra_front_end.proofs.Faultless.{at_place}
use Rattle.lra_analyse_source.proofs.Crates.lra_linear_spec.Membership.{contains_none, contains_cases}
use Rattle.lra_analyse_source.proofs.Crates.{lra_inline_sound.Lengths.grows_all, lra_program.GivenArguments.given_width}
use Rattle.lra_analyse_source.specs.Crates.lra_operations.Inlined.{Frame, InlineState, callee, InlineStmt, InlineItems, InlineDeclarator, InlineLoop, InlineRvalue, InlineCall, as_nothing, as_block}
use Rattle.lra_analyse_source.specs.Crates.lra_operations.Inlined.{as_absent, as_assign, as_call, as_if, as_loop, as_for, as_break, as_continue, as_array, as_write, as_write_call, as_return}
use Rattle.lra_analyse_source.specs.Crates.lra_operations.Inlined.{as_return_value, as_return_call, as_end, as_end_value, as_end_call, as_assert, as_assume, as_none, as_declaration, as_statement}
use Rattle.lra_analyse_source.specs.Crates.lra_operations.Inlined.{as_fresh, as_given, is_loop, as_value, as_result, is_call, callee_node, loop_node, return_node, main_frame, InlineCases, as_switch}
use Rattle.lra_analyse_source.specs.Crates.lra_operations.Inlined.{as_no_cases, as_labelled, as_stated, switch_node}
use Rattle.lra_analyse_source.specs.Crates.lra_operations.Tree.{Exit, broken, continued, returned, Node, empty, point, act, check, seq, choose, catch, leave, Arms, no_arms, entry, arm}
use Rattle.lra_analyse_source.specs.Crates.lra_pass_results.Dimensions.{ArmsFit, ArmsJumpWith, JumpsWith, TreeFits}
use Rattle.lra_analyse_source.specs.Crates.lra_program.Program.{Slot, global, local, Expr, Cond, Call, Rvalue, Stmt, Cases, BlockItems, Program}
use Rattle.lra_analyse_source.specs.Crates.lra_program.Step.{Op, append, store_value, fill, store_element, havoc, truncate_to, test, ReturnFrame, arguments_for}
use Rattle.lra_analyse_source.specs.Crates.lra_program.WellFormed.{IsLive, IsGoodRvalue, IsGoodGiven, IsGoodStmt, AreGoodCases, AreGoodItems, IsGoodFunction, IsWellFormed, Jumps, no_jumps}
use Rattle.lra_analyse_source.specs.Crates.lra_program.WellFormed.{in_loop as in_loop_jumps, in_switch}
use Rattle.lra_analyse_source.specs.Crates.lra_transfer.Changes.{CellFits, PlaceFits, OpFitsDims}
use Rattle.lra_analyse_source.specs.Crates.{lra_analysis_spec.Live.live_after_op, lra_analysis_spec.Live.live_after, lra_analysis_spec.LiveLimit.most_live, lra_base.Limits.greatest_live}
use Rattle.lra_analyse_source.specs.Crates.{lra_base.declared.case_labels.CaseLabel.CaseLabel, lra_base.declared.number_types.NumberType.NumberType, lra_operations.Agree.IsInlinedTree}
use Rattle.lra_analyse_source.specs.Crates.{lra_program.Receivers.variable_at, lra_program.Receivers.result_receiver, lra_program.Sites.Site, lra_program.Sites.sites_of, lra_program.Value.index_of}
use Rattle.lra_analyse_source.specs.Crates.{lra_program.Value.Argument, lra_program.declared.receivers.Cell.Cell, lra_program.declared.receivers.Cell.TheVariants.Variable}
use Rattle.lra_analyse_source.specs.Crates.{lra_program.declared.receivers.Cell.TheVariants.Waiting, lra_program.declared.receivers.Receiver.Receiver, lra_program.declared.receivers.Target.Target}
use Rattle.lra_analyse_source.specs.Crates.lra_program.Sites as sites

-- how many live where a jump leads
abbrev JumpFits : Frame → Exit → ℕ → Type 0
JumpFits f broken m = f.breaks ≡ Some m
JumpFits f continued m = f.continues ≡ Some m
JumpFits f returned m = (b : ReturnFrame) → f.back ≡ Some b → m ≡ b.length

-- begun with n variables the tree fits, and ends with n' of them
pub record Fit (f : Frame) (n n' : ℕ) (g : Node) : Type 0 where
  pub fits : TreeFits g n
  pub behind : live_after g n ≡ n'
  pub jumps : (k : Exit) (m : ℕ) → JumpsWith g n k m → JumpFits f k m

-- at most this many live anywhere
abbrev pub Few : ℕ → Type 0
Few n = n ≤ greatest_live

few_is_small : (n : ℕ) → Few n → n ≤ most_live
few_is_small n h = omega (arith, h)

few_more : (n : ℕ) → Few (suc n) → n < most_live
few_more n h = omega (arith, h)

abbrev pub AllFew : List Site → Type 0
AllFew T = (q : ℕ) (s : Site) → slice_get T q ≡ Some s → Few s.live

fit_at : (f : Frame) (n n1 n2 : ℕ) (g : Node) → n ≡ n1 → Fit f n n2 g → Fit f n1 n2 g
fit_at f n n1 n2 g e x = subst (λ (m : ℕ). Fit f m n2 g) e x

empty_fit : {f : Frame} {n : ℕ} → Fit f n n empty
empty_fit = record { fits = tt; behind = refl; jumps = λ k m j. absurd j }

point_fit : {f : Frame} {n : ℕ} (q : ℕ) → Fit f n n (point q)
point_fit q = record { fits = tt; behind = refl; jumps = λ k m j. absurd j }

act_fit : {f : Frame} {n n' : ℕ} (q : ℕ) (op : Op) → OpFitsDims op n → live_after_op op n ≡ n' → Fit f n n' (act q op)
act_fit q op fits is = record { fits = fits; behind = is; jumps = λ k m j. absurd j }

check_fit : {f : Frame} {n : ℕ} (q base : ℕ) (c : Cond) → Fit f n n (check q base c)
check_fit q base c = record { fits = tt; behind = refl; jumps = λ k m j. absurd j }

seq_fit : {f : Frame} {n n1 n2 : ℕ} (a b : Node) → Few n1 → Fit f n n1 a → Fit f n1 n2 b → Fit f n n2 (seq a b)
seq_fit {f = f} {n = n} {n1 = n1} {n2 = n2} a b few x y =
    let z = fit_at f n1 (live_after a n) n2 b (sym x.behind) y in
    record {
      fits = (x.fits, subst (λ (m : ℕ). m ≤ most_live) (sym x.behind) (few_is_small n1 few), z.fits);
      behind = z.behind;
      jumps = λ k m j. elim j [ inl l ↦ x.jumps k m l | inr r ↦ z.jumps k m r ];
    }

keep_is : (n m : ℕ) → m ≤ n → n - (n - m) ≡ m
keep_is n m h = omega arith

keep_fit : {f : Frame} {n : ℕ} (q m : ℕ) → m ≤ n → Fit f n m (act q (truncate_to m))
keep_fit {n = n} q m h = act_fit q (truncate_to m) tt (keep_is n m h)

append_fit : {f : Frame} {n : ℕ} (q : ℕ) (t : NumberType) → Few (suc n) → Fit f n (suc n) (act q (append t))
append_fit {n = n} q t few = act_fit q (append t) (few_more n few) refl

give_fit : {f : Frame} {n : ℕ} (q base : ℕ) (x : Receiver) (e : Expr) → PlaceFits x.target n → Fit f n n (act q (store_value base x e))
give_fit q base x e h = act_fit q (store_value base x e) h refl

any_fit : {f : Frame} {n : ℕ} (q : ℕ) (x : Receiver) → PlaceFits x.target n → Fit f n n (act q (havoc x))
any_fit q x h = act_fit q (havoc x) h refl

test_fit : {f : Frame} {n : ℕ} (q base : ℕ) (c : Cond) (b : Bool) → Fit f n n (act q (test base c b))
test_fit q base c b = act_fit q (test base c b) tt refl

cell_more : (c : Cell) (n m : ℕ) → n ≤ m → CellFits c n → CellFits c m
cell_more (Variable k) n m h p = omega arith
cell_more (Waiting at) n m h p = tt

place_more : (x : Option Target) (n m : ℕ) → n ≤ m → PlaceFits x n → PlaceFits x m
place_more None n m h p = tt
place_more (Some x) n m h p = cell_more x.cell n m h p

break_jump : (f : Frame) (m : ℕ) → f.breaks ≡ Some m → (k : Exit) (m' : ℕ) → (k ≡ broken) × (m' ≡ m) → JumpFits f k m'
break_jump f m i broken m' j = rw j.1 i
break_jump f m i continued m' j = let wrong : ⊥ = continued_broken j.0 in absurd wrong
  where
    continued_broken : continued ≡ broken → ⊥
    continued_broken e = cc
break_jump f m i returned m' j = let wrong : ⊥ = returned_broken j.0 in absurd wrong
  where
    returned_broken : returned ≡ broken → ⊥
    returned_broken e = cc

continue_jump : (f : Frame) (m : ℕ) → f.continues ≡ Some m → (k : Exit) (m' : ℕ) → (k ≡ continued) × (m' ≡ m) → JumpFits f k m'
continue_jump f m i broken m' j = let wrong : ⊥ = broken_continued j.0 in absurd wrong
  where
    broken_continued : broken ≡ continued → ⊥
    broken_continued e = cc
continue_jump f m i continued m' j = rw j.1 i
continue_jump f m i returned m' j = let wrong : ⊥ = returned_continued j.0 in absurd wrong
  where
    returned_continued : returned ≡ continued → ⊥
    returned_continued e = cc

broken_returned : broken ≡ returned → ⊥
broken_returned e = cc

continued_returned : continued ≡ returned → ⊥
continued_returned e = cc

back_jump : (f : Frame) (m : ℕ) → ((b : ReturnFrame) → f.back ≡ Some b → m ≡ b.length) → (k : Exit) (m' : ℕ) → (k ≡ returned) × (m' ≡ m) → JumpFits f k m'
back_jump f m i broken m' j = absurd (broken_returned j.0)
back_jump f m i continued m' j = absurd (continued_returned j.0)
back_jump f m i returned m' j = λ b e. j.1 ∙ i b e

break_fit : {f : Frame} {m n : ℕ} → Few n → f.breaks ≡ Some m → Fit f m n (leave n broken)
break_fit {f = f} {m = m} {n = n} few i = record { fits = few_is_small n few; behind = refl; jumps = break_jump f m i }

continue_fit : {f : Frame} {m n : ℕ} → Few n → f.continues ≡ Some m → Fit f m n (leave n continued)
continue_fit {f = f} {m = m} {n = n} few i = record { fits = few_is_small n few; behind = refl; jumps = continue_jump f m i }

return_fit : {f : Frame} {n : ℕ} (b : ReturnFrame) → Few n → f.back ≡ Some b → Fit f b.length n (leave n returned)
return_fit {f = f} {n = n} b few i = record {
  fits = few_is_small n few;
  behind = refl;
  jumps = back_jump f b.length (λ c e. ap (λ (x : ReturnFrame). x.length) (same_Some b c (sym i ∙ e)));
}

end_fit : {f : Frame} {m n : ℕ} → Few n → f.back ≡ None → Fit f m n (leave n returned)
end_fit {f = f} {m = m} {n = n} few i = record {
  fits = few_is_small n few;
  behind = refl;
  jumps = back_jump f m (λ c e. absurd (none-some c (sym i ∙ e)));
}

return_node_fit : {f : Frame} {n : ℕ} (q : ℕ) (op : Op) (b : ReturnFrame) → f.back ≡ Some b → b.length ≤ n → Few n → Fit f n n (act q op) → Fit f n n (return_node q op b.length n)
return_node_fit {n = n} q op b i low few a = seq_fit _ _ few a (seq_fit _ _ (omega arith) (keep_fit q b.length low) (return_fit b few i))

choose_fit : {f : Frame} {n : ℕ} (q base : ℕ) (c : Cond) (a b : Node) → Fit f n n a → Fit f n n b → Fit f n n (choose q base c a b)
choose_fit q base c a b x y = record {
  fits = (x.fits, y.fits, y.behind ∙ sym x.behind);
  behind = x.behind;
  jumps = λ k m j. elim j [ inl l ↦ x.jumps k m l | inr r ↦ y.jumps k m r ];
}

abbrev in_loop : Frame → Option ℕ → Frame
in_loop f l = record f { breaks = l; continues = l }

-- of a loop that begins with n variables, its body g and its step
module _ (f : Frame) (n : ℕ) (g step : Node) (few : Few n) (x : Fit (in_loop f (Some n)) n n g) (y : Fit (in_loop f None) n n step) where
  step_at : Fit (in_loop f None) (live_after g n) n step
  step_at = fit_at (in_loop f None) n (live_after g n) n step (sym x.behind) y

  body_continues : (m : ℕ) → JumpsWith g n continued m → m ≡ live_after g n
  body_continues m j = sym (same_Some n m (x.jumps continued m j)) ∙ sym x.behind

  body_breaks : (q : ℕ) (m : ℕ) → JumpsWith (seq (catch q continued g) step) n broken m → m ≡ n
  body_breaks q m (inl (d, j)) = sym (same_Some n m (x.jumps broken m j))
  body_breaks q m (inr j) = absurd (none-some m (step_at.jumps broken m j))

  outer_jump : (q : ℕ) (k : Exit) (m : ℕ) → k ≢ broken → JumpsWith (seq (catch q continued g) step) n k m → JumpFits f k m
  outer_jump q broken m d j = absurd (d refl)
  outer_jump q continued m d (inl (e, j)) = absurd (e refl)
  outer_jump q continued m d (inr j) = absurd (none-some m (step_at.jumps continued m j))
  outer_jump q returned m d (inl (e, j)) = x.jumps returned m j
  outer_jump q returned m d (inr j) = step_at.jumps returned m j

  loop_fit : (q base : ℕ) (c : Cond) → Fit f n n (loop_node q base c g step)
  loop_fit q base c = record {
    fits = ((((x.fits, body_continues), subst (λ (m : ℕ). m ≤ most_live) (sym x.behind) (few_is_small n few), step_at.fits), step_at.behind), body_breaks q);
    behind = refl;
    jumps = λ k m j. outer_jump q k m j.0 j.1;
  }

-- the arms of a `switch` at which n variables live
record FitArms (f : Frame) (n : ℕ) (arms : Arms) : Type 0 where
  fits : ArmsFit arms n
  jumps : (k : Exit) (m : ℕ) → ArmsJumpWith arms n k m → JumpFits f k m

abbrev in_a_switch : Frame → ℕ → Frame
in_a_switch f n = record f { breaks = Some n }

no_arms_fit : (f : Frame) (n : ℕ) → FitArms f n no_arms
no_arms_fit f n = record { fits = tt; jumps = λ k m j. absurd j }

entry_fit : (f : Frame) (n : ℕ) (l : CaseLabel) (arms : Arms) → FitArms f n arms → FitArms f n (entry l arms)
entry_fit f n l arms x = record { fits = x.fits; jumps = x.jumps }

arm_fit : (f : Frame) (n : ℕ) (g : Node) (arms : Arms) → Fit f n n g → FitArms f n arms → FitArms f n (arm g arms)
arm_fit f n g arms x y = record {
  fits = (x.fits, x.behind, y.fits);
  jumps = λ k m j. elim j [ inl l ↦ x.jumps k m l | inr r ↦ y.jumps k m r ];
}

switch_fit : (f : Frame) (n q base : ℕ) (e : Expr) (arms : Arms) → FitArms (in_a_switch f n) n arms → Fit f n n (switch_node q base e arms)
switch_fit f n q base e arms x = record { fits = (x.fits, λ m j. sym (same_Some n m (x.jumps broken m j))); behind = refl; jumps = λ k m j. outer k m j.0 j.1 }
  where
    outer : (k : Exit) (m : ℕ) → k ≢ broken → ArmsJumpWith arms n k m → JumpFits f k m
    outer broken m d j = absurd (d refl)
    outer continued m d j = x.jumps continued m j
    outer returned m d j = x.jumps returned m j

-- an operation that gives arguments fits if so many more variables may live, which it adds
abbrev AddsFitting : (List Argument → Op) → Type 0
AddsFitting gives = (es : List Argument) (n : ℕ) → n + length es ≤ most_live → OpFitsDims (gives es) n × (live_after_op (gives es) n ≡ n + length es)

-- of a call whose body is g
module _ (f : Frame) (n r : ℕ) (x : Receiver) (gives : List Argument → Op) (es : List Argument) (adds : AddsFitting gives) (params : ℕ) (g : Node) (f' : Frame) (n' : ℕ) (i : length es ≡ params)
    (no_breaks : f'.breaks ≡ None) (no_continues : f'.continues ≡ None)
    (j : f'.back ≡ Some (record { receiver = x; here = f.here; length = n })) (low : n + params ≤ n') (few : Few n') (place : PlaceFits x.target n)
    (y : Fit f' (n + params) n' g) where
  abbrev inner : Node
  inner = seq g (seq (point r) (seq (act r (truncate_to (n + params))) (seq (act r (havoc x)) (act r (truncate_to n)))))

  inner_fit : Fit f' (n + params) n inner
  inner_fit =
      seq_fit _ _ few y (seq_fit _ _ few (point_fit r) (seq_fit _ _ (omega arith) (keep_fit r (n + params) low)
      (seq_fit _ _ (omega arith) (any_fit r x (place_more x.target n (n + params) (omega arith) place)) (keep_fit r n (omega arith)))))

  caught_jump : (k : Exit) (m : ℕ) → k ≢ returned → JumpFits f' k m → JumpFits f k m
  caught_jump broken m d z = absurd (none-some m (sym no_breaks ∙ z))
  caught_jump continued m d z = absurd (none-some m (sym no_continues ∙ z))
  caught_jump returned m d z = absurd (d refl)

  catch_fit : (q : ℕ) → Fit f (n + params) n (catch q returned inner)
  catch_fit q = record {
    fits = (inner_fit.fits, λ m z. inner_fit.jumps returned m z _ j ∙ sym inner_fit.behind);
    behind = inner_fit.behind;
    jumps = λ k m z. caught_jump k m z.0 (inner_fit.jumps k m z.1);
  }

  few_params : Few (n + params)
  few_params = omega arith

  given_fit : (q : ℕ) → Fit f n (n + params) (act q (gives es))
  given_fit q =
      let room : n + length es ≤ most_live = rw i (few_is_small (n + params) few_params) in
      let (fits, is) = adds es n room in
      act_fit q (gives es) fits (is ∙ ap (λ (k : ℕ). n + k) i)

  call_fit : (q : ℕ) → Fit f n n (callee_node q r n x (gives es) params g)
  call_fit q = seq_fit _ _ few_params (given_fit q) (catch_fit q)

-- where a part of a well-formed program stands, its variables live
pub record Standing (P : Program) (f : Frame) (n own : ℕ) : Type 0 where
  pub globals : length P.globals ≤ n
  pub within : f.here.base + own ≤ n
  pub target : (b : ReturnFrame) → f.back ≡ Some b → PlaceFits b.receiver.target b.length

standing_place : (P : Program) (f : Frame) (n own : ℕ) (x : Slot) (t : NumberType) → Standing P f n own → IsLive P own x → PlaceFits
    (variable_at (index_of f.here.base x) t).target n
standing_place P f n own (global k) t st live = let g = st.globals in omega arith
standing_place P f n own (local k) t st live = let w = st.within in omega arith

one_more : (P : Program) (f : Frame) (n own : ℕ) → Standing P f n own → Standing P f (suc n) (suc own)
one_more P f n own st = record { globals = (let g = st.globals in omega arith); within = (let w = st.within in omega arith); target = st.target }

in_switch_too : (P : Program) (f : Frame) (n own m : ℕ) → Standing P f n own → Standing P (in_a_switch f m) n own
in_switch_too P f n own m st = record { globals = st.globals; within = st.within; target = st.target }

other_loop : (P : Program) (f : Frame) (n own : ℕ) (l : Option ℕ) → Standing P f n own → Standing P (in_loop f l) n own
other_loop P f n own l st = record { globals = st.globals; within = st.within; target = st.target }

own_low : {P : Program} {T : List Site} {spot : InlineState} {s : BlockItems} {g : Node} {n q : ℕ} (base own : ℕ) → InlineItems P T spot s g n q → base + own ≤ spot.live →
    base + sites.live_after_items own s ≤ n
own_low base own as_none w = w
own_low base own (as_declaration i j e) w = own_low base (suc own) e (omega arith)
own_low base own (as_array i e) w = own_low base own e w
own_low base own (as_statement d e) w = own_low base own e w

module _ (P : Program) (T : List Site) (few : AllFew T) (well : IsWellFormed P) where
  loop_few : {spot : InlineState} {r : ℕ} {s : Stmt} {g : Node} {q : ℕ} → InlineLoop P T spot r s g q → Few spot.live
  loop_few (is_loop {s = spot} i d e) = few spot.next _ i

  behind_init : (f : Frame) (n n' own : ℕ) (items : BlockItems) → Standing P f n own → n ≤ n' → f.here.base + sites.live_after_items own items ≤ n' → Standing P f n' (sites.live_after_items own items)
  behind_init f n n' own items st low w = record { globals = (let g = st.globals in omega arith); within = w; target = st.target }

  in_callee : (f : Frame) (n own params : ℕ) (x : Receiver) (f' : Frame) → Standing P f n own → PlaceFits x.target n → f'.here.base ≡ n → f'.back ≡ Some
      (record { receiver = x; here = f.here; length = n })
      → Standing P f' (n + params) params
  in_callee f n own params x f' st place base back = record {
    globals = (let g = st.globals in omega arith);
    within = omega (arith, base);
    target = λ b e. subst (λ (c : ReturnFrame). PlaceFits c.receiver.target c.length) (same_Some _ b (sym back ∙ e)) place;
  }

  mutual
    fit_one : {spot : InlineState} {s : Stmt} {g : Node} {q : ℕ} → InlineStmt P T spot s g q → (l : Jumps) (own : ℕ) → Standing P spot.frame spot.live own →
        Few spot.live
        → IsGoodStmt P l own s →
        Fit spot.frame spot.live spot.live g
    fit_one (as_nothing {s = spot} i) l own st fw good = point_fit spot.next
    fit_one (as_block {s = spot} {n = n'} {q = q'} d i) l own st fw good =
        let fw' : Few n' = few q' _ i in seq_fit _ _ fw' (fit_all d l own st fw' good) (seq_fit _ _ fw' (point_fit q') (keep_fit q' spot.live (grows_all d)))
    fit_one as_absent l own st fw good = empty_fit
    fit_one (as_assign {s = spot} {at = at} {x = x} i d) l own st fw good =
        seq_fit _ _ fw (point_fit spot.next) (fit_gives d at own st fw (standing_place P spot.frame spot.live own x.slot x.number_type st good.0) good.1)
    fit_one (as_write {s = spot} {x = x} {e = e} i) l own st fw good =
        seq_fit _ _ fw (point_fit spot.next) (act_fit spot.next (store_element spot.frame.here.base x e) tt refl)
    fit_one (as_write_call {s = spot} {at = at} i d) l own st fw good =
        seq_fit _ _ fw (point_fit spot.next) (fit_calls d (λ es n room. (room, refl)) own st fw tt)
    fit_one (as_call {s = spot} {at = at} i d) l own st fw good = seq_fit _ _ fw (point_fit spot.next) (fit_gives d at own st fw tt good)
    fit_one (as_if {s = spot} {c = c} {g = g} {h = h} i d e) l own st fw good =
        seq_fit _ _ fw (point_fit spot.next) (choose_fit spot.next spot.frame.here.base c g h (fit_one d l own st fw good.1) (fit_one e l own st fw good.2))
    fit_one (as_loop d) l own st fw good = fit_loop d l own st good
    fit_one (as_for {s = spot} {init = init} {n = n'} d e) l own st fw good =
        let fw' : Few n' = loop_few e in
        let low : spot.live ≤ n' = grows_all d in
        seq_fit _ _ fw' (fit_all d no_jumps own st fw' good.0)
        (seq_fit _ _ fw' (fit_loop e no_jumps (sites.live_after_items own init)
        (behind_init spot.frame spot.live n' own init st low (own_low spot.frame.here.base own d st.within)) (good.1, good.2, good.3))
        (keep_fit spot.next spot.live low))
    fit_one (as_break {s = spot} {m = m} i k j) l own st fw good = seq_fit _ _ fw (point_fit spot.next) (seq_fit _ _ (omega arith) (keep_fit spot.next m k) (break_fit fw i))
    fit_one (as_continue {s = spot} {m = m} i k j) l own st fw good = seq_fit _ _ fw (point_fit spot.next) (seq_fit _ _ (omega arith) (keep_fit spot.next m k) (continue_fit fw i))
    fit_one (as_return {s = spot} {b = b} i k j) l own st fw good =
        seq_fit _ _ fw (point_fit spot.next) (return_node_fit spot.next _ b i k fw
        (any_fit spot.next b.receiver (place_more b.receiver.target b.length spot.live k (st.target b i))))
    fit_one (as_return_value {s = spot} {e = e} {b = b} i k j) l own st fw good =
        seq_fit _ _ fw (point_fit spot.next) (return_node_fit spot.next _ b i k fw
        (give_fit spot.next spot.frame.here.base b.receiver e (place_more b.receiver.target b.length spot.live k (st.target b i))))
    fit_one (as_return_call {s = spot} {at = at} {b = b} i k j d) l own st fw good =
        seq_fit _ _ fw (point_fit spot.next) (seq_fit _ _ fw (fit_gives d at own st fw (place_more b.receiver.target b.length spot.live k (st.target b i)) good)
        (seq_fit _ _ (omega arith) (keep_fit spot.next b.length k) (return_fit b fw i)))
    fit_one (as_end {s = spot} i j) l own st fw good = seq_fit _ _ fw (point_fit spot.next) (end_fit fw i)
    fit_one (as_end_value {s = spot} {e = e} i j) l own st fw good =
        seq_fit _ _ fw (point_fit spot.next) (seq_fit _ _ fw (give_fit spot.next spot.frame.here.base _ e tt) (end_fit fw i))
    fit_one (as_end_call {s = spot} {at = at} i j d) l own st fw good = seq_fit _ _ fw (point_fit spot.next) (seq_fit _ _ fw (fit_gives d at own st fw tt good) (end_fit fw i))
    fit_one (as_assert {s = spot} {c = c} i) l own st fw good = seq_fit _ _ fw (point_fit spot.next) (check_fit spot.next spot.frame.here.base c)
    fit_one (as_assume {s = spot} {c = c} i) l own st fw good = seq_fit _ _ fw (point_fit spot.next) (test_fit spot.next spot.frame.here.base c true)
    fit_one (as_switch {s = spot} {e = e} {arms = arms} i d) l own st fw good =
        seq_fit _ _ fw (point_fit spot.next)
        (switch_fit spot.frame spot.live spot.next spot.frame.here.base e arms
        (fit_cases d (in_switch l) own (in_switch_too P spot.frame spot.live own spot.live st) fw good.1))

    fit_cases : {spot : InlineState} {cs : Cases} {arms : Arms} {q : ℕ} → InlineCases P T spot cs arms q → (l : Jumps) (own : ℕ) →
        Standing P spot.frame spot.live own
        → Few spot.live →
        AreGoodCases P l own cs → FitArms spot.frame spot.live arms
    fit_cases (as_no_cases {s = spot}) l own st fw good = no_arms_fit spot.frame spot.live
    fit_cases (as_labelled {s = spot} {l = k} {arms = arms} d) l own st fw good = entry_fit spot.frame spot.live k arms (fit_cases d l own st fw good)
    fit_cases (as_stated {s = spot} {g = g} {arms = arms} d e) l own st fw good =
        arm_fit spot.frame spot.live g arms (fit_one d l own st fw good.0) (fit_cases e l own st fw good.1)

    fit_all : {spot : InlineState} {s : BlockItems} {g : Node} {n q : ℕ} → InlineItems P T spot s g n q → (l : Jumps) (own : ℕ) →
        Standing P spot.frame spot.live own
        → Few n → AreGoodItems P l own s →
        Fit spot.frame spot.live n g
    fit_all as_none l own st fw good = empty_fit
    fit_all (as_declaration {s = spot} {d = d} {n = n'} i j e) l own st fw good =
        let low : suc spot.live ≤ n' = grows_all e in
        let more : Few (suc spot.live) = omega arith in
        let now : Few spot.live = omega arith in
        seq_fit _ _ more (seq_fit _ _ now (point_fit spot.next) (fit_declares j d.label own st more good.0)) (fit_all e l (suc own) (one_more P spot.frame spot.live own st) fw good.1)
    fit_all (as_array {s = spot} {a = a} {n = n'} i e) l own st fw good =
        let low : spot.live ≤ n' = grows_all e in
        let now : Few spot.live = omega arith in
        seq_fit _ _ now (seq_fit _ _ now (point_fit spot.next) (act_fit spot.next (fill a) tt refl)) (fit_all e l own st fw good)
    fit_all (as_statement {s = spot} {n = n'} d e) l own st fw good =
        let low : spot.live ≤ n' = grows_all e in
        let now : Few spot.live = omega arith in
        seq_fit _ _ now (fit_one d l own st now good.0) (fit_all e l own st fw good.1)

    fit_declares : {spot : InlineState} {r : ℕ} {t : NumberType} {e : Option Rvalue} {g : Node} {q : ℕ} → InlineDeclarator P T spot r t e g q → (at own : ℕ) →
        Standing P
        spot.frame spot.live own → Few (suc spot.live) →
        IsGoodGiven P at (suc own) e →
        Fit spot.frame spot.live (suc spot.live) g
    fit_declares (as_fresh {s = spot} {t = t}) at own st fw good = append_fit spot.next t fw
    fit_declares (as_given {s = spot} {t = t} d) at own st fw good =
        seq_fit _ _ fw (append_fit spot.next t fw) (fit_gives d at (suc own) (one_more P spot.frame spot.live own st) fw
        (let last : spot.live < suc spot.live = omega arith in last) good)

    fit_loop : {spot : InlineState} {r : ℕ} {s : Stmt} {g : Node} {q : ℕ} → InlineLoop P T spot r s g q → (l : Jumps) (own : ℕ) →
        Standing P spot.frame spot.live own
        → IsGoodStmt P l own s →
        Fit spot.frame spot.live spot.live g
    fit_loop (is_loop {s = spot} {c = c} {g = g} {h = h} i d e) l own st good =
        let fw : Few spot.live = few spot.next _ i in
        loop_fit spot.frame spot.live g h fw (fit_one e in_loop_jumps own (other_loop P spot.frame spot.live own (Some spot.live) st) fw good.1)
        (fit_one d no_jumps own (other_loop P spot.frame spot.live own None st) fw good.2) spot.next spot.frame.here.base c

    fit_gives : {spot : InlineState} {r : ℕ} {x : Receiver} {e : Rvalue} {g : Node} {q : ℕ} → InlineRvalue P T spot r x e g q → (at own : ℕ) →
        Standing P spot.frame
        spot.live own → Few spot.live →
        PlaceFits x.target spot.live →
        IsGoodRvalue P at own e → Fit spot.frame spot.live spot.live g
    fit_gives (as_value {s = spot} {x = x} {e = e}) at own st fw place good = give_fit spot.next spot.frame.here.base x e place
    fit_gives (as_result d) at own st fw place good = fit_calls d (λ es n room. (room, refl)) own st fw place

    fit_calls : {spot : InlineState} {r : ℕ} {x : Receiver} {gives : List Argument → Op} {c : Call} {g : Node} {q : ℕ} → InlineCall P T spot r x gives c g q →
        AddsFitting gives → (own : ℕ) → Standing P spot.frame spot.live own → Few spot.live → PlaceFits x.target spot.live →
        Fit spot.frame spot.live spot.live g
    fit_calls (is_call {s = spot} {x = x} {gives = gives} {c = c} {fn = fn} {g = g} {n = n'} {q = r'} i j d k) adds own st fw place =
        let fw' : Few n' = few r' _ k in
        let y = result_receiver fn.result_type x in
        let params = length fn.parameters in
        call_fit spot.frame spot.live r' y gives (arguments_for fn.parameters c.arguments) adds params g (callee spot.frame spot.live y c) n'
        (given_width fn.parameters c.arguments j) refl refl refl (grows_all d) fw' place
        (fit_all d no_jumps params (in_callee spot.frame spot.live own params y (callee spot.frame spot.live y c) st place refl refl) fw'
        (at_place (IsGoodFunction P) P.functions c.function fn well.functions i)) spot.next

contains_at : {A : Type 0} (P : A → Type 0) (xs : List A) (x : A) → AllByRecursion P xs → Contains xs x → P x
contains_at P [] x h there = absurd (contains_none x there)
contains_at P (y ∷ xs) x h there = elim (contains_cases y x xs there) [ inl same ↦ subst P same h.0 | inr later ↦ contains_at P xs x h.1 later ]

-- the tree of a well-formed program whose points each have few live variables fits the iteration
pub tree_fits : (P : Program) (g : Node) → IsWellFormed P → AllFew (sites_of P) → IsInlinedTree P g → TreeFits g (length P.globals)
tree_fits P g well few graph =
    let n = length P.globals in
    let fw : Few graph.live = few graph.last _ graph.ends in
    let low : n ≤ graph.live = grows_all graph.inlined in
    let st : Standing P (main_frame P) n 0 = record { globals = omega arith; within = omega arith; target = λ b e. absurd (none-some b e) } in
    let good : AreGoodItems P no_jumps 0 P.main.body = subst (λ (k : ℕ). AreGoodItems P no_jumps k P.main.body) (ap length well.alone)
    (contains_at (IsGoodFunction P) P.functions P.main well.functions well.main) in
    let body : Fit (main_frame P) n graph.live graph.body = fit_all P (sites_of P) few well graph.inlined no_jumps 0 st fw good in
    subst (λ (h : Node). TreeFits h n) (sym graph.parts) (seq_fit {f = main_frame P} graph.body (point graph.last) fw body (point_fit graph.last)).fits

-- no more globals than variables may live
pub few_globals : (P : Program) (g : Node) → AllFew (sites_of P) → IsInlinedTree P g → length P.globals ≤ greatest_live
few_globals P g few graph =
    let fw : Few graph.live = few graph.last _ graph.ends in
    let low : length P.globals ≤ graph.live = grows_all graph.inlined in
    omega (arith, fw, low)
