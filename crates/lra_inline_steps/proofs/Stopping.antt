-- If a part is stopped by a limit, the whole is.
use Rattle.std.proofs.Common.{◌≡◌, ℕ, List, [], ◌∷◌, ◌++◌, Result, Ok, Err, IfOk, sym, subst, append_assoc}
use Rattle.std.proofs.lemmas.Result.{err_from_is_err_and}
use Rattle.std.specs.Result.{IsErrAnd}
use Rattle.lra_program.specs.Program.{Cond, Stmt, for, BlockItems, Program}
use Rattle.lra_program.specs.Sites.{Site, Event, plain_site, live_after_items, stmt_events, items_events}
use Rattle.lra_inline_steps.specs.{Building.inside, Limits.passed, Limits.stopped, Limits.add_points, Limits.OnError, Limits.OnLimit, declared.frame.Frame.Frame}
use Rattle.lra_inline_steps.specs.{declared.points.InlineError.InlineError, declared.points.InlineError.TheVariants.Passed, declared.points.InlineError.TheVariants.Memory, declared.points.Limit.Limit}
use Rattle.lra_inline_steps.proofs.Walking.{walk_then, walk_stop}

pub error_as : (e : InlineError) (X Y : Limit → Type 0) → ((x : Limit) → X x → Y x) → OnError e X → OnError e Y
error_as (Passed x) X Y f h = f x h
error_as Memory X Y f h = tt

-- in the second of two parts, in the third of three
pub second_stopped : (S V : List Site) (es fs : List Event) (x : Limit) → add_points S es ≡ passed V → add_points V fs ≡ stopped x →
    add_points S (es ++ fs) ≡ stopped x
second_stopped S V es fs x e f = walk_then S es fs V (stopped x) e f

pub third_stopped : (S V W : List Site) (es fs gs : List Event) (x : Limit) → add_points S es ≡ passed V → add_points V fs ≡ passed W → add_points W gs ≡ stopped x →
    add_points S (es ++ (fs ++ gs)) ≡ stopped x
third_stopped S V W es fs gs x e f g = walk_then S es (fs ++ gs) V (stopped x) e (walk_then V fs gs W (stopped x) f g)

-- in the second of three
pub middle_stopped : (S V : List Site) (es fs gs : List Event) (x : Limit) → add_points S es ≡ passed V → add_points V fs ≡ stopped x → add_points S (es ++ (fs ++ gs)) ≡ stopped x
middle_stopped S V es fs gs x e f = walk_then S es (fs ++ gs) V (stopped x) e (walk_stop V fs gs x f)

-- errors handed on --------------------------------------------------------------------------------------------------

pub limit_to : {A : Type 0} (b : Result A InlineError) (d e : InlineError) (X Y : Limit → Type 0) → b ≡ Err d → d ≡ e → ((x : Limit) → X x → Y x) → OnError e X → OnLimit b Y
limit_to b d e X Y i j f h = rw (i, j) (error_as e X Y f h)

-- what the exit of a `?` answers if a part passed a limit (if the memory failed, nothing has to hold)
module _ {A : Type 0} (b : Result A InlineError) where
  pub err_stopped : (e : InlineError) (X Y : Limit → Type 0) → IsErrAnd b (λ d. d ≡ e) → ((x : Limit) → X x → Y x) → OnError e X → OnLimit b Y
  err_stopped e X Y h f o = let p = err_from_is_err_and b h in limit_to b p.0 e X Y p.1 p.2 f o

-- what a call answers is handed on -----------------------------------------------------------------------------------

pub limit_through : {A : Type 0} (b : Result A InlineError) (X Y : Limit → Type 0) → ((x : Limit) → X x → Y x) → OnLimit b X → OnLimit b Y
limit_through (Ok a) X Y f h = tt
limit_through (Err e) X Y f h = error_as e X Y f h

-- of what is made of its parts, if only the memory may fail
pub made_ok : {A E : Type 0} (b : Result A InlineError) (a : Result A E) (X Y : A → Type 0) → IfOk b (λ g. a ≡ Ok g) → IfOk a X → ((g : A) → X g → Y g) → IfOk b Y
made_ok (Ok g) a X Y e x f = f g (subst (λ z. IfOk z X) e x)
made_ok (Err d) a X Y e x f = tt

pub made_limit : {A : Type 0} (b : Result A InlineError) (Y : Limit → Type 0) → OnLimit b (λ _. ⊥) → OnLimit b Y
made_limit b Y h = limit_through b (λ _. ⊥) Y (λ x z. absurd z) h

-- in a `for` -------------------------------------------------------------------------------------------------------------

module _ (P : Program) (path : List ℕ) (r : Frame) (S : List Site) (init : BlockItems) (at : ℕ) (c : Cond) (s t : Stmt) where
  abbrev own : ℕ → List Event
  own n = plain_site path at n ∷ []

  abbrev begin : List Event
  begin = items_events (inside P path r) path r.live init

  abbrev turns : ℕ → List Event
  turns n = stmt_events (inside P path r) path n t

  abbrev rounds : ℕ → List Event
  rounds n = stmt_events (inside P path r) path n s

  abbrev round : ℕ → List Event
  round n = turns n ++ rounds n

  abbrev whole : List Event
  whole = stmt_events (inside P path r) path r.live (for at init c s t)

  abbrev last : ℕ
  last = live_after_items r.live init

  pub for_at_begin : (V : List Site) (n : ℕ) (x : Limit) → n ≡ last → add_points S (own n) ≡ passed V → add_points V begin ≡ stopped x →
      add_points S whole ≡ stopped x
  for_at_begin V n x same e h = middle_stopped S V (own last) (begin ++ turns last) (rounds last) x (subst (λ z. add_points S (own z) ≡ passed V) same e) (walk_stop V begin (turns last) x h)

  pub for_at_round : (V W : List Site) (n : ℕ) (x : Limit) → n ≡ last → add_points S (own n) ≡ passed V → add_points V begin ≡ passed W → add_points W (round n) ≡ stopped x →
      add_points S whole ≡ stopped x
  for_at_round V W n x same e f h =
      subst (λ es. add_points S (own last ++ es) ≡ stopped x) (sym (append_assoc begin (turns last) (rounds last)))
      (third_stopped S V W (own last) begin (round last) x (subst (λ z. add_points S (own z) ≡ passed V) same e) f
      (subst (λ z. add_points W (round z) ≡ stopped x) same h))
