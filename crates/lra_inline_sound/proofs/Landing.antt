-- Where a jump leads on a list of items, and what a step must have done.
use Rattle.std.proofs.Common.{◌≡◌, ℕ, List, ◌∷◌, Option, Some, None, Bool, true, false, ◌⊎◌, inl, inr, refl, sym, ap}
use Rattle.std.proofs.lemmas.Option.{same_Some, none-some}
use Rattle.std.specs.Prelude.{⊤, []}
use Rattle.lra_inline_sound.specs.Crates.lra_program.Step.{State, tested, CallContext, ReturnFrame, Item, run, declare, declare_array, all, end_of, next_round, cases, end_switch, end_for}
use Rattle.lra_inline_sound.specs.Crates.lra_program.Step.{return_frame, leave_call, Config, BreakTarget, break_target, ContinueTarget, continue_target, ReturnTarget, return_target, go, go_by, go_on}
use Rattle.lra_inline_sound.specs.Crates.lra_program.Value.{Drawn}
use Rattle.lra_operations.specs.{Inlined.Frame, Tree.Exit, Tree.broken, Tree.continued, Tree.returned}

abbrev pub config : List Item → CallContext → State → Config
config k h s = record { items = k; here = h; state = s }

-- no function's end is on top
abbrev pub IsBare : List Item → Type 0
IsBare [] = ⊤
IsBare (run a ∷ k) = ⊤
IsBare (declare d ∷ k) = ⊤
IsBare (declare_array at a ∷ k) = ⊤
IsBare (all a ∷ k) = ⊤
IsBare (end_of at n ∷ k) = ⊤
IsBare (next_round step again n ∷ k) = ⊤
IsBare (cases cs ∷ k) = ⊤
IsBare (end_switch n ∷ k) = ⊤
IsBare (end_for n ∷ k) = ⊤
IsBare (return_frame b ∷ k) = ⊥
IsBare (leave_call ∷ k) = ⊤

abbrev pub land_broken : Option BreakTarget → CallContext → State → Option Config
land_broken None h s = None
land_broken (Some t) h s = Some (config t.rest h s)

abbrev pub land_continued : Option ContinueTarget → CallContext → State → Option Config
land_continued None h s = None
land_continued (Some t) h s = Some (config (next_round t.step t.again t.length ∷ t.rest) h s)

abbrev pub land_returned : Option ReturnTarget → State → Option Config
land_returned None s = None
land_returned (Some r) s = Some (config r.rest r.back.here s)

-- where a jump leads from above these items
abbrev pub land : Exit → CallContext → List Item → State → Option Config
land broken h k s = land_broken (break_target k) h s
land continued h k s = land_continued (continue_target k) h s
land returned h k s = land_returned (return_target k) s

pub land_skip : (j : Exit) (h : CallContext) (i : Item) (k : List Item) (s : State) → break_target (i ∷ k) ≡ break_target k →
    continue_target (i ∷ k) ≡ continue_target k
    → return_target (i ∷ k) ≡ return_target k
    → land j h (i ∷ k) s ≡ land j h k s
land_skip broken h i k s d e f = rw d refl
land_skip continued h i k s d e f = rw e refl
land_skip returned h i k s d e f = rw f refl

abbrev pub outside_length : Option BreakTarget → Option ℕ
outside_length None = None
outside_length (Some t) = Some t.length

abbrev pub turn_length : Option ContinueTarget → Option ℕ
turn_length None = None
turn_length (Some t) = Some t.length

abbrev pub back_of : Option ReturnTarget → Option ReturnFrame
back_of None = None
back_of (Some r) = Some r.back

-- the items below are those of the frame
pub record Matches (f : Frame) (k : List Item) : Type 0 where
  pub breaks : (m : ℕ) → f.breaks ≡ Some m → outside_length (break_target k) ≡ Some m
  pub continues : (m : ℕ) → f.continues ≡ Some m → turn_length (continue_target k) ≡ Some m
  pub backs : back_of (return_target k) ≡ f.back

pub matches_skip : (f : Frame) (i : Item) (k : List Item) → break_target (i ∷ k) ≡ break_target k → continue_target (i ∷ k) ≡ continue_target k →
    return_target (i ∷ k) ≡ return_target k
    → Matches f k → Matches f (i ∷ k)
matches_skip f i k d e g m = record { breaks = λ n h. rw d (m.breaks n h); continues = λ n h. rw e (m.continues n h); backs = rw g m.backs }

pub outside_some : (o : Option BreakTarget) (m : ℕ) → outside_length o ≡ Some m → (t : BreakTarget) × (o ≡ Some t) × (t.length ≡ m)
outside_some None m e = absurd (none-some m e)
outside_some (Some t) m e = (t, refl, same_Some t.length m e)

pub turn_some : (o : Option ContinueTarget) (m : ℕ) → turn_length o ≡ Some m → (t : ContinueTarget) × (o ≡ Some t) × (t.length ≡ m)
turn_some None m e = absurd (none-some m e)
turn_some (Some t) m e = (t, refl, same_Some t.length m e)

pub mark_some : (o : Option ReturnTarget) (b : ReturnFrame) → back_of o ≡ Some b → (r : List Item) × (o ≡ Some (record { back = b; rest = r }))
mark_some None b e = absurd (none-some b e)
mark_some (Some r) b e = (r.rest, ap (λ (x : ReturnFrame). Some (record { back = x; rest = r.rest })) (same_Some r.back b e))

pub mark_none : (o : Option ReturnTarget) → back_of o ≡ None → o ≡ None
mark_none None e = refl
mark_none (Some r) e = absurd (none-some r.back (sym e))

pub go_some : (k : List Item) (h : CallContext) (o : Option State) (e : Config) → go k h o ≡ Some e → (t : State) × (o ≡ Some t) × (config k h t ≡ e)
go_some k h None e x = absurd (none-some e x)
go_some k h (Some t) e x = (t, refl, same_Some (config k h t) e x)

pub go_on_some : (o : Option State) (f : State → Option Config) (e : Config) → go_on o f ≡ Some e → (t : State) × (o ≡ Some t) × (f t ≡ Some e)
go_on_some None f e x = absurd (none-some e x)
go_on_some (Some t) f e x = (t, refl, x)

pub go_by_some : (on off : List Item) (h : CallContext) (s : State) (v : Drawn Bool) (e : Config) → go_by on off h s v ≡ Some e
    → ((t : State) × (tested true s v ≡ Some t) × (config on h t ≡ e)) ⊎ ((t : State) × (tested false s v ≡ Some t) × (config off h t ≡ e))
go_by_some on off h s None e x = absurd (none-some e x)
go_by_some on off h s (Some (true, ds)) e x = inl (record s { draws = ds }, refl, same_Some _ e x)
go_by_some on off h s (Some (false, ds)) e x = inr (record s { draws = ds }, refl, same_Some _ e x)

pub lands_broken : (o : Option BreakTarget) (t : BreakTarget) (h : CallContext) (s : State) (e : Config) → o ≡ Some t → config t.rest h s ≡ e →
    land_broken o h s ≡ Some e
lands_broken o t h s e i j = rw i (ap Some j)

pub lands_continued : (o : Option ContinueTarget) (t : ContinueTarget) (h : CallContext) (s : State) (e : Config) → o ≡ Some t → config (next_round t.step t.again t.length ∷ t.rest) h s ≡ e →
    land_continued o h s ≡ Some e
lands_continued o t h s e i j = rw i (ap Some j)

pub lands_returned : (o : Option ReturnTarget) (r : ReturnTarget) (s : State) (e : Config) → o ≡ Some r → config r.rest r.back.here s ≡ e →
    land_returned o s ≡ Some e
lands_returned o r s e i j = rw i (ap Some j)
