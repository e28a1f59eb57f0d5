-- Where a part of a well-formed program stands, its own parts stand.
use Rattle.std.proofs.Common.{◌≡◌, ℕ, suc, ◌+◌, ◌≤◌, length, Option, Some, None, true, false, slice_get, refl, sym, ap, ◌∙◌, arith}
use Rattle.std.proofs.lemmas.Option.{none-some, same_Some}
use Rattle.lra_program.specs.Program.{Variable, Element, Cond, Call, Rvalue, result, Declarator, Stmt, block, assign, write, call, if, loop, for, break, continue, return, BlockItems, no_more}
use Rattle.lra_program.specs.Program.{declaration, array, statement, switch, Cases, labelled, stated, Expr, Function, Program}
use Rattle.lra_program.specs.WellFormed.{Jumps, no_jumps, in_loop, in_switch, IsWellFormed}
use Rattle.lra_program.specs.{Sites.live_after_items, declared.arrays.Array.Array, declared.receivers.Receiver.Receiver}
use Rattle.lra_inline_steps.specs.Crates.lra_base.declared.case_labels.CaseLabel.{CaseLabel}
use Rattle.lra_inline_sound.proofs.DistinctSites.{all_at, main_at}
use Rattle.lra_inline_steps.specs.Building.{Stands, StmtStands, CasesStand, cases_frame, ItemsStand, GivenStands, CallStands}
use Rattle.lra_inline_steps.specs.declared.frame.Frame.{Frame}
use Rattle.lra_inline_steps.proofs.LiveInside.{live_low}

stands_as : (r : Frame) (X Y : Jumps → ℕ → Type 0) → ((b : Jumps) (n : ℕ) → X b n → Y b n) → Stands r X → Stands r Y
stands_as r X Y f x = record {
  jumps = x.jumps;
  own = x.own;
  good = f x.jumps x.own x.good;
  within = x.within;
  breaks = x.breaks;
  continues = x.continues;
  break_low = x.break_low;
  continue_low = x.continue_low;
  back_low = x.back_low;
}

both_live : (base own live : ℕ) (b : BlockItems) → base + own ≤ live → base + live_after_items own b ≤ live_after_items live b
both_live base own live no_more l = l
both_live base own live (declaration d b) l = both_live base (suc own) (suc live) b (omega arith)
both_live base own live (array at a b) l = both_live base own live b l
both_live base own live (statement s b) l = both_live base own live b l

module _ (P : Program) (r : Frame) where
  pub block_stands : (items : BlockItems) (end : ℕ) → StmtStands P r (block items end) → ItemsStand P r items
  block_stands items end x = stands_as r _ _ (λ b n g. g) x

  pub assign_stands : (at : ℕ) (v : Variable) (e : Rvalue) → StmtStands P r (assign at v e) → GivenStands P r (Some e)
  assign_stands at v e x = stands_as r _ _ (λ b n g. (at, g.1)) x

  pub write_stands : (at : ℕ) (x : Element) (e : Rvalue) → StmtStands P r (write at x e) → GivenStands P r (Some e)
  write_stands at x e s = stands_as r _ _ (λ b n g. (at, g.1)) s

  pub call_stands : (at : ℕ) (c : Call) → StmtStands P r (call at c) → CallStands P r c
  call_stands at c x = stands_as r _ _ (λ b n g. (at, g)) x

  pub true_stands : (at : ℕ) (c : Cond) (s t : Stmt) → StmtStands P r (if at c s t) → StmtStands P r s
  true_stands at c s t x = stands_as r _ _ (λ b n g. g.1) x

  pub false_stands : (at : ℕ) (c : Cond) (s t : Stmt) → StmtStands P r (if at c s t) → StmtStands P r t
  false_stands at c s t x = stands_as r _ _ (λ b n g. g.2) x

  pub return_stands : (at : ℕ) (o : Option Rvalue) → StmtStands P r (return at o) → GivenStands P r o
  return_stands at o x = stands_as r _ _ (λ b n g. (at, g)) x

  pub first_stands : (s : Stmt) (b : BlockItems) → ItemsStand P r (statement s b) → StmtStands P r s
  first_stands s b x = stands_as r _ _ (λ l n g. g.0) x

  pub others_stand : (s : Stmt) (b : BlockItems) → ItemsStand P r (statement s b) → ItemsStand P r b
  others_stand s b x = stands_as r _ _ (λ l n g. g.1) x

  pub array_stands : (at : ℕ) (a : Array) (b : BlockItems) → ItemsStand P r (array at a b) → ItemsStand P r b
  array_stands at a b x = stands_as r _ _ (λ l n g. g) x

  pub result_stands : (c : Call) → GivenStands P r (Some (result c)) → CallStands P r c
  result_stands c x = stands_as r _ _ (λ l n g. g) x

  -- among the cases of a `switch`
  pub switch_stands : (at : ℕ) (e : Expr) (cs : Cases) → StmtStands P r (switch at e cs) → CasesStand P (cases_frame r) cs
  switch_stands at e cs x = record {
    jumps = in_switch x.jumps;
    own = x.own;
    good = x.good.1;
    within = x.within;
    breaks = λ e. (r.live, refl);
    continues = x.continues;
    break_low = λ m e. let h = same_Some _ m e in omega arith;
    continue_low = x.continue_low;
    back_low = x.back_low;
  }

  pub labelled_stand : (l : CaseLabel) (cs : Cases) → CasesStand P r (labelled l cs) → CasesStand P r cs
  labelled_stand l cs x = stands_as r _ _ (λ b n g. g) x

  pub first_case_stands : (s : Stmt) (cs : Cases) → CasesStand P r (stated s cs) → StmtStands P r s
  first_case_stands s cs x = stands_as r _ _ (λ b n g. g.0) x

  pub other_cases_stand : (s : Stmt) (cs : Cases) → CasesStand P r (stated s cs) → CasesStand P r cs
  other_cases_stand s cs x = stands_as r _ _ (λ b n g. g.1) x

  -- one variable more
  pub declared_stands : (n : ℕ) (d : Declarator) (b : BlockItems) → n ≡ suc r.live → ItemsStand P r (declaration d b) → GivenStands P (record r { live = n }) d.rvalue
  declared_stands n d b same x = record {
    jumps = x.jumps;
    own = suc x.own;
    good = (d.label, x.good.0);
    within = let w = x.within in omega arith;
    breaks = x.breaks;
    continues = x.continues;
    break_low = λ m e. let l = x.break_low m e in omega arith;
    continue_low = λ m e. let l = x.continue_low m e in omega arith;
    back_low = λ a e. let l = x.back_low a e in omega arith;
  }

  pub behind_stand : (n : ℕ) (d : Declarator) (b : BlockItems) → n ≡ suc r.live → ItemsStand P r (declaration d b) → ItemsStand P (record r { live = n }) b
  behind_stand n d b same x = record {
    jumps = x.jumps;
    own = suc x.own;
    good = x.good.1;
    within = let w = x.within in omega arith;
    breaks = x.breaks;
    continues = x.continues;
    break_low = λ m e. let l = x.break_low m e in omega arith;
    continue_low = λ m e. let l = x.continue_low m e in omega arith;
    back_low = λ a e. let l = x.back_low a e in omega arith;
  }

  pub body_stands : (at : ℕ) (c : Cond) (s t : Stmt) → StmtStands P r (loop at c s t)
      → StmtStands P (record r { breaks = Some r.live; continues = Some r.live }) s
  body_stands at c s t x = record {
    jumps = in_loop;
    own = x.own;
    good = x.good.1;
    within = x.within;
    breaks = λ e. (r.live, refl);
    continues = λ e. (r.live, refl);
    break_low = λ m e. let h = same_Some _ m e in omega arith;
    continue_low = λ m e. let h = same_Some _ m e in omega arith;
    back_low = x.back_low;
  }

  pub step_stands : (at : ℕ) (c : Cond) (s t : Stmt) → StmtStands P r (loop at c s t) → StmtStands P (record r { breaks = None; continues = None }) t
  step_stands at c s t x = record {
    jumps = no_jumps;
    own = x.own;
    good = x.good.2;
    within = x.within;
    breaks = λ e. absurd (false_true e);
    continues = λ e. absurd (false_true e);
    break_low = λ m e. absurd (none-some m e);
    continue_low = λ m e. absurd (none-some m e);
    back_low = x.back_low;
  }
    where
      false_true : false ≡ true → ⊥
      false_true e = cc

  pub init_stands : (at : ℕ) (init : BlockItems) (c : Cond) (s t : Stmt) → StmtStands P r (for at init c s t) → ItemsStand P r init
  init_stands at init c s t x = record {
    jumps = no_jumps;
    own = x.own;
    good = x.good.0;
    within = x.within;
    breaks = λ e. absurd (false_true e);
    continues = λ e. absurd (false_true e);
    break_low = x.break_low;
    continue_low = x.continue_low;
    back_low = x.back_low;
  }
    where
      false_true : false ≡ true → ⊥
      false_true e = cc

  -- its loop, after its variables
  pub for_again : (at : ℕ) (init : BlockItems) (c : Cond) (s t : Stmt) (n : ℕ) → n ≡ live_after_items r.live init → StmtStands P r (for at init c s t)
      → StmtStands P (record r { live = n }) (loop at c s t)
  for_again at init c s t n same x =
      let low = live_low r.live init in
      record {
        jumps = no_jumps;
        own = live_after_items x.own init;
        good = (x.good.1, x.good.2, x.good.3);
        within = let w = both_live r.base x.own r.live init x.within in omega arith;
        breaks = λ e. absurd (false_true e);
        continues = λ e. absurd (false_true e);
        break_low = λ m e. let l = x.break_low m e in omega arith;
        continue_low = λ m e. let l = x.continue_low m e in omega arith;
        back_low = λ a e. let l = x.back_low a e in omega arith;
      }
    where
      false_true : false ≡ true → ⊥
      false_true e = cc

  -- a callee's body in its own frame
  pub callee_stands : (n more k : ℕ) (x : Receiver) (c : Call) (fn : Function) → IsWellFormed P → CallStands P r c → slice_get P.functions c.function ≡ Some fn → n ≡ r.live →
      k ≡ n + length fn.parameters
      → ItemsStand P (record { base = n; live = k; calls_left = more; breaks = None; continues = None; receiver = x; back = Some n }) fn.body
  callee_stands n more k x c fn well stands found same wide = record {
    jumps = no_jumps;
    own = length fn.parameters;
    good = all_at P P.functions c.function fn well.functions found;
    within = omega arith;
    breaks = λ e. absurd (false_true e);
    continues = λ e. absurd (false_true e);
    break_low = λ m e. absurd (none-some m e);
    continue_low = λ m e. absurd (none-some m e);
    back_low = λ b e. let h = same_Some _ b e in omega arith;
  }
    where
      false_true : false ≡ true → ⊥
      false_true e = cc

  -- the body of `main`
  pub main_stands : IsWellFormed P → r.base ≤ r.live → r.breaks ≡ None → r.continues ≡ None → r.back ≡ None → ItemsStand P r P.main.body
  main_stands well low no_break no_continue no_back =
      let at = main_at P well in
      record {
        jumps = no_jumps;
        own = length P.main.parameters;
        good = all_at P P.functions at.0 P.main well.functions at.1;
        within = let alone = ap length well.alone in omega (arith, alone);
        breaks = λ e. absurd (false_true e);
        continues = λ e. absurd (false_true e);
        break_low = λ m e. absurd (none-some m (sym no_break ∙ e));
        continue_low = λ m e. absurd (none-some m (sym no_continue ∙ e));
        back_low = λ b e. absurd (none-some b (sym no_back ∙ e));
      }
    where
      false_true : false ≡ true → ⊥
      false_true e = cc

  -- the callee of a call, and how many arguments it takes
  pub the_callee : (c : Call) → CallStands P r c → (fn : Function) × (slice_get P.functions c.function ≡ Some fn) × (length c.arguments ≡ length fn.parameters)
  the_callee c x = let g = x.good.1 in (g.callee, g.is_callee, g.width)

  -- where a `break` or a `continue` goes
  pub break_stands : (at : ℕ) → StmtStands P r (break at) → (m : ℕ) × (r.breaks ≡ Some m)
  break_stands at x = x.breaks x.good

  pub continue_stands : (at : ℕ) → StmtStands P r (continue at) → (m : ℕ) × (r.continues ≡ Some m)
  continue_stands at x = x.continues x.good
