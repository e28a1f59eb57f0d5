-- Which function of the defined program a function of the code's stands for, and that `main` is one of them.
use Rattle.std.proofs.Common.{◌≡◌, ℕ, ◌+◌, ◌≤◌, ◌<◌, List, [], ◌∷◌, length, map, Some, None, option_map, slice_get, get_or, inl, inr, refl, sym, ap, ◌∙◌, subst, arith}
use Rattle.std.proofs.lemmas.List.{length-map}
use Rattle.std.proofs.lemmas.Option.{none-some, same_Some, slice_get-map, slice_get_cases, slice_get_read, get_or_from_slice_get}
use Rattle.std.specs.Vec.{vec_len}
use Rattle.lra_base.specs.Limits.{greatest_live}
use Rattle.lra_program.specs.Program as resolved
use Rattle.lra_program.specs.ProgramViews.{expr_view, call_view, item_view, items_of, function_view, function_or, program_view}
use Rattle.lra_program.specs.WellFormed.{items_numbers, function_numbers, IsWellFormed}
use Rattle.lra_program.specs.{Receivers.nobody, Receivers.result_receiver, Step.main_receiver, declared.program.BlockItem.BlockItem, declared.program.Call.Call, declared.program.Function.Function}
use Rattle.lra_program.specs.{declared.program.Program.Program, declared.receivers.Receiver.Receiver}
use Rattle.lra_inline.proofs.Crates.lra_inline_sound.DistinctLists.{IsIn, in_right, in_piece, in_range}
use Rattle.lra_inline.proofs.Crates.lra_inline_sound.DistinctSites.{main_at}
use Rattle.lra_inline_steps.specs.{Building.callee_frame, Building.CallStands, declared.frame.Frame.Frame}
use Rattle.lra_inline_steps.proofs.{Shown.shown_items, Standing.the_callee}
use Rattle.lra_inline.proofs.{Calling.IsCallee, Totals.first_frame}

-- labels are counted from 1
end_counts : (P : resolved.Program) → IsWellFormed P → 1 ≤ P.main.end
end_counts P well =
    let at = main_at P well in
    let here : IsIn P.main.end (function_numbers P.main) = in_right P.main.end (items_numbers P.main.body) (P.main.end ∷ []) (inl refl) in
    in_range P.main.end 1 _ (subst (IsIn P.main.end) well.labels (in_piece function_numbers P.functions at.0 P.main P.main.end at.1 here))

pub main_there : (p : Program) → IsWellFormed (program_view p) → p.main < length p.functions.items
main_there p well = elim ((slice_get_cases p.functions.items p.main).1) [
  | inl h ↦ h.1
  | inr h ↦
      let same : (program_view p).main.end ≡ 0 = ap (λ o. (function_or o).end) (slice_get-map function_view p.functions.items p.main ∙ ap (option_map function_view) h.1) in
      let low : 1 ≤ 0 = subst (λ n. 1 ≤ n) same (end_counts (program_view p) well) in
      absurd (omega arith)
]

pub main_below : (p : Program) → IsWellFormed (program_view p) → p.main < vec_len p.functions
main_below p well = let l = main_there p well in let ok = p.functions.ok.0 in omega (arith, l, ok)

pub main_read : (p : Program) (f : Function) → IsWellFormed (program_view p) → f ≡ get_or p.functions.items p.main f → slice_get p.functions.items p.main ≡ Some f
main_read p f well read = slice_get_read p.functions.items (length p.functions.items) p.main f refl (main_there p well) read

-- where main's items stand, in code
abbrev pub begun_at : ℕ → Receiver → Frame
begun_at n x = record { base = n; live = n; calls_left = 32; breaks = None; continues = None; receiver = x; back = None }

pub frame_first : (p : Program) (n : ℕ) (x : Receiver) → n ≡ vec_len p.globals → x ≡ main_receiver (program_view p) →
    begun_at n x ≡ first_frame (program_view p)
frame_first p n x e gets = ap (λ z. begun_at z x) (e ∙ p.globals.ok.0) ∙ ap (λ y. begun_at (length p.globals.items) y) gets

module _ (p : Program) (f : Function) where
  pub function_there : (i : ℕ) → slice_get p.functions.items i ≡ Some f → slice_get (program_view p).functions i ≡ Some (function_view f)
  function_there i e = slice_get-map function_view p.functions.items i ∙ ap (option_map function_view) e

  pub main_body : slice_get p.functions.items p.main ≡ Some f → (program_view p).main.body ≡ items_of (map item_view f.body.items.items)
  main_body e = ap (λ o. (function_or o).body) (function_there p.main e) ∙ shown_items f.body

  pub main_end : slice_get p.functions.items p.main ≡ Some f → (program_view p).main.end ≡ f.end
  main_end e = ap (λ o. (function_or o).end) (function_there p.main e)

  -- what gets main's value
  pub main_receives : slice_get p.functions.items p.main ≡ Some f → (y x : Receiver) → y ≡ nobody → x ≡ result_receiver f.result_type y → x ≡ main_receiver
      (program_view p)
  main_receives e y x none gets = gets ∙ ap (λ z. result_receiver f.result_type z) none ∙ ap (λ o. result_receiver (function_or o).result_type nobody)
      (sym (function_there p.main e))

-- as many arguments as there may be fit after the variables that live
pub arguments_fit : (live k : ℕ) (c : Call) → k ≡ vec_len c.arguments → live ≤ greatest_live + 1 → live + k < 18446744073709551616
arguments_fit live k c e few =
    let within = c.arguments.ok.1 in
    let small = c.arguments.small in
    omega (arith, e, few, within, small)

-- the callee of a call that stands in the program
module _ (p : Program) (r : Frame) (c : Call) (stands : CallStands (program_view p) r (call_view c)) where
  pub called_below : c.function < vec_len p.functions
  called_below = elim ((slice_get_cases p.functions.items c.function).1) [
    | inl h ↦ let l = h.1 in let ok = p.functions.ok.0 in omega (arith, l, ok)
    | inr h ↦ absurd (none-some _ (sym (slice_get-map function_view p.functions.items c.function ∙ ap (option_map function_view) h.1) ∙ (the_callee (program_view p) r (call_view c) stands).1))
  ]

  module _ (f : Function) (read : f ≡ get_or p.functions.items c.function f) where
    pub called_found : slice_get (program_view p).functions c.function ≡ Some (function_view f)
    called_found = elim ((slice_get_cases p.functions.items c.function).1) [
      | inl h ↦ function_there p f c.function (h.2 ∙ ap (λ z. Some z) (sym (read ∙ get_or_from_slice_get p.functions.items c.function h.0 f h.2)))
      | inr h ↦ absurd (none-some _ (sym (slice_get-map function_view p.functions.items c.function ∙ ap (option_map function_view) h.1) ∙ (the_callee (program_view p) r (call_view c) stands).1))
    ]

  module _ (f : Function) (found : slice_get (program_view p).functions c.function ≡ Some (function_view f)) where
    pub called_fits : length (call_view c).arguments ≡ length f.parameters.items
    called_fits =
        let z = the_callee (program_view p) r (call_view c) stands in
        z.2 ∙ ap (λ (g : resolved.Function). length g.parameters) (same_Some z.0 (function_view f) (sym z.1 ∙ found))

    -- as many parameters as arguments, after the variables that live
    pub called_few : (live : ℕ) → live ≤ greatest_live + 1 → live + length f.parameters.items < 18446744073709551616
    called_few live few = subst (λ k. live + k < 18446744073709551616) (c.arguments.ok.0 ∙ sym (length-map c.arguments.items expr_view) ∙ called_fits)
        (arguments_fit live (vec_len c.arguments) c refl few)

    -- its body, under the path and in the frame that are made for it
    pub callee_is : (path : List ℕ) (x y : Receiver) (q : List ℕ) (s : Frame) (items : List BlockItem) → (r.calls_left ≡ 0 → ⊥) → q ≡ c.label ∷ path
        → y ≡ result_receiver f.result_type x → s ≡ callee_frame r y (length (call_view c).arguments) → items ≡ f.body.items.items → IsCallee (program_view p)
        path r x (call_view c) q s (items_of (map item_view items))
    callee_is path x y q s items some within gets frame body = record {
      fn = function_view f;
      found = found;
      some_left = some;
      within = within;
      frame = frame ∙ ap (λ z. callee_frame r z (length (call_view c).arguments)) gets
          ∙ ap (λ k. callee_frame r (result_receiver f.result_type x) k) called_fits;
      body = ap (λ (z : List BlockItem). items_of (map item_view z)) body ∙ sym (shown_items f.body);
    }
