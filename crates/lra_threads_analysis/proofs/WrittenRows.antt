-- Note by note, what a thread writes is added.
use Rattle.std.proofs.Common.{◌≡◌, ◌∙◌, ◌+◌, ◌≤◌, ◌<◌, ℕ, suc, List, ◌∷◌, length, map, get_or, drop, drop-cons, ap, sym, subst, arith}
use Rattle.lra_threads_analysis.specs.Crates.{lra_box.Content.BoxContent, lra_box.Tables.bound_at, lra_fixpoint.declared.tables.Note.Note}
use Rattle.lra_threads_fixpoint.specs.Intervals.{IntervalRow, grown_option, no_values, updated}
use Rattle.lra_threads_fixpoint.specs.{Interference.taken_all, Interference.written_by, declared.growth.Growth.TheVariants.Join}
use Rattle.lra_threads_fixpoint.proofs.{ListLemmas.drop_all, TakenLemmas.taken_is_written}
use Rattle.lra_threads_analysis.specs.Found.{write_in}

pub none_taken : (globals count : ℕ) (notes : List (Note BoxContent)) (row : IntervalRow) → row ≡ no_values count → count ≡ globals
    → taken_all row (map write_in notes) ≡ written_by globals (map write_in notes)
none_taken globals count notes row e same =
    ap (λ (r : IntervalRow). taken_all r (map write_in notes)) (e ∙ ap no_values same) ∙ taken_is_written globals (map write_in notes)

pub taken_next : (x : ℕ) (items : List (Note BoxContent)) (one : Note BoxContent) (old new w : IntervalRow) → x < length items → one ≡ get_or items x one
    → new ≡ updated one.variable (λ i. grown_option Join i (bound_at one.variable one.value.bounds)) old
    → taken_all old (map write_in (drop x items)) ≡ w → taken_all new (map write_in (drop (x + 1) items)) ≡ w
taken_next x items one old new w few e is rest =
    let first : drop x items ≡ one ∷ drop (suc x) items = drop-cons items x one few
    ∙ ap (λ (n : Note BoxContent). n ∷ drop (suc x) items) (sym e) in
    let before : taken_all (updated one.variable (λ i. grown_option Join i (bound_at one.variable one.value.bounds)) old)
    (map write_in (drop (suc x) items)) ≡ w = subst (λ (ns : List (Note BoxContent)). taken_all old (map write_in ns) ≡ w) first rest in
    let after = subst (λ (row : IntervalRow). taken_all row (map write_in (drop (suc x) items)) ≡ w) (sym is) before in
    let next : suc x ≡ x + 1 = omega arith in
    subst (λ (y : ℕ). taken_all new (map write_in (drop y items)) ≡ w) next after

pub taken_last : (x : ℕ) (items : List (Note BoxContent)) (now w : IntervalRow) → length items ≤ x → taken_all now (map write_in (drop x items)) ≡ w
    → now ≡ w
taken_last x items now w end rest =
    subst (λ (ns : List (Note BoxContent)). taken_all now (map write_in ns) ≡ w) (drop_all items x end) rest
