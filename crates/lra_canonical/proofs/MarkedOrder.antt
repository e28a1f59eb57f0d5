-- Marked rows in the order of their rows.
use Rattle.std.proofs.Common.{◌≡◌, ◌∙◌, ◌+◌, ◌<◌, ℕ, ℤ, Bool, List, [], ap, arith, get_or, length, map, subst, sym}
use Rattle.std.proofs.{lemmas.List.ext_get_or, lemmas.List.get_or-map, lemmas.List.length-map, lemmas.List.Sorted.All-permutation, lemmas.List.Sorted.IsPermutation-map}
use Rattle.std.specs.{List.Sorted.IsPermutation, List.Sorted.IsSorted, Ordering.is_lt, declared.cmp.Ordering.Ordering}
use Rattle.lra_canonical.specs.{MarkedRows.AreToldBy, MarkedRows.bits_in, MarkedRows.rows_in, Ordered.cmp_by, declared.order.Marked.Marked, declared.order.Order.Order}

abbrev pub marked_cmp : Order → Marked → Marked → Ordering
marked_cmp order x y = cmp_by order x.row y.row

no_mark : Marked
no_mark = record { row = []; bits = [] }

pub row_at : (ms : List Marked) (k : ℕ) (d : List ℤ) (e : Marked) → k < length ms → get_or (rows_in ms) k d ≡ (get_or ms k e).row
row_at ms k d e h = get_or-map (λ (m : Marked). m.row) ms k e d h

pub rows_length : (ms : List Marked) → length (rows_in ms) ≡ length ms
rows_length ms = length-map ms (λ (m : Marked). m.row)

-- their rows are sorted as well
pub rows_sorted : (order : Order) (ms : List Marked) → IsSorted (marked_cmp order) ms → IsSorted (cmp_by order) (rows_in ms)
rows_sorted order ms up k d low h =
    let n : k + 1 < length ms = subst (λ (i : ℕ). k + 1 < i) (rows_length ms) h in
    ap (λ (x : List ℤ). is_lt (cmp_by order x (get_or (rows_in ms) k d))) (row_at ms (k + 1) d no_mark n) ∙
    ap (λ (y : List ℤ). is_lt (cmp_by order (get_or ms (k + 1) no_mark).row y)) (row_at ms k d no_mark (omega (arith, n))) ∙ up k no_mark low n

-- in another order the same rows stand, and what is reported about each goes with it
pub rows_shuffled : (xs ys : List Marked) → IsPermutation xs ys → IsPermutation (rows_in xs) (rows_in ys)
rows_shuffled xs ys p = IsPermutation-map (λ (m : Marked). m.row) xs ys p

pub told_shuffled : (told : List ℤ → List Bool) (xs ys : List Marked) → IsPermutation xs ys → AreToldBy told xs → AreToldBy told ys
told_shuffled told xs ys p h = All-permutation (λ (m : Marked). m.bits ≡ told m.row) xs ys p h

-- what goes with the rows, row by row
pub told_bits : (told : List ℤ → List Bool) (ms : List Marked) → AreToldBy told ms → bits_in ms ≡ map told (rows_in ms)
told_bits told ms h =
    let bits = length-map ms (λ (m : Marked). m.bits) in
    ext_get_or [] (bits_in ms) (map told (rows_in ms)) (bits ∙ sym (rows_length ms) ∙ sym (length-map (rows_in ms) told)) (λ i m.
    let n : i < length ms = omega (arith, m, bits) in
    get_or-map (λ (x : Marked). x.bits) ms i no_mark [] n ∙ h i no_mark n ∙ ap told (sym (row_at ms i [] no_mark n)) ∙
    sym (get_or-map told (rows_in ms) i [] [] (omega (arith, n, rows_length ms))))
