-- Matrices with a further column.
use Rattle.std.proofs.Common.{◌≡◌, ◌≢◌, ℕ, zero, suc, ◌+◌, ◌%◌, ◌<◌, ◌≤◌, Bool, false, List, [], ◌∷◌, ◌++◌, length, drop, get_or, set, take, refl, ap, sym, ◌∙◌, subst, arith, inl, inr}
use Rattle.std.proofs.lemmas.List.{ext_get_or, length-append, length-set, length-take-le, take_all, take_more}
use Rattle.std.proofs.{Common.get_or-set_same, Common.get_or-set_other, Math.Seq.take-append_seam, lemmas.Bool.cases_lt, lemmas.List.Elements.All-append, lemmas.List.Elements.All-from_get_or}
use Rattle.std.specs.List.{All}
use Rattle.lra_bits.specs.{Matrix.Matrix, Matrix.lengthened_rows, TruthValues.value_at}

-- ---- the rows one after the other
lengthened_push : (rows : List (List Bool)) (last : List Bool) (r : List Bool) (b : Bool) → length last ≡ length rows →
    lengthened_rows (rows ++ r ∷ []) (last ++ b ∷ []) ≡ lengthened_rows rows last ++ (r ++ b ∷ []) ∷ []
lengthened_push [] [] r b e = refl
lengthened_push [] (x ∷ last) r b e = absurd (omega (arith, e))
lengthened_push (y ∷ rows) [] r b e = absurd (omega (arith, e))
lengthened_push (y ∷ rows) (x ∷ last) r b e = ap (λ (ys : List (List Bool)). (y ++ x ∷ []) ∷ ys) (lengthened_push rows last r b (omega (arith, e)))

pub lengthened_more : (rows : List (List Bool)) (last : List Bool) (k : ℕ) → length last ≡ length rows → k < length rows →
    lengthened_rows (take (k + 1) rows) (take (k + 1) last) ≡ lengthened_rows (take k rows) (take k last) ++ (get_or rows k [] ++ value_at last k ∷ []) ∷ []
lengthened_more rows last k e h =
    let l : k < length last = omega (arith, e, h) in
    ap (λ (ys : List (List Bool)). lengthened_rows ys (take (k + 1) last)) (take_more rows k [] h) ∙
    ap (λ (bs : List Bool). lengthened_rows (take k rows ++ get_or rows k [] ∷ []) bs) (take_more last k false l) ∙
    lengthened_push (take k rows) (take k last) (get_or rows k []) (value_at last k)
    (length-take-le k last (omega (arith, l)) ∙ sym (length-take-le k rows (omega (arith, h))))

pub copied_more : (rows : List (List Bool)) (last : List Bool) (k : ℕ) (r x : List Bool) (b : Bool) (old new : List (List Bool)) → length last ≡ length rows →
    k < length rows →
    x ≡ get_or rows k [] → b ≡ value_at last k → r ≡ x ++ b ∷ [] → new ≡ old ++ r ∷ [] → old ≡ lengthened_rows (take k rows) (take k last) →
    new ≡ lengthened_rows (take (k + 1) rows) (take (k + 1) last)
copied_more rows last k r x b old new e h ex eb er en eo =
    en ∙ ap (λ (l : List (List Bool)). l ++ r ∷ []) eo ∙
    ap (λ (y : List Bool). lengthened_rows (take k rows) (take k last) ++ y ∷ [])
    (er ∙ ap (λ (y : List Bool). y ++ b ∷ []) ex ∙ ap (λ (c : Bool). get_or rows k [] ++ c ∷ []) eb) ∙
    sym (lengthened_more rows last k e h)

pub copied_all : (rows : List (List Bool)) (last : List Bool) (k : ℕ) (new : List (List Bool)) → length last ≡ length rows → length rows ≤ k →
    new ≡ lengthened_rows (take k rows) (take k last) → new ≡ lengthened_rows rows last
copied_all rows last k new e h en =
    en ∙ ap (λ (ys : List (List Bool)). lengthened_rows ys (take k last)) (take_all k rows h) ∙ ap (lengthened_rows rows)
    (take_all k last (omega (arith, h, e)))

-- ---- in place
-- the first k rows have their values
pub record ArePushed (rows : List (List Bool)) (last : List Bool) (k : ℕ) (now : List (List Bool)) : Type 0 where
  pub count : length now ≡ length rows
  pub pushed : (i : ℕ) → i < k → i < length rows → get_or now i [] ≡ get_or rows i [] ++ value_at last i ∷ []
  pub behind : (i : ℕ) → k ≤ i → get_or now i [] ≡ get_or rows i []

pub none_pushed : (rows : List (List Bool)) (last : List Bool) → ArePushed rows last 0 rows
none_pushed rows last = record { count = refl; pushed = λ i h l. absurd (omega (arith, h)); behind = λ i h. refl }

pub pushed_more : (rows : List (List Bool)) (last : List Bool) (k : ℕ) (now new : List (List Bool)) (r : List Bool) → k < length rows → r ≡ get_or now k [] ++
    value_at last k ∷ [] →
    new ≡ set now k r → ArePushed rows last k now → ArePushed rows last (k + 1) new
pushed_more rows last k now new r h er en p = record {
  count = ap length en ∙ length-set now k r ∙ p.count;
  pushed = λ i m l. ap (λ (x : List (List Bool)). get_or x i []) en ∙ elim (cases_lt i k) [
    | inl b ↦ get_or-set_other now k i r [] (λ q. omega (arith, q, b)) ∙ p.pushed i b l
    | inr g ↦
        let q : i ≡ k = omega (arith, g, m) in
        ap (λ n. get_or (set now k r) n []) q ∙ get_or-set_same now k r [] (omega (arith, h, p.count)) ∙ er ∙
        ap (λ (x : List Bool). x ++ value_at last k ∷ []) (p.behind k (omega arith)) ∙ ap (λ n. get_or rows n [] ++ value_at last n ∷ []) (sym q)
  ];
  behind = λ i m. ap (λ (x : List (List Bool)). get_or x i []) en ∙ get_or-set_other now k i r [] (λ q. omega (arith, q, m)) ∙ p.behind i (omega (arith, m));
}

lengthened_at : (rows : List (List Bool)) (last : List Bool) (i : ℕ) → length last ≡ length rows → i < length rows → get_or (lengthened_rows rows last) i [] ≡
    get_or rows i [] ++ value_at last i ∷ []
lengthened_at [] last i e h = absurd (omega (arith, h))
lengthened_at (r ∷ rows) [] i e h = absurd (omega (arith, e))
lengthened_at (r ∷ rows) (b ∷ last) zero e h = refl
lengthened_at (r ∷ rows) (b ∷ last) (suc i) e h = lengthened_at rows last i (omega (arith, e)) (omega (arith, h))

pub lengthened_length : (rows : List (List Bool)) (last : List Bool) → length last ≡ length rows → length (lengthened_rows rows last) ≡ length rows
lengthened_length [] last e = refl
lengthened_length (r ∷ rows) [] e = absurd (omega (arith, e))
lengthened_length (r ∷ rows) (b ∷ last) e = ap suc (lengthened_length rows last (omega (arith, e)))

pub all_pushed : (rows : List (List Bool)) (last : List Bool) (k : ℕ) (now : List (List Bool)) → length last ≡ length rows → length rows ≤ k → ArePushed rows
    last k now → now ≡ lengthened_rows rows last
all_pushed rows last k now e h p = ext_get_or [] now (lengthened_rows rows last) (p.count ∙ sym (lengthened_length rows last e)) (λ i m.
    let l : i < length rows = omega (arith, m, p.count) in
    p.pushed i (omega (arith, l, h)) l ∙ sym (lengthened_at rows last i e l))

-- what was written over the whole of a list
pub kept_whole : (n : ℕ) (xs ys : List (List Bool)) → n ≡ length xs → take n (xs ++ drop (length xs) ys) ≡ xs
kept_whole n xs ys e = ap (λ (k : ℕ). take k (xs ++ drop (length xs) ys)) e ∙ take-append_seam xs (drop (length xs) ys)

-- ---- widths
pub lengthened_widths : (w : ℕ) (rows : List (List Bool)) (last : List Bool) → length last ≡ length rows → All (λ r. length r ≡ w) rows → All
    (λ r. length r ≡ suc w) (lengthened_rows rows last)
lengthened_widths w rows last e h = All-from_get_or (λ (r : List Bool). length r ≡ suc w) (lengthened_rows rows last) [] (λ i m.
    let l : i < length rows = omega (arith, m, lengthened_length rows last e) in
    let n = length-append (get_or rows i []) (value_at last i ∷ []) in
    let r : length (get_or rows i []) ≡ w = h i [] l in
    ap length (lengthened_at rows last i e l) ∙ (let z : length (get_or rows i [] ++ value_at last i ∷ []) ≡ suc w = omega (arith, n, r) in z))

-- rows of a width that isn't a multiple of 64, and not the greatest one
pub have_room : (w : ℕ) (rows : List (List Bool)) → w % 64 ≢ 0 → All (λ r. length r ≡ w) rows → All (λ r. length r % 64 ≢ 0) rows
have_room w rows n h i d l = λ z. n (ap (λ (x : ℕ). x % 64) (sym (h i d l)) ∙ z)

pub are_few : (w most : ℕ) (rows : List (List Bool)) → w + 1 < most → All (λ r. length r ≡ w) rows → All (λ r. length r + 1 < most) rows
are_few w most rows n h i d l = subst (λ (x : ℕ). x + 1 < most) (sym (h i d l)) n

pub append_widths : (w v : ℕ) (rows more : List (List Bool)) → v ≡ w → All (λ r. length r ≡ w) rows → All (λ r. length r ≡ v) more → All (λ r. length r ≡ w)
    (rows ++ more)
append_widths w v rows more e h k = All-append (λ (r : List Bool). length r ≡ w) rows more h (subst (λ (n : ℕ). All (λ (r : List Bool). length r ≡ n) more) e k)

-- what was put after is removed again
pub taken_back : (first wider back : Matrix) (more : List (List Bool)) (n : ℕ) → n ≡ length first.rows → wider ≡ record first { rows = first.rows ++ more } →
    back ≡ record wider { rows = take n wider.rows } → back ≡ first
taken_back first wider back more n en ew eb =
    eb ∙ ap (λ (m : Matrix). record m { rows = take n m.rows }) ew ∙ ap (λ (k : ℕ). record first { rows = take k (first.rows ++ more) }) en ∙
    ap (λ (l : List (List Bool)). record first { rows = l }) (take-append_seam first.rows more)
