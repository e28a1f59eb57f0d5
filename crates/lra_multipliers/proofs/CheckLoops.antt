-- The loops of the check, place by place and column by column.
use Rattle.std.proofs.Common.{◌≡◌, ℕ, ◌<◌, ◌≤◌, ◌+◌, ℤ, pos, ◌*ℤ◌, Bool, true, false, List, [], ◌∷◌, ◌++◌, length, get_or, drop, Option, Some, None, arith, refl, ap, sym, ◌∙◌, subst, append_assoc}
use Rattle.std.proofs.lemmas.List.{drop_more, drop_all, append-nil, get_or_default}
use Rattle.std.proofs.{Common.length-drop, lemmas.Bool.Decides.Decides-int_eq, lemmas.List.Elements.All-get_or, lemmas.List.Elements.All-from_recursion}
use Rattle.std.specs.{List.AllByRecursion, Ordering.int_eq, Prelude.◌&&◌, Prelude.option_and_then, Prelude.if◌then◌else◌}
use Rattle.lra_multipliers.specs.Crates.{lra_linear_spec.Kinds.is_equality, lra_linear_spec.Range.InRange, lra_linear_spec.Vectors.entry, lra_linear_spec.declared.ConKind.ConKind}
use Rattle.lra_multipliers.specs.Crates.{lra_linear_spec.declared.ConKind.TheVariants.Ge, lra_systems.LinearSystems.rows_by_kind}
use Rattle.lra_multipliers.specs.{Columns.added_to, Columns.column_sum, Columns.kinds_signed, Columns.used_from, Multipliers.is_signed, Multipliers.are_signed}
use Rattle.lra_multipliers.proofs.CheckSteps.{zero_leaves, added_in}

-- the signs from this place on
abbrev pub signed_from : List ConKind → List ℤ → ℕ → Bool
signed_from kinds ls i = kinds_signed (drop i kinds) (drop i ls)

pub signed_more : (kinds : List ConKind) (ls : List ℤ) (i : ℕ) → length ls ≡ length kinds → i < length kinds →
    signed_from kinds ls i ≡ (is_signed (is_equality (get_or kinds i Ge)) (get_or ls i (pos 0)) && signed_from kinds ls (i + 1))
signed_more kinds ls i n h =
    ap (λ (x : List ConKind). kinds_signed x (drop i ls)) (drop_more kinds i Ge h) ∙
    ap (λ (x : List ℤ). kinds_signed (get_or kinds i Ge ∷ drop (i + 1) kinds) x) (drop_more ls i (pos 0) (omega (arith, n, h)))

-- a sign that may not be, and one that may
pub signed_not : (kinds : List ConKind) (ls : List ℤ) (i : ℕ) (b : Bool) → length ls ≡ length kinds → i < length kinds → b ≡ is_signed
    (is_equality (get_or kinds i Ge)) (get_or ls i (pos 0)) → b ≡ false →
    signed_from kinds ls i ≡ false
signed_not kinds ls i b n h e f = signed_more kinds ls i n h ∙ ap (λ (x : Bool). x && signed_from kinds ls (i + 1)) (sym e ∙ f)

pub signed_here : (kinds : List ConKind) (ls : List ℤ) (i : ℕ) (b : Bool) → length ls ≡ length kinds → i < length kinds → b ≡ is_signed
    (is_equality (get_or kinds i Ge)) (get_or ls i (pos 0)) → b ≡ true →
    signed_from kinds ls i ≡ signed_from kinds ls (i + 1)
signed_here kinds ls i b n h e f = signed_more kinds ls i n h ∙ ap (λ (x : Bool). x && signed_from kinds ls (i + 1)) (sym e ∙ f)

pub signed_end : (kinds : List ConKind) (ls : List ℤ) (i : ℕ) → length ls ≡ length kinds → length kinds ≤ i → signed_from kinds ls i ≡ true
signed_end kinds ls i n h =
    ap (λ (x : List ConKind). kinds_signed x (drop i ls)) (drop_all i kinds h) ∙ ap (λ (x : List ℤ). kinds_signed [] x) (drop_all i ls (omega (arith, n, h)))

-- the kinds of a list with rows of any kind
pub kinds_signed_is : (rows : List (List ℤ)) (kinds : List ConKind) (ls : List ℤ) → length kinds ≡ length rows →
    are_signed (rows_by_kind is_equality rows kinds)
    ls ≡ kinds_signed kinds ls
kinds_signed_is [] [] [] e = refl
kinds_signed_is [] [] (l ∷ ls) e = refl
kinds_signed_is [] (k ∷ kinds) ls e = absurd (omega (arith, e))
kinds_signed_is (r ∷ rows) [] ls e = absurd (omega (arith, e))
kinds_signed_is (r ∷ rows) (k ∷ kinds) [] e = refl
kinds_signed_is (r ∷ rows) (k ∷ kinds) (l ∷ ls) e = ap (λ (x : Bool). is_signed (is_equality k) l && x) (kinds_signed_is rows kinds ls (omega (arith, e)))

-- the places that are used, from this place on
pub used_more : (ls : List ℤ) (i : ℕ) → i < length ls →
    used_from i (drop i ls) ≡ (if int_eq (get_or ls i (pos 0)) (pos 0) then used_from (i + 1) (drop (i + 1) ls) else i ∷ used_from (i + 1) (drop (i + 1) ls))
used_more ls i h = ap (used_from i) (drop_more ls i (pos 0) h)

pub used_here : (ls : List ℤ) (before : List ℕ) (i : ℕ) → i < length ls → int_eq (get_or ls i (pos 0)) (pos 0) ≡ false →
    before ++ used_from i (drop i ls) ≡ (before ++ i ∷ []) ++ used_from (i + 1) (drop (i + 1) ls)
used_here ls before i h e =
    ap (λ (xs : List ℕ). before ++ xs) (used_more ls i h ∙
    ap (λ (b : Bool). if b then used_from (i + 1) (drop (i + 1) ls) else i ∷ used_from (i + 1) (drop (i + 1) ls)) e) ∙
    sym (append_assoc before (i ∷ []) (used_from (i + 1) (drop (i + 1) ls)))

pub used_not : (ls : List ℤ) (before : List ℕ) (i : ℕ) → i < length ls → int_eq (get_or ls i (pos 0)) (pos 0) ≡ true →
    before ++ used_from i (drop i ls) ≡ before ++ used_from (i + 1) (drop (i + 1) ls)
used_not ls before i h e =
    ap (λ (xs : List ℕ). before ++ xs) (used_more ls i h ∙
    ap (λ (b : Bool). if b then used_from (i + 1) (drop (i + 1) ls) else i ∷ used_from (i + 1) (drop (i + 1) ls)) e)

pub used_end : (ls : List ℤ) (before : List ℕ) (i : ℕ) → length ls ≤ i → before ++ used_from i (drop i ls) ≡ before
used_end ls before i h = ap (λ (xs : List ℤ). before ++ used_from i xs) (drop_all i ls h) ∙ append-nil before

-- they are places of factors
used_either : (n i : ℕ) (rest : List ℕ) (b : Bool) → i < n → AllByRecursion (λ k. k < n) rest →
    AllByRecursion (λ k. k < n) (if b then rest else i ∷ rest)
used_either n i rest true h r = r
used_either n i rest false h r = (h, r)

used_below : (n : ℕ) (ls : List ℤ) (i : ℕ) → i + length ls ≤ n → AllByRecursion (λ k. k < n) (used_from i ls)
used_below n [] i h = tt
used_below n (l ∷ ls) i h =
    used_either n i (used_from (i + 1) ls) (int_eq l (pos 0)) (omega (arith, h)) (used_below n ls (i + 1) (omega (arith, h)))

pub used_within : (used : List ℕ) (ls : List ℤ) (i d : ℕ) → used ≡ used_from 0 ls → i < length used → get_or used i d < length ls
used_within used ls i d e h =
    All-get_or (λ k. k < length ls) used i d h (All-from_recursion (λ k. k < length ls) used
    (subst (λ (us : List ℕ). AllByRecursion (λ k. k < length ls) us) (sym e) (used_below (length ls) ls 0 (omega arith))))

-- the sum over these places alone
abbrev pub placed_sum : ℤ → List ℕ → List ℤ → List (List ℤ) → ℕ → Option ℤ
placed_sum s [] ls rows j = Some s
placed_sum s (i ∷ is) ls rows j = option_and_then (λ x. placed_sum x is ls rows j) (added_to s (get_or ls i (pos 0) *ℤ entry (get_or rows i []) j))

at_drop : {X : Type 0} (xs : List X) (i : ℕ) (x d : X) (ys : List X) → drop i xs ≡ x ∷ ys → (get_or xs i d ≡ x) × (drop (i + 1) xs ≡ ys)
at_drop xs i x d ys e =
    let h : i < length xs = omega (arith, length-drop i xs, ap length e) in
    let m : get_or xs i d ∷ drop (i + 1) xs ≡ x ∷ ys = sym (drop_more xs i d h) ∙ e in
    (cc m, cc m)

and_then_same : (o : Option ℤ) (f g : ℤ → Option ℤ) → ((x : ℤ) → o ≡ Some x → f x ≡ g x) → option_and_then f o ≡ option_and_then g o
and_then_same None f g h = refl
and_then_same (Some x) f g h = h x refl

placed_by : (s l : ℤ) (ls : List ℤ) (r : List ℤ) (rows : List (List ℤ)) (all : List ℤ) (every : List (List ℤ)) (i j : ℕ) (b : Bool) →
    int_eq l (pos 0) ≡ b → get_or all i (pos 0) ≡ l → get_or every i [] ≡ r → InRange s →
    ((x : ℤ) → InRange x → placed_sum x (used_from (i + 1) ls) all every j ≡ column_sum x ls rows j) →
    placed_sum s (if b then used_from (i + 1) ls else i ∷ used_from (i + 1) ls) all every j ≡
    option_and_then (λ x. column_sum x ls rows j) (added_to s (l *ℤ entry r j))
placed_by s l ls r rows all every i j true z el er h ih =
    ih s h ∙ ap (λ (o : Option ℤ). option_and_then (λ x. column_sum x ls rows j) o) (zero_leaves s l (entry r j) ((Decides-int_eq l (pos 0)).0 z) h)
placed_by s l ls r rows all every i j false z el er h ih =
    ap (λ (x : ℤ). option_and_then (λ y. placed_sum y (used_from (i + 1) ls) all every j) (added_to s (x *ℤ entry (get_or every i []) j))) el ∙
    ap (λ (x : List ℤ). option_and_then (λ y. placed_sum y (used_from (i + 1) ls) all every j) (added_to s (l *ℤ entry x j))) er ∙
    and_then_same (added_to s (l *ℤ entry r j)) (λ y. placed_sum y (used_from (i + 1) ls) all every j) (λ y. column_sum y ls rows j)
    (λ x k. ih x (added_in s (l *ℤ entry r j) x k))

placed_from : (s : ℤ) (ls : List ℤ) (rows : List (List ℤ)) (all : List ℤ) (every : List (List ℤ)) (i j : ℕ) → drop i all ≡ ls → drop i every ≡ rows →
    length all ≡ length every → InRange s → placed_sum s (used_from i ls) all every j ≡ column_sum s ls rows j
placed_from s [] rows all every i j e f n h = refl
placed_from s (l ∷ ls) [] all every i j e f n h =
    absurd (omega (arith, n, length-drop i all, length-drop i every, ap length e, ap length f))
placed_from s (l ∷ ls) (r ∷ rows) all every i j e f n h =
    let a = at_drop all i l (pos 0) ls e in
    let b = at_drop every i r [] rows f in
    placed_by s l ls r rows all every i j (int_eq l (pos 0)) refl a.0 b.0 h (λ x k. placed_from x ls rows all every (i + 1) j a.1 b.1 n k)

-- is the sum over all
pub placed_all : (s : ℤ) (used : List ℕ) (ls : List ℤ) (rows : List (List ℤ)) (j : ℕ) → used ≡ used_from 0 ls → length ls ≡ length rows → InRange s →
    placed_sum s used ls rows j ≡ column_sum s ls rows j
placed_all s used ls rows j e n h = ap (λ (us : List ℕ). placed_sum s us ls rows j) e ∙ placed_from s ls rows ls rows 0 j refl refl n h

pub placed_more : (s : ℤ) (used : List ℕ) (ls : List ℤ) (rows : List (List ℤ)) (j i place : ℕ) (r : List ℤ) (f e : ℤ) (o : Option ℤ) →
    i < length used → place ≡ get_or used i 0 → place < length rows → r ≡ get_or rows place r → f ≡ get_or ls place (pos 0) → e ≡ entry r j →
    o ≡ added_to s (f *ℤ e) →
    placed_sum s (drop i used) ls rows j ≡ option_and_then (λ (x : ℤ). placed_sum x (drop (i + 1) used) ls rows j) o
placed_more s used ls rows j i place r f e o h ep w er ef ee eo =
    ap (λ (us : List ℕ). placed_sum s us ls rows j) (drop_more used i 0 h) ∙
    ap (λ (k : ℕ). option_and_then (λ (x : ℤ). placed_sum x (drop (i + 1) used) ls rows j) (added_to s (get_or ls k (pos 0) *ℤ entry (get_or rows k []) j)))
    (sym ep) ∙
    ap (λ (z : ℤ). option_and_then (λ (x : ℤ). placed_sum x (drop (i + 1) used) ls rows j) (added_to s (z *ℤ entry (get_or rows place []) j))) (sym ef) ∙
    ap (λ (row : List ℤ). option_and_then (λ (x : ℤ). placed_sum x (drop (i + 1) used) ls rows j) (added_to s (f *ℤ entry row j)))
    (get_or_default rows place [] r w ∙ sym er) ∙
    ap (λ (z : ℤ). option_and_then (λ (x : ℤ). placed_sum x (drop (i + 1) used) ls rows j) (added_to s (f *ℤ z))) (sym ee) ∙
    ap (λ (x : Option ℤ). option_and_then (λ (y : ℤ). placed_sum y (drop (i + 1) used) ls rows j) x) (sym eo)

pub placed_end : (s : ℤ) (used : List ℕ) (ls : List ℤ) (rows : List (List ℤ)) (j i : ℕ) → length used ≤ i → placed_sum s (drop i used) ls rows j ≡ Some s
placed_end s used ls rows j i h = ap (λ (us : List ℕ). placed_sum s us ls rows j) (drop_all i used h)
