-- Marked rows put in lists, and what goes with them in a matrix.
use Rattle.std.proofs.Common.{◌≡◌, ◌≢◌, ◌∙◌, ℕ, ◌+◌, ◌<◌, ◌≤◌, ℤ, Bool, true, false, cond, List, [], ◌∷◌, ◌++◌, ap, arith, get_or, inr, length, map, refl, replicate, subst, sym, take}
use Rattle.std.proofs.lemmas.List.{append-nil, append_assoc, get_or-map, get_or-take, get_or_append_left, length-append, length-map, length-take-le, map-append, map-id, replicate-append-replicate}
use Rattle.std.proofs.lemmas.List.{take_all, take_more}
use Rattle.std.proofs.lemmas.List.Elements.{All-contains, All-from_get_or, All-push, All-take, Contains-append_right}
use Rattle.std.proofs.lemmas.List.Sorted.{All-permutation, length_permutation}
use Rattle.std.specs.{List.All, List.Contains, List.Sorted.IsPermutation, List.Sorted.IsSorted, Prelude.Result, Prelude.Ok, Prelude.Err, Prelude.IfOk}
use Rattle.lra_descriptions.specs.Crates.lra_linear_spec.declared.GenKind.TheVariants.{Point, Ray, Line}
use Rattle.lra_descriptions.specs.Crates.{lra_bits.Matrix.Matrix, lra_linear_spec.RowOrder.row_cmp}
use Rattle.lra_descriptions.proofs.Crates.lra_linear_spec.Membership.{contains_head, contains_tail}
use Rattle.lra_canonical.specs.{MarkedRows.AreToldBy, MarkedRows.bits_in, MarkedRows.rows_in, declared.order.Marked.Marked}
use Rattle.lra_canonical.proofs.MarkedOrder.{row_at, rows_length, rows_shuffled, told_bits, told_shuffled}
use Rattle.lra_descriptions.specs.{ShownLists.directions_of, ShownLists.points_of, ShownLists.ShowsGenerators, Tightness.GoesWith, Tightness.TellsFirst, declared.known.KnownGenerators.KnownGenerators}

-- ---- marked one after the other
pub mark_more : (rows : List (List ℤ)) (taken : List (List Bool)) (bits : List Bool) (k : ℕ) (r : List ℤ) (x : Marked) (xs new : List Marked) → k ≡ length
    taken → length taken < length rows →
    r ≡ get_or rows k r → x.row ≡ r → x.bits ≡ bits → new ≡ xs ++ x ∷ [] → rows_in xs ≡ take (length taken) rows → bits_in xs ≡ taken →
    (rows_in new ≡ take (length (taken ++ bits ∷ [])) rows) × (bits_in new ≡ taken ++ bits ∷ [])
mark_more rows taken bits k r x xs new ek h er xr xb en ir ib =
    let longer : length (taken ++ bits ∷ []) ≡ length taken + 1 = length-append taken (bits ∷ []) in (
      ap rows_in en ∙ map-append (λ (m : Marked). m.row) xs (x ∷ []) ∙ ap (λ (l : List (List ℤ)). l ++ x.row ∷ []) ir ∙
          ap (λ (y : List ℤ). take (length taken) rows ++ y ∷ []) (xr ∙ er ∙ ap (λ (n : ℕ). get_or rows n r) ek) ∙ sym (take_more rows (length taken) r h) ∙
          ap (λ (n : ℕ). take n rows) (sym longer),
      ap bits_in en ∙ map-append (λ (m : Marked). m.bits) xs (x ∷ []) ∙ ap (λ (l : List (List Bool)). l ++ x.bits ∷ []) ib ∙ ap
          (λ (y : List Bool). taken ++ y ∷ []) xb,
    )

pub still_inside : (rows : List (List ℤ)) (all items : List (List Bool)) (n k : ℕ) → n ≡ length rows → length rows ≤ length all → items ≡ take n all → k <
    length items → k < length rows
still_inside rows all items n k en few ei h =
    let e : length items ≡ n = ap length ei ∙ length-take-le n all (omega (arith, en, few)) in
    omega (arith, e, h, en)

pub marked_all : (rows : List (List ℤ)) (all items taken : List (List Bool)) (n : ℕ) (ms : List Marked) → n ≡ length rows → length rows ≤ length all → items ≡
    take n all → taken ≡ items →
    rows_in ms ≡ take (length taken) rows → bits_in ms ≡ taken → (rows_in ms ≡ rows) × (bits_in ms ≡ take n all)
marked_all rows all items taken n ms en h ei et ir ib =
    let few : n ≤ length all = omega (arith, en, h) in
    let many : length taken ≡ n = ap length (et ∙ ei) ∙ length-take-le n all few in
    (ir ∙ take_all (length taken) rows (omega (arith, many, en)), ib ∙ et ∙ ei)

pub marked_told : (told : List ℤ → List Bool) (rows : List (List ℤ)) (m : Matrix) (n : ℕ) (ms : List Marked) → n ≡ length rows → rows_in ms ≡ rows → bits_in ms
    ≡ take n m.rows →
    TellsFirst told rows m → AreToldBy told ms
marked_told told rows m n ms en er eb t = All-from_get_or (λ (x : Marked). x.bits ≡ told x.row) ms nothing (λ i l.
    let inside : i < length rows = subst (λ (k : ℕ). i < k) (sym (rows_length ms) ∙ ap length er) l in
    sym (get_or-map (λ (x : Marked). x.bits) ms i nothing [] l) ∙ ap (λ (b : List (List Bool)). get_or b i []) eb ∙ get_or-take n m.rows i []
    (omega (arith, inside, en)) ∙
    t i inside ∙ ap told (ap (λ (r : List (List ℤ)). get_or r i []) (sym er) ∙ row_at ms i [] nothing l))
  where
    nothing : Marked
    nothing = record { row = []; bits = [] }

pub marked_wide : (w n : ℕ) (all : List (List Bool)) (ms : List Marked) → All (λ r. length r ≡ w) all → bits_in ms ≡ take n all → All
    (λ (x : Marked). length x.bits ≡ w) ms
marked_wide w n all ms h eb = All-from_get_or (λ (x : Marked). length x.bits ≡ w) ms nothing (λ i l.
    let inside : i < length (take n all) = subst (λ (k : ℕ). i < k) (sym (length-map ms (λ (x : Marked). x.bits)) ∙ ap length eb) l in
    ap length (sym (get_or-map (λ (x : Marked). x.bits) ms i nothing [] l) ∙ ap (λ (b : List (List Bool)). get_or b i []) eb) ∙
    All-take (λ (r : List Bool). length r ≡ w) n all h i [] inside)
  where
    nothing : Marked
    nothing = record { row = []; bits = [] }

-- what was yielded, read by itself
pub all_yielded : {A : Type 0} (front all : List A) → map (λ (y : A). y) front ≡ all → front ≡ all
all_yielded front all e = sym (map-id front) ∙ e

-- ---- some of them
-- what holds of each, and of one more
each_split : (P : Marked → Type 0) (xs : List Marked) (x : Marked) → All P (xs ++ x ∷ []) → All P xs × P x
each_split P xs x h = (
  (λ i d l. subst P (get_or_append_left xs (x ∷ []) d i l) (h i d (omega (arith, l, length-append xs (x ∷ []))))),
  All-contains P (xs ++ x ∷ []) x h (Contains-append_right xs (x ∷ []) x (contains_head x [])),
)

-- the list that keeps some of them
pub kept_rows : (f : List (List ℤ) → List (List ℤ)) → ((xs ys : List (List ℤ)) → f (xs ++ ys) ≡ f xs ++ f ys) → (seen : List Marked) (x : Marked)
    (added old new : List Marked) →
    rows_in added ≡ f (x.row ∷ []) → new ≡ old ++ added → rows_in old ≡ f (rows_in seen) → rows_in new ≡ f (rows_in (seen ++ x ∷ []))
kept_rows f appends seen x added old new ea en eo =
    ap rows_in en ∙ map-append (λ (m : Marked). m.row) old added ∙ ap (λ (l : List (List ℤ)). l ++ rows_in added) eo ∙ ap
    (λ (l : List (List ℤ)). f (rows_in seen) ++ l) ea ∙
    sym (appends (rows_in seen) (x.row ∷ [])) ∙ ap f (sym (map-append (λ (m : Marked). m.row) seen (x ∷ [])))

pub kept_each : (P : Marked → Type 0) (seen : List Marked) (x : Marked) (old new : List Marked) → new ≡ old ++ x ∷ [] → (All P seen → All P old) → All P
    (seen ++ x ∷ []) → All P new
kept_each P seen x old new en before h = let p = each_split P seen x h in subst (All P) (sym en) (All-push P old x (before p.0) p.1)

pub left_each : (P : Marked → Type 0) (seen : List Marked) (x : Marked) (old : List Marked) → (All P seen → All P old) → All P (seen ++ x ∷ []) → All P old
left_each P seen x old before h = before (each_split P seen x h).0

-- into one of two lists
pub one_row : (b : Bool) (x : Marked) → rows_in (cond b (x ∷ []) []) ≡ cond b (x.row ∷ []) []
one_row true x = refl
one_row false x = refl

pub other_row : (b : Bool) (x : Marked) → rows_in (cond b [] (x ∷ [])) ≡ cond b [] (x.row ∷ [])
other_row true x = refl
other_row false x = refl

one_of : (P : Marked → Type 0) (b : Bool) (x : Marked) (xs new : List Marked) → P x → new ≡ xs ++ cond b (x ∷ []) [] → All P xs → All P new
one_of P true x xs new h e all = subst (All P) (sym e) (All-push P xs x all h)
one_of P false x xs new h e all = subst (All P) (sym e) (subst (All P) (sym (append-nil xs)) all)

other_of : (P : Marked → Type 0) (b : Bool) (x : Marked) (xs new : List Marked) → P x → new ≡ xs ++ cond b [] (x ∷ []) → All P xs → All P new
other_of P true x xs new h e all = subst (All P) (sym e) (subst (All P) (sym (append-nil xs)) all)
other_of P false x xs new h e all = subst (All P) (sym e) (All-push P xs x all h)

pub parted_each : (P : Marked → Type 0) (b : Bool) (seen : List Marked) (x : Marked) (points directions new_points new_directions : List Marked) →
    new_points ≡ points ++ cond b (x ∷ []) [] → new_directions ≡ directions ++ cond b [] (x ∷ []) → (All P seen → All P points × All P directions) → All P
    (seen ++ x ∷ []) →
    All P new_points × All P new_directions
parted_each P b seen x points directions new_points new_directions ep ed before h =
    let p = each_split P seen x h in
    let q = before p.0 in
    (one_of P b x points new_points p.1 ep q.0, other_of P b x directions new_directions p.1 ed q.1)

-- ---- put after one another
pub put_more : {A : Type 0} (f : Marked → A) (first old new : List A) (xs : List Marked) (x : Marked) → old ≡ first ++ map f xs → new ≡ old ++ f x ∷ [] → new ≡
    first ++ map f (xs ++ x ∷ [])
put_more {A = A} f first old new xs x eo en =
    en ∙ ap (λ (l : List A). l ++ f x ∷ []) eo ∙ append_assoc first (map f xs) (f x ∷ []) ∙ ap (λ (l : List A). first ++ l) (sym (map-append f xs (x ∷ [])))

pub kinds_more : {K : Type 0} (first old new : List K) (k : K) (xs : List Marked) (x : Marked) → old ≡ first ++ replicate (length xs) k → new ≡ old ++ k ∷ [] →
    new ≡ first ++ replicate (length (xs ++ x ∷ [])) k
kinds_more {K = K} first old new k xs x eo en =
    en ∙ ap (λ (l : List K). l ++ k ∷ []) eo ∙ append_assoc first (replicate (length xs) k) (k ∷ []) ∙
    ap (λ (l : List K). first ++ l) (replicate-append-replicate (length xs) 1 k ∙ ap (λ (n : ℕ). replicate n k) (sym (length-append xs (x ∷ []))))

pub matrix_more : (first old new : Matrix) (xs : List Marked) (x : Marked) → old ≡ record first { rows = first.rows ++ bits_in xs } → new ≡ record old
    { rows = old.rows ++ x.bits ∷ [] } →
    new ≡ record first { rows = first.rows ++ bits_in (xs ++ x ∷ []) }
matrix_more first old new xs x eo en =
    en ∙ ap (λ (m : Matrix). record m { rows = m.rows ++ x.bits ∷ [] }) eo ∙
    ap (λ (l : List (List Bool)). record first { rows = l })
    (append_assoc first.rows (bits_in xs) (x.bits ∷ []) ∙ ap (λ (l : List (List Bool)). first.rows ++ l)
    (sym (map-append (λ (m : Marked). m.bits) xs (x ∷ []))))

pub true_more : (first old new : Matrix) (n : ℕ) (row : List Bool) → row ≡ replicate first.width true → old ≡ record first
    { rows = first.rows ++ replicate n (replicate first.width true) } →
    new ≡ record old { rows = old.rows ++ row ∷ [] } → new ≡ record first { rows = first.rows ++ replicate (n + 1) (replicate first.width true) }
true_more first old new n row er eo en =
    let all = replicate first.width true in
    en ∙ ap (λ (m : Matrix). record m { rows = m.rows ++ row ∷ [] }) eo ∙
    ap (λ (l : List (List Bool)). record first { rows = l })
    (append_assoc first.rows (replicate n all) (row ∷ []) ∙ ap (λ (y : List Bool). first.rows ++ (replicate n all ++ y ∷ [])) er ∙
    ap (λ (l : List (List Bool)). first.rows ++ l) (replicate-append-replicate n 1 all))

-- ---- in order
rows_each : (P : List ℤ → Type 0) (ms : List Marked) → All P (rows_in ms) → All (λ (m : Marked). P m.row) ms
rows_each P ms h = All-from_get_or (λ (m : Marked). P m.row) ms nothing
    (λ i l. subst P (row_at ms i [] nothing l) (h i [] (subst (λ (n : ℕ). i < n) (sym (rows_length ms)) l)))
  where
    nothing : Marked
    nothing = record { row = []; bits = [] }

pub some_columns : (w : ℕ) (rows : List (List ℤ)) (ms : List Marked) → 0 < w → All (λ r. length r ≡ w) rows → rows_in ms ≡ rows → All
    (λ (m : Marked). 0 < length m.row) ms
some_columns w rows ms some h e = rows_each (λ r. 0 < length r) ms (subst (All (λ r. 0 < length r)) (sym e)
    (λ i d l. subst (λ (n : ℕ). 0 < n) (sym (h i d l)) some))

pub sorted_rows : (w : ℕ) (rows : List (List ℤ)) (found sorted : List Marked) → All (λ r. length r ≡ w) rows → rows_in found ≡ rows → IsPermutation found
    sorted →
    All (λ (m : Marked). length m.row ≡ w) sorted
sorted_rows w rows found sorted h e p = All-permutation (λ (m : Marked). length m.row ≡ w) found sorted p
    (rows_each (λ r. length r ≡ w) found (subst (All (λ r. length r ≡ w)) (sym e) h))

pub sorted_bits : (v w : ℕ) (found sorted : List Marked) → w ≡ v → All (λ (m : Marked). length m.bits ≡ w) found → IsPermutation found sorted → All
    (λ (m : Marked). length m.bits ≡ v) sorted
sorted_bits v w found sorted e h p =
    subst (λ (n : ℕ). All (λ (m : Marked). length m.bits ≡ n) sorted) e (All-permutation (λ (m : Marked). length m.bits ≡ w) found sorted p h)

pub shuffled : (rows : List (List ℤ)) (found sorted : List Marked) → rows_in found ≡ rows → IsPermutation found sorted → IsPermutation rows (rows_in sorted)
shuffled rows found sorted e p = subst (λ (l : List (List ℤ)). IsPermutation l (rows_in sorted)) e (rows_shuffled found sorted p)

pub none_in : (rows : List (List ℤ)) (found : List Marked) → rows_in found ≡ rows → length found ≡ 0 → rows ≡ []
none_in rows [] e n = sym e
none_in rows (x ∷ found) e n = absurd (omega (arith, n))

-- ---- the lists
lines_told : (told : List ℤ → List Bool) (w : ℕ) (lines : List (List ℤ)) → ((l : List ℤ) → Contains lines l → told l ≡ replicate w true) →
    map told lines ≡ replicate (length lines) (replicate w true)
lines_told told w [] h = refl
lines_told told w (l ∷ lines) h =
    ap (λ (y : List Bool). y ∷ map told lines) (h l (contains_head l lines)) ∙
    ap (λ (ys : List (List Bool)). replicate w true ∷ ys) (lines_told told w lines (λ x m. h x (contains_tail l x lines m)))

-- of generators
pub parts_matrix : (w : ℕ) (points directions : List (List Bool)) (m0 m1 m2 m3 : Matrix) → m0 ≡ record { width = w; rows = [] } → m1 ≡ record m0
    { rows = m0.rows ++ points } →
    m2 ≡ record m1 { rows = m1.rows ++ directions } → (n : ℕ) → m3 ≡ record m2 { rows = m2.rows ++ replicate n (replicate m2.width true) } →
    m3 ≡ record { width = w; rows = (points ++ directions) ++ replicate n (replicate w true) }
parts_matrix w points directions m0 m1 m2 m3 e0 e1 e2 n e3 =
    e3 ∙ ap (λ (m : Matrix). record m { rows = m.rows ++ replicate n (replicate m.width true) })
    (e2 ∙ ap (λ (m : Matrix). record m { rows = m.rows ++ directions }) (e1 ∙ ap (λ (m : Matrix). record m { rows = m.rows ++ points }) e0))

pub generators_shown : {E : Type 0} (lines rays : List (List ℤ)) (found points spread directions : List Marked) (result : Result KnownGenerators E) → rows_in
    found ≡ points_of rays →
    rows_in spread ≡ directions_of rays → IsPermutation found points → IsPermutation spread directions → IsSorted row_cmp (rows_in points) → IsSorted row_cmp
    (rows_in directions) →
    found ≢ [] → IfOk result (λ (k : KnownGenerators). k.list.rows ≡ (rows_in points ++ rows_in directions) ++ lines) →
    IfOk result (λ (k : KnownGenerators). k.list.kinds ≡ (replicate (length points) Point ++ replicate (length directions) Ray) ++ replicate (length lines)
    Line) →
    IfOk result (λ (k : KnownGenerators). ShowsGenerators lines rays k.list)
generators_shown lines rays found points spread directions (Err e) ep ed p d sp sd some r k = tt
generators_shown lines rays found points spread directions (Ok known) ep ed p d sp sd some r k = inr (record {
  points = rows_in points;
  directions = rows_in directions;
  rows_are = r;
  kinds_are = k ∙ ap (λ (n : ℕ). (replicate n Point ++ replicate (length directions) Ray) ++ replicate (length lines) Line) (sym (rows_length points)) ∙
      ap (λ (n : ℕ). (replicate (length (rows_in points)) Point ++ replicate n Ray) ++ replicate (length lines) Line) (sym (rows_length directions));
  points_are = shuffled (points_of rays) found points ep p;
  directions_are = shuffled (directions_of rays) spread directions ed d;
  points_sorted = sp;
  directions_sorted = sd;
  some_point = still_some found points p some;
})
  where
    still_some : (xs ys : List Marked) → IsPermutation xs ys → xs ≢ [] → rows_in ys ≢ []
    still_some [] ys p n = absurd (n refl)
    still_some (x ∷ xs) [] p n = λ e. absurd (let l = length_permutation (x ∷ xs) [] p in omega (arith, l))
    still_some (x ∷ xs) (y ∷ ys) p n = λ e. absurd (let l = ap length e in omega (arith, l))

pub generators_go : {E : Type 0} (lines rays : List (List ℤ)) (old : Matrix) (found points spread directions : List Marked) (w : ℕ)
    (result : Result KnownGenerators E) → w ≡ old.width →
    IsPermutation found points → IsPermutation spread directions →
    ((told : List ℤ → List Bool) → TellsFirst told rays old → AreToldBy told found × AreToldBy told spread) →
    IfOk result (λ (k : KnownGenerators). k.list.rows ≡ (rows_in points ++ rows_in directions) ++ lines) →
    IfOk result (λ (k : KnownGenerators). k.matrix ≡
    record { width = w; rows = (bits_in points ++ bits_in directions) ++ replicate (length lines) (replicate w true) }) →
    IfOk result (λ (k : KnownGenerators). GoesWith lines rays old k.list.rows k.matrix)
generators_go lines rays old found points spread directions w (Err e) ew p d tells r m = tt
generators_go lines rays old found points spread directions w (Ok known) ew p d tells r m = λ told t z.
    let both = tells told t in
    let of_points = told_bits told points (told_shuffled told found points p both.0) in
    let of_directions = told_bits told directions (told_shuffled told spread directions d both.1) in
    m ∙ ap (λ (n : ℕ). record { width = n; rows = (bits_in points ++ bits_in directions) ++ replicate (length lines) (replicate n true) }) ew ∙
    ap (λ (l : List (List Bool)). record { width = old.width; rows = l })
    (ap (λ (l : List (List Bool)). (l ++ bits_in directions) ++ replicate (length lines) (replicate old.width true)) of_points ∙
    ap (λ (l : List (List Bool)). (map told (rows_in points) ++ l) ++ replicate (length lines) (replicate old.width true)) of_directions ∙
    ap (λ (l : List (List Bool)). (map told (rows_in points) ++ map told (rows_in directions)) ++ l) (sym (lines_told told old.width lines z)) ∙
    ap (λ (l : List (List Bool)). l ++ map told lines) (sym (map-append told (rows_in points) (rows_in directions))) ∙
    sym (map-append told (rows_in points ++ rows_in directions) lines) ∙ ap (map told) (sym r))

-- if there is none
pub none_go : (lines rays : List (List ℤ)) (old : Matrix) (rows : List (List ℤ)) (new : Matrix) (w : ℕ) → w ≡ old.width → rows ≡ [] → new ≡ record
    { width = w; rows = [] } →
    GoesWith lines rays old rows new
none_go lines rays old rows new w ew er en = λ told t z.
    en ∙ ap (λ (n : ℕ). (let m : Matrix = record { width = n; rows = [] } in m)) ew ∙ ap
    (λ (l : List (List ℤ)). record { width = old.width; rows = map told l }) (sym er)

-- of constraints
pub constraints_matrix : (old m0 m1 m2 : Matrix) (w n : ℕ) (bits : List (List Bool)) → w ≡ old.width → m0 ≡ record { width = w; rows = [] } →
    m1 ≡ record m0 { rows = m0.rows ++ replicate n (replicate m0.width true) } → m2 ≡ record m1 { rows = m1.rows ++ bits } →
    m2 ≡ record { width = old.width; rows = replicate n (replicate old.width true) ++ bits }
constraints_matrix old m0 m1 m2 w n bits ew e0 e1 e2 =
    e2 ∙ ap (λ (m : Matrix). record m { rows = m.rows ++ bits }) (e1 ∙ ap (λ (m : Matrix). record m { rows = m.rows ++ replicate n (replicate m.width true) })
    (e0 ∙ ap (λ (k : ℕ). (let m : Matrix = record { width = k; rows = [] } in m)) ew))

pub constraints_go : (lines rays : List (List ℤ)) (old new : Matrix) (found sorted : List Marked) (rows : List (List ℤ)) → IsPermutation found sorted →
    ((told : List ℤ → List Bool) → TellsFirst told rays old → AreToldBy told found) → rows ≡ lines ++ rows_in sorted →
    new ≡ record { width = old.width; rows = replicate (length lines) (replicate old.width true) ++ bits_in sorted } → GoesWith lines rays old rows new
constraints_go lines rays old new found sorted rows p tells er en = λ told t z.
    en ∙ ap (λ (l : List (List Bool)). record { width = old.width; rows = l })
    (ap (λ (l : List (List Bool)). l ++ bits_in sorted) (sym (lines_told told old.width lines z)) ∙
    ap (λ (l : List (List Bool)). map told lines ++ l) (told_bits told sorted (told_shuffled told found sorted p (tells told t))) ∙
    sym (map-append told lines (rows_in sorted)) ∙ ap (map told) (sym er))
