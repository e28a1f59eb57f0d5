-- Tables of moves: what is added leaves the others where they are, and each entry is given by those before it.
use Rattle.std.proofs.Common.{◌≡◌, ◌≤◌, ◌<◌, ℕ, zero, suc, ◌+◌, ◌*◌, List, [], ◌∷◌, ◌++◌, length, map, Some, None, refl, sym, ap, ◌∙◌, subst, arith, length-append, inl, inr}
use Rattle.std.proofs.Math.Nat.{mul-zero, zero-mul, mul-suc, mul_comm, le-mul_of_pos_right, min-eq_left, min-eq_right}
use Rattle.std.proofs.{lemmas.Bool.cases_lt, lemmas.List.length-map, lemmas.Option.slice_get_within, lemmas.Option.slice_get_past}
use Rattle.std.specs.Prelude.{slice_get}
use Rattle.lra_path_segments.specs.Segments.{each_then}
use Rattle.lra_path_disjuncts.specs.Crates.lra_domain.Moves.{Moves, stay, first_then, join_of}
use Rattle.lra_path_disjuncts.specs.Tables.{capped, count_of, or_stay, made_of, added, all_moves, moves_at, IsMadeOfEarlier, HasDisjunctCounts, IsTable, Has, Grows}
use Rattle.lra_path_disjuncts.specs.declared.tables.MovesNode.TheVariants.{Stay, Make, FirstThen, JoinOf}
use Rattle.lra_path_disjuncts.specs.{Disjuncts.disjuncts, declared.tables.MovesEntry.MovesEntry, declared.tables.MovesNode.MovesNode}

-- lists ------------------------------------------------------------------------------------------------------------------

pub get_left : {A : Type 0} (xs ys : List A) (i : ℕ) → i < length xs → slice_get (xs ++ ys) i ≡ slice_get xs i
get_left [] ys i less = absurd (omega (arith, less))
get_left (x ∷ xs) ys zero less = refl
get_left (x ∷ xs) ys (suc i) less = get_left xs ys i (omega (arith, less))

pub get_seam : {A : Type 0} (xs : List A) (y : A) (ys : List A) → slice_get (xs ++ y ∷ ys) (length xs) ≡ Some y
get_seam [] y ys = refl
get_seam (x ∷ xs) y ys = get_seam xs y ys

none_before : (n : ℕ) → length {A = Moves} [] + n ≡ n
none_before n = omega arith

-- tables -----------------------------------------------------------------------------------------------------------------

added_length : (ms : List Moves) (es : List MovesEntry) → length (added ms es) ≡ length ms + length es
added_length ms [] = omega arith
added_length ms (e ∷ es) =
    let behind = added_length (ms ++ made_of ms e.moves ∷ []) es in
    let longer = length-append ms (made_of ms e.moves ∷ []) in
    omega (arith, behind, longer)

pub as_long : (es : List MovesEntry) → length (all_moves es) ≡ length es
as_long es =
    let counted = added_length [] es in
    omega (arith, counted)

added_keeps : (ms : List Moves) (es : List MovesEntry) (i : ℕ) → i < length ms → slice_get (added ms es) i ≡ slice_get ms i
added_keeps ms [] i less = refl
added_keeps ms (e ∷ es) i less =
    let longer = length-append ms (made_of ms e.moves ∷ []) in
    added_keeps (ms ++ made_of ms e.moves ∷ []) es i (omega (arith, longer, less)) ∙ get_left ms (made_of ms e.moves ∷ []) i less

pub added_append : (ms : List Moves) (es : List MovesEntry) (e : MovesEntry) → added ms (es ++ e ∷ []) ≡ added ms es ++ made_of (added ms es) e.moves ∷ []
added_append ms [] e = refl
added_append ms (f ∷ es) e = added_append (ms ++ made_of ms f.moves ∷ []) es e

-- one more
pub grown : (es fs : List MovesEntry) (e : MovesEntry) → fs ≡ es ++ e ∷ [] → Grows es fs
grown es fs e is i p has =
    ap (λ x. slice_get (all_moves x) i) is ∙ ap (λ ms. slice_get ms i) (added_append [] es e)
    ∙ get_left (all_moves es) (made_of (all_moves es) e.moves ∷ []) i (slice_get_within (all_moves es) i p has) ∙ has

pub has_last : (es fs : List MovesEntry) (e : MovesEntry) (n : ℕ) → n ≡ length es → fs ≡ es ++ e ∷ [] → Has fs n (made_of (all_moves es) e.moves)
has_last es fs e n long is =
    ap (slice_get (all_moves fs)) long ∙ ap (λ x. slice_get (all_moves x) (length es)) is ∙ ap (λ ms. slice_get ms (length es)) (added_append [] es e)
    ∙ ap (λ n. slice_get (all_moves es ++ made_of (all_moves es) e.moves ∷ []) n) (sym (as_long es))
    ∙ get_seam (all_moves es) (made_of (all_moves es) e.moves) []

counted_append : (ms : List Moves) (es : List MovesEntry) (e : MovesEntry) → HasDisjunctCounts ms es → IsMadeOfEarlier (length ms + length es) e.moves
    → e.disjuncts ≡ capped (count_of (made_of (added ms es) e.moves)) → HasDisjunctCounts ms (es ++ e ∷ [])
counted_append ms [] e are behind count = (subst (λ n. IsMadeOfEarlier n e.moves) (omega arith) behind, count, record {})
counted_append ms (f ∷ es) e (one, two, rest) behind count =
    let longer = length-append ms (made_of ms f.moves ∷ []) in (
      one,
      two,
      counted_append (ms ++ made_of ms f.moves ∷ []) es e rest (subst (λ n. IsMadeOfEarlier n e.moves) (omega (arith, longer)) behind) count,
    )

pub one_more : (es fs : List MovesEntry) (e : MovesEntry) → fs ≡ es ++ e ∷ [] → IsTable es → IsMadeOfEarlier (length es) e.moves
    → e.disjuncts ≡ capped (count_of (made_of (all_moves es) e.moves)) → IsTable fs
one_more es fs e is are behind count = subst IsTable (sym is)
    (counted_append [] es e are (subst (λ n. IsMadeOfEarlier n e.moves) (sym (none_before (length es))) behind) count)

-- places -----------------------------------------------------------------------------------------------------------------

pub within : (es : List MovesEntry) (i : ℕ) (p : Moves) → Has es i p → i < length es
within es i p has = subst (λ n. i < n) (as_long es) (slice_get_within (all_moves es) i p has)

pub has_at : (es : List MovesEntry) (i : ℕ) (p : Moves) → Has es i p → moves_at es i ≡ p
has_at es i p has = ap or_stay has

-- an entry, by those before it
found_as : (ms ns : List Moves) (i : ℕ) → i < length ms → ((j : ℕ) → j < length ms → slice_get ns j ≡ slice_get ms j) → or_stay (slice_get ns i) ≡ or_stay
    (slice_get ms i)
found_as ms ns i less same = ap or_stay (same i less)

made_as : (ms ns : List Moves) (s : MovesNode) → IsMadeOfEarlier (length ms) s → ((j : ℕ) → j < length ms → slice_get ns j ≡ slice_get ms j) →
    made_of ns s ≡ made_of
    ms s
made_as ms ns Stay behind same = refl
made_as ms ns (Make change) behind same = refl
made_as ms ns (FirstThen a b) (less, also) same = rw (found_as ms ns a less same, found_as ms ns b also same) refl
made_as ms ns (JoinOf a b) (less, also) same = rw (found_as ms ns a less same, found_as ms ns b also same) refl

opened_from : (ms : List Moves) (es : List MovesEntry) (i : ℕ) (e : MovesEntry) → HasDisjunctCounts ms es → slice_get es i ≡ Some e
    → (slice_get (added ms es) (length ms + i) ≡ Some (made_of (added ms es) e.moves))
    × (e.disjuncts ≡ capped (count_of (made_of (added ms es) e.moves))) × IsMadeOfEarlier (length ms + i) e.moves
opened_from ms [] i e are is = absurd (let no : None ≡ Some e = is in cc)
opened_from ms (f ∷ es) zero e (behind, count, rest) is =
    let same : f ≡ e = same_first is in
    let longer = length-append ms (made_of ms f.moves ∷ []) in
    let kept : (j : ℕ) → j < length ms → slice_get (added ms (f ∷ es)) j ≡ slice_get ms j =
    (λ j less. added_keeps (ms ++ made_of ms f.moves ∷ []) es j (omega (arith, longer, less))
    ∙ get_left ms (made_of ms f.moves ∷ []) j less) in
    let made : made_of (added ms (f ∷ es)) f.moves ≡ made_of ms f.moves = made_as ms (added ms (f ∷ es)) f.moves behind kept in
    let there = added_keeps (ms ++ made_of ms f.moves ∷ []) es (length ms) (omega (arith, longer)) ∙ get_seam ms (made_of ms f.moves) [] in
    let last : length ms + 0 ≡ length ms = omega arith in
    subst (λ x. (slice_get (added ms (f ∷ es)) (length ms + 0) ≡ Some (made_of (added ms (f ∷ es)) x.moves))
    × (x.disjuncts ≡ capped (count_of (made_of (added ms (f ∷ es)) x.moves))) × IsMadeOfEarlier (length ms + 0) x.moves) same (
      rw (last, made) there,
      count ∙ ap (λ p. capped (count_of p)) (sym made),
      subst (λ n. IsMadeOfEarlier n f.moves) (sym last) behind,
    )
  where
    same_first : {x y : MovesEntry} → slice_get (x ∷ es) 0 ≡ Some y → x ≡ y
    same_first e = cc
opened_from ms (f ∷ es) (suc i) e (behind, count, rest) is =
    let longer = length-append ms (made_of ms f.moves ∷ []) in
    let place : length (ms ++ made_of ms f.moves ∷ []) + i ≡ length ms + suc i = omega (arith, longer) in
    subst (λ n. (slice_get (added ms (f ∷ es)) n ≡ Some (made_of (added ms (f ∷ es)) e.moves))
    × (e.disjuncts ≡ capped (count_of (made_of (added ms (f ∷ es)) e.moves))) × IsMadeOfEarlier n e.moves) place
    (opened_from (ms ++ made_of ms f.moves ∷ []) es i e rest is)

opened_at : (es : List MovesEntry) (i : ℕ) (e : MovesEntry) → IsTable es → slice_get es i ≡ Some e
    → (slice_get (all_moves es) i ≡ Some (made_of (all_moves es) e.moves)) × (e.disjuncts ≡ capped (count_of (made_of (all_moves es) e.moves)))
    × IsMadeOfEarlier i e.moves
opened_at es i e are is = subst (λ n. (slice_get (all_moves es) n ≡ Some (made_of (all_moves es) e.moves))
    × (e.disjuncts ≡ capped (count_of (made_of (all_moves es) e.moves))) × IsMadeOfEarlier n e.moves) (none_before i) (opened_from [] es i e are is)

module _ (es : List MovesEntry) (i : ℕ) (e : MovesEntry) (are : IsTable es) (is : slice_get es i ≡ Some e) where
  pub opened : moves_at es i ≡ made_of (all_moves es) e.moves
  opened = ap or_stay ((opened_at es i e are is).0)

  pub counted : e.disjuncts ≡ capped (count_of (moves_at es i))
  counted = (opened_at es i e are is).1 ∙ ap (λ p. capped (count_of p)) (sym opened)

  pub behind : IsMadeOfEarlier i e.moves
  behind = (opened_at es i e are is).2

pub past_stays : (es : List MovesEntry) (i : ℕ) → length es ≤ i → moves_at es i ≡ stay
past_stays es i past = ap or_stay (slice_get_past (all_moves es) i (subst (λ n. n ≤ i) (sym (as_long es)) past))

pub none_there : (es : List MovesEntry) (i : ℕ) → length es ≤ i → 1 ≡ capped (count_of (moves_at es i))
none_there es i past = ap (λ p. capped (count_of p)) (sym (past_stays es i past))

-- counts -----------------------------------------------------------------------------------------------------------------

pub length_each : {A : Type 0} (xs ys : List (List A)) → length (each_then xs ys) ≡ length xs * length ys
length_each xs [] = sym (mul-zero (length xs))
length_each xs (y ∷ ys) =
    let rest = length_each xs ys in
    let joined = length-append (map (λ x. x ++ y) xs) (each_then xs ys) in
    let same = length-map xs (λ x. x ++ y) in
    let more = mul-suc (length xs) (length ys) in
    omega (arith, rest, joined, same, more)

many_each : (m n : ℕ) → 1025 ≤ m → 1 ≤ n → 1025 ≤ m * n
many_each m n many some = let least = le-mul_of_pos_right m some in omega (arith, least, many)

pub capped_many : (m : ℕ) → 1025 ≤ m → capped m ≡ 1025
capped_many m many = min-eq_right many

pub capped_few : (m : ℕ) → m < 1025 → capped m ≡ m
capped_few m few = min-eq_left (omega (arith, few))

pub capped_some : (n : ℕ) → 1 ≤ n → 1 ≤ capped n
capped_some n some = elim (cases_lt n 1025) [
  | inl few ↦ subst (λ x. 1 ≤ x) (sym (capped_few n few)) some
  | inr many ↦ subst (λ x. 1 ≤ x) (sym (capped_many n many)) (omega arith)
]

-- one of them is many
capped_with : (m n : ℕ) → 1025 ≤ m → 1 ≤ n → capped (1025 * n) ≡ capped (m * n)
capped_with m n many some = capped_many (1025 * n) (many_each 1025 n (omega arith) some) ∙ sym (capped_many (m * n) (many_each m n many some))

capped_first : (m n : ℕ) → 1 ≤ n → capped (capped m * n) ≡ capped (m * n)
capped_first m n some = elim (cases_lt m 1025) [
  | inl few ↦ ap (λ x. capped (x * n)) (capped_few m few)
  | inr many ↦ ap (λ x. capped (x * n)) (capped_many m many) ∙ capped_with m n many some
]

capped_none : (m : ℕ) → capped (capped m * capped 0) ≡ capped (m * 0)
capped_none m = ap (λ x. capped (capped m * x)) (capped_few 0 (omega arith)) ∙ ap capped (mul-zero (capped m) ∙ sym (mul-zero m))

capped_second : (m n : ℕ) → 1 ≤ m → capped (m * capped n) ≡ capped (m * n)
capped_second m n some = ap capped (mul_comm m (capped n)) ∙ capped_first n m some ∙ ap capped (mul_comm n m)

no_first : (n : ℕ) → capped (capped 0 * capped n) ≡ capped (0 * n)
no_first n = ap (λ x. capped (x * capped n)) (capped_few 0 (omega arith)) ∙ ap capped (zero-mul (capped n) ∙ sym (zero-mul n))

pub capped_times : (m n : ℕ) → capped (capped m * capped n) ≡ capped (m * n)
capped_times zero n = no_first n
capped_times (suc m) zero = capped_none (suc m)
capped_times (suc m) (suc n) =
    capped_first (suc m) (capped (suc n)) (capped_some (suc n) (omega arith)) ∙ capped_second (suc m) (suc n) (omega arith)

pub capped_plus : (m n : ℕ) → capped (capped m + capped n) ≡ capped (m + n)
capped_plus m n = elim (cases_lt m 1025) [
  | inl few ↦ elim (cases_lt n 1025) [
    | inl also ↦ ap (λ x. capped (x + capped n)) (capped_few m few) ∙ ap (λ x. capped (m + x)) (capped_few n also)
    | inr many ↦
        ap (λ x. capped (capped m + x)) (capped_many n many) ∙ capped_many (capped m + 1025) (omega arith) ∙ sym (capped_many (m + n) (omega (arith, many)))
  ]
  | inr many ↦ ap (λ x. capped (x + capped n)) (capped_many m many)
      ∙ capped_many (1025 + capped n) (omega arith) ∙ sym (capped_many (m + n) (omega (arith, many)))
]

pub times_counted : (p q : Moves) (m n r : ℕ) → m ≡ capped (count_of p) → n ≡ capped (count_of q) → r ≡ capped (m * n)
    → r ≡ capped (count_of (first_then p q))
times_counted p q m n r one two is =
    is ∙ ap (λ x. capped (x * n)) one ∙ ap (λ x. capped (capped (count_of p) * x)) two ∙ capped_times (count_of p) (count_of q)
    ∙ ap capped (sym (length_each (disjuncts p) (disjuncts q)))

pub plus_counted : (p q : Moves) (m n r : ℕ) → m ≡ capped (count_of p) → n ≡ capped (count_of q) → r ≡ capped (m + n)
    → r ≡ capped (count_of (join_of p q))
plus_counted p q m n r one two is =
    is ∙ ap (λ x. capped (x + n)) one ∙ ap (λ x. capped (capped (count_of p) + x)) two ∙ capped_plus (count_of p) (count_of q)
    ∙ ap capped (sym (length-append (disjuncts p) (disjuncts q)))
