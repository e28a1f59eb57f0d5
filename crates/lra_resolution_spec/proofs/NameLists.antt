-- Lists of names by their numbers: a further entry gives a further list, and the others stay.
use Rattle.std.proofs.Common.{◌≡◌, ◌∙◌, sym, ap, refl, ◌+◌, ◌≤◌, ◌<◌, ◌⊎◌, inl, inr, ℕ, zero, suc, List, [], ◌∷◌, ◌++◌, length, map, Some, get_or, arith, length-append, append_assoc, append-nil}
use Rattle.std.proofs.lemmas.List.{get_or_append_left, get_or-append-add, take-append-le, get_or-set_same, get_or-map, map-set}
use Rattle.std.proofs.{Common.subst, Common.take, Common.◌-◌, Math.Seq.take-length, Math.Seq.set-append_seam, Math.Seq.get_or-append_seam, lemmas.Option.slice_get_read}
use Rattle.std.specs.Prelude.{slice_get, slice_set}
use Rattle.lra_syntax.specs.Labels.{Labelled}
use Rattle.lra_resolution_spec.specs.LabelTable.{list_at, lists_behind, lists_of, AreOrdered, label_in, HaveLists, with_live}
use Rattle.lra_resolution_spec.specs.{declared.labels.Label.Label, declared.labels.SymbolEntry.SymbolEntry}

pub behind_more : (lists : List (List (List ℕ))) (es : List SymbolEntry) (e : SymbolEntry)
    → lists_behind lists (es ++ e ∷ []) ≡ lists_behind lists es ++ (list_at (lists_behind lists es) e.outer ++ e.name ∷ []) ∷ []
behind_more lists [] e = refl
behind_more lists (x ∷ xs) e = behind_more (lists ++ (list_at lists x.outer ++ x.name ∷ []) ∷ []) xs e

behind_length : (lists : List (List (List ℕ))) (es : List SymbolEntry) → length (lists_behind lists es) ≡ length lists + length es
behind_length lists [] = omega arith
behind_length lists (x ∷ xs) =
    let more : List (List (List ℕ)) = (list_at lists x.outer ++ x.name ∷ []) ∷ [] in
    let a = behind_length (lists ++ more) xs in
    let b = length-append lists more in omega (arith, a, b)

pub lists_length : (es : List SymbolEntry) → length (lists_of es) ≡ length es + 1
lists_length es = let a = behind_length ([] ∷ []) es in omega (arith, a)

-- a list that is there stays there
list_stays : (lists more : List (List (List ℕ))) (n : ℕ) → n < length lists → list_at (lists ++ more) n ≡ list_at lists n
list_stays lists more n h = get_or_append_left lists more [] n h

-- lists that are there stay there
pub record Keep (old new : List (List (List ℕ))) : Type 0 where
  pub longer : length old ≤ length new
  pub same : (n : ℕ) → n < length old → list_at new n ≡ list_at old n

pub keep_same : (lists : List (List (List ℕ))) → Keep lists lists
keep_same lists = record { longer = omega arith; same = λ n h. refl }

pub keep_more : (lists more : List (List (List ℕ))) → Keep lists (lists ++ more)
keep_more lists more = record { longer = (let a = length-append lists more in omega (arith, a)); same = λ n h. list_stays lists more n h }

pub keep_both : (a b c : List (List (List ℕ))) → Keep a b → Keep b c → Keep a c
keep_both a b c k l = record {
  longer = omega (arith, k.longer, l.longer);
  same = λ n h. l.same n (omega (arith, k.longer)) ∙ k.same n h;
}

keep_behind : (lists : List (List (List ℕ))) (es : List SymbolEntry) → Keep lists (lists_behind lists es)
keep_behind lists [] = keep_same lists
keep_behind lists (x ∷ xs) =
    let more : List (List (List ℕ)) = (list_at lists x.outer ++ x.name ∷ []) ∷ [] in
    keep_both lists (lists ++ more) (lists_behind (lists ++ more) xs) (keep_more lists more) (keep_behind (lists ++ more) xs)

-- the list of an entry
last_list : (lists : List (List (List ℕ))) (x : List (List ℕ)) → list_at (lists ++ x ∷ []) (length lists) ≡ x
last_list lists x = ap (λ (k : ℕ). list_at (lists ++ x ∷ []) k) (let z : length lists ≡ length lists + 0 = omega arith in z) ∙ get_or-append-add lists (x ∷ []) 0 []

entry_behind : (lists : List (List (List ℕ))) (es : List SymbolEntry) (i : ℕ) (e : SymbolEntry) → slice_get es i ≡ Some e → e.outer < length lists + i
    → list_at (lists_behind lists es) (length lists + i) ≡ list_at (lists_behind lists es) e.outer ++ e.name ∷ []
entry_behind lists [] i e at h = absurd cc
entry_behind lists (x ∷ xs) zero e at h =
    let same : x ≡ e = cc in
    let names : List (List ℕ) = list_at lists x.outer ++ x.name ∷ [] in
    let lists' : List (List (List ℕ)) = lists ++ names ∷ [] in
    let k = keep_behind lists' xs in
    let n : length lists + 0 ≡ length lists = omega arith in
    let long = length-append lists (names ∷ []) in
    let o : x.outer < length lists = rw same (omega (arith, h)) in
    let a : list_at (lists_behind lists' xs) (length lists) ≡ list_at lists' (length lists) = k.same (length lists) (omega (arith, long)) in
    let b : list_at (lists_behind lists' xs) x.outer ≡ list_at lists' x.outer = k.same x.outer (omega (arith, long, o)) in
    let c : list_at lists' x.outer ≡ list_at lists x.outer = list_stays lists (names ∷ []) x.outer o in
    ap (λ (m : ℕ). list_at (lists_behind lists' xs) m) n ∙ a ∙ last_list lists names ∙ ap (λ (ns : List (List ℕ)). ns ++ x.name ∷ []) (sym (b ∙ c))
    ∙ ap (λ (y : SymbolEntry). list_at (lists_behind lists' xs) y.outer ++ y.name ∷ []) same
entry_behind lists (x ∷ xs) (suc i) e at h =
    let names : List (List ℕ) = list_at lists x.outer ++ x.name ∷ [] in
    let lists' : List (List (List ℕ)) = lists ++ names ∷ [] in
    let long = length-append lists (names ∷ []) in
    let n : length lists + suc i ≡ length lists' + i = omega (arith, long) in
    ap (λ (m : ℕ). list_at (lists_behind lists' xs) m) n ∙ entry_behind lists' xs i e at (omega (arith, h, n))

pub list_of_entry : (es : List SymbolEntry) (i : ℕ) (e : SymbolEntry) → slice_get es i ≡ Some e → e.outer ≤ i
    → list_at (lists_of es) (i + 1) ≡ list_at (lists_of es) e.outer ++ e.name ∷ []
list_of_entry es i e at h =
    ap (λ (m : ℕ). list_at (lists_of es) m) (let z : i + 1 ≡ 1 + i = omega arith in z) ∙ entry_behind ([] ∷ []) es i e at (omega (arith, h))

pub first_list : (es : List SymbolEntry) → list_at (lists_of es) 0 ≡ []
first_list es = let k = keep_behind ([] ∷ []) es in k.same 0 (omega arith)

-- one element more
pub last_or_before : {A : Type 0} (xs : List A) (x y : A) (i : ℕ) → slice_get (xs ++ x ∷ []) i ≡ Some y → (slice_get xs i ≡ Some y) ⊎ ((i ≡ length xs) × (x ≡ y))
last_or_before [] x y zero h = inr (refl, cc)
last_or_before [] x y (suc i) h = absurd cc
last_or_before (z ∷ zs) x y zero h = inl h
last_or_before (z ∷ zs) x y (suc i) h =
    elim (last_or_before zs x y i h) [ inl before ↦ inl before | inr last ↦ inr (ap suc last.0, last.1) ]

pub ordered_more : (es : List SymbolEntry) (e : SymbolEntry) → AreOrdered es → e.outer ≤ length es → AreOrdered (es ++ e ∷ [])
ordered_more es e h below i x at =
    elim (last_or_before es e x i at) [ inl before ↦ h i x before | inr last ↦ subst (λ (y : SymbolEntry). y.outer ≤ i) last.1 (rw last.0 below) ]

pub lists_for_more : (count more : ℕ) (ls : List Label) → HaveLists count ls → count ≤ more → HaveLists more ls
lists_for_more count more ls h le i l at = let x = h i l at in (omega (arith, x.0), omega (arith, x.1))

pub lists_for_last : (count : ℕ) (ls : List Label) (l : Label) → HaveLists count ls → l.live < count → l.live_in_call < count → HaveLists count (ls ++ l ∷ [])
lists_for_last count ls l h live in_call i x at =
    elim (last_or_before ls l x i at) [ inl before ↦ h i x before | inr last ↦ subst (λ (y : Label). (y.live < count) × (y.live_in_call < count)) last.1 (live, in_call) ]

-- the labels stay what they are
pub labels_stay : (lists more : List (List (List ℕ))) (ls : List Label) → HaveLists (length lists) ls → map (label_in (lists ++ more)) ls ≡ map (label_in lists) ls
labels_stay lists more [] h = refl
labels_stay lists more (l ∷ ls) h =
    let here = h 0 l refl in
    let a = list_stays lists more l.live here.0 in
    let b = list_stays lists more l.live_in_call here.1 in
    let one : label_in (lists ++ more) l ≡ label_in lists l = rw (a, b) in
    ap (λ (x : Labelled). x ∷ map (label_in (lists ++ more)) ls) one
    ∙ ap (λ (xs : List Labelled). label_in lists l ∷ xs) (labels_stay lists more ls (λ i x at. h (suc i) x at))

-- a variable is declared
pub declared_lists : (es new : List SymbolEntry) (outer : ℕ) (copy name : List ℕ) → new ≡ es ++ record { name = copy; outer = outer } ∷ [] → copy ≡ name
    → lists_of new ≡ lists_of es ++ (list_at (lists_of es) outer ++ name ∷ []) ∷ []
declared_lists es new outer copy name is same =
    ap lists_of is ∙ behind_more ([] ∷ []) es (record { name = copy; outer = outer })
    ∙ ap (λ (x : List ℕ). lists_of es ++ (list_at (lists_of es) outer ++ x ∷ []) ∷ []) same

pub declared_labels : (es new : List SymbolEntry) (e : SymbolEntry) (ls : List Label) → new ≡ es ++ e ∷ [] → HaveLists (length es + 1) ls
    → map (label_in (lists_of new)) ls ≡ map (label_in (lists_of es)) ls
declared_labels es new e ls is h =
    ap (λ (x : List SymbolEntry). map (label_in (lists_of x)) ls) is
    ∙ ap (λ (x : List (List (List ℕ))). map (label_in x) ls) (behind_more ([] ∷ []) es e)
    ∙ labels_stay (lists_of es) ((list_at (lists_of es) e.outer ++ e.name ∷ []) ∷ []) ls (subst (λ (n : ℕ). HaveLists n ls) (sym (lists_length es)) h)

pub declared_invariant : (es new : List SymbolEntry) (e : SymbolEntry) (ls : List Label) → new ≡ es ++ e ∷ [] → AreOrdered es → e.outer < length (lists_of es) → HaveLists (length es + 1) ls
    → AreOrdered new × HaveLists (length new + 1) ls
declared_invariant es new e ls is ordered below have =
    let n = lists_length es in
    let long = length-append es (e ∷ []) in
    let l = ap (λ (x : List SymbolEntry). length x) is in
    (subst AreOrdered (sym is) (ordered_more es e ordered (omega (arith, n, below))), lists_for_more (length es + 1) (length new + 1) ls have (omega (arith, long, l)))

pub added_invariant : (es : List SymbolEntry) (ls new : List Label) (l : Label) → new ≡ ls ++ l ∷ [] → HaveLists (length es + 1) ls → l.live < length (lists_of es) →
    l.live_in_call < length (lists_of es)
    → HaveLists (length es + 1) new
added_invariant es ls new l is have live in_call =
    let n = lists_length es in
    subst (HaveLists (length es + 1)) (sym is) (lists_for_last (length es + 1) ls l have (omega (arith, n, live)) (omega (arith, n, in_call)))

-- the names of a list, one after those of the list before
pub names_behind : (es : List SymbolEntry) (n i : ℕ) (e : SymbolEntry) (names before after : List (List ℕ)) → e ≡ get_or es i e → i < length es → n ≡ i + 1 →
    AreOrdered es
    → before ≡ names ++ list_at (lists_of es) e.outer → after ≡ before ++ e.name ∷ [] → after ≡ names ++ list_at (lists_of es) n
names_behind es n i e names before after is inside number ordered first last =
    let at : slice_get es i ≡ Some e = slice_get_read es (length es) i e refl inside is in
    let x = list_of_entry es i e at (ordered i e at) in
    last ∙ ap (λ (xs : List (List ℕ)). xs ++ e.name ∷ []) first
    ∙ append_assoc names (list_at (lists_of es) e.outer) (e.name ∷ [])
    ∙ ap (λ (xs : List (List ℕ)). names ++ xs) (sym x)
    ∙ ap (λ (m : ℕ). names ++ list_at (lists_of es) m) (sym number)

pub no_names : (es : List SymbolEntry) (n : ℕ) (names : List (List ℕ)) → n ≡ 0 → names ≡ names ++ list_at (lists_of es) n
no_names es n names z =
    sym (append-nil names) ∙ ap (λ (xs : List (List ℕ)). names ++ xs) (sym (first_list es)) ∙ ap (λ (m : ℕ). names ++ list_at (lists_of es) m) (sym z)

-- the names of a list without the newest
without_last : (names : List (List ℕ)) (x : List ℕ) → take (length (names ++ x ∷ []) - 1) (names ++ x ∷ []) ≡ names
without_last names x =
    let long = length-append names (x ∷ []) in
    let n : length (names ++ x ∷ []) - 1 ≡ length names = omega (arith, long) in
    ap (λ (k : ℕ). take k (names ++ x ∷ [])) n ∙ take-append-le (length names) names (x ∷ []) (omega arith) ∙ take-length names

pub outer_of_entry : (es : List SymbolEntry) (n i : ℕ) (e : SymbolEntry) → e ≡ get_or es i e → i < length es → n ≡ i + 1 → AreOrdered es
    → list_at (lists_of es) e.outer ≡ take (length (list_at (lists_of es) n) - 1) (list_at (lists_of es) n)
outer_of_entry es n i e is inside number ordered =
    let at : slice_get es i ≡ Some e = slice_get_read es (length es) i e refl inside is in
    let x : list_at (lists_of es) n ≡ list_at (lists_of es) e.outer ++ e.name ∷ [] =
    ap (λ (m : ℕ). list_at (lists_of es) m) number ∙ list_of_entry es i e at (ordered i e at) in
    sym (ap (λ (ns : List (List ℕ)). take (length ns - 1) ns) x ∙ without_last (list_at (lists_of es) e.outer) e.name)

pub outer_of_first : (es : List SymbolEntry) (n : ℕ) → n ≡ 0 → list_at (lists_of es) 0 ≡ take (length (list_at (lists_of es) n) - 1) (list_at (lists_of es) n)
outer_of_first es n z =
    let none : list_at (lists_of es) n ≡ [] = ap (λ (m : ℕ). list_at (lists_of es) m) z ∙ first_list es in
    first_list es ∙ sym (ap (λ (ns : List (List ℕ)). take (length ns - 1) ns) none)

pub outer_inside : (es : List SymbolEntry) (n i : ℕ) (e : SymbolEntry) → e ≡ get_or es i e → i < length es → n ≡ i + 1 → AreOrdered es
    → n < length (lists_of es) → e.outer < length (lists_of es)
outer_inside es n i e is inside number ordered below =
    let below_it : e.outer ≤ i = ordered i e (slice_get_read es (length es) i e refl inside is) in omega (arith, below, below_it, number)

-- a label with another list --------------------------------------------------------------------------------------------

abbrev pub live_set : Label → ℕ → Label
live_set l n = record { place = l.place; called = l.called; live = n; live_in_call = l.live_in_call }

abbrev pub live_in_call_set : Label → ℕ → Label
live_in_call_set l n = record { place = l.place; called = l.called; live = l.live; live_in_call = n }

set_has_lists : (count : ℕ) (ls : List Label) (k : ℕ) (l : Label) → HaveLists count ls → l.live < count → l.live_in_call < count
    → HaveLists count (slice_set ls k l)
set_has_lists count [] k l h live in_call i x at = absurd cc
set_has_lists count (y ∷ ys) zero l h live in_call zero x at =
    let same : l ≡ x = cc in subst (λ (z : Label). (z.live < count) × (z.live_in_call < count)) same (live, in_call)
set_has_lists count (y ∷ ys) zero l h live in_call (suc i) x at = h (suc i) x at
set_has_lists count (y ∷ ys) (suc k) l h live in_call zero x at = h zero x at
set_has_lists count (y ∷ ys) (suc k) l h live in_call (suc i) x at = set_has_lists count ys k l (λ j z w. h (suc j) z w) live in_call i x at

module _ (ls : List Label) (i n : ℕ) (a b : Label) (inside : i < length ls) (read : a ≡ get_or ls i a) (read_again : b ≡ get_or (slice_set ls i (live_set a n)) i b) where
  second_is : b ≡ live_set a n
  second_is = read_again ∙ get_or-set_same ls i (live_set a n) b inside

  pub relisted_invariant : (count : ℕ) → HaveLists count ls → n < count → HaveLists count (slice_set (slice_set ls i (live_set a n)) i (live_in_call_set b n))
  relisted_invariant count h below =
      let at : slice_get ls i ≡ Some a = slice_get_read ls (length ls) i a refl inside read in
      let both = h i a at in
      let first = set_has_lists count ls i (live_set a n) h below both.1 in
      let live : b.live < count = subst (λ (z : Label). z.live < count) (sym second_is) below in
      set_has_lists count (slice_set ls i (live_set a n)) i (live_in_call_set b n) first live below

  pub relisted_labels : (lists : List (List (List ℕ))) (front rest : List Labelled) (l : Labelled) → map (label_in lists) ls ≡ front ++ l ∷ rest → i ≡ length front
      → map (label_in lists) (slice_set (slice_set ls i (live_set a n)) i (live_in_call_set b n)) ≡ front ++ with_live l (list_at lists n) ∷ rest
  relisted_labels lists front rest l is number =
      let f : Label → Labelled = label_in lists in
      let here : f a ≡ l = ap f read ∙ sym (get_or-map f ls i a (f a) inside) ∙ ap (λ (xs : List Labelled). get_or xs i (f a)) is
      ∙ ap (λ (k : ℕ). get_or (front ++ l ∷ rest) k (f a)) number ∙ get_or-append_seam front l rest (f a) in
      let last : f (live_in_call_set b n) ≡ with_live l (list_at lists n) =
      ap (λ (z : Label). f (live_in_call_set z n)) second_is ∙ ap (λ (z : Labelled). with_live z (list_at lists n)) here in
      map-set f (slice_set ls i (live_set a n)) i (live_in_call_set b n)
      ∙ ap (λ (xs : List Labelled). slice_set xs i (f (live_in_call_set b n))) (map-set f ls i (live_set a n)
      ∙ ap (λ (xs : List Labelled). slice_set xs i (f (live_set a n))) is
      ∙ ap (λ (k : ℕ). slice_set (front ++ l ∷ rest) k (f (live_set a n))) number
      ∙ set-append_seam front l rest (f (live_set a n)))
      ∙ ap (λ (k : ℕ). slice_set (front ++ f (live_set a n) ∷ rest) k (f (live_in_call_set b n))) number
      ∙ set-append_seam front (f (live_set a n)) rest (f (live_in_call_set b n))
      ∙ ap (λ (z : Labelled). front ++ z ∷ rest) last
