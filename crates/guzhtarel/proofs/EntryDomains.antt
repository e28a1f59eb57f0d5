-- The facts of a domain with an entry for each dimension, its ranks, and that its rows mean it.
use Rattle.std.proofs.Common.{◌≡◌, ℕ, suc, ◌+◌, ◌-◌, ◌<◌, ◌≤◌, ◌^◌, ℤ, pos, Bool, true, false, not, ◌&&◌, ◌||◌, List, [], ◌∷◌, length, replicate, refl, ap, subst, sym, arith, inl, inr, ◌↔◌, ◌⊎◌}
use Rattle.std.proofs.{Math.Bool.or-not_self, lemmas.List.length-replicate}
use Rattle.std.specs.{Cmp.Derive.both_true, Cmp.Lexicographic.pointwise}
use Rattle.lra_linear_forms.specs.Form.{form_value}
use Rattle.guzhtarel.specs.Crates.{lra_linear_spec.Vectors.entry, lra_linear_spec.declared.ConKind.TheVariants.Ge}
use Rattle.lra_domain.specs.Actions.{Action, ActionFits, Leads, assign, forget, test, embed, remove_last}
use Rattle.lra_domain.specs.{ExactDomains.Facts, ExactDomains.abstraction_of, Laws.PartsAreExact, Parts.SomePartHolds, Rank.RankBelow, Rank.RankFits}
use Rattle.guzhtarel.specs.Entries.{AllHave, AllHold, join_each, rows_from, total}
use Rattle.guzhtarel.specs.EntryDomains.{EachEntry, EntryFacts, EntriesContent, entries_after, lies_in, parts_of, one_if, of_entries}
use Rattle.guzhtarel.proofs.EntryChanges.{have_length, have_all, have_set, have_append, have_take, have_within, each_covers, join_left, join_right, sum_most, sum_less, sum_falls}
use Rattle.guzhtarel.proofs.RowValues.{rows_hold, hold_append}

-- ---- facts
moved : {E : Type 0} (p : EachEntry E) → EntryFacts p → (step : Action) (es : List E) (s t : List ℤ) → ActionFits step (length es) → AllHave p.gamma es s → Leads step s t
    → AllHave p.gamma (entries_after p step es) t
moved p f (assign x e) es s t fits a l = rw l (have_set p.gamma es s x (p.value e es) (form_value e s) a (f.value_gamma e es s fits.1 a))
moved p f (forget x) es s t fits a l = rw l.1 (have_set p.gamma es s x p.top l.0 a (f.top_gamma l.0))
moved p f (test kind e) es s t fits a l = rw l.1 a
moved p f (embed k) es s t fits a l = rw l.2 (have_append p.gamma es (replicate k p.top) s l.0 a (have_all p.gamma p.top f.top_gamma k l.0 l.1))
moved p f (remove_last k) es s t fits a l =
    let left : length es - k ≡ length s - k = ap (λ (n : ℕ). n - k) (sym (have_length p.gamma es s a)) in
    rw (l, left) (have_take p.gamma (length s - k) es s a)

covers : {E : Type 0} (p : EachEntry E) → EntryFacts p → (m n : Bool) (es ds : List E) → ((m || not n) && pointwise p.leq es ds) ≡ true → (s : List ℤ)
    → (m ≡ false) × AllHave p.gamma es s → (n ≡ false) × AllHave p.gamma ds s
covers p f true n es ds t s h = cc
covers p f false true es ds t s h = cc
covers p f false false es ds t s h = (refl, have_within p.gamma p.leq f.leq_gamma es ds t s h.1)

in_both : (m n : Bool) → (m || not (m && n)) ≡ true
in_both true n = refl
in_both false n = refl

in_both_too : (m n : Bool) → (n || not (m && n)) ≡ true
in_both_too m true = refl
in_both_too true false = refl
in_both_too false false = refl

one_part : {E : Type 0} (p : EachEntry E) (m : Bool) (es : List E) → length (parts_of p m es) ≤ 1
one_part p true es = omega arith
one_part p false es = omega arith

partless : {E : Type 0} (p : EachEntry E) (m : Bool) (es : List E) → parts_of p m es ≡ [] → m ≡ false → ⊥
partless p true es e none = cc
partless p false es e none = cc

pub facts_of : {E : Type 0} (p : EachEntry E) → EntryFacts p → Facts (of_entries p)
facts_of p f = record {
  sized = λ v s h. have_length p.gamma v.entries s h.1;
  top_dims = λ n. length-replicate n p.top;
  top_stores = λ n s long. (refl, have_all p.gamma p.top f.top_gamma n s long);
  bottom_dims = λ n. length-replicate n p.bottom;
  bottom_stores = λ n s h. cc;
  one_part = λ v. one_part p v.nothing v.entries;
  partless = λ v e s h. partless p v.nothing v.entries e h.0;
  reflexive = λ v. both_true (or-not_self v.nothing) (each_covers p.leq f.reflexive v.entries);
  leq_stores = λ a b t s h. covers p f a.nothing b.nothing a.entries b.entries t s h;
  moved = λ step v s t fits h l. (h.0, moved p f step v.entries s t fits h.1 l);
  left = λ a b e. both_true (in_both a.nothing b.nothing) (join_left p.leq p.join f.left a.entries b.entries e);
  right = λ a b e. both_true (in_both_too a.nothing b.nothing) (join_right p.leq p.join f.right a.entries b.entries e);
}

pub content_same : {E : Type 0} (v w : EntriesContent E) → v.nothing ≡ w.nothing → v.entries ≡ w.entries → v ≡ w
content_same v w p q = rw (← p, ← q) refl

-- ---- ranks
one_most : (m : Bool) → one_if m ≤ 1
one_most true = omega arith
one_most false = omega arith

pub rank_fits : {E : Type 0} (p : EachEntry E) → EntryFacts p → (v : EntriesContent E) → length v.entries ≤ 2 ^ 30 →
    RankFits ((abstraction_of (of_entries p)).rank v)
rank_fits p f v few = record {
  fits_first = omega arith;
  fits_second = omega arith;
  fits_third = omega arith;
  fits_fourth = let one = one_most v.nothing in let most = sum_most p.number f.few v.entries in omega (arith, few, one, most);
}

number_falls : {E : Type 0} (p : EachEntry E) → EntryFacts p → (m n : Bool) (es ds : List E) → length es ≡ length ds → ((n || not m) && pointwise p.leq ds es) ≡ false
    → one_if (m && n) + total p.number (join_each p.join es ds) < one_if m + total p.number es
number_falls p f false true es ds e miss = let h = sum_falls p.number p.leq p.join f.less f.falls es ds e miss in omega (arith, h)
number_falls p f false false es ds e miss = let h = sum_falls p.number p.leq p.join f.less f.falls es ds e miss in omega (arith, h)
number_falls p f true true es ds e miss = let h = sum_falls p.number p.leq p.join f.less f.falls es ds e miss in omega (arith, h)
number_falls p f true false es ds e miss = let h = sum_less p.number p.join f.less es ds in omega (arith, h)

pub rank_falls : {E : Type 0} (p : EachEntry E) → EntryFacts p → (old next new : EntriesContent E) → length old.entries ≡ length next.entries → lies_in p next old ≡ false
    → new ≡ (of_entries p).joined old next → RankBelow ((abstraction_of (of_entries p)).rank new) ((abstraction_of (of_entries p)).rank old)
rank_falls p f old next new e miss is = rw is (inr (inr (inr (refl, refl, refl, number_falls p f old.nothing next.nothing old.entries next.entries e miss))))

-- ---- rows
-- the columns from one on are those of a store that comes after them
abbrev pub Behind : ℕ → List ℤ → List ℤ → Type 0
Behind column s x = (j : ℕ) → entry x (column + j) ≡ entry s j

plus_none : (c : ℕ) → c + 0 ≡ c
plus_none c = omega arith

plus_next : (c j : ℕ) → c + suc j ≡ suc c + j
plus_next c j = omega arith

from_column : {E : Type 0} (p : EachEntry E) → EntryFacts p → (n column : ℕ) (es : List E) (s x : List ℤ) → column + length es ≡ n + 1 → length s ≡ length es
    → entry x 0 ≡ pos 1 → Behind column s x → AllHold Ge (rows_from p.rows n column es) x ↔ AllHave p.gamma es s
from_column p f n column [] [] x e l d b = (λ h. tt, λ h. tt)
from_column p f n column [] (z ∷ s) x e l d b = absurd (omega (arith, l))
from_column p f n column (k ∷ ks) [] x e l d b = absurd (omega (arith, l))
from_column p f n column (k ∷ ks) (z ∷ s) x e l d b =
    let a = hold_append Ge (p.rows n column k) (rows_from p.rows n (suc column) ks) x in
    let one = f.rows_have n column k x (omega (arith, e)) d in
    let here : entry x column ≡ z = subst (λ c. entry x c ≡ z) (plus_none column) (b 0) in
    let rest = from_column p f n (suc column) ks s x (omega (arith, e)) (omega (arith, l)) d (λ j. subst (λ c. entry x c ≡ entry s j) (plus_next column j) (b (suc j))) in (
      λ h. let q = a.0 h in (subst (λ y. p.gamma k y) here (one.0 q.0), rest.0 q.1),
      λ h. a.1 (one.1 (subst (λ y. p.gamma k y) (sym here) h.0), rest.1 h.1),
    )

one_more : (j : ℕ) → suc j ≡ 1 + j
one_more j = omega arith

only : {A : Type 0} → A ⊎ ⊥ → A
only (inl a) = a
only (inr b) = absurd b

parts_mean_of : {E : Type 0} (p : EachEntry E) → EntryFacts p → (m : Bool) (es : List E) (s : List ℤ) → length s ≡ length es
    → ((m ≡ false) × AllHave p.gamma es s) ↔ SomePartHolds (parts_of p m es) s
parts_mean_of p f true es s l = (λ h. cc, λ h. absurd h)
parts_mean_of p f false es s l =
    let c = rows_hold Ge (rows_from p.rows (length es) 1 es) (pos 1 ∷ s) in
    let g = from_column p f (length es) 1 es s (pos 1 ∷ s) (omega arith) l refl (λ j. subst (λ c. entry (pos 1 ∷ s) c ≡ entry s j) (one_more j) refl) in
    (λ h. inl (c.1 (g.1 h.1)), λ h. (refl, g.0 (c.0 (only h))))

pub parts_mean : {E : Type 0} (p : EachEntry E) → EntryFacts p → (v : EntriesContent E) (s : List ℤ) → length s ≡ length v.entries → (of_entries p).gamma v s ↔ SomePartHolds ((of_entries p).parts v) s
parts_mean p f v s l = parts_mean_of p f v.nothing v.entries s l

pub parts_hold : {E : Type 0} (p : EachEntry E) → EntryFacts p → (v : EntriesContent E) (s : List ℤ) → (of_entries p).gamma v s → SomePartHolds ((of_entries p).parts v) s
parts_hold p f v s h = (parts_mean p f v s (have_length p.gamma v.entries s h.1)).0 h

pub parts_tell : {E : Type 0} (p : EachEntry E) → EntryFacts p → (v : EntriesContent E) → PartsAreExact (abstraction_of (of_entries p)) v
parts_tell p f v = λ s l h. (parts_mean p f v s l).1 h
