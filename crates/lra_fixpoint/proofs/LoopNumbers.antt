-- In a tree whose points are numbered apart, each loop is the first one with its number.
use Rattle.std.proofs.Common.{◌≡◌, ℕ, ◌+◌, ◌≤◌, List, Some, None, Bool, true, false, cond, refl, ap, ◌∙◌, arith}
use Rattle.std.specs.Prelude.{nat_eq, slice_get, Option}
use Rattle.lra_operations.specs.Tree.{Node, empty, probe, point, act, check, seq, choose, iterate, catch, leave, select, Arms, no_arms, entry, arm}
use Rattle.lra_fixpoint.specs.Crates.lra_program.Sites.{Site}
use Rattle.lra_fixpoint.specs.Numbers.{one_if, values_in, values_in_arms, IsNumbered}
use Rattle.lra_pass_results.specs.LoopCache.{ArmsHaveLoops, HasLoops}
use Rattle.lra_fixpoint.proofs.Counting.{one_same}

abbrev mutual
  -- the first loop of this number, or else the other tree
  first_loop : Node → ℕ → Node → Node
  first_loop empty k d = d
  first_loop (probe here what) k d = d
  first_loop (point q) k d = d
  first_loop (act q op) k d = d
  first_loop (check q base c) k d = d
  first_loop (seq a b) k d = first_loop a k (first_loop b k d)
  first_loop (choose q base c a b) k d = first_loop a k (first_loop b k d)
  first_loop (iterate q base c a) k d = cond (nat_eq q k) (iterate q base c a) (first_loop a k d)
  first_loop (catch q j a) k d = first_loop a k d
  first_loop (leave n j) k d = d
  first_loop (select q base e arms) k d = first_loop_in arms k d

  first_loop_in : Arms → ℕ → Node → Node
  first_loop_in no_arms k d = d
  first_loop_in (entry l arms) k d = first_loop_in arms k d
  first_loop_in (arm a arms) k d = first_loop a k (first_loop_in arms k d)

is_false : (b : Bool) → ◌≡◌ {A = ℕ} (cond b 1 0) 0 → b ≡ false
is_false true h = let no : ◌≡◌ {A = ℕ} 1 0 = h in absurd (omega (arith, no))
is_false false h = refl

is_true : (b : Bool) → ◌≡◌ {A = ℕ} (cond b 1 0) 1 → b ≡ true
is_true true h = refl
is_true false h = let no : ◌≡◌ {A = ℕ} 0 1 = h in absurd (omega (arith, no))

one_none : (q k : ℕ) → one_if q k ≡ 0 → nat_eq q k ≡ false
unfolding one_if
one_none q k none = is_false (nat_eq q k) none

own_true : (q : ℕ) → nat_eq q q ≡ true
unfolding one_if
own_true q = is_true (nat_eq q q) (one_same q)

own_number : (q : ℕ) (x y : Node) → cond (nat_eq q q) x y ≡ x
own_number q x y = ap (λ (b : Bool). cond b x y) (own_true q)

own_counts : (q n : ℕ) → 1 ≤ one_if q q + n
own_counts q n = let one = one_same q in omega (arith, one)

mutual
  absent : (g : Node) (k : ℕ) (d : Node) → values_in g k ≡ 0 → first_loop g k d ≡ d
  absent empty k d none = refl
  absent (probe here what) k d none = refl
  absent (point q) k d none = refl
  absent (act q op) k d none = refl
  absent (check q base c) k d none = refl
  absent (seq a b) k d none = absent a k (first_loop b k d) (omega (arith, none)) ∙ absent b k d (omega (arith, none))
  absent (choose q base c a b) k d none = absent a k (first_loop b k d) (omega (arith, none)) ∙
      absent b k d (omega (arith, none))
  absent (iterate q base c a) k d none = ap (λ x. cond x (iterate q base c a) (first_loop a k d))
      (one_none q k (omega (arith, none))) ∙ absent a k d (omega (arith, none))
  absent (catch q j a) k d none = absent a k d none
  absent (leave n j) k d none = refl
  absent (select q base e arms) k d none = absent_in arms k d none

  absent_in : (arms : Arms) (k : ℕ) (d : Node) → values_in_arms arms k ≡ 0 → first_loop_in arms k d ≡ d
  absent_in no_arms k d none = refl
  absent_in (entry l arms) k d none = absent_in arms k d none
  absent_in (arm a arms) k d none = absent a k (first_loop_in arms k d) (omega (arith, none)) ∙
      absent_in arms k d (omega (arith, none))

-- for the trees in the first of two, and in what comes after it
module _ (a : Node) (others : ℕ → ℕ) (loops behind : ℕ → Node) (apart : (k : ℕ) → values_in a k + others k ≤ 1)
    (first : (k : ℕ) → 1 ≤ values_in a k + others k → loops k ≡ first_loop a k (behind k)) where
  one_apart : (k : ℕ) → values_in a k ≤ 1
  one_apart k = let all = apart k in omega (arith, all)

  two_apart : (k : ℕ) → others k ≤ 1
  two_apart k = let all = apart k in omega (arith, all)

  one_first : (k : ℕ) → 1 ≤ values_in a k → loops k ≡ first_loop a k (behind k)
  one_first k some = first k (omega (arith, some))

  two_first : (k : ℕ) → 1 ≤ others k → loops k ≡ behind k
  two_first k some = first k (omega (arith, some)) ∙
      absent a k (behind k) (let all = apart k in omega (arith, all, some))

mutual
  named : (g : Node) (loops d : ℕ → Node) → ((k : ℕ) → values_in g k ≤ 1) →
      ((k : ℕ) → 1 ≤ values_in g k → loops k ≡ first_loop g k (d k)) → HasLoops loops g
  named empty loops d apart first = tt
  named (probe here what) loops d apart first = tt
  named (point q) loops d apart first = tt
  named (act q op) loops d apart first = tt
  named (check q base c) loops d apart first = tt
  named (seq a b) loops d apart first =
      let behind : ℕ → Node = λ k. first_loop b k (d k) in (
        named a loops behind (one_apart a (values_in b) loops behind apart first) (one_first a (values_in b) loops behind apart first),
        named b loops d (two_apart a (values_in b) loops behind apart first) (two_first a (values_in b) loops behind apart first),
      )
  named (choose q base c a b) loops d apart first =
      let behind : ℕ → Node = λ k. first_loop b k (d k) in (
        named a loops behind (one_apart a (values_in b) loops behind apart first) (one_first a (values_in b) loops behind apart first),
        named b loops d (two_apart a (values_in b) loops behind apart first) (two_first a (values_in b) loops behind apart first),
      )
  named (iterate q base c a) loops d apart first = (
    first q (own_counts q (values_in a q)) ∙ own_number q (iterate q base c a) (first_loop a q (d q)),
    named a loops d (λ k. let all = apart k in omega (arith, all)) inside,
  )
    where
      inside : (k : ℕ) → 1 ≤ values_in a k → loops k ≡ first_loop a k (d k)
      inside k some = first k (omega (arith, some)) ∙ ap (λ x. cond x (iterate q base c a) (first_loop a k (d k)))
          (one_none q k (let all = apart k in omega (arith, all, some)))
  named (catch q j a) loops d apart first = named a loops d apart first
  named (leave n j) loops d apart first = tt
  named (select q base e arms) loops d apart first = named_in arms loops d apart first

  named_in : (arms : Arms) (loops d : ℕ → Node) → ((k : ℕ) → values_in_arms arms k ≤ 1) →
      ((k : ℕ) → 1 ≤ values_in_arms arms k → loops k ≡ first_loop_in arms k (d k)) → ArmsHaveLoops loops arms
  named_in no_arms loops d apart first = tt
  named_in (entry l arms) loops d apart first = named_in arms loops d apart first
  named_in (arm a arms) loops d apart first =
      let others = values_in_arms arms in
      let behind : ℕ → Node = λ k. first_loop_in arms k (d k) in (
        named a loops behind (one_apart a others loops behind apart first) (one_first a others loops behind apart first),
        named_in arms loops d (two_apart a others loops behind apart first) (two_first a others loops behind apart first),
      )

-- each loop of a numbered tree is the one of its number
pub numbered_loops : (T : List Site) (g : Node) → IsNumbered T g → (loops : ℕ → Node) × HasLoops loops g
numbered_loops T g numbered = (
  (λ k. first_loop g k empty),
  named g (λ k. first_loop g k empty) (λ k. empty) apart (λ k some. refl),
)
  where
    at : (k : ℕ) (s : Option Site) → slice_get T k ≡ s → values_in g k ≤ 1
    at k None is = let none = numbered.no_values k is in omega (arith, none)
    at k (Some s) is = let one = numbered.values k s is in omega (arith, one)

    apart : (k : ℕ) → values_in g k ≤ 1
    apart k = at k (slice_get T k) refl
