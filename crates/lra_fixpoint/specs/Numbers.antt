-- How often a point's number has a value in a tree of operations, and how often an assertion has it.
use Rattle.std.specs.Prelude.{◌≡◌, ℕ, ◌+◌, ◌<◌, nat_eq, cond, List, Option, Some, None, slice_get, ⊤}
use Rattle.lra_operations.specs.Tree.{Node, empty, probe, point, act, check, seq, choose, iterate, catch, leave, select}
use Rattle.lra_operations.specs.Tree.{Arms, no_arms, entry, arm}
use Rattle.lra_fixpoint.specs.Crates.lra_program.Sites.{Site}

-- 1 if the numbers are equal, else 0
unfoldable pub one_if : ℕ → ℕ → ℕ
one_if q k = cond (nat_eq q k) 1 0

abbrev mutual
  -- values of the point k
  pub values_in : Node → ℕ → ℕ
  values_in empty k = 0
  values_in (probe here what) k = 0
  values_in (point q) k = one_if q k
  values_in (act q op) k = 0
  values_in (check q base c) k = 0
  values_in (seq a b) k = values_in a k + values_in b k
  values_in (choose q base c a b) k = values_in a k + values_in b k
  values_in (iterate q base c a) k = one_if q k + values_in a k
  values_in (catch q j a) k = values_in a k
  values_in (leave n j) k = 0
  values_in (select q base e arms) k = values_in_arms arms k

  pub values_in_arms : Arms → ℕ → ℕ
  values_in_arms no_arms k = 0
  values_in_arms (entry l arms) k = values_in_arms arms k
  values_in_arms (arm a arms) k = values_in a k + values_in_arms arms k

abbrev mutual
  -- assertions of the point k
  pub checks_in : Node → ℕ → ℕ
  checks_in empty k = 0
  checks_in (probe here what) k = 0
  checks_in (point q) k = 0
  checks_in (act q op) k = 0
  checks_in (check q base c) k = one_if q k
  checks_in (seq a b) k = checks_in a k + checks_in b k
  checks_in (choose q base c a b) k = checks_in a k + checks_in b k
  checks_in (iterate q base c a) k = checks_in a k
  checks_in (catch q j a) k = checks_in a k
  checks_in (leave n j) k = 0
  checks_in (select q base e arms) k = checks_in_arms arms k

  pub checks_in_arms : Arms → ℕ → ℕ
  checks_in_arms no_arms k = 0
  checks_in_arms (entry l arms) k = checks_in_arms arms k
  checks_in_arms (arm a arms) k = checks_in a k + checks_in_arms arms k

-- 1 for an assertion, else 0
abbrev pub asserts_of : Option Site → ℕ
asserts_of None = 0
asserts_of (Some s) = cond s.asserts 1 0

-- each of these sites has one value in the tree, each assertion among them one more where it is false, and no other
-- number has any
pub record IsNumbered (T : List Site) (g : Node) : Type 0 where
  pub values : (k : ℕ) (s : Site) → slice_get T k ≡ Some s → values_in g k ≡ 1
  pub no_values : (k : ℕ) → slice_get T k ≡ None → values_in g k ≡ 0
  pub checks : (k : ℕ) → checks_in g k ≡ asserts_of (slice_get T k)

abbrev mutual
  -- each operation of the tree belongs to a point below n
  pub AreBelow : ℕ → Node → Type 0
  AreBelow n empty = ⊤
  AreBelow n (probe here what) = here < n
  AreBelow n (point q) = ⊤
  AreBelow n (act q op) = q < n
  AreBelow n (check q base c) = q < n
  AreBelow n (seq a b) = AreBelow n a × AreBelow n b
  AreBelow n (choose q base c a b) = (q < n) × AreBelow n a × AreBelow n b
  AreBelow n (iterate q base c a) = (q < n) × AreBelow n a
  AreBelow n (catch q j a) = (q < n) × AreBelow n a
  AreBelow n (leave m j) = ⊤
  AreBelow n (select q base e arms) = (q < n) × ArmsAreBelow n arms

  pub ArmsAreBelow : ℕ → Arms → Type 0
  ArmsAreBelow n no_arms = ⊤
  ArmsAreBelow n (entry l arms) = ArmsAreBelow n arms
  ArmsAreBelow n (arm a arms) = AreBelow n a × ArmsAreBelow n arms
