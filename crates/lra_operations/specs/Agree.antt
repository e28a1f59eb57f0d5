-- The tree of a whole program, and what it must guarantee: the tree reaches a point exactly if a run does.
use Rattle.std.specs.List.{AllByRecursion}
use Rattle.std.specs.Prelude.{◌≡◌, ◌↔◌, ℕ, ℤ, List, length, Some, slice_get, IsTrue, suc}
use Rattle.lra_program.specs.Run.{begun, Point, At, Fails}
use Rattle.lra_program.specs.{Program.Program, Sites.Site, Sites.sites_of, Step.State, Value.is_word}
use Rattle.lra_operations.specs.Inlined.{IsSiteAt, InlineItems, move, main_inline_state}
use Rattle.lra_operations.specs.Tree.{Node, seq, point, ReachesPoint, FailsAt}

-- main's items, and the point of its end; the points are those of the program
pub record IsInlinedTree (P : Program) (g : Node) : Type 0 where
  pub body : Node
  pub last : ℕ
  pub live : ℕ
  pub inlined : InlineItems P (sites_of P) (main_inline_state P) P.main.body body live last
  pub ends : IsSiteAt (sites_of P) (move (main_inline_state P) live last) P.main.end
  pub all : length (sites_of P) ≡ suc last
  pub parts : g ≡ seq body (point last)

-- the tree reaches the point of this number with the store
abbrev pub Reached : Program → Node → ℕ → List ℤ → Type 0
Reached P g number store =
    (draws : List ℤ) × AllByRecursion (λ z. IsTrue (is_word z)) draws × (t : State) ×
    ReachesPoint g (begun P draws) number t × (t.store ≡ store)

-- it fails the assertion of this number
abbrev pub Failed : Program → Node → ℕ → Type 0
Failed P g number = (draws : List ℤ) × AllByRecursion (λ z. IsTrue (is_word z)) draws ×
    FailsAt g (begun P draws) number

-- the point with this number
abbrev pub point_of : Site → Point
point_of s = record { path = s.path; label = s.label }

-- no two points have the same call path and label
abbrev pub AreDistinct : List Site → Type 0
AreDistinct T = (i j : ℕ) (a b : Site) → slice_get T i ≡ Some a → slice_get T j ≡ Some b → a.path ≡ b.path →
    a.label ≡ b.label → i ≡ j

pub record Agrees (P : Program) (g : Node) : Type 0 where
  -- a run reaches the point exactly if the tree does
  pub comes : (number : ℕ) (s : Site) (store : List ℤ) → slice_get (sites_of P) number ≡ Some s →
      (At P (point_of s) store ↔ Reached P g number store)
  -- and fails there exactly if the tree does
  pub fails : (number : ℕ) (s : Site) → slice_get (sites_of P) number ≡ Some s →
      (Fails P (point_of s) ↔ Failed P g number)
  -- the store has as many variables as live there
  pub width : (number : ℕ) (s : Site) (store : List ℤ) → slice_get (sites_of P) number ≡ Some s →
      Reached P g number store → length store ≡ s.live
  -- no run is at another point
  pub others : (p : Point) (store : List ℤ) → At P p store → (number : ℕ) × (s : Site) ×
      (slice_get (sites_of P) number ≡ Some s) × (p ≡ point_of s)

-- A run is at a point by its path and label, the tree by its number; so each tree of a program agrees with its runs
-- if no two of its points have one path and label.
abbrev pub TreesAgree : Type 0
TreesAgree = (P : Program) (g : Node) → AreDistinct (sites_of P) → IsInlinedTree P g → Agrees P g
