-- The size of a condition.
use Rattle.std.proofs.Common.{◌≡◌, ℕ, zero, suc, ◌+◌, ◌<◌, List, [], ◌∷◌, length, map, get_or, ap, arith}
use Rattle.lra_linearize.specs.Crates.{lra_program.declared.program.Cond.Cond, lra_program.declared.program.Cond.TheFolds.fold-Cond, lra_program.declared.program.Cond.TheOpen.Cond-F}

abbrev pub row_size : List ℕ → ℕ
row_size [] = 0
row_size (n ∷ ns) = 1 + (n + row_size ns)

abbrev pub size_step : Cond-F ℕ → ℕ
size_step (Cond-F.Compare op a b) = 0
size_step (Cond-F.Nonzero e) = 0
size_step (Cond-F.Opposite c) = 1 + c.value
size_step (Cond-F.All c cs) = 2 + (c.value + row_size cs.items)
size_step (Cond-F.Any c cs) = 2 + (c.value + row_size cs.items)

abbrev pub cond_size : Cond → ℕ
cond_size = fold-Cond ℕ size_step

abbrev pub chain_size : Cond → List Cond → ℕ
chain_size c cs = 1 + (cond_size c + row_size (map cond_size cs))

-- one of a row is smaller than the row
row_in : (cs : List Cond) (i : ℕ) (d : Cond) → i < length cs → cond_size (get_or cs i d) < 1 + row_size (map cond_size cs)
row_in [] i d h = elim h [ ]
row_in (c ∷ cs) zero d h = omega arith
row_in (c ∷ cs) (suc i) d h = let inner = row_in cs i d (omega (arith, h)) in omega (arith, inner)

-- one after the first of a chain is smaller than the chain
pub size_in : (c : Cond) (cs : List Cond) (i : ℕ) (x : Cond) → i < length cs → x ≡ get_or cs i x → cond_size x < chain_size c cs
size_in c cs i x h is =
    let inner = row_in cs i x h in
    let same = ap cond_size is in
    omega (arith, inner, same)
