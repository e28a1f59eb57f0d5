-- When a count rose, and what is a proper prefix of some bytes.
use Rattle.std.specs.Prelude.{◌≡◌, [], ◌∷◌, Some, suc, zero, refl}
use Rattle.std.proofs.Common.{inl, inr, arith}
use Rattle.lra_io.specs.Causes.{last_count, next_count, Rose, AppendsPart}

-- a count that grows rose
pub grew : Rose 3 4
grew = inl (omega arith)

-- one that stays rose only at its last value
pub stays_at_last : Rose last_count last_count
stays_at_last = inr refl

pub stays_below_last : Rose 3 3 → ⊥
stays_below_last (inl more) = omega arith
stays_below_last (inr last) = cc

-- so a count that is always 0 never rose
pub always_zero : Rose 0 0 → ⊥
always_zero (inl more) = omega arith
always_zero (inr last) = cc

pub counts_one_more : next_count 0 ≡ 1
counts_one_more = refl

pub counts_no_further : next_count last_count ≡ last_count
counts_no_further = refl

-- a sink that held 7 and then holds 7 1 2 took a proper prefix of 1 2 3
pub two_of_three : AppendsPart (Some (7 ∷ [])) (Some (7 ∷ 1 ∷ 2 ∷ [])) (1 ∷ 2 ∷ 3 ∷ [])
two_of_three = (2, omega arith, refl)

-- all of 1 2 is no proper prefix of it
pub not_all : AppendsPart (Some []) (Some (1 ∷ 2 ∷ [])) (1 ∷ 2 ∷ []) → ⊥
not_all (zero, below, held) = cc
not_all (suc zero, below, held) = cc
not_all (suc (suc n), below, held) = omega arith
