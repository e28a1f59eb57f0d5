-- What is lost of an input that is not read to its end.
use Rattle.std.proofs.Common.{◌≡◌, ℕ, ◌+◌, ◌-◌, ◌≤◌, List, ◌++◌, length, Option, Result, Ok, Err, Vec, Global, take, arith, length-append}
use Rattle.std.proofs.{KnownBytes.Consumes-trans, lemmas.Grind.common_steps}
use Rattle.std.specs.{Io.KnownBytes.Consumes, Prelude.IsErrAnd}
use Rattle.lra_io.specs.declared.whole.ReadError.TheVariants.{TooLong, Failed, Memory}
use Rattle.lra_io.specs.{ReadErrors.ReadsWhole, declared.whole.ReadError.ReadError}

-- running out of memory for a piece that was read loses that piece with the bytes before it
pub piece_lost : (a b c : Option (List ℕ)) (xs ys : List ℕ) (limit : ℕ) (result : Result (Vec ℕ Global) ReadError)
    → IsErrAnd result (λ e. e ≡ Memory) → Consumes a b xs → Consumes b c ys → length xs + length ys ≤ limit + 1
    → ReadsWhole a c limit result
piece_lost a b c xs ys limit (Ok _) is before piece within = elim is [ ]
piece_lost a b c xs ys limit (Err (TooLong _)) is before piece within = cc
piece_lost a b c xs ys limit (Err Failed) is before piece within = cc
piece_lost a b c xs ys limit (Err Memory) is before piece within =
    (xs ++ ys, Consumes-trans a b c xs ys before piece, rw length-append within)

-- a piece that was read comes after the bytes before it
pub piece_taken : (a b c : Option (List ℕ)) (xs ys bytes : List ℕ) → Consumes a b xs → Consumes b c ys → bytes ≡ xs ++ ys → Consumes a c bytes
piece_taken a b c xs ys bytes before piece is = rw is (Consumes-trans a b c xs ys before piece)

-- a piece that a read put into the room below the limit ends below the limit
pub piece_within : (held limit count room : ℕ) (into chunk : List ℕ) → held ≤ limit → count ≤ length into
    → length into ≡ length (take room chunk) → room ≤ limit + 1 - held → held + length (take count into) ≤ limit + 1
piece_within held limit count room into chunk below taken same fits = grind (arith, common_steps)
