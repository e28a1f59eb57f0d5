-- From what is read of an input to what that says of it.
use Rattle.std.proofs.Common.{◌≡◌, ◌∙◌, ◌<◌, ◌+◌, ◌^◌, ℕ, List, [], ◌++◌, length, refl, sym, arith, append-nil, subst, inl, inr}
use Rattle.std.specs.{Io.KnownBytes.Consumes, Io.KnownBytes.IsAtEnd, Prelude.Option, Prelude.Some, Prelude.None, Prelude.Result, Prelude.Ok, Prelude.Err, Prelude.IfOk}
use Rattle.lra_io.specs.ReadErrors.{LosesPrefix, IsWhole, IsPastLimit}
use Rattle.lra_command_line.specs.declared.commands.Command.{Command}
use Rattle.lra_commands.specs.{Commands.limit_of, Prepared.IsTaken, Prepared.IsReadBy, Run.IsInput, Run.IsRead, Run.TakesBytes, declared.top_call.NoAnswer.NoAnswer}
use Rattle.lra_commands.proofs.Rows.{answering}

-- within a limit --------------------------------------------------------------------

takes_whole : (old new : Option (List ℕ)) (limit : ℕ) (bytes : List ℕ) → IsWhole old new limit bytes → TakesBytes limit old new bytes
takes_whole old new limit bytes w = let few = w.within in record { taken = w.taken; whole = inl w.at_end; within = omega arith }

takes_past : (old new : Option (List ℕ)) (limit : ℕ) (bytes : List ℕ) → IsPastLimit old new limit bytes → TakesBytes limit old new bytes
takes_past old new limit bytes p = let many = p.past in record { taken = p.taken; whole = inr p.past; within = omega arith }

pub taken_whole : (old new : Option (List ℕ)) (limit : ℕ) (bytes : List ℕ) → IsWhole old new limit bytes → IsTaken (Some limit) old new bytes
taken_whole old new limit bytes w = takes_whole old new limit bytes w

pub taken_past : (old new : Option (List ℕ)) (limit : ℕ) (bytes : List ℕ) → IsPastLimit old new limit bytes → IsTaken (Some limit) old new bytes
taken_past old new limit bytes p = takes_past old new limit bytes p

reads_taken : {T : Type 0} (old new : Option (List ℕ)) (limit : ℕ) (bytes : List ℕ) (r : Result T NoAnswer) → TakesBytes limit old new bytes → IsReadBy (Some limit) old new r
reads_taken old new limit bytes r t = ((bytes, t.taken, t.within), λ done. (bytes, t))

pub reads_whole : {T : Type 0} (old new : Option (List ℕ)) (limit : ℕ) (bytes : List ℕ) (r : Result T NoAnswer) → IsWhole old new limit bytes → IsReadBy (Some limit) old new r
reads_whole old new limit bytes r w = reads_taken old new limit bytes r (takes_whole old new limit bytes w)

pub reads_past : {T : Type 0} (old new : Option (List ℕ)) (limit : ℕ) (bytes : List ℕ) (r : Result T NoAnswer) → IsPastLimit old new limit bytes → IsReadBy (Some limit) old new r
reads_past old new limit bytes r p = reads_taken old new limit bytes r (takes_past old new limit bytes p)

pub reads_front : (T : Type 0) (old new : Option (List ℕ)) (limit : ℕ) (e : NoAnswer) → LosesPrefix old new limit → let r : Result T NoAnswer = Err e in IsReadBy (Some limit) old new r
reads_front T old new limit e front = (front, λ done. absurd (let wrong : ⊥ = cc in wrong))

pub few_whole : (old new : Option (List ℕ)) (limit : ℕ) (bytes : List ℕ) → IsWhole old new limit bytes → limit + 2 < 2 ^ 32 → length bytes + 1 < 2 ^ 32
few_whole old new limit bytes w fits = let few = w.within in omega arith

pub few_past : (old new : Option (List ℕ)) (limit : ℕ) (bytes : List ℕ) → IsPastLimit old new limit bytes → limit + 2 < 2 ^ 32 → length bytes + 1 < 2 ^ 32
few_past old new limit bytes p fits = let many = p.past in omega arith

pub ruleset reading = (taken_whole, taken_past, reads_whole, reads_past, reads_front, few_whole, few_past)

-- by a command's limit ----------------------------------------------------------------

pub found_limit : (c : Command) (found : Option ℕ) (limit : ℕ) → found ≡ limit_of c → found ≡ Some limit → limit + 2 < 2 ^ 32
found_limit c found limit is same = (answering c).small limit (sym is ∙ same)

-- what a limit says, if it is the command's
pub of_limit : (P : Option ℕ → Type 0) (c : Command) (found limit : Option ℕ) → found ≡ limit_of c → found ≡ limit → P limit → P (limit_of c)
of_limit P c found limit is same p = subst P is (subst P (sym same) p)

pub of_limit_ok : {T E : Type 0} (P : Option ℕ → T → Type 0) (c : Command) (found limit : Option ℕ) (r : Result T E) → found ≡ limit_of c → found ≡ limit → IfOk r (P limit) → IfOk r (P (limit_of c))
of_limit_ok P c found limit (Ok t) is same p = subst (λ l. P l t) is (subst (λ l. P l t) (sym same) p)
of_limit_ok P c found limit (Err e) is same p = tt

-- nothing is read without one
pub unread : {F D : Type 0} (limit : Option ℕ) (left : Option (List ℕ)) → (F → ⊥) → (D → ⊥) → IsRead limit left left F D
unread None left not_failed not_done = (refl, not_failed)
unread (Some n) None not_failed not_done = (([], tt, omega arith), λ done. absurd (not_done done))
unread (Some n) (Some bytes) not_failed not_done = (([], refl, omega arith), λ done. absurd (not_done done))

-- what is read doesn't depend on how it is reported
pub read_as : {F G D E : Type 0} (limit : Option ℕ) (old new : Option (List ℕ)) → (G → F) → (E → D) → IsRead limit old new F D → IsRead limit old new G E
read_as None old new failed done r = (r.0, λ g. r.1 (failed g))
read_as (Some n) old new failed done r = (r.0, λ e. r.1 (done e))

-- the input ---------------------------------------------------------------------------

-- bytes that are read to the end are the whole input
pub whole_input : (old new : Option (List ℕ)) (bytes : List ℕ) → Consumes old new bytes → IsAtEnd new → IsInput old bytes
whole_input None new bytes taken end = tt
whole_input (Some left) None bytes taken end = absurd taken
whole_input (Some left) (Some rest) bytes taken end = rw taken (rw end (append-nil bytes))

-- an input that begins with bytes that were read
pub begun_input : (old new : Option (List ℕ)) (bytes : List ℕ) → Consumes old new bytes → (rest : List ℕ) × IsInput old (bytes ++ rest)
begun_input None new bytes taken = ([], tt)
begun_input (Some left) None bytes taken = absurd taken
begun_input (Some left) (Some rest) bytes taken = (rest, taken)

pub some_input : (left : Option (List ℕ)) → (bytes : List ℕ) × IsInput left bytes
some_input None = ([], tt)
some_input (Some left) = (left, refl)
