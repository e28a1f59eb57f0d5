-- An input that is to be a certificate must get one answer: its head is one, and a source has one tree, one tree of
-- operations, or one refusal.
use Rattle.std.proofs.Common.{◌≡◌, ◌∙◌, ◌≤◌, ◌<◌, ℕ, List, length, None, Ok, Err, ap, sym, subst, arith, inl, inr}
use Rattle.std.proofs.lemmas.Option.{same_Some, none-some}
use Rattle.lra_base.specs.{declared.refusals.Cause.Cause, declared.refusals.Place.Place}
use Rattle.lra_commands.specs.Crates.lra_resolution_spec.EntryPoint.{at_main}
use Rattle.lra_commands.specs.Crates.lra_certificate_spec.Claims.{IsProgram, program_of, VerifyAnswer, verified, source_refused, paths_refused, line_refused, VerifiesTo, HasHead, greatest_certificate}
use Rattle.lra_commands.specs.Crates.lra_certificate_spec.Judged.{Judged, Head, too_long, bad_line, judged, head_of}
use Rattle.lra_commands.specs.Crates.{lra_paths.Paths.AreFewPaths, lra_paths.Paths.HasTooManyPaths, lra_program.Sites.sites_of, lra_resolution_spec.Refuse.Refuse, lra_syntax.Grammar.Spells}
use Rattle.lra_commands.proofs.Crates.lra_certificate_spec.OneProgram.{accepted_of, as_said}
use Rattle.lra_commands.proofs.Crates.{lra_certificate_spec.JudgedBothWays.judged_exactly, lra_front_end.EachAnswer.each_answer, lra_paths.ManyPaths.not_both}
use Rattle.lra_certify_source.proofs.OneRefusal.{one_source}

-- answers ------------------------------------------------------------------------

abbrev answer_of : Judged (ℕ × ℕ) → VerifyAnswer
answer_of (Ok r) = verified r.0 r.1
answer_of (Err r) = line_refused r

-- of an input with this head: its source is refused, or more paths than are accepted lead from one of its points, or
-- its lines are judged
data Below (h : Head) (a : VerifyAnswer) : Type 0 where
  refuses : (cause : Cause) (place : Place) → Refuse at_main Spells h.source cause place → a ≡ source_refused cause place → Below h a
  many : (x : IsProgram h.source) (p : ℕ) → HasTooManyPaths (program_of x) x.operations p → a ≡ paths_refused p → Below h a
  judges : (x : IsProgram h.source) → AreFewPaths (program_of x) x.operations → a ≡ answer_of (judged (program_of x) x.operations h.rest) → Below h a

one_below : (h : Head) (a b : VerifyAnswer) → Below h a → Below h b → a ≡ b
one_below h a b (refuses c p r e) (refuses d q s f) =
    let (causes, places) = (each_answer at_main h.source).1 c d p q r s in e ∙ (λ i. source_refused (causes i) (places i)) ∙ sym f
one_below h a b (refuses c p r e) (many x q s f) = absurd ((each_answer at_main h.source).2 x.tree c p (accepted_of h.source x) r)
one_below h a b (refuses c p r e) (judges x s f) = absurd ((each_answer at_main h.source).2 x.tree c p (accepted_of h.source x) r)
one_below h a b (many x p r e) (refuses d q s f) = absurd ((each_answer at_main h.source).2 x.tree d q (accepted_of h.source x) s)
one_below h a b (many x p r e) (many y q s f) =
    let both = one_source (program_of x) x.operations p q r (as_said (λ P g. HasTooManyPaths P g q) h.source x y s) in e ∙ ap paths_refused both ∙ sym f
one_below h a b (many x p r e) (judges y s f) =
    absurd (not_both (program_of x).globals (sites_of (program_of x)) x.operations p (as_said (λ P g. AreFewPaths P g) h.source x y s) r)
one_below h a b (judges x r e) (refuses d q s f) = absurd ((each_answer at_main h.source).2 x.tree d q (accepted_of h.source x) s)
one_below h a b (judges x r e) (many y q s f) =
    absurd (not_both (program_of x).globals (sites_of (program_of x)) x.operations q r (as_said (λ P g. HasTooManyPaths P g q) h.source x y s))
one_below h a b (judges x r e) (judges y s f) =
    as_said (λ P g. a ≡ answer_of (judged P g h.rest)) h.source y x e ∙ sym f

-- the input is too long, or has no head, or has one
data Staged (bytes : List ℕ) (a : VerifyAnswer) : Type 0 where
  long : greatest_certificate < length bytes → a ≡ line_refused (record { line = 0; fault = too_long }) → Staged bytes a
  headless : length bytes ≤ greatest_certificate → head_of bytes ≡ None → a ≡ line_refused (record { line = 0; fault = bad_line }) → Staged bytes a
  headed_by : (h : Head) → HasHead bytes h → Below h a → Staged bytes a

staged : (bytes : List ℕ) (a : VerifyAnswer) → VerifiesTo bytes a → Staged bytes a
staged bytes (verified points proved) d =
    let (h, x, j) = (judged_exactly bytes points proved).1 d in headed_by h (j.short, j.head) (judges x j.few (sym (ap answer_of j.taken)))
staged bytes (source_refused cause place) (h, head, why) = headed_by h head (refuses cause place why (λ i. source_refused cause place))
staged bytes (paths_refused p) (h, head, x, m) = headed_by h head (many x p m (λ i. paths_refused p))
staged bytes (line_refused r) (inl (beyond, is)) = long beyond (ap line_refused is)
staged bytes (line_refused r) (inr (inl (short, none, is))) = headless short none (ap line_refused is)
staged bytes (line_refused r) (inr (inr (h, head, x, few, is))) = headed_by h head (judges x few (sym (ap answer_of is)))

pub not_past : (bytes : List ℕ) → greatest_certificate < length bytes → length bytes ≤ greatest_certificate → ⊥
not_past bytes beyond within = omega (arith, beyond, within)

one_staged : (bytes : List ℕ) (a b : VerifyAnswer) → Staged bytes a → Staged bytes b → a ≡ b
one_staged bytes a b (long l e) (long m f) = e ∙ sym f
one_staged bytes a b (long l e) (headless m n f) = absurd (not_past bytes l m)
one_staged bytes a b (long l e) (headed_by h m f) = absurd (not_past bytes l m.0)
one_staged bytes a b (headless l n e) (long m f) = absurd (not_past bytes m l)
one_staged bytes a b (headless l n e) (headless m o f) = e ∙ sym f
one_staged bytes a b (headless l n e) (headed_by h m f) = absurd (none-some h (sym n ∙ m.1))
one_staged bytes a b (headed_by h l e) (long m f) = absurd (not_past bytes m l.0)
one_staged bytes a b (headed_by h l e) (headless m n f) = absurd (none-some h (sym n ∙ l.1))
one_staged bytes a b (headed_by h l e) (headed_by k m f) =
    one_below k a b (subst (λ x. Below x a) (same_Some h k (sym l.1 ∙ m.1)) e) f

pub one_verified : (bytes : List ℕ) (a b : VerifyAnswer) → VerifiesTo bytes a → VerifiesTo bytes b → a ≡ b
one_verified bytes a b d e = one_staged bytes a b (staged bytes a d) (staged bytes b e)
