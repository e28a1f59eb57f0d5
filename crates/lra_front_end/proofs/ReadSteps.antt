-- What the stages of the reading answer, as answers of the source.
use Rattle.std.proofs.Common.{◌≡◌, ◌≤◌, ◌<◌, ℕ, ℤ, List, length, take, sym, ap, ◌∙◌, subst, Result}
use Rattle.std.specs.Result.{IsErrAnd}
use Rattle.lra_base.specs.{Places.place_after, Places.greatest_length, Refused.IfRefusal, Refused.IfRefused, declared.error.SourceError.SourceError, declared.refusals.Cause.Cause}
use Rattle.lra_base.specs.{declared.refusals.Cause.TheVariants.TooLong, declared.refusals.Place.Place}
use Rattle.lra_front_end.specs.Crates.lra_resolution_spec.EntryPoint.{EntryPoint}
use Rattle.lra_front_end.specs.Crates.lra_resolution_spec.Refuse.{RefusesTree, NotParsed, too_long, bad_token, bad_text, Refuse, not_parsed, bad_tree}
use Rattle.lra_front_end.specs.Crates.lra_syntax.Tokens.{Lex, IsTokenFault, OneReading}
use Rattle.lra_front_end.specs.Crates.{lra_syntax.Constants.constants_of}
use Rattle.lra_front_end.specs.Crates.{lra_syntax.Faults.IsTree, lra_syntax.Faults.IsTextFault, lra_syntax.Grammar.Spells, lra_syntax.Trees.FileTree, lra_syntax.declared.tokens.Token.Token}
use Rattle.lra_base.proofs.{Limit.limit_is, Refusing.refusal_by, Refusing.exit_refused}
use Rattle.lra_front_end.specs.Stages.{HasConstants, HasTree, OneConstants}

within : (source : List ℕ) → length source ≤ 65536 → length source ≤ greatest_length
within source l = rw limit_is l

-- a source that is too long
pub long_unread : (source : List ℕ) (n : ℕ) → n ≡ 65536 → n < length source → NotParsed Spells source TooLong (place_after (take n source))
long_unread source n is long =
    let e : greatest_length ≡ n = limit_is ∙ sym is in
    let past : greatest_length < length source = rw e long in
    subst (λ (k : ℕ). NotParsed Spells source TooLong (place_after (take k source))) e (too_long past)

-- a source whose tokens have a fault
tokens_unread : (source : List ℕ) (c : Cause) (at : Place) → length source ≤ 65536 → IsTokenFault source c at → NotParsed Spells source c at
tokens_unread source c at l fault = bad_token c at (within source l) fault

-- one whose text has a fault
text_unread : (source : List ℕ) (tokens : List Token) (c : Cause) (at : Place) → length source ≤ 65536 → Lex source tokens → IsTextFault Spells tokens c at
    → NotParsed Spells source c at
text_unread source tokens c at l lexed fault = bad_text tokens c at (within source l) lexed fault

-- one that has a tree
pub has_tree : (source : List ℕ) (tokens : List Token) (t : FileTree) → length source ≤ 65536 → Lex source tokens → IsTree Spells tokens t → HasTree source t
has_tree source tokens t l lexed parsed = record { tokens = tokens; not_long = within source l; lexed = lexed; parsed = parsed }

-- its constants
pub has_constants : (source : List ℕ) (tokens given : List Token) (constants : List ℤ) → Lex source tokens → given ≡ tokens → constants ≡ constants_of given
    → HasConstants source constants
has_constants source tokens given constants lexed same are = record { tokens = tokens; lexed = lexed; are = are ∙ ap constants_of same }

pub one_list : OneReading → OneConstants
one_list reading source one two a b =
    let same : a.tokens ≡ b.tokens = (reading source).0 a.tokens b.tokens a.lexed b.lexed in
    a.are ∙ ap constants_of same ∙ sym b.are

-- exits by the errors of the two stages
pub exit_lexed : {X : Type 0} (source : List ℕ) (x : Result X SourceError) (e : SourceError) → length source ≤ 65536 → IsErrAnd x (λ y. y ≡ e)
    → IfRefusal (λ r. IsTokenFault source r.cause r.place) e → IfRefused x (λ r. NotParsed Spells source r.cause r.place)
exit_lexed source x e l is fault =
    exit_refused (λ r. NotParsed Spells source r.cause r.place) x e is
    (refusal_by (λ r. IsTokenFault source r.cause r.place) _ (λ r. tokens_unread source r.cause r.place l) e fault)

pub exit_parsed : {X : Type 0} (source : List ℕ) (tokens given : List Token) (x : Result X SourceError) (e : SourceError) → length source ≤ 65536 → Lex source tokens
    → given ≡ tokens → IsErrAnd x (λ y. y ≡ e) → IfRefusal (λ r. IsTextFault Spells given r.cause r.place) e
    → IfRefused x (λ r. NotParsed Spells source r.cause r.place)
exit_parsed source tokens given x e l lexed same is fault =
    let there : IfRefusal (λ r. IsTextFault Spells tokens r.cause r.place) e = subst (λ (T : List Token). IfRefusal (λ r. IsTextFault Spells T r.cause r.place) e) same fault in
    exit_refused (λ r. NotParsed Spells source r.cause r.place) x e is
    (refusal_by (λ r. IsTextFault Spells tokens r.cause r.place) _ (λ r. text_unread source tokens r.cause r.place l lexed) e there)

-- by an error of the reading, and by those of the stages after it
module _ (entry : EntryPoint) {X : Type 0} (source : List ℕ) where
  pub exit_unread : (x : Result X SourceError) (e : SourceError) → IsErrAnd x (λ y. y ≡ e) → IfRefusal (λ r. NotParsed Spells source r.cause r.place) e
      → IfRefused x (λ r. Refuse entry Spells source r.cause r.place)
  exit_unread x e is fault =
      exit_refused (λ r. Refuse entry Spells source r.cause r.place) x e is
      (refusal_by (λ r. NotParsed Spells source r.cause r.place) _ (λ r. not_parsed r.cause r.place) e fault)

  pub exit_tree : (t : FileTree) (x : Result X SourceError) (e : SourceError) → HasTree source t → IsErrAnd x (λ y. y ≡ e)
      → IfRefusal (λ r. RefusesTree entry t r.cause r.place) e → IfRefused x (λ r. Refuse entry Spells source r.cause r.place)
  exit_tree t x e has is fault =
      exit_refused (λ r. Refuse entry Spells source r.cause r.place) x e is
      (refusal_by (λ r. RefusesTree entry t r.cause r.place) _ (λ r. bad_tree has.tokens t r.cause r.place has.not_long has.lexed has.parsed) e fault)
