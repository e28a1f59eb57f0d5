-- Sources that are written lexeme by lexeme: their tokens, and the pieces of their grammar.
use Rattle.std.proofs.Common.{◌≡◌, ℕ, zero, suc, ◌≤◌, Bool, true, false, ◌||◌, List, [], ◌∷◌, ◌++◌, refl, sym, ap, ◌∙◌, subst, append_assoc}
use Rattle.std.proofs.{lemmas.Bool.leb-true, lemmas.List.append-nil}
use Rattle.std.specs.Prelude.{⊤, nat_le, nat_eq}
use Rattle.lra_base.specs.{Places.place_after, declared.refusals.Cause.Cause, declared.refusals.Place.Place}
use Rattle.lra_syntax.specs.Tokens.{is_blank, blank, Fragment, gap, token, bytes_of, tokens_of, IsToken, IsReading, Lex, end_token, IsFaulty, IsTokenFault}
use Rattle.lra_syntax.specs.{Faults.IsLow, Faults.greatest_level, Lexeme.mark_text, Lexeme.Lexeme, Lexeme.SpellsToken, Lexeme.mark_word, Lexeme.mark_of, Texts.Pieces, Texts.plain}
use Rattle.lra_syntax.specs.{declared.tokens.Kind.Kind, declared.tokens.Kind.TheVariants.Mark as MarkOf, declared.tokens.Mark.Mark, declared.tokens.Token.Token}
use Rattle.lra_syntax.proofs.LongestByTest.{is_lexeme, begins_gap, opens_comment, ends_there, as_token}

-- a blank, or a token: its first byte and the others, its kind, the level that it opens
pub data ExternalDeclaration : Type 0 where
  skip : ℕ → ExternalDeclaration
  lexeme : ℕ → List ℕ → Kind → ℕ → ExternalDeclaration

abbrev pub written : List ExternalDeclaration → List ℕ
written [] = []
written (skip c ∷ xs) = c ∷ written xs
written (lexeme c cs k o ∷ xs) = (c ∷ cs) ++ written xs

-- what comes after them
abbrev pub behind : List ℕ → List ExternalDeclaration → List ℕ
behind before [] = before
behind before (skip c ∷ xs) = behind (before ++ c ∷ []) xs
behind before (lexeme c cs k o ∷ xs) = behind (before ++ c ∷ cs) xs

abbrev pub reading : List ℕ → List ExternalDeclaration → List Fragment
reading before [] = []
reading before (skip c ∷ xs) = gap (c ∷ []) ∷ reading (before ++ c ∷ []) xs
reading before (lexeme c cs k o ∷ xs) = token (c ∷ cs) (record { kind = k; place = place_after before }) ∷
    reading (before ++ c ∷ cs) xs

abbrev pub pieces : List ℕ → List ExternalDeclaration → Pieces
pieces before [] = []
pieces before (skip c ∷ xs) = pieces (before ++ c ∷ []) xs
pieces before (lexeme c cs k o ∷ xs) = (record { kind = k; place = place_after before }, o) ∷
    pieces (before ++ c ∷ cs) xs

-- the place of the item with this number, from 0
abbrev pub item_place : List ℕ → List ExternalDeclaration → ℕ → Place
item_place before [] n = place_after before
item_place before (skip c ∷ xs) zero = place_after before
item_place before (skip c ∷ xs) (suc n) = item_place (before ++ c ∷ []) xs n
item_place before (lexeme c cs k o ∷ xs) zero = place_after before
item_place before (lexeme c cs k o ∷ xs) (suc n) = item_place (before ++ c ∷ cs) xs n

-- if they are right ------------------------------------------------------------------------------------------------

-- a token's bytes
pub record IsGood (c : ℕ) (cs : List ℕ) (k : Kind) : Type 0 where
  pub lexeme : Lexeme (c ∷ cs)
  pub spells : SpellsToken (c ∷ cs) k
  pub gapless : begins_gap c ≡ false

-- nothing longer is a lexeme
abbrev pub Ends : List ℕ → List ℕ → Type 0
Ends s [] = ⊤
Ends s (c ∷ cs) = (u : List ℕ) → is_lexeme (s ++ c ∷ u) ≡ false

ends_by : (after s : List ℕ) (c : ℕ) → ((u : List ℕ) → is_lexeme (s ++ c ∷ u) ≡ false) → ends_there s (c ∷ after) ≡ true
ends_by [] s c none = rw (none []) refl
ends_by (d ∷ after) s c none =
    rw (none []) (ends_by after (s ++ c ∷ []) d (λ u. subst (λ z. is_lexeme z ≡ false)
    (sym (append_assoc s (c ∷ []) (d ∷ u))) (none (d ∷ u))))

ends : (s after : List ℕ) → Ends s after → ends_there s after ≡ true
ends s [] e = refl
ends s (c ∷ after) e = ends_by after s c e

-- they stand before such bytes, and open no level past the greatest
pub record IsRead (c : ℕ) (cs : List ℕ) (k : Kind) (o : ℕ) (after : List ℕ) : Type 0 where
  pub good : IsGood c cs k
  pub ends : ends_there (c ∷ cs) after ≡ true
  pub low : nat_le o greatest_level ≡ true

abbrev pub AreRead : List ExternalDeclaration → Type 0
AreRead [] = ⊤
AreRead (skip c ∷ xs) = (is_blank c ≡ true) × AreRead xs
AreRead (lexeme c cs k o ∷ xs) = IsRead c cs k o (written xs) × AreRead xs

-- the same in front of other bytes
abbrev pub AreReadBefore : List ℕ → List ExternalDeclaration → Type 0
AreReadBefore rest [] = ⊤
AreReadBefore rest (skip c ∷ xs) = (is_blank c ≡ true) × AreReadBefore rest xs
AreReadBefore rest (lexeme c cs k o ∷ xs) = IsRead c cs k o (written xs ++ rest) × AreReadBefore rest xs

-- one item and the others
infixr 4 ◌⨾◌
pub ◌⨾◌ : {A B : Type 0} → A → B → A × B
a ⨾ b = (a, b)

pub as_read : {c : ℕ} {cs : List ℕ} {k : Kind} {o : ℕ} {after : List ℕ} → IsGood c cs k → Ends (c ∷ cs) after →
    nat_le o greatest_level ≡ true → IsRead c cs k o after
as_read {c} {cs} {after = after} good above low = record { good = good; ends = ends (c ∷ cs) after above; low = low }

pub is_mark : (m : Mark) {c : ℕ} {cs : List ℕ} {o : ℕ} {after : List ℕ} → c ∷ cs ≡ mark_text m → begins_gap c ≡ false →
    nat_le o greatest_level ≡ true → Ends (c ∷ cs) after →
    IsRead c cs (MarkOf m) o after
is_mark m {c} {cs} {after = after} e g low above = record {
  good = record { lexeme = mark_word m e; spells = mark_of m e; gapless = g };
  ends = ends (c ∷ cs) after above;
  low = low;
}

-- one after the other ----------------------------------------------------------------------------------------------

pub written_append : (xs ys : List ExternalDeclaration) → written (xs ++ ys) ≡ written xs ++ written ys
written_append [] ys = refl
written_append (skip c ∷ xs) ys = ap (λ t. c ∷ t) (written_append xs ys)
written_append (lexeme c cs k o ∷ xs) ys = ap (λ t. (c ∷ cs) ++ t) (written_append xs ys) ∙
    sym (append_assoc (c ∷ cs) (written xs) (written ys))

pub pieces_append : (before : List ℕ) (xs ys : List ExternalDeclaration) →
    pieces before (xs ++ ys) ≡ pieces before xs ++ pieces (behind before xs) ys
pieces_append before [] ys = refl
pieces_append before (skip c ∷ xs) ys = pieces_append (before ++ c ∷ []) xs ys
pieces_append before (lexeme c cs k o ∷ xs) ys = ap (λ t. (record { kind = k; place = place_after before }, o) ∷ t)
    (pieces_append (before ++ c ∷ cs) xs ys)

-- tokens -------------------------------------------------------------------------------------------------------------

bytes_read : (before : List ℕ) (xs : List ExternalDeclaration) → bytes_of (reading before xs) ≡ written xs
bytes_read before [] = refl
bytes_read before (skip c ∷ xs) = ap (λ t. c ∷ t) (bytes_read (before ++ c ∷ []) xs)
bytes_read before (lexeme c cs k o ∷ xs) = ap (λ t. (c ∷ cs) ++ t) (bytes_read (before ++ c ∷ cs) xs)

second_of : (a b c : Bool) → (a || b || c) ≡ false → b ≡ false
second_of true b c e = cc
second_of false true c e = cc
second_of false false c e = refl

no_comment : (c : ℕ) (rest : List ℕ) → begins_gap c ≡ false → opens_comment (c ∷ rest) ≡ false
no_comment c [] e = refl
no_comment c (d ∷ rest) e = rw (second_of (is_blank c) (nat_eq c 47) (nat_eq c 35) e) refl

token_read : (before : List ℕ) (c : ℕ) (cs after : List ℕ) (k : Kind) (o : ℕ) → IsRead c cs k o after →
    IsToken before (c ∷ cs) ((c ∷ cs) ++ after) (record { kind = k; place = place_after before })
token_read before c cs after k o r =
    as_token before (c ∷ cs) after k r.good.lexeme r.good.spells r.good.gapless
    (no_comment c (cs ++ after) r.good.gapless) r.ends

read_before : (rest before : List ℕ) (xs : List ExternalDeclaration) → AreReadBefore rest xs → IsReading before (reading before xs) rest
read_before rest before [] g = tt
read_before rest before (skip c ∷ xs) g = (blank c refl g.0, read_before rest (before ++ c ∷ []) xs g.1)
read_before rest before (lexeme c cs k o ∷ xs) g = (
  subst (λ z. IsToken before (c ∷ cs) ((c ∷ cs) ++ (z ++ rest)) (record { kind = k; place = place_after before }))
      (sym (bytes_read (before ++ c ∷ cs) xs))
      (token_read before c cs (written xs ++ rest) k o g.0),
  read_before rest (before ++ c ∷ cs) xs g.1,
)

before_none : (xs : List ExternalDeclaration) → AreRead xs → AreReadBefore [] xs
before_none [] g = tt
before_none (skip c ∷ xs) g = (g.0, before_none xs g.1)
before_none (lexeme c cs k o ∷ xs) g = (subst (IsRead c cs k o) (sym (append-nil (written xs))) g.0, before_none xs g.1)

pub all_lexed : (source : List ℕ) (xs : List ExternalDeclaration) → source ≡ written xs → AreReadBefore [] xs →
    Lex source (tokens_of (reading [] xs) ++ end_token source ∷ [])
all_lexed source xs e g = (reading [] xs, e ∙ sym (bytes_read [] xs), read_before [] [] xs g, refl)

pub lexed : (source : List ℕ) (xs : List ExternalDeclaration) → source ≡ written xs → AreRead xs →
    Lex source (tokens_of (reading [] xs) ++ end_token source ∷ [])
lexed source xs e g = all_lexed source xs e (before_none xs g)

-- up to a fault
pub faulty : (source rest : List ℕ) (xs : List ExternalDeclaration) (c : Cause) → source ≡ written xs ++ rest →
    AreReadBefore rest xs → IsFaulty c (bytes_of (reading [] xs)) rest →
    IsTokenFault source c (place_after (bytes_of (reading [] xs)))
faulty source rest xs c e g fault = (
  reading [] xs,
  rest,
  e ∙ ap (λ z. z ++ rest) (sym (bytes_read [] xs)),
  read_before rest [] xs g,
  fault,
  refl,
)

pub plain_pieces : (before : List ℕ) (xs : List ExternalDeclaration) (t : Token) →
    plain (pieces before xs ++ (t, 0) ∷ []) ≡ tokens_of (reading before xs) ++ t ∷ []
plain_pieces before [] t = refl
plain_pieces before (skip c ∷ xs) t = plain_pieces (before ++ c ∷ []) xs t
plain_pieces before (lexeme c cs k o ∷ xs) t = ap (λ ts. record { kind = k; place = place_after before } ∷ ts)
    (plain_pieces (before ++ c ∷ cs) xs t)

level_by : (o : ℕ) → nat_le o greatest_level ≡ true → o ≤ greatest_level
level_by o e = leb-true o greatest_level e

pub low_pieces : (before : List ℕ) (xs : List ExternalDeclaration) (t : Token) → AreRead xs → IsLow (pieces before xs ++ (t, 0) ∷ [])
low_pieces before [] t g = (level_by 0 refl, tt)
low_pieces before (skip c ∷ xs) t g = low_pieces (before ++ c ∷ []) xs t g.1
low_pieces before (lexeme c cs k o ∷ xs) t g = (level_by o g.0.low, low_pieces (before ++ c ∷ cs) xs t g.1)
