-- Languages of tokens. A piece is a token with the level of nesting that it opens, or 0.
use Rattle.std.specs.Prelude.{◌≡◌, ℕ, ◌⊎◌, List, [], ◌∷◌, ◌++◌, map}
use Rattle.lra_base.specs.{declared.number_types.NumberType.NumberType, declared.refusals.Place.Place}
use Rattle.lra_syntax.specs.declared.tokens.Kind.TheVariants.{Name, Number, Mark as MarkOf, End}
use Rattle.lra_syntax.specs.{declared.tokens.Mark.Mark, declared.tokens.Mark.TheVariants.Comma}
use Rattle.lra_syntax.specs.{declared.tokens.Token.Token, declared.trees.Identifier.Identifier}

abbrev pub Piece : Type 0
Piece = Token × ℕ

abbrev pub Pieces : Type 0
Pieces = List Piece

-- the tokens alone
abbrev pub plain : Pieces → List Token
plain pieces = map (λ (p : Piece). p.0) pieces

-- a set of texts
abbrev pub Texts : Type 1
Texts = Pieces → Type 0

-- the one after the other
infixr 6 ◌⋅◌
abbrev pub ◌⋅◌ : Texts → Texts → Texts
(R ⋅ Q) z = (x : Pieces) × (y : Pieces) × (z ≡ x ++ y) × R x × Q y

-- the one or the other
infixr 5 ◌∣◌
abbrev pub ◌∣◌ : Texts → Texts → Texts
(R ∣ Q) z = R z ⊎ Q z

abbrev pub empty : Texts
empty z = z ≡ []

-- a token of which no part of the tree knows the place, and which opens the level o
abbrev pub opens : Mark → ℕ → Texts
opens m o z = (at : Place) × (z ≡ (record { kind = MarkOf m; place = at }, o) ∷ [])

-- a token of which no part of the tree knows the place, and which opens no level
abbrev pub mark : Mark → Texts
mark m z = opens m 0 z

-- a token at a place of the tree
abbrev pub opens_at : Mark → Place → ℕ → Texts
opens_at m at o z = z ≡ (record { kind = MarkOf m; place = at }, o) ∷ []

abbrev pub name : Identifier → ℕ → Texts
name x o z = z ≡ (record { kind = Name x.word; place = x.place }, o) ∷ []

-- a literal at a place of the tree
abbrev pub number_at : NumberType → ℕ → Place → Texts
number_at t n at z = z ≡ (record { kind = Number t n; place = at }, 0) ∷ []

abbrev pub literal_text : NumberType → ℕ → Texts
literal_text t n z = (at : Place) × number_at t n at z

abbrev pub end_at : Place → Texts
end_at at z = z ≡ (record { kind = End; place = at }, 0) ∷ []

-- each item's text, with commas between
abbrev pub further : {A : Type 0} → (A → Texts) → List A → Texts
further R [] = empty
further R (a ∷ rest) = mark Comma ⋅ R a ⋅ further R rest

abbrev pub separated : {A : Type 0} → (A → Texts) → List A → Texts
separated R [] = empty
separated R (a ∷ rest) = R a ⋅ further R rest
