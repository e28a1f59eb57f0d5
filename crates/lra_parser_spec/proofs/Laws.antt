-- What an exact reader says of its language: one tree, and one first fault.
use Rattle.std.proofs.Common.{◌≡◌, ℕ, suc, ◌+◌, ◌≤◌, ◌<◌, [], ◌∷◌, ◌++◌, length, ◌⊎◌, inl, inr, Ok, Err, refl, sym, ap, subst, ◌∙◌, append_assoc, length-append, arith}
use Rattle.std.proofs.{lemmas.Bool.cases_lt, lemmas.List.append-nil}
use Rattle.lra_base.specs.{declared.refusals.Cause.Cause, declared.refusals.Cause.TheVariants.Syntax, declared.refusals.Cause.TheVariants.TooDeep}
use Rattle.lra_syntax.specs.Faults.{greatest_level, IsLow, IsTree, CanBegin, CanBeginLow, IsAtFault, OneTree, OneTextFault}
use Rattle.lra_syntax.specs.{Grammar.Spells, Texts.Piece, Texts.Pieces, Texts.plain, Trees.FileTree, declared.tokens.Token.Token}
use Rattle.lra_parser_spec.specs.{Files.file_at, Reading.Text, Reading.Read, Reading.stop}
use Rattle.lra_parser_spec.proofs.{Exact.Low, Exact.Exact, Exact.Any, Exact.Free, Exact.ok_is, Exact.plain-append, ExactFiles.AnyToken, ExactFiles.exact_file}

-- the greatest level of two texts, and one more
level_of : Pieces → ℕ
level_of [] = 0
level_of (p ∷ x) = p.1 + level_of x

low_level : (m : ℕ) (x : Pieces) → level_of x ≤ m → Low m x
unfolding level_of
low_level m [] h = tt
low_level m (p ∷ x) h = (omega arith, low_level m x (omega arith))

-- one tree ---------------------------------------------------------------------------------------------------------

pub spelled_one : OneTree Spells
spelled_one s t x y a b e =
    let m = level_of x + level_of y in
    let P = exact_file (m + 1) m (omega arith) in
    let lx : Low (m + 1) x = low_level (m + 1) x (omega arith) in
    let ly : Low (m + 1) y = low_level (m + 1) y (omega arith) in
    let rx : file_at m (plain x ++ []) ≡ Ok (s, []) = P.again x s [] a lx tt tt in
    let ry : file_at m (plain y ++ []) ≡ Ok (t, []) = P.again y t [] b ly tt tt in
    let q : (s, []) ≡ (t, []) = ok_is (s, []) (t, []) (sym rx ∙ ap (λ (T : Text). file_at m (T ++ [])) e ∙ ry) in
    (ap (λ (r : FileTree × Text). r.0) q, P.one x y s t [] a b lx ly tt tt tt e)

-- the first fault --------------------------------------------------------------------------------------------------

abbrev Deep : Pieces → Type 0
Deep x = (u : Pieces) × (t : Piece) × (w : Pieces) × (x ≡ u ++ t ∷ w) × Low 64 u × (64 < t.1)

low_or_deep : (x : Pieces) → Low 64 x ⊎ Deep x
low_or_deep [] = inl tt
low_or_deep (t ∷ x) = elim (cases_lt 64 t.1) [
  | inl lt ↦ inr ([], t, x, refl, tt, lt)
  | inr le ↦ elim (low_or_deep x) [
    | inl low ↦ inl (le, low)
    | inr d ↦ inr (t ∷ d.0, d.1, d.2, ap (λ (k : Pieces). t ∷ k) d.3, (le, d.4), d.5)
  ]
]

abbrev pub the_file : Exact 64 AnyToken (file_at 63) Any Spells Spells Free
the_file = exact_file 64 63 refl

-- a whole text is read, or stops as too deep
pub read_whole : (t : FileTree) (x : Pieces) → Spells t x → (file_at 63 (plain x) ≡ Ok (t, [])) ⊎ ((T : Text) × (file_at 63 (plain x) ≡ stop TooDeep T))
read_whole t x s = elim (low_or_deep x) [
  | inl low ↦ inl (subst (λ (T : Text). file_at 63 T ≡ Ok (t, [])) (append-nil (plain x)) (the_file.again x t [] s low tt tt))
  | inr d ↦ inr (
    d.1.0 ∷ plain d.2,
    subst (λ (T : Text). file_at 63 T ≡ stop TooDeep (d.1.0 ∷ plain d.2)) (sym (ap plain d.3 ∙ plain-append d.0 (d.1 ∷ d.2)))
        (the_file.deep d.0 d.1 d.2 t (plain d.2) (subst (Spells t) d.3 s) d.4 d.5 tt),
  )
]

-- where two texts part
abbrev Parted : Text → Text → Token → Token → Type 0
Parted F G t u = ((F ≡ G) × (t ≡ u)) ⊎ (((w : Text) × (F ≡ G ++ u ∷ w)) ⊎ ((w : Text) × (G ≡ F ++ t ∷ w)))

parted : (F G : Text) (t u : Token) (R S : Text) → F ++ t ∷ R ≡ G ++ u ∷ S → Parted F G t u
parted [] [] t u R S e = inl (refl, cc)
parted [] (v ∷ G) t u R S e = inr (inr (G, cc))
parted (v ∷ F) [] t u R S e = inr (inl (F, cc))
parted (v ∷ F) (w ∷ G) t u R S e =
    let head : v ≡ w = cc in
    elim (parted F G t u R S cc) [
      | inl s ↦ inl ((let f = s.0 in cc), s.1)
      | inr (inl s) ↦ inr (inl (s.0, (let f = s.1 in cc)))
      | inr (inr s) ↦ inr (inr (s.0, (let f = s.1 in cc)))
    ]

-- pieces of two texts, one after the other
cut : (x : Pieces) (F G : Text) → plain x ≡ F ++ G → (u : Pieces) × (v : Pieces) × (x ≡ u ++ v) × (plain u ≡ F) × (plain v ≡ G)
cut x [] G e = ([], x, refl, refl, e)
cut [] (t ∷ F) G e = absurd cc
cut (p ∷ x) (t ∷ F) G e =
    let head : p.0 ≡ t = cc in
    let k = cut x F G cc in
    (p ∷ k.0, k.1, ap (λ (y : Pieces). p ∷ y) k.2, (let f = k.3 in cc), k.4)

begins_less : (F G : Text) → CanBegin Spells (F ++ G) → CanBegin Spells F
begins_less F G (t, x, y, s, e) = let k = cut x F G e in (t, k.0, k.1 ++ y, subst (Spells t) (ap (λ (z : Pieces). z ++ y) k.2 ∙ append_assoc k.0 k.1 y) s, k.3)

cause_of : {A : Type 0} → Read A → Cause
cause_of (Ok x) = Syntax
cause_of (Err f) = f.cause

left_of : {A : Type 0} → Read A → ℕ
left_of (Ok x) = 0
left_of (Err f) = f.left

same_left : (S T : Text) → (let r : Read FileTree = stop TooDeep S in r) ≡ stop TooDeep T → length S ≡ length T
unfolding left_of
same_left S T e = ap left_of e

-- a piece that is too deep comes after the low ones
behind_low : (x y u : Pieces) (t : Piece) (v : Pieces) → x ++ y ≡ u ++ t ∷ v → Low 64 x → 64 < t.1 → length x ≤ length u
behind_low [] y u t v e low past = omega arith
behind_low (p ∷ x) y [] t v e low past = let same : p ≡ t = cc in let h : p.1 ≤ 64 = low.0 in absurd (omega (arith, ap (λ (q : Piece). q.1) same))
behind_low (p ∷ x) y (q ∷ u) t v e low past = let f : x ++ y ≡ u ++ t ∷ v = cc in let k = behind_low x y u t v f low.1 past in omega arith

plain_length : (x : Pieces) → length (plain x) ≡ length x
plain_length [] = refl
plain_length (p ∷ x) = ap suc (plain_length x)

abbrev Past : Text → Token → Type 0
Past F u = (t : FileTree) × (x : Pieces) × (level : ℕ) × (y : Pieces) × Spells t (x ++ (u, level) ∷ y) × (plain x ≡ F) × IsLow x × (greatest_level < level)

-- reading stops at a token that is too deep, whatever comes after it
stops : (F : Text) (u : Token) (Y : Text) → Past F u → file_at 63 (F ++ u ∷ Y) ≡ stop TooDeep (u ∷ Y)
stops F u Y (t, x, level, y, s, e, low, past) = subst (λ (G : Text). file_at 63 (G ++ u ∷ Y) ≡ stop TooDeep (u ∷ Y)) e (the_file.deep x (u, level) y t Y s low past tt)

-- no text that is low so far goes over it
not_over : (F : Text) (u : Token) (w : Text) → Past F u → CanBeginLow Spells (F ++ u ∷ w) → ⊥
not_over F u w p (t, x, y, s, e, low) =
    let whole : plain (x ++ y) ≡ F ++ u ∷ (w ++ plain y) = plain-append x y ∙ ap (λ (T : Text). T ++ plain y) e ∙ append_assoc F (u ∷ w) (plain y) in
    let stop_here : file_at 63 (plain (x ++ y)) ≡ stop TooDeep (u ∷ (w ++ plain y)) = subst (λ (T : Text). file_at 63 T ≡ stop TooDeep (u ∷ (w ++ plain y))) (sym whole) (stops F u (w ++ plain y) p) in
    elim (low_or_deep (x ++ y)) [
      | inl l ↦
          let r : file_at 63 (plain (x ++ y)) ≡ Ok (t, []) = subst (λ (T : Text). file_at 63 T ≡ Ok (t, [])) (append-nil (plain (x ++ y))) (the_file.again (x ++ y) t [] s l tt tt) in
          let both : (let k : Read FileTree = Ok (t, []) in k) ≡ stop TooDeep (u ∷ (w ++ plain y)) = sym r ∙ stop_here in
          absurd cc
      | inr d ↦
          let r : file_at 63 (plain (x ++ y)) ≡ stop TooDeep (d.1.0 ∷ plain d.2) =
          subst (λ (T : Text). file_at 63 T ≡ stop TooDeep (d.1.0 ∷ plain d.2)) (sym (ap plain d.3 ∙ plain-append d.0 (d.1 ∷ d.2)))
          (the_file.deep d.0 d.1 d.2 t (plain d.2) (subst (Spells t) d.3 s) d.4 d.5 tt) in
          let same = same_left (d.1.0 ∷ plain d.2) (u ∷ (w ++ plain y)) (sym r ∙ stop_here) in
          let far = behind_low x y d.0 d.1 d.2 d.3 low d.5 in
          let sizes = ap length d.3 in
          absurd (omega (arith, length-append x y, length-append d.0 (d.1 ∷ d.2), length-append w (plain y), length-append F (u ∷ w), plain_length d.2, plain_length y, plain_length x, ap length e))
    ]

-- the text up to the token begins some text
past_begins : (F : Text) (u : Token) → Past F u → CanBegin Spells (F ++ u ∷ [])
past_begins F u (t, x, level, y, s, e, low, past) =
    (t, x ++ (u, level) ∷ [], y, subst (Spells t) (sym (append_assoc x ((u, level) ∷ []) y)) s, plain-append x ((u, level) ∷ []) ∙ ap (λ (T : Text). T ++ u ∷ []) e)

low_begins : (F : Text) → CanBeginLow Spells F → CanBegin Spells F
low_begins F (t, x, y, s, e, low) = (t, x, y, s, e)

longer : (F : Text) (t : Token) (w : Text) → CanBegin Spells (F ++ t ∷ w) → CanBegin Spells (F ++ t ∷ [])
longer F t w b = begins_less (F ++ t ∷ []) w (subst (CanBegin Spells) (sym (append_assoc F (t ∷ []) w)) b)

abbrev Same : Cause → Cause → Token → Token → Type 0
Same c d t u = (c ≡ d) × (t ≡ u)

syntax_syntax : (F G : Text) (t u : Token) → Parted F G t u → IsAtFault Spells Syntax F t → IsAtFault Spells Syntax G u → t ≡ u
syntax_syntax F G t u (inl s) a b = s.1
syntax_syntax F G t u (inr (inl s)) a b = absurd (b.1 (longer G u s.0 (subst (CanBegin Spells) s.1 (low_begins F a.0))))
syntax_syntax F G t u (inr (inr s)) a b = absurd (a.1 (longer F t s.0 (subst (CanBegin Spells) s.1 (low_begins G b.0))))

syntax_deep : (F G : Text) (t u : Token) → Parted F G t u → IsAtFault Spells Syntax F t → Past G u → ⊥
syntax_deep F G t u (inl s) a p = a.1 (subst (λ (v : Token). CanBegin Spells (F ++ v ∷ [])) (sym s.1) (subst (λ (H : Text). CanBegin Spells (H ++ u ∷ [])) (sym s.0) (past_begins G u p)))
syntax_deep F G t u (inr (inl s)) a p = not_over G u s.0 p (subst (CanBeginLow Spells) s.1 a.0)
syntax_deep F G t u (inr (inr s)) a p = a.1 (longer F t (s.0 ++ u ∷ []) (subst (CanBegin Spells) (ap (λ (H : Text). H ++ u ∷ []) s.1 ∙ append_assoc F (t ∷ s.0) (u ∷ [])) (past_begins G u p)))

deep_deep : (F G : Text) (t u : Token) → Parted F G t u → Past F t → Past G u → t ≡ u
deep_deep F G t u (inl s) p q = s.1
deep_deep F G t u (inr (inl s)) p q =
    let low : CanBeginLow Spells F = (p.0, p.1, (t, p.2) ∷ p.3, p.4, p.5, p.6) in
    absurd (not_over G u s.0 q (subst (CanBeginLow Spells) s.1 low))
deep_deep F G t u (inr (inr s)) p q =
    let low : CanBeginLow Spells G = (q.0, q.1, (u, q.2) ∷ q.3, q.4, q.5, q.6) in
    absurd (not_over F t s.0 p (subst (CanBeginLow Spells) s.1 low))

turned : (F G : Text) (t u : Token) → Parted F G t u → Parted G F u t
turned F G t u (inl s) = inl (sym s.0, sym s.1)
turned F G t u (inr (inl s)) = inr (inr s)
turned F G t u (inr (inr s)) = inr (inl s)

one_fault : (c d : Cause) (F G : Text) (t u : Token) → Parted F G t u → IsAtFault Spells c F t → IsAtFault Spells d G u → Same c d t u
one_fault Syntax Syntax F G t u p a b = (refl, syntax_syntax F G t u p a b)
one_fault Syntax TooDeep F G t u p a b = absurd (syntax_deep F G t u p a b)
one_fault TooDeep Syntax F G t u p a b = absurd (syntax_deep G F u t (turned F G t u p) b a)
one_fault TooDeep TooDeep F G t u p a b = (refl, deep_deep F G t u p a b)
one_fault TooDeep d F G t u p a b = absurd b
one_fault Syntax d F G t u p a b = absurd b
one_fault c d F G t u p a b = absurd a

tree_read : (tokens : Text) (t : FileTree) → IsTree Spells tokens t → file_at 63 tokens ≡ Ok (t, [])
tree_read tokens t (x, s, e, low) = subst (λ (T : Text). file_at 63 T ≡ Ok (t, [])) (append-nil (plain x) ∙ e) (the_file.again x t [] s low tt tt)

no_fault : (tokens : Text) (t : FileTree) (c : Cause) (F : Text) (u : Token) (R : Text) → IsTree Spells tokens t → tokens ≡ F ++ u ∷ R → IsAtFault Spells c F u → ⊥
no_fault tokens t Syntax F u R (x, s, e, low) p a =
    a.1 (longer F u R (t, x, [], subst (Spells t) (sym (append-nil x)) s, e ∙ p))
no_fault tokens t TooDeep F u R tree p a =
    let r : file_at 63 tokens ≡ stop TooDeep (u ∷ R) = subst (λ (T : Text). file_at 63 T ≡ stop TooDeep (u ∷ R)) (sym p) (stops F u R a) in
    let both : (let k : Read FileTree = Ok (t, []) in k) ≡ stop TooDeep (u ∷ R) = sym (tree_read tokens t tree) ∙ r in
    cc
no_fault tokens t c F u R tree p a = absurd a

pub spelled_one_fault : OneTextFault Spells
spelled_one_fault tokens = (
  (λ c d p q a b.
      let k = one_fault c d a.0 b.0 a.1 b.1 (parted a.0 b.0 a.1 b.1 a.2 b.2 (sym a.3 ∙ b.3)) a.4 b.4 in
      (k.0, a.5 ∙ ap (λ (t : Token). t.place) k.1 ∙ sym b.5)),
  (λ t c p tree a. no_fault tokens t c a.0 a.1 a.2 tree a.3 a.4),
)
