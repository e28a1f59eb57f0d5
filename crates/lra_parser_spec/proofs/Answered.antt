-- From the reader of a file to the tree, and to the first fault.
use Rattle.std.proofs.Common.{◌≡◌, ◌≢◌, suc, ◌+◌, ◌-◌, ◌≤◌, ◌<◌, List, [], ◌∷◌, ◌++◌, length, inl, inr, Option, Some, None, Ok, Err, refl, sym, ap, subst, ◌∙◌, append_assoc, length-append, get_or}
use Rattle.std.proofs.{Common.arith, lemmas.List.append-nil, lemmas.List.get_or_at}
use Rattle.std.specs.List.{AllByRecursion}
use Rattle.lra_base.specs.{declared.refusals.Cause.Cause, declared.refusals.Cause.TheVariants.Syntax, declared.refusals.Cause.TheVariants.TooDeep, declared.refusals.Place.Place}
use Rattle.lra_syntax.specs.Faults.{IsTree, CanBegin, IsAtFault, IsTextFault}
use Rattle.lra_syntax.specs.{Grammar.Spells, Texts.Pieces, Texts.plain, Trees.ExternalTree, Trees.FileTree, declared.tokens.Kind.TheVariants.End, declared.tokens.Token.Token}
use Rattle.lra_parser_spec.specs.Reading.{Text, Read, stop, ◌>>=◌, map_read, take_by, taken}
use Rattle.lra_parser_spec.specs.{Files.EndsOnce, Files.parts_at, Files.next_end, Files.file_of, Files.file_at, Tests.first, declared.reading.Fault.Fault}
use Rattle.lra_parser_spec.proofs.{Exact.Low, Exact.Within, Exact.Goes, Exact.plain-append, Exact.bind_err, ExactFiles.exact_parts, Laws.the_file, Laws.read_whole, Tokens.IsInner}

-- nothing comes after the end ----------------------------------------------------------------------------------------

something : (Y : Text) (e : Token) (R : Text) → Y ++ e ∷ R ≡ [] → ⊥
something [] e R h = cc
something (y ∷ Y) e R h = cc

nothing_behind : (Y F : Text) (e l : Token) (R : Text) → Y ++ e ∷ R ≡ F ++ l ∷ [] → e.kind ≡ End → AllByRecursion (λ (t : Token). t.kind ≢ End) F → R ≡ []
nothing_behind [] [] e l R h k all = cc
nothing_behind [] (f ∷ F) e l R h k all = let same : e ≡ f = cc in absurd (all.0 (sym (ap (λ (t : Token). t.kind) same) ∙ k))
nothing_behind (y ∷ Y) [] e l R h k all = absurd (something Y e R cc)
nothing_behind (y ∷ Y) (f ∷ F) e l R h k all = nothing_behind Y F e l R (cc) k all.1

all_read : (T R : Text) (t : FileTree) (x : Pieces) → EndsOnce T → T ≡ plain x ++ R → Spells t x → R ≡ []
all_read T R t x ends e (y, z, f, parts, last) =
    let whole : plain x ++ R ≡ plain y ++ record { kind = End; place = t.end } ∷ R =
    ap (λ (w : Pieces). plain w ++ R) (f ∙ ap (λ (v : Pieces). y ++ v) last) ∙ ap (λ (w : Text). w ++ R) (plain-append y ((record { kind = End; place = t.end }, 0) ∷ [])) ∙
    append_assoc (plain y) (record { kind = End; place = t.end } ∷ []) R in
    nothing_behind (plain y) ends.front (record { kind = End; place = t.end }) ends.last R (sym whole ∙ sym e ∙ ends.parts) refl ends.no_other

pub tree_found : (T R : Text) (t : FileTree) → EndsOnce T → file_at 63 T ≡ Ok (t, R) → IsTree Spells T t
tree_found T R t ends e =
    let l = the_file.ok T t R tt e in
    let none : R ≡ [] = all_read T R t l.0 ends l.1 l.4 in
    (l.0, l.4, sym (l.1 ∙ ap (λ (S : Text). plain l.0 ++ S) none ∙ append-nil (plain l.0)), l.2)

-- a fault is a token --------------------------------------------------------------------------------------------------

not_inner : (x : Pieces) (F : Text) (l : Token) → Within IsInner x → plain x ++ [] ≡ F ++ l ∷ [] → l.kind ≡ End → ⊥
not_inner [] F l w e k = something F l [] (sym e)
not_inner (p ∷ x) [] l w e k = let same : p.0 ≡ l = cc in w.0 (ap (λ (t : Token). t.kind) same ∙ k)
not_inner (p ∷ x) (f ∷ F) l w e k = not_inner x F l w.1 (cc) k

-- before the end something is left
not_done : (T R : Text) (x : Pieces) → EndsOnce T → Within IsInner x → T ≡ plain x ++ R → 0 < length R
not_done T [] x ends w e = absurd (not_inner x ends.front ends.last w (sym e ∙ ends.parts) ends.is_end)
not_done T (r ∷ R) x ends w e = omega arith

taken_left : (o : Option Place) (ps : List ExternalTree) (R : Text) (f : Fault) → (taken o R >>= (λ r. Ok (file_of ps r.0, r.1))) ≡ Err f → f.left ≡ length R
taken_left (Some at) ps R f e = absurd cc
taken_left None ps R f e = let same : record { cause = Syntax; left = length R } ≡ f = cc in sym (ap (λ (k : Fault). k.left) same)

end_left : (ps : List ExternalTree) (R : Text) (f : Fault) → 0 < length R → map_read (file_of ps) (take_by next_end) R ≡ Err f → 0 < f.left
end_left ps R f some e = omega (arith, taken_left (next_end (first R)) ps R f e)

some_left : (T : Text) (f : Fault) → EndsOnce T → file_at 63 T ≡ Err f → 0 < f.left
some_left T f ends e =
    let P = exact_parts 64 63 refl in
    elim (bind_err (parts_at 63 T) (λ r. map_read (file_of r.0) (take_by next_end) r.1) f e) [
      | inl d ↦ let l = P.err T f tt d in let some : 0 < length l.rest = not_done T l.rest l.done ends l.inner l.parts in omega (arith, l.left)
      | inr m ↦ let l = P.ok T m.0.0 m.0.1 tt m.1 in end_left m.0.0 m.0.1 f (not_done T m.0.1 l.0 ends l.3 l.1) m.2
    ]

-- the fault ------------------------------------------------------------------------------------------------------------

two_causes : TooDeep ≡ Syntax → ⊥
two_causes e = cc

abbrev cause_in : Read FileTree → Cause
cause_in (Ok x) = Syntax
cause_in (Err f) = f.cause

-- with this token no text begins
no_text : (x : Pieces) (r : Token) → ((Y : Text) → first Y ≡ Some r → file_at 63 (plain x ++ Y) ≡ stop Syntax Y) → CanBegin Spells (plain x ++ r ∷ []) → ⊥
no_text x r local (t, u, v, s, e) =
    let whole : plain (u ++ v) ≡ plain x ++ r ∷ plain v = plain-append u v ∙ ap (λ (T : Text). T ++ plain v) e ∙ append_assoc (plain x) (r ∷ []) (plain v) in
    let here : file_at 63 (plain (u ++ v)) ≡ stop Syntax (r ∷ plain v) = subst (λ (T : Text). file_at 63 T ≡ stop Syntax (r ∷ plain v)) (sym whole) (local (r ∷ plain v) refl) in
    elim (read_whole t (u ++ v) s) [
      | inl k ↦ let both : (let q : Read FileTree = Ok (t, []) in q) ≡ stop Syntax (r ∷ plain v) = sym k ∙ here in cc
      | inr k ↦ two_causes (ap cause_in (sym k.1 ∙ here))
    ]

at_fault : (c : Cause) (t : FileTree) (x w : Pieces) (r : Token) (R : Text) → Spells t (x ++ w) → Low 64 x → Goes 64 c w (r ∷ R)
    → ((Y : Text) → first Y ≡ Some r → file_at 63 (plain x ++ Y) ≡ stop c Y) → IsAtFault Spells c (plain x) r
at_fault Syntax t x w r R s low goes local = ((t, x, w, s, refl, low), no_text x r local)
at_fault TooDeep t x [] r R s low goes local = absurd goes
at_fault TooDeep t x (p ∷ w) r R s low goes local =
    (t, x, p.1, w, subst (λ (k : Token). Spells t (x ++ (k, p.1) ∷ w)) goes.0 s, refl, low, goes.1)
at_fault c t x w r R s low goes local = absurd goes

-- the token at fault, with what stands before and after it
pub record StopsAt (T : Text) (f : Fault) : Type 0 where
  pub front : Text
  pub token : Token
  pub rest : Text
  pub parts : T ≡ front ++ token ∷ rest
  pub faulty : IsAtFault Spells f.cause front token
  pub left : f.left ≡ suc (length rest)

stops_with : (T : Text) (f : Fault) (x w : Pieces) (rest : Text) (t : FileTree) → 0 < f.left → T ≡ plain x ++ rest → f.left ≡ length rest → Spells t (x ++ w) → Low 64 x → Goes 64 f.cause w rest
    → ((Y : Text) → first Y ≡ first rest → file_at 63 (plain x ++ Y) ≡ stop f.cause Y) → StopsAt T f
stops_with T f x w [] t some e l s low goes local = absurd (omega (arith, l))
stops_with T f x w (r ∷ R) t some e l s low goes local =
    record { front = plain x; token = r; rest = R; parts = e; faulty = at_fault f.cause t x w r R s low goes local; left = l }

pub stops_at : (T : Text) (f : Fault) → EndsOnce T → file_at 63 T ≡ Err f → StopsAt T f
stops_at T f ends e = let l = the_file.err T f tt e in stops_with T f l.done l.tail l.rest l.tree (some_left T f ends e) l.parts l.left l.viable l.low l.goes l.local

-- the index of the token at fault
pub fault_index : (T : Text) (f : Fault) (s : StopsAt T f) → (length T - f.left ≡ length s.front) × (f.left ≤ length T)
fault_index T f s =
    let sizes : length T ≡ length (s.front ++ s.token ∷ s.rest) = ap length s.parts in
    let parts : length (s.front ++ s.token ∷ s.rest) ≡ length s.front + length (s.token ∷ s.rest) = length-append s.front (s.token ∷ s.rest) in
    let left = s.left in
    (omega arith, omega arith)

pub fault_token : (T : Text) (f : Fault) (s : StopsAt T f) (d : Token) → get_or T (length T - f.left) d ≡ s.token
fault_token T f s d = ap (λ (U : Text). get_or U (length T - f.left) d) s.parts ∙ get_or_at s.front s.token s.rest d (length T - f.left) (sym (fault_index T f s).0)

pub fault_within : (T : Text) (f : Fault) → EndsOnce T → file_at 63 T ≡ Err f → (0 < f.left) × (f.left ≤ length T)
fault_within T f ends e = (some_left T f ends e, (fault_index T f (stops_at T f ends e)).1)

-- the refusal at the token at fault
pub text_fault : (T : Text) (f : Fault) → EndsOnce T → file_at 63 T ≡ Err f → (t : Token) → t ≡ get_or T (length T - f.left) t → IsTextFault Spells T f.cause t.place
text_fault T f ends e t is =
    let s = stops_at T f ends e in
    (s.front, s.token, s.rest, s.parts, s.faulty, ap (λ (k : Token). k.place) (is ∙ fault_token T f s t))
