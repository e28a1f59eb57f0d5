-- The reader of parameters, with names or without, is exact.
use Rattle.std.proofs.Common.{◌≡◌, ℕ, Bool, true, false, ◌⊎◌, List, [], ◌∷◌, ◌++◌, Option, Some, None, refl, sym, ap, subst, ◌∙◌, arith, inl, inr, map}
use Rattle.std.proofs.lemmas.List.{append-nil}
use Rattle.std.specs.Bool.{⊤}
use Rattle.lra_base.specs.{declared.number_types.NumberType.NumberType, declared.number_types.NumberType.TheVariants.Long, declared.refusals.Place.Place}
use Rattle.lra_syntax.specs.Grammar.{IsType, IsParameter, AreParameters, IsPrototypeParameter, ArePrototypeParameters}
use Rattle.lra_syntax.specs.Texts.{Pieces, Texts, ◌⋅◌, ◌∣◌, empty, opens, mark as spells, name, further, separated}
use Rattle.lra_syntax.specs.{declared.tokens.Mark.Mark, declared.tokens.Token.Token, declared.trees.Parameter.Parameter}
use Rattle.lra_syntax.specs.declared.tokens.Mark.TheVariants as mark
use Rattle.lra_parser_spec.specs.Files.{parameter_ends, parameter_of, ends_parameter, no_name, name_or_none, parameter_at, parameters_at, all_named}
use Rattle.lra_parser_spec.specs.{Reading.next_name, Reading.has, Statements.listed, Tests.is_mark}
use Rattle.lra_parser_spec.proofs.Forms.{rename, widen, retell, entry, mapped, branch, exact_done, exact_stop}
use Rattle.lra_parser_spec.proofs.{Chain.regroup, Chain.all_last, Exact.Exact, Exact.Any, Exact.Free, Exact.first_or, ExactAssignments.TypedText, ExactAssignments.type_first}
use Rattle.lra_parser_spec.proofs.{ExactAssignments.exact_type, ExactExpressions.Of, ExactExpressions.first_opened, ExactLists.AfterCommas, ExactLists.exact_commas, Named.names_some, Parts.token}
use Rattle.lra_parser_spec.proofs.{Parts.exact_behind, Parts.exact_ended, Parts.by_table, Tokens.IsInner, Tokens.exact_expect, Tokens.exact_name, Tokens.some_place, Tokens.some_name}

-- a name or nothing ------------------------------------------------------------------------------------------------

-- nothing stands only if a parameter ends
abbrev AfterName : Option Parameter → Option Token → Type 0
AfterName None o = ends_parameter o ≡ true
AfterName (Some q) o = ⊤

abbrev mark_of_end : Bool → Mark
mark_of_end true = mark.Comma
mark_of_end false = mark.CloseParen

at_end : (P : Option Token → Type 0) → ((at : Place) → P (Some (token mark.Comma at))) → ((at : Place) → P (Some (token mark.CloseParen at))) → (o : Option Token) → ends_parameter o ≡ true → P o
at_end P comma close o e = by_table mark_of_end parameter_ends (refl, (refl, tt)) P each o e
  where
    each : (b : Bool) (at : Place) → P (Some (token (mark_of_end b) at))
    each true at = comma at
    each false at = close at

abbrev SomeText : NumberType → Option Parameter → Texts
SomeText t p z = Of (parameter_of t) (λ x. name x 0) p z

abbrev NoneText : Option Parameter → Texts
NoneText p z = (p ≡ None) × (z ≡ [])

abbrev NameText : NumberType → Option Parameter → Texts
NameText t p z = SomeText t p z ⊎ NoneText p z

ends_here : (p : Option Parameter) (z : Pieces) (o : Option Token) → NoneText p z → (z ≡ [] → AfterName p o) → ends_parameter (first_or z o) ≡ true
ends_here p z o (e, f) h = let k : AfterName None o = subst (λ (q : Option Parameter). AfterName q o) e (h f) in rw f k

none_no_name : (p : Option Parameter) (z : Pieces) (o : Option Token) → NoneText p z → (z ≡ [] → AfterName p o) → has (next_name (first_or z o)) ≡ false
none_no_name p z o s h = at_end (λ i. has (next_name i) ≡ false) (λ at. refl) (λ at. refl) (first_or z o) (ends_here p z o s h)

none_no_int : (p : Option Parameter) (z : Pieces) (o : Option Token) → NoneText p z → (z ≡ [] → AfterName p o) → is_mark mark.Int (first_or z o) ≡ false
none_no_int p z o s h = at_end (λ i. is_mark mark.Int i ≡ false) (λ at. refl) (λ at. refl) (first_or z o) (ends_here p z o s h)

none_no_long : (p : Option Parameter) (z : Pieces) (o : Option Token) → NoneText p z → (z ≡ [] → AfterName p o) → is_mark mark.Long (first_or z o) ≡ false
none_no_long p z o s h = at_end (λ i. is_mark mark.Long i ≡ false) (λ at. refl) (λ at. refl) (first_or z o) (ends_here p z o s h)

abbrev Unnamed : Option Token → Type 0
Unnamed o = ⊤ × (has (next_name o) ≡ false)

exact_no_name : (n : ℕ) (t : NumberType) → Exact n IsInner no_name Unnamed NoneText (NameText t) AfterName
exact_no_name n t =
    let nothing = exact_done n IsInner None (λ o. Unnamed o × (ends_parameter o ≡ true)) (NameText t) AfterName (λ o i. i.1) in
    let other = exact_stop {n = n} {Q = IsInner} (λ o. Unnamed o × (ends_parameter o ≡ false)) (NameText t) AfterName (parameter_of t some_name) _ (inl (some_name, refl, refl)) in
    let b = branch ends_parameter nothing other (λ p z o s f. ends_here p z o s f) (λ p z o s f. absurd s) in
    rename b NoneText (λ p z s. elim s [ inl k ↦ k | inr k ↦ absurd k ]) (λ p z s. inl s)

exact_name_or_none : (n : ℕ) (t : NumberType) → Exact n IsInner (name_or_none t) Any (NameText t) (NameText t) AfterName
exact_name_or_none n t =
    branch (λ o. has (next_name o))
    (entry (widen (mapped (exact_name n 0 (omega arith)) (parameter_of t) AfterName (λ x o f. tt) (λ x o f. tt)) (NameText t) (λ p z s. inl s)) (λ o. ⊤ × (has (next_name o) ≡ true)) (λ o i. tt))
    (exact_no_name n t)
    (λ p z o s f. rw s.2 refl)
    (λ p z o s f. none_no_name p z o s f)

-- parameters -------------------------------------------------------------------------------------------------------

no_int : (p : Option Parameter) (z : Pieces) (o : Option Token) → NameText Long p z → (z ≡ [] → AfterName p o) → is_mark mark.Int (first_or z o) ≡ false
no_int p z o (inl (x, e, f)) h = rw f refl
no_int p z o (inr s) h = none_no_int p z o s h

no_long : (p : Option Parameter) (z : Pieces) (o : Option Token) → NameText Long p z → (z ≡ [] → AfterName p o) → is_mark mark.Long (first_or z o) ≡ false
no_long p z o (inl (x, e, f)) h = rw f refl
no_long p z o (inr s) h = none_no_long p z o s h

to_parameter : (p : Option Parameter) (z : Pieces) → TypedText NameText p z → IsPrototypeParameter p z
to_parameter p z (k, (x, y, e, s, inl (i, f, t))) = subst (λ (q : Option Parameter). IsPrototypeParameter q z) f (x, y, e, s, t)
to_parameter p z (k, (x, y, e, s, inr (f, t))) = subst (λ (q : Option Parameter). IsPrototypeParameter q z) (sym f) (k, subst (IsType k) (sym (e ∙ ap (λ (w : Pieces). x ++ w) t ∙ append-nil x)) s)

from_parameter : (p : Option Parameter) (z : Pieces) → IsPrototypeParameter p z → TypedText NameText p z
from_parameter None z (k, s) = (k, (z, [], sym (append-nil z), s, inr (refl, refl)))
from_parameter (Some q) z (x, y, e, s, t) = (q.number_type, (x, y, e, s, inl (q.name, refl, t)))

exact_parameter : (n : ℕ) → Exact n IsInner parameter_at Any IsPrototypeParameter IsPrototypeParameter AfterName
exact_parameter n = retell (exact_type name_or_none NameText (exact_name_or_none n) (λ t. (parameter_of t some_name, _, inl (some_name, refl, refl))) no_int no_long)
    IsPrototypeParameter to_parameter from_parameter

-- each with a name or without
abbrev pub PrototypeParameters : List (Option Parameter) → Texts
PrototypeParameters [] = spells mark.Void ∣ empty
PrototypeParameters (p ∷ ps) = separated IsPrototypeParameter (p ∷ ps)

abbrev pub ParametersText : List (Option Parameter) → Texts
ParametersText ps = PrototypeParameters ps ⋅ spells mark.CloseParen

abbrev AfterParameters : List (Option Parameter) → Option Token → Type 0
AfterParameters [] o = ⊤
AfterParameters (p ∷ ps) o = AfterCommas AfterName (p, ps) o

abbrev ClosedText : List (Option Parameter) → Texts
ClosedText ps z = (ps ≡ []) × opens mark.CloseParen 0 z

abbrev VoidText : List (Option Parameter) → Texts
VoidText ps = opens mark.Void 0 ⋅ ClosedText ps

abbrev SomeParameters : List (Option Parameter) → Texts
SomeParameters ps = Of listed (λ xs z. separated IsPrototypeParameter (xs.0 ∷ xs.1) z) ps ⋅ spells mark.CloseParen

abbrev OtherText : List (Option Parameter) → Texts
OtherText ps z = VoidText ps z ⊎ SomeParameters ps z

closed_out : (ps : List (Option Parameter)) (z : Pieces) → ClosedText ps z → ParametersText ps z
closed_out ps z (e, s) = subst (λ (xs : List (Option Parameter)). ParametersText xs z) (sym e) ([], z, refl, inr refl, s)

void_out : (ps : List (Option Parameter)) (z : Pieces) → VoidText ps z → ParametersText ps z
void_out ps z (x, y, e, s, (f, t)) = subst (λ (xs : List (Option Parameter)). ParametersText xs z) (sym f) (x, y, e, inl s, t)

some_out : (ps : List (Option Parameter)) (z : Pieces) → SomeParameters ps z → ParametersText ps z
some_out ps z (x, y, e, (xs, f, s), t) = subst (λ (is : List (Option Parameter)). ParametersText is z) f (x, y, e, s, t)

other_out : (ps : List (Option Parameter)) (z : Pieces) → OtherText ps z → ParametersText ps z
other_out ps z (inl s) = void_out ps z s
other_out ps z (inr s) = some_out ps z s

parameters_sides : (ps : List (Option Parameter)) (z : Pieces) → ParametersText ps z → ClosedText ps z ⊎ OtherText ps z
parameters_sides [] z (x, y, e, inl s, t) = inr (inl (x, y, e, s, (refl, t)))
parameters_sides [] z (x, y, e, inr s, t) = inl (refl, subst (λ (w : Pieces). opens mark.CloseParen 0 w) (sym (e ∙ ap (λ (w : Pieces). w ++ y) s)) t)
parameters_sides (i ∷ is) z (x, y, e, s, t) = inr (inr (x, y, e, ((i, is), refl, s), t))

parameter_first : (p : Option Parameter) (x y z : Pieces) (o : Option Token) (P : Option Token → Type 0) → z ≡ x ++ y → IsPrototypeParameter p x → ((at : Place) → P (Some (token mark.Long at))) →
    ((at : Place) → P (Some (token mark.Int at))) → P (first_or z o)
parameter_first None x y z o P e (w, s) long int = type_first w x y z o P e s long int
parameter_first (Some q) x y z o P e (u, v, f, s, t) long int = type_first q.number_type u (v ++ y) z o P (e ∙ regroup x y u v f) s long int

some_type : (ps : List (Option Parameter)) (z : Pieces) (o : Option Token) (P : Option Token → Type 0) → SomeParameters ps z → ((at : Place) → P (Some (token mark.Long at))) →
    ((at : Place) → P (Some (token mark.Int at))) → P (first_or z o)
some_type ps z o P (x, y, e, (xs, f, (p, q, g, s, t)), w) long int = parameter_first xs.0 p (q ++ y) z o P (e ∙ regroup x y p q g) s long int

other_begins : (ps : List (Option Parameter)) (z : Pieces) (o : Option Token) → OtherText ps z → is_mark mark.CloseParen (first_or z o) ≡ false
other_begins ps z o (inl (x, y, e, s, t)) = first_opened (λ i. is_mark mark.CloseParen i ≡ false) mark.Void 0 x y z o e s (λ at. refl)
other_begins ps z o (inr s) = some_type ps z o (λ i. is_mark mark.CloseParen i ≡ false) s (λ at. refl) (λ at. refl)

name_closes : (p : Option Parameter) (at : Place) → AfterName p (Some (token mark.CloseParen at))
name_closes None at = refl
name_closes (Some x) at = tt

name_goes_on : (p : Option Parameter) (at : Place) → AfterName p (Some (token mark.Comma at))
name_goes_on None at = refl
name_goes_on (Some x) at = tt

parameters_close : (ps : List (Option Parameter)) (at : Place) → AfterParameters ps (Some (token mark.CloseParen at))
parameters_close [] at = tt
parameters_close (p ∷ ps) at = (all_last {I = Option Parameter} AfterName (AfterName p) ps (Some (token mark.CloseParen at)) (name_closes p at) (λ q. name_closes q at), refl)

some_parameter : (p : Option Parameter) × (x : Pieces) × IsPrototypeParameter p x
some_parameter = (None, _, (Long, (_, _, refl, (some_place, refl), ([], [], refl, inr refl, inr refl))))

pub exact_parameters : (n : ℕ) → Exact n IsInner parameters_at Any ParametersText ParametersText Free
exact_parameters n =
    let closed = exact_expect n mark.CloseParen 0 (omega arith) [] in
    let voids = exact_behind mark.Void 0 (omega arith) closed ([], _, (refl, (some_place, refl))) in
    let list = mapped (exact_commas (exact_parameter n) some_parameter name_goes_on) listed AfterParameters (λ xs o f. f) (λ xs o f. f) in
    let some = exact_ended mark.CloseParen list parameters_close in
    let others = branch (is_mark mark.Void) {E = λ o. ⊤ × (is_mark mark.CloseParen o ≡ false)}
    (entry (widen voids OtherText (λ ps z s. inl s)) (λ o. (⊤ × (is_mark mark.CloseParen o ≡ false)) × (is_mark mark.Void o ≡ true)) (λ o i. tt))
    (entry (widen some OtherText (λ ps z s. inr s)) (λ o. (⊤ × (is_mark mark.CloseParen o ≡ false)) × (is_mark mark.Void o ≡ false)) (λ o i. tt))
    (λ ps z o s f. first_opened (λ i. is_mark mark.Void i ≡ true) mark.Void 0 s.0 s.1 z o s.2 s.3 (λ at. refl))
    (λ ps z o s f. some_type ps z o (λ i. is_mark mark.Void i ≡ false) s (λ at. refl) (λ at. refl)) in
    let b = branch (is_mark mark.CloseParen) (entry (widen closed ParametersText closed_out) (λ o. ⊤ × (is_mark mark.CloseParen o ≡ true)) (λ o i. tt))
    (widen others ParametersText other_out)
    (λ ps z o s f. first_opened (λ i. is_mark mark.CloseParen i ≡ true) mark.CloseParen 0 z [] z o (sym (append-nil z)) s.1 (λ at. refl))
    (λ ps z o s f. other_begins ps z o s) in
    rename b ParametersText (λ ps z s. elim s [ inl k ↦ closed_out ps z k | inr k ↦ other_out ps z k ]) parameters_sides

-- what they are in the grammar -------------------------------------------------------------------------------------

further_out : (xs : List Parameter) (z : Pieces) → further IsPrototypeParameter (map Some xs) z → further IsParameter xs z
further_out [] z s = s
further_out (i ∷ is) z (x, y, e, s, (u, v, f, t, r)) = (x, y, e, s, (u, v, f, t, further_out is v r))

further_in : (xs : List Parameter) (z : Pieces) → further IsParameter xs z → further IsPrototypeParameter (map Some xs) z
further_in [] z s = s
further_in (i ∷ is) z (x, y, e, s, (u, v, f, t, r)) = (x, y, e, s, (u, v, f, t, further_in is v r))

named_out : (xs : List Parameter) (z : Pieces) → PrototypeParameters (map Some xs) z → AreParameters xs z
named_out [] z s = s
named_out (i ∷ is) z (x, y, e, s, t) = (x, y, e, s, further_out is y t)

-- of a function
pub parameters_named : (ps : List (Option Parameter)) (xs : List Parameter) (z : Pieces) → all_named ps ≡ Some xs → PrototypeParameters ps z → AreParameters xs z
parameters_named ps xs z e s = named_out xs z (subst (λ (qs : List (Option Parameter)). PrototypeParameters qs z) (names_some ps xs e) s)

pub named_parameters : (xs : List Parameter) (z : Pieces) → AreParameters xs z → PrototypeParameters (map Some xs) z
named_parameters [] z s = s
named_parameters (i ∷ is) z (x, y, e, s, t) = (x, y, e, s, further_in is y t)

-- of a prototype
pub parameters_any : (ps : List (Option Parameter)) (z : Pieces) → PrototypeParameters ps z → ArePrototypeParameters z
parameters_any [] z s = inl s
parameters_any (p ∷ ps) z s = inr (p, ps, s)

pub any_parameters : (z : Pieces) → ArePrototypeParameters z → (ps : List (Option Parameter)) × PrototypeParameters ps z
any_parameters z (inl s) = ([], s)
any_parameters z (inr (p, ps, s)) = (p ∷ ps, s)
