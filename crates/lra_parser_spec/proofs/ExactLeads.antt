-- The reader of what a part begins with is exact.
use Rattle.std.proofs.Common.{◌≡◌, ℕ, true, false, ◌⊎◌, [], ◌++◌, Option, Some, None, refl, sym, ap, subst, ◌∙◌, arith, inl, inr}
use Rattle.std.specs.Bool.{⊤}
use Rattle.lra_base.specs.{declared.number_types.NumberType.NumberType, declared.number_types.NumberType.TheVariants.Long, declared.refusals.Place.Place}
use Rattle.lra_syntax.specs.Texts.{Pieces, Texts, ◌⋅◌, ◌∣◌, opens, mark as spells, name}
use Rattle.lra_syntax.specs.{Grammar.IsType, Grammar.IsHead, Grammar.IsReservedHead, Grammar.IsSomeHead, declared.tokens.Mark.Mark, declared.tokens.Token.Token, declared.trees.Identifier.Identifier}
use Rattle.lra_syntax.specs.declared.tokens.Mark.TheVariants as mark
use Rattle.lra_parser_spec.specs.Files.{Heading, HeadMark, at_type, at_void, head_mark, BuiltIn, of_input, of_assert, of_assume, built_ins, next_built_in, named, lead_behind, lead_form, plain_lead}
use Rattle.lra_parser_spec.specs.{Files.read_lead, Files.begins_part, Reading.take_by, Reading.has, Tests.is_mark, declared.lead.Lead.Lead}
use Rattle.lra_parser_spec.specs.declared.lead.Lead.TheVariants as lead
use Rattle.lra_parser_spec.proofs.Tokens.{IsInner, exact_name, exact_operator, some_place, some_name}
use Rattle.lra_parser_spec.proofs.{Exact.Exact, Exact.Any, Exact.Free, Exact.first_or, ExactAssignments.TypedText, ExactAssignments.type_first, ExactAssignments.exact_type, ExactExpressions.Of}
use Rattle.lra_parser_spec.proofs.{ExactExpressions.first_opened, Forms.rename, Forms.widen, Forms.entry, Forms.mapped, Forms.choose, Forms.branch, Forms.exact_stop, Parts.token, Parts.exact_behind}

-- a name, or a word in its place -----------------------------------------------------------------------------------

abbrev mark_of_built_in : BuiltIn → Mark
mark_of_built_in of_input = mark.Input
mark_of_built_in of_assert = mark.Assert
mark_of_built_in of_assume = mark.Assume

built_in_self : (w : BuiltIn) (at : Place) → next_built_in (Some (token (mark_of_built_in w) at)) ≡ Some w
built_in_self of_input at = refl
built_in_self of_assert at = refl
built_in_self of_assume at = refl

abbrev WordText : BuiltIn → Texts
WordText w z = spells (mark_of_built_in w) z

exact_word : (n : ℕ) → Exact n IsInner (take_by next_built_in) Any WordText WordText Free
exact_word n = exact_operator n mark_of_built_in built_ins (refl, (refl, (refl, tt))) built_in_self refl of_input

abbrev NameText : Identifier → Texts
NameText x z = name x 0 z

abbrev bare : BuiltIn → Lead
bare w = lead.Bare

abbrev CalledText : Option NumberType → Lead → Texts
CalledText b l z = Of bare WordText l z ⊎ Of (named b) NameText l z

word_begins : (l : Lead) (z : Pieces) (o : Option Token) → Of bare WordText l z → has (next_built_in (first_or z o)) ≡ true
word_begins l z o (w, f, (at, e)) = rw e (rw (built_in_self w at) refl)

name_begins : (b : Option NumberType) (l : Lead) (z : Pieces) (o : Option Token) → Of (named b) NameText l z → has (next_built_in (first_or z o)) ≡ false
name_begins b l z o (x, f, e) = rw e refl

exact_called : (n : ℕ) (b : Option NumberType) → Exact n IsInner (lead_behind b) Any (CalledText b) (CalledText b) Free
exact_called n b =
    branch (λ o. has (next_built_in o))
    (entry (widen (mapped (exact_word n) bare Free (λ w o f. tt) (λ w o f. tt)) (CalledText b) (λ l z s. inl s)) (λ o. ⊤ × (has (next_built_in o) ≡ true)) (λ o i. tt))
    (entry (widen (mapped (exact_name n 0 (omega arith)) (named b) Free (λ x o f. tt) (λ x o f. tt)) (CalledText b) (λ l z s. inr s)) (λ o. ⊤ × (has (next_built_in o) ≡ false)) (λ o i. tt))
    (λ l z o s f. word_begins l z o s) (λ l z o s f. name_begins b l z o s)

some_called : (b : Option NumberType) → (l : Lead) × (z : Pieces) × CalledText b l z
some_called b = (named b some_name, _, inr (some_name, refl, refl))

word_no_mark : (m : Mark) (w : BuiltIn) (at : Place) → is_mark m (Some (token mark.Input at)) ≡ false → is_mark m (Some (token mark.Assert at)) ≡ false →
    is_mark m (Some (token mark.Assume at)) ≡ false
    → is_mark m (Some (token (mark_of_built_in w) at)) ≡ false
word_no_mark m of_input at i j k = i
word_no_mark m of_assert at i j k = j
word_no_mark m of_assume at i j k = k

called_no_int : (b : Option NumberType) (l : Lead) (z : Pieces) (o : Option Token) → CalledText b l z → is_mark mark.Int (first_or z o) ≡ false
called_no_int b l z o (inl (w, f, (at, e))) = rw e (word_no_mark mark.Int w at refl refl refl)
called_no_int b l z o (inr (x, f, e)) = rw e refl

called_no_long : (b : Option NumberType) (l : Lead) (z : Pieces) (o : Option Token) → CalledText b l z → is_mark mark.Long (first_or z o) ≡ false
called_no_long b l z o (inl (w, f, (at, e))) = rw e (word_no_mark mark.Long w at refl refl refl)
called_no_long b l z o (inr (x, f, e)) = rw e refl

-- without `extern` -------------------------------------------------------------------------------------------------

abbrev pub PlainLead : Lead → Texts
PlainLead (lead.Typed t x) = IsType t ⋅ name x 0
PlainLead (lead.Void x) = spells mark.Void ⋅ name x 0
PlainLead lead.Bare = IsReservedHead

abbrev CalledType : NumberType → Lead → Texts
CalledType t l = CalledText (Some t) l

abbrev LeadAt : Option HeadMark → Lead → Texts
LeadAt (Some at_type) l = TypedText CalledType l
LeadAt (Some at_void) l = opens mark.Void 0 ⋅ CalledText None l
LeadAt None l = λ z. ⊥

abbrev WordsText : Texts
WordsText = spells mark.Input ∣ spells mark.Assert ∣ spells mark.Assume

word_out : (w : BuiltIn) (z : Pieces) → WordText w z → WordsText z
word_out of_input z s = inl s
word_out of_assert z s = inr (inl s)
word_out of_assume z s = inr (inr s)

word_in : (z : Pieces) → WordsText z → (w : BuiltIn) × WordText w z
word_in z (inl s) = (of_input, s)
word_in z (inr (inl s)) = (of_assert, s)
word_in z (inr (inr s)) = (of_assume, s)

to_plain : (k : Option HeadMark) (l : Lead) (z : Pieces) → LeadAt k l z → PlainLead l z
to_plain (Some at_type) l z (k, (x, y, e, s, inl (w, f, t))) = subst (λ (c : Lead). PlainLead c z) f (x, y, e, inr (k, s), word_out w y t)
to_plain (Some at_type) l z (k, (x, y, e, s, inr (i, f, t))) = subst (λ (c : Lead). PlainLead c z) f (x, y, e, s, t)
to_plain (Some at_void) l z (x, y, e, s, inl (w, f, t)) = subst (λ (c : Lead). PlainLead c z) f (x, y, e, inl s, word_out w y t)
to_plain (Some at_void) l z (x, y, e, s, inr (i, f, t)) = subst (λ (c : Lead). PlainLead c z) f (x, y, e, s, t)
to_plain None l z s = absurd s

from_plain : (l : Lead) (z : Pieces) → PlainLead l z → (k : Option HeadMark) × LeadAt k l z
from_plain (lead.Typed k i) z (x, y, e, s, t) = (Some at_type, (k, (x, y, e, s, inr (i, refl, t))))
from_plain (lead.Void i) z (x, y, e, s, t) = (Some at_void, (x, y, e, s, inr (i, refl, t)))
from_plain lead.Bare z (x, y, e, inl s, t) = let k = word_in y t in (Some at_void, (x, y, e, s, inl (k.0, refl, k.1)))
from_plain lead.Bare z (x, y, e, inr (w, s), t) = let k = word_in y t in (Some at_type, (w, (x, y, e, s, inl (k.0, refl, k.1))))

lead_begins : (k : Option HeadMark) (l : Lead) (z : Pieces) (o : Option Token) (P : Option Token → Type 0) → LeadAt k l z → ((at : Place) → k ≡ Some at_type → P (Some (token mark.Int at)))
    → ((at : Place) → k ≡ Some at_type → P (Some (token mark.Long at))) → ((at : Place) → k ≡ Some at_void → P (Some (token mark.Void at))) → P (first_or z o)
lead_begins (Some at_type) l z o P (w, (x, y, e, s, t)) a b c = type_first w x y z o P e s (λ at. b at refl) (λ at. a at refl)
lead_begins (Some at_void) l z o P (x, y, e, s, t) a b c = first_opened P mark.Void 0 x y z o e s (λ at. c at refl)
lead_begins None l z o P s a b c = absurd s

head_begins : (k : Option HeadMark) (l : Lead) (z : Pieces) (o : Option Token) → LeadAt k l z → head_mark (first_or z o) ≡ k
head_begins k l z o s = lead_begins k l z o (λ i. head_mark i ≡ k) s (λ at e. sym e) (λ at e. sym e) (λ at e. sym e)

abbrev HeadKey : Option HeadMark → Option Token → Type 0
HeadKey k o = (head_mark o ≡ k) × Any o

each_lead : (n : ℕ) (k : Option HeadMark) → Exact n IsInner (lead_form k) (HeadKey k) (LeadAt k) PlainLead Free
each_lead n (Some at_type) =
    let p = exact_type (λ t. lead_behind (Some t)) CalledType (λ t. exact_called n (Some t)) (λ t. some_called (Some t)) (λ l z o s f. called_no_int (Some Long) l z o s)
    (λ l z o s f. called_no_long (Some Long) l z o s) in
    entry (widen p PlainLead (λ l z s. to_plain (Some at_type) l z s)) (HeadKey (Some at_type)) (λ o i. tt)
each_lead n (Some at_void) =
    let p = exact_behind mark.Void 0 (omega arith) (exact_called n None) (some_called None) in
    entry (widen p PlainLead (λ l z s. to_plain (Some at_void) l z s)) (HeadKey (Some at_void)) (λ o i. tt)
each_lead n None = exact_stop (HeadKey None) PlainLead Free (lead.Void some_name) _ (_, _, refl, (some_place, refl), refl)

exact_plain : (n : ℕ) → Exact n IsInner plain_lead Any PlainLead PlainLead Free
exact_plain n = rename (choose head_mark (each_lead n) (λ k l z o s f. head_begins k l z o s)) PlainLead (λ l z s. to_plain s.0 l z s.1) (λ l z s. from_plain l z s)

-- with `extern` or without it --------------------------------------------------------------------------------------

abbrev to_bare : Lead → Lead
to_bare l = lead.Bare

abbrev ExternText : Lead → Texts
ExternText l = opens mark.Extern 0 ⋅ Of to_bare PlainLead l

-- what a part begins with
abbrev pub LeadText : Lead → Texts
LeadText l z = ExternText l z ⊎ PlainLead l z

plain_no_extern : (l : Lead) (z : Pieces) (o : Option Token) → PlainLead l z → is_mark mark.Extern (first_or z o) ≡ false
plain_no_extern l z o s = let k = from_plain l z s in lead_begins k.0 l z o (λ i. is_mark mark.Extern i ≡ false) k.1 (λ at e. refl) (λ at e. refl) (λ at e. refl)

pub exact_lead : (n : ℕ) → Exact n IsInner read_lead Any LeadText LeadText Free
exact_lead n =
    let outer = exact_behind mark.Extern 0 (omega arith) (mapped (exact_plain n) to_bare Free (λ l o f. tt) (λ l o f. tt))
    (lead.Bare, _, (lead.Void some_name, refl, (_, _, refl, (some_place, refl), refl))) in
    branch (is_mark mark.Extern)
    (entry (widen outer LeadText (λ l z s. inl s)) (λ o. ⊤ × (is_mark mark.Extern o ≡ true)) (λ o i. tt))
    (entry (widen (exact_plain n) LeadText (λ l z s. inr s)) (λ o. ⊤ × (is_mark mark.Extern o ≡ false)) (λ o i. tt))
    (λ l z o s f. first_opened (λ i. is_mark mark.Extern i ≡ true) mark.Extern 0 s.0 s.1 z o s.2 s.3 (λ at. refl))
    (λ l z o s f. plain_no_extern l z o s)

pub lead_first : (l : Lead) (z : Pieces) (o : Option Token) → LeadText l z → begins_part (first_or z o) ≡ true
lead_first l z o (inl (x, y, e, s, t)) = first_opened (λ i. begins_part i ≡ true) mark.Extern 0 x y z o e s (λ at. refl)
lead_first l z o (inr s) = let k = from_plain l z s in lead_begins k.0 l z o (λ i. begins_part i ≡ true) k.1 (λ at e. refl) (λ at e. refl) (λ at e. refl)

-- what it is in the grammar ----------------------------------------------------------------------------------------

-- the type of the result, if there is one, and the name; `extern` and the words in place of a name are no function's
abbrev pub head_of : Lead → Option Heading
head_of (lead.Typed t x) = Some (Some t, x)
head_of (lead.Void x) = Some (None, x)
head_of lead.Bare = None

-- the head of a function
pub lead_head : (l : Lead) (h : Heading) (z : Pieces) → head_of l ≡ Some h → LeadText l z → IsHead h.0 h.1 z
lead_head (lead.Typed w i) h z e (inl (x, y, f, s, (k, g, t))) = absurd cc
lead_head (lead.Void i) h z e (inl (x, y, f, s, (k, g, t))) = absurd cc
lead_head (lead.Typed w i) h z e (inr s) = let f : (Some w, i) ≡ h = cc in subst (λ (c : Heading). IsHead c.0 c.1 z) f s
lead_head (lead.Void i) h z e (inr s) = let f : (None, i) ≡ h = cc in subst (λ (c : Heading). IsHead c.0 c.1 z) f s
lead_head lead.Bare h z e s = absurd cc

pub head_lead : (b : Option NumberType) (i : Identifier) (z : Pieces) → IsHead b i z → (l : Lead) × (head_of l ≡ Some (b, i)) × PlainLead l z
head_lead (Some w) i z s = (lead.Typed w i, refl, s)
head_lead None i z s = (lead.Void i, refl, s)

-- of a prototype
abbrev pub OuterText : Texts
OuterText = (spells mark.Extern ∣ (λ z. z ≡ [])) ⋅ (IsSomeHead ∣ IsReservedHead)

plain_some : (l : Lead) (z : Pieces) → PlainLead l z → (IsSomeHead ∣ IsReservedHead) z
plain_some (lead.Typed w i) z s = inl (Some w, i, s)
plain_some (lead.Void i) z s = inl (None, i, s)
plain_some lead.Bare z s = inr s

some_plain : (z : Pieces) → (IsSomeHead ∣ IsReservedHead) z → (l : Lead) × PlainLead l z
some_plain z (inl (b, i, s)) = let k = head_lead b i z s in (k.0, k.2)
some_plain z (inr s) = (lead.Bare, s)

pub lead_outer : (l : Lead) (z : Pieces) → LeadText l z → OuterText z
lead_outer l z (inl (x, y, e, s, (k, f, t))) = (x, y, e, inl s, plain_some k y t)
lead_outer l z (inr s) = ([], z, refl, inr refl, plain_some l z s)

pub outer_lead : (z : Pieces) → OuterText z → (l : Lead) × LeadText l z
outer_lead z (x, y, e, inl s, t) = let k = some_plain y t in (lead.Bare, inl (x, y, e, s, (k.0, refl, k.1)))
outer_lead z (x, y, e, inr s, t) = let k = some_plain y t in (k.0, inr (subst (PlainLead k.0) (sym (e ∙ ap (λ (w : Pieces). w ++ y) s)) k.1))
