-- The reader of a file is exact.
use Rattle.std.proofs.Common.{◌≡◌, ℕ, ◌+◌, true, false, ◌⊎◌, List, [], ◌∷◌, ◌++◌, Option, Some, None, refl, sym, ap, subst, ◌∙◌, append_assoc, arith, inl, inr, map, option_map}
use Rattle.std.proofs.lemmas.List.{append-nil}
use Rattle.std.specs.Bool.{⊤}
use Rattle.lra_base.specs.declared.refusals.Place.{Place}
use Rattle.lra_syntax.specs.declared.tokens.Mark.TheVariants as mark
use Rattle.lra_syntax.specs.Grammar.{IsExternalDeclaration, AreExternalDeclarations, Spells}
use Rattle.lra_syntax.specs.Trees.{ExternalTree, prototype, globals, function, FileTree}
use Rattle.lra_syntax.specs.declared.tokens.Kind.TheVariants.{Name, Number, Mark as MarkOf, Reserved, Unclosed, End}
use Rattle.lra_syntax.specs.{Texts.Pieces, Texts.Texts, Texts.◌⋅◌, Texts.opens, Texts.end_at, declared.tokens.Kind.Kind, declared.tokens.Token.Token, declared.trees.Parameter.Parameter}
use Rattle.lra_parser_spec.specs.Files.{Heading, all_named, signature_of, function_of, ending, signature_at, rest_at, part_at, begins_part, parts_at, end_of, next_end, file_of, file_at}
use Rattle.lra_parser_spec.specs.{Reading.take_by, Tests.is_mark, declared.lead.Lead.Lead}
use Rattle.lra_parser_spec.specs.declared.lead.Lead.TheVariants as lead
use Rattle.lra_parser_spec.proofs.ExactGlobals.{GlobalsText, exact_globals, globals_no_open, globals_out, globals_in}
use Rattle.lra_parser_spec.proofs.ExactLeads.{head_of, LeadText, exact_lead, lead_first, lead_head, head_lead, lead_outer, outer_lead}
use Rattle.lra_parser_spec.proofs.ExactParameters.{ParametersText, exact_parameters, parameters_named, named_parameters, parameters_any, any_parameters}
use Rattle.lra_parser_spec.proofs.{Chain.regroup, Chain.Items, Chain.AfterLast, Chain.all_last, Chain.exact_list, Exact.Exact, Exact.Any, Exact.Free, Exact.Both, Exact.first_or, Exact.first_or-both}
use Rattle.lra_parser_spec.proofs.{Exact.then, ExactBlocks.BodyText, ExactExpressions.Of, ExactExpressions.first_opened, ExactLevels.exact_function_body, Forms.widen, Forms.retell, Forms.entry}
use Rattle.lra_parser_spec.proofs.{Forms.loose, Forms.mapped, Forms.branch, Forms.exact_take, Named.some_names, Parts.exact_behind, Tokens.IsInner, Tokens.exact_expect, Tokens.some_place}

-- functions and prototypes -----------------------------------------------------------------------------------------

abbrev Signature : Type 0
Signature = Heading × List Parameter

-- a body, or a semicolon
abbrev BodyEnd : Option Signature → ExternalTree → Texts
BodyEnd None p = λ z. ⊥
BodyEnd (Some s) p = Of (λ b. function (function_of s b)) (BodyText 1 1) p

abbrev SemicolonEnd : ExternalTree → Texts
SemicolonEnd p z = (p ≡ prototype) × opens mark.Semicolon 0 z

abbrev EndText : Option Signature → ExternalTree → Texts
EndText s p z = BodyEnd s p z ⊎ SemicolonEnd p z

some_end : (s : Option Signature) → (p : ExternalTree) × (z : Pieces) × EndText s p z
some_end s = (prototype, _, inr (refl, (some_place, refl)))

exact_ending : (n d : ℕ) → d + 1 ≡ n → (s : Option Signature) → Exact n IsInner (ending d s) Any (EndText s) (EndText s) Free
exact_ending n d h None = retell (exact_expect n mark.Semicolon 0 (omega arith) prototype) (EndText None) (λ p z s. inr s) (λ p z s. elim s [ inl k ↦ absurd k | inr k ↦ k ])
exact_ending n d h (Some s) =
    branch (is_mark mark.OpenBrace)
    (entry (widen (mapped (exact_function_body n d h) (λ b. function (function_of s b)) Free (λ b o f. tt) (λ b o f. tt)) (EndText (Some s)) (λ p z t. inl t))
    (λ o. ⊤ × (is_mark mark.OpenBrace o ≡ true)) (λ o i. tt))
    (entry (widen (exact_expect n mark.Semicolon 0 (omega arith) prototype) (EndText (Some s)) (λ p z t. inr t)) (λ o. ⊤ × (is_mark mark.OpenBrace o ≡ false)) (λ o i. tt))
    (λ p z o t f. first_opened (λ i. is_mark mark.OpenBrace i ≡ true) mark.OpenBrace 1 t.2.0 t.2.1 z o t.2.2 t.2.3 (λ at. refl))
    (λ p z o t f. first_opened (λ i. is_mark mark.OpenBrace i ≡ false) mark.Semicolon 0 z [] z o (sym (append-nil z)) t.1 (λ at. refl))

abbrev SignedText : Option Heading → ExternalTree → Texts
SignedText h p = opens mark.OpenParen 0 ⋅ Both ParametersText (λ ps. EndText (signature_of h ps)) p

some_signed : (h : Option Heading) → (p : ExternalTree) × (z : Pieces) × Both ParametersText (λ ps. EndText (signature_of h ps)) p z
some_signed h = (prototype, _, ([], (_, _, refl, ([], _, refl, inr refl, (some_place, refl)), inr (refl, (some_place, refl)))))

exact_signature : (n d : ℕ) → d + 1 ≡ n → (h : Option Heading) → Exact n IsInner (signature_at d h) Any (SignedText h) (SignedText h) Free
exact_signature n d e h =
    let both = then (exact_parameters n) (λ ps. exact_ending n d e (signature_of h ps)) (λ p z. Both ParametersText (λ ps. EndText (signature_of h ps)) p z)
    (λ ps p y o s g. tt)
    (λ ps z v. let k = some_end (signature_of h ps) in (k.0, k.1, (ps, (z, k.1, refl, v, k.2))))
    (λ ps p x y s r. (ps, (x, y, refl, s, r))) in
    exact_behind mark.OpenParen 0 (omega arith) both (some_signed h)

-- globals, after a type and a name
abbrev OnlyGlobals : Lead → ExternalTree → Texts
OnlyGlobals (lead.Typed t x) p = GlobalsText t x p
OnlyGlobals (lead.Void x) p = λ z. ⊥
OnlyGlobals lead.Bare p = λ z. ⊥

abbrev RestText : Lead → ExternalTree → Texts
RestText l p z = SignedText (head_of l) p z ⊎ OnlyGlobals l p z

exact_signed : (n d : ℕ) → d + 1 ≡ n → (l : Lead) → ((p : ExternalTree) (z : Pieces) → OnlyGlobals l p z → ⊥) → Exact n IsInner (signature_at d (head_of l)) Any (RestText l) (RestText l) Free
exact_signed n d e l none = retell (exact_signature n d e (head_of l)) (RestText l) (λ p z s. inl s) (λ p z s. elim s [ inl k ↦ k | inr k ↦ absurd (none p z k) ])

exact_rest : (n d : ℕ) → d + 1 ≡ n → (l : Lead) → Exact n IsInner (rest_at d l) Any (RestText l) (RestText l) Free
exact_rest n d e (lead.Typed t x) =
    branch (is_mark mark.OpenParen)
    (entry (widen (exact_signature n d e (Some (Some t, x))) (RestText (lead.Typed t x)) (λ p z s. inl s)) (λ o. ⊤ × (is_mark mark.OpenParen o ≡ true)) (λ o i. tt))
    (entry (widen (exact_globals n t x) (RestText (lead.Typed t x)) (λ p z s. inr s)) (λ o. ⊤ × (is_mark mark.OpenParen o ≡ false)) (λ o i. tt))
    (λ p z o s f. first_opened (λ i. is_mark mark.OpenParen i ≡ true) mark.OpenParen 0 s.0 s.1 z o s.2 s.3 (λ at. refl))
    (λ p z o s f. globals_no_open t x p z o s)
exact_rest n d e (lead.Void x) = exact_signed n d e (lead.Void x) (λ p z k. k)
exact_rest n d e lead.Bare = exact_signed n d e lead.Bare (λ p z k. k)

abbrev WholeText : ExternalTree → Texts
WholeText p z = Both LeadText RestText p z

-- what they are in the grammar

made : (h : Option Heading) (ps : List (Option Parameter)) (s : Signature) → signature_of h ps ≡ Some s → (h ≡ Some s.0) × (all_named ps ≡ Some s.1)
made None ps s e = absurd cc
made (Some h) ps s e = made_of h (all_named ps) s e
  where
    made_of : (h : Heading) (m : Option (List Parameter)) (s : Signature) → option_map (λ xs. (h, xs)) m ≡ Some s → (let k : Option Heading = Some h in k ≡ Some s.0) ×
        (m ≡ Some s.1)
    made_of h None s e = absurd cc
    made_of h (Some xs) s e = let f : (h, xs) ≡ s = cc in (ap (λ (t : Signature). Some t.0) f, ap (λ (t : Signature). Some t.1) f)

body_is : (m : Option Signature) (p : ExternalTree) (z : Pieces) → BodyEnd m p z → (s : Signature) × (m ≡ Some s) × Of (λ b. function (function_of s b)) (BodyText 1 1) p z
body_is None p z t = absurd t
body_is (Some s) p z t = (s, refl, t)

globals_part : (l : Lead) (p : ExternalTree) (x y z : Pieces) → z ≡ x ++ y → LeadText l x → OnlyGlobals l p y → IsExternalDeclaration p z
globals_part (lead.Typed w i) p x y z e (inl (a, b, f, o, (k, g, t))) r = absurd cc
globals_part (lead.Typed w i) p x y z e (inr (t, n, f, type, name)) r =
    let k = globals_out w i p t n y z (e ∙ ap (λ (w : Pieces). w ++ y) f) type name r in
    subst (λ (q : ExternalTree). IsExternalDeclaration q z) k.1 k.2
globals_part (lead.Void i) p x y z e s r = absurd r
globals_part lead.Bare p x y z e s r = absurd r

to_part : (p : ExternalTree) (z : Pieces) → WholeText p z → IsExternalDeclaration p z
to_part p z (l, (x, y, e, s, inr r)) = globals_part l p x y z e s r
to_part p z (l, (x, y, e, s, inl (a, b, f, o, (ps, (c, d, g, (u, v, i, t, close), inl body))))) =
    let k = body_is (signature_of (head_of l) ps) p d body in
    let m = made (head_of l) ps k.0 k.1 in
    subst (λ (q : ExternalTree). IsExternalDeclaration q z) k.2.1
    (x, y, e, lead_head l k.0.0 x m.0 s, (a, b, f, o, (u, v ++ d, g ∙ regroup c d u v i, parameters_named ps k.0.1 u m.1 t, (v, d, refl, close, k.2.2))))
to_part p z (l, (x, y, e, s, inl (a, b, f, o, (ps, (c, d, g, (u, v, i, t, close), inr (same, semicolon)))))) =
    let w = lead_outer l x s in
    subst (λ (q : ExternalTree). IsExternalDeclaration q z) (sym same)
    (w.0, w.1 ++ y, e ∙ regroup x y w.0 w.1 w.2, w.3, (w.1, y, refl, w.4, (a, b, f, o, (u, v ++ d, g ∙ regroup c d u v i, parameters_any ps u t, (v, d, refl, close, semicolon)))))

signed : (h : Heading) (xs : List Parameter) → signature_of (Some h) (map Some xs) ≡ Some (h, xs)
signed h xs = rw (some_names xs) refl

from_part : (p : ExternalTree) (z : Pieces) → IsExternalDeclaration p z → WholeText p z
from_part prototype z (p, q, e, s, (a, b, f, t, (u, v, g, o, (c, d, i, ps, (j, k, m, close, semicolon))))) =
    let w = outer_lead (p ++ a) (p, a, refl, s, t) in
    let l = any_parameters c ps in (
      w.0,
      (
        p ++ a,
        b,
        e ∙ ap (λ (r : Pieces). p ++ r) f ∙ sym (append_assoc p a b),
        w.1,
        inl (u, v, g, o, (l.0, (c ++ j, k, i ∙ ap (λ (r : Pieces). c ++ r) m ∙ sym (append_assoc c j k), (c, j, refl, l.1, close), inr (refl, semicolon)))),
      ),
    )
from_part (globals g) z s = let k = globals_in g z s in (lead.Typed g.number_type k.0, (k.1 ++ k.2, k.3, k.4, inr (k.1, k.2, refl, k.5, k.6), inr k.7))
from_part (function f) z (x, y, e, s, (p, q, i, o, (u, v, j, t, (k, l, m, close, w)))) =
    let h = head_lead f.result_type f.name x s in
    let is : signature_of (head_of h.0) (map Some f.parameters) ≡ Some ((f.result_type, f.name), f.parameters) = rw h.1 (signed (f.result_type, f.name) f.parameters) in
    let end : EndText (Some ((f.result_type, f.name), f.parameters)) (function f) l = inl ((f.body, f.end), refl, w) in (
      h.0,
      (
        x,
        y,
        e,
        inr h.2,
        inl (
          p,
          q,
          i,
          o,
          (
            map Some f.parameters,
            (
              u ++ k,
              l,
              j ∙ ap (λ (n : Pieces). u ++ n) m ∙
                  sym (append_assoc u k l),
              (u, k, refl, named_parameters f.parameters u t, close),
              subst (λ (n : Option Signature). EndText n (function f) l) (sym is) end,
            ),
          ),
        ),
      ),
    )

pub exact_part : (n d : ℕ) → d + 1 ≡ n → Exact n IsInner (part_at d) Any IsExternalDeclaration IsExternalDeclaration Free
exact_part n d e =
    let t = then (exact_lead n) (exact_rest n d e) (λ p z. WholeText p z)
    (λ l p y o s g. tt)
    (λ l z v. let k = some_signed (head_of l) in (k.0, _, (l, (z, _, refl, v, inl (_, _, refl, (some_place, refl), k.2)))))
    (λ l p x y s r. (l, (x, y, refl, s, r))) in
    retell t IsExternalDeclaration to_part from_part

-- the file ---------------------------------------------------------------------------------------------------------

to_parts : (ps : List ExternalTree) (z : Pieces) → Items IsExternalDeclaration ps z → AreExternalDeclarations ps z
to_parts [] z e = e
to_parts (p ∷ ps) z (x, y, e, s, r) = (x, y, e, s, to_parts ps y r)

from_parts : (ps : List ExternalTree) (z : Pieces) → AreExternalDeclarations ps z → Items IsExternalDeclaration ps z
from_parts [] z e = e
from_parts (p ∷ ps) z (x, y, e, s, r) = (x, y, e, s, from_parts ps y r)

part_first : (p : ExternalTree) (z : Pieces) (o : Option Token) → IsExternalDeclaration p z → begins_part (first_or z o) ≡ true
part_first p z o t =
    let w = from_part p z t in
    let s = w.1 in
    subst (λ (k : Pieces). begins_part (first_or k o) ≡ true) (sym s.2) (subst (λ (k : Option Token). begins_part k ≡ true) (sym (first_or-both s.0 s.1 o)) (lead_first w.0 s.0 (first_or s.1 o) s.3))

end_is : (k : Kind) (at p : Place) → end_of k at ≡ Some p → (k ≡ End) × (at ≡ p)
end_is (Name w) at p e = absurd cc
end_is (Number t n) at p e = absurd cc
end_is (MarkOf m) at p e = absurd cc
end_is Reserved at p e = absurd cc
end_is Unclosed at p e = absurd cc
end_is End at p e = (refl, cc)

end_token : (t : Token) (p : Place) → next_end (Some t) ≡ Some p → t ≡ record { kind = End; place = p }
end_token t p e = let k = end_is t.kind t.place p e in ap (λ (j : Kind). record { kind = j; place = t.place }) k.0 ∙ ap (λ (q : Place). record { kind = End; place = q }) k.1

abbrev pub AnyToken : Token → Type 0
AnyToken t = ⊤

exact_end : (n : ℕ) → Exact n AnyToken (take_by next_end) Any end_at end_at Free
exact_end n =
    let t = exact_take n AnyToken next_end 0 (omega arith) refl (λ t p e. tt) some_place (record { kind = End; place = some_place }) refl in
    retell t end_at (λ p z s. s.1 ∙ ap (λ (u : Token). (u, 0) ∷ []) (end_token s.0 p s.2)) (λ p z s. (record { kind = End; place = p }, s, refl))

parts_follow : (ps : List ExternalTree) (at : Place) →
    AfterLast {I = ExternalTree} Free Any ps (Some (record { kind = End; place = at })) × (begins_part (Some (record { kind = End; place = at })) ≡ false)
parts_follow ps at = (all_last Free Any ps (Some (record { kind = End; place = at })) tt (λ p. tt), refl)

abbrev FileText : FileTree → Texts
FileText t z = Both (λ ps z. Items IsExternalDeclaration ps z) (λ ps b. Of (file_of ps) end_at b) t z

to_file : (t : FileTree) (z : Pieces) → FileText t z → Spells t z
to_file t z (ps, (x, y, e, s, (at, g, r))) = subst (λ (c : FileTree). Spells c z) g (x, y, e, to_parts ps x s, r)

from_file : (t : FileTree) (z : Pieces) → Spells t z → FileText t z
from_file t z (x, y, e, s, r) = (t.parts, (x, y, e, from_parts t.parts x s, (t.end, refl, r)))

-- the parts, and the file
pub exact_parts : (n d : ℕ) → d + 1 ≡ n → Exact n IsInner (parts_at d) Any (λ ps z. Items IsExternalDeclaration ps z) (λ ps z. Items IsExternalDeclaration ps z)
    (λ ps o. AfterLast {I = ExternalTree} Free Any ps o × (begins_part o ≡ false))
exact_parts n d h =
    exact_list begins_part (entry (exact_part n d h) (λ o. begins_part o ≡ true) (λ o i. tt)) Any refl (λ p x s. part_first p x None s) (λ p o e. tt) (λ o e. tt)

pub exact_file : (n d : ℕ) → d + 1 ≡ n → Exact n AnyToken (file_at d) Any Spells Spells Free
exact_file n d h =
    let t = then (loose (exact_parts n d h))
    (λ ps. entry (mapped (exact_end n) (file_of ps) Free (λ at o f. tt) (λ at o f. tt)) (λ o. AfterLast {I = ExternalTree} Free Any ps o × (begins_part o ≡ false))
    (λ o i. tt)) FileText
    (λ ps b y o s f. subst (λ (w : Pieces). AfterLast {I = ExternalTree} Free Any ps (first_or w o) × (begins_part (first_or w o) ≡ false)) (sym s.2) (parts_follow ps s.0))
    (λ ps z v. (file_of ps some_place, _, (ps, (z, _, refl, v, (some_place, refl, refl)))))
    (λ ps b x y s r. (ps, (x, y, refl, s, r))) in
    retell t Spells to_file from_file
