-- How far a source is read, a piece at a time.
use Rattle.std.proofs.Common.{◌≡◌, ℕ, ◌+◌, ◌<◌, ◌≤◌, Bool, true, List, [], ◌∷◌, ◌++◌, length, take, drop, Option, Some, None, refl, sym, ap, ◌∙◌, subst, arith, append_assoc, length-append}
use Rattle.std.proofs.lemmas.List.{append-nil, take-append-drop}
use Rattle.lra_base.specs.declared.error.SourceError.TheVariants.{Refused, Memory}
use Rattle.lra_base.specs.{Places.place_from, Places.place_after, Refused.IfRefusal, declared.error.SourceError.SourceError, declared.refusals.Cause.Cause, declared.refusals.Cause.TheVariants.BadByte}
use Rattle.lra_base.specs.{declared.refusals.Cause.TheVariants.BadLiteral, declared.refusals.Place.Place, declared.refusals.Refusal.Refusal}
use Rattle.lra_syntax.specs.Tokens.{IsGap, NoGap, IsToken, Fragment, gap, token, bytes_of, tokens_of, IsReading, IsFaulty}
use Rattle.lra_syntax.specs.{declared.tokens.Kind.Kind, declared.tokens.Token.Token}
use Rattle.lra_lex.specs.{Places.fresh_after_bytes, Prefixes.HasNoGap, Read.BeginsToken, Read.HasFault, Read.BeginsFound, Read.FaultsAt, Read.found_tokens}
use Rattle.lra_lex.proofs.LineLemmas.{place_from-append, fresh_behind-append, within}

-- what was found -----------------------------------------------------------------------------------------------------------

pub found_token : (fresh : Bool) (rest : List ℕ) (n : ℕ) (k : Kind) → HasNoGap fresh rest → BeginsToken rest n k → BeginsFound fresh rest (record { length = n; kind = Some k })
found_token fresh rest n k h t = record {
  some = t.some;
  within = t.within;
  is_found = λ before f. let e = take-append-drop n rest in (rw e (h.no_gap before f), rw e t.longest, t.spells);
}

faulty : (cause : Cause) (before rest : List ℕ) → 0 < length rest → NoGap before rest → HasFault cause rest → IsFaulty cause before rest
faulty BadByte before rest l n h = (λ e. let k = ap (λ (z : List ℕ). length z) e in omega (arith, k), n, h)
faulty BadLiteral before rest l n h = (n, h.0, h.1, h.2, h.3)
faulty _ before rest l n h = absurd h

pub fault_at : (place : Place) (fresh : Bool) (rest : List ℕ) (r : Refusal) → 0 < length rest → HasNoGap fresh rest → (r.place ≡ place) × HasFault r.cause rest → FaultsAt place fresh rest r
fault_at place fresh rest r l n h = record { at_place = h.0; faulty = λ before f. faulty r.cause before rest l (n.no_gap before f) h.1 }

pub refusal_at : (place : Place) (fresh : Bool) (rest : List ℕ) (e : SourceError) → 0 < length rest → HasNoGap fresh rest → IfRefusal (λ r. (r.place ≡ place) × HasFault r.cause rest) e →
    IfRefusal (FaultsAt place fresh rest) e
refusal_at place fresh rest (Refused r) l n h = fault_at place fresh rest r l n h
refusal_at place fresh rest Memory l n h = tt

-- the source is read up to rest
pub record IsReadTo (source rest : List ℕ) (tokens : List Token) (place : Place) (fresh : Bool) : Type 0 where
  pub pieces : List Fragment
  pub parts : source ≡ bytes_of pieces ++ rest
  pub reading : IsReading [] pieces rest
  pub tokens_are : tokens ≡ tokens_of pieces
  pub place_is : place ≡ place_after (bytes_of pieces)
  pub fresh_is : fresh ≡ fresh_after_bytes true (bytes_of pieces)

-- one piece more -------------------------------------------------------------------------------------------------------------

abbrev bytes_in : Fragment → List ℕ
bytes_in (gap bytes) = bytes
bytes_in (token bytes t) = bytes

abbrev tokens_in : Fragment → List Token
tokens_in (gap bytes) = []
tokens_in (token bytes t) = t ∷ []

abbrev IsFragment : List ℕ → Fragment → List ℕ → Type 0
IsFragment before (gap bytes) after = IsGap before bytes after
IsFragment before (token bytes t) after = IsToken before bytes (bytes ++ after) t

bytes_push : (ps : List Fragment) (p : Fragment) → bytes_of (ps ++ p ∷ []) ≡ bytes_of ps ++ bytes_in p
bytes_push [] (gap bytes) = append-nil bytes
bytes_push [] (token bytes t) = append-nil bytes
bytes_push (gap bytes ∷ ps) p = ap (λ (z : List ℕ). bytes ++ z) (bytes_push ps p) ∙ sym (append_assoc bytes (bytes_of ps) (bytes_in p))
bytes_push (token bytes t ∷ ps) p = ap (λ (z : List ℕ). bytes ++ z) (bytes_push ps p) ∙ sym (append_assoc bytes (bytes_of ps) (bytes_in p))

tokens_push : (ps : List Fragment) (p : Fragment) → tokens_of (ps ++ p ∷ []) ≡ tokens_of ps ++ tokens_in p
tokens_push [] (gap bytes) = refl
tokens_push [] (token bytes t) = refl
tokens_push (gap bytes ∷ ps) p = tokens_push ps p
tokens_push (token bytes t ∷ ps) p = ap (λ (z : List Token). t ∷ z) (tokens_push ps p)

behind_is : (ps : List Fragment) (p : Fragment) (after : List ℕ) → bytes_of ps ++ (bytes_in p ++ after) ≡ bytes_of (ps ++ p ∷ []) ++ after
behind_is ps p after = sym (append_assoc (bytes_of ps) (bytes_in p) after) ∙ ap (λ (z : List ℕ). z ++ after) (sym (bytes_push ps p))

reading_push : (before : List ℕ) (ps : List Fragment) (p : Fragment) (after : List ℕ) → IsReading before ps (bytes_in p ++ after) → IsFragment (before ++ bytes_of ps) p after →
    IsReading before (ps ++ p ∷ []) after
reading_push before [] (gap bytes) after r h = (subst (λ (z : List ℕ). IsGap z bytes after) (append-nil before) h, tt)
reading_push before [] (token bytes t) after r h = (subst (λ (z : List ℕ). IsToken z bytes (bytes ++ after) t) (append-nil before) h, tt)
reading_push before (gap bytes ∷ ps) p after r h = (
  subst (λ (z : List ℕ). IsGap before bytes z) (behind_is ps p after) r.0,
  reading_push (before ++ bytes) ps p after r.1 (subst (λ (z : List ℕ). IsFragment z p after) (sym (append_assoc before bytes (bytes_of ps))) h),
)
reading_push before (token bytes t ∷ ps) p after r h = (
  subst (λ (z : List ℕ). IsToken before bytes (bytes ++ z) t) (behind_is ps p after) r.0,
  reading_push (before ++ bytes) ps p after r.1 (subst (λ (z : List ℕ). IsFragment z p after) (sym (append_assoc before bytes (bytes_of ps))) h),
)

read_more : (source rest s after : List ℕ) (tokens : List Token) (place : Place) (fresh : Bool) (p : Fragment) (r : IsReadTo source rest tokens place fresh) → rest ≡ s ++ after → bytes_in p ≡ s
    → IsFragment (bytes_of r.pieces) p after → IsReadTo source after (tokens ++ tokens_in p) (place_from place s) (fresh_after_bytes fresh s)
read_more source rest s after tokens place fresh p r e b h =
    let push : bytes_of (r.pieces ++ p ∷ []) ≡ bytes_of r.pieces ++ s = bytes_push r.pieces p ∙ ap (λ (z : List ℕ). bytes_of r.pieces ++ z) b in
    let more : rest ≡ bytes_in p ++ after = e ∙ ap (λ (z : List ℕ). z ++ after) (sym b) in
    record {
      pieces = r.pieces ++ p ∷ [];
      parts = r.parts ∙ ap (λ (z : List ℕ). bytes_of r.pieces ++ z) more ∙ behind_is r.pieces p after;
      reading = reading_push [] r.pieces p after (subst (λ (z : List ℕ). IsReading [] r.pieces z) more r.reading) h;
      tokens_are = ap (λ (z : List Token). z ++ tokens_in p) r.tokens_are ∙ sym (tokens_push r.pieces p);
      place_is = ap (λ (z : Place). place_from z s) r.place_is ∙ sym (place_from-append (record { line = 1; column = 1 }) (bytes_of r.pieces) s) ∙ ap place_after (sym push);
      fresh_is = ap (λ (z : Bool). fresh_after_bytes z s) r.fresh_is ∙ sym (fresh_behind-append true (bytes_of r.pieces) s)
          ∙ ap (fresh_after_bytes true) (sym push);
    }

step : (source rest : List ℕ) (tokens : List Token) (place : Place) (fresh : Bool) (n : ℕ) (k : Option Kind) → IsReadTo source rest tokens place fresh →
    BeginsFound fresh rest (record { length = n; kind = k })
    → IsReadTo source (drop n rest) (tokens ++ found_tokens k place) (place_from place (take n rest)) (fresh_after_bytes fresh (take n rest))
step source rest tokens place fresh n None r f =
    read_more source rest (take n rest) (drop n rest) tokens place fresh (gap (take n rest)) r (sym (take-append-drop n rest)) refl (f.is_found (bytes_of r.pieces) r.fresh_is)
step source rest tokens place fresh n (Some k) r f =
    let h = f.is_found (bytes_of r.pieces) r.fresh_is in
    read_more source rest (take n rest) (drop n rest) tokens place fresh (token (take n rest) (record { kind = k; place = place })) r (sym (take-append-drop n rest)) refl
    (record { no_gap = h.0; longest = h.1; spells = h.2; place = r.place_is })

-- as the code goes on
pub read_on : (source rest bytes behind : List ℕ) (tokens kept : List Token) (place place' : Place) (fresh fresh' : Bool) (n : ℕ) (k : Option Kind)
    → IsReadTo source rest tokens place fresh → BeginsFound fresh rest (record { length = n; kind = k }) → bytes ≡ take n rest → behind ≡ drop n rest → kept ≡ tokens ++ found_tokens k place
    → place' ≡ place_from place bytes → fresh' ≡ fresh_after_bytes fresh bytes → IsReadTo source behind kept place' fresh'
read_on source rest bytes behind tokens kept place place' fresh fresh' n k r f e b t p q = rw (b, t, p, q, e) (step source rest tokens place fresh n k r f)

pub read_within : (source rest : List ℕ) (tokens : List Token) (place : Place) (fresh : Bool) → IsReadTo source rest tokens place fresh
    → (place.line + length rest ≤ length source + 1) × (place.column + length rest ≤ length source + 1)
read_within source rest tokens place fresh r =
    let w = within (record { line = 1; column = 1 }) (bytes_of r.pieces) in
    let l = ap (λ (z : Place). z.line) r.place_is in
    let c = ap (λ (z : Place). z.column) r.place_is in
    let n = ap (λ (z : List ℕ). length z) r.parts in
    (omega (arith, w.0, l, n, length-append (bytes_of r.pieces) rest), omega (arith, w.1, c, n, length-append (bytes_of r.pieces) rest))
