-- What a session answers: membership of a point, tried constraint by constraint; and what its names stand for.
use Rattle.std.proofs.Common.{◌≡◌, ◌-◌, ℕ, zero, suc, ℤ, pos, negsuc, Bool, true, false, cond, nat_eq, List, [], ◌∷◌, ◌++◌, length, get_or, take, drop, refl, ap, sym, ◌∙◌, subst, inl, inr, arith}
use Rattle.std.proofs.Common.{append-nil, bytes_eq, Option, Some, None, Result, Ok, Err, IsOk, IsErr}
use Rattle.std.proofs.{lemmas.Bool.Decides.nat_tests, lemmas.Int.ints, lemmas.List.take_rest, lemmas.List.Elements.All-nil, lemmas.List.Elements.All-cons, lemmas.Result.err_from_is_err_and}
use Rattle.std.specs.{List.All, Map.update, Prelude.◌+◌, Prelude.IfSome, Prelude.option_map, Result.IsErrAnd}
use Rattle.lra_calc.specs.Crates.lra_linear_spec.Descriptions.{LinearRow, Holds, HoldsWith, Con as points_of}
use Rattle.lra_calc.specs.Crates.lra_systems.Membership.{HoldsInRange, DecidesMembership}
use Rattle.lra_calc.specs.Crates.lra_systems.declared.membership.MembershipAnswer.TheVariants.{Yes, No, Wide}
use Rattle.lra_calc.specs.Crates.{lra_linear_spec.CheckedArithmetic.checked_product, lra_linear_spec.Polyhedra.Polyhedron, lra_linear_spec.Vectors.product, lra_linear_spec.declared.Excess.Excess}
use Rattle.lra_calc.proofs.Crates.lra_linear_spec.CheckedArithmetic.{checked_product_value}
use Rattle.lra_calc.proofs.Crates.lra_linear_spec.Membership.{contains_none, contains_head, contains_tail, contains_cases}
use Rattle.lra_calc.specs.Crates.lra_systems.declared.membership.MembershipAnswer as H
use Rattle.lra_calc.specs.Script as script
use Rattle.lra_script.specs.{LineForms.line_of, ScriptText.is_skipped, ScriptText.words}
use Rattle.lra_calc.specs.{Views.answered, Views.fault_of, Views.session_of, Views.IsUnknown, Views.Gives, Views.StepsTo, Views.Ends, declared.refusal.CalcError.CalcError}
use Rattle.lra_calc.specs.{declared.refusal.Fault.Fault, declared.refusal.LineError.LineError, declared.refusal.LineError.TheVariants.Refused, declared.refusal.LineError.TheVariants.Memory}
use Rattle.lra_calc.specs.declared.session.Session as S
use Rattle.lra_calc.specs.declared.refusal.CalcRefusal.TheVariants as refusal
use Rattle.lra_calc.specs.declared.refusal.CalcError.TheVariants as calc_error
use Rattle.lra_calc.proofs.MakingLemmas.{all_tail}

-- ---- membership
met : (equal : Bool) (p : ℤ) → HoldsWith equal p → script.is_met equal p ≡ true
met true p h = ap (script.is_met true) h
met false (pos n) h = refl
met false (negsuc n) h = absurd (omega arith)

not_zero : (n : ℕ) → nat_eq (suc n) 0 ≡ false
not_zero n = grind (arith, nat_tests)

unmet : (equal : Bool) (p : ℤ) → (HoldsWith equal p → ⊥) → script.is_met equal p ≡ false
unmet true (pos zero) h = absurd (h refl)
unmet true (pos (suc n)) h = not_zero n
unmet true (negsuc n) h = refl
unmet false (pos n) h = absurd (h (omega (arith, ints)))
unmet false (negsuc n) h = refl

decided_yes : (g : LinearRow) (x : List ℤ) (q : Result ℤ Excess) (later : Option Bool) → q ≡ checked_product g.row x → IsOk q → Holds g x → script.decided g.equal q later ≡ later
decided_yes g x (Ok p) later e ok h =
    let value : p ≡ product g.row x = checked_product_value g.row x (Ok p) e in
    ap (λ (b : Bool). cond b later (Some false)) (met g.equal p (subst (λ (z : ℤ). HoldsWith g.equal z) (sym value) h))
decided_yes g x (Err f) later e ok h = absurd (cc)

decided_no : (g : LinearRow) (x : List ℤ) (q : Result ℤ Excess) (later : Option Bool) → q ≡ checked_product g.row x → IsOk q → (Holds g x → ⊥) → script.decided g.equal q later ≡ Some false
decided_no g x (Ok p) later e ok h =
    let value : p ≡ product g.row x = checked_product_value g.row x (Ok p) e in
    ap (λ (b : Bool). cond b later (Some false)) (unmet g.equal p (λ k. h (subst (λ (z : ℤ). HoldsWith g.equal z) value k)))
decided_no g x (Err f) later e ok h = absurd (cc)

decided_wide : (g : LinearRow) (q : Result ℤ Excess) (later : Option Bool) → IsErr q → script.decided g.equal q later ≡ None
decided_wide g (Ok p) later err = absurd (cc)
decided_wide g (Err f) later err = refl

session_after : (x : List ℤ) (earlier rest : List LinearRow) → All (HoldsInRange x) earlier → script.membership (earlier ++ rest) x ≡ script.membership rest x
session_after x [] rest a = refl
session_after x (g ∷ gs) rest a =
    let here = a 0 g (omega arith) in
    decided_yes g x (checked_product g.row x) (script.membership (gs ++ rest) x) refl here.0 here.1 ∙ session_after x gs rest (all_tail (HoldsInRange x) g gs a)

pub answer_is : (rows : List LinearRow) (x : List ℤ) (a : H.MembershipAnswer) → DecidesMembership rows x a → script.membership rows x ≡ answered a
answer_is rows x Yes a = ap (λ (gs : List LinearRow). script.membership gs x) (sym (append-nil rows)) ∙ session_after x rows [] a
answer_is rows x (No place) a =
    ap (λ (gs : List LinearRow). script.membership gs x) a.is ∙ session_after x a.earlier (a.member ∷ a.later) a.before
    ∙ decided_no a.member x (checked_product a.member.row x) (script.membership a.later x) refl a.here.0 a.here.1
answer_is rows x (Wide place) a =
    ap (λ (gs : List LinearRow). script.membership gs x) a.is ∙ session_after x a.earlier (a.member ∷ a.later) a.before
    ∙ decided_wide a.member (checked_product a.member.row x) (script.membership a.later x) a.here

pub point_is : (x : List ℤ) (n : ℕ) → length x ≡ suc n → get_or x 0 (pos 0) ∷ take (length x - 1) (drop 1 x) ≡ x
point_is [] n e = cc
point_is (d ∷ ds) n e = ap (λ (t : List ℤ). d ∷ t) (take_rest (d ∷ ds) 1)

-- ---- the set of points
-- what an answer says of it, and that a row passes if it is wide
abbrev Tells : List LinearRow → List ℤ → Option Bool → Type 0
Tells rows x (Some true) = points_of rows x
Tells rows x (Some false) = points_of rows x → ⊥
Tells rows x None = script.PassesFirst rows x

passes_later : (g : LinearRow) (gs : List LinearRow) (x : List ℤ) → HoldsInRange x g → script.PassesFirst gs x → script.PassesFirst (g ∷ gs) x
passes_later g gs x h w = (
  suc w.0,
  record {
    earlier = g ∷ w.1.earlier;
    member = w.1.member;
    later = w.1.later;
    is = ap (λ (fs : List LinearRow). g ∷ fs) w.1.is;
    at = let a = w.1.at in omega (arith, a);
    before = All-cons (HoldsInRange x) g w.1.earlier h w.1.before;
    here = w.1.here;
  },
)

later_tells : (g : LinearRow) (gs : List LinearRow) (x : List ℤ) (m : Option Bool) → HoldsInRange x g → Tells gs x m → Tells (g ∷ gs) x m
later_tells g gs x (Some true) h told = λ f k. elim (contains_cases g f gs k) [ inl e ↦ subst (λ (f : LinearRow). Holds f x) e h.1 | inr k ↦ told f k ]
later_tells g gs x (Some false) h told = λ all. told (λ f k. all f (contains_tail g f gs k))
later_tells g gs x None h told = passes_later g gs x h told

met_holds : (equal : Bool) (p : ℤ) → script.is_met equal p ≡ true → HoldsWith equal p
met_holds true (pos zero) h = refl
met_holds true (pos (suc n)) h = absurd (let e = not_zero n in cc)
met_holds true (negsuc n) h = cc
met_holds false (pos n) h = omega (arith, ints)
met_holds false (negsuc n) h = cc

decided_tells : (g : LinearRow) (gs : List LinearRow) (x : List ℤ) (p : ℤ) (b : Bool) (m : Option Bool) → IsOk (checked_product g.row x) → p ≡ product g.row x → script.is_met g.equal p ≡ b →
    Tells gs x m → Tells (g ∷ gs) x (cond b m (Some false))
decided_tells g gs x p true m ok value e told = later_tells g gs x m (ok, subst (λ (z : ℤ). HoldsWith g.equal z) value (met_holds g.equal p e)) told
decided_tells g gs x p false m ok value e told = λ all.
    let h : Holds g x = all g (contains_head g gs) in
    let t = met g.equal p (subst (λ (z : ℤ). HoldsWith g.equal z) (sym value) h) in
    absurd (cc)

first_tells : (g : LinearRow) (gs : List LinearRow) (x : List ℤ) (q : Result ℤ Excess) (m : Option Bool) → q ≡ checked_product g.row x → Tells gs x m → Tells (g ∷ gs) x (script.decided g.equal q m)
first_tells g gs x (Ok p) m e told =
    decided_tells g gs x p (script.is_met g.equal p) m (subst (λ (z : Result ℤ Excess). IsOk z) e refl) (checked_product_value g.row x (Ok p) e) refl told
first_tells g gs x (Err f) m e told = (
  0,
  record {
    earlier = [];
    member = g;
    later = gs;
    is = refl;
    at = refl;
    before = All-nil (HoldsInRange x);
    here = subst (λ (z : Result ℤ Excess). IsErr z) e refl;
  },
)

all_tell : (rows : List LinearRow) (x : List ℤ) → Tells rows x (script.membership rows x)
all_tell [] x = λ f k. absurd (contains_none f k)
all_tell (g ∷ gs) x = first_tells g gs x (checked_product g.row x) (script.membership gs x) refl (all_tell gs x)

wide_answer : (rows : List LinearRow) (x : List ℤ) (b : Bool) → Some b ≡ script.membership rows x → script.PassesFirst rows x → ⊥
wide_answer rows x b e w = let n : script.membership rows x ≡ None = answer_is rows x (Wide w.0) w.1 in cc

with_wide : (rows : List LinearRow) (x : List ℤ) (m : Option Bool) → m ≡ script.membership rows x → Tells rows x m → script.IsMembershipAnswer rows x m
with_wide rows x (Some true) e told = (told, wide_answer rows x true e)
with_wide rows x (Some false) e told = (told, wide_answer rows x false e)
with_wide rows x None e told = told

pub membership_tells : (rows : List LinearRow) (x : List ℤ) → script.IsMembershipAnswer rows x (script.membership rows x)
membership_tells rows x = with_wide rows x (script.membership rows x) refl (all_tell rows x)

-- ---- names
fit_by_name : (b : Bool) (o : Option Polyhedron) (p : Polyhedron) (dims : ℕ) → p.dims ≡ dims → IfSome o (λ q. q.dims ≡ dims) → IfSome (cond b (Some p) o) (λ q. q.dims ≡ dims)
fit_by_name true o p dims e h = e
fit_by_name false o p dims e h = h

pub fit_with : (f g : List ℕ → Option Polyhedron) (name : List ℕ) (p : Polyhedron) (dims : ℕ) → p.dims ≡ dims → ((cs : List ℕ) → g cs ≡ update bytes_eq f name (Some p) cs)
    → ((cs : List ℕ) → IfSome (f cs) (λ q. q.dims ≡ dims)) → (cs : List ℕ) → IfSome (g cs) (λ q. q.dims ≡ dims)
fit_with f g name p dims e same fit cs =
    subst (λ (o : Option Polyhedron). IfSome o (λ q. q.dims ≡ dims)) (sym (same cs)) (fit_by_name (bytes_eq name cs) (f cs) p dims e (fit cs))

-- ---- answers by steps
-- the name isn't known
pub unknown_gives : {A B : Type 0} (view : A → B) (Told : Polyhedron → Result B script.Fault → Type 0) (name : List ℕ) (o : Option Polyhedron) (e : LineError) → IsUnknown name o e →
    Gives view (let r : Result A LineError = Err e in r) (script.WithSet name o Told)
unknown_gives view Told name o (Refused f) u =
    subst (λ (x : Option Polyhedron). script.WithSet name x Told (Err (fault_of f))) (sym u.0) (ap Err u.1)
unknown_gives view Told name o Memory u = tt

-- it is
pub known_gives : {A B : Type 0} (view : A → B) (Told : Polyhedron → Result B script.Fault → Type 0) (name : List ℕ) (o : Option Polyhedron) (p : Polyhedron) (r : Result A LineError) → o ≡ Some p →
    Gives view r (Told p) → Gives view r (script.WithSet name o Told)
known_gives view Told name o p r e h = subst (λ (x : Option Polyhedron). Gives view r (script.WithSet name x Told)) (sym e) h

pub fault_gives : {A B : Type 0} (view : A → B) (Told : Result B script.Fault → Type 0) (o : Option script.Fault) (f : Fault) → o ≡ Some (fault_of f) →
    Gives view (let r : Result A LineError = Err (Refused f) in r) (script.Unless o Told)
fault_gives view Told o f e = subst (λ (x : Option script.Fault). script.Unless x Told (Err (fault_of f))) (sym e) refl

pub right_gives : {A B : Type 0} (view : A → B) (Told : Result B script.Fault → Type 0) (o : Option script.Fault) (r : Result A LineError) → o ≡ None → Gives view r Told →
    Gives view r (script.Unless o Told)
right_gives view Told o r e h = subst (λ (x : Option script.Fault). Gives view r (script.Unless x Told)) (sym e) h

-- a line whose recipe or question is refused
pub refused_brings : {A B C : Type 0} (view : A → B) (other : C → script.Session) (Told : Result B script.Fault → Type 0) (step : B → script.Session) (e : LineError) →
    Gives view (let r : Result A LineError = Err e in r) Told → Gives other (let r : Result C LineError = Err e in r) (script.Brings Told step)
refused_brings view other Told step (Refused f) h = record { outcome = Err (fault_of f); told = h; is = refl }
refused_brings view other Told step Memory h = tt

-- and one that is carried out
pub given_brings : {B : Type 0} (Told : Result B script.Fault → Type 0) (step : B → script.Session) (b : B) (t : script.Session) → Told (Ok b) → t ≡ step b → script.Brings Told step (Ok t)
given_brings Told step b t h e = record { outcome = Ok b; told = h; is = ap Ok e }

-- a line that is refused, and the end that it is of all lines
pub refused_steps : (number : ℕ) (s : Option S.Session) (line : List ℕ) (f : Fault) → is_skipped line ≡ false →
    script.AfterForm number (option_map session_of s) (line_of (words line)) (Err (fault_of f))
    → StepsTo number s line (Err (calc_error.Refused (refusal.Line number f)))
refused_steps number s line f seen h = λ rest. (
  option_map session_of s,
  let end : script.End = Err (script.stopped number (option_map session_of s) (fault_of f)) in
      subst (λ (b : Bool). script.SkipsOr b (script.CarriesOut (number + 1) (option_map session_of s) rest end)
      (script.Performs number (option_map session_of s) line (λ t. script.CarriesOut (number + 1) t rest end) end)) (sym seen)
      (record { result = Err (fault_of f); after = h; goes_on = refl }),
)

pub stop_ends : (number : ℕ) (s : Option S.Session) (line : List ℕ) (rest : List (List ℕ)) (e : CalcError) (Told : script.End → Type 0) → StepsTo number s line (Err e) →
    ((end : script.End) → script.CarriesOut number (option_map session_of s) (line ∷ rest) end → Told end) → Ends (Err e) Told
stop_ends number s line rest (calc_error.Refused (refusal.Line at f)) Told h step = let w = h rest in (w.0, step _ w.1)
stop_ends number s line rest (calc_error.Refused (refusal.TooLong place)) Told h step = absurd h
stop_ends number s line rest calc_error.Memory Told h step = tt

-- ---- exits by the error of a call
pub exit_unknown : {A B : Type 0} (view : A → B) (Told : Polyhedron → Result B script.Fault → Type 0) (name : List ℕ) (o : Option Polyhedron) (x : Result A LineError) (e : LineError) →
    IsErrAnd x (λ y. y ≡ e) → IsUnknown name o e → Gives view x (script.WithSet name o Told)
exit_unknown view Told name o x e is u = let p = err_from_is_err_and x is in rw (p.1, p.2) (unknown_gives view Told name o e u)

pub exit_brings : {A B C : Type 0} (view : A → B) (other : C → script.Session) (Told : Result B script.Fault → Type 0) (step : B → script.Session) (r : Result A LineError) (x : Result C LineError)
    (e : LineError) → IsErrAnd x (λ y. y ≡ e) → r ≡ Err e → Gives view r Told → Gives other x (script.Brings Told step)
exit_brings view other Told step r x e is same h =
    let p = err_from_is_err_and x is in rw (p.1, p.2) (refused_brings view other Told step e (rw same at h))
