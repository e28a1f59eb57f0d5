-- The first function of a name, and its place.
use Rattle.std.proofs.Common.{◌≡◌, ℕ, suc, ◌+◌, Bool, true, false, cond, List, [], ◌∷◌, refl, sym, ap, ◌∙◌, Option, Some, None, arith}
use Rattle.std.proofs.lemmas.Slice.Eq.{bytes_eq-Decides}
use Rattle.std.specs.{Option.option_or, Prelude.option_map, Prelude.bytes_eq, Prelude.String, declared.alloc.Global.Global}
use Rattle.indexmap.specs.IndexMap.{IndexMap, get_by_text}
use Rattle.lra_syntax.specs.{Functions.is_named, Functions.function_named, Trees.FunctionTree}
use Rattle.lra_resolution_spec.specs.Resolve.{function_place}
use Rattle.lra_scopes.specs.{Signatures.signature_at, Signatures.named_signature, Signatures.first_signature, declared.signatures.Signature.Signature}
use Rattle.lra_scopes.proofs.NameLaws.{same_words}

first_case : (b : Bool) (k p : ℕ) (f : FunctionTree) (o : Option FunctionTree)
    → option_or (cond b (Some (signature_at k f)) None) (option_map (signature_at (suc k + p)) o) ≡ option_map (signature_at (k + cond b 0 (suc p))) (cond b (Some f) o)
first_case true k p f o = let here : k ≡ k + 0 = omega arith in ap (λ (n : ℕ). Some (signature_at n f)) here
first_case false k p f o = let here : suc k + p ≡ k + suc p = omega arith in ap (λ (n : ℕ). option_map (signature_at n) o) here

first_from : (name : List ℕ) (k : ℕ) (fs : List FunctionTree)
    → first_signature name k fs ≡ option_map (signature_at (k + function_place fs name)) (function_named fs name)
first_from name k [] = refl
first_from name k (f ∷ fs) =
    ap (option_or (named_signature name k f)) (first_from name (suc k) fs)
    ∙ first_case (is_named name f) k (function_place fs name) f (function_named fs name)

pub first_is : (name : List ℕ) (fs : List FunctionTree) → first_signature name 0 fs ≡ option_map (signature_at (function_place fs name)) (function_named fs name)
first_is name fs =
    let here : 0 + function_place fs name ≡ function_place fs name = omega arith in
    first_from name 0 fs ∙ ap (λ (n : ℕ). option_map (signature_at n) (function_named fs name)) here

pub option_or-assoc : {X : Type 0} (a b c : Option X) → option_or (option_or a b) c ≡ option_or a (option_or b c)
option_or-assoc None b c = refl
option_or-assoc (Some x) b c = refl

pub option_or-none : {X : Type 0} (a : Option X) → option_or a None ≡ a
option_or-none None = refl
option_or-none (Some x) = refl

-- an index with a signature more

added_case : (b : Bool) (old : Option Signature) (s : Signature) → (b ≡ true → old ≡ None) → cond b (Some s) old ≡ option_or old (cond b (Some s) None)
added_case true old s none = sym (ap (λ (o : Option Signature). option_or o (Some s)) (none refl))
added_case false old s none = sym (option_or-none old)

module _ {S : Type 0} (old new : IndexMap (String Global) Signature S) where
  pub signature_added : (word : List ℕ) (place : ℕ) (f : FunctionTree) (s : Signature) → word ≡ f.name.word → s ≡ signature_at place f → get_by_text old f.name.word ≡ None
      → ((name : List ℕ) → get_by_text new name ≡ cond (bytes_eq word name) (Some s) (get_by_text old name))
      → (name : List ℕ) → get_by_text new name ≡ option_or (get_by_text old name) (named_signature name place f)
  signature_added word place f s is said none updated name =
      let same : bytes_eq word name ≡ is_named name f = ap (λ (w : List ℕ). bytes_eq w name) is ∙ same_words f.name.word name in
      updated name
      ∙ ap (λ (t : Signature). cond (bytes_eq word name) (Some t) (get_by_text old name)) said
      ∙ ap (λ (b : Bool). cond b (Some (signature_at place f)) (get_by_text old name)) same
      ∙ added_case (is_named name f) (get_by_text old name) (signature_at place f)
      (λ h. ap (get_by_text old) ((bytes_eq-Decides name f.name.word).0 h) ∙ none)
