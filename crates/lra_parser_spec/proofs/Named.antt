-- The names of parameters, of which each has one.
use Rattle.std.proofs.Common.{◌≡◌, Bool, true, false, List, [], ◌∷◌, ◌++◌, Option, Some, None, refl, sym, ap, ◌∙◌, map, option_map}
use Rattle.std.proofs.lemmas.List.{map_push}
use Rattle.lra_syntax.specs.declared.trees.Parameter.{Parameter}
use Rattle.lra_parser_spec.specs.Files.{all_named}

pub some_names : (xs : List Parameter) → all_named (map Some xs) ≡ Some xs
some_names [] = refl
some_names (x ∷ xs) = rw (some_names xs) refl

more_names : (x : Parameter) (m : Option (List Parameter)) (ps : List (Option Parameter)) (xs : List Parameter) → option_map (λ ys. x ∷ ys) m ≡ Some xs →
    ((ys : List Parameter) → m ≡ Some ys → ps ≡ map Some ys) → Some x ∷ ps ≡ map Some xs
more_names x None ps xs e h = absurd cc
more_names x (Some ys) ps xs e h = let f : x ∷ ys ≡ xs = cc in ap (λ (qs : List (Option Parameter)). Some x ∷ qs) (h ys refl) ∙ ap (λ (zs : List Parameter). map Some zs) f

pub names_some : (ps : List (Option Parameter)) (xs : List Parameter) → all_named ps ≡ Some xs → ps ≡ map Some xs
names_some [] xs e = let f : [] ≡ xs = cc in ap (λ (zs : List Parameter). map Some zs) f
names_some (None ∷ ps) xs e = absurd cc
names_some (Some x ∷ ps) xs e = more_names x (all_named ps) ps xs e (λ ys f. names_some ps ys f)

-- as the code finds them: the names so far, and whether each parameter so far has one --------------------------------

abbrev pub so_far : Bool → List Parameter → Option (List Parameter)
so_far true xs = Some xs
so_far false xs = None

names_push : (ps : List (Option Parameter)) (xs : List Parameter) (x : Parameter) → all_named ps ≡ Some xs → all_named (ps ++ Some x ∷ []) ≡ Some (xs ++ x ∷ [])
names_push ps xs x e =
    let same : ps ++ Some x ∷ [] ≡ map Some (xs ++ x ∷ []) = ap (λ (qs : List (Option Parameter)). qs ++ Some x ∷ []) (names_some ps xs e) ∙ sym (map_push Some xs x) in
    ap all_named same ∙ some_names (xs ++ x ∷ [])

lost : (x : Parameter) (m k : Option (List Parameter)) → option_map (λ ys. x ∷ ys) m ≡ None → (m ≡ None → k ≡ None) → option_map (λ ys. x ∷ ys) k ≡ None
lost x None k e h = rw (h refl) refl
lost x (Some ys) k e h = absurd cc

names_lost : (ps qs : List (Option Parameter)) → all_named ps ≡ None → all_named (ps ++ qs) ≡ None
names_lost [] qs e = absurd cc
names_lost (None ∷ ps) qs e = refl
names_lost (Some x ∷ ps) qs e = lost x (all_named ps) (all_named (ps ++ qs)) e (λ f. names_lost ps qs f)

names_stop : (ps : List (Option Parameter)) → all_named (ps ++ None ∷ []) ≡ None
names_stop [] = refl
names_stop (None ∷ ps) = refl
names_stop (Some x ∷ ps) = rw (names_stop ps) refl

pub next_named : (ps : List (Option Parameter)) (xs ys : List Parameter) (b : Bool) (p : Option Parameter) (x : Parameter) → p ≡ Some x → ys ≡ xs ++ x ∷ [] → all_named ps ≡ so_far b xs →
    all_named (ps ++ p ∷ []) ≡ so_far b ys
next_named ps xs ys true p x e f h = rw (e, f) (names_push ps xs x h)
next_named ps xs ys false p x e f h = names_lost ps (p ∷ []) h

pub next_unnamed : (ps : List (Option Parameter)) (p : Option Parameter) → p ≡ None → all_named (ps ++ p ∷ []) ≡ None
next_unnamed ps p e = rw e (names_stop ps)
