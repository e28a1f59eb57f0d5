-- The calls of a source are read from its labels.
use Rattle.std.proofs.Common.{◌≡◌, ◌+◌, ◌-◌, ◌<◌, ◌≤◌, ℕ, zero, suc, List, [], ◌∷◌, ◌++◌, length, map, take, drop, Option, Some, None, slice_get, refl, sym, ap, ◌∙◌, arith, append_assoc, append-nil}
use Rattle.std.proofs.{Common.length-append, Math.Seq.take-append_seam, Math.Seq.drop-append_seam, lemmas.Option.none-some, lemmas.Option.same_Some}
use Rattle.std.specs.Prelude.{option_to_list, flat_map}
use Rattle.lra_recursion.specs.Crates.lra_resolution_spec.Resolve.{resolved_functions, resolve_parts, items_count, function_place}
use Rattle.lra_recursion.specs.Crates.lra_syntax.Trees.{FunctionTree, ExternalTree, prototype, globals, function, FileTree}
use Rattle.lra_recursion.specs.Crates.{lra_program.ProgramViews.function_view, lra_program.declared.program.Function.Function, lra_resolution_spec.Scope.SymbolEntry, lra_syntax.Functions.functions_in}
use Rattle.lra_recursion.specs.Crates.{lra_syntax.Functions.functions_of, lra_syntax.Labels.Labelled, lra_syntax.Labels.function_labels, lra_syntax.Labels.labels_of, lra_syntax.Labels.label_at}
use Rattle.lra_recursion.specs.Crates.{lra_syntax.Reach.called_names, lra_syntax.Reach.calls_of, lra_syntax.Reach.calls_in, lra_syntax.declared.trees.Identifier.Identifier}
use Rattle.lra_recursion.specs.Crates.lra_program.Program as program
use Rattle.lra_recursion.proofs.Crates.lra_resolution_spec.LabelCounts.{count_items}
use Rattle.lra_recursion.specs.{Calls.call_of, Calls.calls_by, Calls.calls_among, Calls.first_places, Calls.called_at, Calls.labels_between, Calls.calls_behind, declared.calls.Call.Call}
use Rattle.lra_recursion.proofs.Placing.{known_places}

calls_both : (F : List FunctionTree) (k : ℕ) (a b : List Identifier) → calls_by F k (a ++ b) ≡ calls_by F k a ++ calls_by F k b
calls_both F k [] b = refl
calls_both F k (x ∷ a) b = ap (λ cs. option_to_list (call_of F k x) ++ cs) (calls_both F k a b) ∙ sym (append_assoc (option_to_list (call_of F k x)) (calls_by F k a) (calls_by F k b))

-- the first label from a place on, and those after it
first_called : (ls : List Labelled) (i n : ℕ) → called_names (take (suc n) (drop i ls)) ≡ called_at (slice_get ls i) ++ called_names (take n (drop (suc i) ls))
first_called [] zero zero = refl
first_called [] zero (suc n) = refl
first_called [] (suc i) zero = refl
first_called [] (suc i) (suc n) = refl
first_called (l ∷ ls) zero n = refl
first_called (l ∷ ls) (suc i) n = first_called ls i n

one_label : (F : List FunctionTree) (k : ℕ) (ls : List Labelled) (i end : ℕ) → i < end
    → calls_by F k (called_names (labels_between ls i end)) ≡ calls_by F k (called_at (slice_get ls i)) ++ calls_by F k (called_names (labels_between ls (suc i) end))
one_label F k ls i end l =
    let n : end - i ≡ suc (end - suc i) = omega (arith, l) in
    ap (λ m. calls_by F k (called_names (take m (drop i ls)))) n ∙ ap (calls_by F k) (first_called ls i (end - suc i))
    ∙ calls_both F k (called_at (slice_get ls i)) (called_names (labels_between ls (suc i) end))

no_label : (ls : List Labelled) (i end : ℕ) → end ≤ i → labels_between ls i end ≡ []
no_label ls i end l = let n : end - i ≡ 0 = omega (arith, l) in ap (λ m. take m (drop i ls)) n

-- the labels that are left, after one more
pub further_label : (F : List FunctionTree) (k : ℕ) (ls : List Labelled) (i end : ℕ) (o : Option Call) (old new whole : List Call) → i < end
    → option_to_list o ≡ calls_by F k (called_at (label_at ls (i + 1))) → new ≡ old ++ option_to_list o
    → old ++ calls_by F k (called_names (labels_between ls i end)) ≡ whole → new ++ calls_by F k (called_names (labels_between ls (i + 1) end)) ≡ whole
further_label F k ls i end o old new whole l found grown before =
    let n : i + 1 ≡ suc i = omega arith in
    let behind = calls_by F k (called_names (labels_between ls (suc i) end)) in
    let here : option_to_list o ≡ calls_by F k (called_at (slice_get ls i)) = found ∙ ap (λ m. calls_by F k (called_at (label_at ls m))) n in
    ap (λ m. new ++ calls_by F k (called_names (labels_between ls m end))) n
    ∙ ap (λ cs. cs ++ behind) (grown ∙ ap (λ cs. old ++ cs) here) ∙ append_assoc old (calls_by F k (called_at (slice_get ls i))) behind
    ∙ ap (λ cs. old ++ cs) (sym (one_label F k ls i end l)) ∙ before

pub all_labels : (F : List FunctionTree) (k : ℕ) (ls : List Labelled) (i end : ℕ) (old whole : List Call) → end ≤ i
    → old ++ calls_by F k (called_names (labels_between ls i end)) ≡ whole → old ≡ whole
all_labels F k ls i end old whole l before =
    sym (append-nil old) ∙ ap (λ bs. old ++ calls_by F k (called_names bs)) (sym (no_label ls i end l)) ∙ before

-- what is read for a function whose caller stands at a place
abbrev pub own_calls : List FunctionTree → List Labelled → ℕ → ℕ → Option ℕ → List Call
own_calls F ls before end None = []
own_calls F ls before end (Some k) = calls_by F k (called_names (labels_between ls before end))

no_callers : (F : List FunctionTree) (ls : List Labelled) (before : ℕ) (fs : List program.Function) → calls_behind F ls before [] fs ≡ []
no_callers F ls before [] = refl
no_callers F ls before (f ∷ fs) = refl

behind_function : (F : List FunctionTree) (ls : List Labelled) (before : ℕ) (ks : List ℕ) (fs : List Function) (f : Function) (i : ℕ) → slice_get fs i ≡ Some f
    → calls_behind F ls before (drop i ks) (map function_view (drop i fs))
    ≡ own_calls F ls before f.end (slice_get ks i) ++ calls_behind F ls f.end (drop (suc i) ks) (map function_view (drop (suc i) fs))
behind_function F ls before ks [] f i at = absurd (none-some f at)
behind_function F ls before [] (g ∷ fs) f zero at = sym (no_callers F ls f.end (map function_view fs))
behind_function F ls before (k ∷ ks) (g ∷ fs) f zero at =
    ap (λ (h : Function). own_calls F ls before h.end (Some k) ++ calls_behind F ls h.end ks (map function_view fs)) (same_Some g f at)
behind_function F ls before [] (g ∷ fs) f (suc i) at = no_callers F ls before (map function_view (drop i fs)) ∙ sym (no_callers F ls f.end (map function_view (drop (suc i) fs)))
behind_function F ls before (k ∷ ks) (g ∷ fs) f (suc i) at = behind_function F ls before ks fs f i at

pub further_function : (F : List FunctionTree) (ls : List Labelled) (before : ℕ) (ks : List ℕ) (fs : List Function) (f : Function) (i : ℕ) (old new whole : List Call)
    → slice_get fs i ≡ Some f → new ≡ old ++ own_calls F ls before f.end (slice_get ks i)
    → old ++ calls_behind F ls before (drop i ks) (map function_view (drop i fs)) ≡ whole
    → new ++ calls_behind F ls f.end (drop (i + 1) ks) (map function_view (drop (i + 1) fs)) ≡ whole
further_function F ls before ks fs f i old new whole at grown before_it =
    let n : i + 1 ≡ suc i = omega arith in
    let own = own_calls F ls before f.end (slice_get ks i) in
    let behind = calls_behind F ls f.end (drop (suc i) ks) (map function_view (drop (suc i) fs)) in
    ap (λ m. new ++ calls_behind F ls f.end (drop m ks) (map function_view (drop m fs))) n
    ∙ ap (λ cs. cs ++ behind) grown ∙ append_assoc old own behind ∙ ap (λ cs. old ++ cs) (sym (behind_function F ls before ks fs f i at)) ∙ before_it

-- if there is a caller, and if not
pub called_by_one : (F : List FunctionTree) (ls : List Labelled) (before end i k : ℕ) (ks : List ℕ) (old new : List Call) → slice_get ks i ≡ Some k
    → new ≡ old ++ calls_by F k (called_names (labels_between ls before end)) → new ≡ old ++ own_calls F ls before end (slice_get ks i)
called_by_one F ls before end i k ks old new at grown = grown ∙ ap (λ o. old ++ own_calls F ls before end o) (sym at)

pub called_by_none : (F : List FunctionTree) (ls : List Labelled) (before end i : ℕ) (ks : List ℕ) (old : List Call) → slice_get ks i ≡ None
    → old ≡ old ++ own_calls F ls before end (slice_get ks i)
called_by_none F ls before end i ks old at = sym (ap (λ o. old ++ own_calls F ls before end o) at ∙ append-nil old)

-- of the labels of a source -------------------------------------------------------------------------------------------

between : (front here rest : List Labelled) (end : ℕ) → end ≡ length front + length here → labels_between (front ++ (here ++ rest)) (length front) end ≡ here
between front here rest end e =
    let n : end - length front ≡ length here = omega (arith, e) in
    ap (λ ls. take (end - length front) ls) (drop-append_seam front (here ++ rest)) ∙ ap (λ m. take m (here ++ rest)) n ∙ take-append_seam here rest

-- the calls of one function, and then others
one_function : (F : List FunctionTree) (f : FunctionTree) (xs : List Identifier) (cs : List (List ℕ × Identifier))
    → calls_among F (map (λ (x : Identifier). (f.name.word, x)) xs ++ cs) ≡ calls_by F (function_place F f.name.word) xs ++ calls_among F cs
one_function F f [] cs = refl
one_function F f (x ∷ xs) cs =
    let first = option_to_list (call_of F (function_place F f.name.word) x) in
    ap (λ ys. first ++ ys) (one_function F f xs cs) ∙ sym (append_assoc first (calls_by F (function_place F f.name.word) xs) (calls_among F cs))

-- where the first function of its name stands
abbrev place_in : List FunctionTree → FunctionTree → ℕ
place_in F f = function_place F f.name.word

read_from : (F : List FunctionTree) (outside : List SymbolEntry) (front : List Labelled) (ps : List ExternalTree)
    → calls_behind F (front ++ flat_map function_labels (functions_in ps)) (length front) (map (place_in F) (functions_in ps)) (resolve_parts F outside (suc (length front)) ps)
    ≡ calls_among F (calls_in (functions_in ps))
read_from F outside front [] = refl
read_from F outside front (prototype ∷ ps) = read_from F outside front ps
read_from F outside front (globals g ∷ ps) = read_from F _ front ps
read_from F outside front (function f ∷ ps) =
    let k = function_place F f.name.word in
    let here = function_labels f in
    let rest = flat_map function_labels (functions_in ps) in
    let ks = map (place_in F) (functions_in ps) in
    let end = suc (length front) + items_count f.body in
    let start = suc (length front) + suc (items_count f.body) in
    let count : length here ≡ suc (items_count f.body) = count_items _ f.body f.end in
    let whole = length-append front here in
    let end_is : end ≡ length (front ++ here) = omega (arith, count, whole) in
    let start_is : start ≡ suc (length (front ++ here)) = omega (arith, count, whole) in
    let others : calls_behind F (front ++ (here ++ rest)) end ks (resolve_parts F outside start ps) ≡ calls_among F (calls_in (functions_in ps)) =
    ap (λ ls. calls_behind F ls end ks (resolve_parts F outside start ps)) (sym (append_assoc front here rest))
    ∙ ap (λ n. calls_behind F ((front ++ here) ++ rest) n ks (resolve_parts F outside start ps)) end_is
    ∙ ap (λ n. calls_behind F ((front ++ here) ++ rest) (length (front ++ here)) ks (resolve_parts F outside n ps)) start_is
    ∙ read_from F outside (front ++ here) ps in
    ap (λ ls. calls_by F k (called_names ls) ++ calls_behind F (front ++ (here ++ rest)) end ks (resolve_parts F outside start ps)) (between front here rest end (end_is ∙ whole))
    ∙ ap (λ cs. calls_by F k (calls_of f) ++ cs) others ∙ sym (one_function F f (calls_of f) (calls_in (functions_in ps)))

pub calls_read : (t : FileTree) (functions : List program.Function) (labels : List Labelled) (calls : List Call) → functions ≡ resolved_functions t
    → labels ≡ labels_of t
    → calls ≡ calls_behind (functions_of t) labels 0 (first_places (functions_of t) (functions_of t)) functions
    → calls ≡ calls_among (functions_of t) (calls_in (functions_of t))
calls_read t functions labels calls resolved labelled read =
    read ∙ ap (λ ls. calls_behind (functions_of t) ls 0 (first_places (functions_of t) (functions_of t)) functions) labelled
    ∙ ap (λ fs. calls_behind (functions_of t) (labels_of t) 0 (first_places (functions_of t) (functions_of t)) fs) resolved
    ∙ ap (λ ks. calls_behind (functions_of t) (labels_of t) 0 ks (resolved_functions t)) (known_places (functions_of t) (functions_of t) (λ f inside. inside))
    ∙ read_from (functions_of t) [] [] t.parts

-- as many functions of the program as of the source
functions_count : (F : List FunctionTree) (outside : List SymbolEntry) (n : ℕ) (ps : List ExternalTree) →
    length (resolve_parts F outside n ps) ≡ length (functions_in ps)
functions_count F outside n [] = refl
functions_count F outside n (prototype ∷ ps) = functions_count F outside n ps
functions_count F outside n (globals g ∷ ps) = functions_count F _ n ps
functions_count F outside n (function f ∷ ps) = ap suc (functions_count F outside (n + suc (items_count f.body)) ps)

pub resolved_count : (t : FileTree) (functions : List program.Function) → functions ≡ resolved_functions t → length functions ≡ length (functions_of t)
resolved_count t functions resolved = ap length resolved ∙ functions_count (functions_of t) [] 1 t.parts
