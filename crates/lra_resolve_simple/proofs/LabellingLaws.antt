-- What parts of a source add to its labels, one after the other.
use Rattle.std.proofs.Common.{◌≡◌, ℕ, suc, ◌+◌, ◌<◌, List, [], ◌∷◌, ◌++◌, length, map, take, get_or, refl, sym, ap, ◌∙◌, append_assoc, append-nil, subst, arith, Option, rules}
use Rattle.std.proofs.{Math.Seq.take-length, lemmas.Grind.flat_map-append, lemmas.List.map_more, lemmas.List.take-append-le}
use Rattle.std.specs.List.{flat_map}
use Rattle.lra_base.specs.declared.refusals.Place.{Place}
use Rattle.lra_syntax.specs.Labels.{Labelled, plain_label, names_of, with_names, called_for, declarator_labels, init_labels, step_labels, stmt_labels, items_labels, live_in_for}
use Rattle.lra_syntax.specs.Trees.{AssignTree, DeclaratorTree, InitTree, no_init, declared, assigned, ItemsTree, no_items, declaration, statement, FunctionTree}
use Rattle.lra_syntax.specs.Views.{item_view, declaration_view, stmt_view}
use Rattle.lra_syntax.specs.{declared.trees.BlockItem.BlockItem, declared.trees.BlockItem.the_lemmas, declared.trees.Declaration.Declaration, declared.trees.Stmt.Stmt}
use Rattle.lra_syntax.specs.declared.trees.BlockItem as code_item
use Rattle.lra_resolve_simple.specs.Crates.lra_resolution_spec.LabelTable.{with_live}
use Rattle.lra_resolve_simple.specs.Labelling.{LabelsSoFar, Adds, Declares, ExtendsNames, Follows, Fills, for_front}

-- further labels -------------------------------------------------------------------------------------------------------

pub adds_none : (a : LabelsSoFar) → Adds a a []
adds_none a = record { labels = sym (append-nil a.labels); live = refl }

-- the second labels are those of the names that live
pub adds_then : (a b c : LabelsSoFar) (xs : List Labelled) (F : List (List ℕ) → List Labelled) → Adds a b xs → Adds b c (F b.live) → Adds a c (xs ++ F a.live)
adds_then a b c xs F x y = record {
  labels = y.labels ∙ ap (λ (ls : List Labelled). ls ++ F b.live) x.labels ∙ append_assoc a.labels xs (F b.live) ∙ ap (λ (ns : List (List ℕ)). a.labels ++ (xs ++ F ns)) x.live;
  live = y.live ∙ x.live;
}

-- declarators ----------------------------------------------------------------------------------------------------------

names_of_more : (live : List (List ℕ)) (d : DeclaratorTree) (ds : List DeclaratorTree) → with_names (live ++ names_of d) ds ≡ with_names live (d ∷ ds)
names_of_more live d ds = append_assoc live (names_of d) (flat_map names_of ds)

labels_of_last : (live : List (List ℕ)) (ds : List DeclaratorTree) (d : DeclaratorTree)
    → declarator_labels live (ds ++ d ∷ []) ≡ declarator_labels live ds ++ declarator_labels (with_names live ds) (d ∷ [])
labels_of_last live [] d = ap (λ (x : List (List ℕ)). declarator_labels x (d ∷ [])) (sym (append-nil live))
labels_of_last live (x ∷ xs) d =
    let more : List (List ℕ) = live ++ names_of x in
    ap (λ (ls : List Labelled). record { place = x.name.place; called = called_for x.shape; live = live; live_in_call = more } ∷ ls)
    (labels_of_last more xs d ∙ ap (λ (ns : List (List ℕ)). declarator_labels more xs ++ declarator_labels ns (d ∷ [])) (names_of_more live x xs))

names_of_last : (live : List (List ℕ)) (ds : List DeclaratorTree) (d : DeclaratorTree) → with_names live (ds ++ d ∷ []) ≡ with_names (with_names live ds) (d ∷ [])
names_of_last live ds d =
    ap (λ (x : List (List ℕ)). live ++ x) (flat_map-append names_of ds (d ∷ []))
    ∙ sym (append_assoc live (flat_map names_of ds) (flat_map names_of (d ∷ [])))

pub declares_last : (a b c : LabelsSoFar) (ds : List DeclaratorTree) (d : DeclaratorTree) → Declares a b ds → Declares b c (d ∷ []) → Declares a c (ds ++ d ∷ [])
declares_last a b c ds d x y = record {
  labels = y.labels ∙ ap (λ (ls : List Labelled). ls ++ declarator_labels b.live (d ∷ [])) x.labels
      ∙ append_assoc a.labels (declarator_labels a.live ds) (declarator_labels b.live (d ∷ []))
      ∙ ap (λ (ns : List (List ℕ)). a.labels ++ (declarator_labels a.live ds ++ declarator_labels ns (d ∷ []))) x.live
      ∙ ap (λ (ls : List Labelled). a.labels ++ ls) (sym (labels_of_last a.live ds d));
  live = y.live ∙ ap (λ (ns : List (List ℕ)). with_names ns (d ∷ [])) x.live ∙ sym (names_of_last a.live ds d);
}

-- a first declarator, and some of the others: one more of them
pub declares_step : {X : Type 0} (view : X → DeclaratorTree) (xs : List X) (i : ℕ) (x : X) (first : DeclaratorTree) (a b c : LabelsSoFar) → i < length xs → x ≡ get_or xs i x
    → Declares a b (first ∷ map view (take i xs)) → Declares b c (view x ∷ []) → Declares a c (first ∷ map view (take (i + 1) xs))
declares_step view xs i x first a b c h is so one =
    let more : first ∷ map view (take (i + 1) xs) ≡ (first ∷ map view (take i xs)) ++ view x ∷ [] =
    ap (λ (ds : List DeclaratorTree). first ∷ ds) (map_more view xs i x h ∙ ap (λ y. map view (take i xs) ++ view y ∷ []) (sym is)) in
    subst (λ (ds : List DeclaratorTree). Declares a c ds) (sym more) (declares_last a b c (first ∷ map view (take i xs)) (view x) so one)

-- a `for` --------------------------------------------------------------------------------------------------------------

-- its own label, and how it begins; then its own label gets the names that it declares
pub begun : (a b c d : LabelsSoFar) (at : Place) (i : InitTree) → Adds a b (plain_label at a.live ∷ [])
    → c.labels ≡ b.labels ++ init_labels b.live i → c.live ≡ live_in_for b.live i
    → ((front rest : List Labelled) (l : Labelled) → c.labels ≡ front ++ l ∷ rest → suc (length a.labels) ≡ suc (length front) → d.labels ≡ front ++ with_live l c.live ∷ rest)
    → d.live ≡ c.live
    → (d.labels ≡ a.labels ++ (plain_label at (live_in_for a.live i) ∷ init_labels a.live i)) × (d.live ≡ live_in_for a.live i)
begun a b c d at i own labels live again same =
    let inside : c.live ≡ live_in_for a.live i = live ∙ ap (λ (ns : List (List ℕ)). live_in_for ns i) own.live in
    let all : c.labels ≡ a.labels ++ (plain_label at a.live ∷ init_labels a.live i) =
    labels ∙ ap (λ (ls : List Labelled). ls ++ init_labels b.live i) own.labels ∙ append_assoc a.labels (plain_label at a.live ∷ []) (init_labels b.live i)
    ∙ ap (λ (ns : List (List ℕ)). a.labels ++ (plain_label at a.live ∷ init_labels ns i)) own.live in
    (again a.labels (init_labels a.live i) (plain_label at a.live) all refl ∙ ap (λ (ns : List (List ℕ)). a.labels ++ (plain_label at ns ∷ init_labels a.live i)) inside, same ∙ inside)

-- and its step
pub fronted : (a d e : LabelsSoFar) (at : Place) (i : InitTree) (step : Option AssignTree)
    → (d.labels ≡ a.labels ++ (plain_label at (live_in_for a.live i) ∷ init_labels a.live i)) × (d.live ≡ live_in_for a.live i) → Adds d e (step_labels d.live step)
    → (e.labels ≡ a.labels ++ for_front at a.live i step) × (e.live ≡ live_in_for a.live i)
fronted a d e at i step before own = (
  own.labels ∙ ap (λ (ls : List Labelled). ls ++ step_labels d.live step) before.0
      ∙ append_assoc a.labels (plain_label at (live_in_for a.live i) ∷ init_labels a.live i) (step_labels d.live step)
      ∙ ap (λ (ns : List (List ℕ)). a.labels ++ (plain_label at (live_in_for a.live i) ∷ (init_labels a.live i ++ step_labels ns step))) before.1,
  own.live ∙ before.1,
)

left_of_front : (live more : List (List ℕ)) → take (length live) (live ++ more) ≡ live
left_of_front live more = take-append-le (length live) live more (omega arith) ∙ take-length live

pub left_of_for : (live : List (List ℕ)) (i : InitTree) → take (length live) (live_in_for live i) ≡ live
left_of_for live no_init = take-length live
left_of_for live (declared d) = left_of_front live (flat_map names_of (d.first ∷ d.rest))
left_of_for live (assigned a) = take-length live

-- items ----------------------------------------------------------------------------------------------------------------

pub lives_on : (live : List (List ℕ)) → ExtendsNames live live
lives_on live = record { more = []; is = sym (append-nil live) }

lives_then : (a b c : List (List ℕ)) → ExtendsNames a b → ExtendsNames b c → ExtendsNames a c
lives_then a b c x y = record {
  more = x.more ++ y.more;
  is = y.is ∙ ap (λ (ns : List (List ℕ)). ns ++ y.more) x.is ∙ append_assoc a x.more y.more;
}

pub declaration_follows : (a b : LabelsSoFar) (item : BlockItem) (d : Declaration) → item ≡ code_item.Declaration d
    → Declares a b ((declaration_view d).first ∷ (declaration_view d).rest) → Follows a b (item_view item)
declaration_follows a b item d is h =
    let view : (rest : ItemsTree) → item_view item rest ≡ declaration (declaration_view d) rest = λ rest.
    let v : item_view (code_item.Declaration d) rest ≡ declaration (declaration_view d) rest = search (rules, the_lemmas) in rw (is, v) refl in
    let ds : List DeclaratorTree = (declaration_view d).first ∷ (declaration_view d).rest in
    record {
      labels = λ rest end. ap (λ (ls : List Labelled). ls ++ items_labels b.live rest end) h.labels ∙ append_assoc a.labels (declarator_labels a.live ds) (items_labels b.live rest end)
          ∙ ap (λ (ns : List (List ℕ)). a.labels ++ (declarator_labels a.live ds ++ items_labels ns rest end)) h.live
          ∙ ap (λ (items : ItemsTree). a.labels ++ items_labels a.live items end) (sym (view rest));
      live = record { more = flat_map names_of ds; is = h.live };
    }

pub statement_follows : (a b : LabelsSoFar) (item : BlockItem) (t : Stmt) → item ≡ code_item.Statement t → Adds a b (stmt_labels a.live (stmt_view t)) → Follows a b (item_view item)
statement_follows a b item t is h =
    let view : (rest : ItemsTree) → item_view item rest ≡ statement (stmt_view t) rest = λ rest.
    let v : item_view (code_item.Statement t) rest ≡ statement (stmt_view t) rest = search (rules, the_lemmas) in rw (is, v) refl in
    record {
      labels = λ rest end. ap (λ (ls : List Labelled). ls ++ items_labels b.live rest end) h.labels
          ∙ append_assoc a.labels (stmt_labels a.live (stmt_view t)) (items_labels b.live rest end)
          ∙ ap (λ (ns : List (List ℕ)). a.labels ++ (stmt_labels a.live (stmt_view t) ++ items_labels ns rest end)) h.live
          ∙ ap (λ (items : ItemsTree). a.labels ++ items_labels a.live items end) (sym (view rest));
      live = record { more = []; is = h.live ∙ sym (append-nil a.live) };
    }

-- what is left of items follows what is there so far
pub record LeadsOn (a b : LabelsSoFar) (all left : ItemsTree) : Type 0 where
  pub labels : (end : Place) → b.labels ++ items_labels b.live left end ≡ a.labels ++ items_labels a.live all end
  pub live : ExtendsNames a.live b.live

pub reaches_none : (a : LabelsSoFar) (all : ItemsTree) → LeadsOn a a all all
reaches_none a all = record { labels = λ end. refl; live = lives_on a.live }

pub reaches_step : (a b c : LabelsSoFar) (all left rest : ItemsTree) (f : ItemsTree → ItemsTree) → left ≡ f rest → LeadsOn a b all left → Follows b c f → LeadsOn a c all rest
reaches_step a b c all left rest f is so one = record {
  labels = λ end. one.labels rest end ∙ ap (λ (items : ItemsTree). b.labels ++ items_labels b.live items end) (sym is) ∙ so.labels end;
  live = lives_then a.live b.live c.live so.live one.live;
}

pub reaches_all : (a b : LabelsSoFar) (all left items : ItemsTree) → left ≡ no_items → items ≡ all → LeadsOn a b all left → Fills a b items
reaches_all a b all left items none is so = record {
  labels = λ end. sym (ap (λ (x : ItemsTree). b.labels ++ items_labels b.live x end) none) ∙ so.labels end
      ∙ ap (λ (x : ItemsTree). a.labels ++ items_labels a.live x end) (sym is);
  live = so.live;
}

-- the end of a block, which is left
pub blocks : (a b c d : LabelsSoFar) (items : ItemsTree) (end : Place) (count : ℕ) → Fills a b items → Adds b c (plain_label end b.live ∷ [])
    → count ≡ length a.live → d.live ≡ take count c.live → d.labels ≡ c.labels → Adds a d (items_labels a.live items end)
blocks a b c d items end count so last counted left same = record {
  labels = same ∙ last.labels ∙ so.labels end;
  live = left ∙ ap (λ (n : ℕ). take n c.live) counted ∙ ap (λ (ns : List (List ℕ)). take (length a.live) ns) (last.live ∙ so.live.is) ∙ left_of_front a.live so.live.more;
}

-- a function: its parameters, its body and its end
pub function_labelled : (a b c d : LabelsSoFar) (f : FunctionTree) (live : List (List ℕ)) → b.labels ≡ a.labels → b.live ≡ live → Fills b c f.body → Adds c d (plain_label f.end c.live ∷ [])
    → d.labels ≡ a.labels ++ items_labels live f.body f.end
function_labelled a b c d f live same lives so last =
    last.labels ∙ so.labels f.end ∙ ap (λ (ls : List Labelled). ls ++ items_labels b.live f.body f.end) same ∙ ap (λ (ns : List (List ℕ)). a.labels ++ items_labels ns f.body f.end) lives
