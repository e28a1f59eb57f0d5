-- Items one after the other: what each of them does to those after it, and what is written of all of them so far.
use Rattle.std.proofs.Common.{◌≡◌, ℕ, suc, List, [], ◌∷◌, ◌++◌, length, map, false, refl, sym, ap, ◌∙◌, subst}
use Rattle.lra_program.specs.Program as program
use Rattle.lra_program.specs.Sites.{Site, plain_site, live_after_items, stmt_events, given_events, items_events}
use Rattle.lra_program.specs.{Program.no_more, Program.declaration, Program.array, Program.statement, ProgramViews.item_view, ProgramViews.items_of, Step.fill, declared.arrays.Array.Array}
use Rattle.lra_operations.specs.{Tree.Node, Tree.empty, Tree.seq, Tree.point, Tree.act, TreeViews.node_view, TreeViews.row}
use Rattle.lra_operations.specs.declared.tree.Node as code_node
use Rattle.lra_inline_steps.specs.Building.{inside, StmtStands, GivenStands, ItemsStand, ItemStands, WritesStmt, WritesDeclared, WritesItems, WritesItem, StopsItem}
use Rattle.lra_inline_steps.specs.Stack.{Work, inline_task, a_stmt, a_declaration, an_array, all_items, ItemsLoop, IsInlineFrame, IsWritten, Stops}
use Rattle.lra_inline_steps.specs.{Limits.add_points, Limits.stopped, declared.frame.Frame.Frame, declared.points.Limit.Limit, declared.stack.ItemRow.ItemRow}
use Rattle.lra_inline_steps.specs.declared.stack.InlineContext.TheVariants as place
use Rattle.lra_inline_steps.proofs.Items.{declaration_at_given, declaration_at_others, array_at_point, array_at_others, statement_at_first, statement_at_others}
use Rattle.lra_inline_steps.proofs.Standing.{first_stands, others_stand, array_stands, declared_stands, behind_stand}
use Rattle.lra_inline_steps.proofs.Writing.{Pointed, site, none_written, statement_written, array_written, declaration_written}

-- one part more
row_last : (gs : List Node) (g h : Node) → row (gs ++ g ∷ []) h ≡ row gs (seq g h)
row_last [] g h = refl
row_last (y ∷ ys) g h = ap (λ z. seq y z) (row_last ys g h)

-- what an item does to those after it
abbrev Item : Type 0
Item = program.BlockItems → program.BlockItems

module _ (P : program.Program) (path : List ℕ) (r : Frame) (S : List Site) where
  module _ (d : program.Declarator) where
    pub declared_item : (V W : List Site) (q n : ℕ) (h g : Node) → q ≡ length S → n ≡ suc r.live → Pointed S (site P path r d.label r.live false) V →
        WritesDeclared P path r q V d.number_type d.rvalue h W
        → g ≡ seq (point q) h → WritesItem P path r S (declaration d) g n W
    declared_item V W q n h g number same at given form = record {
      live = λ b. ap (λ z. live_after_items z b) same;
      stands = λ b s. behind_stand P r n d b same s;
      writes = λ b k U w. declaration_written P path r S V W U q n d b h g k (seq g k) number same at given w form refl;
      stops = λ b x w. declaration_at_others P path r S (declaration d b) d b refl V n at same W x given.walked w;
    }

    pub given_stops : (V : List Site) (n : ℕ) → Pointed S (site P path r d.label r.live false) V → n ≡ suc r.live → (x : Limit)
        → add_points V (given_events (inside P path r) path n d.rvalue) ≡ stopped x → StopsItem P path r S (declaration d) x
    given_stops V n at same x h b = declaration_at_given P path r S (declaration d b) d b refl V n at same x h

    pub given_item_stands : (n : ℕ) → n ≡ suc r.live → ItemStands P r (declaration d) → GivenStands P (record r { live = n }) d.rvalue
    given_item_stands n same (b, s) = declared_stands P r n d b same s

  module _ (at : ℕ) (a : Array) where
    pub filled_item : (V : List Site) (q : ℕ) (h g : Node) → q ≡ length S → Pointed S (site P path r at r.live false) V → h ≡ act q (fill a)
        → g ≡ seq (point q) h
        → WritesItem P path r S (array at a) g r.live V
    filled_item V q h g number pointed form whole = record {
      live = λ b. refl;
      stands = λ b s. array_stands P r at a b s;
      writes = λ b k U w. array_written P path r S V U q at a b h g k (seq g k) number pointed w form whole refl;
      stops = λ b x w. array_at_others P path r S (array at a b) at a b refl V x pointed w;
    }

    pub array_stops : (x : Limit) → add_points S (plain_site path at r.live ∷ []) ≡ stopped x → StopsItem P path r S (array at a) x
    array_stops x h b = array_at_point P path r S (array at a b) at a b refl x h

  module _ (a : program.Stmt) where
    stated_item : (V : List Site) (g : Node) → WritesStmt P path r S a g V → WritesItem P path r S (statement a) g r.live V
    stated_item V g first = record {
      live = λ b. refl;
      stands = λ b s. others_stand P r a b s;
      writes = λ b k U w. statement_written P path r S V U a b g k (seq g k) first w refl;
      stops = λ b x w. statement_at_others P path r S (statement a b) a b refl V x first.walked w;
    }

    stated_stops : (x : Limit) → add_points S (stmt_events (inside P path r) path r.live a) ≡ stopped x → StopsItem P path r S (statement a) x
    stated_stops x h b = statement_at_first P path r S (statement a b) a b refl x h

    stated_item_stands : ItemStands P r (statement a) → StmtStands P r a
    stated_item_stands (b, s) = first_stands P r a b s

-- all of them so far -------------------------------------------------------------------------------------------------------

module _ (P : program.Program) (path : List ℕ) (r : Frame) (S : List Site) (all : program.BlockItems) where
  pub items_begin : (gs : List code_node.Node) → gs ≡ [] → ItemsStand P r all → ItemsLoop P path r S all all (map node_view gs) r.live S
  items_begin gs none s = subst (λ (z : List code_node.Node). ItemsLoop P path r S all all (map node_view z) r.live S) (sym none)
      (record { live = refl; stands = s; writes = λ h U w. w; stops = λ x w. w })

  module _ (rest : program.BlockItems) (gs : List Node) (n : ℕ) (V : List Site) (loop : ItemsLoop P path r S all rest gs n V) where
    module _ (item : Item) (others : program.BlockItems) (is : rest ≡ item others) where
      pub item_stands : ItemStands P (record r { live = n }) item
      item_stands = (others, subst (λ z. ItemsStand P (record r { live = n }) z) is loop.stands)

      pub item_stopped : (x : Limit) → StopsItem P path (record r { live = n }) V item x →
          add_points S (items_events (inside P path r) path r.live all) ≡ stopped x
      item_stopped x h = loop.stops x (subst (λ z. add_points V (items_events (inside P path r) path n z) ≡ stopped x) (sym is) (h others))

      pub items_step : (g : Node) (n' : ℕ) (V' : List Site) → WritesItem P path (record r { live = n }) V item g n' V' → ItemsLoop P path r S all others (gs ++ g ∷ []) n' V'
      items_step g n' V' w = record {
        live = w.live others ∙ ap (λ z. live_after_items n z) (sym is) ∙ loop.live;
        stands = w.stands others (subst (λ z. ItemsStand P (record r { live = n }) z) is loop.stands);
        writes = λ h U k. subst (λ z. WritesItems P path r S all z U) (sym (row_last gs g h))
            (loop.writes (seq g h) U (subst (λ z. WritesItems P path (record r { live = n }) V z (seq g h) U) (sym is) (w.writes others h U k)));
        stops = λ x h. loop.stops x (subst (λ z. add_points V (items_events (inside P path r) path n z) ≡ stopped x) (sym is) (w.stops others x h));
      }

    module _ (none : rest ≡ no_more) where
      pub items_last : n ≡ live_after_items r.live all
      items_last = sym (ap (λ z. live_after_items n z) none) ∙ loop.live

      pub items_end : WritesItems P path r S all (row gs empty) V
      items_end = loop.writes empty V (subst (λ z. WritesItems P path (record r { live = n }) V z empty V) (sym none) (none_written P path (record r { live = n }) V))

  -- the next of them is under way
  module _ (x : ItemRow) (rest : program.BlockItems) (n : ℕ) (V : List Site) (loop : ItemsLoop P path r S all rest (map node_view x.parts.items) n V) where
    abbrev others : program.BlockItems
    others = items_of (map item_view x.rest.now)

    abbrev here : Frame
    here = record r { live = n }

    -- by what must hold for the item, and for what is under way
    item_next : (item : Item) (w : Work) →
        ((g : Node) (m : ℕ) (U : List Site) → IsWritten P (inline_task w path here V) g m U → WritesItem P path here V item g m U)
        → ((l : Limit) → Stops P (inline_task w path here V) l → StopsItem P path here V item l) → rest ≡ item others
        → IsInlineFrame P (inline_task (all_items all) path r S) (inline_task w path here V) (record { frame = r; place = place.Items x })
        × ItemStands P here item
    item_next item w written stops is = (
      record {
        frame = refl;
        path = refl;
        continues = record {
          all = all;
          is = refl;
          writes = λ g m U y. items_step rest (map node_view x.parts.items) n V loop item others is g m U (written g m U y);
        };
        stops = λ l h. item_stopped rest (map node_view x.parts.items) n V loop item others is l (stops l h);
      },
      item_stands rest (map node_view x.parts.items) n V loop item others is,
    )

    pub declaration_next : (d : program.Declarator) → rest ≡ declaration d others
        → IsInlineFrame P (inline_task (all_items all) path r S) (inline_task (a_declaration d) path here V) (record { frame = r; place = place.Items x })
        × ItemStands P here (declaration d)
    declaration_next d is = item_next (declaration d) (a_declaration d) (λ g m U w. w) (λ l h. h) is

    pub array_next : (at : ℕ) (a : Array) → rest ≡ array at a others
        → IsInlineFrame P (inline_task (all_items all) path r S) (inline_task (an_array at a) path here V) (record { frame = r; place = place.Items x })
        × ItemStands P here (array at a)
    array_next at a is = item_next (array at a) (an_array at a) (λ g m U w. w) (λ l h. h) is

    pub statement_next : (s : program.Stmt) → rest ≡ statement s others
        → IsInlineFrame P (inline_task (all_items all) path r S) (inline_task (a_stmt s) path here V) (record { frame = r; place = place.Items x })
        × StmtStands P here s
    statement_next s is =
        let (o, stands) = item_next (statement s) (a_stmt s)
        (λ g m U w. subst (λ z. WritesItem P path here V (statement s) g z U) (sym w.1) (stated_item P path here V s U g w.0))
        (λ l h. stated_stops P path here V s l h) is in
        (o, stated_item_stands P path here V s stands)
